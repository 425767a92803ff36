use Rattle.std.{proofs.Common.{◌≡◌, refl}, specs.Prelude.{Result, Ok, Err, MatchResult}}
use Rattle.zr_kinds.specs.declared.place.Place.{Place}
use Rattle.board_face.specs.{AppCalls.{AppOnlySaw, HasLoan}, AppEvents.{gave}, declared.views.app.{AppLook.TheVariants.{RefillInUse}, AppView.{AppView}}}
use Rattle.zc_poll.{specs.{Standing.{Desk, StreamStands}, DeskOf.{desk_of}}, proofs.Keeping.{stands-gave, saw-stands}}
use Rattle.zc_poll.proofs.stream.LoanStream.give.Goals as goal

by-answer : {A : Type 0} (st : Desk) (old new : AppView) (loan : Place) (result : Result A Place) → StreamStands st old → HasLoan old loan
    → MatchResult result (λ _. new ≡ gave old loan) (λ back. (back ≡ loan) × AppOnlySaw RefillInUse old new) → StreamStands st new
by-answer st old new loan (Ok done) stands out is = stands-gave st old loan stands out new is
by-answer st old new loan (Err back) stands out is = saw-stands st old new RefillInUse is.1.event stands

pub returns-clause-stays : goal.returns-clause-stays
returns-clause-stays g c =
    let stands = rw (← c.self.view_is) at c.requires.holds.stands in
    let out = rw (← c.self.view_is) at c.requires.holds.out in
    rw (← c.self.view_is) (record {
      stands = by-answer (desk_of c.self.inside.state) (g.F.AppFace.seen c.self.inside.face) (g.F.AppFace.seen c.give.new.self) c.args.loan c.give.result
          stands out c.give.ensures.view;
      desk = refl;
    })
