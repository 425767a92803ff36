use Rattle.std.proofs.Common.{refl, ap, sym, ◌∙◌, arith, subst}
use Rattle.area_layout.specs.Layout.{IsLayout, pool_buffers}
use Rattle.board_face.specs.{AppCalls.{MaySpare}, Used.{PicksAreGiven}, AppEvents.{app_gist}}
use Rattle.word_board.{specs.{Board.{TheApp, TheBoard}, Told.{SawWithout, IsLowestSeen}}, proofs.Searching.{IsSearching-more, seen-more}}
use Rattle.word_board.proofs.kinds.spares.pick_listed.Goals as goal

pub loop-word-init : goal.loop-word-init
loop-word-init c = (
  refl,
  record { event = refl; seen = λ j small. absurd (omega (arith, small)) },
  λ j small. absurd (omega (arith, small)),
)

pub pick_in_word-requires-clause-may : goal.pick_in_word-requires-clause-may
pick_in_word-requires-clause-may c =
    let is = sym c.loop-word.invariant.1.event in
    let may = c.requires.may in
    record {
      sound = subst (λ (b : TheBoard). IsLayout b.setting.layout) (sym c.loop-word.invariant.0) may.sound;
      due = subst (λ x. MaySpare x.view) is may.due;
      given = subst PicksAreGiven is may.given;
    }

pub loop-word-preserved : goal.loop-word-preserved
loop-word-preserved c =
    let is = ap (λ (me : TheApp). me.side) c.in_default.ensures.event in (
      ap (λ (x : TheApp). x.board) c.in_default.ensures.event ∙ c.loop-word.invariant.0,
      IsSearching-more _ _ _ c.loop-word.word c.loop-word.invariant.1 is,
      seen-more c.args.app.now.board.setting (app_gist c.args.app.now.side.view) c.loop-word.word c.loop-word.invariant.2
          (subst (λ v. SawWithout c.args.app.now.board.setting v c.loop-word.word) (ap (λ x. app_gist x.view) c.loop-word.invariant.1.event)
          (subst (λ (b : TheBoard). SawWithout b.setting (app_gist c.loop-word.app.side.view) c.loop-word.word) c.loop-word.invariant.0 c.in_default.ensures.told)),
    )

pub returns-in-Some-clause-told : goal.returns-in-Some-clause-told
returns-in-Some-clause-told c =
    let gist = ap (λ x. app_gist x.view) c.loop-word.invariant.1.event in record {
      word = c.loop-word.word;
      before = c.loop-word.invariant.2;
      there = λ _. subst (λ v. IsLowestSeen c.args.app.now.board.setting v c.loop-word.word c.in-Some.buffer) gist
          (subst (λ (b : TheBoard). IsLowestSeen b.setting (app_gist c.loop-word.app.side.view) c.loop-word.word c.in-Some.buffer) c.loop-word.invariant.0 c.in-Some.ensures.told);
      nowhere = λ past. absurd (omega (arith, past, c.in-Some.ensures.event.1, ap (λ (b : TheBoard). pool_buffers b.setting.layout) c.loop-word.invariant.0));
    }

pub returns-clause-told : goal.returns-clause-told
returns-clause-told c = λ j small.
    c.loop-word.invariant.2 j (omega (arith, small, c.loop-word-test.false, c.loop-word.auto.word-end, c.requires.all))
