-- The notes to one application show its frames.
use Rattle.std.proofs.Common.{◌≡◌, ℕ, ◌+◌, ◌<◌, ◌≤◌, List, [], ◌∷◌, ◌++◌, length, filter, true, false, ◌==◌, Option, None, ⊎_elim, refl, sym, ap, subst, ◌∙◌}
use Rattle.std.proofs.lemmas.{Bool.{cases_Bool, cases_lt, eq-eqb, ne_eqb, eqb-true, eqb-false}, List.{append-nil, Elements.{filter-append}}}
use Rattle.board_face.specs.declared.views.nic.SentNote.{SentNote}
use Rattle.page_pool.specs.{Frames.{Offered, ShowRest, ShowsFrame, ShowFrames}, Pool.{all_notes}}
use Rattle.card_feed.specs.{Ending.{steered_in}, Offered.{offers_without, offers_of, AreSettled}, Account.{ClosedFeedsShow}}

-- all of these go to the frame's application
abbrev AreFor : ℕ → List SentNote → Type 0
AreFor app [] = Unit {0}
AreFor app (s ∷ ss) = (s.app ≡ app) × AreFor app ss

rest-for : (o : Offered) (at : ℕ) (notes : List SentNote) → ShowRest o at notes → AreFor o.app notes
rest-for o at [] show = tt
rest-for o at (s ∷ ss) show = (show.0.of_frame.app, rest-for o (at + s.note.place.len) ss show.1)

frame-for : (split : ℕ) (o : Offered) (notes : List SentNote) → ShowsFrame split o notes → AreFor o.app notes
frame-for split o notes shows = ⊎_elim
    (λ (long : split < length o.payload). rest-for o 0 notes (shows.long long))
    (λ (short : length o.payload ≤ split). let one = shows.short short in rw one.1 (one.2.of_frame.app, tt))
    (cases_lt split (length o.payload))

all-stay : (a : ℕ) (notes : List SentNote) → AreFor a notes → filter (λ s. s.app == a) notes ≡ notes
all-stay a [] are = refl
all-stay a (s ∷ notes) are = let mine = eq-eqb s.app a are.0 in rw mine (ap (λ others. s ∷ others) (all-stay a notes are.1))

all-go : (a app : ℕ) (notes : List SentNote) → (app == a) ≡ false → AreFor app notes → filter (λ s. s.app == a) notes ≡ []
all-go a app [] other are = refl
all-go a app (s ∷ notes) other are =
    let not_mine = ne_eqb s.app a (λ same. eqb-false app a other (sym are.0 ∙ same)) in
    rw not_mine (all-go a app notes other are.1)

pub shown-to : (split a : ℕ) (os : List Offered) (notes : List SentNote) → ShowFrames split os notes
    → ShowFrames split (filter (λ o. o.app == a) os) (filter (λ s. s.app == a) notes)
shown-to split a [] notes shows = rw shows refl
shown-to split a (o ∷ os) notes shows =
    let mine : List SentNote = shows.0 in
    let rest : List SentNote = shows.1 in
    let parts : notes ≡ mine ++ rest = shows.2 in
    let for_app : AreFor o.app mine = frame-for split o mine shows.3 in
    let later = shown-to split a os rest shows.4 in
    let both : filter (λ (s : SentNote). s.app == a) notes
    ≡ filter (λ (s : SentNote). s.app == a) mine ++ filter (λ (s : SentNote). s.app == a) rest =
    ap (filter (λ (s : SentNote). s.app == a)) parts ∙ filter-append (λ (s : SentNote). s.app == a) mine rest in
    ⊎_elim
    (λ (is : (o.app == a) ≡ true).
    let stay = all-stay a mine (subst (λ app. AreFor app mine) (eqb-true o.app a is) for_app) in
    rw is (mine, filter (λ (s : SentNote). s.app == a) rest, both ∙ ap (λ ns. ns ++ filter (λ (s : SentNote). s.app == a) rest) stay, shows.3, later))
    (λ (other : (o.app == a) ≡ false).
    let go = all-go a o.app mine other for_app in
    rw (other, both ∙ ap (λ ns. ns ++ filter (λ (s : SentNote). s.app == a) rest) go) later)
    (cases_Bool (o.app == a))

pub closed_show : {S : Type 0} (left : S → Option (List ℕ)) (faults : S → ℕ) → ClosedFeedsShow left faults
closed_show left faults first source ports split frames feed nic stands ready closed a =
    let none = ready.fits.sent closed in
    let settled : AreSettled split (offers_of (steered_in ports frames)) feed.refused None (all_notes feed.pool nic.view) =
    rw (ready.fits.none closed) at stands.knows.settled in
    let notes : all_notes feed.pool nic.view ≡ nic.view.sent = rw (none.short, none.pieces) (append-nil nic.view.sent) in
    shown-to split a (offers_without feed.refused (offers_of (steered_in ports frames))) nic.view.sent
    (subst (λ os. ShowFrames split (offers_without feed.refused os) nic.view.sent) settled.awaits
    (subst (λ ns. ShowFrames split (offers_without feed.refused settled.settled) ns) notes settled.shown))
