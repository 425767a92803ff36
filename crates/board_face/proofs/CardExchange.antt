-- Which holdings end and begin by each step of the card.
pub use Rattle.board_face.proofs.Weighing.{sides}
use Rattle.board_face.proofs.{Sums.{filter-case}, Parts.{total-exchange}, EndedWeights.{stretch, owed-moves, returning-moves}}
use Rattle.std.proofs.Common.{◌≡◌, ◌∙◌, ℕ, ◌+◌, ◌-◌, ◌≤◌, Bool, true, false, List, [], ◌∷◌, ◌++◌, length, drop, take, if◌then◌else◌}
use Rattle.std.{proofs.{Common.{refl, sym, ap, arith, subst, ⊎_elim}, lemmas.List.{map-id, Elements.{filter-append}}}, specs.Prelude.{◌==◌, ◌≢◌, filter}}
use Rattle.zr_kinds.{specs.declared.{place.{Place.{Place}, Note.{Note}}, ring.Rqe.{Rqe}}}
use Rattle.board_face.specs.{Lists.{without, same_place}, Tokens.{filled_by, next_place, same_filling}}
use Rattle.board_face.specs.{Holders.{on_way, ended_in, owed_in, returning_in, returned_in, returning_count}, Laws.{AllSides, by_card}, NicCalls.{HasOwn, HasPiece}}
use Rattle.board_face.specs.Holders as holders
use Rattle.board_face.specs.{NicEvents.{fresh, sent, sent_linear, passed_over, text_at, honoured}, Sides.{nic_at, IsApp, AreNumbered, side_in}}
use Rattle.board_face.specs.declared.views.{parts.Filling.{Filling}, nic.{SentNote.{SentNote}, PlacedText.{PlacedText}, NicView.{NicView}, NicSide.{NicSide}}}
use Rattle.board_face.{specs.declared.views.app.AppSide.{AppSide}, proofs.ListLemmas.{same_place-refl, same_filling-refl, same_place-is, same_filling-is}}
use Rattle.board_face.proofs.{Parts.{total-shift}, WayLemmas.{drop-push, sent_to-other, sent_to-same, honoured-other, honoured-target, ended_in-passed_over}}
use Rattle.std.proofs.lemmas.Bool.Decides.{eqb_tells}
use Rattle.board_face.proofs.{Tallies.{total, total-append, total-agree}, Sums.{total-push, total-without}}
use Rattle.board_face.specs.BoardSteps.{CardStep, takes, places, sends, sends_linear, shuts, honours, strays, card_view, CardCan}
use Rattle.board_face.specs.Holdings.{Hold, own, piece, owed, returning, sent_to, here, weight_in, card_weight, app_weight, weigh, card_ends, card_begins}

pub here-same : (b c m n : ℕ) → (c ≡ b → m ≡ n) → here b c m ≡ here b c n
here-same b c m n same =
    ⊎_elim (λ t. ap (here b c) (same t.1)) (λ t. ap (λ d. if d then m else 0) t.0 ∙ sym (ap (λ d. if d then n else 0) t.0)) (eqb_tells c b)

-- a step that sends nothing and deals with nothing
alone : (s : AllSides) (v : NicView) → v.sent ≡ s.nic.view.sent → v.dealt ≡ s.nic.view.dealt → (w : Hold → ℕ) (b : ℕ)
    → weigh w b (by_card s v) + card_weight w b s.nic ≡ weigh w b s + card_weight w b (nic_at s.nic v)
alone s v sents deals w b =
    let same : total (app_weight w b (nic_at s.nic v)) s.apps ≡ total (app_weight w b s.nic) s.apps = rw (sents, deals) refl in omega (arith, same)

pub owns-less : (s : AllSides) (it : Filling) → HasOwn s.nic.view it → (g : Filling → ℕ)
    → total g (without (same_filling it) s.nic.view.owns) + g it ≡ total g s.nic.view.owns
owns-less s it out g =
    total-without (λ o. o) (same_filling it) it (same_filling-is it) (same_filling-refl it) g s.nic.view.owns (rw (map-id s.nic.view.owns) out)

-- ---- sending

way-push : (g : SentNote → ℕ) (notes : List SentNote) (x : SentNote)
    → total g (filter (λ (n : SentNote). n.note.split) (notes ++ x ∷ []))
    ≡ total g (filter (λ (n : SentNote). n.note.split) notes) + (if x.note.split then g x else 0)
way-push g notes x =
    let split : SentNote → Bool = λ n. n.note.split in
    omega (
      arith,
      ap (total g) (filter-append split notes (x ∷ [])),
      total-append g (filter split notes) (filter split (x ∷ [])),
      filter-case g x.note.split x [] 0 refl,
    )

-- what a note that was sent weighs
abbrev note_weight : (Hold → ℕ) → ℕ → ℕ → Note → ℕ
note_weight w b a note = if note.split then here b note.place.buffer (w (sent_to a note.place)) else 0

module _ (nic : NicSide) (apps : List AppSide) (numbered : AreNumbered 0 apps) (app : AppSide) (x : SentNote) (at : IsApp apps x.app app)
    (within : length app.view.taken ≤ length (holders.sent_to x.app nic)) (v : NicView)
    (sents : v.sent ≡ nic.view.sent ++ x ∷ []) (deals : v.dealt ≡ nic.view.dealt) (w : Hold → ℕ) (b : ℕ) where
  abbrev nic_then : NicSide
  nic_then = nic_at nic v

  sent-other : (y : AppSide) → y.view.app ≢ x.app → app_weight w b nic_then y ≡ app_weight w b nic y
  sent-other y other = rw (sents, deals, sent_to-other y.view.app nic.view.sent x (λ e. other (sym e))) refl

  sent-target : app_weight w b nic_then app ≡ app_weight w b nic app + note_weight w b x.app x.note
  sent-target =
      let n = app.view.app in
      let g : SentNote → ℕ = λ y. here b y.note.place.buffer (w (sent_to n y.note.place)) in
      let within_here : length app.view.taken ≤ length (holders.sent_to n nic) = rw at.number within in
      let way : drop (length app.view.taken) (filter (λ (y : SentNote). y.app == n) (nic.view.sent ++ x ∷ [])) ≡ on_way nic app ++ x ∷ [] =
      ap (drop (length app.view.taken)) (sent_to-same n nic.view.sent x (sym at.number))
      ∙ drop-push (length app.view.taken) (holders.sent_to n nic) x within_here in
      let notes = ap (λ ns. total g (filter (λ (y : SentNote). y.note.split) ns)) way ∙ way-push g (on_way nic app) x in
      let own : (if x.note.split then g x else 0) ≡ note_weight w b x.app x.note = ap (λ k. note_weight w b k x.note) at.number in
      rw (sents, deals) (omega (arith, notes, own))

  sent-weighs : total (app_weight w b nic_then) apps ≡ total (app_weight w b nic) apps + note_weight w b x.app x.note
  sent-weighs =
      total-shift 0 (app_weight w b nic_then) (app_weight w b nic) (note_weight w b x.app x.note) x.app sent-other apps numbered x.app app at.there
      (omega arith) (rw at.is sent-target)

-- a piece that is sent is on its way from now on
pub sent-exchange : (nic : NicSide) (apps : List AppSide) (a : ℕ) (note : Note) (app : AppSide) → HasPiece nic.view note.place → note.split ≡ true
    → AreNumbered 0 apps → IsApp apps a app → length app.view.taken ≤ length (holders.sent_to a nic) → (w : Hold → ℕ) (b : ℕ)
    → weigh w b (sides (nic_at nic (sent nic.view a note)) apps) + here b note.place.buffer (w (piece note.place))
    ≡ weigh w b (sides nic apps) + here b note.place.buffer (w (sent_to a note.place))
sent-exchange nic apps a note app out split numbered at within w b =
    let x : SentNote = record { app = a; note = note; bytes = text_at nic.view note.place } in
    let all = here b note.place.buffer (w (sent_to a note.place)) in
    let new : note_weight w b a note ≡ all = ap (λ c. if c then all else 0) split in
    omega (
      arith,
      new,
      sent-weighs nic apps numbered app x at within (sent nic.view a note) refl refl w b,
      total-without (λ (p : PlacedText). p.place) (same_place note.place) note.place (same_place-is note.place) (same_place-refl note.place)
          (λ p. here b p.buffer (w (piece p))) nic.view.pieces out,
    )

-- and a note in which its bytes travel holds nothing
pub linear-exchange : (nic : NicSide) (apps : List AppSide) (a : ℕ) (note : Note) (bytes : List ℕ) (app : AppSide) → note.split ≡ false
    → AreNumbered 0 apps → IsApp apps a app → length app.view.taken ≤ length (holders.sent_to a nic) → (w : Hold → ℕ) (b : ℕ)
    → weigh w b (sides (nic_at nic (sent_linear nic.view a note bytes)) apps) ≡ weigh w b (sides nic apps)
linear-exchange nic apps a note bytes app split numbered at within w b =
    let x : SentNote = record { app = a; note = note; bytes = bytes } in
    let all = here b note.place.buffer (w (sent_to a note.place)) in
    let none : note_weight w b a note ≡ 0 = ap (λ c. if c then all else 0) split in
    omega (arith, none, sent-weighs nic apps numbered app x at within (sent_linear nic.view a note bytes) refl refl w b)

-- ---- entries

module _ (nic : NicSide) (apps : List AppSide) (a c : ℕ) (entry : Rqe) (x : AppSide) (numbered : AreNumbered 0 apps) (at : IsApp apps a x)
    (small : returning_count c nic x ≤ ended_in c nic x) (w : Hold → ℕ) (b : ℕ) where
  abbrev pub first_owed : (Place → ℕ) → ℕ
  first_owed f = here b c (total f (take 1 (owed_in b nic x)))

  -- the first that is returning or owed
  abbrev pub first_back : (Place → ℕ) → ℕ
  first_back f = here b c (total f (take 1 (drop (ended_in b nic x - returning_count b nic x) (returned_in b x))))

  -- A loan is owed no more, but returning, and the first that is returning ends.
  pub honoured-exchange : weigh w b (sides (nic_at nic (honoured nic.view a entry c)) apps)
      + (first_owed (λ p. w (owed x.view.app p)) + first_back (λ p. w (returning x.view.app p)))
      ≡ weigh w b (sides nic apps) + first_owed (λ p. w (returning x.view.app p))
  honoured-exchange =
      let now = nic_at nic (honoured nic.view a entry c) in
      let f : Place → ℕ = λ p. w (owed x.view.app p) in
      let g : Place → ℕ = λ p. w (returning x.view.app p) in
      let h = ended_in b nic x in
      let r = returning_count b nic x in
      let n = here b c 1 in
      let ps = returned_in b x in
      let le : c ≡ b → r ≤ h = λ e. subst (λ m. returning_count m nic x ≤ ended_in m nic x) e small in
      let ends : ended_in b now x ≡ h + n = honoured-target b nic a c entry x at.number in
      let from : h + n - (r + n) ≡ h - r = omega arith in
      let mine : app_weight w b now x + (first_owed f + first_back g) ≡ app_weight w b nic x + first_owed g = omega (
        arith,
        ap (λ m. stretch f g m r ps) ends,
        owed-moves f g b c 1 h r ps (h + n) (r + n) le refl refl,
        returning-moves f g b c 1 (h + n) (r + n) ps r (λ e. let l = le e in omega (arith, l)) (omega arith),
        ap (λ m. here b c (total g (take 1 (drop m ps)))) from,
      ) in
      omega (
        arith,
        total-exchange 0 (app_weight w b now) (app_weight w b nic) (first_owed f + first_back g) (first_owed g) a
            (λ y other. let e : ended_in b now y ≡ ended_in b nic y = honoured-other b nic a c entry y other in rw e refl) apps numbered a x at.there
            (omega arith) (rw at.is mine),
      )

-- ---- all steps

pub card-exchange : (step : CardStep) (s : AllSides) → CardCan step s → (w : Hold → ℕ) (b : ℕ)
    → weigh w b (by_card s (card_view step s.nic.view)) + weight_in w b (card_ends step) ≡ weigh w b s + weight_in w b (card_begins step s.nic.view)
card-exchange (takes buffer) s can w b =
    omega (
      arith,
      alone s (card_view (takes buffer) s.nic.view) refl refl w b,
      total-push (λ (o : Filling). here b o.buffer (w (own o))) s.nic.view.owns (fresh s.nic.view.setting buffer),
    )
card-exchange (places it bytes) s can w b =
    let g : Filling → ℕ = λ o. here b o.buffer (w (own o)) in
    omega (
      arith,
      alone s (card_view (places it bytes) s.nic.view) refl refl w b,
      owns-less s it can g,
      total-push g (without (same_filling it) s.nic.view.owns) (filled_by it (length bytes)),
      total-push (λ (p : PlacedText). here b p.place.buffer (w (piece p.place))) s.nic.view.pieces
          (record { place = next_place it (length bytes); bytes = bytes }),
    )
card-exchange (sends a note) s can w b =
    let x = side_in s.apps a in
    omega (arith, sent-exchange s.nic s.apps a note x can.3 can.2 can.0.numbers can.1 (can.0.taken a x can.1) w b)
card-exchange (sends_linear a note bytes) s can w b =
    let x = side_in s.apps a in
    omega (arith, linear-exchange s.nic s.apps a note bytes x can.2 can.0.numbers can.1 (can.0.taken a x can.1) w b)
card-exchange (shuts it last) s can w b =
    omega (arith, alone s (card_view (shuts it last) s.nic.view) refl refl w b, owns-less s it can (λ o. here b o.buffer (w (own o))))
card-exchange (honours a entry p last) s can w b =
    let x = side_in s.apps a in
    let c = p.buffer in
    let f : Place → ℕ = λ q. w (owed x.view.app q) in
    let g : Place → ℕ = λ q. w (returning x.view.app q) in
    let owes : c ≡ b → owed_in b s.nic x ≡ p ∷ can.2.rest = λ e. subst (λ m. owed_in m s.nic x ≡ p ∷ can.2.rest) e can.2.owes in
    let idle : c ≡ b → returning_count b s.nic x ≡ 0 = λ e. subst (λ m. returning_count m s.nic x ≡ 0) e can.2.idle in
    omega (
      arith,
      honoured-exchange s.nic s.apps a c entry x can.0.numbers can.1 (can.0.ended a c x can.1).returning w b,
      here-same b c _ _ (λ e. let all = ap (λ qs. total f (take 1 qs)) (owes e) in let one : total f (p ∷ []) ≡ f p = omega arith in all ∙ one),
      here-same b c _ _ (λ e. ap (λ m. total g (take 1 (drop m (returned_in b x)))) (let none = idle e in
          let at : ended_in b s.nic x - returning_count b s.nic x ≡ ended_in b s.nic x = omega (arith, none) in at)),
      ap (λ n. here b c (w (owed n p))) can.1.number,
    )
card-exchange (strays a entry) s can w b =
    let nic = nic_at s.nic (passed_over s.nic.view a entry) in
    let same : (x : AppSide) → app_weight w b nic x ≡ app_weight w b s.nic x = λ x.
    let e : ended_in b nic x ≡ ended_in b s.nic x = ended_in-passed_over b s.nic a entry x in rw e refl in
    omega (arith, total-agree (app_weight w b nic) (app_weight w b s.nic) same s.apps)
card-exchange step s can w b = omega (arith, alone s (card_view step s.nic.view) refl refl w b)
