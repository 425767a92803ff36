-- Where holdings lie: what each event leaves of that.
use Rattle.std.proofs.{Common.{◌≡◌, ℕ, ◌<◌, true, false, List, [], ◌∷◌, length, map, set, sym, ◌∙◌, subst, inl}, lemmas.Bool.{false≢true}}
use Rattle.std.proofs.lemmas.List.Elements.{All-nil, All-set, All-push, All-append, All-cons, All-map, All-contains, All-get_or}
use Rattle.zr_kinds.specs.declared.place.{Place.{Place}, Note.{Note}}
use Rattle.area_layout.specs.Layout.{pool_buffers}
use Rattle.board_face.specs.{Lists.{same_place}, Tokens.{filled_by, next_place, same_filling}, Texts.{front_place, rest_place, further}}
use Rattle.board_face.specs.{NicEvents.{fresh, placed, text_at, sent, sent_linear}, NicCalls.{HasPiece}}
use Rattle.board_face.specs.AppEvents.{took_note, held_origin, helds_without, cut, released, lent, loan_origin, abandoned, got_spare, owns_without, filled}
use Rattle.board_face.specs.{AppEvents.{own_bytes, begin_place, lent_own}, AppCalls.{HasHeld, HasLoan, HasSpare}, Sides.{nic_at, IsApp}}
use Rattle.board_face.specs.{OwnBuffers.{IsOwnBuffer, CardLiesInPool, AppLiesInOwn, LieInOwn}, declared.views.{parts.Filling.{Filling}, nic.PlacedText.{PlacedText}}}
use Rattle.board_face.specs.declared.views.nic.{SentNote.{SentNote}, NicView.{NicView}, NicSide.{NicSide}}
use Rattle.board_face.specs.declared.views.app.{Origin.TheVariants.{Note as of_note, Copied as of_copy}, HeldPiece.{HeldPiece}, LentPiece.{LentPiece}}
use Rattle.board_face.{specs.declared.views.app.{SpareOwn.{SpareOwn}, AppView.{AppView}, AppSide.{AppSide}}, proofs.ListLemmas.{All-without}}

-- ---- the card's events

abbrev IsPieceOfPool : NicView → PlacedText → Type 0
IsPieceOfPool v p = p.place.buffer < pool_buffers v.setting.layout

abbrev IsNoteOfPool : NicView → SentNote → Type 0
IsNoteOfPool v s = s.note.split ≡ true → s.note.place.buffer < pool_buffers v.setting.layout

-- an event that leaves pieces and notes
pub LieInOwn-nic : (nic : NicSide) (v : NicView) (apps : List AppSide) → v.setting ≡ nic.view.setting → v.pieces ≡ nic.view.pieces
    → v.sent ≡ nic.view.sent → LieInOwn nic apps → LieInOwn (nic_at nic v) apps
LieInOwn-nic nic v apps setting pieces sents h = record {
  card = record { pieces = rw (setting, pieces) h.card.pieces; sent = rw (setting, sents) h.card.sent };
  sides = h.sides;
}

-- a text was placed, in a buffer of the pool
pub LieInOwn-placed : (nic : NicSide) (apps : List AppSide) (own : Filling) (bytes : List ℕ) → own.buffer < pool_buffers nic.view.setting.layout
    → LieInOwn nic apps → LieInOwn (nic_at nic (placed nic.view own bytes)) apps
LieInOwn-placed nic apps own bytes of_pool h = assumption (All-push (IsPieceOfPool nic.view) nic.view.pieces (record { place = next_place own (length bytes); bytes = bytes }) h.card.pieces of_pool)

-- a piece that is out lies in a buffer of the pool
piece-of_pool : (v : NicView) (place : Place) → HasPiece v place → CardLiesInPool v → place.buffer < pool_buffers v.setting.layout
piece-of_pool v place out h =
    let AreOfPool : Place → Type 0 = λ p. p.buffer < pool_buffers v.setting.layout in
    All-contains AreOfPool (map (λ (p : PlacedText). p.place) v.pieces) place (All-map AreOfPool (λ (p : PlacedText). p.place) v.pieces h.pieces) out

pub LieInOwn-sent : (nic : NicSide) (apps : List AppSide) (a : ℕ) (note : Note) → HasPiece nic.view note.place
    → LieInOwn nic apps → LieInOwn (nic_at nic (sent nic.view a note)) apps
LieInOwn-sent nic apps a note out h = assumption (All-without (IsPieceOfPool nic.view) (λ (p : PlacedText). same_place note.place p.place) nic.view.pieces h.card.pieces, All-push (IsNoteOfPool nic.view) nic.view.sent (record { app = a; note = note; bytes = text_at nic.view note.place }) h.card.sent (λ _. piece-of_pool nic.view note.place out h.card))

pub LieInOwn-sent_linear : (nic : NicSide) (apps : List AppSide) (a : ℕ) (note : Note) (bytes : List ℕ) → note.split ≡ false
    → LieInOwn nic apps → LieInOwn (nic_at nic (sent_linear nic.view a note bytes)) apps
LieInOwn-sent_linear nic apps a note bytes unsplit h = assumption (All-push (IsNoteOfPool nic.view) nic.view.sent (record { app = a; note = note; bytes = bytes }) h.card.sent (λ split. absurd (false≢true (sym unsplit ∙ split))))

-- ---- an application's events

-- an event of one application, after which its holdings lie so
pub LieInOwn-app : (nic : NicSide) (apps : List AppSide) (a : ℕ) (now : AppSide) → AppLiesInOwn now.view
    → LieInOwn nic apps → LieInOwn nic (set apps a now)
LieInOwn-app nic apps a now mine h = assumption (All-set (λ (app : AppSide). AppLiesInOwn app.view) apps a now mine h.sides)

pub LieInOwn-side : (nic : NicSide) (apps : List AppSide) (a : ℕ) (app : AppSide) → IsApp apps a app → LieInOwn nic apps → AppLiesInOwn app.view
LieInOwn-side nic apps a app here h =
    subst (λ (x : AppSide). AppLiesInOwn x.view) here.is (All-get_or (λ (x : AppSide). AppLiesInOwn x.view) apps a app here.there h.sides)

abbrev IsHeldOfPool : AppView → HeldPiece → Type 0
IsHeldOfPool v held = held.place.buffer < pool_buffers v.setting.layout

abbrev IsLoanOfOwn : AppView → LentPiece → Type 0
IsLoanOfOwn v loan = IsOwnBuffer v loan.place.buffer

abbrev IsSpareOfOwn : AppView → SpareOwn → Type 0
IsSpareOfOwn v spare = IsOwnBuffer v spare.own.buffer

-- what is out lies so
pub held-of_pool : (v : AppView) (place : Place) → HasHeld v place → AppLiesInOwn v → place.buffer < pool_buffers v.setting.layout
held-of_pool v place out h =
    let AreOfPool : Place → Type 0 = λ p. p.buffer < pool_buffers v.setting.layout in
    All-contains AreOfPool (map (λ (x : HeldPiece). x.place) v.helds) place (All-map AreOfPool (λ (x : HeldPiece). x.place) v.helds h.helds) out

pub loan-of_own : (v : AppView) (place : Place) → HasLoan v place → AppLiesInOwn v → IsOwnBuffer v place.buffer
loan-of_own v place out h =
    let AreOwn : Place → Type 0 = λ p. IsOwnBuffer v p.buffer in
    All-contains AreOwn (map (λ (x : LentPiece). x.place) v.loans) place (All-map AreOwn (λ (x : LentPiece). x.place) v.loans h.loans) out

pub spare-of_own : (v : AppView) (own : Filling) → HasSpare v own → AppLiesInOwn v → IsOwnBuffer v own.buffer
spare-of_own v own out h =
    let AreOwn : Filling → Type 0 = λ o. IsOwnBuffer v o.buffer in
    All-contains AreOwn (map (λ (x : SpareOwn). x.own) v.owns) own (All-map AreOwn (λ (x : SpareOwn). x.own) v.owns h.spares) out

pub AppLiesInOwn-took_note : (v : AppView) (note : Note) → note.place.buffer < pool_buffers v.setting.layout
    → AppLiesInOwn v → AppLiesInOwn (took_note v note)
AppLiesInOwn-took_note v note of_pool h = assumption (All-push (IsHeldOfPool v) v.helds (record { place = note.place; origin = of_note (length v.taken) 0 }) h.helds of_pool)

pub AppLiesInOwn-cut : (v : AppView) (place : Place) (at : ℕ) → HasHeld v place → AppLiesInOwn v → AppLiesInOwn (cut v place at)
AppLiesInOwn-cut v place at out h =
    let of_pool = held-of_pool v place out h in
    let front : HeldPiece = record { place = front_place place at; origin = held_origin v place } in
    let rest : HeldPiece = record { place = rest_place place at; origin = further (held_origin v place) at } in
    assumption (All-append (IsHeldOfPool v) (helds_without v place) (front ∷ rest ∷ []) (All-without (IsHeldOfPool v) (λ (x : HeldPiece). same_place place x.place) v.helds h.helds) (All-cons (IsHeldOfPool v) front (rest ∷ []) of_pool (All-cons (IsHeldOfPool v) rest [] of_pool (All-nil (IsHeldOfPool v)))))

pub AppLiesInOwn-released : (v : AppView) (place : Place) → AppLiesInOwn v → AppLiesInOwn (released v place)
AppLiesInOwn-released v place h = assumption (All-without (IsHeldOfPool v) (λ (x : HeldPiece). same_place place x.place) v.helds h.helds)

pub AppLiesInOwn-lent : (v : AppView) (place : Place) → HasHeld v place → AppLiesInOwn v → AppLiesInOwn (lent v place)
AppLiesInOwn-lent v place out h = assumption (All-without (IsHeldOfPool v) (λ (x : HeldPiece). same_place place x.place) v.helds h.helds, All-push (IsLoanOfOwn v) v.loans (record { place = place; origin = held_origin v place }) h.loans (inl (held-of_pool v place out h)))

pub AppLiesInOwn-abandoned : (v : AppView) (place : Place) → HasLoan v place → AppLiesInOwn v → AppLiesInOwn (abandoned v place)
AppLiesInOwn-abandoned v place out h = assumption (All-without (IsLoanOfOwn v) (λ (x : LentPiece). same_place place x.place) v.loans h.loans, All-push (IsLoanOfOwn v) v.returned (record { place = place; origin = loan_origin v place }) h.returned (loan-of_own v place out h))

pub AppLiesInOwn-got_spare : (v : AppView) (buffer : ℕ) → IsOwnBuffer v buffer → AppLiesInOwn v → AppLiesInOwn (got_spare v buffer)
AppLiesInOwn-got_spare v buffer mine h = assumption (All-push (IsSpareOfOwn v) v.owns (record { own = fresh v.setting buffer; bytes = [] }) h.spares mine)

pub AppLiesInOwn-filled : (v : AppView) (own : Filling) (bytes : List ℕ) → HasSpare v own → AppLiesInOwn v → AppLiesInOwn (filled v own bytes)
AppLiesInOwn-filled v own bytes out h = assumption (All-push (IsSpareOfOwn v) (owns_without v own) (record { own = filled_by own (length bytes); bytes = bytes }) (All-without (IsSpareOfOwn v) (λ (s : SpareOwn). same_filling own s.own) v.owns h.spares) (spare-of_own v own out h))

pub AppLiesInOwn-lent_own : (v : AppView) (own : Filling) → HasSpare v own → AppLiesInOwn v → AppLiesInOwn (lent_own v own)
AppLiesInOwn-lent_own v own out h = assumption (All-without (IsSpareOfOwn v) (λ (s : SpareOwn). same_filling own s.own) v.owns h.spares, All-push (IsLoanOfOwn v) v.loans (record { place = begin_place own.buffer (length (own_bytes v own)); origin = of_copy (own_bytes v own) }) h.loans (spare-of_own v own out h))
