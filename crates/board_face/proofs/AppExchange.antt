-- Which holdings end and begin by each step of an application.
use Rattle.board_face.proofs.Sums.{filter-case}
use Rattle.std.proofs.Common.{◌≡◌, ◌∙◌, ℕ, ◌+◌, ◌-◌, Bool, true, false, cond, List, [], ◌∷◌, ◌++◌, length, drop, take, map, if◌then◌else◌}
use Rattle.std.{proofs.Common.{refl, sym, ap, arith, zero, suc, length-drop}, specs.Prelude.{◌==◌, filter, Contains}}
use Rattle.std.proofs.lemmas.List.{drop-append-le, take-append-le, map-append, Elements.{filter-append}}
use Rattle.zr_kinds.specs.declared.place.{Place.{Place}, Note.{Note}}
use Rattle.board_face.specs.{Lists.{without, same_place, at_first}, Tokens.{filled_by, same_filling}, Texts.{further, front_place, rest_place}}
use Rattle.board_face.specs.{Holders.{on_way, owed_in, returning_in, returned_in, ended_in, returning_count}, Laws.{IsNextNote}, AppCalls.{HasHeld, HasLoan, HasSpare}}
use Rattle.board_face.specs.Holders as holders
use Rattle.board_face.specs.{NicEvents.{fresh}, AppEvents.{abandoned, own_bytes, begin_place, helds_without, held_origin, loans_without, owns_without}, Sides.{app_at}}
use Rattle.board_face.specs.{Counts.{EndedWereReturned}, declared.views.{parts.Filling.{Filling}, nic.{SentNote.{SentNote}, NicSide.{NicSide}}}}
use Rattle.board_face.specs.declared.views.app.Origin.TheVariants.{Note as of_note, Copied as of_copy}
use Rattle.board_face.specs.declared.views.app.{HeldPiece.{HeldPiece}, LentPiece.{LentPiece}, SpareOwn.{SpareOwn}, TakenNote.{TakenNote}, AppView.{AppView}}
use Rattle.board_face.{specs.declared.views.app.AppSide.{AppSide}, proofs.ListLemmas.{same_place-refl, same_filling-refl, same_place-is, same_filling-is}}
use Rattle.board_face.proofs.{WayLemmas.{after-taken}, Tallies.{total, total-append}, Sums.{total-push, total-without, total-filter}}
use Rattle.board_face.specs.BoardSteps.{AppStep, polls, polls_linear, cuts, releases, lends, gives, abandons, spares, fills, lends_own, app_view, AppCan}
use Rattle.board_face.specs.Holdings.{Hold, sent_to, held, spare, loan, owed, returning, here, weight_in, app_weight, ended_weight, app_ends, app_begins}

-- what the note that is taken weighs among those on their way
way-next : (nic : NicSide) (x : AppSide) (note : Note) → IsNextNote nic x note → (t : TakenNote) (g : Note → ℕ)
    → total (λ (n : SentNote). g n.note) (filter (λ (n : SentNote). n.note.split) (on_way nic x))
    ≡ (if note.split then g note else 0) + total (λ (n : SentNote). g n.note)
    (filter (λ (n : SentNote). n.note.split) (drop (length (x.view.taken ++ t ∷ [])) (holders.sent_to x.view.app nic)))
way-next nic x note next t g =
    let all : List SentNote → ℕ = λ ns. total (λ (n : SentNote). g n.note) (filter (λ (n : SentNote). n.note.split) ns) in
    let was = ap all next.way ∙ filter-case (λ n. g n.note) next.next.note.split next.next (filter (λ (n : SentNote). n.note.split) next.rest) _ refl in
    let gone = ap all (after-taken nic x t next.next next.rest next.way) in
    let first = ap (λ (n : Note). if n.split then g n else 0) next.same in
    omega (arith, was, gone, first)

helds-less : (v : AppView) (p : Place) → HasHeld v p → (g : Place → ℕ)
    → total (λ (h : HeldPiece). g h.place) (helds_without v p) + g p ≡ total (λ (h : HeldPiece). g h.place) v.helds
helds-less v p out g = total-without (λ (h : HeldPiece). h.place) (same_place p) p (same_place-is p) (same_place-refl p) g v.helds out

loans-less : (v : AppView) (p : Place) → HasLoan v p → (g : Place → ℕ)
    → total (λ (l : LentPiece). g l.place) (loans_without v p) + g p ≡ total (λ (l : LentPiece). g l.place) v.loans
loans-less v p out g = total-without (λ (l : LentPiece). l.place) (same_place p) p (same_place-is p) (same_place-refl p) g v.loans out

-- ---- spares, with what they were filled with

less-case : {A : Type 0} (g : A → ℕ) (c : Bool) (x : A) (ys xs : List A) (n : ℕ) → total g ys + n ≡ total g xs
    → total g (cond c xs (x ∷ ys)) + cond c (g x) n ≡ g x + total g xs
less-case g true x ys xs n e = omega arith
less-case g false x ys xs n e = omega (arith, e)

first-less : {A : Type 0} (m : A → Bool) (g : A → ℕ) (xs : List A) → total g (without m xs) + at_first m g 0 xs ≡ total g xs
first-less m g [] = refl
first-less m g (x ∷ xs) = less-case g (m x) x (without m xs) xs _ (first-less m g xs)

first-case : (f : Filling → ℕ → ℕ) (it : Filling) (c : Bool) (x : SpareOwn) (n : ℕ) (rest : List ℕ) → (c ≡ true → x.own ≡ it)
    → (c ≡ false → n ≡ f it (length rest)) → cond c (f x.own (length x.bytes)) n ≡ f it (length (cond c x.bytes rest))
first-case f it true x n rest is e = ap (λ o. f o (length x.bytes)) (is refl)
first-case f it false x n rest is e = e refl

first-of : (f : Filling → ℕ → ℕ) (it : Filling) (xs : List SpareOwn) → Contains (map (λ (s : SpareOwn). s.own) xs) it
    → at_first (λ (s : SpareOwn). same_filling it s.own) (λ s. f s.own (length s.bytes)) 0 xs
    ≡ f it (length (at_first (λ (s : SpareOwn). same_filling it s.own) (λ s. s.bytes) [] xs))
first-of f it [] (k, there, e) = absurd (omega arith)
first-of f it (x ∷ xs) (zero, there, e) =
    first-case f it (same_filling it x.own) x _ _ (same_filling-is it x.own)
    (λ no. absurd (let yes : same_filling it x.own ≡ true = ap (same_filling it) e ∙ same_filling-refl it in let none : true ≡ false = sym yes ∙ no in cc))
first-of f it (x ∷ xs) (suc k, there, e) =
    first-case f it (same_filling it x.own) x _ _ (same_filling-is it x.own) (λ no. first-of f it xs (k, omega arith, e))

owns-less : (v : AppView) (it : Filling) → HasSpare v it → (f : Filling → ℕ → ℕ)
    → total (λ (s : SpareOwn). f s.own (length s.bytes)) (owns_without v it) + f it (length (own_bytes v it))
    ≡ total (λ (s : SpareOwn). f s.own (length s.bytes)) v.owns
owns-less v it out f =
    omega (arith, first-less (λ (s : SpareOwn). same_filling it s.own) (λ s. f s.own (length s.bytes)) v.owns, first-of f it v.owns out)

-- ---- loans that come back

back-weighs : (nic : NicSide) (x : AppSide) (p : Place) (w : Hold → ℕ) (b : ℕ) → EndedWereReturned b nic x
    → ended_weight w b nic (app_at x (abandoned x.view p)) ≡ ended_weight w b nic x + here b p.buffer (w (owed x.view.app p))
back-weighs nic x p w b sound =
    let now = app_at x (abandoned x.view p) in
    let h = ended_in b nic x in
    let r = returning_count b nic x in
    let ps = returned_in b x in
    let one = filter (λ (q : Place). q.buffer == b) (p ∷ []) in
    let f : Place → ℕ = λ q. w (owed x.view.app q) in
    let g : Place → ℕ = λ q. w (returning x.view.app q) in
    let longer : returned_in b now ≡ ps ++ one =
    simp map-append (filter-append (λ (q : Place). q.buffer == b) (map (λ l. l.place) x.view.returned) (p ∷ [])) in
    let owes : owed_in b nic now ≡ owed_in b nic x ++ one = ap (drop h) longer ∙ drop-append-le h ps one sound.ended in
    let rest : drop (h - r) (returned_in b now) ≡ drop (h - r) ps ++ one = ap (drop (h - r)) longer ∙ drop-append-le (h - r) ps one (omega (arith, sound.ended)) in
    let returns : returning_in b nic now ≡ returning_in b nic x =
    ap (take r) rest ∙ take-append-le r (drop (h - r) ps) one (simp length-drop (omega (arith, sound.ended, sound.returning))) in
    omega (
      arith,
      ap (total f) owes,
      total-append f (owed_in b nic x) one,
      total-filter f (λ (q : Place). q.buffer == b) (p ∷ []),
      ap (total g) returns,
    )

-- a loan that is given back or abandoned is owed
pub back-exchange : (nic : NicSide) (x : AppSide) (p : Place) → HasLoan x.view p → (w : Hold → ℕ) (b : ℕ) → EndedWereReturned b nic x
    → app_weight w b nic (app_at x (abandoned x.view p)) + here b p.buffer (w (loan x.view.app p))
    ≡ app_weight w b nic x + here b p.buffer (w (owed x.view.app p))
back-exchange nic x p out w b sound =
    omega (arith, loans-less x.view p out (λ q. here b q.buffer (w (loan x.view.app q))), back-weighs nic x p w b sound)

-- ---- all steps

-- of one application's side
pub app-exchange : (step : AppStep) (nic : NicSide) (x : AppSide) → AppCan step nic x → (w : Hold → ℕ) (b : ℕ)
    → app_weight w b nic (app_at x (app_view step x.view)) + weight_in w b (app_ends x.view.app step x.view)
    ≡ app_weight w b nic x + weight_in w b (app_begins x.view.app step x.view)
app-exchange (polls note) nic x can w b =
    let n = x.view.app in
    let g : Note → ℕ = λ m. here b m.place.buffer (w (sent_to n m.place)) in
    let first : (if note.split then g note else 0) ≡ g note = ap (λ c. if c then g note else 0) can.0 in
    omega (
      arith,
      first,
      way-next nic x note can.1 (record { note = note; bytes = [] }) g,
      total-push (λ (h : HeldPiece). here b h.place.buffer (w (held n h.place))) x.view.helds
          (record { place = note.place; origin = of_note (length x.view.taken) 0 }),
    )
app-exchange (polls_linear note bytes) nic x can w b =
    let g : Note → ℕ = λ m. here b m.place.buffer (w (sent_to x.view.app m.place)) in
    let first : (if note.split then g note else 0) ≡ 0 = ap (λ c. if c then g note else 0) can.0 in
    omega (arith, first, way-next nic x note can.1 (record { note = note; bytes = bytes }) g)
app-exchange (cuts p m) nic x can w b =
    let g : Place → ℕ = λ q. here b q.buffer (w (held x.view.app q)) in
    omega (
      arith,
      helds-less x.view p can g,
      total-append (λ (h : HeldPiece). g h.place) (helds_without x.view p)
          (record { place = front_place p m; origin = held_origin x.view p } ∷ record {
            place = rest_place p m;
            origin = further (held_origin x.view p) m;
          } ∷ []),
    )
app-exchange (releases p) nic x can w b = omega (arith, helds-less x.view p can (λ q. here b q.buffer (w (held x.view.app q))))
app-exchange (lends p) nic x can w b =
    omega (
      arith,
      helds-less x.view p can (λ q. here b q.buffer (w (held x.view.app q))),
      total-push (λ (l : LentPiece). here b l.place.buffer (w (loan x.view.app l.place))) x.view.loans
          (record { place = p; origin = held_origin x.view p }),
    )
app-exchange (gives p) nic x can w b = omega (arith, back-exchange nic x p can.0 w b (can.1 b))
app-exchange (abandons p) nic x can w b = omega (arith, back-exchange nic x p can.0 w b (can.1 b))
app-exchange (spares buffer) nic x can w b =
    omega (
      arith,
      total-push (λ (s : SpareOwn). here b s.own.buffer (w (spare x.view.app s.own (length s.bytes)))) x.view.owns
          (record { own = fresh x.view.setting buffer; bytes = [] }),
    )
app-exchange (fills it bytes) nic x can w b =
    let f : Filling → ℕ → ℕ = λ o n. here b o.buffer (w (spare x.view.app o n)) in
    omega (
      arith,
      owns-less x.view it can f,
      total-push (λ (s : SpareOwn). f s.own (length s.bytes)) (owns_without x.view it) (record { own = filled_by it (length bytes); bytes = bytes }),
    )
app-exchange (lends_own it) nic x can w b =
    omega (
      arith,
      owns-less x.view it can (λ o n. here b o.buffer (w (spare x.view.app o n))),
      total-push (λ (l : LentPiece). here b l.place.buffer (w (loan x.view.app l.place))) x.view.loans
          (record { place = begin_place it.buffer (length (own_bytes x.view it)); origin = of_copy (own_bytes x.view it) }),
    )
app-exchange step nic x can w b = refl
