-- What each event of an application adds to its loans and copies.
use Rattle.std.proofs.Common.{◌≡◌, ℕ, ◌+◌, List, [], ◌∷◌, length, map, ◌++◌, eqb, true, false, if◌then◌else◌, refl, sym, ap, ◌∙◌, arith, length-append}
use Rattle.std.{specs.{List.{sum_by, flat_map}, Prelude.{◌≢◌}}, proofs.lemmas.List.{append-nil, flat_map_more, map-append, Sums.{sum_by_push}}}
use Rattle.zr_kinds.specs.declared.{place.{Note.{Note}, Place.{Place}}, event.Event.{Event}}
use Rattle.zr_kinds.specs.declared.event.Event.TheVariants as event
use Rattle.board_face.specs.AppCalls.{HasLoan, HasSpare}
use Rattle.board_face.specs.AppEvents.{held_origin, lent, loan_origin, loans_without, abandoned, got_spare, owns_without, filled, own_bytes, begin_place}
use Rattle.board_face.specs.{AppEvents.{gave, lent_own, took_note}, Laws.{AllSides, by_app}, NicEvents.{fresh}, Sides.{IsApp, app_at}, Tokens.{filled_by}}
use Rattle.board_face.specs.declared.views.{parts.Filling.{Filling}, app.{AppView.{AppView}, AppSide.{AppSide}, LentPiece.{LentPiece}, SpareOwn.{SpareOwn}}}
use Rattle.board_face.{specs.declared.views.app.{TakenNote.{TakenNote}, Origin.TheVariants.{Copied as of_copy}}, proofs.ListLemmas.{eqb_same, not-eqb}}
use Rattle.board_face.proofs.Tallies.{one_if as one, total}
use Rattle.plain_board.specs.Tallies.{len_of_loan, place_of_loan, taken_as}
use Rattle.board_face.specs.{Lists.{same_place}, Tokens.{same_filling}}
use Rattle.board_face.proofs.{ListLemmas.{same_place-refl, same_filling-refl, same_place-is, same_filling-is}, Sums.{total-without}}
use Rattle.plain_board.proofs.Tallying.{Gains, IsNoneOfCard, SameLists, Tallies, TellsNothing, app-stays, gains-none, sum-total, tallies-app}

length-total : {A : Type 0} (xs : List A) → total (λ x. 1) xs ≡ length xs
length-total [] = refl
length-total (x ∷ xs) = omega (arith, length-total xs)

loans-less : (v : AppView) (place : Place) → HasLoan v place → (g : Place → ℕ)
    → total (λ (l : LentPiece). g l.place) (loans_without v place) + g place ≡ total (λ (l : LentPiece). g l.place) v.loans
loans-less v place out g = total-without (λ (l : LentPiece). l.place) (same_place place) place (same_place-is place) (same_place-refl place) g v.loans out

owns-less : (v : AppView) (it : Filling) → HasSpare v it → (g : Filling → ℕ)
    → total (λ (x : SpareOwn). g x.own) (owns_without v it) + g it ≡ total (λ (x : SpareOwn). g x.own) v.owns
owns-less v it out g = total-without (λ (x : SpareOwn). x.own) (same_filling it) it (same_filling-is it) (same_filling-refl it) g v.owns out

-- ---- gains

pub gains-returned : (v : AppView) (p : Place) → HasLoan v p → Gains 0 0 0 v (abandoned v p)
gains-returned v p out =
    let back : LentPiece = record { place = p; origin = loan_origin v p } in
    let fewer : length (loans_without v p) + 1 ≡ length v.loans =
    omega (arith, loans-less v p out (λ q. 1), length-total v.loans, length-total (loans_without v p)) in
    let less : sum_by len_of_loan (loans_without v p) + p.len ≡ sum_by len_of_loan v.loans =
    omega (arith, loans-less v p out (λ q. q.len), sum-total len_of_loan v.loans, sum-total len_of_loan (loans_without v p)) in
    record {
      loans_are = omega (arith, fewer, length-append v.returned (back ∷ []));
      bytes_are = omega (arith, less, sum_by_push len_of_loan v.returned back);
      copies_are = omega arith;
    }

pub gains-gave : (v : AppView) (p : Place) → HasLoan v p → Gains 0 0 0 v (gave v p)
gains-gave v p out =
    let gains = gains-returned v p out in
    assumption

pub gains-got_spare : (v : AppView) (buffer : ℕ) → Gains 0 0 0 v (got_spare v buffer)
gains-got_spare v buffer =
    let one : SpareOwn = record { own = fresh v.setting buffer; bytes = [] } in
    record { loans_are = omega arith; bytes_are = omega arith; copies_are = omega (arith, length-append v.owns (one ∷ [])) }

owns-fewer : (v : AppView) (it : Filling) → HasSpare v it → length (owns_without v it) + 1 ≡ length v.owns
owns-fewer v it out = omega (arith, owns-less v it out (λ x. 1), length-total v.owns, length-total (owns_without v it))

pub gains-filled : (v : AppView) (it : Filling) (bytes : List ℕ) → HasSpare v it → Gains 0 0 0 v (filled v it bytes)
gains-filled v it bytes out =
    let one : SpareOwn = record { own = filled_by it (length bytes); bytes = bytes } in
    record {
      loans_are = omega arith;
      bytes_are = omega arith;
      copies_are = omega (arith, owns-fewer v it out, length-append (owns_without v it) (one ∷ []));
    }

gains-lent : (v : AppView) (p : Place) → Gains 1 p.len 0 v (lent v p)
gains-lent v p =
    let loan : LentPiece = record { place = p; origin = held_origin v p } in
    record {
      loans_are = omega (arith, length-append v.loans (loan ∷ []));
      bytes_are = omega (arith, sum_by_push len_of_loan v.loans loan);
      copies_are = omega arith;
    }

gains-lent_own : (v : AppView) (it : Filling) → HasSpare v it → Gains 1 (length (own_bytes v it)) 1 v (lent_own v it)
gains-lent_own v it out =
    let loan : LentPiece = record { place = begin_place it.buffer (length (own_bytes v it)); origin = of_copy (own_bytes v it) } in
    record {
      loans_are = omega (arith, length-append v.loans (loan ∷ []));
      bytes_are = omega (arith, sum_by_push len_of_loan v.loans loan);
      copies_are = omega (arith, owns-fewer v it out);
    }

-- ---- the tallies after an event

-- an event that tells of no loan that begins
pub tallies-none : (e : Event) (s : AllSides) (a : ℕ) (app : AppSide) (v : AppView) → IsApp s.apps a app → ((n : ℕ) → TellsNothing n e)
    → IsNoneOfCard e → Gains 0 0 0 app.view v → SameLists app.view v → Tallies e s (by_app s a app v)
tallies-none e s a app v at nothing no_card none same =
    tallies-app e s a app (app_at app v) at (rw ((nothing a).loans, (nothing a).bytes, (nothing a).copies) none)
    (app-stays a e app.view v (nothing a) same) (λ n ne. nothing n) no_card

-- another application's number
other-number : (a n : ℕ) → n ≢ a → eqb a n ≡ false
other-number a n ne = not-eqb a n (λ e. ne (sym e))

-- one note more that was taken, with a piece, and one in which its bytes travelled
takes-more : (notes : List TakenNote) (t : TakenNote) → t.note.split ≡ true
    → flat_map taken_as (notes ++ t ∷ []) ≡ flat_map taken_as notes ++ t.note.place ∷ []
takes-more notes t split = sym (flat_map_more taken_as [] notes t)
    ∙ ap (λ c. flat_map taken_as notes ++ (if c then t.note.place ∷ [] else [])) split

pub takes-none : (notes : List TakenNote) (t : TakenNote) → t.note.split ≡ false → flat_map taken_as (notes ++ t ∷ []) ≡ flat_map taken_as notes
takes-none notes t split = sym (flat_map_more taken_as [] notes t)
    ∙ (ap (λ c. flat_map taken_as notes ++ (if c then t.note.place ∷ [] else [])) split ∙ append-nil (flat_map taken_as notes))

pub tallies-took_note : (s : AllSides) (a : ℕ) (app : AppSide) → IsApp s.apps a app → (note : Note) → note.split ≡ true
    → Tallies (event.Held a note.place.buffer note.place.offset note.place.len) s (by_app s a app (took_note app.view note))
tallies-took_note s a app at note split =
    let p = note.place in
    let v = took_note app.view note in
    let more = takes-more app.view.taken (record { note = note; bytes = [] }) split in
    tallies-app (event.Held a p.buffer p.offset p.len) s a app (app_at app v) at (gains-none app.view v refl refl refl refl)
    (record { holds = rw (eqb_same a) more; returns = sym (append-nil _); spares = omega arith })
    (λ n ne. let other = other-number a n ne in record { loans = refl; bytes = refl; copies = refl; holds = rw other refl; returns = refl; spares = refl })
    (assumption)

-- a loan was returned, by an entry or without one
tallies-back : (s : AllSides) (a : ℕ) (app : AppSide) (v : AppView) → IsApp s.apps a app → (p : Place) (user : ℕ) → Gains 0 0 0 app.view v
    → v.taken ≡ app.view.taken → map place_of_loan v.returned ≡ map place_of_loan app.view.returned ++ p ∷ [] → v.spares ≡ app.view.spares
    → Tallies (event.Back a p.buffer p.offset p.len user) s (by_app s a app v)
tallies-back s a app v at p user none taken returned spares =
    tallies-app (event.Back a p.buffer p.offset p.len user) s a app (app_at app v) at none
    (record { holds = ap (flat_map taken_as) taken ∙ sym (append-nil _); returns = rw (eqb_same a) returned; spares = omega (arith, spares) })
    (λ n ne. let other = other-number a n ne in record { loans = refl; bytes = refl; copies = refl; holds = refl; returns = rw other refl; spares = refl })
    (assumption)

pub tallies-gave : (s : AllSides) (a : ℕ) (app : AppSide) → IsApp s.apps a app → (p : Place) (user : ℕ) → HasLoan app.view p
    → Tallies (event.Back a p.buffer p.offset p.len user) s (by_app s a app (gave app.view p))
tallies-gave s a app at p user out =
    tallies-back s a app (gave app.view p) at p user (gains-gave app.view p out) refl (map-append place_of_loan app.view.returned _) refl

pub tallies-abandoned : (s : AllSides) (a : ℕ) (app : AppSide) → IsApp s.apps a app → (p : Place) (user : ℕ) → HasLoan app.view p
    → Tallies (event.Back a p.buffer p.offset p.len user) s (by_app s a app (abandoned app.view p))
tallies-abandoned s a app at p user out =
    tallies-back s a app (abandoned app.view p) at p user (gains-returned app.view p out) refl (map-append place_of_loan app.view.returned _) refl

pub tallies-got_spare : (s : AllSides) (a : ℕ) (app : AppSide) → IsApp s.apps a app → (buffer pool : ℕ)
    → Tallies (event.Spare a buffer pool) s (by_app s a app (got_spare app.view buffer))
tallies-got_spare s a app at buffer pool =
    tallies-app (event.Spare a buffer pool) s a app (app_at app (got_spare app.view buffer)) at (gains-got_spare app.view buffer)
    (record { holds = sym (append-nil _); returns = sym (append-nil _); spares = omega (arith, ap one (eqb_same a)) })
    (λ n ne. assumption (other-number a n ne))
    (assumption)

pub tallies-lent : (s : AllSides) (a : ℕ) (app : AppSide) → IsApp s.apps a app → (p : Place) (pool user : ℕ)
    → Tallies (event.Lend a p.buffer p.offset p.len pool user) s (by_app s a app (lent app.view p))
tallies-lent s a app at p pool user =
    tallies-app (event.Lend a p.buffer p.offset p.len pool user) s a app (app_at app (lent app.view p)) at (rw (eqb_same a) (gains-lent app.view p))
    (record { holds = sym (append-nil _); returns = sym (append-nil _); spares = omega arith })
    (λ n ne. let other = other-number a n ne in
    record { loans = other; bytes = rw other refl; copies = refl; holds = refl; returns = refl; spares = refl }) (assumption)

pub tallies-lent_own : (s : AllSides) (a : ℕ) (app : AppSide) → IsApp s.apps a app → (it : Filling) → HasSpare app.view it → (pool user : ℕ)
    → Tallies (event.Own a it.buffer (length (own_bytes app.view it)) pool user) s (by_app s a app (lent_own app.view it))
tallies-lent_own s a app at it out pool user =
    tallies-app (event.Own a it.buffer (length (own_bytes app.view it)) pool user) s a app (app_at app (lent_own app.view it)) at
    (rw (eqb_same a) (gains-lent_own app.view it out))
    (record { holds = sym (append-nil _); returns = sym (append-nil _); spares = omega arith })
    (λ n ne. let other = other-number a n ne in
    record { loans = other; bytes = rw other refl; copies = other; holds = refl; returns = refl; spares = refl }) (assumption)
