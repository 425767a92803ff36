-- Lists of lanes, and the applications that are back.
use Rattle.std.{proofs.Common.{◌≡◌, ℕ, suc, take, drop, ◌<◌, List, [], ◌∷◌, ◌++◌, length, map, refl, sym, ◌∙◌, arith, subst, ⊎_elim}, specs.Prelude.{Contains}}
use Rattle.std.proofs.lemmas.List.{get_or_append_left, get_or_push, length_push, map-append, append-nil, take_all, drop_all}
use Rattle.std.proofs.lemmas.{List.Elements.{Contains-append_left, Contains-push}, Bool.{cases_lt}}
use Rattle.board_face.specs.declared.views.app.AppSide.{AppSide}
use Rattle.ref_words.specs.{declared.view.View.{View}, Seated.{both_sides, app_seat_view}}
use Rattle.word_board.specs.Board.{TheBoard}
use Rattle.board_race.specs.{declared.lanes.Lane.{Lane}, Lanes.{AreAt, SayLeft, HaveRun, AreBackFrom}}

-- a list of lanes with one more behind it, of the next application
pub AreAt-push : (b : TheBoard) (xs : List Lane) (x : Lane) → AreAt b xs → x.seat.board ≡ b → x.seat.side.view.app ≡ length xs
    → AreAt b (xs ++ x ∷ [])
AreAt-push b xs x at board number i d within =
    ⊎_elim
    (λ less. rw (get_or_append_left xs (x ∷ []) d i less) (at i d less))
    (λ past.
    let here : i ≡ length xs = omega (arith, within, past, length_push xs x) in
    rw (get_or_push xs x d i (sym here)) (board, number ∙ sym here))
    (cases_lt i (length xs))

pub AreAt-front : (b : TheBoard) (xs : List Lane) (x : Lane) → AreAt b (xs ++ x ∷ []) → AreAt b xs
AreAt-front b xs x at i d less = rw (get_or_append_left xs (x ∷ []) d i less) at (at i d (omega (arith, less, length_push xs x)))

pub AreAt-last : (b : TheBoard) (xs : List Lane) (x : Lane) → AreAt b (xs ++ x ∷ []) → (x.seat.board ≡ b) × (x.seat.side.view.app ≡ length xs)
AreAt-last b xs x at = rw (get_or_push xs x x (length xs) refl) at (at (length xs) x (omega (arith, length_push xs x)))

pub SayLeft-front : (xs : List Lane) (x : Lane) → SayLeft (xs ++ x ∷ []) → SayLeft xs
SayLeft-front xs x say i d less = rw (get_or_append_left xs (x ∷ []) d i less) at (say i d (omega (arith, less, length_push xs x)))

-- lanes that have run are where they were, and those that say so have left
pub AreAt-run : (b : TheBoard) (old new : List Lane) → AreAt b old → HaveRun old new → AreAt b new
AreAt-run b old new at run i d within =
    let less : i < length old = omega (arith, within, run.many) in
    let did = run.each i d less in
    (did.same ∙ (at i d less).0, did.number ∙ (at i d less).1)

pub SayLeft-run : (old new : List Lane) → HaveRun old new → SayLeft new
SayLeft-run old new run i d within = (run.each i d (omega (arith, within, run.many))).left

-- one more application is back
pub back-more : (n apps : ℕ) (v : View) (s : AppSide) → AreBackFrom (suc n) apps v → s.view.app ≡ n → AreBackFrom n apps (both_sides v (app_seat_view s))
back-more n apps v s back number a from below =
    let number_of : AppSide → ℕ = λ t. t.view.app in
    let split = map-append number_of v.apps (s ∷ []) in
    ⊎_elim
    (λ less.
    let here : a ≡ n = omega (arith, less, from) in
    subst (λ l. Contains l a) (sym split) (subst (Contains (map number_of v.apps ++ number_of s ∷ [])) (number ∙ sym here) (Contains-push (map number_of v.apps) (number_of s))))
    (λ past. subst (λ l. Contains l a) (sym split) (Contains-append_left (map number_of v.apps) (number_of s ∷ []) a (back a past below)))
    (cases_lt a (suc n))

-- what is written back through a slice of a whole list is the list then
pub written-whole : {A : Type 0} (n : ℕ) (new old : List A) → n ≡ length old → length new ≡ length old → take n (new ++ drop (length new) old) ≡ new
written-whole n new old whole same =
    let none : drop (length new) old ≡ [] = drop_all (length new) old (omega (arith, same)) in
    rw (none, append-nil new) (take_all n new (omega (arith, whole, same)))
