-- Entries that the card has dealt with: one more is the next of those written.
use Rattle.std.{proofs.Common.{◌≡◌, ℕ, Bool, true, false, eqb, List, [], ◌∷◌, ◌++◌, length, map, drop, refl, ap, ◌∙◌, arith}, specs.Prelude.{◌≢◌, filter, ◌==◌}}
use Rattle.std.{specs.List.{zip}, proofs.lemmas.{List.{append-nil, Elements.{filter-append}}, Bool.{eq-eqb}}}
use Rattle.board_face.{specs.declared.views.nic.{Dealt.{Dealt}, NicView.{NicView}, NicSide.{NicSide}}, proofs.ListLemmas.{not-eqb}}

pub length-mapped : {A B : Type 0} (f : A → B) (xs : List A) → length (map f xs) ≡ length xs
length-mapped f [] = refl
length-mapped f (x ∷ xs) = omega (arith, length-mapped f xs)

pub dealt-more : (nic : NicSide) (v : NicView) (a : ℕ) (d : Dealt) → v.dealt ≡ nic.view.dealt ++ d ∷ [] → d.app ≡ a
    → filter (λ x. x.app == a) v.dealt ≡ filter (λ x. x.app == a) nic.view.dealt ++ d ∷ []
dealt-more nic v a d deals same =
    let mine : Dealt → Bool = λ x. x.app == a in
    let is : eqb d.app a ≡ true = eq-eqb d.app a same in
    let one : filter mine (d ∷ []) ≡ d ∷ [] = rw is refl in
    rw deals (filter-append mine nic.view.dealt (d ∷ []) ∙ ap (λ ds. filter mine nic.view.dealt ++ ds) one)

pub dealt-same : (nic : NicSide) (v : NicView) (a : ℕ) (d : Dealt) → v.dealt ≡ nic.view.dealt ++ d ∷ [] → d.app ≢ a
    → filter (λ x. x.app == a) v.dealt ≡ filter (λ x. x.app == a) nic.view.dealt
dealt-same nic v a d deals other =
    let mine : Dealt → Bool = λ x. x.app == a in
    let no_one : eqb d.app a ≡ false = not-eqb d.app a other in
    let none : filter mine (d ∷ []) ≡ [] = rw no_one refl in
    rw deals (filter-append mine nic.view.dealt (d ∷ []) ∙ (ap (λ ds. filter mine nic.view.dealt ++ ds) none ∙ append-nil (filter mine nic.view.dealt)))

zip-nil : {A B : Type 0} (xs : List A) → zip {K = A} {X = B} xs [] ≡ []
zip-nil [] = refl
zip-nil (x ∷ xs) = refl

pub zip-push : {A B : Type 0} (xs : List A) (ds : List B) (d : B) (x : A) (rest : List A) → drop (length ds) xs ≡ x ∷ rest
    → zip xs (ds ++ d ∷ []) ≡ zip xs ds ++ (x, d) ∷ []
zip-push [] [] d x rest e = absurd (let none : ⊥ = cc in none)
zip-push [] (z ∷ ds) d x rest e = absurd (let none : ⊥ = cc in none)
zip-push {A = A} {B = B} (y ∷ ys) [] d x rest e = let same : y ≡ x = cc in let none = zip-nil {B = B} ys in rw (same, none) refl
zip-push (y ∷ ys) (z ∷ ds) d x rest e = ap (λ ps. (y, z) ∷ ps) (zip-push ys ds d x rest e)
