-- Lists that are taken from the end: the last goes first.
use Rattle.std.{proofs.Common.{◌≡◌, List, [], ◌∷◌, ◌++◌, length, map, refl, sym, ap, ◌∙◌, append-nil, arith}, specs.Prelude.{reverse}}
use Rattle.std.proofs.lemmas.List.{reverse-append, reverse-reverse}

pub reverse-last : {A : Type 0} (xs : List A) (x : A) → reverse (xs ++ x ∷ []) ≡ x ∷ reverse xs
reverse-last xs x = reverse-append xs (x ∷ [])

one-more : {A : Type 0} (xs : List A) (x : A) (ys : List A) → (xs ++ x ∷ []) ++ ys ≡ xs ++ x ∷ ys
one-more [] x ys = refl
one-more (z ∷ xs) x ys = ap (λ l. z ∷ l) (one-more xs x ys)

-- what was moved from the end of one list stands behind the other, the last first
pub moved-one : {A : Type 0} (from left to to_now all : List A) (x : A) → from ≡ left ++ x ∷ [] → to_now ≡ to ++ x ∷ []
    → to ++ reverse from ≡ all → to_now ++ reverse left ≡ all
moved-one from left to to_now all x split pushed is =
    ap (λ l. l ++ reverse left) pushed
    ∙ (one-more to x (reverse left)
    ∙ (sym (ap (λ l. to ++ reverse l) split ∙ ap (λ l. to ++ l) (reverse-last left x)) ∙ is))

-- one was taken from a list for what came to the end of others
pub taken-one : {A B : Type 0} (f : B → A) (xs left all : List A) (x : A) (lanes lanes_now : List B) (lane : B) → xs ≡ left ++ x ∷ [] → f lane ≡ x
    → lanes_now ≡ lanes ++ lane ∷ [] → xs ++ map f (reverse lanes) ≡ all → left ++ map f (reverse lanes_now) ≡ all
taken-one f xs left all x lanes lanes_now lane split same pushed is =
    ap (λ l. left ++ map f (reverse l)) pushed
    ∙ (ap (λ l. left ++ map f l) (reverse-last lanes lane)
    ∙ (ap (λ y. left ++ y ∷ map f (reverse lanes)) same
    ∙ (sym (ap (λ l. l ++ map f (reverse lanes)) split ∙ one-more left x (map f (reverse lanes))) ∙ is)))

-- one came to a list from the end of others
pub given-one : {A B : Type 0} (f : B → A) (xs xs_now all : List A) (lanes left : List B) (lane : B) → lanes ≡ left ++ lane ∷ []
    → xs_now ≡ xs ++ f lane ∷ [] → xs ++ map f (reverse lanes) ≡ all → xs_now ++ map f (reverse left) ≡ all
given-one f xs xs_now all lanes left lane split pushed is =
    ap (λ l. l ++ map f (reverse left)) pushed
    ∙ (one-more xs (f lane) (map f (reverse left))
    ∙ (sym (ap (λ l. xs ++ map f (reverse l)) split ∙ ap (λ l. xs ++ map f l) (reverse-last left lane)) ∙ is))

-- what was set aside stands behind the others again
pub set-aside : {A : Type 0} (all left aside : List A) → aside ++ reverse left ≡ reverse all → all ≡ left ++ reverse aside
set-aside all left aside is =
    sym (reverse-reverse all)
    ∙ (ap (λ (l : List _). reverse l) (sym is)
    ∙ (reverse-append aside (reverse left) ∙ ap (λ l. l ++ reverse aside) (reverse-reverse left)))

pub put-back : {A : Type 0} (all left aside none : List A) → all ++ reverse none ≡ left ++ reverse aside → length none ≡ 0
    → all ≡ left ++ reverse aside
put-back all left aside [] is empty = sym (append-nil all) ∙ is
put-back all left aside (x ∷ xs) is empty = absurd (omega (arith, empty))
