-- Tokens that are out, under the events of the face.
use Rattle.std.proofs.Common.{◌≡◌, ℕ, suc, ◌+◌, ◌<◌, ◌≤◌, Bool, true, false, List, [], ◌∷◌, ◌++◌, map, refl, sym, ap, subst, ◌∙◌, arith, ⊎_elim, inl, inr}
use Rattle.std.{specs.Prelude.{if◌then◌else◌, Contains, ◌==◌, ◌&&◌, nat_le, nat_lt}, proofs.lemmas.Bool.{cases_Bool, le-leb, lt-ltb, eq-eqb, and_parts}}
use Rattle.std.proofs.lemmas.Bool.Decides.{nat_tests}
use Rattle.zr_kinds.specs.{Limits.{longest_payload}, declared.place.Place.{Place}}
use Rattle.board_face.specs.{Lists.{without, at_first, same_place}, Texts.{further, front_place, rest_place}, AppEvents.{cut, released, lent, gave}}
use Rattle.board_face.specs.declared.views.app.{Origin.{Origin, TheVariants.{Note as of_note, Copied as of_copy}}, HeldPiece.{HeldPiece}, LentPiece.{LentPiece}}
use Rattle.board_face.{specs.declared.views.app.AppView.{AppView}, proofs.ListLemmas.{same_place-refl, same_place-is}}
use Rattle.area_layout.specs.Layout.{Shape, LiesIn, size_of, all_buffers as buffers_of}
use Rattle.flow_queues.specs.Core.{total, IsIn, has_at, is_odd, LieApart}

-- ---- lists

pub total-append : {A : Type 0} (f : A → ℕ) (xs ys : List A) → total f (xs ++ ys) ≡ total f xs + total f ys
total-append f [] ys = omega arith
total-append f (x ∷ xs) ys = omega (arith, total-append f xs ys)

pub in-total : {A : Type 0} (f : A → ℕ) (x : A) (xs : List A) → IsIn x xs → f x ≤ total f xs
in-total f x [] is = absurd is
in-total f x (y ∷ ys) (inl e) = let same : f y ≡ f x = ap f e in omega arith
in-total f x (y ∷ ys) (inr there) = omega (arith, in-total f x ys there)

pub in-right : {A : Type 0} (x : A) (xs ys : List A) → IsIn x ys → IsIn x (xs ++ ys)
in-right x [] ys is = is
in-right x (y ∷ xs) ys is = inr (in-right x xs ys is)

pub in-left : {A : Type 0} (x : A) (xs ys : List A) → IsIn x xs → IsIn x (xs ++ ys)
in-left x [] ys is = absurd is
in-left x (y ∷ xs) ys (inl e) = inl e
in-left x (y ∷ xs) ys (inr there) = inr (in-left x xs ys there)

-- what is in the list is contained
pub in-contains : {A B : Type 0} (f : A → B) (x : A) (xs : List A) → IsIn x xs → Contains (map f xs) (f x)
in-contains f x [] is = absurd is
in-contains f x (y ∷ ys) (inl e) = (0, omega arith, ap f e)
in-contains f x (y ∷ ys) (inr there) = let (k, below, e) = in-contains f x ys there in (suc k, omega arith, e)

pub in-without : {A : Type 0} (test : A → Bool) (x : A) (xs : List A) → IsIn x xs → test x ≡ false → IsIn x (without test xs)
in-without test x [] is other = absurd is
in-without test x (y ∷ ys) (inl e) other = let no : test y ≡ false = ap test e ∙ other in rw no (inl e)
in-without test x (y ∷ ys) (inr there) other = ⊎_elim
    (λ (yes : test y ≡ true). rw yes there)
    (λ (no : test y ≡ false). rw no (inr (in-without test x ys there other)))
    (cases_Bool (test y))

-- ---- places

pub has-first : (p : Place) → 0 < p.len → has_at p.buffer p.offset p ≡ 1
has-first p some =
    let b : (p.buffer == p.buffer) ≡ true = eq-eqb p.buffer p.buffer refl in
    let from : nat_le p.offset p.offset ≡ true = le-leb p.offset p.offset (omega arith) in
    let until : nat_lt p.offset (p.offset + p.len) ≡ true = lt-ltb p.offset (p.offset + p.len) (omega arith) in
    rw (b, from, until) refl

pub even-bytes : (layout : Shape) (p : Place) → is_odd layout p ≡ 0 → (0 < p.len) × (p.len ≤ longest_payload)
even-bytes layout p is = (grind (arith, nat_tests), grind (arith, nat_tests))

pub even-lies : (layout : Shape) (p : Place) → is_odd layout p ≡ 0 → LiesIn layout p
even-lies layout p is = record { buffer = grind (arith, nat_tests); bytes = grind (arith, nat_tests) }

pub some-bytes : (layout : Shape) (p : Place) → is_odd layout p ≡ 0 → 0 < p.len
some-bytes layout p is = (even-bytes layout p is).0

pub not-odd : (layout : Shape) (p : Place) → 0 < p.len → p.len ≤ longest_payload → LiesIn layout p → is_odd layout p ≡ 0
not-odd layout p some few lies =
    let buffer : p.buffer < buffers_of layout = lies.buffer in
    let bytes : p.offset + p.len ≤ size_of layout p.buffer = lies.bytes in
    grind (arith, nat_tests)

pub has-cut : (b x : ℕ) (p : Place) (at : ℕ) → at ≤ p.len → has_at b x (front_place p at) + has_at b x (rest_place p at) ≡ has_at b x p
has-cut b x p at within = grind (arith, nat_tests)

module _ {A : Type 0} (place : A → Place) where
  abbrev once : List A → Type 0
  once xs = (b x : ℕ) → total (λ z. has_at b x (place z)) xs ≤ 1

  only-one : (a x : A) (xs : List A) → IsIn a xs → place x ≡ place a → 0 < (place a).len → once (x ∷ xs) → ⊥
  only-one a x xs is same some apart =
      let b : ℕ = (place a).buffer in
      let o : ℕ = (place a).offset in
      let here : has_at b o (place a) ≡ 1 = has-first (place a) some in
      let there : has_at b o (place x) ≡ 1 = ap (has_at b o) same ∙ here in
      let both : has_at b o (place x) + total (λ z. has_at b o (place z)) xs ≤ 1 = apart b o in
      omega (arith, in-total (λ z. has_at b o (place z)) a xs is, here, there, both)

  once-tail : (x : A) (xs : List A) → once (x ∷ xs) → once xs
  once-tail x xs apart b o = let both : has_at b o (place x) + total (λ z. has_at b o (place z)) xs ≤ 1 = apart b o in omega (arith, both)

  -- the one at a place is what is found there
  pub found-at : {B : Type 0} (g : A → B) (other : B) (a : A) (xs : List A) → IsIn a xs → 0 < (place a).len → once xs
      → at_first (λ z. same_place (place a) (place z)) g other xs ≡ g a
  found-at g other a [] is some apart = absurd is
  found-at g other a (x ∷ xs) (inl e) some apart =
      let yes : same_place (place a) (place x) ≡ true = ap (λ z. same_place (place a) (place z)) e ∙ same_place-refl (place a) in
      rw yes (ap g e)
  found-at g other a (x ∷ xs) (inr there) some apart = ⊎_elim
      (λ (yes : same_place (place a) (place x) ≡ true). absurd (only-one a x xs there (same_place-is (place a) (place x) yes) some apart))
      (λ (no : same_place (place a) (place x) ≡ false). rw no (found-at g other a xs there some (once-tail x xs apart)))
      (cases_Bool (same_place (place a) (place x)))

  -- and what is taken out
  pub taken-out : (f : A → ℕ) (a : A) (xs : List A) → IsIn a xs → 0 < (place a).len → once xs
      → total f (without (λ z. same_place (place a) (place z)) xs) + f a ≡ total f xs
  taken-out f a [] is some apart = absurd is
  taken-out f a (x ∷ xs) (inl e) some apart =
      let yes : same_place (place a) (place x) ≡ true = ap (λ z. same_place (place a) (place z)) e ∙ same_place-refl (place a) in
      let same : f x ≡ f a = ap f e in
      rw yes (omega (arith, same))
  taken-out f a (x ∷ xs) (inr there) some apart = ⊎_elim
      (λ (yes : same_place (place a) (place x) ≡ true). absurd (only-one a x xs there (same_place-is (place a) (place x) yes) some apart))
      (λ (no : same_place (place a) (place x) ≡ false). rw no (omega (arith, taken-out f a xs there some (once-tail x xs apart))))
      (cases_Bool (same_place (place a) (place x)))

-- ---- the face's events

module _ (v : AppView) (lie : LieApart v) where
  helds-once : (b x : ℕ) → total (λ h. has_at b x h.place) v.helds ≤ 1
  helds-once b x = omega (arith, lie.once b x)

  loans-once : (b x : ℕ) → total (λ l. has_at b x l.place) v.loans ≤ 1
  loans-once b x = omega (arith, lie.once b x)

  pub held-some : (h : HeldPiece) → IsIn h v.helds → 0 < h.place.len
  held-some h is = some-bytes v.setting.layout h.place (omega (arith, in-total (λ h. is_odd v.setting.layout h.place) h v.helds is, lie.some))

  pub held-few : (h : HeldPiece) → IsIn h v.helds → h.place.len ≤ longest_payload
  held-few h is = (even-bytes v.setting.layout h.place (omega (arith, in-total (λ h. is_odd v.setting.layout h.place) h v.helds is, lie.some))).1

  pub held-lies : (h : HeldPiece) → IsIn h v.helds → LiesIn v.setting.layout h.place
  held-lies h is = even-lies v.setting.layout h.place (omega (arith, in-total (λ h. is_odd v.setting.layout h.place) h v.helds is, lie.some))

  pub loan-lies : (l : LentPiece) → IsIn l v.loans → LiesIn v.setting.layout l.place
  loan-lies l is = even-lies v.setting.layout l.place (omega (arith, in-total (λ l. is_odd v.setting.layout l.place) l v.loans is, lie.some))

  pub loan-some : (l : LentPiece) → IsIn l v.loans → 0 < l.place.len
  loan-some l is = some-bytes v.setting.layout l.place (omega (arith, in-total (λ l. is_odd v.setting.layout l.place) l v.loans is, lie.some))

  -- a piece was given up
  pub record Released (h : HeldPiece) : Type 0 where
    pub apart : LieApart (released v h.place)
    pub moved : (f : HeldPiece → ℕ) → total f (released v h.place).helds + f h ≡ total f v.helds
    pub others : (other : HeldPiece) → IsIn other v.helds → same_place h.place other.place ≡ false → IsIn other (released v h.place).helds

  pub is-released : (h : HeldPiece) → IsIn h v.helds → Released h
  is-released h is =
      let some : 0 < h.place.len = held-some h is in
      let moved : (f : HeldPiece → ℕ) → total f (released v h.place).helds + f h
      ≡ total f v.helds = λ f. taken-out (λ h. h.place) f h v.helds is some helds-once in
      record {
        apart = record {
          once = λ b x. omega (arith, lie.once b x, moved (λ h. has_at b x h.place));
          some = omega (arith, lie.some, moved (λ h. is_odd v.setting.layout h.place));
        };
        moved = moved;
        others = λ other there away. in-without (λ z. same_place h.place z.place) other v.helds there away;
      }

  -- a piece was cut
  abbrev pub front : HeldPiece → ℕ → HeldPiece
  front h at = record { place = front_place h.place at; origin = h.origin }

  abbrev pub rest : HeldPiece → ℕ → HeldPiece
  rest h at = record { place = rest_place h.place at; origin = further h.origin at }

  pub record Cut (h : HeldPiece) (at : ℕ) : Type 0 where
    pub apart : LieApart (cut v h.place at)
    pub moved : (f : HeldPiece → ℕ) → total f (cut v h.place at).helds + f h ≡ total f v.helds + (f (front h at) + f (rest h at))
    pub front_out : IsIn (front h at) (cut v h.place at).helds
    pub rest_out : IsIn (rest h at) (cut v h.place at).helds

  pub is-cut : (h : HeldPiece) (at : ℕ) → IsIn h v.helds → 0 < at → at < h.place.len → Cut h at
  is-cut h at is above below =
      let some : 0 < h.place.len = held-some h is in
      let few : h.place.len ≤ longest_payload = held-few h is in
      let others : List HeldPiece = without (λ z. same_place h.place z.place) v.helds in
      let origin = found-at (λ h. h.place) (λ (z : HeldPiece). z.origin) (of_copy []) h v.helds is some helds-once in
      let view : (cut v h.place at).helds ≡ others ++ front h at ∷ rest h at ∷ [] = rw origin refl in
      let moved : (f : HeldPiece → ℕ) → total f (cut v h.place at).helds + f h ≡ total f v.helds + (f (front h at) + f (rest h at)) = λ f.
      omega (arith, ap (total f) view, total-append f others (front h at ∷ rest h at ∷ []), taken-out (λ h. h.place) f h v.helds is some helds-once) in
      record {
        apart = record {
          once = λ b x. omega (arith, lie.once b x, moved (λ h. has_at b x h.place), has-cut b x h.place at (omega arith));
          some = omega (
            arith,
            lie.some,
            moved (λ h. is_odd v.setting.layout h.place),
            not-odd v.setting.layout h.place some few (held-lies h is),
            not-odd v.setting.layout (front_place h.place at) above (omega (arith, few))
                (let lies = held-lies h is in record { buffer = lies.buffer; bytes = omega (arith, lies.bytes, below) }),
            not-odd v.setting.layout (rest_place h.place at) (omega arith) (omega (arith, few))
                (let lies = held-lies h is in record { buffer = lies.buffer; bytes = omega (arith, lies.bytes, below) }),
          );
        };
        moved = moved;
        front_out = subst (IsIn (front h at)) (sym view) (in-right (front h at) others (front h at ∷ rest h at ∷ []) (inl refl));
        rest_out = subst (IsIn (rest h at)) (sym view) (in-right (rest h at) others (front h at ∷ rest h at ∷ []) (inr (inl refl)));
      }

  -- a piece was lent
  abbrev pub as_loan : HeldPiece → LentPiece
  as_loan h = record { place = h.place; origin = h.origin }

  pub record TokenLent (h : HeldPiece) : Type 0 where
    pub view : lent v h.place ≡ record v { helds = (lent v h.place).helds; loans = v.loans ++ as_loan h ∷ [] }
    pub apart : LieApart (lent v h.place)
    pub helds : (f : HeldPiece → ℕ) → total f (lent v h.place).helds + f h ≡ total f v.helds
    pub loans : (f : LentPiece → ℕ) → total f (lent v h.place).loans ≡ total f v.loans + f (as_loan h)

  pub is-lent : (h : HeldPiece) → IsIn h v.helds → TokenLent h
  is-lent h is =
      let some : 0 < h.place.len = held-some h is in
      let origin = found-at (λ h. h.place) (λ (z : HeldPiece). z.origin) (of_copy []) h v.helds is some helds-once in
      let few : h.place.len ≤ longest_payload = held-few h is in
      let view : (lent v h.place).loans ≡ v.loans ++ as_loan h ∷ [] = rw origin refl in
      let helds : (f : HeldPiece → ℕ) → total f (lent v h.place).helds + f h
      ≡ total f v.helds = λ f. taken-out (λ h. h.place) f h v.helds is some helds-once in
      let loans : (f : LentPiece → ℕ) → total f (lent v h.place).loans
      ≡ total f v.loans + f (as_loan h) = λ f. omega (arith, ap (total f) view, total-append f v.loans (as_loan h ∷ [])) in
      record {
        view = rw origin refl;
        apart = record {
          once = λ b x. omega (arith, lie.once b x, helds (λ h. has_at b x h.place), loans (λ l. has_at b x l.place));
          some = omega (
            arith,
            lie.some,
            helds (λ h. is_odd v.setting.layout h.place),
            loans (λ l. is_odd v.setting.layout l.place),
            not-odd v.setting.layout h.place some few (held-lies h is),
          );
        };
        helds = helds;
        loans = loans;
      }

  -- a loan was given back
  pub record TokenGiven (l : LentPiece) : Type 0 where
    pub apart : LieApart (gave v l.place)
    pub loans : (f : LentPiece → ℕ) → total f (gave v l.place).loans + f l ≡ total f v.loans
    pub returned : (gave v l.place).returned ≡ v.returned ++ l ∷ []

  pub is-given : (l : LentPiece) → IsIn l v.loans → TokenGiven l
  is-given l is =
      let some : 0 < l.place.len = loan-some l is in
      let origin = found-at (λ l. l.place) (λ (z : LentPiece). z.origin) (of_copy []) l v.loans is some loans-once in
      let loans : (f : LentPiece → ℕ) → total f (gave v l.place).loans + f l
      ≡ total f v.loans = λ f. taken-out (λ l. l.place) f l v.loans is some loans-once in
      record {
        apart = record {
          once = λ b x. omega (arith, lie.once b x, loans (λ l. has_at b x l.place));
          some = omega (arith, lie.some, loans (λ l. is_odd v.setting.layout l.place));
        };
        loans = loans;
        returned = rw origin refl;
      }

  pub loan-origin : (l : LentPiece) → IsIn l v.loans → at_first (λ z. same_place l.place z.place) (λ (z : LentPiece). z.origin) (of_copy []) v.loans
      ≡ l.origin
  loan-origin l is = found-at (λ l. l.place) (λ (z : LentPiece). z.origin) (of_copy []) l v.loans is (loan-some l is) loans-once

-- ---- what is counted is there

abbrev pub from_note : ℕ → ℕ → Origin → Bool
from_note note at (of_note k a) = (k == note) && (a == at)
from_note note at (of_copy bytes) = false

abbrev pub is_that : Place → ℕ → ℕ → HeldPiece → ℕ
is_that p note at h = if same_place p h.place && from_note note at h.origin then 1 else 0

-- two lists of bytes are one
abbrev pub same_list : List ℕ → List ℕ → Bool
same_list [] [] = true
same_list [] (y ∷ ys) = false
same_list (x ∷ xs) [] = false
same_list (x ∷ xs) (y ∷ ys) = (x == y) && same_list xs ys

-- two origins are one
abbrev pub same_origin : Origin → Origin → Bool
same_origin (of_note k a) (of_note m b) = (k == m) && (a == b)
same_origin (of_note k a) (of_copy ys) = false
same_origin (of_copy xs) (of_note m b) = false
same_origin (of_copy xs) (of_copy ys) = same_list xs ys

abbrev pub is_that_loan : LentPiece → LentPiece → ℕ
is_that_loan l h = if same_place l.place h.place && same_origin l.origin h.origin then 1 else 0

from_note-is : (note at : ℕ) (o : Origin) → from_note note at o ≡ true → o ≡ of_note note at
from_note-is note at (of_note k a) is = (let (k_is, a_is) = both k a is in rw (k_is, a_is) refl)
  where
    both : (k a : ℕ) → (k == note) && (a == at) ≡ true → (k ≡ note) × (a ≡ at)
    both k a is = grind (arith, nat_tests)
from_note-is note at (of_copy bytes) is = cc

pub that-one : (p : Place) (note at : ℕ) → is_that p note at (record { place = p; origin = of_note note at }) ≡ 1
that-one p note at =
    let place : same_place p p ≡ true = same_place-refl p in
    let n : (note == note) ≡ true = eq-eqb note note refl in
    let a : (at == at) ≡ true = eq-eqb at at refl in
    rw (place, n, a) refl

same_list-refl : (xs : List ℕ) → same_list xs xs ≡ true
same_list-refl [] = refl
same_list-refl (x ∷ xs) = let e : (x == x) ≡ true = eq-eqb x x refl in rw (e, same_list-refl xs) refl

same_list-is : (xs ys : List ℕ) → same_list xs ys ≡ true → ys ≡ xs
same_list-is [] [] is = refl
same_list-is [] (y ∷ ys) is = cc
same_list-is (x ∷ xs) [] is = cc
same_list-is (x ∷ xs) (y ∷ ys) is =
    let parts = and_parts (x == y) (same_list xs ys) is in
    let head : y ≡ x = same-number x y parts.0 in
    ap (λ z. z ∷ ys) head ∙ ap (λ zs. x ∷ zs) (same_list-is xs ys parts.1)
  where
    same-number : (a b : ℕ) → (a == b) ≡ true → b ≡ a
    same-number a b is = grind (arith, nat_tests)

pub same_origin-refl : (o : Origin) → same_origin o o ≡ true
same_origin-refl (of_note k a) = let n : (k == k) ≡ true = eq-eqb k k refl in let m : (a == a) ≡ true = eq-eqb a a refl in rw (n, m) refl
same_origin-refl (of_copy xs) = same_list-refl xs

pub same_origin-is : (o q : Origin) → same_origin o q ≡ true → q ≡ o
same_origin-is (of_note k a) (of_note m b) is = (let (k_is, a_is) = both k a m b is in rw (k_is, a_is) refl)
  where
    both : (k a m b : ℕ) → (k == m) && (a == b) ≡ true → (m ≡ k) × (b ≡ a)
    both k a m b is = grind (arith, nat_tests)
same_origin-is (of_note k a) (of_copy ys) is = cc
same_origin-is (of_copy xs) (of_note m b) is = cc
same_origin-is (of_copy xs) (of_copy ys) is = ap (λ zs. of_copy zs) (same_list-is xs ys is)

pub that-loan : (l : LentPiece) → is_that_loan l l ≡ 1
that-loan l =
    let place : same_place l.place l.place ≡ true = same_place-refl l.place in
    let origin : same_origin l.origin l.origin ≡ true = same_origin-refl l.origin in
    rw (place, origin) refl

pub is-there : (p : Place) (note at : ℕ) (xs : List HeldPiece) → 0 < total (is_that p note at) xs
    → IsIn (record { place = p; origin = of_note note at }) xs
is-there p note at [] some = absurd (omega arith)
is-there p note at (x ∷ xs) some = ⊎_elim
    (λ (yes : (same_place p x.place && from_note note at x.origin) ≡ true).
    let parts = and_parts (same_place p x.place) (from_note note at x.origin) yes in
    let place : x.place ≡ p = same_place-is p x.place parts.0 in
    let origin : x.origin ≡ of_note note at = from_note-is note at x.origin parts.1 in
    inl (ap (λ q. the_held q x.origin) place ∙ ap (the_held p) origin))
    (λ (no : (same_place p x.place && from_note note at x.origin) ≡ false). inr
    (is-there p note at xs (let none : is_that p note at x ≡ 0 = rw no refl in omega (arith, none))))
    (cases_Bool (same_place p x.place && from_note note at x.origin))
  where
    the_held : Place → Origin → HeldPiece
    the_held place origin = record { place = place; origin = origin }

pub is-lent-there : (l : LentPiece) (xs : List LentPiece) → 0 < total (is_that_loan l) xs → IsIn l xs
is-lent-there l [] some = absurd (omega arith)
is-lent-there l (x ∷ xs) some = ⊎_elim
    (λ (yes : (same_place l.place x.place && same_origin l.origin x.origin) ≡ true).
    let parts = and_parts (same_place l.place x.place) (same_origin l.origin x.origin) yes in
    let place : x.place ≡ l.place = same_place-is l.place x.place parts.0 in
    let origin : x.origin ≡ l.origin = same_origin-is l.origin x.origin parts.1 in
    inl (ap (λ q. the_loan q x.origin) place ∙ ap (the_loan l.place) origin))
    (λ (no : (same_place l.place x.place && same_origin l.origin x.origin) ≡ false). inr
    (is-lent-there l xs (let none : is_that_loan l x ≡ 0 = rw no refl in omega (arith, none))))
    (cases_Bool (same_place l.place x.place && same_origin l.origin x.origin))
  where
    the_loan : Place → Origin → LentPiece
    the_loan place origin = record { place = place; origin = origin }
