-- A look raises its count by one, and lowers none.
use Rattle.std.{proofs.Common.{◌≡◌, ◌≤◌, Bool, true, false, List, ◌∷◌, refl, ap, sym, subst, arith, ⊎_elim}, specs.Prelude.{◌==◌}}
use Rattle.std.proofs.lemmas.Bool.{cases_Bool, eqb-true, and_parts}
use Rattle.board_face.specs.declared.views.nic.NicLook.{NicLook, TheVariants.{RingEmpty, NoteInUse, Swept, NotLeft, HasLeft, NotOwed, Owed, LastHolder, StillHeld}}
use Rattle.board_face.specs.declared.views.app.AppLook.{AppLook, TheVariants.{NoNote, CardEnded, RefillInUse, RawOnItsWay, NoneListed, NoSpare, NotQuiet}}
use Rattle.board_face.specs.declared.views.{nic.NicView.{NicView}, app.AppView.{AppView}}
use Rattle.board_face.specs.{Looks.{same_nic_look, same_app_look, times, NicRose, AppRose, NicLooksStay, NicTold, AppTold}, NicEvents.{nic_saw}, AppEvents.{app_saw}}
use Rattle.board_face.proofs.{ListLemmas.{eqb_same}, Tallies.{one_if}}

pub same_nic_look-refl : (look : NicLook) → same_nic_look look look ≡ true
same_nic_look-refl (RingEmpty a) = eqb_same a
same_nic_look-refl (NoteInUse a) = eqb_same a
same_nic_look-refl (Swept a) = eqb_same a
same_nic_look-refl (NotLeft a) = eqb_same a
same_nic_look-refl (HasLeft a) = eqb_same a
same_nic_look-refl (NotOwed a b) = rw (eqb_same a, eqb_same b) refl
same_nic_look-refl (Owed a b) = rw (eqb_same a, eqb_same b) refl
same_nic_look-refl (LastHolder a) = eqb_same a
same_nic_look-refl (StillHeld a) = eqb_same a

pub same_app_look-refl : (look : AppLook) → same_app_look look look ≡ true
same_app_look-refl NoNote = refl
same_app_look-refl CardEnded = refl
same_app_look-refl RefillInUse = refl
same_app_look-refl RawOnItsWay = refl
same_app_look-refl NoneListed = refl
same_app_look-refl NoSpare = refl
same_app_look-refl NotQuiet = refl

pub times-more : {A : Type 0} (same : A → A → Bool) (x y : A) (ys : List A) → times same x ys ≤ times same x (y ∷ ys)
times-more same x y ys = omega arith

-- a look raises its count
pub NicRose-nic_saw : (v : NicView) (look : NicLook) → NicRose look v (nic_saw v look)
NicRose-nic_saw v look = record { rose = rw (same_nic_look-refl look) (omega arith) }

pub AppRose-app_saw : (v : AppView) (look : AppLook) → AppRose look v (app_saw v look)
AppRose-app_saw v look = record { rose = rw (same_app_look-refl look) (omega arith) }

-- and no other falls
pub NicLooksStay-nic_saw : (v : NicView) (look : NicLook) → NicLooksStay v (nic_saw v look)
NicLooksStay-nic_saw v look = record { later = λ other. times-more same_nic_look other look v.looks }

-- ---- over several calls

pub NicLooksStay-same : (v w : NicView) → w.looks ≡ v.looks → NicLooksStay v w
NicLooksStay-same v w same = record { later = λ look. rw same (omega arith) }

pub NicLooksStay-trans : (u v w : NicView) → NicLooksStay u v → NicLooksStay v w → NicLooksStay u w
NicLooksStay-trans u v w first then = record { later = λ look. omega (arith, first.later look, then.later look) }

-- a count that rose in the last call rose over all
pub NicRose-later : (u v w : NicView) (look : NicLook) → NicLooksStay u v → NicRose look v w → NicRose look u w
NicRose-later u v w look stay rose = record { rose = omega (arith, stay.later look, rose.rose) }

-- and so did one that rose in an earlier call
pub NicRose-before : (u v w : NicView) (look : NicLook) → NicRose look u v → NicLooksStay v w → NicRose look u w
NicRose-before u v w look rose stay = record { rose = omega (arith, stay.later look, rose.rose) }

-- ---- what is told of a look that rose

pub same_nic_look-is : (x y : NicLook) → same_nic_look x y ≡ true → x ≡ y
same_nic_look-is (RingEmpty a) (RingEmpty b) e = ap RingEmpty (eqb-true a b e)
same_nic_look-is (NoteInUse a) (NoteInUse b) e = ap NoteInUse (eqb-true a b e)
same_nic_look-is (Swept a) (Swept b) e = ap Swept (eqb-true a b e)
same_nic_look-is (NotLeft a) (NotLeft b) e = ap NotLeft (eqb-true a b e)
same_nic_look-is (HasLeft a) (HasLeft b) e = ap HasLeft (eqb-true a b e)
same_nic_look-is (NotOwed a i) (NotOwed b j) e = let both = and_parts (a == b)
    (i == j) e in let app = eqb-true a b both.0 in let buffer = eqb-true i j both.1 in cc
same_nic_look-is (Owed a i) (Owed b j) e = let both = and_parts (a == b) (i == j) e in let app = eqb-true a b both.0 in let buffer = eqb-true i j both.1 in cc
same_nic_look-is (LastHolder a) (LastHolder b) e = ap LastHolder (eqb-true a b e)
same_nic_look-is (StillHeld a) (StillHeld b) e = ap StillHeld (eqb-true a b e)
same_nic_look-is x y e = absurd (let no : false ≡ true = e in cc)

pub same_app_look-is : (x y : AppLook) → same_app_look x y ≡ true → x ≡ y
same_app_look-is NoNote NoNote e = refl
same_app_look-is CardEnded CardEnded e = refl
same_app_look-is RefillInUse RefillInUse e = refl
same_app_look-is RawOnItsWay RawOnItsWay e = refl
same_app_look-is NoneListed NoneListed e = refl
same_app_look-is NoSpare NoSpare e = refl
same_app_look-is NotQuiet NotQuiet e = refl
same_app_look-is x y e = absurd (let no : false ≡ true = e in cc)

-- a look that isn't the one in front stands no more often than behind it
times-other : {A : Type 0} (same : A → A → Bool) (x y : A) (ys : List A) → same x y ≡ false → times same x (y ∷ ys) ≡ times same x ys
times-other same x y ys other = omega (arith, ap one_if other)

pub NicTold-none : (is_so : NicLook → Type 0) (v w : NicView) → w.looks ≡ v.looks → NicTold is_so v w
NicTold-none is_so v w same look rose = absurd (omega (arith, rose.rose, ap (times same_nic_look look) same))

pub NicTold-one : (is_so : NicLook → Type 0) (v w : NicView) (x : NicLook) → w.looks ≡ x ∷ v.looks → is_so x → NicTold is_so v w
NicTold-one is_so v w x more so look rose =
    ⊎_elim
    (λ same. subst is_so (sym (same_nic_look-is look x same)) so)
    (λ other. absurd (omega (arith, rose.rose, ap (times same_nic_look look) more, times-other same_nic_look look x v.looks other)))
    (cases_Bool (same_nic_look look x))

pub NicTold-two : (is_so : NicLook → Type 0) (v w : NicView) (x y : NicLook) → w.looks ≡ x ∷ y ∷ v.looks → is_so x → is_so y → NicTold is_so v w
NicTold-two is_so v w x y more so also look rose =
    ⊎_elim
    (λ same. subst is_so (sym (same_nic_look-is look x same)) so)
    (λ other. ⊎_elim
    (λ same. subst is_so (sym (same_nic_look-is look y same)) also)
    (λ other_too. absurd (omega (
      arith,
      rose.rose,
      ap (times same_nic_look look) more,
      times-other same_nic_look look x (y ∷ v.looks) other,
      times-other same_nic_look look y v.looks other_too,
    )))
    (cases_Bool (same_nic_look look y)))
    (cases_Bool (same_nic_look look x))

pub AppTold-none : (is_so : AppLook → Type 0) (v w : AppView) → w.looks ≡ v.looks → AppTold is_so v w
AppTold-none is_so v w same look rose = absurd (omega (arith, rose.rose, ap (times same_app_look look) same))

pub AppTold-one : (is_so : AppLook → Type 0) (v w : AppView) (x : AppLook) → w.looks ≡ x ∷ v.looks → is_so x → AppTold is_so v w
AppTold-one is_so v w x more so look rose =
    ⊎_elim
    (λ same. subst is_so (sym (same_app_look-is look x same)) so)
    (λ other. absurd (omega (arith, rose.rose, ap (times same_app_look look) more, times-other same_app_look look x v.looks other)))
    (cases_Bool (same_app_look look x))
