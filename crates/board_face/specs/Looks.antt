-- Looks. Each answer 'not now' of a face has a count, and comes only in a call in which its count rose. A count never
-- falls, and is as large as it is: it has no greatest value. What a look tells beyond that is each board's to say, by
-- `tells` of the face.
use Rattle.std.specs.Prelude.{◌≡◌, ℕ, ◌+◌, ◌<◌, ◌≤◌, ◌⊎◌, Bool, true, false, if◌then◌else◌, List, [], ◌∷◌, ◌==◌, ◌&&◌}
use Rattle.board_face.specs.declared.views.nic.NicLook.{NicLook, TheVariants.{RingEmpty, NoteInUse, Swept, NotLeft, HasLeft, NotOwed, Owed, LastHolder, StillHeld}}
use Rattle.board_face.specs.declared.views.{nic.NicView.{NicView}, app.AppLook.{AppLook}}
use Rattle.board_face.specs.declared.views.app.{AppLook.TheVariants.{NoNote, CardEnded, RefillInUse, RawOnItsWay, NoneListed, NoSpare, NotQuiet}, AppView.{AppView}}

abbrev pub same_nic_look : NicLook → NicLook → Bool
same_nic_look (RingEmpty a) (RingEmpty b) = a == b
same_nic_look (NoteInUse a) (NoteInUse b) = a == b
same_nic_look (Swept a) (Swept b) = a == b
same_nic_look (NotLeft a) (NotLeft b) = a == b
same_nic_look (HasLeft a) (HasLeft b) = a == b
same_nic_look (NotOwed a x) (NotOwed b y) = (a == b) && (x == y)
same_nic_look (Owed a x) (Owed b y) = (a == b) && (x == y)
same_nic_look (LastHolder x) (LastHolder y) = x == y
same_nic_look (StillHeld x) (StillHeld y) = x == y
same_nic_look look other = false

abbrev pub same_app_look : AppLook → AppLook → Bool
same_app_look NoNote NoNote = true
same_app_look CardEnded CardEnded = true
same_app_look RefillInUse RefillInUse = true
same_app_look RawOnItsWay RawOnItsWay = true
same_app_look NoneListed NoneListed = true
same_app_look NoSpare NoSpare = true
same_app_look NotQuiet NotQuiet = true
same_app_look look other = false

-- how often this stands in the list
abbrev pub times : {A : Type 0} → (A → A → Bool) → A → List A → ℕ
times same x [] = 0
times same x (y ∷ ys) = (if same x y then 1 else 0) + times same x ys

-- how often the card has seen this
abbrev pub nic_looks : NicView → NicLook → ℕ
nic_looks v look = times same_nic_look look v.looks

-- how often the application has seen this
abbrev pub app_looks : AppView → AppLook → ℕ
app_looks v look = times same_app_look look v.looks

-- the count of this look rose
pub record NicRose (look : NicLook) (old new : NicView) : Type 0 where
  pub rose : nic_looks old look < nic_looks new look

pub record AppRose (look : AppLook) (old new : AppView) : Type 0 where
  pub rose : app_looks old look < app_looks new look

-- no count of looks fell
pub record NicLooksStay (old new : NicView) : Type 0 where
  pub later : (look : NicLook) → nic_looks old look ≤ nic_looks new look

pub record AppLooksStay (old new : AppView) : Type 0 where
  pub later : (look : AppLook) → app_looks old look ≤ app_looks new look

-- What is said of each look whose count rose.
abbrev pub NicTold : (NicLook → Type 0) → NicView → NicView → Type 0
NicTold is_so old new = (look : NicLook) → NicRose look old new → is_so look

abbrev pub AppTold : (AppLook → Type 0) → AppView → AppView → Type 0
AppTold is_so old new = (look : AppLook) → AppRose look old new → is_so look

-- An application's user counts are scrubbed; or a refill slot was seen in use, and at no look was each seen free.
abbrev pub ScrubsIfQuiet : AppView → AppView → Type 0
ScrubsIfQuiet old new = old.scrubbed ≡ false → (new.scrubbed ≡ true) ⊎ (AppRose NotQuiet old new × (new.quiet ≡ old.quiet))
