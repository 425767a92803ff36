-- A look of an application, whatever it sees, leaves the application's number.
use Rattle.std.proofs.Common.{◌≡◌, ℕ, Bool, true, false, if◌then◌else◌, refl}
use Rattle.board_face.specs.{AppEvents.{app_saw, told_end}, SlotSteps.{side_refill_looked, side_slot_looked}, declared.views.app.AppLook.TheVariants.{NoNote}}
use Rattle.board_face.specs.declared.views.app.AppSide.{AppSide}
use Rattle.ref_words.specs.{FreeSteps.{side_word_looked, side_bit_cleared}, RestSteps.{side_raw_looked, side_any_looked, side_last_looked}}
use Rattle.ref_words.specs.PhaseSteps.{side_end_looked, side_note_sought, side_reserve_looked}

pub refill_looked-number : (app : AppSide) (saw : Bool) → (side_refill_looked app saw).view.app ≡ app.view.app
refill_looked-number app true = refl
refill_looked-number app false = refl

pub slot_looked-number : (app : AppSide) (saw : Bool) → (side_slot_looked app saw).view.app ≡ app.view.app
slot_looked-number app true = refl
slot_looked-number app false = refl

pub raw_looked-number : (app : AppSide) (saw : Bool) → (side_raw_looked app saw).view.app ≡ app.view.app
raw_looked-number app true = refl
raw_looked-number app false = refl

pub any_looked-number : (app : AppSide) (s : ℕ) (saw : Bool) → (side_any_looked app s saw).view.app ≡ app.view.app
any_looked-number app s true = refl
any_looked-number app s false = refl

pub last_looked-number : (app : AppSide) (s : ℕ) (saw : Bool) → (side_last_looked app s saw).view.app ≡ app.view.app
last_looked-number app s true = refl
last_looked-number app s false = refl

pub word_looked-number : (app : AppSide) (j : ℕ) (saw : Bool) → (side_word_looked app j saw).view.app ≡ app.view.app
word_looked-number app j true = refl
word_looked-number app j false = refl

pub bit_cleared-number : (app : AppSide) (j b : ℕ) (saw : Bool) → (side_bit_cleared app j b saw).view.app ≡ app.view.app
bit_cleared-number app j b true = refl
bit_cleared-number app j b false = refl

pub end_looked-number : (app : AppSide) (saw : Bool) → (side_end_looked app saw).view.app ≡ app.view.app
end_looked-number app true = refl
end_looked-number app false = refl

pub reserve_looked-number : (app : AppSide) (saw : Bool) → (side_reserve_looked app saw).view.app ≡ app.view.app
reserve_looked-number app true = refl
reserve_looked-number app false = refl

empty-number : (app : AppSide) (seen unseen : Bool)
    → (if seen then record app { view = told_end app.view; inside = record app.inside { end_unseen = false } }
    else if unseen then record app { view = app_saw app.view NoNote; inside = record app.inside { end_unseen = false } }
    else app).view.app ≡ app.view.app
empty-number app true unseen = refl
empty-number app false true = refl
empty-number app false false = refl

pub note_sought-number : (app : AppSide) (full : Bool) → (side_note_sought app full).view.app ≡ app.view.app
note_sought-number app true = refl
note_sought-number app false = empty-number app app.inside.end_seen app.inside.end_unseen
