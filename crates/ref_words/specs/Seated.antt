-- Who has which role: a word of the roles is 1 exactly where one seat has that role, or the desk after it went back.
use Rattle.std.specs.Prelude.{◌≡◌, ℕ, ◌+◌, ◌<◌, ◌≤◌, ◌≢◌, ◌==◌, if◌then◌else◌, List, [], ◌∷◌, ◌++◌, length, slice_index, slice_index_or}
use mathlib.Core.Option.{some}
use lib.ListN.{get_elem?}
use Rattle.board_face.specs.{NicCalls.{apps_of}, Opened.{new_nic, new_app}, declared.views.{parts.Setting.{Setting}, nic.NicSide.{NicSide}, app.AppSide.{AppSide}}}
use Rattle.ref_words.specs.declared.view.View.{View}

module _ {V S : Type 0} (sides : V → List S) (number : S → ℕ) where
  -- how many of these sides have a number
  abbrev pub times_in : ℕ → List S → ℕ
  times_in k [] = 0
  times_in k (s ∷ ss) = (if number s == k then 1 else 0) + times_in k ss

  -- how often the seats have it
  abbrev pub times_taken : ℕ → List V → ℕ
  times_taken k [] = 0
  times_taken k (v ∷ views) = times_in k (sides v) + times_taken k views

  -- Of `many` roles, each was taken by no seat or by one, as its word says. What a seat has of a role is the role's side;
  -- that of a role which was never taken is as at the opening.
  pub record AreTaken (many : ℕ) (word : ℕ → ℕ) (side opened : ℕ → S) (views : List V) : Type 0 where
    pub told : (k : ℕ) → k < many → times_taken k views ≡ word k
    pub once : (k : ℕ) → k < many → word k ≤ 1
    pub untaken : (k : ℕ) → k < many → word k ≡ 0 → side k ≡ opened k
    pub has : (i m : ℕ) (v : V) (s : S) → get_elem? views i ≡ some v → get_elem? (sides v) m ≡ some s → (number s < many) × (s ≡ side (number s))

-- Each role that the desk dealt out is due to one new seat, or was taken. The desk is the first seat.
pub record AreDealt (roles : List ℕ) (views : List View) : Type 0 where
  pub sum : (r : ℕ) → r < length roles → times_taken (λ v. v.due) (λ x. x) r views + slice_index roles r ≡ times_taken (λ v. v.dealt)
      (λ x. x) r views
  pub once : (r : ℕ) → r < length roles → times_taken (λ v. v.dealt) (λ x. x) r views ≤ 1
  pub desk : (i : ℕ) (v : View) → get_elem? views i ≡ some v → i ≢ 0 → v.dealt ≡ []

-- the view of a seat that has the card's role, or an application's, or is to take a role, or has none
abbrev pub card_seat_view : NicSide → View
card_seat_view nic = record { nics = nic ∷ []; apps = []; due = []; dealt = [] }

abbrev pub app_seat_view : AppSide → View
app_seat_view app = record { nics = []; apps = app ∷ []; due = []; dealt = [] }

abbrev pub due_view : ℕ → View
due_view r = record { nics = []; apps = []; due = r ∷ []; dealt = [] }

abbrev pub no_role : View
no_role = record { nics = []; apps = []; due = []; dealt = [] }

-- the desk's view, once it dealt a role out
abbrev pub dealt_out : ℕ → View → View
dealt_out r v = record v { dealt = v.dealt ++ r ∷ [] }

-- a seat's view, once it took in another's
abbrev pub both_sides : View → View → View
both_sides v w = record { nics = v.nics ++ w.nics; apps = v.apps ++ w.apps; due = v.due ++ w.due; dealt = v.dealt ++ w.dealt }

-- the side of an application among those of the board
abbrev pub side_at : Setting → List AppSide → ℕ → AppSide
side_at setting apps a = slice_index_or apps a (new_app setting a)

pub record Seated (setting : Setting) (roles : List ℕ) (views : List View) (nic : NicSide) (apps : List AppSide) : Type 0 where
  pub card : AreTaken (λ v. v.nics) (λ _. 0) 1 (λ _. slice_index roles 0) (λ _. nic) (λ _. new_nic setting) views
  pub others : AreTaken (λ v. v.apps) (λ s. s.view.app) (apps_of setting) (λ a. slice_index roles (1 + a)) (side_at setting apps) (new_app setting) views
  pub dealt : AreDealt roles views
