-- The seats of the card and of the applications, after a step of one of them.
use Rattle.std.{proofs.Common.{◌≡◌, ℕ, zero, ◌+◌, ◌<◌, List, [], ◌∷◌, ◌++◌, set, get_or, length, refl, sym, ◌∙◌, arith}, specs.Prelude.{◌≢◌}}
use Rattle.std.proofs.lemmas.List.{get_or-set_same, get_or-set_other, length-set, get_or_default}
use mathlib.Core.Option.{some}
use lib.ListN.{get_elem?}
use Rattle.board_face.specs.{NicCalls.{apps_of}, Opened.{new_nic, new_app}, Sides.{IsApp}, declared.views.{parts.Setting.{Setting}, nic.NicSide.{NicSide}}}
use Rattle.board_face.specs.declared.views.app.AppSide.{AppSide}
use Rattle.ref_words.specs.{declared.view.View.{View}, Words.{Words, with_role}}
use Rattle.ref_words.specs.{Seated.{Seated, times_in, card_seat_view, app_seat_view, due_view, dealt_out, both_sides, no_role, side_at}, Rule.{RefRule}}
use Rattle.ref_words.proofs.RingSteps.{rings-words}
use Rattle.ref_words.proofs.Seating as seating

module _ (setting : Setting) (roles : List ℕ) (views : List View) (nic : NicSide) (apps : List AppSide) (seated : Seated setting roles views nic apps) where
  pub card-is : (id : ℕ) (mine : NicSide) → get_elem? views id ≡ some (card_seat_view mine) → mine ≡ nic
  card-is id mine at = (seated.card.has id zero (card_seat_view mine) mine at refl).1

  pub app-is : (id : ℕ) (mine : AppSide) → get_elem? views id ≡ some (app_seat_view mine) → length apps ≡ apps_of setting → IsApp apps mine.view.app mine
  app-is id mine at many =
      let known = seated.others.has id zero (app_seat_view mine) mine at refl in
      let bound : mine.view.app < length apps = omega (arith, known.0, many) in
      record { there = bound; is = get_or_default apps mine.view.app mine (new_app setting mine.view.app) bound ∙ sym known.1; number = refl }

  -- a step of the card's seat
  pub card-moves : (id : ℕ) (mine now : NicSide) → get_elem? views id ≡ some (card_seat_view mine)
      → Seated setting roles (set views id (card_seat_view now)) now apps
  card-moves id mine now at = record {
    card = seating.moves (λ v. v.nics) (λ _. 0) 1 _ _ _ views seated.card (λ _. now) id (card_seat_view mine) (card_seat_view now) mine now at refl refl
        refl refl
        (λ k small ne. absurd (ne (omega arith)));
    others = seating.rests (λ v. v.apps) (λ s. s.view.app) (apps_of setting) _ _ _ views seated.others _ id (card_seat_view mine) (card_seat_view now) at refl
        (λ k small. refl);
    dealt = seating.deal-rests roles views seated.dealt id (card_seat_view mine) (card_seat_view now) at refl refl;
  }

  -- a step of an application's seat
  pub app-moves : (id : ℕ) (mine now : AppSide) → get_elem? views id ≡ some (app_seat_view mine) → now.view.app ≡ mine.view.app
      → length apps ≡ apps_of setting → Seated setting roles (set views id (app_seat_view now)) nic (set apps mine.view.app now)
  app-moves id mine now at same many =
      let a = mine.view.app in
      let here = app-is id mine at many in
      record {
        card = seating.rests (λ v. v.nics) (λ _. 0) 1 _ _ _ views seated.card _ id (app_seat_view mine) (app_seat_view now) at refl (λ k small. refl);
        others = seating.moves (λ v. v.apps) (λ s. s.view.app) (apps_of setting) _ _ _ views seated.others (side_at setting (set apps a now)) id
            (app_seat_view mine) (app_seat_view now) mine now at refl refl same
            (get_or-set_same apps a now (new_app setting a) here.there)
            (λ k small ne. get_or-set_other apps a k now (new_app setting k) ne);
        dealt = seating.deal-rests roles views seated.dealt id (app_seat_view mine) (app_seat_view now) at refl refl;
      }

  -- a seat to which a role is due takes it: the card's, or an application's
  pub card-enters : (id : ℕ) → get_elem? views id ≡ some (due_view 0) → 0 < length roles
      → Seated setting (set roles 0 1) (set views id (card_seat_view (new_nic setting))) nic apps
  card-enters id at there =
      let was = seating.due-untaken roles views seated.dealt id 0 (due_view 0) at refl there in
      record {
        card = seating.enters (λ v. v.nics) (λ _. 0) 1 _ _ _ views seated.card (λ _. get_or (set roles 0 1) 0 0) id 0 (due_view 0) (card_seat_view
            (new_nic setting)) at refl refl refl (omega arith) was (get_or-set_same roles 0 1 0 there) (λ j small ne. absurd (ne (omega arith)));
        others = seating.rests (λ v. v.apps) (λ s. s.view.app) (apps_of setting) _ _ _ views seated.others (λ a. get_or (set roles 0 1) (1 + a) 0) id
            (due_view 0) (card_seat_view (new_nic setting)) at refl (λ k small. get_or-set_other roles 0 (1 + k) 1 0 (λ e. absurd (omega arith)));
        dealt = seating.deal-enters roles views seated.dealt id 0 (due_view 0) (card_seat_view (new_nic setting)) at refl refl refl there;
      }

  pub app-enters : (id a : ℕ) → get_elem? views id ≡ some (due_view (1 + a)) → a < apps_of setting → 1 + a < length roles
      → Seated setting (set roles (1 + a) 1) (set views id (app_seat_view (new_app setting a))) nic apps
  app-enters id a at small there =
      let was = seating.due-untaken roles views seated.dealt id (1 + a) (due_view (1 + a)) at refl there in
      record {
        card = seating.rests (λ v. v.nics) (λ _. 0) 1 _ _ _ views seated.card (λ _. get_or (set roles (1 + a) 1) 0 0) id (due_view (1 + a)) (app_seat_view
            (new_app setting a)) at refl (λ k few. get_or-set_other roles (1 + a) 0 1 0 (λ e. absurd (omega arith)));
        others = seating.enters (λ v. v.apps) (λ s. s.view.app) (apps_of setting) _ _ _ views seated.others (λ k. get_or (set roles (1 + a) 1)
            (1 + k) 0) id a (due_view (1 + a)) (app_seat_view (new_app setting a)) at refl refl refl small was (get_or-set_same roles (1 + a) 1 0 there)
            (λ j few ne. get_or-set_other roles (1 + a) (1 + j) 1 0 (λ e. ne (omega arith)));
        dealt = seating.deal-enters roles views seated.dealt id (1 + a) (due_view (1 + a)) (app_seat_view (new_app setting a)) at refl refl refl there;
      }

  -- the desk deals a role out to a new seat
  pub splits : (r : ℕ) (v : View) → get_elem? views 0 ≡ some v → times_in (λ (v : View). v.dealt) (λ x. x) r v.dealt ≡ 0
      → Seated setting roles (set views 0 (dealt_out r v) ++ due_view r ∷ []) nic apps
  splits r v at fresh = record {
    card = seating.splits (λ v. v.nics) (λ _. 0) 1 _ _ _ views seated.card 0 v (dealt_out r v) (due_view r) at refl refl;
    others = seating.splits (λ v. v.apps) (λ s. s.view.app) (apps_of setting) _ _ _ views seated.others 0 v (dealt_out r v) (due_view r) at refl refl;
    dealt = seating.deal-splits roles views seated.dealt r v at fresh;
  }

  -- a seat with its role comes back
  pub joins : (id other : ℕ) (v w : View) → get_elem? views id ≡ some v → other ≢ id → get_elem? views other ≡ some w → w.due ≡ []
      → w.dealt ≡ [] → Seated setting roles (set (set views id (both_sides v w)) other no_role) nic apps
  joins id other v w at ne at' none out = record {
    card = seating.joins (λ v. v.nics) (λ _. 0) 1 _ _ _ views seated.card id other v w (both_sides v w) no_role at ne at' refl refl;
    others = seating.joins (λ v. v.apps) (λ s. s.view.app) (apps_of setting) _ _ _ views seated.others id other v w
        (both_sides v w) no_role at ne at' refl refl;
    dealt = seating.deal-joins roles views seated.dealt id other v w at ne at' none out;
  }

pub role-taken : (setting : Setting) (words : Words) (nic : NicSide) (apps : List AppSide) (r : ℕ) → RefRule setting words nic apps
    → RefRule setting (with_role words r) nic apps
role-taken setting words nic apps r rule = record {
  layout = rule.layout;
  sizes = assumption (length-set words.roles r 1 ∙ rule.sizes.roles, rule.sizes);
  sides = rule.sides;
  pool = rule.pool;
  users = rule.users;
  free = assumption rule.free;
  kept = assumption rule.kept;
  rings = rings-words setting words (with_role words r) nic apps refl refl rule.rings;
}
