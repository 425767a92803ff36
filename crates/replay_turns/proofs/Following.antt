-- Turns behind turns.
use Rattle.std.{proofs.Common.{ℕ, suc, Bool, true, false, List, [], ◌∷◌, ◌++◌, map, ◌⊎◌, ◌+◌, ◌≡◌, inl, inr, refl, subst, arith}, specs.Prelude.{MatchBool}}
use Rattle.run_account.specs.Views.{Streams}
use Rattle.replay_turns.specs.{Following.{RoleMoves, Follows, round_of, rounds_of}, Running.{Moment}, Schedule.{role_of}, declared.role.Role.{Role, TheVariants.{App}}}

module _ {S T : Type 0} {m : Streams S T} where
  pub follows-through : (roles more : List Role) (first mid last : Moment m) → Follows roles first mid
      → Follows more mid last → Follows (roles ++ more) first last
  follows-through [] more first mid last same later = subst (λ x. Follows more x last) same later
  follows-through (role ∷ roles) more first mid last before later =
      (before.0, before.1, follows-through roles more before.0 mid last before.2 later)

  -- one more letter
  pub follows-letter : (turns : List ℕ) (letter : ℕ) (first was now : Moment m) → Follows (map role_of turns) first was
      → RoleMoves (role_of letter) was now → Follows (map role_of (turns ++ letter ∷ [])) first now
  follows-letter [] letter first was now same moves = (now, subst (λ x. RoleMoves (role_of letter) x now) same moves, refl)
  follows-letter (other ∷ turns) letter first was now before moves =
      (before.0, before.1, follows-letter turns letter before.0 was now before.2 moves)

  -- one more application of a round
  pub follows-app : (app : ℕ) (first was now : Moment m) → Follows (round_of app) first was
      → RoleMoves (App app) was now → Follows (round_of (app + 1)) first now
  follows-app app first was now before moves =
      subst (λ n. Follows (round_of n) first now) (let e : suc app ≡ app + 1 = omega arith in e)
      (follows-through (round_of app) (App app ∷ []) first was now before (now, moves, refl))

  -- one more round, of as many applications
  pub follows-round : (apps n rounds : ℕ) (first was now : Moment m) → n ≡ apps → Follows (rounds_of apps rounds) first was
      → Follows (round_of n) was now → Follows (rounds_of apps (suc rounds)) first now
  follows-round apps n rounds first was now same before round =
      follows-through (rounds_of apps rounds) (round_of apps) first was now before
      (subst (λ k. Follows (round_of k) was now) same round)

pub either : (did : Bool) (A B : Type 0) → MatchBool did A B → A ⊎ B
either true A B holds = inl holds
either false A B holds = inr holds
