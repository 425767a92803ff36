-- The tags that are out.
use Rattle.std.specs.{Prelude.{◌≡◌, ℕ, ◌≤◌, List, Option, Some, None, IsSome, nat_eq}, Map.{lookup, remove_entry}, Io.KnownBytes.{Keeps}}
use Rattle.futures.specs.declared.task.Poll.{Poll, TheVariants.{Ready, Pending}}

-- each tag with its flow
abbrev pub Tags : Type 0
Tags = List (ℕ × ℕ)

-- a tag that was out is out no longer, and the others are as they were
abbrev pub TakesTag : Tags → Tags → Option ℕ → Type 0
TakesTag old new None = new ≡ old
TakesTag old new (Some tag) = IsSome (lookup (nat_eq tag) old) × (new ≡ remove_entry (nat_eq tag) old) × (lookup (nat_eq tag) new ≡ None)

-- the tag that a poll gave
abbrev pub polled : Poll ℕ → Option ℕ
polled (Ready tag) = Some tag
polled Pending = None

-- how many tags a carrier keeps out where nothing urges it, if it keeps to a number; and how often it was asked for a notice and had none
pub record Pace : Type 0 where
  pub delay : ℕ
  pub looks : ℕ

abbrev pub PaceGoes : Pace → Pace → Type 0
PaceGoes old new = (new.delay ≡ old.delay) × (old.looks ≤ new.looks)

-- no flow got anything
abbrev pub FlowsKeep : (ℕ → Option (List ℕ)) → (ℕ → Option (List ℕ)) → Type 0
FlowsKeep old new = (flow : ℕ) → Keeps (old flow) (new flow)
