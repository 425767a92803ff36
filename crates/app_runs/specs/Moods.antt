-- What a contract sees of a carrier that tells as it likes.
use Rattle.std.specs.Prelude.{ℕ}
use Rattle.zc_forward.specs.Tags.{Tags}

pub record Mind (T : Type 0) : Type 0 where
  pub shelf : T
  pub out : Tags
  pub faults : ℕ
  pub appended : ℕ
  pub looks : ℕ
