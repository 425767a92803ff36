-- Steps, one behind another.

pub data Behind {A : Type 0} (Step : A → A → Type 0) (first : A) : A → Type 0 where
  begins : Behind Step first first
  behind : (was now : A) → Behind Step first was → Step was now → Behind Step first now
