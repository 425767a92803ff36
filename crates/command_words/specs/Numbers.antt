-- The numbers that words write.
use Rattle.std.specs.Prelude.{ℕ, Bool, true, List, [], ◌∷◌, length, nat_le, nat_eq, not, if◌then◌else◌, ◌&&◌, Option, Some, None, option_and_then, option_map}
use Rattle.std.specs.{Char.{is_ascii_digit}, List.{list_all, list_any}, Str.Parse.{digits_value}}

-- 1 to 18 ASCII digits, leading zeros allowed
abbrev pub is_number : List ℕ → Bool
is_number word = nat_le 1 (length word) && nat_le (length word) 18 && list_all is_ascii_digit word

abbrev pub value_of : List ℕ → Option ℕ
value_of word = if is_number word then Some (digits_value 10 word) else None

abbrev pub within : ℕ → ℕ → ℕ → Option ℕ
within least most number = if nat_le least number && nat_le number most then Some number else None

-- a number in a range
abbrev pub in_range : ℕ → ℕ → List ℕ → Option ℕ
in_range least most word = option_and_then (within least most) (value_of word)

-- a number of at most so much
abbrev pub up_to : ℕ → List ℕ → Option ℕ
up_to most word = in_range 0 most word

abbrev pub port_of : List ℕ → Option ℕ
port_of word = in_range 1 65535 word

-- no item is the same as a later one
abbrev pub is_distinct : {X : Type 0} → (X → X → Bool) → List X → Bool
is_distinct same [] = true
is_distinct same (x ∷ xs) = not (list_any (same x) xs) && is_distinct same xs

-- the port of each word, where each is one
abbrev pub all_ports : List (List ℕ) → Option (List ℕ)
all_ports [] = Some []
all_ports (word ∷ words) =
    option_and_then (λ port. option_map (λ ports. port ∷ ports) (all_ports words)) (port_of word)

abbrev pub is_port_list : List ℕ → Bool
is_port_list ports = nat_le 1 (length ports) && nat_le (length ports) 8 && is_distinct nat_eq ports

-- the words as 1 to 8 distinct ports, in their order
abbrev pub ports_of : List (List ℕ) → Option (List ℕ)
ports_of words = option_and_then (λ ports. if is_port_list ports then Some ports else None) (all_ports words)
