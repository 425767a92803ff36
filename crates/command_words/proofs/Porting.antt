-- The ports of words, one after another; and what a list of ports that is read is.
use Rattle.std.proofs.Common.{◌≡◌, ◌∙◌, ◌<◌, ◌≤◌, ◌+◌, ◌++◌, ◌&&◌, ℕ, Bool, true, false, not, refl, sym, ap, subst, arith}
use Rattle.std.proofs.Common.{add-one, zero, suc, List, [], ◌∷◌, drop, length, get_or, Option, Some, None, option_map, append_assoc, append-nil, nat_eq, All}
use Rattle.std.{proofs.{Math.Seq.{drop-cons}, lemmas.List.{drop_all}}, specs.{Prelude.{option_and_then, nat_le}, Borrow.{Bor}}}
use Rattle.std.{specs.List.{AllByRecursion, IsDistinct, list_any}, proofs.lemmas.Bool.{Decides.{nat_tests}, and_parts}}
use Rattle.command_words.{specs.{Numbers.{all_ports, is_distinct, is_port_list, port_of, ports_of, value_of, within}, Words.{IsPortList}}, proofs.Adding.{texts}}
use Rattle.command_words.proofs.Ranges.{read-within}

abbrev pub onto : List ℕ → Option (List ℕ) → Option (List ℕ)
onto ports = option_map (λ rest. ports ++ rest)

-- the ports from the place i on
abbrev pub ports_from : List (Bor (List ℕ)) → ℕ → Option (List ℕ)
ports_from words i = all_ports (texts (drop i words))

abbrev first_then : Option ℕ → Option (List ℕ) → Option (List ℕ)
first_then port rest = option_and_then (λ p. option_map (λ ports. p ∷ ports) rest) port

next_port : (words : List (Bor (List ℕ))) (i : ℕ) (d : Bor (List ℕ)) → i < length words
    → ports_from words i ≡ first_then (port_of (get_or words i d).now) (ports_from words (i + 1))
next_port words i d lt = rw (add-one, drop-cons words i d lt) refl

onto_next : (ports : List ℕ) (p : ℕ) (rest : Option (List ℕ)) → onto ports (first_then (Some p) rest) ≡ onto (ports ++ p ∷ []) rest
onto_next ports p None = refl
onto_next ports p (Some rest) = ap Some (sym (append_assoc ports (p ∷ []) rest))

-- one more port
pub port_read : (words : List (Bor (List ℕ))) (i : ℕ) (d : Bor (List ℕ)) (ports : List ℕ) (p : ℕ) → i < length words
    → Some p ≡ port_of (get_or words i d).now
    → all_ports (texts words) ≡ onto ports (ports_from words i) → all_ports (texts words) ≡ onto (ports ++ p ∷ []) (ports_from words (i + 1))
port_read words i d ports p lt is before =
    before ∙ ap (onto ports) (next_port words i d lt ∙ ap (λ o. first_then o (ports_from words (i + 1))) (sym is))
    ∙ onto_next ports p (ports_from words (i + 1))

-- no port
pub port_missing : (words : List (Bor (List ℕ))) (i : ℕ) (d : Bor (List ℕ)) (ports : List ℕ) → i < length words
    → None ≡ port_of (get_or words i d).now
    → all_ports (texts words) ≡ onto ports (ports_from words i) → None ≡ all_ports (texts words)
port_missing words i d ports lt is before = sym (before ∙ ap (onto ports)
    (next_port words i d lt ∙ ap (λ o. first_then o (ports_from words (i + 1))) (sym is)))

pub all_read : (words : List (Bor (List ℕ))) (i : ℕ) (ports : List ℕ) → length words ≤ i
    → all_ports (texts words) ≡ onto ports (ports_from words i) → Some ports ≡ all_ports (texts words)
all_read words i ports past before = sym (before ∙ rw (drop_all i words past) (ap Some (append-nil ports)))

-- ---- what a list of ports that is read is

none_same : (x : ℕ) (xs : List ℕ) → not (list_any (nat_eq x) xs) ≡ true → AllByRecursion (λ y. nat_eq x y ≡ false) xs
none_same x [] h = tt
none_same x (y ∷ ys) h = go (nat_eq x y) refl (none_same x ys)
  where
    go : (b : Bool) → nat_eq x y ≡ b → (not (list_any (nat_eq x) ys) ≡ true → AllByRecursion (λ y. nat_eq x y ≡ false) ys)
        → AllByRecursion (λ y. nat_eq x y ≡ false) (y ∷ ys)
    go true e below = let bad : false ≡ true = rw e at h in cc
    go false e below = (e, below (rw e at h))

distinct : (xs : List ℕ) → is_distinct nat_eq xs ≡ true → IsDistinct nat_eq xs
unfolding IsDistinct
distinct [] h = tt
distinct (x ∷ xs) h = let parts = and_parts _ _ h in (none_same x xs parts.0, distinct xs parts.1)

-- ---- the ports of a reading

abbrev is_port : ℕ → Type 0
is_port port = (1 ≤ port) × (port ≤ 65535)

port_in_range : (value : Option ℕ) (port : ℕ) → option_and_then (within 1 65535) value ≡ Some port → is_port port
port_in_range value port is = read-within 1 65535 value port is

one_more : (x : ℕ) (xs : List ℕ) → is_port x → All is_port xs → All is_port (x ∷ xs)
one_more x xs p all zero d lt = p
one_more x xs p all (suc k) d lt = all k d (omega arith)

first_and_rest : (port rest : _) (ports : List ℕ) → first_then port rest ≡ Some ports
    → (p : ℕ) × (others : List ℕ) × (port ≡ Some p) × (rest ≡ Some others) × (ports ≡ p ∷ others)
first_and_rest None rest ports is = cc
first_and_rest (Some p) None ports is = cc
first_and_rest (Some p) (Some others) ports is = (p, others, refl, refl, cc)

all_in_range : (words : List (List ℕ)) (ports : List ℕ) → all_ports words ≡ Some ports → All is_port ports
all_in_range [] [] is = λ k d lt. absurd (omega arith)
all_in_range [] (p ∷ ports) is = cc
all_in_range (word ∷ words) ports is =
    let parts = first_and_rest (port_of word) (all_ports words) ports is in
    let below = all_in_range words parts.1 parts.3 in
    subst (All is_port) (sym parts.4) (one_more parts.0 parts.1 (port_in_range (value_of word) parts.0 parts.2) below)

-- what is read as ports is a list of them
pub ports_read : (words : List (List ℕ)) (ports : List ℕ) → ports_of words ≡ Some ports → IsPortList ports
ports_read words ports is = go (all_ports words) refl
  where
    go : (o : Option (List ℕ)) → all_ports words ≡ o → IsPortList ports
    go None e = let bad : None ≡ Some ports = rw e at is in cc
    go (Some all) e = listed (is_port_list all) refl
      where
        listed : (b : Bool) → is_port_list all ≡ b → IsPortList ports
        listed false f = let bad : None ≡ Some ports = rw (e, f) at is in cc
        listed true f =
            let same : Some all ≡ Some ports = rw (e, f) at is in
            let equal : all ≡ ports = cc in
            let outer = and_parts (nat_le 1 (length all) && nat_le (length all) 8) (is_distinct nat_eq all) f in
            let sizes = and_parts (nat_le 1 (length all)) (nat_le (length all) 8) outer.0 in
            let least = sizes.0 in
            let most = sizes.1 in
            subst IsPortList equal (record {
              some = grind (arith, nat_tests, least);
              most = grind (arith, nat_tests, most);
              distinct = distinct all outer.1;
              numbers = all_in_range words all e;
            })
