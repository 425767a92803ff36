-- How a shelf over memory keeps the bytes of its flows.
use Rattle.std.proofs.Common.{◌≡◌, ℕ, ◌+◌, ◌-◌, ◌<◌, ◌≤◌, ◌↔◌, ◌⊎◌, nat_lt, List, [], ◌∷◌, ◌++◌, length, get_or}
use Rattle.std.proofs.Common.{set, take, Option, None, Some, Result, Ok, Err, MatchResult, IsErr, IsSome, if◌then◌else◌, refl, sym, ap, ◌∙◌, inl, arith, rules}
use Rattle.std.proofs.lemmas.{List.{get_or-map, get_or-set_same, get_or_past, map-set, set_past, length-map, nil_from_length, take_all}, Grind.{common_steps}}
use Rattle.std.specs.Global.{Vec}
use Rattle.zr_io.specs.{Moved.{AddsPiece}, Memory.{front_out}, Reserved.{bytes_of}}

held_at : (flows : List (Vec ℕ)) (flow : ℕ) (old : Vec ℕ) → old ≡ get_or flows flow old → flow < length flows
    → get_or (bytes_of flows) flow [] ≡ old.items
held_at flows flow old at below = get_or-map (λ v. v.items) flows flow old [] below ∙ ap (λ v. v.items) (sym at)

has_room : (flows : List (Vec ℕ)) (flow room : ℕ) → flow < length flows → (if nat_lt flow (length (bytes_of flows)) then room else 0) ≡ room
has_room flows flow room below = simp length-map (grind (arith, common_steps))

-- what one list received, the list of all flows shows at its place
pub store_some : {A E : Type 0} (flows : List (Vec ℕ)) (flow room : ℕ) (old new : Vec ℕ) (entry : Option ℕ) (piece : List ℕ) (result : Result A E)
    → old ≡ get_or flows flow old → flow < length flows
    → MatchResult result (λ _. new.items ≡ old.items ++ piece) (λ _. new.items ≡ old.items ++ front_out (room - length old.items) entry piece)
    → MatchResult result
    (λ _. bytes_of (set flows flow new) ≡ set (bytes_of flows) flow (get_or (bytes_of flows) flow [] ++ piece))
    (λ _. bytes_of (set flows flow new) ≡ set (bytes_of flows) flow (get_or (bytes_of flows) flow []
    ++ front_out ((if nat_lt flow (length (bytes_of flows)) then room else 0) - length (get_or (bytes_of flows) flow [])) entry piece))
store_some flows flow room old new entry piece (Ok _) at below after =
    let held : get_or (bytes_of flows) flow [] ≡ old.items = held_at flows flow old at below in
    map-set (λ v. v.items) flows flow new ∙ ap (set (bytes_of flows) flow) (after ∙ ap (λ l. l ++ piece) (sym held))
store_some flows flow room old new entry piece (Err _) at below after =
    let held : get_or (bytes_of flows) flow [] ≡ old.items = held_at flows flow old at below in
    let roomy : (if nat_lt flow (length (bytes_of flows)) then room else 0) ≡ room = has_room flows flow room below in
    map-set (λ v. v.items) flows flow new ∙ ap (set (bytes_of flows) flow) (after
    ∙ ap (λ l. l ++ front_out (room - length l) entry piece) (sym held)
    ∙ ap (λ r. get_or (bytes_of flows) flow [] ++ front_out (r - length (get_or (bytes_of flows) flow [])) entry piece) (sym roomy))

-- a flow past the last has nothing, and gets nothing
kept_after : (before after : List (List ℕ)) (flow : ℕ) (more : List ℕ) → after ≡ set before flow (get_or before flow [] ++ more)
    → (length before ≤ flow → more ≡ []) → get_or after flow [] ≡ get_or before flow [] ++ more
kept_after before after flow more moved past = grind (arith, common_steps, get_or-set_same {A = List ℕ}, get_or_past {X = List ℕ}, set_past {X = List ℕ})

-- past the last flow only an empty piece fits
fits_none : (before : List (List ℕ)) (flow room : ℕ) (piece : List ℕ) → length before ≤ flow
    → ((if nat_lt flow (length before) then room else 0) < length (get_or before flow []) + length piece → ⊥) → piece ≡ []
fits_none before flow room piece past fits = nil_from_length piece (grind (arith, common_steps, fits))

-- past the last flow nothing of a piece goes out
front_none : (before : List (List ℕ)) (flow room count : ℕ) (piece : List ℕ) → length before ≤ flow
    → front_out ((if nat_lt flow (length before) then room else 0) - length (get_or before flow [])) (Some count) piece ≡ []
front_none before flow room count [] past = take_all _ [] (omega arith)
front_none before flow room count (x ∷ xs) past = grind (arith, common_steps)

no_error : (A E : Type 0) (x : A) → IsErr {T = A} {E = E} (Ok x) → ⊥
no_error A E x h = search rules

-- what was kept of a flow goes on by the piece, or by its front at a fault
pub adds_piece : (A E : Type 0) (before after : List (List ℕ)) (flow room : ℕ) (entry : Option ℕ) (piece : List ℕ) (result : Result A E)
    → (IsErr result ↔ ((if nat_lt flow (length before) then room else 0) < length (get_or before flow []) + length piece) ⊎ IsSome entry)
    → MatchResult result
    (λ _. after ≡ set before flow (get_or before flow [] ++ piece))
    (λ _. after ≡ set before flow
    (get_or before flow [] ++ front_out ((if nat_lt flow (length before) then room else 0) - length (get_or before flow [])) entry piece))
    → AddsPiece (Some (get_or before flow [])) (Some (get_or after flow [])) result piece
adds_piece A E before after flow room entry piece (Ok x) fails moved = kept_after before after flow piece moved
    (λ past. fits_none before flow room piece past (λ h. no_error A E x (fails.1 (inl h))))
adds_piece A E before after flow room None piece (Err _) fails moved = (0, kept_after before after flow (take 0 piece) moved (λ past. refl))
adds_piece A E before after flow room (Some count) piece (Err _) fails moved =
    let free = (if nat_lt flow (length before) then room else 0) - length (get_or before flow []) in (
      if nat_lt free (length piece) then 0 else count,
      kept_after before after flow (front_out free (Some count) piece) moved
          (λ past. front_none before flow room count piece past),
    )
