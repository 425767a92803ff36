-- The definition of the copying receiver at small values, worked out by hand.
use Rattle.std.proofs.Common.{◌≡◌, ℕ, [], ◌∷◌, true, false, refl}
use Rattle.zr_kinds.specs.CopyingReceiver.{nothing_placed, next_missing, lead, accepts, received, front_of}

-- the sequence numbers wrap between "ab" and "cd"
across_the_wrap : front_of {A = ℕ} (received 4294967294 (received 4294967294 nothing_placed 0 (99 ∷ 100 ∷ [])) 4294967294 (97 ∷ 98 ∷ []))
    ≡ 97 ∷ 98 ∷ 99 ∷ 100 ∷ []
unfolding lead received front_of next_missing
across_the_wrap = refl

-- "XYcd" doesn't take the places of "bc"
first_counts : front_of {A = ℕ} (received 1000 (received 1000 nothing_placed 1000 (97 ∷ 98 ∷ 99 ∷ [])) 1001 (88 ∷ 89 ∷ 99 ∷ 100 ∷ []))
    ≡ 97 ∷ 98 ∷ 99 ∷ 99 ∷ 100 ∷ []
unfolding lead received front_of next_missing
first_counts = refl

-- "ef" waits behind a gap
behind_a_gap : front_of {A = ℕ} (received 1000 (received 1000 nothing_placed 1000 (97 ∷ 98 ∷ [])) 1004 (101 ∷ 102 ∷ [])) ≡ 97 ∷ 98 ∷ []
unfolding lead received front_of next_missing
behind_a_gap = refl

-- of "xya", two before the base, only the last counts
before_the_base : front_of {A = ℕ} (received 1000 nothing_placed 998 (120 ∷ 121 ∷ 97 ∷ [])) ≡ 97 ∷ []
unfolding lead received front_of next_missing
before_the_base = refl

at_the_window : accepts 0 0 1073741823 1 ≡ true
unfolding lead
at_the_window = refl

past_the_window : accepts 0 0 1073741824 1 ≡ false
unfolding lead
past_the_window = refl

-- the farthest back: the distance is -2^31
farthest_back : accepts 0 0 2147483648 1 ≡ true
unfolding lead
farthest_back = refl
