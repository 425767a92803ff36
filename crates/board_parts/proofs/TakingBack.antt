-- The references of an application are taken back. Each buffer has its own counts, so its turn leaves the others as they are.
use Rattle.std.{proofs.Common.{◌≡◌, ℕ, ◌+◌, ◌-◌, ◌<◌, ◌≤◌, Bool, true, false, List, length, get_or, set, refl, ◌∙◌, arith, ⊎_elim}, specs.Prelude.{◌≢◌, if◌then◌else◌}}
use Rattle.std.proofs.lemmas.{List.{get_or-set_same, get_or-set_other, length-set}, Bool.{cases_eq, Decides.{nat_tests}}, Nat.{same_from_place}}
use Rattle.area_layout.specs.Layout.{Shape, all_buffers, pool_buffers}
use Rattle.board_parts.specs.{Counts.{user_at, came_back}, Free.{listed_in}}

-- what a buffer has once it had its turn
pub record IsTaken (layout : Shape) (b user user' count count' : ℕ) (is is' : Bool) : Type 0 where
  pub none : user' ≡ 0
  pub less : count' ≡ count - user
  pub lists : is' ≡ (if came_back layout b user count' then true else is)

-- what it has until then
pub record IsKept (user user' count count' : ℕ) (is is' : Bool) : Type 0 where
  pub same_user : user' ≡ user
  pub same_count : count' ≡ count
  pub same_list : is' ≡ is

-- The buffers below n had their turn.
pub record IsTakenBelow (layout : Shape) (app : ℕ) (users users' pool pool' : List ℕ) (listed listed' : List Bool) (n : ℕ) : Type 0 where
  pub users_len : length users' ≡ length users
  pub pool_len : length pool' ≡ length pool
  pub listed_len : length listed' ≡ length listed
  pub others : (a b : ℕ) → a ≢ app → b < all_buffers layout → get_or users' (user_at layout a b) 0 ≡ get_or users (user_at layout a b) 0
  pub below : (b : ℕ) → b < n → IsTaken layout b (get_or users (user_at layout app b) 0) (get_or users' (user_at layout app b) 0) (get_or pool b 0)
      (get_or pool' b 0) (listed_in listed b) (listed_in listed' b)
  pub above : (b : ℕ) → n ≤ b → IsKept (get_or users (user_at layout app b) 0) (get_or users' (user_at layout app b) 0) (get_or pool b 0)
      (get_or pool' b 0) (listed_in listed b) (listed_in listed' b)

module _ (listed : List Bool) (n : ℕ) where
  listed-len : (came : Bool) → length (if came then set listed n true else listed) ≡ length listed
  listed-len true = length-set listed n true
  listed-len false = refl

  listed-here : (came : Bool) → (came ≡ true → n < length listed)
      → listed_in (if came then set listed n true else listed) n ≡ (if came then true else listed_in listed n)
  listed-here true there = get_or-set_same listed n true false (there refl)
  listed-here false there = refl

  listed-apart : (came : Bool) (b : ℕ) → b ≢ n → listed_in (if came then set listed n true else listed) b ≡ listed_in listed b
  listed-apart true b ne = get_or-set_other listed n b true false ne
  listed-apart false b ne = refl

-- the turn of the buffer n
module _ (layout : Shape) (app : ℕ) (users users' pool pool' : List ℕ) (listed listed' : List Bool) (n : ℕ)
    (h : IsTakenBelow layout app users users' pool pool' listed listed' n) (place : n < all_buffers layout)
    (user_there : user_at layout app n < length users') (count_there : n < length pool') (len : length listed' ≡ pool_buffers layout) (came : Bool)
    (is : came ≡ came_back layout n (get_or users' (user_at layout app n) 0) (get_or pool' n 0 - get_or users' (user_at layout app n) 0)) where
  abbrev at_user : ℕ
  at_user = user_at layout app n

  abbrev left : ℕ
  left = get_or pool' n 0 - get_or users' at_user 0

  abbrev users-then : List ℕ
  users-then = set users' at_user 0

  abbrev pool-then : List ℕ
  pool-then = set pool' n left

  abbrev listed-then : List Bool
  listed-then = if came then set listed' n true else listed'

  list_there : came ≡ true → n < length listed'
  list_there t = grind (arith, nat_tests)

  user-apart : (b : ℕ) → b ≢ n → get_or users-then (user_at layout app b) 0 ≡ get_or users' (user_at layout app b) 0
  user-apart b ne = get_or-set_other users' at_user (user_at layout app b) 0 0 (omega arith)

  taken-here : IsTaken layout n (get_or users at_user 0) (get_or users-then at_user 0) (get_or pool n 0) (get_or pool-then n 0) (listed_in listed n)
      (listed_in listed-then n)
  taken-here =
      let was = h.above n (omega arith) in
      rw (
        get_or-set_same users' at_user 0 0 user_there,
        get_or-set_same pool' n left 0 count_there,
        listed-here listed' n came list_there,
        is,
        was.same_user,
        was.same_count,
        was.same_list,
      )
      record { none = refl; less = refl; lists = refl }

  pub IsTakenBelow-more : IsTakenBelow layout app users users-then pool pool-then listed listed-then (n + 1)
  IsTakenBelow-more = record {
    users_len = length-set users' at_user 0 ∙ h.users_len;
    pool_len = length-set pool' n left ∙ h.pool_len;
    listed_len = listed-len listed' n came ∙ h.listed_len;
    others = λ a b ne within. get_or-set_other users' at_user (user_at layout a b) 0 0
        (λ same. ne (same_from_place a b app n (all_buffers layout) within place same).0) ∙ h.others a b ne within;
    below = λ b lower. ⊎_elim
        (λ same. rw same taken-here)
        (λ ne. rw (user-apart b ne, get_or-set_other pool' n b left 0 ne, listed-apart listed' n came b ne) (h.below b (omega arith)))
        (cases_eq b n);
    above = λ b from. let ne : b ≢ n = omega arith in rw (user-apart b ne, get_or-set_other pool' n b left 0 ne, listed-apart listed' n came b ne)
        (h.above b (omega arith));
  }
