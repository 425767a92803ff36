-- Where counts stand, and what a scrub does to them.
use Rattle.std.specs.Prelude.{◌≡◌, ◌≢◌, ℕ, ◌*◌, ◌+◌, ◌-◌, ◌<◌, ◌≤◌, Bool, true, ◌&&◌, ◌==◌, nat_lt, if◌then◌else◌, List, length, slice_index}
use Rattle.area_layout.specs.Layout.{Shape, pool_buffers, all_buffers}
use Rattle.board_parts.specs.Free.{listed_in}

-- where the user count of an application for a buffer stands
abbrev pub user_at : Shape → ℕ → ℕ → ℕ
user_at layout app buffer = app * all_buffers layout + buffer

-- no buffer has more user references of the application than references
abbrev pub HasFewUsers : Shape → ℕ → List ℕ → List ℕ → Type 0
HasFewUsers layout app users pool = (b : ℕ) → b < all_buffers layout → slice_index users (user_at layout app b) ≤ slice_index pool b

-- whether a pool buffer came to be free, as so many references were taken back and so many are left
abbrev pub came_back : Shape → ℕ → ℕ → ℕ → Bool
came_back layout b owed left = nat_lt 0 owed && (left == 0) && nat_lt b (pool_buffers layout)

-- All user references of an application were taken back, and as many references. The pool buffers that came to be free by
-- that are listed.
pub record TakesBack (layout : Shape) (app : ℕ) (users users' pool pool' : List ℕ) (listed listed' : List Bool) : Type 0 where
  pub users_len : length users' ≡ length users
  pub pool_len : length pool' ≡ length pool
  pub listed_len : length listed' ≡ length listed
  pub none : (b : ℕ) → b < all_buffers layout → slice_index users' (user_at layout app b) ≡ 0
  pub others : (a b : ℕ) → a ≢ app → b < all_buffers layout → slice_index users' (user_at layout a b) ≡ slice_index users (user_at layout a b)
  pub less : (b : ℕ) → b < all_buffers layout → slice_index pool' b ≡ slice_index pool b - slice_index users (user_at layout app b)
  pub lists : (b : ℕ) → b < all_buffers layout → listed_in listed' b
      ≡ (if came_back layout b (slice_index users (user_at layout app b)) (slice_index pool' b) then true else listed_in listed b)
