-- The need of a capture: how many buffers its frames may use, and that no frame is refused where there are as many.
use Rattle.std.specs.Prelude.{◌≡◌, ℕ, ◌+◌, ◌<◌, ◌≤◌, nat_lt, ◌==◌, if◌then◌else◌, List, [], length, map, filter, sum_by, All, Option, option_to_list}
use Rattle.area_layout.specs.Layout.{Shape, pool_buffers, least_size}
use Rattle.board_face.specs.{Texts.{unsplit_bytes}, declared.views.nic.SentNote.{SentNote}}
use Rattle.page_pool.specs.{Frames.{Offered}, Packing.{buffers_for}}
use Rattle.card_feed.specs.{Counts.{is_long}, declared.plan.Plan.{Plan}, Offered.{offers_without}, Plan.{layout_of}}

-- How many buffers a payload may use, where none has fewer than `least` bytes. One that is longer than `split` fills so many. A
-- shorter one travels in its note; bytes that came before may cut it, into no more pieces than it has bytes, and each of these is
-- copied into a buffer.
abbrev pub need_for : ℕ → ℕ → Offered → ℕ
need_for least split o = if is_long split o then buffers_for least (length o.payload) else length o.payload

abbrev pub need_of : ℕ → ℕ → List Offered → ℕ
need_of least split offers = sum_by (need_for least split) offers

-- The need of the frame with this number, and of those before it that weren't refused.
abbrev pub need_with : ℕ → ℕ → List Offered → List ℕ → ℕ → ℕ
need_with least split offers refused number =
    need_of least split (filter (λ o. nat_lt o.frame number) (offers_without refused offers))
    + need_of least split (filter (λ o. o.frame == number) offers)

-- how many bytes travel in these notes
abbrev pub bytes_in_notes : List SentNote → ℕ
bytes_in_notes notes = unsplit_bytes (map (λ s. s.note) notes)

-- The takes so far, and the spares that there may be for the notes, are within the need of the frames that were accepted. And each
-- frame that was refused, was so since the need with it is above the number of buffers.
pub record AreNeeded (layout : Shape) (split : ℕ) (offers : List Offered) (refused : List ℕ) (hand : Option Offered)
    (notes : List SentNote) (used : List ℕ) : Type 0 where
  pub spent : length used + bytes_in_notes notes + need_of (least_size layout) split (option_to_list hand)
      ≤ need_of (least_size layout) split (offers_without refused offers)
  pub lacked : All (λ number. pool_buffers layout < need_with (least_size layout) split offers refused number) refused

-- ---- of a plan

abbrev pub buffers_of : Plan → ℕ
buffers_of plan = pool_buffers (layout_of plan)

abbrev pub need_in : Plan → List Offered → ℕ
need_in plan offers = need_of (least_size (layout_of plan)) plan.options.split offers

-- Enough area: a frame is refused only where the need of it, and of the frames before it that weren't, is above the number of
-- buffers. So where there are as many as all of them need none is.
pub record RefusesByNeed (plan : Plan) (offers : List Offered) (refused : List ℕ) : Type 0 where
  pub lacked : All (λ number. buffers_of plan < need_with (least_size (layout_of plan)) plan.options.split offers refused number) refused
  pub enough : need_in plan offers ≤ buffers_of plan → refused ≡ []
