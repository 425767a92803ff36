-- What the pool keeps between its calls, and how that stands to what its face has seen.
use Rattle.std.specs.Prelude.{◌≡◌, ℕ, ◌+◌, ◌<◌, ◌≤◌, List, [], ◌∷◌, ◌++◌, length, map, take, All, Option, Some, None, IfSome, option_to_list}
use Rattle.zr_kinds.specs.declared.outcome.PoolStats.{PoolStats}
use Rattle.board_face.specs.{Looks.{NicLooksStay}, Texts.{IsSplitNote, IsLinearNote}, NicEvents.{nic_ended}, NicCalls.{apps_of, Closed}}
use Rattle.board_face.specs.declared.views.{parts.{Setting.{Setting}, Filling.{Filling}}, nic.{PlacedText.{PlacedText}, SentNote.{SentNote}, NicView.{NicView}}}
use Rattle.page_pool.specs.declared.{pool.{Pending.{Pending}, Short.{Short}}, search_end.SearchEnd.{SearchEnd, TheVariants.{Fast}}}

pub record PoolState : Type 0 where
  -- the greatest payload that isn't split
  pub split : ℕ
  -- the buffer that is being filled
  pub current : Option Filling
  -- the notes that are still to be sent: the unsplit one first, then those of pieces
  pub short : Option Short
  pub pieces : List Pending
  pub stats : PoolStats
  -- where the search ended that was made ahead for the frame that is offered next; in the cache, where none was
  pub ahead : SearchEnd

abbrev pub new_pool : ℕ → PoolState
new_pool split = record {
  split = split;
  current = None;
  short = None;
  pieces = [];
  stats = record { fast = 0; refill = 0; slow = 0; empty = 0; strays = 0 };
  ahead = Fast;
}

-- how many notes are pending
abbrev pub pending_count : PoolState → ℕ
pending_count pool = length (option_to_list pool.short) + length pool.pieces

-- a short payload's note may be sent
pub record IsShortNote (setting : Setting) (short : Short) : Type 0 where
  pub app : short.app < apps_of setting
  pub fields : IsLinearNote short.note
  pub room : length short.bytes ≡ 256

-- Between two calls the tokens that are out are the current buffer and the pieces whose notes are pending, in order, and
-- each pending note may be sent; there are at most 64 of them.
pub record PoolStands (pool : PoolState) (v : NicView) : Type 0 where
  pub owns : v.owns ≡ option_to_list pool.current
  pub pieces : map (λ p. p.place) v.pieces ≡ map (λ p. p.piece) pool.pieces
  pub apps : All (λ p. p.app < apps_of v.setting) pool.pieces
  pub fields : All (λ p. IsSplitNote p.note) pool.pieces
  pub places : All (λ p. p.note.place ≡ p.piece) pool.pieces
  pub short : IfSome pool.short (IsShortNote v.setting)
  pub few : pending_count pool ≤ 64

-- ---- notes sent, and those pending

-- the short note that is still to be sent, with its bytes
abbrev pub short_note : Option Short → List SentNote
short_note None = []
short_note (Some s) = record { app = s.app; note = s.note; bytes = take s.note.total s.bytes } ∷ []

-- the pending notes, each with the text of its piece
abbrev pub piece_notes : List Pending → List PlacedText → List SentNote
piece_notes [] texts = []
piece_notes (p ∷ ps) [] = []
piece_notes (p ∷ ps) (t ∷ texts) = record { app = p.app; note = p.note; bytes = t.bytes } ∷ piece_notes ps texts

-- all notes that were sent, and behind them those that are pending
abbrev pub all_notes : PoolState → NicView → List SentNote
all_notes pool v = v.sent ++ (short_note pool.short ++ piece_notes pool.pieces v.pieces)

-- no note is pending
pub record HasNonePending (pool : PoolState) : Type 0 where
  pub short : pool.short ≡ None
  pub pieces : pool.pieces ≡ []

-- whose note is to be sent next, of those that are pending
pub data IsNextApp (pool : PoolState) : ℕ → Type 0 where
  is_short : (s : Short) → pool.short ≡ Some s → IsNextApp pool s.app
  is_piece : (p : Pending) (ps : List Pending) → pool.short ≡ None → pool.pieces ≡ p ∷ ps → IsNextApp pool p.app

-- ---- what a call changes

-- The first of the pending notes were sent, in order, and else nothing happened but looks.
pub record OnlySends (was now : PoolState) (old new : NicView) : Type 0 where
  pub gone : List SentNote
  -- where none was sent, the pool is as before, and nothing but looks happened
  pub still : gone ≡ [] → (now ≡ was) × (new ≡ record old { looks = new.looks })
  pub view : new ≡ record old { pieces = new.pieces; sent = old.sent ++ gone; looks = new.looks }
  pub pool : now ≡ record was { short = now.short; pieces = now.pieces }
  pub notes : all_notes now new ≡ all_notes was old
  pub looks : NicLooksStay old new

-- The current buffer, if there was one, was closed, and then the card ended.
abbrev pub Closes : Option Filling → NicView → NicView → Type 0
Closes None old new = new ≡ nic_ended old
Closes (Some own) old new = (closed : NicView) × Closed old closed own × (new ≡ nic_ended closed)
