-- What a flush of pending notes needs and does.
use Rattle.std.specs.Prelude.{◌≡◌, ◌<◌, List, ◌++◌, map, All}
use Rattle.board_face.specs.{Looks.{NicLooksStay}, Texts.{IsSplitNote}, NicCalls.{apps_of}, declared.views.nic.NicView.{NicView}}
use Rattle.face_table.specs.declared.pending.Pending.{Pending}

-- The pieces that are out are those of the pending notes, in order, and each note may be sent.
pub record IsReady (v : NicView) (pending : List Pending) : Type 0 where
  pub pieces : map (λ p. p.place) v.pieces ≡ map (λ p. p.piece) pending
  pub apps : All (λ p. p.app < apps_of v.setting) pending
  pub fields : All (λ p. IsSplitNote p.note) pending
  pub places : All (λ p. p.note.place ≡ p.piece) pending

-- Of the pending notes the first were sent, and the others are left.
pub record Sends (old new : NicView) (before after : List Pending) : Type 0 where
  pub gone : List Pending
  pub parts : before ≡ gone ++ after
  pub notes : map (λ s. s.note) new.sent ≡ map (λ s. s.note) old.sent ++ map (λ p. p.note) gone
  pub apps : map (λ s. s.app) new.sent ≡ map (λ s. s.app) old.sent ++ map (λ p. p.app) gone
  pub looks : NicLooksStay old new
