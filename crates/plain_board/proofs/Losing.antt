-- Buffers of swept words that are neither cached nor were taken are no more than the bytes of unsplit notes.
use Rattle.std.proofs.{Common.{◌≡◌, ℕ, ◌≤◌, length, map, take, ap, sym, ◌∙◌, arith}, lemmas.List.{take-append-le}, Math.Seq.{take-length}}
use Rattle.board_face.specs.{NicCalls.{lost_of, sent_unsplit_bytes}, Sides.{IsApp}, Holders.{sent_to}, Relay.{as_taken}, declared.views.app.AppSide.{AppSide}}
use Rattle.board_face.proofs.Losing.{lost-bound as few-lost}
use Rattle.plain_board.specs.{Stand.{Stand}, Sound.{IsSound}}

module _ (board : Stand) (sound : IsSound board) where
  taken-first : (a : ℕ) (app : AppSide) → IsApp board.apps a app
      → take (length app.view.taken) (map as_taken (sent_to app.view.app board.nic)) ≡ app.view.taken
  taken-first a app here =
      let taken = app.view.taken in
      ap (take (length taken)) (sym (sound.relayed.relayed a app here).notes)
      ∙ (take-append-le (length taken) taken _ (omega arith) ∙ take-length taken)

  pub lost-bound : lost_of board.nic.view ≤ sent_unsplit_bytes board.nic.view
  lost-bound = few-lost _ board.nic board.apps sound.kept sound.set.numbers sound.due.few taken-first
