-- The next note of an application is as it was sent, and its piece shares no byte with what the application has.
use Rattle.std.{proofs.Common.{◌≡◌, ℕ, ◌<◌, true, false, length, ap, ◌∙◌, subst, sym}, specs.Prelude.{◌==◌, All}}
use Rattle.std.proofs.lemmas.List.Elements.{All-head, All-filter, All-drop}
use Rattle.zr_kinds.specs.declared.place.Note.{Note}
use Rattle.area_layout.specs.Layout.{LiesIn, pool_buffers}
use Rattle.board_face.specs.{Sides.{IsApp}, Holders.{sent_to, on_way}, Texts.{IsSplitNote, IsLinearNote}, AppCalls.{IsNewPlace}, declared.views.app.AppSide.{AppSide}}
use Rattle.board_face.{specs.Laws.{IsNextNote}, proofs.NewNotes.{new-of_pool, new-lies, new-apart}}
use Rattle.plain_board.{specs.{Stand.{Stand}, Sound.{IsSound, IsProper}}, proofs.AppFrames.{has-setting}}

module _ (board : Stand) (a : ℕ) (x : AppSide) (sound : IsSound board) (here : IsApp board.apps a x) (note : Note) (next : IsNextNote board.nic x note) where
  proper : IsProper next.next
  proper =
      let all : All IsProper (on_way board.nic x) = All-drop IsProper (length x.view.taken) (sent_to x.view.app board.nic)
      (All-filter (λ s. s.app == x.view.app) IsProper board.nic.view.sent sound.notes) in
      All-head IsProper next.next next.rest (subst (All IsProper) next.way all)

  pub split-next : note.split ≡ true → IsSplitNote note
  split-next is = subst IsSplitNote next.same (proper.split (ap (λ (n : Note). n.split) next.same ∙ is))

  pub linear-next : note.split ≡ false → IsLinearNote note
  linear-next is = subst IsLinearNote next.same (proper.linear (ap (λ (n : Note). n.split) next.same ∙ is)).0

  -- ---- its piece

  same-setting : board.nic.view.setting ≡ x.view.setting
  same-setting = sound.set.card ∙ sym (has-setting board a x x sound here)

  lies : note.split ≡ true → LiesIn board.nic.view.setting.layout note.place × (0 < note.place.len)
  lies is = new-lies board.nic board.apps a x here note next is sound.shown.places sound.by_one

  pub some-next : note.split ≡ true → 0 < note.place.len
  some-next is = (lies is).1

  pub lies-next : note.split ≡ true → LiesIn x.view.setting.layout note.place
  lies-next is = subst (λ s. LiesIn s.layout note.place) same-setting (lies is).0

  -- it lies in a buffer of the pool
  pub pool-next : note.split ≡ true → note.place.buffer < pool_buffers x.view.setting.layout
  pool-next is = subst (λ s. note.place.buffer < pool_buffers s.layout) same-setting
      (new-of_pool board.nic board.apps a x here note next is sound.own_buffers.card)

  pub new-next : note.split ≡ true → IsNewPlace x.view note.place
  new-next is = new-apart board.nic board.apps a x here note next is sound.shown.places sound.by_one
