-- A pool buffer that comes to be free enters the cache where that has room.
use Rattle.std.{proofs.Common.{rules, ◌≡◌, ap, ◌∙◌}, specs.Prelude.{◌&&◌, nat_lt}}
use Rattle.area_layout.specs.Layout.{pool_buffers}
use Rattle.board_face.specs.declared.views.parts.Setting.{Setting}
use Rattle.word_board.proofs.{CardKeeps.{NicKeeps-shut}, nic_seat.NicSeatNicFace.shut.Goals.{then-last, else-last}}
use Rattle.word_board.proofs.nic_seat.NicSeatNicFace.shut.Goals as goal

pub invariant_of-self : goal.invariant_of-self
invariant_of-self c =
    let me = c.self.inside in
    let own = c.filling_of-filling.result in
    let last = c.shut_buffer-last.result in
    let pool : c.buffers-pool.result ≡ pool_buffers me.card.board.setting.layout =
    c.buffers-pool.ensures.value ∙ (ap pool_buffers c.layout.ensures.value ∙ ap (λ (s : Setting). pool_buffers s.layout) c.map.ensures) in
    let free : c.if-last.cache_if ≡ (last && nat_lt own.buffer c.buffers-pool.result) =
    elim c.if-last.branch [ then-last w ↦ search rules | else-last w ↦ search rules ] in
    rw c.shut_buffer-last.ensures (
      c.self.invariant.0,
      NicKeeps-shut me.card.board.setting me.card.side me.hand.cache.items me.hand.notes me.hand.entries c.self.invariant.1 own last c.if-last.cache_if
          c.cache_if.new.cache.items (free ∙ ap (λ p. last && nat_lt own.buffer p) pool) c.cache_if.ensures,
      c.self.invariant.2,
    )

pub shut_buffer-last-requires-clause-bare : goal.shut_buffer-last-requires-clause-bare
shut_buffer-last-requires-clause-bare c = record { set = c.self.invariant.1.set; hands = c.self.invariant.1.rests.hands }
