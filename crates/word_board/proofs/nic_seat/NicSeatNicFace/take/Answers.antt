-- The buffer that entered the cache last is one of the pool, of which nothing is used.
use Rattle.std.proofs.Common.{◌≡◌, ap, sym, ◌∙◌, subst}
use Rattle.area_layout.specs.Layout.{size_of}
use Rattle.board_face.{specs.{NicEvents.{fresh}, Tokens.{FitsBuffer, filling}, declared.views.parts.Setting.{Setting}}, proofs.TokenLemmas.{FitsBuffer-fresh}}
use Rattle.word_board.{specs.Board.{TheNic}, proofs.CardKeeps.{NicKeeps-took, TookBuffer-last}}
use Rattle.word_board.proofs.nic_seat.NicSeatNicFace.take.Goals as goal

pub new-requires : goal.new-requires
new-requires c =
    let buffer = c.in_ok-buffer.buffer in
    let set = c.map.ensures ∙ ap (λ (v : TheNic). v.board.setting) c.take_buffer.ensures.event in
    let size = c.size_of.ensures.value ∙ (ap (λ l. size_of l buffer) c.layout.ensures.value ∙ ap (λ (s : Setting). size_of s.layout buffer) set) in
    subst (λ n. FitsBuffer (filling buffer 0 n)) (sym size) (FitsBuffer-fresh c.self.inside.card.board.setting buffer c.self.invariant.0.layout)

pub invariant_of-self-2 : goal.invariant_of-self-2
invariant_of-self-2 c =
    let me = c.self.inside in
    rw c.take_buffer.ensures.event (
      c.self.invariant.0,
      NicKeeps-took me.card.board.setting me.card.side me.hand.cache.items me.hand.notes me.hand.entries c.self.invariant.1
          c.in_ok-buffer.buffer c.pop.new.self.items c.in_ok-buffer.ensures.items c.pop.ensures.rest,
      c.self.invariant.2,
    )

pub returns-clause-view : goal.returns-clause-view
returns-clause-view c =
    let me = c.self.inside in
    let nic = me.card.side in
    let keeps = c.self.invariant.1 in
    let buffer = c.in_ok-buffer.buffer in
    let set = c.map.ensures ∙ (ap (λ (v : TheNic). v.board.setting) c.take_buffer.ensures.event ∙ sym keeps.set) in
    let size = c.size_of.ensures.value ∙ (ap (λ l. size_of l buffer) c.layout.ensures.value ∙ ap (λ (s : Setting). size_of s.layout buffer) set) in
    let token : c.new.result ≡ fresh nic.view.setting buffer = c.new.ensures ∙ ap (filling buffer 0) size in
    rw (← c.self.view_is, c.take_buffer.ensures.event, token)
    (TookBuffer-last me.card.board.setting nic me.hand.cache.items me.hand.notes me.hand.entries keeps buffer c.pop.new.self.items
    c.in_ok-buffer.ensures.items c.pop.ensures.rest c.take_buffer.ensures.apart)
