-- All are back, so nobody has a buffer, and each pool buffer is listed or cached.
use Rattle.std.{proofs.{Common.{◌≡◌, ◌<◌, ◌≤◌, ◌++◌, length, nat_eq, refl, ap, sym, ◌∙◌, arith, subst}, lemmas.List.{length-set}}, specs.Prelude.{count_by}}
use Rattle.area_layout.specs.Layout.{pool_buffers}
use Rattle.board_face.specs.Ended.{IsEachOnce}
use Rattle.board_parts.{specs.Free.{listed_below}, proofs.FreeLists.{IsEachOnce-free, free-fit}}
use Rattle.ref_words.specs.declared.view.View.{View}
use Rattle.word_board.specs.{Board.{TheBoard, TheDesk, card_of_seat}, Desk.{AllAreBack, AreOver, AreServed, HasNoHolders}}
use Rattle.word_board.proofs.AtDesk.{cached-back, looked-more, StandInOrder-free}
use Rattle.word_board.proofs.board.WordBoard.close.Goals as goal

pub loop-buffer-init : goal.loop-buffer-init
loop-buffer-init c =
    let desk = c.desk.inside in
    let view = ap (λ (d : TheDesk). d.view) c.desk.view_is in
    let cache = c.desk.invariant.6 ∙ cached-back desk.seat.me.0.nics (subst (λ (v : View). length v.nics ≡ 1) (sym view) c.requires.back.card) in
    let setting = ap (λ (d : TheDesk). d.board.setting) c.desk.view_is
    ∙ (ap (λ (b : TheBoard). b.setting) c.requires.desk ∙ sym (ap (λ (b : TheBoard). b.setting) c.self.view_is)) in
    record {
      table = c.look_unheld.ensures.same.table;
      number = c.look_unheld.ensures.same.number;
      me = c.look_unheld.ensures.same.me;
      many = refl;
      one = λ b less. absurd (omega (arith, less));
      none = λ b past. ap (count_by (nat_eq b)) cache
          ∙ c.look_unheld.ensures.reserves b (subst (λ s. pool_buffers s.layout ≤ b) setting past);
    }

pub look_listed-requires-clause-table : goal.look_listed-requires-clause-table
look_listed-requires-clause-table c = c.loop-buffer.invariant.table
    ∙ (ap (λ (d : TheDesk). d.board.table) c.desk.view_is
    ∙ (ap (λ (b : TheBoard). b.table) c.requires.desk ∙ sym (ap (λ (b : TheBoard). b.table) c.self.view_is)))

pub look_listed-requires-clause-over : goal.look_listed-requires-clause-over
look_listed-requires-clause-over c = subst AreOver (sym (ap (λ me. me.0) c.loop-buffer.invariant.me)) c.desk.invariant.5

pub look_listed-requires-clause-all : goal.look_listed-requires-clause-all
look_listed-requires-clause-all c =
    let view = ap (λ me. me.0) c.loop-buffer.invariant.me ∙ ap (λ (d : TheDesk). d.view) c.desk.view_is in
    subst (AllAreBack c.self.inside.words.map) (sym view)
    (subst (λ s. AllAreBack s c.args.desk.view) (sym (ap (λ (b : TheBoard). b.setting) c.self.view_is)) c.requires.back)

pub loop-buffer-preserved : goal.loop-buffer-preserved
loop-buffer-preserved c =
    let h = c.loop-buffer.invariant in
    let desk = c.desk.inside in
    let n = c.loop-buffer.buffer in
    let view = ap (λ (d : TheDesk). d.view) c.desk.view_is in
    let cache : desk.cache.items ≡ (card_of_seat c.loop-buffer.seat.me.0).view.cache = c.desk.invariant.6
    ∙ (cached-back desk.seat.me.0.nics (subst (λ (v : View). length v.nics ≡ 1) (sym view) c.requires.back.card)
    ∙ sym (ap (λ me. (card_of_seat me.0).view.cache) h.me)) in
    let there : n < length c.loop-buffer.listed.items = omega (
      arith,
      h.many,
      desk.listed.ok,
      c.len-buffer-end.ensures,
      c.loop-buffer-test.true,
    ) in
    record {
      table = c.look_listed.ensures.same.table ∙ h.table;
      number = c.look_listed.ensures.same.number ∙ h.number;
      me = c.look_listed.ensures.same.me ∙ h.me;
      many = length-set c.loop-buffer.listed.items n c.look_listed.result ∙ h.many;
      one = λ b less. looked-more desk.cache.items c.loop-buffer.listed.items n c.look_listed.result there h.one
          (ap (count_by (nat_eq n)) cache ∙ c.look_listed.ensures.listed) b (omega (arith, less));
      none = h.none;
    }

pub all_free-requires-clause-room : goal.all_free-requires-clause-room
all_free-requires-clause-room c =
    let h = c.loop-buffer.invariant in
    let desk = c.desk.inside in
    let pool = pool_buffers desk.setting.layout in
    rw c.as_slice.ensures.value
    (free-fit pool desk.cache.items c.loop-buffer.listed.items (h.many ∙ c.desk.invariant.7)
    (λ b less. h.one b (omega (arith, less, c.desk.invariant.7, desk.listed.ok, c.len-buffer-end.ensures, c.loop-buffer-test.false))) h.none _
    c.desk.invariant.9)

pub returns-clause-once : goal.returns-clause-once
returns-clause-once c =
    let h = c.loop-buffer.invariant in
    let desk = c.desk.inside in
    let pool = pool_buffers desk.setting.layout in
    let setting = ap (λ (d : TheDesk). d.board.setting) c.desk.view_is ∙ ap (λ (b : TheBoard). b.setting) c.requires.desk in
    let listed = c.loop-buffer.listed.items in
    let free = desk.cache.items ++ listed_below listed (length listed) in
    let once = IsEachOnce-free pool desk.cache.items listed (h.many ∙ c.desk.invariant.7)
    (λ b less. h.one b (omega (arith, less, c.desk.invariant.7, desk.listed.ok, c.len-buffer-end.ensures, c.loop-buffer-test.false))) h.none in
    rw (c.all_free.ensures, c.as_slice.ensures.value)
    (subst (λ s. IsEachOnce (pool_buffers s.layout) free) setting once)

pub returns-clause-order : goal.returns-clause-order
returns-clause-order c =
    let desk = c.desk.inside in
    let view = ap (λ (d : TheDesk). d.view) c.desk.view_is in
    let cache : desk.cache.items ≡ (card_of_seat c.args.desk.view).view.cache = c.desk.invariant.6
    ∙ (cached-back desk.seat.me.0.nics (subst (λ (v : View). length v.nics ≡ 1) (sym view) c.requires.back.card)
    ∙ ap (λ v. (card_of_seat v).view.cache) view) in
    rw (← cache, c.all_free.ensures, c.as_slice.ensures.value) (StandInOrder-free desk.cache.items c.loop-buffer.listed.items)

pub returns-clause-holders : goal.returns-clause-holders
returns-clause-holders c = subst HasNoHolders (ap (λ (d : TheDesk). d.view) c.desk.view_is) c.look_unheld.ensures.holders

pub returns-clause-served : goal.returns-clause-served
returns-clause-served c = subst AreServed (ap (λ (d : TheDesk). d.view) c.desk.view_is) c.look_unheld.ensures.served

pub close_words-requires-clause-first : goal.close_words-requires-clause-first
close_words-requires-clause-first c = c.loop-buffer.invariant.number ∙ c.desk.invariant.0
