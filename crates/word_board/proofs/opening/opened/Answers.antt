use Rattle.std.proofs.Common.{rules, ◌≡◌, ◌-◌, ◌*◌, ap, ◌∙◌, arith}
use Rattle.area_layout.specs.Layout.{pool_buffers}
use Rattle.ref_words.specs.Words.{begin_at, full_bits}
use Rattle.word_board.proofs.OpenedTable.{first-zeros, next-word, last-zeros}
use Rattle.word_board.proofs.opening.opened.Goals as goal

pub loop-word-init : goal.loop-word-init
loop-word-init c =
    first-zeros c.free.result (begin_at c.args.map.now 4) _ _ _ c.in_ok-resize.ensures.items c.in_ok-words.ensures.items c.in_ok-words.ensures.len
    (omega (arith, c.free.ensures.value))

pub loop-word-preserved : goal.loop-word-preserved
loop-word-preserved c =
    let buffers : c.buffers-buffers.result ≡ pool_buffers c.args.map.now.layout = c.buffers-buffers.ensures.value ∙ ap pool_buffers c.requires in
    next-word (begin_at c.args.map.now 4) (pool_buffers c.args.map.now.layout) c.loop-word.word c.full_word.result _ _ c.in_ok-push.ensures.items
    c.loop-word.invariant (c.full_word.ensures ∙ ap (λ n. full_bits (n - 64 * c.loop-word.word)) buffers)

pub returns-clause-words : goal.returns-clause-words
returns-clause-words c =
    let buffers : c.buffers-buffers.result ≡ pool_buffers c.args.map.now.layout = c.buffers-buffers.ensures.value ∙ ap pool_buffers c.requires in
    last-zeros c.args.map.now c.loop-word.word c.words-2.result _ _ _ c.in_ok-resize-2.ensures.items (search rules) c.loop-word.invariant
    (omega (arith, c.loop-word-test.false, c.loop-word.auto.word-end, buffers)) c.words-2.ensures
