-- What is left of a word's buffers is fewer than 64, so the cache has room for them.
use Rattle.std.proofs.Common.{length, ap, arith, length-append}
use Rattle.ref_words.{specs.FreeSteps.{all_listed_in}, proofs.Found.{found-few}}
use Rattle.word_board.proofs.found.cache_found.Goals as goal

pub push-requires : goal.push-requires
push-requires c =
    let word = c.args.word in
    let left = c.loop-buffer.left in
    let one = ap length c.in-Some.ensures in
    let few = found-few word c.args.found 64 in
    let both = ap length c.loop-buffer.invariant.0 in (
      omega arith,
      omega (
        arith,
        one,
        few,
        both,
        length-append c.loop-buffer.cache.items (all_listed_in word left),
        length-append c.args.cache.now.items (all_listed_in word c.args.found),
        c.requires.room,
      ),
    )

pub overflow_add-count : goal.overflow_add-count
overflow_add-count c = omega (arith, found-few c.args.word c.args.found 64, c.loop-buffer.invariant.1, ap length c.in-Some.ensures)
