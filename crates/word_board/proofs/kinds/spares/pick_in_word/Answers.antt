use Rattle.std.proofs.{Common.{arith}, lemmas.Nat.{trailing_le}}
use Rattle.word_board.proofs.kinds.spares.pick_in_word.Goals as goal

pub overflow_mul-buffer : goal.overflow_mul-buffer
overflow_mul-buffer c = omega (arith, c.requires.within, c.requires.may.sound.buffers)

pub overflow_add-buffer : goal.overflow_add-buffer
overflow_add-buffer c = omega (arith, c.requires.within, c.requires.may.sound.buffers, trailing_le 64 c.look_free_word-found.result)
