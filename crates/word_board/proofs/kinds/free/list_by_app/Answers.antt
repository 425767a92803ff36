use Rattle.std.proofs.Common.{◌/◌, ◌<◌, refl, arith}
use Rattle.board_face.specs.{NicCalls.{free_words_of}, NicEvents.{word_bits}}
use Rattle.ref_words.specs.Runs.{relists}
use Rattle.word_board.proofs.{FreeWords.{lists-bit}, Stepping.{app-may}}
use Rattle.word_board.proofs.kinds.free.list_by_app.Goals as goal

pub step-requires-clause-may : goal.step-requires-clause-may
step-requires-clause-may c = app-may (
    let setting = c.args.app.now.board.setting in
    let mine = c.args.app.now.side in
    let b = c.args.buffer in
    let within : b / word_bits < free_words_of setting = (omega (arith, c.requires.of_pool)) in
    record {
      number = λ n. refl;
      making = λ n. refl;
      step = λ ws nic apps rule here small.
          let law = c.app_keeps_the_rule.ensures setting ws nic apps mine (relists b) rule here c.requires.in_hand in
          (lists-bit setting ws b c.free-word.result (cc) within rule law.rule, tt);
    })
