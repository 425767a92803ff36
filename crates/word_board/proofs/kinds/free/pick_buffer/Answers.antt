use Rattle.std.{proofs.{Common.{arith, ◌≡◌, ℕ, ◌/◌, ◌%◌, ◌<◌, set, ap, sym, ◌∙◌}, lemmas.Bool.{eqb-true}}, specs.{Prelude.{◌==◌, false}, Int.{bit_at}}}
use Rattle.std.proofs.lemmas.Nat.Bits.{shr_and_one}
use Rattle.area_layout.specs.Layout.{pool_buffers}
use Rattle.board_face.specs.{NicEvents.{word_bits}, declared.views.app.AppSide.{AppSide}, AppEvents.{app_gist}}
use Rattle.ref_words.{specs.{FreeSteps.{side_bit_cleared}, Words.{free_at, with_unlisted}, Rule.{BoardRule}, Runs.{clears_bit}}, proofs.AppNumbers.{bit_cleared-number}}
use Rattle.word_board.{specs.Told.{SawUnlisted}, proofs.{Telling.{tells-app}, FreeWords.{clears-bit, of-word}, Stepping.{app-may}}}
use Rattle.word_board.proofs.kinds.free.pick_buffer.Goals as goal

pub step-found-requires-clause-may : goal.step-found-requires-clause-may
step-found-requires-clause-may c = app-may (
    let setting = c.args.app.now.board.setting in
    let mine = c.args.app.now.side in
    let b = c.args.buffer in
    let next : ℕ → AppSide = λ n. side_bit_cleared mine (b / word_bits) b (bit_at n (b % word_bits) == 1) in
    let at = c.free-word.ensures.value ∙ ap (λ s. free_at s (b / word_bits)) c.map.ensures in
    let here_told : ℕ → Type 0 = λ n. (bit_at n (b % word_bits) ≡ 1 → b < pool_buffers setting.layout)
    × ((bit_at n (b % word_bits) == 1) ≡ false → SawUnlisted setting (app_gist mine.view) b) in
    record {
      number = λ n. bit_cleared-number mine (b / word_bits) b (bit_at n (b % word_bits) == 1);
      making = λ n. grind arith;
      step = λ ws nic apps rule here small.
          let law = c.app_keeps_the_rule.ensures setting ws nic apps mine (clears_bit b) rule here
          (c.requires.within, c.requires.due, c.requires.given) in (
            clears-bit setting ws b c.free-word.result at c.requires.within rule
                (of-word setting ws (b / word_bits) c.free-word.result at c.requires.within rule
                (λ n. BoardRule setting (with_unlisted ws b) nic (set apps mine.view.app (next n))) law.rule),
            of-word setting ws (b / word_bits) c.free-word.result at c.requires.within rule here_told
                ((λ one. law.finds (ap (λ x. x == 1) one)), (λ no. tells-app setting ws nic apps mine rule here _ no)),
          );
    })

pub returns-clause-event : goal.returns-clause-event
returns-clause-event c =
    let b = c.args.buffer in
    c.step-found.ensures.event
    ∙ ap (λ x. record c.args.app.now { side = side_bit_cleared c.args.app.now.side (b / word_bits) b (x == 1) })
    (sym (shr_and_one c.step-found.result (b % word_bits)))

pub returns-clause-of_pool : goal.returns-clause-of_pool
returns-clause-of_pool c = λ one.
    c.step-found.ensures.told.0 (sym (shr_and_one c.step-found.result (c.args.buffer % word_bits)) ∙ eqb-true _ 1 one)

pub returns-clause-told : goal.returns-clause-told
returns-clause-told c unseen =
    c.step-found.ensures.told.1 (ap (λ x. x == 1) (sym (shr_and_one c.step-found.result (c.args.buffer % word_bits))) ∙ unseen)
