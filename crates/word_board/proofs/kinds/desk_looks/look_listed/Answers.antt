use Rattle.std.proofs.Common.{◌≡◌, ℕ, ◌+◌, ◌/◌, ◌%◌, ◌^◌, ◌<◌, Bool, true, false, nat_eq, get_or, ap, sym, ◌∙◌, subst, arith}
use Rattle.std.{specs.{Prelude.{◌==◌, count_by, if◌then◌else◌, bit_and}, Int.{bit_at}}, proofs.lemmas.Nat.Bits.{shr_and_one}}
use Rattle.area_layout.specs.Layout.{pool_buffers}
use Rattle.board_face.specs.{NicCalls.{free_words_of}, NicEvents.{word_bits}}
use Rattle.ref_words.specs.Words.{free_at}
use Rattle.word_board.{specs.{Board.{card_of_seat}, Desk.{AllAreBack}}, proofs.{FreeWords.{of-word}, RolesBack.{lesson, free-there}}}
use Rattle.word_board.proofs.kinds.desk_looks.look_listed.Goals as goal

pub step_as-found-requires-clause-allows : goal.step_as-found-requires-clause-allows
step_as-found-requires-clause-allows c =
    let words = c.args.words.now in
    let setting = words.table.shared.key in
    let desk = c.args.desk.now in
    let b = c.args.buffer in
    let i = c.free-word.result in
    let law = c.what_is_over.ensures in
    let all = subst (λ s. AllAreBack s desk.me.0) words.keyed c.requires.all in
    let of_pool = subst (λ s. b < pool_buffers s.layout) words.keyed c.requires.of_pool in
    let at_word = c.free-word.ensures.value ∙ ap (λ s. free_at s (b / word_bits)) words.keyed in
    let within : b / word_bits < free_words_of setting = omega (arith, of_pool) in
    let told : ℕ → Type 0 = λ n. count_by (nat_eq b) (card_of_seat desk.me.0).view.cache + (if bit_at n (b % word_bits) == 1 then 1 else 0) ≡ 1 in
    lesson setting words.table.shared.table_id.slots desk.id i told desk.me
    (λ s board at. subst (λ ws. told (get_or ws i 0)) (sym board.laid)
    (of-word setting board.words (b / word_bits) i at_word within board.rule told
    (free-there law setting s board desk.id desk.me.0 at c.requires.over all b of_pool)))

pub returns-clause-same : goal.returns-clause-same
returns-clause-same c =
    let did = c.step_as-found.ensures in record { table = did.table; number = did.number; me = did.me }

one-of-both : (listed : Bool) (n : ℕ) → n + (if listed then 1 else 0) ≡ 1 → n ≡ (if listed then 0 else 1)
one-of-both true n one = omega (arith, one)
one-of-both false n one = omega (arith, one)

pub returns-clause-listed : goal.returns-clause-listed
returns-clause-listed c =
    let b = c.args.buffer in
    one-of-both (bit_and (c.step_as-found.result / 2 ^ (b % word_bits)) 1 == 1) _
    (ap (λ x. count_by (nat_eq b) (card_of_seat c.args.desk.now.me.0).view.cache + (if x == 1 then 1 else 0))
    (shr_and_one c.step_as-found.result (b % word_bits)) ∙ c.step_as-found.ensures.told)
