use Rattle.std.proofs.{Common.{◌≡◌, ◌∙◌, sym, ap, length, drop, ℕ, ◌<◌, slice_index, rules, arith, FitsSigned}, lemmas.{List.{length-drop}, Int.{to_z-of_z}}}
use Rattle.std.specs.Int.{cast_signed}
use mir.Syntax.{w32}
use Rattle.byteorder.specs.Numbers.{little_from-take}
use Rattle.area_layout.proofs.Bytes.{read_none, read_some, same_completion, completion_back, some_back, pad_zeros, small_behind}
use Rattle.area_layout.proofs.entries.cqe_read.Goals as goal

pub returns-then-read_u64-ne0-clause-value : goal.returns-then-read_u64-ne0-clause-value
returns-then-read_u64-ne0-clause-value c =
    let xs = c.args.b.now in
    let pad = c.read_u64.ensures ∙ little_from-take 0 8 8 (drop 24 xs) (omega arith) in
    read_none xs (λ none. c.if-read_u64-ne0.true (pad ∙ none))

pub returns-clause-value : goal.returns-clause-value
returns-clause-value c =
    let xs = c.args.b.now in
    let pad = c.read_u64.ensures ∙ little_from-take 0 8 8 (drop 24 xs) (omega arith) in
    let fits : FitsSigned w32 c.read_i32.result = search rules in
    same_completion xs _ _ _ _ c.read_u64-2.ensures
    (to_z-of_z w32 c.read_i32.result fits ∙ c.read_i32.ensures ∙ ap (cast_signed w32) (little_from-take 0 4 24 (drop 8 xs) (omega arith)))
    (c.read_u32.ensures ∙ little_from-take 0 4 20 (drop 12 xs) (omega arith))
    (c.read_u64-3.ensures ∙ little_from-take 0 8 16 (drop 16 xs) (omega arith))
    ∙ read_some xs (sym pad ∙ c.if-read_u64-ne0.false)

pub returns-clause-padded : goal.returns-clause-padded
returns-clause-padded c =
    let xs = c.args.b.now in
    let pad = c.read_u64.ensures ∙ little_from-take 0 8 8 (drop 24 xs) (omega arith) in
    let len : length xs ≡ 32 = search rules in
    let small : (i : ℕ) → slice_index xs i < 256 = search rules in
    let last : length (drop 24 xs) ≡ 8 = let l = length-drop 24 xs in omega arith in
    (λ never. absurd (cc), λ other. absurd (other (pad_zeros (drop 24 xs) last (small_behind 24 xs small) (sym pad ∙ c.if-read_u64-ne0.false))))

pub returns-clause-bytes_back : goal.returns-clause-bytes_back
returns-clause-bytes_back c =
    let xs = c.args.b.now in
    let pad = c.read_u64.ensures ∙ little_from-take 0 8 8 (drop 24 xs) (omega arith) in
    let len : length xs ≡ 32 = search rules in
    let small : (i : ℕ) → slice_index xs i < 256 = search rules in
    let none = sym pad ∙ c.if-read_u64-ne0.false in
    some_back xs _ (returns-clause-value c ∙ sym (read_some xs none)) (completion_back xs len small none)
