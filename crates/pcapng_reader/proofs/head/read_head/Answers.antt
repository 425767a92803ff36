-- The first bytes of a block, judged as they come.
use Rattle.std.proofs.{Common.{◌≡◌, ℕ, ◌-◌, ◌<◌, List, ◌++◌, length, take, Some, arith, ap, sym, ◌∙◌, append_assoc}, lemmas.Result.{err_from_is_err_and}}
use Rattle.std.proofs.lemmas.List.{take_at}
use Rattle.zr_kinds.specs.declared.fault.Fault.TheVariants.{Cut}
use Rattle.zr_io.proofs.Moved.{Took-then, Took-weaker}
use Rattle.pcap_reader.proofs.RecordLaws.{number_in}
use Rattle.pcapng_reader.{specs.{Blocks.{begin_len, block_fault}, Steps.{told, fault_from, IsHeaderFault}}, proofs.BlockSteps.{breaks-then, stops-broken, stops-bad}}
use Rattle.pcapng_reader.proofs.Heads.{told_of, none_told, may_come, start-cut, begun_of, magic-bad, total-bad, more-cut, later_whole, later_begun, begin-cuts}
use Rattle.pcapng_reader.proofs.head.read_head.Goals as goal

pub returns-in_err-fill_part-clause-takes : goal.returns-in_err-fill_part-clause-takes
returns-in_err-fill_part-clause-takes g c =
    let p = err_from_is_err_and c.from_residual.result c.from_residual.ensures.1 in
    let s = told c.args.section.now in
    let start = c.args.start in
    let kind = c.of-kind.result in
    let begun = c.begin_len-begun.ensures in
    rw (p.1, p.2)
    (stops-broken IsHeaderFault (fault_from s start) _ _ _ _ tt tt
    (λ xs short. start-cut s start (omega arith) kind xs c.of-kind.ensures (omega arith)) c.in_err-fill_part.ensures.fills)

pub returns-in_err-order-clause-takes : goal.returns-in_err-order-clause-takes
returns-in_err-order-clause-takes g c =
    let p = err_from_is_err_and c.from_residual-in_err-order.result c.from_residual-in_err-order.ensures.1 in
    let s = told c.args.section.now in
    let start = c.args.start in
    let kind = c.of-kind.result in
    let bytes = c.fill_part.new.bytes in
    let front : take 8 bytes ≡ start = c.in_ok-fill_part.ensures.front ∙ take_at c.copy_from_slice.new.self _ 8 (omega arith) ∙ c.copy_from_slice.ensures.after in
    let none = none_told c.order_told.result c.in_err-order.field-0.0 c.in_err-order.ensures.value in
    rw (p.1, p.2, none.1)
    (stops-bad IsHeaderFault (fault_from s start) _ _ (λ t. take (begin_len kind) bytes ≡ start ++ t) tt
    (λ xs rest taken. magic-bad s start (omega arith) kind c.of-kind.ensures bytes (omega arith) front xs taken (sym c.order_told.ensures ∙ none.0) rest)
    (λ xs taken. begin-cuts s start (omega arith) kind c.of-kind.ensures bytes (omega arith) front xs taken)
    (Took-weaker _ _ _ _ (λ t e. ap (λ (n : ℕ). take n bytes) (sym c.begin_len-begun.ensures) ∙ e
    ∙ ap (λ (l : List ℕ). l ++ t) (take_at c.copy_from_slice.new.self _ 8 (omega arith) ∙ c.copy_from_slice.ensures.after))
    c.in_ok-fill_part.ensures.fills))

pub returns-then-refuses-clause-takes : goal.returns-then-refuses-clause-takes
returns-then-refuses-clause-takes g c =
    let s = told c.args.section.now in
    let start = c.args.start in
    let kind = c.of-kind.result in
    let order = c.in_ok-order.order in
    let total = c.number32-total.result in
    let bytes = c.fill_part.new.bytes in
    let front : take 8 bytes ≡ start = c.in_ok-fill_part.ensures.front ∙ take_at c.copy_from_slice.new.self _ 8 (omega arith) ∙ c.copy_from_slice.ensures.after in
    let tells = sym c.order_told.ensures ∙ told_of c.order_told.result order c.in_ok-order.ensures.value in
    let h = begun_of s start (omega arith) kind c.of-kind.ensures bytes (omega arith) front order total tells (number_in order 4 24 bytes total (omega arith) c.number32-total.ensures) in
    stops-bad IsHeaderFault (fault_from s start) _ _ (λ t. take (begin_len kind) bytes ≡ start ++ t) tt
    (λ xs rest taken. total-bad s start (omega arith) kind c.of-kind.ensures bytes (omega arith) front xs taken order total h (sym c.refuses.ensures ∙ c.if-refuses.true) rest)
    (λ xs taken. begin-cuts s start (omega arith) kind c.of-kind.ensures bytes (omega arith) front xs taken)
    (Took-weaker _ _ _ _ (λ t e. ap (λ (n : ℕ). take n bytes) (sym c.begin_len-begun.ensures) ∙ e
    ∙ ap (λ (l : List ℕ). l ++ t) (take_at c.copy_from_slice.new.self _ 8 (omega arith) ∙ c.copy_from_slice.ensures.after))
    c.in_ok-fill_part.ensures.fills)

pub returns-in_err-fill_part-2-clause-takes : goal.returns-in_err-fill_part-2-clause-takes
returns-in_err-fill_part-2-clause-takes g c =
    let p = err_from_is_err_and c.from_residual-in_err-fill_part-2.result c.from_residual-in_err-fill_part-2.ensures.1 in
    let s = told c.args.section.now in
    let start = c.args.start in
    let kind = c.of-kind.result in
    let order = c.in_ok-order.order in
    let total = c.number32-total.result in
    let bytes = c.fill_part.new.bytes in
    let front : take 8 bytes ≡ start = c.in_ok-fill_part.ensures.front ∙ take_at c.copy_from_slice.new.self _ 8 (omega arith) ∙ c.copy_from_slice.ensures.after in
    let tells = sym c.order_told.ensures ∙ told_of c.order_told.result order c.in_ok-order.ensures.value in
    let h = begun_of s start (omega arith) kind c.of-kind.ensures bytes (omega arith) front order total tells (number_in order 4 24 bytes total (omega arith) c.number32-total.ensures) in
    let may = may_come s kind total c.refuses.result c.refuses.ensures c.if-refuses.false in
    let begun = c.begin_len-begun.ensures in
    let fixed = c.fixed_len.ensures in
    rw (p.1, p.2)
    (stops-broken IsHeaderFault (fault_from s start) _ _ (λ t. block_fault s (start ++ t) ≡ Some Cut) _ tt tt (λ xs is. is)
    (breaks-then _ _ _ (λ t. take (begin_len kind) bytes ≡ start ++ t)
    (λ t. length t < c.fixed_len.result - c.begin_len-begun.result) _ _
    (λ xs ys taken short. more-cut s start (omega arith) kind c.of-kind.ensures bytes (omega arith) front xs taken order total h may ys (omega arith))
    (Took-weaker _ _ _ _ (λ t e. ap (λ (n : ℕ). take n bytes) (sym begun) ∙ e
    ∙ ap (λ (l : List ℕ). l ++ t) (take_at c.copy_from_slice.new.self _ 8 (omega arith) ∙ c.copy_from_slice.ensures.after))
    c.in_ok-fill_part.ensures.fills) c.in_err-fill_part-2.ensures.fills))

pub returns-clause-is : goal.returns-clause-is
returns-clause-is g c =
    let s = told c.args.section.now in
    let start = c.args.start in
    let kind = c.of-kind.result in
    let order = c.in_ok-order.order in
    let total = c.number32-total.result in
    let bytes = c.fill_part.new.bytes in
    let later = c.fill_part-2.new.bytes in
    let front : take 8 bytes ≡ start = c.in_ok-fill_part.ensures.front ∙ take_at c.copy_from_slice.new.self _ 8 (omega arith) ∙ c.copy_from_slice.ensures.after in
    let tells = sym c.order_told.ensures ∙ told_of c.order_told.result order c.in_ok-order.ensures.value in
    let h = begun_of s start (omega arith) kind c.of-kind.ensures bytes (omega arith) front order total tells (number_in order 4 24 bytes total (omega arith) c.number32-total.ensures) in
    let same = ap (λ (n : ℕ). take n later) (sym c.begin_len-begun.ensures) ∙ c.in_ok-fill_part-2.ensures.front
    ∙ ap (λ (n : ℕ). take n bytes) c.begin_len-begun.ensures in
    record {
      whole = later_whole s start (omega arith) kind c.of-kind.ensures bytes (omega arith) front order total h later (omega arith) same;
      begun = later_begun s start (omega arith) kind c.of-kind.ensures bytes (omega arith) front order total h later (omega arith) same;
      may = may_come s kind total c.refuses.result c.refuses.ensures c.if-refuses.false;
    }

pub returns-clause-takes : goal.returns-clause-takes
returns-clause-takes g c =
    let start = c.args.start in
    let kind = c.of-kind.result in
    let bytes = c.fill_part.new.bytes in
    let later = c.fill_part-2.new.bytes in
    Took-then _ _ _ (λ t. take c.begin_len-begun.result bytes ≡ start ++ t) _ _
    (λ xs ys taken more. sym (append_assoc start xs ys) ∙ ap (λ (l : List ℕ). l ++ ys) (sym taken) ∙ sym more
    ∙ ap (λ (n : ℕ). take n later) c.fixed_len.ensures)
    (Took-weaker _ _ _ _ (λ t e. e ∙ ap (λ (l : List ℕ). l ++ t) (take_at c.copy_from_slice.new.self _ 8 (omega arith) ∙ c.copy_from_slice.ensures.after))
    c.in_ok-fill_part.ensures.fills) c.in_ok-fill_part-2.ensures.fills
