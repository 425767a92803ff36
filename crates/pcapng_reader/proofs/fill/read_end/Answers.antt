-- Behind the bytes that are passed over stands the last number.
use Rattle.std.proofs.{Common.{◌≡◌, ℕ, ◌+◌, ◌<◌, List, ◌++◌, length, drop, Option, Err, arith, length-append, ◌∙◌, ap, sym, refl}, lemmas.Result.{err_from_is_err_and}}
use Rattle.std.proofs.lemmas.List.{drop_at}
use Rattle.zr_kinds.specs.declared.fault.Fault.{Fault, TheVariants.{Read, Cut}}
use Rattle.zr_io.proofs.Moved.{Took-consumed, Took-then}
use Rattle.pcap_reader.specs.{declared.order.ByteOrder.{ByteOrder}, Records.{number}, Steps.{StepBreaksOff}}
use Rattle.pcapng_reader.{specs.Steps.{TakesEnd}, proofs.BlockSteps.{breaks-then, breaks-weaker}}
use Rattle.pcapng_reader.proofs.fill.read_end.Goals as goal

end_broken : (order : ByteOrder) (total count : ℕ) (a b : Option (List ℕ)) (fault : Fault) → StepBreaksOff a b (λ xs. length xs < count + 4) fault
    → TakesEnd order total count a b (Err fault)
end_broken order total count a b Read broke = broke
end_broken order total count a b Cut broke = broke
end_broken order total count a b _ broke = absurd broke

last : (order : ByteOrder) (count : ℕ) (number32 : ℕ) (bytes xs ys : List ℕ) → length bytes ≡ 4 → number32 ≡ number order 4 bytes → length xs ≡ count → ys ≡ bytes
    → (length (xs ++ ys) ≡ count + 4) × (number order 4 (drop count (xs ++ ys)) ≡ number32)
last order count number32 bytes xs ys whole is size same =
    let four : length ys ≡ 4 = ap length same ∙ whole in
    (omega (arith, length-append xs ys), ap (number order 4) (drop_at xs ys count size ∙ same) ∙ sym is)

pub returns-in_err-skip-clause-takes : goal.returns-in_err-skip-clause-takes
returns-in_err-skip-clause-takes g c =
    let p = err_from_is_err_and c.from_residual.result c.from_residual.ensures.1 in
    rw (p.1, p.2)
    (end_broken c.args.order c.args.total c.args.count _ _ _ (breaks-weaker _ _ _ (λ xs. length xs < c.args.count + 4) _ (λ xs short. omega arith) c.in_err-skip.ensures.skips))

pub returns-in_err-fill_whole-clause-takes : goal.returns-in_err-fill_whole-clause-takes
returns-in_err-fill_whole-clause-takes g c =
    let p = err_from_is_err_and c.from_residual-in_err-fill_whole.result c.from_residual-in_err-fill_whole.ensures.1 in
    let whole : length c.fill_whole.new.into ≡ 4 = omega arith in
    rw (p.1, p.2)
    (end_broken c.args.order c.args.total c.args.count _ _ _
    (breaks-then _ _ _ (λ xs. length xs ≡ c.args.count) (λ ys. length ys < length c.fill_whole.new.into) (λ xs. length xs < c.args.count + 4) _
    (λ xs ys size short. omega (arith, length-append xs ys, whole)) c.in_ok-skip.ensures.skips c.in_err-fill_whole.ensures.fills))

pub returns-then-number32-total-clause-takes : goal.returns-then-number32-total-clause-takes
returns-then-number32-total-clause-takes g c =
    let bytes = c.fill_whole.new.into in
    let whole : length bytes ≡ 4 = omega arith in
    Took-then _ _ _ (λ xs. length xs ≡ c.args.count) (λ ys. ys ≡ bytes) _
    (λ xs ys size same. let l = last c.args.order c.args.count c.number32.result bytes xs ys whole c.number32.ensures size same in
    (l.0, λ (e : number c.args.order 4 (drop c.args.count (xs ++ ys)) ≡ c.args.total). c.if-number32-total.true (sym l.1 ∙ e)))
    c.in_ok-skip.ensures.skips (Took-consumed _ _ bytes _ c.in_ok-fill_whole.ensures.fills refl)

pub returns-clause-takes : goal.returns-clause-takes
returns-clause-takes g c =
    let bytes = c.fill_whole.new.into in
    let whole : length bytes ≡ 4 = omega arith in
    Took-then _ _ _ (λ xs. length xs ≡ c.args.count) (λ ys. ys ≡ bytes) _
    (λ xs ys size same. let l = last c.args.order c.args.count c.number32.result bytes xs ys whole c.number32.ensures size same in
    (l.0, l.1 ∙ c.if-number32-total.false))
    c.in_ok-skip.ensures.skips (Took-consumed _ _ bytes _ c.in_ok-fill_whole.ensures.fills refl)
