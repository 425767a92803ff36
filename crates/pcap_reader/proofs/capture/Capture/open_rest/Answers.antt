-- A file header is a magic and the fields behind it.
use Rattle.std.proofs.{Common.{◌≡◌, ℕ, List, ◌++◌, ◌∙◌, length, Option, Some, None, Ok, Err, refl, ap, append_assoc, arith, sym}, lemmas.Result.{err_from_is_err_and}}
use Rattle.std.specs.Option.{ok_or}
use Rattle.zr_kinds.specs.declared.fault.Fault.{Fault, TheVariants.{NotPcap}}
use Rattle.zr_io.proofs.Moved.{Took-weaker}
use Rattle.pcap_reader.specs.{Records.{ByteOrder, order_of, header_fault, classic_records_of, records_in}, Steps.{IsMagicOf, fault_of_fields, behind_magic_in}}
use Rattle.pcap_reader.proofs.{HeaderLaws.{records_of-told, header_fault-told, header_fault-other}, Joined.{HeaderStops-nothing, HeaderStops-within, fronts-weaker}}
use Rattle.pcap_reader.proofs.capture.Capture.open_rest.Goals as goal

opened : (order : ByteOrder) (magic fields : List ℕ) → IsMagicOf order magic
    → ((rest : List ℕ) → behind_magic_in order (fields ++ rest) ≡ records_in order rest)
    → (rest : List ℕ) → classic_records_of ((magic ++ fields) ++ rest) ≡ records_in order rest
opened order magic fields is good rest = ap classic_records_of (append_assoc magic fields rest) ∙ records_of-told order magic (fields ++ rest) is ∙ good rest

magic_of : (first : List ℕ) (told : Option ByteOrder) (order : ByteOrder) → length first ≡ 4 → told ≡ order_of first
    → Ok order ≡ ok_or told NotPcap → IsMagicOf order first
magic_of first (Some told) order whole is good = let same : told ≡ order = cc in record { whole = whole; tells = sym is ∙ ap Some same }
magic_of first None order whole is good = absurd cc

no_magic : (first : List ℕ) (told : Option ByteOrder) (fault : Fault) → told ≡ order_of first → Err fault ≡ ok_or told NotPcap
    → (order_of first ≡ None) × (fault ≡ NotPcap)
no_magic first (Some told) fault is bad = absurd cc
no_magic first None fault is bad = (sym is, cc)

pub returns-in_err-order-clause-opens : goal.returns-in_err-order-clause-opens
returns-in_err-order-clause-opens g c =
    let p = err_from_is_err_and c.from_residual.result c.from_residual.ensures.1 in
    let none = no_magic c.args.first c.order_of.result c.in_err-order.field-0.0 c.order_of.ensures c.in_err-order.ensures.value in
    rw (p.1, p.2, none.1)
    (HeaderStops-nothing header_fault _ c.args.first NotPcap tt (λ rest. header_fault-other c.args.first rest (omega arith) none.0) (λ found e. e)
    (λ found e. e))

pub returns-in_err-read_fields-clause-opens : goal.returns-in_err-read_fields-clause-opens
returns-in_err-read_fields-clause-opens g c =
    let order = c.in_ok-order.order in
    let p = err_from_is_err_and c.from_residual-in_err-read_fields.result c.from_residual-in_err-read_fields.ensures.1 in
    let is = magic_of c.args.first c.order_of.result order (omega arith) c.order_of.ensures c.in_ok-order.ensures.value in
    rw (p.1, p.2)
    (HeaderStops-within header_fault (fault_of_fields order) _ _ c.args.first _ (λ ys. header_fault-told order c.args.first ys is)
    c.in_err-read_fields.ensures.takes)

pub returns-clause-opens : goal.returns-clause-opens
returns-clause-opens g c =
    let order = c.in_ok-order.order in
    let is = magic_of c.args.first c.order_of.result order (omega arith) c.order_of.ensures c.in_ok-order.ensures.value in
    let takes = c.in_ok-read_fields.ensures.takes in (
      refl,
      Took-weaker _ _ _ _ (λ fields good. opened order c.args.first fields is good) takes.0,
      Took-weaker _ _ _ _ (λ fields fronts. fronts-weaker _ _ fields (λ front cut. header_fault-told order c.args.first front is ∙ cut) fronts) takes.1,
    )
