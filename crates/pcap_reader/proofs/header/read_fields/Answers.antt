-- What the fields of a file header show.
use Rattle.std.proofs.{Common.{◌≡◌, ℕ, ◌%◌, ◌∙◌, length, drop, arith, ap, sym}, lemmas.Result.{err_from_is_err_and}}
use Rattle.zr_kinds.specs.declared.fault.Fault.TheVariants.{Version, LinkType}
use Rattle.zr_io.proofs.Moved.{Took-consumed}
use Rattle.pcap_reader.specs.{Records.{number}, Steps.{fault_of_fields}}
use Rattle.pcap_reader.proofs.HeaderLaws.{fault_of_fields-cut, fault_of_fields-version, fault_of_fields-link, behind_magic-good}
use Rattle.pcap_reader.proofs.{Joined.{HeaderStops-broken, HeaderStops-front, fronts-short}, RecordLaws.{number_in}}
use Rattle.pcap_reader.proofs.header.read_fields.Goals as goal

pub returns-in_err-fill_whole-clause-takes : goal.returns-in_err-fill_whole-clause-takes
returns-in_err-fill_whole-clause-takes g c =
    let p = err_from_is_err_and c.from_residual.result c.from_residual.ensures.1 in
    let order = c.args.order in
    rw (p.1, p.2)
    (HeaderStops-broken (fault_of_fields order) _ _ _ _ (λ xs short. fault_of_fields-cut order xs (omega arith)) c.in_err-fill_whole.ensures.fills)

pub returns-then-number16-ne-MAJOR_VERSION-clause-takes :
    goal.returns-then-number16-ne-MAJOR_VERSION-clause-takes
returns-then-number16-ne-MAJOR_VERSION-clause-takes g c =
    let order = c.args.order in
    let fields = c.fill_whole.new.into in
    let whole : length fields ≡ 20 = omega arith in
    let other = λ (e : number order 2 fields ≡ 2). c.if-number16-ne-MAJOR_VERSION.true (c.number16.ensures ∙ e) in
    HeaderStops-front (fault_of_fields order) _ _ fields Version tt (λ rest. fault_of_fields-version order fields rest whole other)
    (λ found e. e) (λ found e. e) (fronts-short _ fields (λ front short. fault_of_fields-cut order front (omega arith)))
    c.in_ok-fill_whole.ensures.fills

pub returns-then-number32-ne-ETHERNET-clause-takes :
    goal.returns-then-number32-ne-ETHERNET-clause-takes
returns-then-number32-ne-ETHERNET-clause-takes g c =
    let order = c.args.order in
    let fields = c.fill_whole.new.into in
    let whole : length fields ≡ 20 = omega arith in
    let link = number_in order 16 4 fields c.number32.result whole c.number32.ensures in
    let two = sym c.number16.ensures ∙ c.if-number16-ne-MAJOR_VERSION.false in
    let other = λ (e : number order 4 (drop 16 fields) % 65536 ≡ 1). c.if-number32-ne-ETHERNET.true (ap (λ (n : ℕ). n % 65536) (sym link) ∙ e) in
    HeaderStops-front (fault_of_fields order) _ _ fields LinkType tt (λ rest. fault_of_fields-link order fields rest whole two other)
    (λ found e. e) (λ found e. e) (fronts-short _ fields (λ front short. fault_of_fields-cut order front (omega arith)))
    c.in_ok-fill_whole.ensures.fills

pub returns-clause-takes : goal.returns-clause-takes
returns-clause-takes g c =
    let order = c.args.order in
    let fields = c.fill_whole.new.into in
    let whole : length fields ≡ 20 = omega arith in
    let link = number_in order 16 4 fields c.number32.result whole c.number32.ensures in
    let two = sym c.number16.ensures ∙ c.if-number16-ne-MAJOR_VERSION.false in
    let ethernet = ap (λ (n : ℕ). n % 65536) link ∙ c.if-number32-ne-ETHERNET.false in (
      Took-consumed _ _ fields _ c.in_ok-fill_whole.ensures.fills (λ rest. behind_magic-good order fields rest whole two ethernet),
      Took-consumed _ _ fields _ c.in_ok-fill_whole.ensures.fills
          (fronts-short _ fields (λ front short. fault_of_fields-cut order front (omega arith))),
    )
