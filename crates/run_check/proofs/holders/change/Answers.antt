use Rattle.std.proofs.Common.{◌≡◌, ◌∙◌, ap, arith, refl}
use Rattle.zr_kinds.specs.EventFields.{bytes_of_event}
use Rattle.run_check.proofs.Events.{bytes_near}
use Rattle.run_check.proofs.holders.change.Goals as goal

pub place-requires-clause-fits : goal.place-requires-clause-fits
place-requires-clause-fits c =
    omega (
      arith,
      bytes_near c.args.setting.now c.args.event c.requires.sound c.requires.ranged,
      ap (λ bytes. bytes.0) c.bytes-offset.ensures,
      ap (λ bytes. bytes.1) c.bytes-offset.ensures,
    )

pub cut-requires-clause-fits : goal.cut-requires-clause-fits
cut-requires-clause-fits c =
    omega (
      arith,
      bytes_near c.args.setting.now c.args.event c.requires.sound c.requires.ranged,
      ap (λ bytes. bytes.0) c.bytes-offset.ensures,
      ap (λ bytes. bytes.1) c.bytes-offset.ensures,
    )

pub returns-in-Place : goal.returns-in-Place
returns-in-Place c =
    let bytes : c.bytes-offset.result ≡ (c.in-Place.offset, c.in-Place.len) = c.bytes-offset.ensures ∙ ap bytes_of_event c.in-Place.is in
    let offset : c.bytes-offset.result.0 ≡ c.in-Place.offset = ap (λ b. b.0) bytes in
    let len : c.bytes-offset.result.1 ≡ c.in-Place.len = ap (λ b. b.1) bytes in
    rw (c.in-Place.is, ← offset, ← len) c.place.ensures

pub returns-in-Stray : goal.returns-in-Stray
returns-in-Stray c = rw c.in-Stray.is (c.args.held.now, refl, λ weigh. refl)
