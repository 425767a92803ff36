-- The first four bytes tell the form.
use Rattle.std.proofs.{Common.{length, sym, ◌∙◌, arith}, lemmas.Result.{err_from_is_err_and}}
use Rattle.pcapng_reader.{specs.Steps.{told}, proofs.Forms.{opening-broken, opens-blocks-fault, opens-classic-fault, took-blocks, took-classic}}
use Rattle.pcapng_reader.proofs.Forms.{alone-blocks, alone-classic}
use Rattle.pcapng_reader.proofs.any.AnyCapture.open.Goals as goal

pub returns-in_err-fill_whole-clause-opens : goal.returns-in_err-fill_whole-clause-opens
returns-in_err-fill_whole-clause-opens g c =
    let p = err_from_is_err_and c.from_residual.result c.from_residual.ensures.1 in
    rw (p.1, p.2) (opening-broken _ _ (length c.fill_whole.new.into) _ (omega arith) c.in_err-fill_whole.ensures.fills)

pub returns-in_err-capture-clause-opens : goal.returns-in_err-capture-clause-opens
returns-in_err-capture-clause-opens g c =
    let p = err_from_is_err_and c.from_residual-in_err-capture.result c.from_residual-in_err-capture.ensures.1 in
    rw (p.1, p.2)
    (opens-blocks-fault _ _ _ c.fill_whole.new.into (omega arith) c.in_ok-fill_whole.ensures.fills
    (sym c.is_section_header.ensures ∙ c.if-is_section_header.true) _ c.in_err-capture.ensures.opens)

pub returns-then-is_section_header-clause-opens : goal.returns-then-is_section_header-clause-opens
returns-then-is_section_header-clause-opens g c =
    let opens = c.in_ok-capture.ensures.opens in (
      opens.0,
      took-blocks _ _ _ c.fill_whole.new.into (omega arith) c.in_ok-fill_whole.ensures.fills (told c.in_ok-capture.capture.section)
          (sym c.is_section_header.ensures ∙ c.if-is_section_header.true) opens.1,
      alone-blocks _ _ _ c.fill_whole.new.into (omega arith) c.in_ok-fill_whole.ensures.fills
          (sym c.is_section_header.ensures ∙ c.if-is_section_header.true) opens.2,
    )

pub returns-in_err-capture-2-clause-opens : goal.returns-in_err-capture-2-clause-opens
returns-in_err-capture-2-clause-opens g c =
    let p = err_from_is_err_and c.from_residual-in_err-capture-2.result c.from_residual-in_err-capture-2.ensures.1 in
    rw (p.1, p.2)
    (opens-classic-fault _ _ _ c.fill_whole.new.into (omega arith) c.in_ok-fill_whole.ensures.fills
    (sym c.is_section_header.ensures ∙ c.if-is_section_header.false) _ c.in_err-capture-2.ensures.opens)

pub returns-clause-opens : goal.returns-clause-opens
returns-clause-opens g c =
    let opens = c.in_ok-capture-2.ensures.opens in (
      opens.0,
      took-classic _ _ _ c.fill_whole.new.into (omega arith) c.in_ok-fill_whole.ensures.fills c.in_ok-capture-2.capture.order
          (sym c.is_section_header.ensures ∙ c.if-is_section_header.false) opens.1,
      alone-classic _ _ _ c.fill_whole.new.into (omega arith) c.in_ok-fill_whole.ensures.fills
          (sym c.is_section_header.ensures ∙ c.if-is_section_header.false) opens.2,
    )
