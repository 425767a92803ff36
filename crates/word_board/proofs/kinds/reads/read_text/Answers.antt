use Rattle.std.{proofs.Common.{◌≡◌, ℕ, ◌+◌, ◌/◌, ◌%◌, ◌<◌, ◌≤◌, length, take, drop, refl, ap, sym, ◌∙◌, subst, arith}, specs.Prelude.{◌==◌, false, None, Option}, proofs.lemmas.Bool.Decides.{nat_tests}}
use Rattle.zr_kinds.specs.declared.place.Place.{Place}
use Rattle.area_layout.specs.Layout.{Shape, IsLayout, LiesIn, begin_of}
use Rattle.board_face.specs.{AppCalls.{ShowsCopy}, AppEvents.{loan_origin, has_read}, declared.views.parts.{Setting.{Setting}, Making.{Making}}}
use Rattle.ref_words.specs.{AreaSteps.{part_of, side_at_hand, side_read}, Lines.{begin_line, line_count, joined, text_in}, Runs.{reads_text, gives_lines}}
use Rattle.ref_words.proofs.AreaLines.{begin-lines}
use Rattle.word_board.proofs.{Stepping.{loads}, Taking.{app-take, app-give, kept-lines}}
use Rattle.word_board.proofs.kinds.reads.read_text.Goals as goal

-- The line in which a part of a place begins, and the byte of it.
part-at : (setting map : Setting) (layout : Shape) → map ≡ setting → layout ≡ map.layout → IsLayout map.layout → (place : Place) (from n at : ℕ)
    → at ≡ begin_of layout place.buffer + place.offset
    → ((at + from) / 64 ≡ begin_line setting.layout (part_of place from n)) × ((part_of place from n).offset % 64 ≡ (at + from) % 64)
part-at setting map layout same cut good place from n at is =
    let there : at ≡ begin_of setting.layout place.buffer + place.offset =
    is ∙ ap (λ (s : Shape). begin_of s place.buffer + place.offset) (cut ∙ ap (λ (s : Setting). s.layout) same) in
    let whole = begin-lines setting.layout place.buffer (subst (λ (s : Setting). IsLayout s.layout) same good) in
    (omega (arith, whole, there), omega (arith, whole, there))

part-lies : (layout : Shape) (place : Place) (from n : ℕ) → LiesIn layout place → from + n ≤ place.len → LiesIn layout (part_of place from n)
part-lies layout place from n lies within = let fits = lies.bytes in record { buffer = lies.buffer; bytes = omega (arith, fits, within) }

filled-by : (n : ℕ) → (n == 0) ≡ false → 0 < n
filled-by n test = grind (arith, nat_tests)

pub read_text-requires-clause-takes : goal.read_text-requires-clause-takes
read_text-requires-clause-takes c =
    let setting = c.args.app.now.board.setting in
    let mine = c.args.app.now.side in
    let loan = c.args.loan in
    let from : ℕ = c.args.from in
    let n : ℕ = length c.args.into.now in
    let part = part_of loan from n in
    let at = part-at setting _ _ c.map.ensures c.layout.ensures.value c.layout.ensures.sound loan from n _ c.byte_of.ensures.value in
    let filled : 0 < n = filled-by _ (sym c.is_empty.ensures ∙ c.if-is_empty.false) in
    app-take c.args.app.now _ _ _ _ part (λ lines. side_read mine loan from n lines) joined
    (λ lines. ShowsCopy (loan_origin mine.view loan) from (text_in part lines)) at.0 (ap (λ x. (x + n + 63) / 64) at.1)
    (part-lies setting.layout loan from n c.requires.lies c.requires.within) filled c.requires.idle (λ _. refl) (λ _. refl)
    (λ ws nic apps rule here small.
    let law = c.app_keeps_the_rule.ensures setting ws nic apps mine (reads_text loan from n) rule here
    (c.requires.out, filled, c.requires.within, c.requires.idle) in
    (loads setting ws _ law.rule, law.lines, law.finds))

pub read_text-requires-clause-gives : goal.read_text-requires-clause-gives
read_text-requires-clause-gives c = λ lines told many wide.
    let setting = c.args.app.now.board.setting in
    let mine = c.args.app.now.side in
    let loan = c.args.loan in
    let from : ℕ = c.args.from in
    let n : ℕ = length c.args.into.now in
    let part = part_of loan from n in
    let at = part-at setting _ _ c.map.ensures c.layout.ensures.value c.layout.ensures.sound loan from n _ c.byte_of.ensures.value in
    let filled : 0 < n = filled-by _ (sym c.is_empty.ensures ∙ c.if-is_empty.false) in
    let lies = part-lies setting.layout loan from n c.requires.lies c.requires.within in
    let long : length lines ≡ line_count part = many ∙ sym (ap (λ x. (x + n + 63) / 64) at.1) in
    let begun = side_read mine loan from n lines in
    app-give (record c.args.app.now { side = begun }) _ part (joined lines) lines (side_at_hand begun None) at.0 lies filled refl long refl
    (λ ws nic apps rule here.
    let law = c.app_keeps_the_rule.ensures setting ws nic apps begun (gives_lines part lines) rule here (refl, omega (arith, filled, long), long, wide) in
    kept-lines setting ws part lines nic apps _ lies filled rule law.finds law.rule)

pub returns : goal.returns
returns c =
    let setting = c.args.app.now.board.setting in
    let mine = c.args.app.now.side in
    let loan = c.args.loan in
    let from : ℕ = c.args.from in
    let n : ℕ = length c.args.into.now in
    let at = part-at setting _ _ c.map.ensures c.layout.ensures.value c.layout.ensures.sound loan from n _ c.byte_of.ensures.value in
    let read = c.read_text.ensures.read in
    let into = c.read_text.new.into in
    let bytes : into ≡ text_in (part_of loan from n) read.lines =
    read.bytes
    ∙ (ap (λ k. take k (drop ((c.byte_of.result + from) % 64) (joined read.lines))) c.read_text.ensures.many
    ∙ ap (λ k. take n (drop k (joined read.lines))) (sym at.1)) in
    record {
      event = read.event
          ∙ (ap (λ bs. (record c.args.app.now {
            side = record { view = has_read mine.view loan from bs; inside = record mine.inside { making = None } };
          })) (sym bytes)
          ∙ ap (λ (m : Option Making). (record c.args.app.now {
            side = record { view = has_read mine.view loan from into; inside = record mine.inside { making = m } };
          })) (sym c.requires.idle));
      copied = subst (ShowsCopy (loan_origin mine.view loan) from) (sym bytes) read.told;
    }
