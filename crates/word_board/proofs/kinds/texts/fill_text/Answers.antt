use Rattle.std.{proofs.Common.{◌≡◌, ℕ, ◌+◌, ◌/◌, [], length, refl, ap, sym, ◌∙◌, arith}, specs.Prelude.{Option}}
use Rattle.board_face.specs.{AppEvents.{begin_place, filled}, declared.views.parts.{Setting.{Setting}, Making.{Making}}}
use Rattle.area_layout.specs.Layout.{size_of}
use Rattle.ref_words.specs.{AreaSteps.{making_in_hand, side_at_hand, side_spare_filled}, Lines.{begin_line, line_at}, Runs.{takes_lines, fills_spare}}
use Rattle.word_board.proofs.{Stepping.{loads}, Taking.{app-take, app-give}}
use Rattle.word_board.proofs.kinds.texts.fill_text.Goals as goal

pub line-first-requires-clause-offset : goal.line-first-requires-clause-offset
line-first-requires-clause-offset c = omega (arith, c.requires.lies.bytes, c.requires.some, ap (λ (s : Setting). size_of s.layout c.args.own.buffer) c.map-2.ensures)

pub store_text-requires-clause-takes : goal.store_text-requires-clause-takes
store_text-requires-clause-takes c =
    let setting = c.args.app.now.board.setting in
    let mine = c.args.app.now.side in
    let own = c.args.own in
    let n : ℕ = length c.args.bytes.now in
    let place = begin_place own.buffer n in
    let at_first : c.line-first.result ≡ begin_line setting.layout place =
    c.line-first.ensures.value ∙ ap (λ (s : Setting). line_at s.layout own.buffer 0) c.map-2.ensures in
    app-take c.args.app.now c.phase-word.result _ c.line-first.result ((n + 63) / 64) place (λ _. side_at_hand mine (making_in_hand place [])) (λ _. [])
    (λ _. Unit {0}) at_first (omega arith) c.requires.lies c.requires.some c.requires.idle (λ _. refl) (λ _. refl) (λ ws nic apps rule here small.
    let law = c.app_keeps_the_rule.ensures setting ws nic apps mine (takes_lines own n) rule here
    (c.requires.out, c.requires.empty, c.requires.some, c.requires.few, c.requires.idle) in (
      loads setting ws c.phase-word.result law.rule,
      law.lines,
      tt,
    ))

pub store_text-requires-clause-gives : goal.store_text-requires-clause-gives
store_text-requires-clause-gives c = λ taken lines told have.
    let setting = c.args.app.now.board.setting in
    let mine = c.args.app.now.side in
    let own = c.args.own in
    let bytes = c.args.bytes.now in
    let place = begin_place own.buffer (length bytes) in
    let begun = side_at_hand mine (making_in_hand place []) in
    app-give (record c.args.app.now { side = begun }) c.line-first.result place [] lines (side_spare_filled begun own bytes)
    (c.line-first.ensures.value ∙ ap (λ (s : Setting). line_at s.layout own.buffer 0) c.map-2.ensures) c.requires.lies c.requires.some refl (omega (arith, have.many)) refl (λ ws nic apps rule here.
    (c.app_keeps_the_rule.ensures setting ws nic apps begun (fills_spare own bytes lines) rule here
    (c.requires.out, c.requires.empty, c.requires.some, c.requires.few, refl, have)).rule)

pub returns : goal.returns
returns c =
    let mine = c.args.app.now.side in
    c.store_text.ensures.event
    ∙ ap (λ (m : Option Making). (record c.args.app.now {
      side = record { view = filled mine.view c.args.own c.args.bytes.now; inside = record mine.inside { making = m } };
    })) (sym c.requires.idle)
