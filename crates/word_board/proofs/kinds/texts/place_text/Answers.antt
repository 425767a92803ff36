use Rattle.std.{proofs.{Common.{◌≡◌, ℕ, ◌+◌, ◌/◌, [], length, refl, ap, sym, ◌∙◌, arith}, lemmas.List.Elements.{Contains-push}}, specs.Prelude.{Option}}
use Rattle.board_face.specs.{FineSteps.{side_text_done}, Lists.{without}, NicEvents.{placed}, Steps.{side_begun}, Tokens.{filled_by, next_place, same_filling}}
use Rattle.board_face.{specs.declared.views.parts.{Setting.{Setting}, Making.{Making}}, proofs.FillingsFitLemmas.{FillingsFit-own}}
use Rattle.area_layout.specs.Layout.{size_of}
use Rattle.ref_words.specs.{Lines.{begin_line, line_at, line_count}, Runs.{begins, places_piece}, Words.{pool_at}}
use Rattle.word_board.proofs.{Stepping.{raises}, Taking.{card-take, card-give}}
use Rattle.word_board.proofs.kinds.texts.place_text.Goals as goal

pub line-first-requires-clause-offset : goal.line-first-requires-clause-offset
line-first-requires-clause-offset c = omega (arith, c.requires.lies.bytes, c.requires.some, ap (λ (s : Setting). size_of s.layout c.args.own.buffer) c.map-2.ensures)

pub store_text-requires-clause-takes : goal.store_text-requires-clause-takes
store_text-requires-clause-takes c =
    let setting = c.args.card.now.board.setting in
    let mine = c.args.card.now.side in
    let own = c.args.own in
    let n : ℕ = length c.args.bytes.now in
    let place = next_place own n in
    let at_first : c.line-first.result ≡ begin_line setting.layout place =
    c.line-first.ensures.value ∙ ap (λ (s : Setting). line_at s.layout own.buffer own.start) c.map-2.ensures in
    card-take c.args.card.now c.pool-word.result _ c.line-first.result ((n + 63) / 64) place (λ _. side_begun mine own n) (λ _. [])
    (λ _. line_count place ≡ (n + 63) / 64) at_first c.requires.lies c.requires.some c.requires.idle (λ _. refl) (λ ws apps rule small.
    let at : c.pool-word.result ≡ pool_at setting own.buffer = cc in
    let law = c.card_keeps_the_rule.ensures setting ws mine apps (begins own n) rule (c.requires.out, c.requires.some, c.requires.fits, c.requires.idle) in
    let count : line_count place ≡ (n + 63) / 64 = omega (arith, (FillingsFit-own mine apps own c.requires.out rule.refs.sides.fit).0.aligned) in (
      raises setting ws own.buffer c.pool-word.result at c.requires.lies.buffer rule law.finds law.rule,
      count,
      law.lines,
      count,
    ))

pub store_text-requires-clause-gives : goal.store_text-requires-clause-gives
store_text-requires-clause-gives c = λ taken lines told have.
    let setting = c.args.card.now.board.setting in
    let mine = c.args.card.now.side in
    let own = c.args.own in
    let bytes = c.args.bytes.now in
    let n : ℕ = length bytes in
    let begun = side_begun mine own n in
    card-give (record c.args.card.now { side = begun }) c.line-first.result (next_place own n) [] lines (side_text_done begun own bytes)
    (c.line-first.ensures.value ∙ ap (λ (s : Setting). line_at s.layout own.buffer own.start) c.map-2.ensures)
    c.requires.lies c.requires.some refl (have.many ∙ sym told) (λ ws apps rule.
    (c.card_keeps_the_rule.ensures setting ws begun apps (places_piece own bytes lines) rule
    (Contains-push (without (same_filling own) mine.view.owns) (filled_by own n), refl, have)).rule)

pub returns : goal.returns
returns c =
    let mine = c.args.card.now.side in
    c.store_text.ensures.event
    ∙ ap (λ (m : Option Making). (record c.args.card.now {
      side = record { view = placed mine.view c.args.own c.args.bytes.now; inside = record mine.inside { making = m } };
    })) (sym c.requires.idle)
