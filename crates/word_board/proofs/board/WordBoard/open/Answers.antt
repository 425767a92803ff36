-- The table's words are those of the map, and its slots the lines of the area.
use Rattle.std.proofs.{Common.{◌<◌, ap, sym, ◌∙◌, subst, arith, length, replicate}, lemmas.List.{length-replicate}}
use Rattle.area_layout.specs.Layout.{IsLayout}
use Rattle.board_face.specs.declared.views.parts.Setting.{Setting}
use Rattle.ref_words.{specs.{Lines.{area_lines}, Words.{opened_words, table_words}, Seated.{no_role}}, proofs.Laying.{table-length}}
use Rattle.atomic_table.specs.Table.{opening}
use Rattle.word_board.{specs.Board.{IsBoard}, proofs.OpenedTable.{opened-board}}
use Rattle.word_board.proofs.board.WordBoard.open.Goals as goal

pub new-requires : goal.new-requires
new-requires c =
    let map = c.new-map.result in
    let layout : IsLayout map.layout = subst (λ (s : Setting). IsLayout s.layout) (sym c.new-map.ensures) c.in_ok-words.ensures.sound in
    let places : 0 < map.places = omega (arith, c.requires.some, ap (λ (s : Setting). s.places) c.new-map.ensures) in
    let board = opened-board map c.deref.result.now c.in_ok-lines.lines.items (c.opened-2.ensures map layout places)
    (c.deref.ensures.value ∙ c.in_ok-words.ensures.words) c.in_ok-lines.ensures in
    subst (λ s. IsBoard s (opening c.deref.result.now c.in_ok-lines.lines.items no_role)) c.new-map.ensures board

pub invariant_of-words : goal.invariant_of-words
invariant_of-words c =
    let map = c.new-map.result in
    let made = c.in-Ok.ensures.ok in
    let keyed = c.new-map.ensures ∙ sym made.5 in
    let layout : IsLayout map.layout = subst (λ (s : Setting). IsLayout s.layout) (sym c.new-map.ensures) c.in_ok-words.ensures.sound in
    let places : 0 < map.places = omega (arith, c.requires.some, ap (λ (s : Setting). s.places) c.new-map.ensures) in
    let many = table-length map (opened_words map) (c.opened-2.ensures map layout places).rule.refs.sizes in
    record {
      keyed = keyed;
      wide = omega (
        arith,
        made.0,
        ap length (c.deref.ensures.value ∙ c.in_ok-words.ensures.words),
        many,
        ap table_words keyed,
      );
      lined = made.1 ∙ (ap length c.in_ok-lines.ensures ∙ (length-replicate (area_lines map.layout) (replicate 64 0) ∙ ap (λ (s : Setting). area_lines s.layout) keyed));
    }
