use Rattle.std.proofs.Common.{◌≡◌, ap, subst, arith}
use Rattle.area_layout.{specs.Layout.{IsLayout, first_word}, proofs.Words.{few_bytes}}
use Rattle.board_face.specs.declared.views.parts.Setting.{Setting}
use Rattle.ref_words.proofs.AreaLines.{line-within}
use Rattle.ref_words.proofs.word_map.WordMap.line.Goals as goal

good : (setting map : Setting) → map ≡ setting → IsLayout map.layout → IsLayout setting.layout
good setting map is = subst (λ (s : Setting). IsLayout s.layout) is

pub returns-clause-within : goal.returns-clause-within
returns-clause-within c =
    let layout = c.args.self.now.layout in
    omega (
      arith,
      c.first_word.ensures,
      ap (λ (s : Setting). first_word s.layout c.args.buffer) c.self.view_is,
      line-within layout (good _ _ c.self.view_is c.self.invariant.layout) c.args.buffer c.args.offset c.requires.buffer c.requires.offset,
    )

pub returns-clause-few : goal.returns-clause-few
returns-clause-few c =
    let layout = c.args.self.now.layout in
    omega (arith, returns-clause-within c, few_bytes layout (good _ _ c.self.view_is c.self.invariant.layout))
