use Rattle.std.proofs.Common.{◌+◌, ◌*◌, ◌<◌, ap, sym, subst, arith}
use Rattle.area_layout.specs.Layout.{all_buffers}
use Rattle.board_face.specs.{NicCalls.{apps_of}, declared.views.parts.Setting.{Setting}}
use Rattle.ref_words.{specs.Words.{table_words}, proofs.Laying.{row-bound}}
use Rattle.ref_words.proofs.word_map.WordMap.user.Goals as goal

pub returns-clause-within : goal.returns-clause-within
returns-clause-within c =
    let me = c.self.inside in
    let map : Setting = record { layout = me.layout; places = me.places } in
    let app = c.args.app in
    let buffer = c.args.buffer in
    let few = subst (λ (s : Setting). app < apps_of s) (sym c.self.view_is) c.requires.app in
    let there = subst (λ (s : Setting). buffer < all_buffers s.layout) (sym c.self.view_is) c.requires.buffer in
    subst (λ (s : Setting). me.users + (app * c.total.result + buffer) < table_words s) c.self.view_is
    (omega (arith, c.self.invariant.users_at, ap (λ n. app * n) c.total.ensures.value, row-bound (all_buffers me.layout) app buffer (apps_of map) few there))
