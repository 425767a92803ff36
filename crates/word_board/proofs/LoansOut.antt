-- How many loans of an application are out in a buffer.
use Rattle.std.{proofs.Common.{◌≡◌, ℕ, ◌+◌, ◌^◌, ◌<◌, List, refl, subst, arith}, specs.Prelude.{◌==◌}}
use Rattle.area_layout.specs.Layout.{all_buffers}
use Rattle.board_face.specs.{NicCalls.{apps_of}, Sides.{IsApp}, Returns.{loans_out}, declared.views.{parts.Setting.{Setting}, nic.NicSide.{NicSide}}}
use Rattle.board_face.{specs.declared.views.app.{LentPiece.{LentPiece}, AppSide.{AppSide}}, proofs.ListLemmas.{eqb_same}}
use Rattle.board_face.proofs.{Parts.{user_part, owed_count, loans_in, count-tally, user_count-parts}, LiesLemmas.{total-at}}
use Rattle.ref_words.specs.{Words.{Words, user_word_of}, Rule.{BoardRule}}

-- an application's own loans are in its user count
part-own : (b : ℕ) (nic : NicSide) (app : AppSide) → user_part app.view.app b nic app ≡ loans_in b app + owed_count b nic app
part-own b nic app = rw (eqb_same app.view.app) refl

-- so they are few where that is
pub loans-few : (setting : Setting) (words : Words) (nic : NicSide) (apps : List AppSide) (a b : ℕ) (app : AppSide) → BoardRule setting words nic apps
    → IsApp apps a app → a < apps_of setting → b < all_buffers setting.layout → user_word_of words a b + 1 < 2 ^ 64 → loans_out b app + 1 < 2 ^ 64
loans-few setting words nic apps a b app rule here few within small =
    let own : user_part a b nic app ≡ loans_in b app + owed_count b nic app =
    subst (λ k. user_part k b nic app ≡ loans_in b app + owed_count b nic app) here.number (part-own b nic app) in
    omega (
      arith,
      small,
      own,
      rule.refs.users a b few within,
      user_count-parts a b nic apps,
      total-at (user_part a b nic) apps a app here.there here.is,
      count-tally (λ (l : LentPiece). l.place.buffer == b) app.view.loans,
    )
