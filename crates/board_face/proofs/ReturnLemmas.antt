-- Returns on their way.
use Rattle.std.{proofs.{Common.{◌≡◌, ℕ, true, false, List, [], ◌∷◌, sym, ◌∙◌}, lemmas.List.Elements.{All-head, All-tail}}, specs.Prelude.{All}}
use Rattle.area_layout.specs.Layout.{Shape}
use Rattle.board_face.specs.{Returns.{IsOfLoan, IsClear}, declared.views.app.WrittenEntry.{WrittenEntry}}

-- where each entry came from a loan, no raw one is in front of any
pub IsClear-of_loans : (layout : Shape) (b n : ℕ) (ws : List WrittenEntry) → All IsOfLoan ws → IsClear layout b n ws
IsClear-of_loans layout b n [] all = tt
IsClear-of_loans layout b n (w ∷ ws) all = (
  λ raw named. absurd (let wrong : true ≡ false = sym (All-head IsOfLoan w ws all) ∙ raw in cc),
  IsClear-of_loans layout b n ws (All-tail IsOfLoan w ws all),
)
