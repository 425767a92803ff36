-- The words that a table is closed with.
use Rattle.std.proofs.Common.{◌≡◌, ℕ, zero, suc, List, [], ◌∷◌, get_or, subst}
use mathlib.Core.Option.{some}
use lib.ListN.{get_elem?}
use Rattle.atomic_table.specs.Table.{Final, Seen}
use Rattle.board_face.specs.declared.views.parts.Setting.{Setting}
use Rattle.ref_words.specs.{declared.view.View.{View}, Over.{OverLaw}}
use Rattle.word_board.{specs.{Board.{IsBoard}, Desk.{AllAreBack, AreOver, HaveNoCounts}}, proofs.RolesBack.{uncounted-there}}

-- what is found at a place is the element there
pub found-word : (xs : List ℕ) (i n : ℕ) → get_elem? xs i ≡ some n → n ≡ get_or xs i 0
found-word [] i n found = cc
found-word (x ∷ xs) zero n found = cc
found-word (x ∷ xs) (suc i) n found = found-word xs i n found

-- They are those of a board whose roles are all back.
pub closed-uncounted : OverLaw → (setting : Setting) (v : View) (words : List ℕ) (slots : List (List ℕ)) → AreOver v → AllAreBack setting v
    → Final (Seen (IsBoard setting) 0 v) words slots → HaveNoCounts setting words
closed-uncounted law setting v words slots over all final =
    let board = final.1.0 in
    subst (HaveNoCounts setting) final.2 (uncounted-there law setting final.0 board 0 v final.1.1 over all)
