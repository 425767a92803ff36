-- The card gives the lines of the piece in the making back, with its text: counts, the free list and the slots have nothing to do with it.
use Rattle.std.{proofs.Common.{◌≡◌, ℕ, ◌∙◌, List, length, refl, arith}, specs.Prelude.{Some, None}}
use Rattle.board_face.specs.FineSteps.{side_text_done}
use Rattle.board_face.specs.{NicEvents.{text_done}, Tokens.{next_place}, declared.views.{parts.{Setting.{Setting}, Filling.{Filling}, Making.{Making}}}}
use Rattle.board_face.specs.declared.views.{nic.NicSide.{NicSide}, app.AppSide.{AppSide}}
use Rattle.board_face.proofs.{ArePlacedLemmas.{ArePlaced-text_done}, FillingsFitLemmas.{FillingsFit-making}, IsFilledByOneLemmas.{IsFilledByOne-text_done}}
use Rattle.board_face.proofs.{MadeLastLemmas.{IsMadeLast-idle}, NicLemmas.{pool_count-text_done}, Parts.{user_count-parts, user_part}}
use Rattle.board_face.proofs.Tallies as tallies
use Rattle.ref_words.specs.{Words.{Words, WordsHaveSizes, listed_bit, with_lines}, Lines.{AreWide}, Rule.{RefRule}}
use Rattle.ref_words.proofs.{CardSteps.{SidesRule-card}, Frees.{AreKept-card}, LaidLines.{length-laid, wide-laid}, LineLemmas.{AreByLine-text_done}}
use Rattle.ref_words.proofs.{RingSteps.{rings-card, rings-words}, SlotSteps.{DifferInSlots, RefRule-slot}}

-- the words with other lines of the area
pub differ-area : (setting : Setting) (words : Words) (x : ℕ) (lines : List (List ℕ)) → WordsHaveSizes setting words
    → AreWide lines → DifferInSlots setting words (with_lines words x lines)
differ-area setting words x lines s wide =
    assumption (length-laid words.area x lines ∙ s.area, wide-laid words.area x lines s.lines wide, s)

module _ (setting : Setting) (words : Words) (nic : NicSide) (apps : List AppSide) (rule : RefRule setting words nic apps) where
  pub places-piece : (x : ℕ) (lines : List (List ℕ)) → AreWide lines → (making : Making) → nic.inside.making ≡ Some making
      → (own : Filling) (bytes : List ℕ) → making.place ≡ next_place own (length bytes)
      → RefRule setting (with_lines words x lines) (side_text_done nic own bytes) apps
  places-piece x lines wide making busy own bytes place =
      let now = side_text_done nic own bytes in
      let words' = with_lines words x lines in
      RefRule-slot setting words words' nic now apps apps rule (differ-area setting words x lines rule.sizes wide) (record {
        sides = SidesRule-card setting nic now apps rule.sides (record {
          placed = λ b. ArePlaced-text_done b nic apps own bytes making busy place (rule.sides.placed b);
          lines = λ b. AreByLine-text_done b nic apps own bytes making busy place (rule.sides.lines b);
          by_one = λ b. IsFilledByOne-text_done b nic apps own bytes making busy place (rule.sides.by_one b);
          fit = FillingsFit-making nic (text_done nic.view own bytes) None apps refl refl rule.sides.fit;
          made = IsMadeLast-idle now apps refl;
          taken = λ k y here. assumption (rule.sides.taken k y here);
          unheld = λ b past none. omega (arith, pool_count-text_done b nic apps own bytes making busy place, none);
          own = assumption rule.sides;
        });
        pool = λ b. pool_count-text_done b nic apps own bytes making busy place;
        users = λ a b.
            let users : tallies.total (user_part a b now) apps ≡ tallies.total (user_part a b nic) apps = refl in
            omega (arith, user_count-parts a b now apps, user_count-parts a b nic apps);
        free = λ b. refl;
        kept = AreKept-card (listed_bit words) nic now apps refl refl refl (λ b. omega arith) rule.kept;
        rings = rings-words setting words words' now apps refl refl (rings-card setting words nic now apps refl refl refl refl rule.rings);
      })
