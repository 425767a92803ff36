-- What is read of a line, byte by byte.
use Rattle.std.proofs.Common.{◌≡◌, ℕ, ◌<◌, ◌∙◌, List, [], ◌∷◌, ◌++◌, length, get_or, Option, Some, None, IfSome, sym, ap, append-nil, length-append, arith, ⊎_elim}
use Rattle.std.{proofs.{lemmas.{Bool.{cases_lt}, List.{get_or_append_left}}, Math.Seq.{get_or-append_seam}}, specs.Io.KnownBytes.{Consumes, IsAtEnd}}
use Rattle.zr_kinds.specs.RunText.{RecordText}
use Rattle.run_check.specs.Coming.{IsOneLine, HasNoLine}

-- so many bytes of a line were read, of what was ahead at first
pub record HasReadPart (start now : Option (List ℕ)) (line : RecordText) (count : ℕ) : Type 0 where
  pub took : Consumes start now line
  pub one : IsOneLine line
  pub counted : length line ≡ count

-- behind one line's bytes its line feed comes no sooner than they end
feed_within : (part rest line behind : List ℕ) → part ++ rest ≡ line ++ 10 ∷ behind → IsOneLine part → length line < length part → ⊥
feed_within part rest line behind same one lt =
    one (length line) 0 lt
    (sym (get_or_append_left part rest 0 (length line) lt) ∙ ap (λ l. get_or l (length line) 0) same ∙ get_or-append_seam line 10 behind 0)

-- the bytes ended within a line
pub ended_within : (start now : Option (List ℕ)) (part : RecordText) (count : ℕ) → HasReadPart start now part count → IsAtEnd now → IfSome start HasNoLine
ended_within None now part count read end = tt
ended_within (Some xs) None part count read end = absurd read.took
ended_within (Some xs) (Some ys) part count read end = λ line behind same one.
    let whole : xs ≡ part ++ [] = read.took ∙ ap (λ l. part ++ l) end in
    let sizes : length part ≡ length (line ++ 10 ∷ behind) = ap length (sym (append-nil part) ∙ sym whole ∙ same) in
    absurd (feed_within part [] line behind (sym whole ∙ same) read.one (omega (arith, sizes, length-append line (10 ∷ behind))))

-- more bytes than a line may have
pub too_long : (start now : Option (List ℕ)) (part : RecordText) → HasReadPart start now part 129 → IfSome start HasNoLine
too_long None now part read = tt
too_long (Some xs) None part read = absurd read.took
too_long (Some xs) (Some ys) part read = λ line behind same one.
    ⊎_elim (λ short. absurd (feed_within part ys line behind (sym read.took ∙ same) read.one (omega (arith, read.counted)))) (λ long. omega arith)
    (cases_lt (length line) 129)
