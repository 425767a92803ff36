-- The records of a capture, one after another, and how far they went out.
use Rattle.std.proofs.Common.{◌≡◌, ℕ, zero, suc, ◌+◌, ◌-◌, ◌<◌, List, [], ◌++◌, length, take, drop, Option}
use Rattle.std.proofs.{Common.{sym, ap, subst, ◌∙◌, append_assoc, append-nil, take-append-drop, arith}, Math.Seq.{take-append_seam}, KnownBytes.{Appends-trans}}
use Rattle.std.specs.Io.KnownBytes.{Appends}
use Rattle.cap_make.specs.GeneratedCapture.{generated_records, record_of, drawn, file_header, generated_capture}

-- the first records are a front of more of them
records_of-front : (seed k more : ℕ) → (rest : List ℕ) × (generated_records seed (more + k) ≡ generated_records seed k ++ rest)
records_of-front seed k zero = ([], let e : 0 + k ≡ k = omega arith in rw e (sym (append-nil (generated_records seed k))))
records_of-front seed k (suc more) =
    let next = record_of seed (more + k) (drawn seed (suc (more + k))) in
    let e : suc more + k ≡ suc (more + k) = omega arith in
    let (rest, before) = records_of-front seed k more in
    (rest ++ next, rw e (ap (λ l. l ++ next) before ∙ append_assoc (generated_records seed k) rest next))

-- what went out is a front of the whole
front_of : (a b : Option (List ℕ)) (whole went rest : List ℕ) → whole ≡ went ++ rest → Appends a b went → (n : ℕ) × Appends a b (take n whole)
front_of a b whole went rest is out =
    (length went, subst (Appends a b) (sym (ap (take (length went)) is ∙ take-append_seam went rest)) out)

-- a front of the header alone
pub header_breaks : (a b : Option (List ℕ)) (seed frames n : ℕ) → Appends a b (take n file_header)
    → (m : ℕ) × Appends a b (take m (generated_capture seed frames))
header_breaks a b seed frames n out =
    front_of a b (generated_capture seed frames) (take n file_header) (drop n file_header ++ generated_records seed frames)
    (ap (λ l. l ++ generated_records seed frames) (sym (take-append-drop n file_header))
    ∙ append_assoc (take n file_header) (drop n file_header) (generated_records seed frames)) out

-- a list of three parts and a rest, of which the third is cut
cut_in_two : (a b c rest : List ℕ) (n : ℕ) → a ++ ((b ++ c) ++ rest) ≡ ((a ++ b) ++ take n c) ++ (drop n c ++ rest)
cut_in_two a b c rest n =
    ap (λ l. a ++ ((b ++ l) ++ rest)) (sym (take-append-drop n c)) ∙ regroup a b (take n c) (drop n c) rest
  where
    regroup : (a b c d e : List ℕ) → a ++ ((b ++ (c ++ d)) ++ e) ≡ ((a ++ b) ++ c) ++ (d ++ e)
    regroup a b c d e = simp append_assoc

-- the header, some records, and a front of the next
pub record_breaks : (a b c : Option (List ℕ)) (seed frames k n : ℕ) → k < frames → Appends a b (file_header ++ generated_records seed k)
    → Appends b c (take n (record_of seed k (drawn seed (suc k)))) → (m : ℕ) × Appends a c (take m (generated_capture seed frames))
record_breaks a b c seed frames k n within out next =
    let next_record = record_of seed k (drawn seed (suc k)) in
    let (rest, parts) = records_of-front seed (suc k) (frames - suc k) in
    let many : frames ≡ frames - suc k + suc k = omega (arith, within) in
    let whole : generated_capture seed frames ≡ ((file_header ++ generated_records seed k) ++ take n next_record) ++ (drop n next_record ++ rest) =
    ap (λ m. file_header ++ generated_records seed m) many ∙ ap (λ l. file_header ++ l) parts
    ∙ cut_in_two file_header (generated_records seed k) next_record rest n
    in
    front_of a c (generated_capture seed frames) ((file_header ++ generated_records seed k) ++ take n next_record) (drop n next_record ++ rest) whole
    (Appends-trans a b c (file_header ++ generated_records seed k) (take n next_record) out next)

-- one record more
pub record_goes : (a b c : Option (List ℕ)) (seed k : ℕ) → Appends a b (file_header ++ generated_records seed k)
    → Appends b c (record_of seed k (drawn seed (suc k))) → Appends a c (file_header ++ generated_records seed (suc k))
record_goes a b c seed k out next =
    subst (Appends a c) (append_assoc file_header (generated_records seed k) (record_of seed k (drawn seed (suc k))))
    (Appends-trans a b c (file_header ++ generated_records seed k) (record_of seed k (drawn seed (suc k))) out next)
