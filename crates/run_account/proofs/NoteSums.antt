-- How many bytes the notes tell of that were sent: those of their frames at most.
use Rattle.std.proofs.Common.{◌≡◌, ℕ, zero, suc, ◌+◌, ◌-◌, ◌*◌, ◌<◌, ◌≤◌, ⊎_elim, List, [], ◌∷◌, ◌++◌, length, take, refl, sym, ap, ◌∙◌, subst, arith}
use Rattle.std.{specs.Prelude.{All}, proofs.{Common.{length-append}, Math.Seq.{take-length, take-append_seam, drop-append_seam, take-append-add}}}
use Rattle.std.proofs.lemmas.{Bool.{cases_lt}, List.{take-append-le, Elements.{All-head, All-take, All-drop}}}
use Rattle.zr_kinds.specs.Limits.{longest_payload}
use Rattle.board_face.specs.{Relay.{IsProper}, declared.views.nic.SentNote.{SentNote}}
use Rattle.page_pool.specs.Frames.{Offered, ShowRest, ShowsWhole, ShowsFrame, ShowFrames}
use Rattle.app_worker.specs.Core.{total}
use Rattle.flow_queues.proofs.Tokens.{total-append}

abbrev pub note_len : SentNote → ℕ
note_len s = s.note.place.len

-- as many notes as bytes at most
pub record AreFew (most : ℕ) (notes : List SentNote) : Type 0 where
  pub some : length notes ≤ total note_len notes
  pub bytes : total note_len notes ≤ most

-- the first of a frame's pieces
rest-few : (o : Offered) (at : ℕ) (notes : List SentNote) (n : ℕ) → ShowRest o at notes
    → (length (take n notes) ≤ total note_len (take n notes)) × (total note_len (take n notes) + at ≤ length o.payload)
rest-few o at [] zero shows = (omega arith, omega (arith, shows))
rest-few o at [] (suc n) shows = (omega arith, omega (arith, shows))
rest-few o at (s ∷ ss) zero shows = let within = shows.0.within in (omega arith, omega (arith, within))
rest-few o at (s ∷ ss) (suc n) shows =
    let some = shows.0.some in
    let rest = rest-few o (at + s.note.place.len) ss n shows.1 in
    (omega (arith, some, rest.0), omega (arith, rest.1))

long-few : (o : Offered) (notes : List SentNote) (n : ℕ) → ShowRest o 0 notes → All IsProper (take n notes) → AreFew longest_payload (take n notes)
long-few o [] zero shows proper = record { some = omega arith; bytes = omega arith }
long-few o [] (suc n) shows proper = record { some = omega arith; bytes = omega arith }
long-few o (s ∷ ss) zero shows proper = record { some = omega arith; bytes = omega arith }
long-few o (s ∷ ss) (suc n) shows proper =
    let few = rest-few o 0 (s ∷ ss) (suc n) shows in
    let first : IsProper s = All-head IsProper s (take n ss) proper in
    let fields = first.split shows.0.split in
    let bounded = fields.bounded in
    let whole = shows.0.of_frame.total in
    record { some = few.0; bytes = omega (arith, few.1, bounded, whole) }

take_nil : (n : ℕ) → take {A = SentNote} n [] ≡ []
take_nil zero = refl
take_nil (suc n) = refl

short-few : (o : Offered) (s : SentNote) (n : ℕ) → ShowsWhole o s → All IsProper (take n (s ∷ [])) → AreFew longest_payload (take n (s ∷ []))
short-few o s zero shows proper = record { some = omega arith; bytes = omega arith }
short-few o s (suc n) shows proper =
    let first : IsProper s = All-head IsProper s (take n []) proper in
    let fields = (first.linear shows.split).0 in
    let some = fields.some_bytes in
    let few = fields.few_bytes in
    let len : s.note.place.len ≡ s.note.total = ap (λ p. p.len) fields.place in
    subst (λ more. AreFew longest_payload (s ∷ more)) (sym (take_nil n)) (record { some = omega (arith, some, len); bytes = omega (arith, few, len) })

frame-few : (split : ℕ) (o : Offered) (notes : List SentNote) (n : ℕ) → ShowsFrame split o notes → All IsProper (take n notes)
    → AreFew longest_payload (take n notes)
frame-few split o notes n shows proper = ⊎_elim
    (λ (long : split < length o.payload). long-few o notes n (shows.long long) proper)
    (λ (few : length o.payload ≤ split).
    let (s, are, whole) = shows.short few in
    subst (λ all. AreFew longest_payload (take n all)) (sym are) (short-few o s n whole (subst (λ all. All IsProper (take n all)) are proper)))
    (cases_lt split (length o.payload))

more-few : (most n : ℕ) (notes : List SentNote) → most ≤ n → AreFew most notes → AreFew n notes
more-few most n notes le few = let bytes = few.bytes in record { some = few.some; bytes = omega (arith, bytes, le) }

both-few : (m n : ℕ) (first second : List SentNote) → AreFew m first → AreFew n second → AreFew (m + n) (first ++ second)
both-few m n first second few others =
    let sums = total-append note_len first second in
    let many = length-append first second in
    let a = few.some in let b = few.bytes in let c = others.some in let d = others.bytes in
    record { some = omega (arith, sums, many, a, c); bytes = omega (arith, sums, b, d) }

-- the first of the notes that show these frames
pub frames-few : (split : ℕ) (os : List Offered) (notes : List SentNote) (n : ℕ) → ShowFrames split os notes → All IsProper (take n notes)
    → AreFew (longest_payload * length os) (take n notes)
frames-few split [] notes n shows proper =
    let none : take n notes ≡ [] = rw shows (take_nil n) in
    subst (AreFew 0) (sym none) (record { some = omega arith; bytes = omega arith })
frames-few split (o ∷ os) notes n shows proper =
    let (mine, rest, are, here, others) = shows in
    ⊎_elim
    (λ (past : length mine < n).
    let m = n - length mine in
    let seam : take n notes ≡ mine ++ take m rest =
    ap (take n) are ∙ (ap (λ k. take k (mine ++ rest)) (let e : n ≡ length mine + m = omega (arith, past) in e) ∙ take-append-add mine rest m) in
    let all : All IsProper (mine ++ take m rest) = subst (All IsProper) seam proper in
    let first : All IsProper mine = subst (All IsProper) (take-append_seam mine (take m rest)) (All-take IsProper (length mine) (mine ++ take m rest) all) in
    let later : All IsProper (take m rest) = subst (All IsProper) (drop-append_seam mine (take m rest))
    (All-drop IsProper (length mine) (mine ++ take m rest) all) in
    let whole : take (length mine) mine ≡ mine = take-length mine in
    let own : AreFew longest_payload mine = subst (AreFew longest_payload) whole (frame-few split o mine (length mine) here (subst (All IsProper) (sym whole) first)) in
    subst (AreFew (longest_payload * length (o ∷ os))) (sym seam) (
    more-few (longest_payload + longest_payload * length os) (longest_payload * length (o ∷ os)) (mine ++ take m rest) (omega arith)
    (both-few longest_payload (longest_payload * length os) mine (take m rest) own (frames-few split os rest m others later))))
    (λ (within : n ≤ length mine).
    let seam : take n notes ≡ take n mine = ap (take n) are ∙ take-append-le n mine rest within in
    subst (AreFew (longest_payload * length (o ∷ os))) (sym seam) (
    more-few longest_payload (longest_payload * length (o ∷ os)) (take n mine) (omega arith)
    (frame-few split o mine n here (subst (All IsProper) seam proper))))
    (cases_lt (length mine) n)
