-- A piece that was taken enters its flow's queue, gap by gap.
use Rattle.std.proofs.Common.{◌≡◌, ℕ, zero, suc, ◌+◌, ◌-◌, ◌%◌, ◌^◌, ◌<◌, ◌≤◌, true, false, List, [], ◌∷◌, Option, Some}
use Rattle.std.{proofs.{Common.{None, length, take, drop, refl, sym, ap, subst, ◌∙◌, arith, ⊎_elim}, lemmas.Bool.{cases_Bool}}, specs.Prelude.{nat_lt, IfSome}}
use Rattle.board_face.specs.{Lists.{same_place}, AppEvents.{released}, declared.views.app.{HeldPiece.{HeldPiece}, AppView.{AppView}}}
use Rattle.zr_kinds.specs.{declared.place.{Note.{Note}, Place.{Place}}, CopyingReceiver.{Placed, next_missing, accepts, filled_by_values}}
use Rattle.tcp_reorder.specs.{declared.places.Gap.{Gap}, Queue.{Kept, Queue, next_of, with_kept, IsSound}, Gaps.{origin, wants, IsFirstGap}, Values.{Holds}}
use Rattle.tcp_reorder.proofs.{Holding.{next_missing-held}, Judging.{parts_accepted}, GapByGap.{IsPast}, Entering.{past-unwanted, holds-none}}
use Rattle.flow_queues.specs.{declared.queues.{NotePiece.{NotePiece}, Waiting.{Waiting, TheVariants.{InArea}}}, Marks.{Mark, marks_from}}
use Rattle.flow_queues.specs.Core.{total, IsIn, LieApart, Each, held_piece, over_waiting, over_kept, marks_of_piece, marks_of_waiting, received_note}
use Rattle.flow_queues.{specs.Pieces.{OnlyHelds, GaveFront, CutFirst, Others, over_others, front_of_piece, rest_of_piece, whole_piece}, proofs.Tokens.{is-released}}
use Rattle.flow_queues.proofs.{Pieces.{other-place}, Filling.{GoesOnFrom, copy-goes-on, copy-held, holds-all}}

-- ---- marks

pub marks-length : (note at n : ℕ) → length (marks_from note at n) ≡ n
marks-length note at zero = refl
marks-length note at (suc n) = ap suc (marks-length note (suc at) n)

pub marks-take : (note at n k : ℕ) → k ≤ n → take k (marks_from note at n) ≡ marks_from note at k
marks-take note at n zero within = refl
marks-take note at zero (suc k) within = absurd (omega arith)
marks-take note at (suc n) (suc k) within = ap (λ ms. record { note = note; place = at } ∷ ms) (marks-take note (suc at) n k (omega arith))

pub marks-drop : (note at n k : ℕ) → k ≤ n → drop k (marks_from note at n) ≡ marks_from note (at + k) (n - k)
marks-drop note at n zero within = let a : at + 0 ≡ at = omega arith in let b : n - 0 ≡ n = omega arith in rw (a, b) refl
marks-drop note at zero (suc k) within = absurd (omega arith)
marks-drop note at (suc n) (suc k) within =
    let a : suc at + k ≡ at + suc k = omega arith in
    let b : n - k ≡ suc n - suc k = omega arith in
    marks-drop note (suc at) n k (omega arith) ∙ ap (λ p. marks_from note p (n - k)) a ∙ ap (marks_from note (at + suc k)) b

pub marks-part : (note n k len : ℕ) → k + len ≤ n → marks_from note k len ≡ take len (drop k (marks_from note 0 n))
marks-part note n k len within =
    let at : 0 + k ≡ k = omega arith in
    sym (ap (take len) (marks-drop note 0 n k (omega arith) ∙ ap (λ a. marks_from note a (n - k)) at) ∙ marks-take note k (n - k) len (omega arith))

-- ---- what a queue keeps, summed

pub over-with_kept : (f : Waiting → ℕ) (kept : List (Kept Waiting)) (one : Kept Waiting)
    → total (λ k. f k.piece) (with_kept kept one) ≡ f one.piece + total (λ k. f k.piece) kept
over-with_kept f [] one = refl
over-with_kept f (first ∷ others) one = ⊎_elim
    (λ (before : nat_lt one.position first.position ≡ true). rw before refl)
    (λ (behind : nat_lt one.position first.position ≡ false). rw behind (omega (arith, over-with_kept f others one)))
    (cases_Bool (nat_lt one.position first.position))

-- what is said of each that is kept
pub each-with_kept : (P : Waiting → Type 0) (kept : List (Kept Waiting)) (one : Kept Waiting) → P one.piece → Each (λ k. P k.piece) kept
    → Each (λ k. P k.piece) (with_kept kept one)
each-with_kept P [] one here each = (here, tt)
each-with_kept P (first ∷ others) one here each = ⊎_elim
    (λ (before : nat_lt one.position first.position ≡ true). rw before (here, each))
    (λ (behind : nat_lt one.position first.position ≡ false). rw behind (each.0, each-with_kept P others one here each.1))
    (cases_Bool (nat_lt one.position first.position))

-- ---- the loop

-- So much of the piece is there; the rest, if there is any, is out and goes on so.
abbrev pub IsLeft : AppView → Queue Waiting → Queue Waiting → ℕ → ℕ → ℕ → ℕ → Option NotePiece → Type 0
IsLeft v was now number seq len from None =
    (placed : Placed Mark) → Holds marks_of_waiting was placed → Holds marks_of_waiting now (filled_by_values placed from (marks_from number 0 len))
IsLeft v was now number seq len from (Some piece) =
    IsIn (held_piece piece) v.helds × (piece.note ≡ number) × (piece.at + piece.held.len ≡ len)
    × GoesOnFrom {A = Mark} {H = Waiting} marks_of_waiting now seq len piece.at from
    ×
    ((placed : Placed Mark) → Holds marks_of_waiting was placed
    → Holds marks_of_waiting now (filled_by_values placed from (take piece.at (marks_from number 0 len))))

abbrev pub left_len : Option NotePiece → ℕ
left_len None = 0
left_len (Some piece) = suc piece.held.len

module _ (queue : Queue Waiting) (note : Note) (accepted : accepts queue.base (next_of queue) note.seq note.total ≡ true)
    (within : note.at + note.place.len ≤ note.total) where
  abbrev pub from : ℕ
  from = origin queue note.seq + note.at

  abbrev pub part : ℕ
  part = (note.seq + note.at) % 2 ^ 32

  -- nothing of it is there yet
  pub goes-on-first : GoesOnFrom {A = Mark} {H = Waiting} marks_of_waiting queue part note.place.len 0 from
  goes-on-first =
      let parts = parts_accepted queue.base (next_of queue) note.seq note.total note.at note.place.len accepted within in
      let same : (note.seq + note.at) % 2 ^ 32 ≡ (part + 0) % 2 ^ 32 = omega arith in
      let len : note.place.len ≡ note.place.len - 0 = omega arith in
      record {
        near = subst (λ s. accepts queue.base (next_of queue) s (note.place.len - 0) ≡ true) same
            (subst (λ n. accepts queue.base (next_of queue) part n ≡ true) len parts.0);
        place = subst (λ s. origin queue s ≡ from + 0) same (omega (arith, parts.1));
      }

  -- all of it is there
  pub all-there : (later : Queue Waiting) (number : ℕ) (placed : Placed Mark) → Holds marks_of_waiting queue placed
      → Holds marks_of_waiting later (filled_by_values placed from (marks_from number 0 note.place.len))
      → Holds marks_of_waiting later (received_note queue.base placed (record { number = number; note = note }))
  all-there later number placed holds then =
      let next : next_missing placed ≡ next_of queue = next_missing-held marks_of_waiting queue placed holds in
      rw (next, accepted) then

pub ignored : (queue : Queue Waiting) (note : Note) (number : ℕ) (placed : Placed Mark) → accepts queue.base (next_of queue) note.seq note.total ≡ false
    → Holds marks_of_waiting queue placed → Holds marks_of_waiting queue (received_note queue.base placed (record { number = number; note = note }))
ignored queue note number placed refused holds =
    let next : next_missing placed ≡ next_of queue = next_missing-held marks_of_waiting queue placed holds in
    rw (next, refused) holds

-- no byte of the rest is wanted
pub none-wanted : (v : AppView) (was now : Queue Waiting) (number seq len from : ℕ) (piece : NotePiece) → IsLeft v was now number seq len from (Some piece)
    → ((place : ℕ) → place < piece.held.len → wants now ((seq + piece.at) % 2 ^ 32) place ≡ false)
    → (placed : Placed Mark) → Holds marks_of_waiting was placed → Holds marks_of_waiting now (filled_by_values placed from (marks_from number 0 len))
none-wanted v was now number seq len from piece (out, note, all, goes, so_far) unwanted placed holds =
    let marks : List Mark = marks_from number 0 len in
    let size : length marks ≡ len = marks-length number 0 len in
    holds-all marks_of_waiting now placed marks from piece.at holds.past (so_far placed holds) (omega (arith, size))
    (λ k above until. subst (λ (place : ℕ). IsPast (filled_by_values placed from (take piece.at marks)) place)
    (omega (arith, goes.place))
    (past-unwanted marks_of_waiting now (filled_by_values placed from (take piece.at marks)) ((seq + piece.at) % 2 ^ 32) (k - piece.at) (so_far placed holds)
    (unwanted (k - piece.at) (omega (arith, size)))))

-- ---- a gap is taken

module _ (v v1 v2 : AppView) (was now : Queue Waiting) (number seq len from : ℕ) (piece wanted first : NotePiece) (others : Option NotePiece) (gap : Gap)
    (sound : IsSound now) (fits : len ≤ 2 ^ 30)
    (left : IsLeft v was now number seq len from (Some piece)) (is_gap : IsFirstGap now ((seq + piece.at) % 2 ^ 32) piece.held.len gap)
    (gave : GaveFront v v1 piece gap.skip wanted) (cut : CutFirst v1 v2 wanted gap.len first others) where
  marks : List Mark
  marks = marks_from number 0 len

  size : length marks ≡ len
  unfolding marks
  size = marks-length number 0 len

  first_is : first ≡ front_of_piece (rest_of_piece piece gap.skip) gap.len
  first_is = cut.front ∙ ap (λ p. front_of_piece p gap.len) gave.rest

  abbrev pub one : Kept Waiting
  one = record { position = origin now (((seq + piece.at) % 2 ^ 32 + gap.skip) % 2 ^ 32) - 2 ^ 31; len = gap.len; piece = InArea first }

  abbrev pub later : Queue Waiting
  later = record now { kept = with_kept now.kept one }

  items : marks_of_waiting (InArea first) ≡ take gap.len (drop (piece.at + gap.skip) marks)
  unfolding marks
  items =
      let here : marks_of_piece first ≡ marks_from piece.note (piece.at + gap.skip) gap.len = ap marks_of_piece first_is in
      here ∙ ap (λ n. marks_from n (piece.at + gap.skip) gap.len) left.1
      ∙ marks-part number len (piece.at + gap.skip) gap.len (omega (arith, is_gap.within, left.2))

  fits' : length marks ≤ 2 ^ 30
  fits' = omega (arith, size, fits)

  before' : piece.at < length marks
  before' = omega (arith, size, left.2, is_gap.within, is_gap.some)

  goes' : GoesOnFrom {A = Mark} {H = Waiting} marks_of_waiting now seq (length marks) piece.at from
  goes' = subst (λ n. GoesOnFrom {A = Mark} {H = Waiting} marks_of_waiting now seq n piece.at from) (sym size) left.3

  gap' : IsFirstGap now ((seq + piece.at) % 2 ^ 32) (length marks - piece.at) gap
  gap' = subst (λ n. IsFirstGap now ((seq + piece.at) % 2 ^ 32) n gap)
      (let e : piece.held.len ≡ length marks - piece.at = omega (arith, size, left.2) in e) is_gap

  then-goes : GoesOnFrom {A = Mark} {H = Waiting} marks_of_waiting later seq len (piece.at + gap.skip + gap.len) from
  then-goes = subst (λ n. GoesOnFrom {A = Mark} {H = Waiting} marks_of_waiting later seq n (piece.at + gap.skip + gap.len) from) size
      (copy-goes-on marks_of_waiting now sound seq marks piece.at from fits' before' goes' gap gap' (InArea first) items)

  then-holds : (placed : Placed Mark) → Holds marks_of_waiting was placed
      → Holds marks_of_waiting later (filled_by_values placed from (take (piece.at + gap.skip + gap.len) (marks_from number 0 len)))
  unfolding marks
  then-holds placed holds = copy-held marks_of_waiting now sound seq marks piece.at from fits' before' goes' gap gap' (InArea first) items placed holds.past
      (left.4 placed holds)

  left-with : (more : Option NotePiece) → Others v2 wanted gap.len more → IsLeft v2 was later number seq len from more
  left-with None whole = λ placed holds.
      let wanted_len : wanted.held.len ≡ piece.held.len - gap.skip = ap (λ p. p.held.len) gave.rest in
      let all : piece.at + gap.skip + gap.len ≡ len = omega (arith, whole, wanted_len, left.2, is_gap.within) in
      let full : take len (marks_from number 0 len) ≡ marks_from number 0 len = marks-take number 0 len len (omega arith) in
      subst (λ ms. Holds marks_of_waiting later (filled_by_values placed from ms)) (ap (λ n. take n (marks_from number 0 len)) all ∙ full)
      (then-holds placed holds)
  left-with (Some rest) (below, is, out) =
      let wanted_len : wanted.held.len ≡ piece.held.len - gap.skip = ap (λ p. p.held.len) gave.rest in
      let wanted_at : wanted.at ≡ piece.at + gap.skip = ap (λ p. p.at) gave.rest in
      let wanted_note : wanted.note ≡ piece.note = ap (λ p. p.note) gave.rest in
      let at : rest.at ≡ piece.at + gap.skip + gap.len = ap (λ p. p.at) is ∙ ap (λ n. n + gap.len) wanted_at in
      let rest_len : rest.held.len ≡ wanted.held.len - gap.len = ap (λ p. p.held.len) is in (
        out,
        ap (λ p. p.note) is ∙ wanted_note ∙ left.1,
        omega (arith, at, rest_len, wanted_len, left.2, is_gap.within, below),
        subst (λ n. GoesOnFrom {A = Mark} {H = Waiting} marks_of_waiting later seq len n from) (sym at) then-goes,
        λ placed holds. subst (λ n. Holds marks_of_waiting later (filled_by_values placed from (take n (marks_from number 0 len)))) (sym at)
            (then-holds placed holds),
      )

  pub still-left : IsLeft v2 was later number seq len from others
  still-left = left-with others cut.rest

  shorter-with : (more : Option NotePiece) → Others v2 wanted gap.len more → left_len more < left_len (Some piece)
  shorter-with None whole = omega arith
  shorter-with (Some rest) (below, is, out) =
      let wanted_len : wanted.held.len ≡ piece.held.len - gap.skip = ap (λ p. p.held.len) gave.rest in
      let rest_len : rest.held.len ≡ wanted.held.len - gap.len = ap (λ p. p.held.len) is in
      omega (arith, rest_len, wanted_len, is_gap.some, is_gap.within, below)

  pub shorter : left_len others < left_len (Some piece)
  shorter = shorter-with others cut.rest

  module _ (v0 : AppView) (gone : (HeldPiece → ℕ) → ℕ) (only : OnlyHelds v0 v gone (λ f. over_others f (Some piece) + over_kept f now)) where
    view2 : v2 ≡ record v0 { helds = v2.helds }
    view2 = cut.only.view ∙ ap (λ (w : AppView). record w { helds = v2.helds })
        (gave.only.view ∙ ap (λ (w : AppView). record w { helds = v1.helds }) only.view)

    pub taken-only : OnlyHelds v0 v2 gone (λ f. over_others f others + over_kept f later)
    taken-only = record {
      view = view2;
      apart = cut.only.apart;
      moved = λ f. omega (arith, only.moved f, gave.only.moved f, cut.only.moved f, over-with_kept (over_waiting f) now.kept one);
    }

-- ---- there was no memory, and all of it is given up

pub others-still : (v1 v2 : AppView) (wanted first : NotePiece) (others : Option NotePiece) (n : ℕ) → 0 < n → (cut : CutFirst v1 v2 wanted n first others)
    → IfSome others (λ p. IsIn (held_piece p) (released v2 first.held).helds)
others-still v1 v2 wanted first others n some cut = by others cut.rest
  where
    by : (more : Option NotePiece) → Others v2 wanted n more → IfSome more (λ p. IsIn (held_piece p) (released v2 first.held).helds)
    by None whole = tt
    by (Some rest) (below, is, out) =
        let away : same_place first.held rest.held ≡ false = rw (cut.front, is) (other-place wanted.held n some) in
        (is-released v2 cut.only.apart (held_piece first) cut.out).others (held_piece rest) out away

pub all-given : (v0 v v1 v2 v4 : AppView) (now : Queue Waiting) (piece wanted first : NotePiece) (others : Option NotePiece) (gap : Gap)
    (gone : (HeldPiece → ℕ) → ℕ) → OnlyHelds v0 v gone (λ f. over_others f (Some piece) + over_kept f now)
    → GaveFront v v1 piece gap.skip wanted → CutFirst v1 v2 wanted gap.len first others
    → OnlyHelds (released v2 first.held) v4 (λ f. over_others f others) (λ f. 0) → OnlyHelds v0 v4 gone (λ f. over_kept f now)
all-given v0 v v1 v2 v4 now piece wanted first others gap gone only gave cut last =
    let then = is-released v2 cut.only.apart (held_piece first) cut.out in
    record {
      view = last.view ∙ ap (λ (w : AppView). record w { helds = v4.helds })
          (cut.only.view ∙ ap (λ (w : AppView). record w { helds = v2.helds })
          (gave.only.view ∙ ap (λ (w : AppView). record w { helds = v1.helds }) only.view));
      apart = last.apart;
      moved = λ f. omega (arith, only.moved f, gave.only.moved f, cut.only.moved f, then.moved f, last.moved f);
    }

-- the last piece is given up
pub rest-given : (v0 v : AppView) (gone : (HeldPiece → ℕ) → ℕ) (now : Queue Waiting) (piece : NotePiece)
    → OnlyHelds v0 v gone (λ f. over_others f (Some piece) + over_kept f now) → IsIn (held_piece piece) v.helds
    → OnlyHelds v0 (released v piece.held) gone (λ f. over_kept f now)
rest-given v0 v gone now piece only out =
    let then = is-released v only.apart (held_piece piece) out in
    record {
      view = ap (λ (w : AppView). record w { helds = (released v piece.held).helds }) only.view;
      apart = then.apart;
      moved = λ f. omega (arith, only.moved f, then.moved f);
    }

pub entered-nothing : (v : AppView) → LieApart v → (piece : NotePiece) (queue : Queue Waiting) → IsIn (held_piece piece) v.helds
    → OnlyHelds v (released v piece.held) (λ f. f (held_piece piece) + over_kept f queue) (λ f. over_kept f queue)
entered-nothing v lie piece queue out =
    let then = is-released v lie (held_piece piece) out in
    record { view = refl; apart = then.apart; moved = λ f. omega (arith, then.moved f) }

pub begun-left : (v : AppView) (queue : Queue Waiting) (note : Note) (number : ℕ) (held : Place)
    (accepted : accepts queue.base (next_of queue) note.seq note.total ≡ true) (within : note.at + note.place.len ≤ note.total) → held ≡ note.place
    → IsIn (held_piece (whole_piece number held)) v.helds → IsLeft v queue queue number ((note.seq + note.at) % 2 ^ 32) note.place.len
    (origin queue note.seq + note.at) (Some (whole_piece number held))
begun-left v queue note number held accepted within place out = (
  out,
  refl,
  ap (λ p. 0 + p.len) place ∙ zero-plus note.place.len,
  goes-on-first queue note accepted within,
  λ placed holds. holds-none marks_of_waiting queue placed (marks_from number 0 note.place.len) (origin queue note.seq + note.at) holds,
)
  where
    zero-plus : (n : ℕ) → 0 + n ≡ n
    zero-plus n = omega arith
