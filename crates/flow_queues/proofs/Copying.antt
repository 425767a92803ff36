-- Bytes that came with their note are copied into a spare, which is lent.
use Rattle.std.proofs.Common.{◌≡◌, ◌≢◌, ℕ, ◌+◌, ◌<◌, ◌≤◌, Bool, true, false, List, [], ◌∷◌, ◌++◌, Some, None, length}
use Rattle.std.{proofs.Common.{map, take, drop, refl, sym, ap, subst, ◌∙◌, arith, ⊎_elim}, specs.Prelude.{◌==◌, All, if◌then◌else◌, slice_get, nat_lt}}
use Rattle.std.proofs.lemmas.{Bool.{cases_Bool, cases_lt, Decides.{nat_tests}}, List.{Elements.{All-head, All-tail}, Recursion.{is_sum_by}}, Option.{slice_get_within}}
use Rattle.zr_kinds.specs.declared.place.{Place.{Place}, Note.{Note}}
use Rattle.area_layout.{specs.Layout.{pool_buffers, IsLayout, LiesIn, all_buffers as buffers_of}, proofs.Words.{words_apart}}
use Rattle.tcp_reorder.specs.{declared.places.Span.{Span}, Queue.{Kept, Queue, front_of, AreApart as ApartFrom, next_of}, Gaps.{LosesFirst}, Values.{AreSized}}
use Rattle.board_face.specs.{Texts.{unsplit_bytes}, Tokens.{filled_by, same_filling}, Looks.{AppLooksStay}, NicEvents.{fresh}, AppCalls.{HasSpare, HasNoneIn, MaySpare}}
use Rattle.board_face.specs.{AppEvents.{got_spare, filled, own_bytes, lent_own, begin_place, lent, came_to_rest, reserve_of}, declared.views.parts.Filling.{Filling}}
use Rattle.board_face.specs.declared.views.app.{Origin.{Origin, TheVariants.{Note as of_note, Copied as of_copy}}, AppLook.TheVariants.{NoneListed}}
use Rattle.board_face.{specs.declared.views.app.{TakenNote.{TakenNote}, LentPiece.{LentPiece}, AppView.{AppView}}, proofs.ListLemmas.{same_filling-refl}}
use Rattle.board_face.specs.OwnBuffers.{IsOwnBuffer}
use Rattle.flow_queues.specs.declared.queues.{NotePiece.{NotePiece}, Short.{Short}, Lending.{Lending}, FlowQueue.{FlowQueue}, Waiting.{Waiting}}
use Rattle.flow_queues.specs.declared.queues.Waiting.TheVariants.{InArea, Copied}
use Rattle.flow_queues.specs.Core.{is_copy, total, IsIn, held_piece, LieApart, has_at, is_odd, lent_piece, origin_in, IsInArea, IsShort, short_len}
use Rattle.flow_queues.specs.{Core.{short_bytes, marks_of_waiting, unsplit_len}, Lent.{IsNext, is_short, LentNext}}
use Rattle.flow_queues.proofs.{Tokens.{total-append, not-odd, TokenLent, is-lent, is_that_loan, that-loan, is-lent-there}, Entering.{marks-length}}
use Rattle.flow_queues.proofs.Looks.{looks-same, looks-more}

-- ---- what is next

-- the first of a queue is at its front
front-first : (queue : Queue Waiting) (kept : List (Kept Waiting)) (first : Kept Waiting) → queue.kept ≡ kept → front_of queue ≡ Some first
    → (rest : List (Kept Waiting)) × (queue.kept ≡ first ∷ rest)
front-first queue [] first is front = absurd (let e : front_of queue ≡ None = rw is refl in let both : Some first ≡ None = sym front ∙ e in cc)
front-first queue (one ∷ others) first is front = ⊎_elim
    (λ (yes : (one.position == queue.popped) ≡ true).
    let e : front_of queue ≡ Some one = rw (is, yes) refl in
    let both : Some first ≡ Some one = sym front ∙ e in
    let same : one ≡ first = cc in
    (others, is ∙ ap (λ k. k ∷ others) same))
    (λ (no : (one.position == queue.popped) ≡ false). absurd
    (let e : front_of queue ≡ None = rw (is, no) refl in let both : Some first ≡ None = sym front ∙ e in cc))
    (cases_Bool (one.position == queue.popped))

-- a short piece that is next has a byte
pub next-bytes : (queue : Queue Waiting) → IsNext true queue → AreSized marks_of_waiting queue.kept → 0 < short_bytes queue
next-bytes queue next sized =
    let (rest, is) = front-first queue queue.kept next.first refl next.is in
    let apart : ApartFrom queue.popped (next.first ∷ rest) = subst (ApartFrom queue.popped) is next.sound.apart in
    let size : AreSized marks_of_waiting (next.first ∷ rest) = subst (AreSized marks_of_waiting) is sized in
    let sum : short_bytes queue ≡ short_len next.first.piece + total (λ k. short_len k.piece) rest = ap (total (λ k. short_len k.piece)) is in
    let len : length (marks_of_waiting next.first.piece) ≡ short_len next.first.piece = of-short next.first.piece next.kind in
    omega (arith, sum, len, size.0, apart.1)
  where
    of-short : (w : Waiting) → is_short w ≡ true → length (marks_of_waiting w) ≡ short_len w
    of-short (InArea p) is = absurd (cc)
    of-short (Copied s) is = marks-length s.note s.at (length s.bytes.items)

-- ---- the condition of a spare

of_notes : List Note → ℕ
of_notes [] = 0
of_notes (n ∷ ns) = (if n.split then 0 else n.total) + of_notes ns

unsplit-notes : (taken : List TakenNote) → total unsplit_len taken ≡ of_notes (map (λ t. t.note) taken)
unfolding of_notes
unsplit-notes [] = refl
unsplit-notes (t ∷ ts) = ap (λ n. unsplit_len t + n) (unsplit-notes ts)

pub unsplit-is : (taken : List TakenNote) → total unsplit_len taken ≡ unsplit_bytes (map (λ t. t.note) taken)
unfolding of_notes
unsplit-is taken = unsplit-notes taken ∙ is_sum_by of_notes (λ n. if n.split then 0 else n.total) refl (λ n ns. refl) (map (λ t. t.note) taken)

pub may-spare : (v : AppView) (queue : Queue Waiting) → IsNext true queue → AreSized marks_of_waiting queue.kept
    → v.spares + short_bytes queue ≤ total unsplit_len v.taken → MaySpare v
may-spare v queue next sized room = subst (λ n. v.spares < n) (unsplit-is v.taken) (omega (arith, next-bytes queue next sized, room))

-- ---- origins

-- the loan of a piece in the area has the piece's origin
pub area-origin : (taken : List TakenNote) (p : NotePiece) → IsInArea taken p
    → lent_piece taken (record { note = p.note; at = p.at; loan = p.held }) ≡ record { place = p.held; origin = of_note p.note p.at }
area-origin taken p of =
    let origin : origin_in (slice_get taken p.note) p.note p.at p.held.len ≡ of_note p.note p.at = rw (of.is, of.split) refl in
    ap (λ (o : Origin). the_loan p.held o) origin
  where
    the_loan : Place → Origin → LentPiece
    the_loan place origin = record { place = place; origin = origin }

-- and that of a copy its bytes
pub copy-origin : (taken : List TakenNote) (s : Short) (b : ℕ) → IsShort taken s
    → lent_piece taken (record { note = s.note; at = s.at; loan = begin_place b (length s.bytes.items) })
    ≡ record { place = begin_place b (length s.bytes.items); origin = of_copy s.bytes.items }
copy-origin taken s b of =
    let origin : origin_in (slice_get taken s.note) s.note s.at (length s.bytes.items) ≡ of_copy (take (length s.bytes.items) (drop s.at of.note.bytes)) =
    rw (of.is, of.split) refl in
    ap (λ (o : Origin). the_loan (begin_place b (length s.bytes.items)) o) (origin ∙ ap (λ bs. of_copy bs) (sym of.bytes))
  where
    the_loan : Place → Origin → LentPiece
    the_loan place origin = record { place = place; origin = origin }

-- ---- the spare is had, filled and lent

-- nothing of these places lies in a buffer
none-in : {A : Type 0} (place : A → Place) (b x c : ℕ) (n : ℕ) (xs : List A) → All (λ y. (place y).buffer ≢ b) xs
    → has_at c x (begin_place b n) ≡ 1
    → total (λ y. has_at c x (place y)) xs ≡ 0
none-in place b x c n [] all has = refl
none-in place b x c n (y ∷ ys) all has =
    let other : (place y).buffer ≢ b = All-head (λ y. (place y).buffer ≢ b) y ys all in
    omega (arith, away (place y) other, none-in place b x c n ys (All-tail (λ y. (place y).buffer ≢ b) y ys all) has)
  where
    away : (p : Place) → p.buffer ≢ b → has_at c x p ≡ 0
    away p other = apart p c b (begin_place b n) other refl has
      where
        apart : (p : Place) (c b : ℕ) (q : Place) → p.buffer ≢ b → q.buffer ≡ b → has_at c x q ≡ 1 → has_at c x p ≡ 0
        apart p c b q other is has = grind (arith, nat_tests)

has-le : (c x : ℕ) (p : Place) → has_at c x p ≤ 1
has-le c x p = grind (arith, nat_tests)

module _ (v : AppView) (b : ℕ) (bytes : List ℕ) (owns : v.owns ≡ []) where
  abbrev pub spare : Filling
  spare = fresh v.setting b

  abbrev pub full : Filling
  full = filled_by spare (length bytes)

  abbrev pub filled_spare : AppView
  filled_spare = filled (got_spare v b) spare bytes

  abbrev pub copy_lent : AppView
  copy_lent = lent_own filled_spare full

  pub has-spare : HasSpare (got_spare v b) spare
  has-spare = rw owns (0, omega arith, refl)

  same_spare : same_filling spare spare ≡ true
  same_spare = same_filling-refl spare

  same_full : same_filling full full ≡ true
  same_full = same_filling-refl full

  filled-owns : filled_spare.owns ≡ record { own = full; bytes = bytes } ∷ []
  filled-owns = rw (owns, same_spare) refl

  pub bytes-are : own_bytes filled_spare full ≡ bytes
  bytes-are = rw (filled-owns, same_full) refl

  abbrev pub the_loan : LentPiece
  the_loan = record { place = begin_place b (length bytes); origin = of_copy bytes }

  lent-owns : copy_lent.owns ≡ []
  lent-owns = rw (filled-owns, same_full) refl

  lent-loans : copy_lent.loans ≡ v.loans ++ the_loan ∷ []
  lent-loans = ap (λ bs. v.loans ++ record { place = begin_place b (length bs); origin = of_copy bs } ∷ []) bytes-are

  pub lent-view : copy_lent
      ≡ record v { helds = copy_lent.helds; loans = copy_lent.loans; spares = copy_lent.spares; picked = copy_lent.picked; looks = copy_lent.looks }
  lent-view = ap (λ os. record copy_lent { owns = os }) (lent-owns ∙ sym owns)

  pub lent-sums : (f : LentPiece → ℕ) → total f copy_lent.loans ≡ total f v.loans + f the_loan
  lent-sums f = omega (arith, ap (total f) lent-loans, total-append f v.loans (the_loan ∷ []))

  pub lent-looks : AppLooksStay v copy_lent
  lent-looks = ⊎_elim
      (λ (yes : nat_lt b (pool_buffers v.setting.layout) ≡ true). looks-same v copy_lent (rw yes refl))
      (λ (no : nat_lt b (pool_buffers v.setting.layout) ≡ false). looks-more v copy_lent NoneListed (rw no refl))
      (cases_Bool (nat_lt b (pool_buffers v.setting.layout)))

  pub lent-apart : LieApart v → HasNoneIn v b → LiesIn v.setting.layout (begin_place b (length bytes)) → 0 < length bytes → length bytes ≤ 256
      → LieApart copy_lent
  lent-apart lie none lies some few = record {
    once = λ c x. once c x;
    some = omega (
      arith,
      lie.some,
      lent-sums (λ l. is_odd v.setting.layout l.place),
      not-odd v.setting.layout (begin_place b (length bytes)) some (omega arith) lies,
    );
  }
    where
      once : (c x : ℕ) → total (λ h. has_at c x h.place) copy_lent.helds + total (λ l. has_at c x l.place) copy_lent.loans ≤ 1
      once c x = ⊎_elim
          (λ (out : has_at c x (begin_place b (length bytes)) < 1). omega (arith, lie.once c x, lent-sums (λ l. has_at c x l.place), out))
          (λ (there : 1 ≤ has_at c x (begin_place b (length bytes))).
          let one : has_at c x (begin_place b (length bytes)) ≡ 1 = omega (arith, there, has-le c x (begin_place b (length bytes))) in
          omega (
            arith,
            lent-sums (λ l. has_at c x l.place),
            one,
            none-in (λ h. h.place) b x c (length bytes) v.helds none.helds one,
            none-in (λ l. l.place) b x c (length bytes) v.loans none.loans one,
          ))
          (cases_lt (has_at c x (begin_place b (length bytes))) 1)

-- ---- what is lent

abbrev pub short_at : Short → Place → Lending
short_at s place = record { note = s.note; at = s.at; loan = place }

abbrev pub piece_at : NotePiece → Place → Lending
piece_at p place = record { note = p.note; at = p.at; loan = place }

-- few bytes at the begin of a pool buffer, or of the application's reserve
pub own-lies : (v : AppView) (b len : ℕ) → IsOwnBuffer v b → reserve_of v < buffers_of v.setting.layout → IsLayout v.setting.layout → len ≤ 256
    → LiesIn v.setting.layout (begin_place b len)
own-lies v b len own reserve sound few = record {
  buffer = ⊎_elim (λ (pool : b < pool_buffers v.setting.layout). omega (arith, pool)) (λ (is : b ≡ reserve_of v). omega (arith, is, reserve)) own;
  bytes = omega (arith, few, ((words_apart v.setting.layout sound).size b).least);
}

module _ (v w : AppView) (was : FlowQueue) (q : Queue Waiting) (span : Span) (begins : span.position ≡ was.queue.popped)
    (next : was.queue.popped ≢ next_of was.queue) (settled : v.settled ≡ true) (lie : LieApart v) (place : Place) where
  pub copy-lent : (s : Short) (b : ℕ) (owns : v.owns ≡ []) → LosesFirst was.queue q (Copied s) span → IsShort v.taken s
      → HasNoneIn v b → LiesIn v.setting.layout (begin_place b (length s.bytes.items)) → 0 < length s.bytes.items
      → w ≡ copy_lent v b s.bytes.items owns → place ≡ begin_place b (length s.bytes.items)
      → LentNext v w was (record was { queue = q }) (short_at s place) × (is_copy (lent_piece v.taken (short_at s place)) ≡ 1)
  copy-lent s b owns loses of none lies some is place_is = rw (is, place_is) (
    record {
      piece = Copied s;
      span = span;
      loses = loses;
      begins = begins;
      next = next;
      flow = refl;
      marks = refl;
      len = omega arith;
      of_note = slice_get_within v.taken s.note of.note of.is;
      view = lent-view v b s.bytes.items owns ∙ ap (λ (t : Bool). record v {
        settled = t;
        helds = (copy_lent v b s.bytes.items owns).helds;
        loans = (copy_lent v b s.bytes.items owns).loans;
        spares = (copy_lent v b s.bytes.items owns).spares;
        picked = (copy_lent v b s.bytes.items owns).picked;
        looks = (copy_lent v b s.bytes.items owns).looks;
      }) settled;
      looks = lent-looks v b s.bytes.items owns;
      apart = lent-apart v b s.bytes.items owns lie none lies some of.few;
      helds = λ f. omega arith;
      loans = λ f. omega (arith, lent-sums v b s.bytes.items owns f, ap f (copy-origin v.taken s b of));
      spares = refl;
      copy = ap is_copy (copy-origin v.taken s b of);
    },
    ap is_copy (copy-origin v.taken s b of),
  )

  pub piece-lent : (p : NotePiece) → LosesFirst was.queue q (InArea p) span → IsInArea v.taken p → IsIn (held_piece p) v.helds
      → w ≡ lent v p.held → place ≡ p.held
      → LentNext v w was (record was { queue = q }) (piece_at p place) × (is_copy (lent_piece v.taken (piece_at p place)) ≡ 0)
  piece-lent p loses of out is place_is =
      let step : TokenLent v lie (held_piece p) = is-lent v lie (held_piece p) out in
      rw (is, place_is) (
        record {
          piece = InArea p;
          span = span;
          loses = loses;
          begins = begins;
          next = next;
          flow = refl;
          marks = refl;
          len = omega arith;
          of_note = slice_get_within v.taken p.note of.note of.is;
          view = ap (λ (t : Bool). record v { settled = t; helds = (lent v p.held).helds; loans = (lent v p.held).loans }) settled;
          looks = looks-same v (lent v p.held) refl;
          apart = step.apart;
          helds = step.helds;
          loans = λ f. omega (arith, step.loans f, ap f (area-origin v.taken p of));
          spares = omega arith;
          copy = ap is_copy (area-origin v.taken p of);
        },
        ap is_copy (area-origin v.taken p of),
      )

-- the same from the moment on before no raw entry was on its way
pub from-rest : (v w : AppView) (was now : FlowQueue) (l : Lending) → LentNext (came_to_rest v) w was now l → LentNext v w was now l
from-rest v w was now l step = record {
  piece = step.piece;
  span = step.span;
  loses = step.loses;
  begins = step.begins;
  next = step.next;
  flow = step.flow;
  marks = step.marks;
  len = step.len;
  of_note = step.of_note;
  view = step.view;
  looks = record { later = step.looks.later };
  apart = step.apart;
  helds = step.helds;
  loans = step.loans;
  spares = step.spares;
  copy = step.copy;
}

-- the loan is out
pub next-out : (v w : AppView) (was now : FlowQueue) (l : Lending) → LentNext v w was now l → IsIn (lent_piece v.taken l) w.loans
next-out v w was now l step =
    let test : LentPiece → ℕ = is_that_loan (lent_piece v.taken l) in
    is-lent-there (lent_piece v.taken l) w.loans (omega (arith, step.loans test, that-loan (lent_piece v.taken l)))
