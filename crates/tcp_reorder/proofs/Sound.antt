-- What each call keeps true of a queue.
use Rattle.std.proofs.Common.{◌≡◌, ◌≢◌, ℕ, ◌+◌, ◌^◌, ◌<◌, ◌≤◌, List, [], ◌∷◌, length, nat_lt, max, true, false, ◌||◌}
use Rattle.std.{proofs.Common.{None, Some, slice_get, refl, sym, ap, ◌∙◌, subst, ⊎_elim, arith}, specs.{Ordering.{nat_cmp}, Map.{lookup}}}
use Rattle.std.specs.BTreeMap.{insert_entry, is_at}
use Rattle.std.proofs.lemmas.Bool.{cases_eq, or_from, or_left, or_right, or_parts, or_cases, lt-ltb, le-ltb, cases_lt, both_ways, eq-eqb, ne_eqb, Decides.{nat_tests}}
use Rattle.tcp_reorder.specs.declared.piece.KeptPiece.{KeptPiece}
use Rattle.tcp_reorder.specs.{Queue.{Kept, Queue, end_of, covers, is_kept, has, next_of, with_kept, AreApart, EndWithin, IsSound, front_of}, Pieces.{kept_piece_of}}
use Rattle.tcp_reorder.specs.Pieces.{all_kept}
use Rattle.tcp_reorder.proofs.Positions.{covers-within, covers-before, covers-behind, AreApart-lower, is_kept-below, is_kept-with_kept, EndWithin-more}
use Rattle.tcp_reorder.proofs.{Positions.{EndWithin-with_kept, IsFree, AreApart-with_kept}, Least.{has-next, has-before, next_of-is, next_of-popped, next_of-within}}

pub first_entry : {A : Type 0} (entries : List A) (first : A) → slice_get entries 0 ≡ Some first → (others : List A) × (entries ≡ first ∷ others)
first_entry [] first found = cc
first_entry (entry ∷ entries) first found = (entries, cc)

pub no_entry : {A : Type 0} (entries : List A) → (0 < length entries → ⊥) → entries ≡ []
no_entry [] none = refl
no_entry (entry ∷ entries) none = absurd (none (omega arith))

module _ {H : Type 0} where
  pub next_of-low : (queue : Queue H) → IsSound queue → next_of queue ≤ 2 ^ 62
  next_of-low queue sound = next_of-within queue (2 ^ 62) sound.popped sound.in_stream

  pub apart_from_0 : (queue : Queue H) → IsSound queue → AreApart 0 queue.kept
  apart_from_0 queue sound = AreApart-lower queue.popped 0 queue.kept (omega arith) sound.apart

  -- ---- the first piece

  -- where it begins at the first position that wasn't popped, that position isn't missing
  pub first_in_order : (queue : Queue H) (one : Kept H) (others : List (Kept H)) → IsSound queue → queue.kept ≡ one ∷ others
      → one.position ≡ queue.popped → queue.popped ≡ next_of queue → ⊥
  first_in_order queue one others sound is begins missing =
      let apart : AreApart queue.popped (one ∷ others) = rw is at sound.apart in
      let some : 0 < one.len = apart.1 in
      let there : is_kept (one ∷ others) queue.popped ≡ true = or_left _ _ (covers-within one queue.popped (omega arith) (omega arith)) in
      let kept : is_kept queue.kept queue.popped ≡ true = ap (λ kept. is_kept kept queue.popped) is ∙ there in
      both_ways _ (ap (has queue) missing ∙ has-next queue) (or_right (nat_lt queue.popped queue.popped) (is_kept queue.kept queue.popped) kept)

  popped_missing : (queue : Queue H) → is_kept queue.kept queue.popped ≡ false → queue.popped ≡ next_of queue
  popped_missing queue missing = sym (next_of-is queue queue.popped
      (or_from (nat_lt queue.popped queue.popped) (is_kept queue.kept queue.popped) (le-ltb queue.popped queue.popped (omega arith)) missing)
      (λ p below. or_left (nat_lt p queue.popped) (is_kept queue.kept p) (lt-ltb p queue.popped below)))

  pub first_behind : (queue : Queue H) (one : Kept H) (others : List (Kept H)) → IsSound queue → queue.kept ≡ one ∷ others
      → one.position ≢ queue.popped → queue.popped ≡ next_of queue
  first_behind queue one others sound is apart_from =
      let apart : AreApart queue.popped (one ∷ others) = rw is at sound.apart in
      let from : queue.popped ≤ one.position = apart.0 in
      let missing : is_kept (one ∷ others) queue.popped ≡ false =
      or_from _ _ (covers-before one queue.popped (omega arith)) (is_kept-below (end_of one) others queue.popped apart.3 (omega arith)) in
      popped_missing queue (ap (λ kept. is_kept kept queue.popped) is ∙ missing)

  pub no_first : (queue : Queue H) → queue.kept ≡ [] → queue.popped ≡ next_of queue
  no_first queue none = popped_missing queue (ap (λ kept. is_kept kept queue.popped) none)

  pub front_of-in_order : (queue : Queue H) (one : Kept H) (others : List (Kept H)) → queue.kept ≡ one ∷ others → one.position ≡ queue.popped
      → front_of queue ≡ Some one
  front_of-in_order queue one others is begins = rw (is, eq-eqb one.position queue.popped begins) refl

  pub front_of-behind : (queue : Queue H) (one : Kept H) (others : List (Kept H)) → queue.kept ≡ one ∷ others → one.position ≢ queue.popped
      → front_of queue ≡ None
  front_of-behind queue one others is behind = rw (is, ne_eqb one.position queue.popped behind) refl

  -- a queue that is sound, with its first missing position
  pub record IsAt (queue : Queue H) (n : ℕ) : Type 0 where
    pub sound : IsSound queue
    pub next : n ≡ next_of queue

  pub new_is_at : (base : ℕ) → IsAt (record { base = base; popped = 0; kept = [] }) 0
  new_is_at base = record {
    sound = record { apart = tt; in_window = tt; in_stream = tt; popped = omega arith };
    next = no_first (record { base = base; popped = 0; kept = [] }) refl;
  }

  -- what is behind the first piece is kept by the others
  behind_first : (popped : ℕ) (one : Kept H) (others : List (Kept H)) (p : ℕ) → popped ≤ p → end_of one ≤ p
      → (nat_lt p popped || (covers one p || is_kept others p)) ≡ true → is_kept others p ≡ true
  behind_first popped one others p above behind there = ⊎_elim
      (λ early. absurd (both_ways _ (le-ltb p popped above) early))
      (λ kept. ⊎_elim (λ within. absurd (both_ways _ (covers-behind one p behind) within)) (λ rest. rest) (or_cases _ _ kept))
      (or_cases _ _ there)

  -- the first piece leaves, and everything before its end counts as popped
  pub pulled_is_at : (queue : Queue H) (one : Kept H) (others : List (Kept H)) (n from : ℕ) → IsSound queue → queue.kept ≡ one ∷ others
      → from ≡ max (next_of queue) (end_of one) → from ≤ n → ((p : ℕ) → from ≤ p → p < n → is_kept others p ≡ true)
      → is_kept others n ≡ false → IsAt (record { base = queue.base; popped = one.position + one.len; kept = others }) n
  pulled_is_at queue one others n from sound is begins above kept free =
      let new : Queue H = record { base = queue.base; popped = one.position + one.len; kept = others } in
      let apart : AreApart queue.popped (one ∷ others) = rw is at sound.apart in
      let window : EndWithin (next_of queue + 2 ^ 30) (one ∷ others) =
      subst (λ (kept : List (Kept H)). EndWithin (next_of queue + 2 ^ 30) kept) is sound.in_window in
      let stream : EndWithin (2 ^ 62) (one ∷ others) = rw is at sound.in_stream in
      let low : queue.popped ≤ one.position = apart.0 in
      let next : next_of new ≡ n = next_of-is new n
      (or_from (nat_lt n new.popped) (is_kept others n) (le-ltb n new.popped (omega arith)) free)
      (λ p below. ⊎_elim
      (λ (early : p < one.position + one.len). or_left (nat_lt p new.popped) (is_kept others p) (lt-ltb p new.popped early))
      (λ (late : one.position + one.len ≤ p). or_right (nat_lt p new.popped) (is_kept others p) (⊎_elim
      (λ (before : p < next_of queue).
      let there : has queue p ≡ true = has-before queue p before in
      let seen : (nat_lt p queue.popped || (covers one p || is_kept others p)) ≡ true = ap (λ kept. nat_lt p queue.popped || is_kept kept p) (sym is)
      ∙ there in
      behind_first queue.popped one others p (omega arith) late seen)
      (λ (behind : next_of queue ≤ p). kept p (omega arith) below)
      (cases_lt p (next_of queue))))
      (cases_lt p (one.position + one.len))) in
      record {
        sound = record {
          apart = apart.3;
          in_window = EndWithin-more (next_of queue + 2 ^ 30) (next_of new + 2 ^ 30) others (omega arith) window.1;
          in_stream = stream.1;
          popped = stream.0;
        };
        next = sym next;
      }

  -- where the first piece begins at the first position that wasn't popped, it ends before anything is missing
  pub first_ends : (queue : Queue H) (one : Kept H) (others : List (Kept H)) → IsSound queue → queue.kept ≡ one ∷ others
      → one.position ≡ queue.popped → end_of one ≤ next_of queue
  first_ends queue one others sound is begins = ⊎_elim
      (λ (early : next_of queue < end_of one).
      let low : queue.popped ≤ next_of queue = next_of-popped queue in
      let there : is_kept (one ∷ others) (next_of queue) ≡ true = or_left _ _ (covers-within one (next_of queue) (omega arith) early) in
      absurd (both_ways _ (has-next queue)
      (or_right (nat_lt (next_of queue) queue.popped) (is_kept queue.kept (next_of queue)) (ap (λ kept. is_kept kept (next_of queue)) is ∙ there))))
      (λ late. late)
      (cases_lt (next_of queue) (end_of one))

  -- the piece that leaves was next in the stream: the first missing position stays
  pub popped_is_at : (queue : Queue H) (one : Kept H) (others : List (Kept H)) → IsSound queue → queue.kept ≡ one ∷ others
      → one.position ≡ queue.popped → IsAt (record { base = queue.base; popped = one.position + one.len; kept = others }) (next_of queue)
  popped_is_at queue one others sound is begins =
      let ends : end_of one ≤ next_of queue = first_ends queue one others sound is begins in
      let missing : (nat_lt (next_of queue) queue.popped || (covers one (next_of queue) || is_kept others (next_of queue))) ≡ false =
      ap (λ kept. nat_lt (next_of queue) queue.popped || is_kept kept (next_of queue)) (sym is) ∙ has-next queue in
      let parts = or_parts (nat_lt (next_of queue) queue.popped) (covers one (next_of queue) || is_kept others (next_of queue)) missing in
      pulled_is_at queue one others (next_of queue) (next_of queue) sound is (omega arith) (omega arith) (λ p from until. absurd (omega arith))
      (or_parts (covers one (next_of queue)) (is_kept others (next_of queue)) parts.1).1

  -- it is next in the stream where anything is
  pub front_is_popped : (queue : Queue H) (one : Kept H) (others : List (Kept H)) → IsSound queue → queue.kept ≡ one ∷ others
      → (queue.popped ≡ next_of queue → ⊥) → IsAt (record { base = queue.base; popped = one.position + one.len; kept = others }) (next_of queue)
  front_is_popped queue one others sound is there = popped_is_at queue one others sound is (⊎_elim
      (λ begins. begins)
      (λ behind. absurd (there (first_behind queue one others sound is behind)))
      (cases_eq one.position queue.popped))

  -- ---- one piece more

  pub record MayBeKept (queue : Queue H) (one : Kept H) : Type 0 where
    pub from : queue.popped ≤ one.position
    pub some : 0 < one.len
    pub small : one.len < 2 ^ 32
    pub free : IsFree queue.kept one
    pub near : end_of one ≤ next_of queue + 2 ^ 30
    pub low : end_of one ≤ 2 ^ 62

  -- what is taken lies behind the first missing position
  pub behind-next : (queue : Queue H) (one : Kept H) → MayBeKept queue one → next_of queue ≤ one.position
  behind-next queue one may = ⊎_elim
      (λ (early : one.position < next_of queue). absurd (both_ways _
      (or_from (nat_lt one.position queue.popped) (is_kept queue.kept one.position) (le-ltb one.position queue.popped may.from)
      (may.free.free one.position (omega arith) (let some : 0 < one.len = may.some in omega arith)))
      (has-before queue one.position early)))
      (λ late. late)
      (cases_lt one.position (next_of queue))

  pub apart_with_kept : (queue : Queue H) (one : Kept H) → IsSound queue → MayBeKept queue one → AreApart 0 (with_kept queue.kept one)
  apart_with_kept queue one sound may = AreApart-with_kept 0 queue.kept one (apart_from_0 queue sound) (omega arith) may.some may.small may.free

  pub taken_is_at : (queue : Queue H) (one : Kept H) (n : ℕ) → IsSound queue → MayBeKept queue one → next_of queue ≤ n
      → ((p : ℕ) → next_of queue ≤ p → p < n → is_kept (with_kept queue.kept one) p ≡ true) → is_kept (with_kept queue.kept one) n ≡ false
      → IsAt (record queue { kept = with_kept queue.kept one }) n
  taken_is_at queue one n sound may above kept free =
      let new : Queue H = record queue { kept = with_kept queue.kept one } in
      let popped : queue.popped ≤ next_of queue = next_of-popped queue in
      let next : next_of new ≡ n = next_of-is new n
      (or_from (nat_lt n queue.popped) (is_kept new.kept n) (le-ltb n queue.popped (omega arith)) free)
      (λ p below. ⊎_elim
      (λ (before : p < next_of queue). ⊎_elim
      (λ early. or_left (nat_lt p queue.popped) (is_kept new.kept p) early)
      (λ there. or_right (nat_lt p queue.popped) (is_kept new.kept p)
      (is_kept-with_kept queue.kept one p ∙ or_right (covers one p) (is_kept queue.kept p) there))
      (or_cases (nat_lt p queue.popped) (is_kept queue.kept p) (has-before queue p before)))
      (λ (behind : next_of queue ≤ p). or_right (nat_lt p queue.popped) (is_kept new.kept p) (kept p behind below))
      (cases_lt p (next_of queue))) in
      let near : end_of one ≤ next_of new + 2 ^ 30 = let h : end_of one ≤ next_of queue + 2 ^ 30 = may.near in omega arith in
      record {
        sound = record {
          apart = AreApart-with_kept queue.popped queue.kept one sound.apart may.from may.some may.small may.free;
          in_window = EndWithin-with_kept (next_of new + 2 ^ 30) queue.kept one
              (EndWithin-more (next_of queue + 2 ^ 30) (next_of new + 2 ^ 30) queue.kept (omega arith) sound.in_window) near;
          in_stream = EndWithin-with_kept (2 ^ 62) queue.kept one sound.in_stream may.low;
          popped = sound.popped;
        };
        next = sym next;
      }

  -- ---- the entries of the map

  -- no entry begins at a free position
  pub lookup_free : (from k : ℕ) (es : List (ℕ × KeptPiece H)) → AreApart from (all_kept es) → is_kept (all_kept es) k ≡ false
      → lookup (is_at (nat_cmp k)) es ≡ None
  lookup_free from k [] apart free = refl
  lookup_free from k (e ∷ es) apart free =
      let parts = or_parts (covers (kept_piece_of e) k) (is_kept (all_kept es) k) free in
      let other : k ≢ e.0 = λ same. both_ways _ parts.0 (covers-within (kept_piece_of e) k (omega arith) (omega arith)) in
      let test : is_at (nat_cmp k) e.0 ≡ false = grind (arith, nat_tests) in
      rw test (lookup_free (end_of (kept_piece_of e)) k es apart.3 parts.1)

  pub all_kept-insert_entry : (from k : ℕ) (es : List (ℕ × KeptPiece H)) (piece : KeptPiece H) → AreApart from (all_kept es)
      → is_kept (all_kept es) k ≡ false → all_kept (insert_entry nat_cmp es k piece) ≡ with_kept (all_kept es) (kept_piece_of (k, piece))
  all_kept-insert_entry from k [] piece apart free = refl
  all_kept-insert_entry from k (e ∷ es) piece apart free =
      let parts = or_parts (covers (kept_piece_of e) k) (is_kept (all_kept es) k) free in
      ⊎_elim
      (λ (lower : k < e.0). rw (lt-ltb k e.0 lower) refl)
      (λ (upper : e.0 ≤ k).
      let above : e.0 < k =
      ⊎_elim (λ h. h) (λ (h : k ≤ e.0). absurd (both_ways _ parts.0 (covers-within (kept_piece_of e) k upper (omega arith)))) (cases_lt e.0 k) in
      rw (le-ltb k e.0 upper, ne_eqb k e.0 (λ same. omega arith))
      (ap (λ rest. kept_piece_of e ∷ rest) (all_kept-insert_entry (end_of (kept_piece_of e)) k es piece apart.3 parts.1)))
      (cases_lt k e.0)
