-- What `take` may keep, and what the map has then.
use Rattle.std.proofs.Common.{◌≡◌, ℕ, ◌+◌, ◌-◌, ◌^◌, ◌<◌, ◌≤◌, List, [], ◌∷◌, true, false, Option, None, Some, refl, sym, ap, subst, ◌∙◌, arith}
use Rattle.std.{specs.{Ordering.{nat_cmp}, Map.{lookup}, BTreeMap.{insert_entry, is_at}}, proofs.lemmas.Bool.{or_from, or_left}}
use Rattle.zr_kinds.specs.CopyingReceiver.{lead, accepts}
use Rattle.tcp_reorder.specs.{declared.piece.KeptPiece.{KeptPiece}, Queue.{Kept, Queue, covers, is_kept, next_of, with_kept, IsSound}}
use Rattle.tcp_reorder.{specs.{Gaps.{origin, wants, AreWanted, with_taken}, Pieces.{kept_piece_of, all_kept, with_first, queue_of}}, proofs.Judging.{accepted}}
use Rattle.tcp_reorder.proofs.Positions.{covers-within, covers-behind}
use Rattle.tcp_reorder.proofs.Sound.{IsAt, MayBeKept, behind-next, no_first, taken_is_at, lookup_free, all_kept-insert_entry}
use Rattle.tcp_reorder.proofs.{Rest.{first_end, first_end-low, rest_kept, rest_apart, rest_with_kept}, Gapping.{origin-is, wanted_free, wanted_behind}}

module _ {H : Type 0} where
  -- a call of `take` that meets its conditions
  pub record IsWhole (queue : Queue H) (seq : ℕ) (one : Kept H) : Type 0 where
    pub position : one.position ≡ origin queue seq - 2 ^ 31
    pub near : accepts queue.base (next_of queue) seq one.len ≡ true
    pub some : 0 < one.len
    pub small : one.len < 2 ^ 32
    pub wanted : (place : ℕ) → place < one.len → wants queue seq place ≡ true

  pub may_be_kept : (queue : Queue H) (seq : ℕ) (one : Kept H) → IsWhole queue seq one → MayBeKept queue one
  may_be_kept queue seq one whole =
      let behind = wanted_behind queue seq (whole.wanted 0 whole.some) in
      let near = accepted queue.base (next_of queue) seq one.len whole.near in
      record {
        from = omega (arith, whole.position, behind.1);
        some = whole.some;
        small = whole.small;
        free = wanted_free queue seq one whole.position behind.0 whole.wanted;
        near = omega (arith, whole.position, near.0, behind.0);
        low = omega (arith, whole.position, near.1, behind.0);
      }

  pub free_position : (queue : Queue H) (seq : ℕ) (one : Kept H) → IsWhole queue seq one → is_kept queue.kept one.position ≡ false
  free_position queue seq one whole = ap (is_kept queue.kept) whole.position ∙ (wanted_behind queue seq (whole.wanted 0 whole.some)).2

  -- where nothing is kept a piece at the first position that wasn't popped is the only one
  only_piece : (base popped : ℕ) (position : ℕ) (piece : KeptPiece H) → position ≡ popped → IsSound (queue_of {H = H} base popped None [])
      → MayBeKept (queue_of base popped None []) (kept_piece_of (position, piece))
      → IsAt (queue_of base popped (Some piece) []) (position + piece.len)
  only_piece base popped position piece first sound may =
      let empty : Queue H = queue_of base popped None [] in
      let one : Kept H = kept_piece_of (position, piece) in
      let next : popped ≡ next_of empty = no_first empty refl in
      subst (λ at. IsAt (record { base = base; popped = popped; kept = kept_piece_of (at, piece) ∷ [] }) (position + piece.len)) first
      (taken_is_at empty one (position + piece.len) sound may (omega arith)
      (λ p from until. or_left (covers one p) false (covers-within one p (omega arith) until))
      (or_from (covers one (position + piece.len)) false (covers-behind one (position + piece.len) (omega arith)) refl))

  -- what a call of `take` knows, and that it meets its conditions
  pub record IsTake (base popped : ℕ) (first : Option (KeptPiece H)) (entries : List (ℕ × KeptPiece H)) (view : Queue H) (seq next ahead len : ℕ)
      : Type 0 where
    pub view_is : queue_of base popped first entries ≡ view
    pub sound : IsSound (queue_of base popped first entries)
    pub next_is : next ≡ next_of (queue_of base popped first entries)
    pub ahead_is : ahead ≡ lead base next seq
    pub accepted : accepts view.base (next_of view) seq len ≡ true
    pub some : 0 < len
    pub small : len < 2 ^ 32
    pub wanted : AreWanted view seq len

  module _ (base popped : ℕ) (first : Option (KeptPiece H)) (entries : List (ℕ × KeptPiece H)) (view : Queue H) (seq next ahead len : ℕ) (piece : H)
      (call : IsTake base popped first entries view seq next ahead len) where
    abbrev pub queue : Queue H
    queue = queue_of base popped first entries

    abbrev pub one : Kept H
    one = kept_piece_of (next + ahead - 2 ^ 31, record { len = len; held = piece })

    pub place_is : next + ahead ≡ origin queue seq
    place_is = origin-is queue seq next ahead call.next_is call.ahead_is

    whole : IsWhole queue seq one
    whole = record {
      position = ap (λ n. n - 2 ^ 31) place_is;
      near = rw (← call.view_is) at call.accepted;
      some = call.some;
      small = call.small;
      wanted = rw (← call.view_is) at call.wanted;
    }

    pub may : MayBeKept queue one
    may = may_be_kept queue seq one whole

    behind : first_end popped first ≤ next_of queue
    behind = first_end-low base popped first entries call.sound

    -- the others, which lie behind the first missing position as the piece does
    rest_free : is_kept (all_kept entries) (next + ahead - 2 ^ 31) ≡ false
    rest_free =
        let above : next_of queue ≤ one.position = behind-next queue one may in
        sym (rest_kept popped first entries (next + ahead - 2 ^ 31) (omega (arith, behind))) ∙ free_position queue seq one whole

    -- the entries once the piece was put in, where there was none at its position
    pub kept_then : (new : List (ℕ × KeptPiece H)) → new ≡ insert_entry nat_cmp entries (next + ahead - 2 ^ 31) (record { len = len; held = piece })
        → all_kept (with_first popped first new) ≡ with_kept queue.kept one
    kept_then new inserted = rest_with_kept popped first entries new one may.from (ap all_kept inserted
        ∙ all_kept-insert_entry 0 (next + ahead - 2 ^ 31) entries (record { len = len; held = piece })
        (rest_apart popped popped first entries call.sound.apart) rest_free)

    pub nothing_there : (before : KeptPiece H) → Some before ≡ lookup (is_at (nat_cmp (next + ahead - 2 ^ 31))) entries → ⊥
    nothing_there before found =
        let none : lookup (is_at (nat_cmp (next + ahead - 2 ^ 31))) entries ≡ None =
        lookup_free 0 (next + ahead - 2 ^ 31) entries (rest_apart popped popped first entries call.sound.apart) rest_free in
        cc

    abbrev pub first_piece : KeptPiece H
    first_piece = record { len = len; held = piece }

    -- a piece that is put in where nothing is kept, at the first position that wasn't popped
    pub record IsAlone : Type 0 where
      pub none : first ≡ None
      pub at : IsAt (queue_of base popped (Some first_piece) entries) (next + ahead - 2 ^ 31 + len)
      pub view_is : queue_of base popped (Some first_piece) entries ≡ with_taken view seq len piece

    no_first_piece : (was : Option (KeptPiece H)) → IsSound (queue_of base popped was entries) → first_end popped was ≤ popped → was ≡ None
    no_first_piece None sound ends = refl
    no_first_piece (Some piece) sound ends = let some : 0 < piece.len = sound.apart.1 in absurd (omega arith)

    -- the queue with the piece put in at a position among these
    abbrev put : List (Kept H) → ℕ → Queue H
    put kept at = record { base = base; popped = popped; kept = with_kept kept (record { position = at; len = len; piece = piece }) }

    pub alone : next + ahead - 2 ^ 31 ≡ popped → entries ≡ [] → IsAlone
    alone begins empty =
        let above : next_of queue ≤ one.position = behind-next queue one may in
        let none : first ≡ None = no_first_piece first call.sound (omega (arith, behind)) in
        let sound : IsSound (queue_of base popped None []) = rw (none, empty) at call.sound in
        let may_be : MayBeKept (queue_of base popped None []) one = rw (none, empty) at may in
        record {
          none = none;
          at = rw empty (only_piece base popped (next + ahead - 2 ^ 31) first_piece begins sound may_be);
          view_is = sym (ap (λ v. with_taken v seq len piece) (sym call.view_is)
              ∙ ap (put queue.kept) (sym (ap (λ n. n - 2 ^ 31) place_is) ∙ begins)
              ∙ ap (λ kept. put kept popped) (ap all_kept (ap (λ was. with_first popped was entries) none ∙ empty))
              ∙ ap (λ es. queue_of base popped (Some first_piece) es) (sym empty));
        }
