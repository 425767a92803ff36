use Rattle.std.{proofs.Common.{rules, ◌≡◌, [], Some, None, refl, sym, ap, ◌∙◌}, specs.Option.{option_map}}
use Rattle.tcp_reorder.specs.{Queue.{Kept, front_of}, Pieces.{kept_piece_of, all_kept, with_first, queue_of}}
use Rattle.tcp_reorder.proofs.Sound.{first_entry, front_of-in_order, front_of-behind, first_in_order, first_behind, no_first}
use Rattle.tcp_reorder.proofs.queue.RecvQueue.front_piece.Goals as goal
use Rattle.zr_kinds.proofs.Lists.{front-none}

abbrev piece_of : {H : Type 0} → Kept H → H
piece_of one = one.piece

pub returns-in_err-position-clause-none : goal.returns-in_err-position-clause-none
returns-in_err-position-clause-none g c =
    let queue = queue_of c.self.inside.base c.self.inside.popped c.self.inside.first c.self.inside.pieces.entries in
    let none : with_first c.self.inside.popped c.self.inside.first c.self.inside.pieces.entries ≡ [] =
    front-none (with_first c.self.inside.popped c.self.inside.first c.self.inside.pieces.entries) (sym c.least.ensures ∙ ap (option_map _) c.in_err-position.was) in
    rw (← c.self.view_is) ((λ h. no_first queue (ap all_kept none)), λ missing. search rules)

pub returns-then-position-self-clause-front : goal.returns-then-position-self-clause-front
returns-then-position-self-clause-front g c =
    let queue = queue_of c.self.inside.base c.self.inside.popped c.self.inside.first c.self.inside.pieces.entries in
    let (others, is) = first_entry (with_first c.self.inside.popped c.self.inside.first c.self.inside.pieces.entries) (c.in_ok-position.position, c.in_ok-position.piece.now) (sym c.in_ok-position.ensures) in
    let front : front_of queue ≡ Some (kept_piece_of (c.in_ok-position.position, c.in_ok-position.piece.now)) =
    front_of-in_order queue (kept_piece_of (c.in_ok-position.position, c.in_ok-position.piece.now)) (all_kept others)
    (ap all_kept is) c.if-position-self.true in
    rw (← c.self.view_is) (sym (ap (option_map piece_of) front))

pub returns-then-position-self-clause-none : goal.returns-then-position-self-clause-none
returns-then-position-self-clause-none g c =
    let queue = queue_of c.self.inside.base c.self.inside.popped c.self.inside.first c.self.inside.pieces.entries in
    let (others, is) = first_entry (with_first c.self.inside.popped c.self.inside.first c.self.inside.pieces.entries) (c.in_ok-position.position, c.in_ok-position.piece.now) (sym c.in_ok-position.ensures) in
    rw (← c.self.view_is) (
      (λ never. cc),
      λ missing. absurd
          (first_in_order queue (kept_piece_of (c.in_ok-position.position, c.in_ok-position.piece.now)) (all_kept others) c.self.invariant.0
          (ap all_kept is) c.if-position-self.true missing),
    )

pub returns-else-position-self-clause-front : goal.returns-else-position-self-clause-front
returns-else-position-self-clause-front g c =
    let queue = queue_of c.self.inside.base c.self.inside.popped c.self.inside.first c.self.inside.pieces.entries in
    let (others, is) = first_entry (with_first c.self.inside.popped c.self.inside.first c.self.inside.pieces.entries) (c.in_ok-position.position, c.in_ok-position.piece.now) (sym c.in_ok-position.ensures) in
    let front : front_of queue ≡ None =
    front_of-behind queue (kept_piece_of (c.in_ok-position.position, c.in_ok-position.piece.now)) (all_kept others)
    (ap all_kept is) c.if-position-self.false in
    rw (← c.self.view_is) (sym (ap (option_map piece_of) front))

pub returns-else-position-self-clause-none : goal.returns-else-position-self-clause-none
returns-else-position-self-clause-none g c =
    let queue = queue_of c.self.inside.base c.self.inside.popped c.self.inside.first c.self.inside.pieces.entries in
    let (others, is) = first_entry (with_first c.self.inside.popped c.self.inside.first c.self.inside.pieces.entries) (c.in_ok-position.position, c.in_ok-position.piece.now) (sym c.in_ok-position.ensures) in
    rw (← c.self.view_is) (
      (λ none. first_behind queue (kept_piece_of (c.in_ok-position.position, c.in_ok-position.piece.now)) (all_kept others) c.self.invariant.0
          (ap all_kept is) c.if-position-self.false),
      λ missing. refl,
    )
