use Rattle.std.{proofs.Common.{◌≡◌, [], Some, None, refl, sym, ap, ◌∙◌}, specs.Option.{option_map}}
use Rattle.tcp_reorder.specs.{Queue.{front_of}, Gaps.{span_of}, Pieces.{kept_piece_of, all_kept, with_first, queue_of}}
use Rattle.tcp_reorder.proofs.Sound.{first_entry, front_of-in_order, front_of-behind, first_in_order, first_behind, no_first}
use Rattle.tcp_reorder.proofs.queue.RecvQueue.front.Goals as goal
use Rattle.zr_kinds.proofs.Lists.{front-none}

pub returns-in-Some-clause-front : goal.returns-in-Some-clause-front
returns-in-Some-clause-front g c =
    let queue = queue_of c.self.inside.base c.self.inside.popped c.self.inside.first c.self.inside.pieces.entries in
    let (others, is) = first_entry (with_first c.self.inside.popped c.self.inside.first c.self.inside.pieces.entries) (c.in-Some.position, c.in-Some.piece.now) (sym c.in-Some.ensures) in
    let front : front_of queue ≡ Some (kept_piece_of (c.in-Some.position, c.in-Some.piece.now)) =
    front_of-in_order queue (kept_piece_of (c.in-Some.position, c.in-Some.piece.now)) (all_kept others) (ap all_kept is) c.if-position-self.true in
    rw (← c.self.view_is) (sym (ap (option_map span_of) front))

pub returns-in-Some-clause-none : goal.returns-in-Some-clause-none
returns-in-Some-clause-none g c =
    let queue = queue_of c.self.inside.base c.self.inside.popped c.self.inside.first c.self.inside.pieces.entries in
    let (others, is) = first_entry (with_first c.self.inside.popped c.self.inside.first c.self.inside.pieces.entries) (c.in-Some.position, c.in-Some.piece.now) (sym c.in-Some.ensures) in
    rw (← c.self.view_is) (
      (λ never. cc),
      λ missing. absurd
          (first_in_order queue (kept_piece_of (c.in-Some.position, c.in-Some.piece.now)) (all_kept others) c.self.invariant.0
          (ap all_kept is) c.if-position-self.true missing),
    )

pub returns-in_default-clause-front : goal.returns-in_default-clause-front
returns-in_default-clause-front g c =
    let queue = queue_of c.self.inside.base c.self.inside.popped c.self.inside.first c.self.inside.pieces.entries in
    let (others, is) = first_entry (with_first c.self.inside.popped c.self.inside.first c.self.inside.pieces.entries) (c.in-Some.position, c.in-Some.piece.now) (sym c.in-Some.ensures) in
    let front : front_of queue ≡ None =
    front_of-behind queue (kept_piece_of (c.in-Some.position, c.in-Some.piece.now)) (all_kept others) (ap all_kept is) c.if-position-self.false in
    rw (← c.self.view_is) (sym (ap (option_map span_of) front))

pub returns-in_default-clause-none : goal.returns-in_default-clause-none
returns-in_default-clause-none g c =
    let queue = queue_of c.self.inside.base c.self.inside.popped c.self.inside.first c.self.inside.pieces.entries in
    let (others, is) = first_entry (with_first c.self.inside.popped c.self.inside.first c.self.inside.pieces.entries) (c.in-Some.position, c.in-Some.piece.now) (sym c.in-Some.ensures) in
    rw (← c.self.view_is) (
      (λ none. first_behind queue (kept_piece_of (c.in-Some.position, c.in-Some.piece.now)) (all_kept others) c.self.invariant.0
          (ap all_kept is) c.if-position-self.false),
      λ missing. refl,
    )

pub returns-in_default-2-clause-none : goal.returns-in_default-2-clause-none
returns-in_default-2-clause-none g c =
    let queue = queue_of c.self.inside.base c.self.inside.popped c.self.inside.first c.self.inside.pieces.entries in
    let none : with_first c.self.inside.popped c.self.inside.first c.self.inside.pieces.entries ≡ [] =
    front-none (with_first c.self.inside.popped c.self.inside.first c.self.inside.pieces.entries) (sym c.least.ensures ∙ ap (option_map _) c.in_default.is) in
    rw (← c.self.view_is) ((λ h. no_first queue (ap all_kept none)), λ missing. refl)
