use Rattle.std.{proofs.Common.{rules, ◌≡◌, ℕ, ◌+◌, ◌%◌, ◌^◌, ◌<◌, ◌≤◌, ◌∙◌, Some, None, refl, ap, subst, arith, true, false}, specs.Prelude.{slice_get}}
use Rattle.zr_kinds.specs.{declared.place.Note.{Note}, CopyingReceiver.{accepts}}
use Rattle.tcp_reorder.{specs.{declared.places.Gap.{Gap}, Queue.{Queue, next_of, IsSound}, Gaps.{origin, wants, IsFirstGap}}, proofs.Parts.{may_be_taken}}
use Rattle.board_face.specs.{AppEvents.{released}, declared.views.app.{HeldPiece.{HeldPiece}, AppView.{AppView}}}
use Rattle.flow_queues.specs.{declared.queues.{NotePiece.{NotePiece}, Waiting.{Waiting, TheVariants.{InArea}}}, Core.{LieApart, held_piece, over_kept, short_len, IsOfNote}}
use Rattle.flow_queues.{specs.{Pieces.{OnlyHelds, whole_piece, over_others, given_back}, Taking.{EntersPiece}}, proofs.Tokens.{in-contains, is-released}}
use Rattle.flow_queues.proofs.Entering.{IsLeft, all-there, ignored, none-wanted, later, others-still, all-given, still-left, taken-only, rest-given}
use Rattle.flow_queues.proofs.Entering.{over-with_kept, each-with_kept, one, entered-nothing, begun-left}
use Rattle.flow_queues.proofs.Shrinking.{shrink-gave, shrink-cut, shrink-released, shrink-given}
use Rattle.flow_queues.proofs.queues.enter.Goals as goal

pub release-requires-clause-out : goal.release-requires-clause-out
release-requires-clause-out g c = in-contains (λ h. h.place) (held_piece (whole_piece c.args.number c.args.held))
    (g.F.AppFace.seen c.args.face.now).helds c.requires.came.out

pub returns-then-not-accepts-clause-enters : goal.returns-then-not-accepts-clause-enters
returns-then-not-accepts-clause-enters g c = λ placed holds. ignored c.args.queue.now c.args.note.now c.args.number placed (search rules) holds

pub loop-left-init : goal.loop-left-init
loop-left-init g c =
    let accepted : accepts c.args.queue.now.base (next_of c.args.queue.now) c.args.note.now.seq c.args.note.now.total ≡ true = search rules in
    let place : c.args.held ≡ c.args.note.now.place = c.requires.came.place in (
      refl,
      refl,
      record { view = refl; apart = c.requires.came.holds.apart; moved = λ f. refl },
      refl,
      refl,
      begun-left (g.F.AppFace.seen c.args.face.now) c.args.queue.now c.args.note.now c.args.number c.args.held accepted c.requires.came.fields.within place
          c.requires.came.out,
      refl,
      omega arith,
      refl,
      λ taken t is split each. each,
    )

pub release-requires-in_default-gap-clause-out : goal.release-requires-in_default-gap-clause-out
release-requires-in_default-gap-clause-out g c =
    let v : AppView = g.F.AppFace.seen c.loop-left.face in
    let note : Note = c.args.note.now in
    let left : IsLeft v c.args.queue.now c.loop-left.queue c.args.number ((note.seq + note.at) % 2 ^ 32) note.place.len
    (origin c.args.queue.now note.seq + note.at) (Some c.in-Some.piece) =
    subst (IsLeft v c.args.queue.now c.loop-left.queue c.args.number ((note.seq + note.at) % 2 ^ 32) note.place.len
    (origin c.args.queue.now note.seq + note.at)) c.in-Some.is c.loop-left.invariant.5 in
    in-contains (λ h. h.place) (held_piece c.in-Some.piece) v.helds left.0

pub returns-in_default-gap-clause-enters : goal.returns-in_default-gap-clause-enters
returns-in_default-gap-clause-enters g c = λ placed holds.
    let v : AppView = g.F.AppFace.seen c.loop-left.face in
    let note : Note = c.args.note.now in
    let accepted : accepts c.args.queue.now.base (next_of c.args.queue.now) note.seq note.total ≡ true = search rules in
    let left : IsLeft v c.args.queue.now c.loop-left.queue c.args.number ((note.seq + note.at) % 2 ^ 32) note.place.len
    (origin c.args.queue.now note.seq + note.at) (Some c.in-Some.piece) =
    subst (IsLeft v c.args.queue.now c.loop-left.queue c.args.number ((note.seq + note.at) % 2 ^ 32) note.place.len
    (origin c.args.queue.now note.seq + note.at)) c.in-Some.is c.loop-left.invariant.5 in
    let unwanted : (place : ℕ) → place < c.in-Some.piece.held.len
    → wants c.loop-left.queue (((note.seq + note.at) % 2 ^ 32 + c.in-Some.piece.at) % 2 ^ 32) place ≡ false = search rules in
    all-there c.args.queue.now note accepted c.requires.came.fields.within c.loop-left.queue c.args.number placed holds
    (none-wanted v c.args.queue.now c.loop-left.queue c.args.number ((note.seq + note.at) % 2 ^ 32) note.place.len
    (origin c.args.queue.now note.seq + note.at) c.in-Some.piece left unwanted placed holds)

pub take-requires-clause-accepted : goal.take-requires-clause-accepted
take-requires-clause-accepted g c =
    let note : Note = c.args.note.now in
    let first : IsFirstGap c.loop-left.queue (((note.seq + note.at) % 2 ^ 32 + c.in-Some.piece.at) % 2 ^ 32) c.in-Some.piece.held.len c.in-Some-gap.gap = search
    rules in
    let near : accepts c.loop-left.queue.base (next_of c.loop-left.queue)
    (((note.seq + note.at) % 2 ^ 32 + c.in-Some.piece.at) % 2 ^ 32) c.in-Some.piece.held.len ≡ true = search rules in
    (may_be_taken c.loop-left.queue (((note.seq + note.at) % 2 ^ 32 + c.in-Some.piece.at) % 2 ^ 32) c.in-Some.piece.held.len near c.in-Some-gap.gap
    first).accepted

pub take-requires-clause-wanted : goal.take-requires-clause-wanted
take-requires-clause-wanted g c =
    let note : Note = c.args.note.now in
    let first : IsFirstGap c.loop-left.queue (((note.seq + note.at) % 2 ^ 32 + c.in-Some.piece.at) % 2 ^ 32) c.in-Some.piece.held.len c.in-Some-gap.gap = search
    rules in
    let near : accepts c.loop-left.queue.base (next_of c.loop-left.queue)
    (((note.seq + note.at) % 2 ^ 32 + c.in-Some.piece.at) % 2 ^ 32) c.in-Some.piece.held.len ≡ true = search rules in
    (may_be_taken c.loop-left.queue (((note.seq + note.at) % 2 ^ 32 + c.in-Some.piece.at) % 2 ^ 32) c.in-Some.piece.held.len near c.in-Some-gap.gap
    first).wanted

pub loop-left-preserved : goal.loop-left-preserved
loop-left-preserved g c =
    let v0 : AppView = g.F.AppFace.seen c.args.face.now in
    let v : AppView = g.F.AppFace.seen c.loop-left.face in
    let v1 : AppView = g.F.AppFace.seen c.skip-wanted.new.face in
    let v2 : AppView = g.F.AppFace.seen c.split-first.new.face in
    let note : Note = c.args.note.now in
    let was : Queue Waiting = c.args.queue.now in
    let now : Queue Waiting = c.loop-left.queue in
    let seq : ℕ = (note.seq + note.at) % 2 ^ 32 in
    let from : ℕ = origin was note.seq + note.at in
    let piece : NotePiece = c.in-Some.piece in
    let gap : Gap = c.in-Some-gap.gap in
    let left : IsLeft v was now c.args.number seq note.place.len from (Some piece) = subst
    (IsLeft v was now c.args.number seq note.place.len from) c.in-Some.is c.loop-left.invariant.5 in
    let gone : (HeldPiece → ℕ) → ℕ = λ f. f (held_piece (whole_piece c.args.number c.args.held)) + over_kept f was in
    let only : OnlyHelds v0 v gone (λ f. over_others f (Some piece) + over_kept f now) = subst
    (λ o. OnlyHelds v0 v gone (λ f. over_others f o + over_kept f now)) c.in-Some.is c.loop-left.invariant.2 in
    let first : IsFirstGap now ((seq + piece.at) % 2 ^ 32) piece.held.len gap = search rules in
    let sound : IsSound now = c.in-Some-gap.ensures.sound in
    let fits : note.place.len ≤ 2 ^ 30 = omega (arith, c.requires.came.fields.within, c.requires.came.fields.bounded) in
    let gave = c.skip-wanted.ensures.gave in
    let cut = c.split-first.ensures.cut in
    let of_note : c.split-first.result.0.note ≡ c.args.number = ap (λ (p : NotePiece). p.note) cut.front ∙ ap (λ (p : NotePiece). p.note) gave.rest ∙ left.1 in
    let taken : c.take.new.self ≡ later v v1 v2 was now c.args.number seq note.place.len from piece c.skip-wanted.result c.split-first.result.0
    c.split-first.result.1 gap sound fits left first gave cut = search rules in
    rw taken (
      refl,
      refl,
      taken-only v v1 v2 was now c.args.number seq note.place.len from piece c.skip-wanted.result c.split-first.result.0 c.split-first.result.1 gap sound fits
          left first gave cut v0 gone only,
      c.loop-left.invariant.3,
      c.loop-left.invariant.4,
      still-left v v1 v2 was now c.args.number seq note.place.len from piece c.skip-wanted.result c.split-first.result.0 c.split-first.result.1 gap sound fits
          left first gave cut,
      search rules,
      omega (
        arith,
        c.loop-left.invariant.7,
        shrink-gave v v1 piece gap.skip c.skip-wanted.result gave,
        shrink-cut v1 v2 c.skip-wanted.result gap.len c.split-first.result.0 c.split-first.result.1 (search rules) cut,
      ),
      omega (
        arith,
        c.loop-left.invariant.8,
        over-with_kept short_len now.kept (one v v1 v2 was now c.args.number seq note.place.len from piece
            c.skip-wanted.result c.split-first.result.0 c.split-first.result.1 gap sound fits left first gave cut),
      ),
      λ taken t is split each. each-with_kept (IsOfNote taken) now.kept (one v v1 v2 was now c.args.number seq note.place.len from piece
          c.skip-wanted.result c.split-first.result.0 c.split-first.result.1 gap sound fits left first gave cut)
          (record { note = t; is = ap (slice_get taken) of_note ∙ is; split = split }) (c.loop-left.invariant.9 taken t is split each),
    )

pub give_back-requires-clause-out : goal.give_back-requires-clause-out
give_back-requires-clause-out g c =
    let back : c.in-Err.back ≡ InArea c.split-first.result.0 = search rules in
    let cut = c.split-first.ensures.cut in
    rw back cut.out

pub give_up-requires-clause-holds : goal.give_up-requires-clause-holds
give_up-requires-clause-holds g c =
    let back : c.in-Err.back ≡ InArea c.split-first.result.0 = search rules in
    let cut = c.split-first.ensures.cut in
    let here : (g.F.AppFace.seen c.give_back.new.face).left ≡ false = search rules in
    let apart : LieApart (g.F.AppFace.seen c.give_back.new.face) = rw (c.give_back.ensures.view, back)
    (is-released (g.F.AppFace.seen c.split-first.new.face) cut.only.apart (held_piece c.split-first.result.0) cut.out).apart in
    record { here = here; apart = apart }

pub give_up-requires-clause-out : goal.give_up-requires-clause-out
give_up-requires-clause-out g c =
    let back : c.in-Err.back ≡ InArea c.split-first.result.0 = search rules in
    let some : 0 < c.in-Some-gap.gap.len = search rules in
    rw (c.give_back.ensures.view, back) (others-still (g.F.AppFace.seen c.skip-wanted.new.face)
    (g.F.AppFace.seen c.split-first.new.face) c.skip-wanted.result c.split-first.result.0 c.split-first.result.1 c.in-Some-gap.gap.len some
    c.split-first.ensures.cut)

pub returns-clause-enters : goal.returns-clause-enters
returns-clause-enters g c = λ placed holds.
    let v : AppView = g.F.AppFace.seen c.loop-left.face in
    let note : Note = c.args.note.now in
    let accepted : accepts c.args.queue.now.base (next_of c.args.queue.now) note.seq note.total ≡ true = search rules in
    let none : c.loop-left.left ≡ None = search rules in
    let left : IsLeft v c.args.queue.now c.loop-left.queue c.args.number ((note.seq + note.at) % 2 ^ 32) note.place.len
    (origin c.args.queue.now note.seq + note.at) None =
    subst (IsLeft v c.args.queue.now c.loop-left.queue c.args.number ((note.seq + note.at) % 2 ^ 32) note.place.len
    (origin c.args.queue.now note.seq + note.at)) none c.loop-left.invariant.5 in
    all-there c.args.queue.now note accepted c.requires.came.fields.within c.loop-left.queue c.args.number placed holds (left placed holds)

pub returns-then-not-accepts-clause-some : goal.returns-then-not-accepts-clause-some
returns-then-not-accepts-clause-some g c =
    let v : AppView = g.F.AppFace.seen c.args.face.now in
    let piece : NotePiece = whole_piece c.args.number c.args.held in
    let some : EntersPiece v (released v c.args.held) c.args.queue.now c.args.queue.now piece = record {
      only = entered-nothing v c.requires.came.holds.apart piece c.args.queue.now c.requires.came.out;
      fewer = shrink-released v c.requires.came.holds.apart piece c.requires.came.out;
      short = refl;
    } in
    rw c.release.ensures.view some

pub returns-in_default-gap-clause-some : goal.returns-in_default-gap-clause-some
returns-in_default-gap-clause-some g c =
    let v0 : AppView = g.F.AppFace.seen c.args.face.now in
    let v : AppView = g.F.AppFace.seen c.loop-left.face in
    let note : Note = c.args.note.now in
    let was : Queue Waiting = c.args.queue.now in
    let piece : NotePiece = c.in-Some.piece in
    let left : IsLeft v was c.loop-left.queue c.args.number ((note.seq + note.at) % 2 ^ 32) note.place.len (origin was note.seq + note.at) (Some piece) =
    subst (IsLeft v was c.loop-left.queue c.args.number ((note.seq + note.at) % 2 ^ 32) note.place.len
    (origin was note.seq + note.at)) c.in-Some.is c.loop-left.invariant.5 in
    let gone : (HeldPiece → ℕ) → ℕ = λ f. f (held_piece (whole_piece c.args.number c.args.held)) + over_kept f was in
    let only : OnlyHelds v0 v gone (λ f. over_others f (Some piece) + over_kept f c.loop-left.queue) =
    subst (λ o. OnlyHelds v0 v gone (λ f. over_others f o + over_kept f c.loop-left.queue)) c.in-Some.is c.loop-left.invariant.2 in
    let some : EntersPiece v0 (released v piece.held) was c.loop-left.queue (whole_piece c.args.number c.args.held) = record {
      only = rest-given v0 v gone c.loop-left.queue piece only left.0;
      fewer = omega (arith, c.loop-left.invariant.7, shrink-released v c.loop-left.invariant.2.apart piece left.0);
      short = c.loop-left.invariant.8;
    } in
    rw c.release-in_default-gap.ensures.view some

pub returns-in-Err-clause-some : goal.returns-in-Err-clause-some
returns-in-Err-clause-some g c =
    let v0 : AppView = g.F.AppFace.seen c.args.face.now in
    let v : AppView = g.F.AppFace.seen c.loop-left.face in
    let v1 : AppView = g.F.AppFace.seen c.skip-wanted.new.face in
    let v2 : AppView = g.F.AppFace.seen c.split-first.new.face in
    let v4 : AppView = g.F.AppFace.seen c.give_up.new.face in
    let was : Queue Waiting = c.args.queue.now in
    let now : Queue Waiting = c.loop-left.queue in
    let piece : NotePiece = c.in-Some.piece in
    let gap : Gap = c.in-Some-gap.gap in
    let back : c.in-Err.back ≡ InArea c.split-first.result.0 = search rules in
    let same : c.take.new.self ≡ now = search rules in
    let gone : (HeldPiece → ℕ) → ℕ = λ f. f (held_piece (whole_piece c.args.number c.args.held)) + over_kept f was in
    let only : OnlyHelds v0 v gone (λ f. over_others f (Some piece) + over_kept f now) = subst
    (λ o. OnlyHelds v0 v gone (λ f. over_others f o + over_kept f now)) c.in-Some.is c.loop-left.invariant.2 in
    let cut = c.split-first.ensures.cut in
    let view3 : g.F.AppFace.seen c.give_back.new.face ≡ released v2 c.split-first.result.0.held = c.give_back.ensures.view
    ∙ ap (given_back v2) back in
    let last : OnlyHelds (released v2 c.split-first.result.0.held) v4 (λ f. over_others f c.split-first.result.1) (λ f. 0) = subst
    (λ w. OnlyHelds w v4 (λ f. over_others f c.split-first.result.1) (λ f. 0)) view3 c.give_up.ensures.only in
    let some : EntersPiece v0 v4 was now (whole_piece c.args.number c.args.held) = record {
      only = all-given v0 v v1 v2 v4 now piece c.skip-wanted.result c.split-first.result.0 c.split-first.result.1 gap gone only
          c.skip-wanted.ensures.gave cut last;
      fewer = omega (
        arith,
        c.loop-left.invariant.7,
        shrink-gave v v1 piece gap.skip c.skip-wanted.result c.skip-wanted.ensures.gave,
        shrink-cut v1 v2 c.skip-wanted.result gap.len c.split-first.result.0 c.split-first.result.1 (search rules) cut,
        shrink-released v2 cut.only.apart c.split-first.result.0 cut.out,
        shrink-given (released v2 c.split-first.result.0.held) v4 c.split-first.result.1 last,
      );
      short = c.loop-left.invariant.8;
    } in
    rw same some
