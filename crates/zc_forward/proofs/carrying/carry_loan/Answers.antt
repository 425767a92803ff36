use Rattle.std.proofs.Common.{rules, ◌≡◌, ◌≢◌, ◌∙◌, ap, nat_eq, Option, Some, ℕ, ◌+◌, ◌-◌, ◌≤◌, length, take, drop, length-append, subst, arith, min}
use Rattle.std.{specs.{Prelude.{IfSome}, Map.{lookup}, Io.KnownBytes.{Appends, Keeps}}, proofs.{KnownBytes.{Keeps-trans}, lemmas.List.{length-drop}}}
use Rattle.zr_io.{specs.Moved.{AddsPiece, Gained, raised_by}, proofs.Moved.{Gained-weaker}}
use Rattle.board_face.specs.declared.views.app.AppView.{AppView}
use Rattle.flow_queues.{proofs.ReadLemmas.{IsReadTo, read-of, still-out}, specs.Core.{IsReadOf, lent_piece}}
use Rattle.zc_poll.proofs.Appending.{read-more, one-more-at, some-more-at}
use Rattle.zc_forward.proofs.carrying.carry_loan.Goals as goal

pub returns-then-is_err-clause-carries : goal.returns-then-is_err-clause-carries
returns-then-is_err-clause-carries g c =
    let v0 : AppView = g.F.AppFace.seen c.args.stream.now.face in
    let v : AppView = g.F.AppFace.seen c.loop-done.stream.face in
    let w : AppView = g.F.AppFace.seen c.read.new.self.face in
    let inv = c.loop-done.invariant in
    let first = g.C.Carrier.got c.args.carrier.now c.args.sent.now.flow in
    let before = g.C.Carrier.got c.loop-done.carrier c.args.sent.now.flow in
    let after = g.C.Carrier.got c.carry.new.self c.args.sent.now.flow in
    let size : length c.read.new.into ≡ c.min-n.result = search rules in
    let n : c.min-n.result ≡ min (c.args.sent.now.loan.len - c.loop-done.done) 4096 = search rules in
    let fits : c.loop-done.done + length c.read.new.into ≤ c.args.sent.now.loan.len = omega (arith, size, n, inv.0, inv.1) in
    let known : lookup (nat_eq c.args.sent.now.tag) (g.C.Carrier.tags c.loop-done.carrier) ≡ Some c.args.sent.now.flow =
    ap (lookup (nat_eq c.args.sent.now.tag)) inv.10 ∙ c.requires.begun in
    let bytes : AddsPiece before after c.carry.result c.read.new.into =
    subst (λ (o : Option ℕ). IfSome o (λ flow. AddsPiece (g.C.Carrier.got c.loop-done.carrier flow) (g.C.Carrier.got c.carry.new.self flow) c.carry.result c.read.new.into)) known c.carry.ensures.bytes in
    let added : (n : ℕ) × Appends before after (take n c.read.new.into) = search rules in
    record {
      only = read-more v0 v w c.args.sent.now.loan c.loop-done.done c.read.new.into inv.5 c.read.ensures.reads.view;
      counted = search rules;
      gained = λ lending same known out.
          some-more-at v0.taken first before after v w inv.3.common.apart c.args.sent.now.loan c.loop-done.done c.read.new.into c.read.ensures.reads.copied
          c.read.ensures.reads.view lending same (still-out v0 v (lent_piece v0.taken lending) inv.5 out) known (inv.6 lending same known out) added.0 fits
          (omega (arith, size, n)) added.1;
      others = search rules;
      later = search rules;
      still = search rules;
      cause = search rules;
      appended = search rules;
      pace = search rules;
    }

pub loop-done-preserved : goal.loop-done-preserved
loop-done-preserved g c =
    let v0 : AppView = g.F.AppFace.seen c.args.stream.now.face in
    let v : AppView = g.F.AppFace.seen c.loop-done.stream.face in
    let w : AppView = g.F.AppFace.seen c.read.new.self.face in
    let inv = c.loop-done.invariant in
    let first = g.C.Carrier.got c.args.carrier.now c.args.sent.now.flow in
    let before = g.C.Carrier.got c.loop-done.carrier c.args.sent.now.flow in
    let after = g.C.Carrier.got c.carry.new.self c.args.sent.now.flow in
    let size : length c.read.new.into ≡ c.min-n.result = search rules in
    let n : c.min-n.result ≡ min (c.args.sent.now.loan.len - c.loop-done.done) 4096 = search rules in
    let fits : c.loop-done.done + length c.read.new.into ≤ c.args.sent.now.loan.len = omega (arith, size, n, inv.0, inv.1) in
    let known : lookup (nat_eq c.args.sent.now.tag) (g.C.Carrier.tags c.loop-done.carrier) ≡ Some c.args.sent.now.flow =
    ap (lookup (nat_eq c.args.sent.now.tag)) inv.10 ∙ c.requires.begun in
    let bytes : AddsPiece before after c.carry.result c.read.new.into =
    subst (λ (o : Option ℕ). IfSome o (λ flow. AddsPiece (g.C.Carrier.got c.loop-done.carrier flow) (g.C.Carrier.got c.carry.new.self flow) c.carry.result c.read.new.into)) known c.carry.ensures.bytes in
    let others : (other : ℕ) → other ≢ c.args.sent.now.flow → Keeps (g.C.Carrier.got c.loop-done.carrier other) (g.C.Carrier.got c.carry.new.self other) =
    subst (λ (o : Option ℕ). IfSome o (λ flow. (other : ℕ) → other ≢ flow → Keeps (g.C.Carrier.got c.loop-done.carrier other) (g.C.Carrier.got c.carry.new.self other))) known
    c.carry.ensures.others in
    let added : Appends before after c.read.new.into = search rules in
    let counted : (g.C.Carrier.counts c.carry.new.self).appended ≡ raised_by (g.C.Carrier.counts c.loop-done.carrier).appended (length c.read.new.into) =
    search rules in (
      omega (arith, n, inv.0),
      inv.1,
      omega (arith, length-append c.read.new.into (drop c.min-n.result c.loop-done.chunk), length-drop c.min-n.result c.loop-done.chunk, size, n, inv.2),
      search rules,
      search rules,
      read-more v0 v w c.args.sent.now.loan c.loop-done.done c.read.new.into inv.5 c.read.ensures.reads.view,
      λ lending same known out. subst (λ k. Gained first after (IsReadTo v0.taken w.reads lending (c.loop-done.done + k))) size
          (one-more-at v0.taken first before after v w inv.3.common.apart c.args.sent.now.loan c.loop-done.done c.read.new.into c.read.ensures.reads.copied
          c.read.ensures.reads.view lending same (still-out v0 v (lent_piece v0.taken lending) inv.5 out) known (inv.6 lending same known out) fits added),
      λ other away. Keeps-trans _ _ _ (inv.7 other away) (others other away),
      search rules,
      search rules,
      search rules,
      search rules,
      omega (arith, counted, inv.12, size),
    )

pub returns-clause-carries : goal.returns-clause-carries
returns-clause-carries g c =
    let v0 : AppView = g.F.AppFace.seen c.args.stream.now.face in
    let v : AppView = g.F.AppFace.seen c.loop-done.stream.face in
    let inv = c.loop-done.invariant in
    record {
      only = inv.5;
      counted = search rules;
      gained = λ lending same known out. Gained-weaker _ _ (IsReadTo v0.taken v.reads lending c.loop-done.done)
          (IsReadOf v0.taken v.reads lending c.loop-done.done c.args.sent.now.loan.len)
          (λ bytes is. read-of v0.taken v.reads lending c.loop-done.done c.args.sent.now.loan.len bytes (omega (arith, inv.0, inv.1)) is)
          (inv.6 lending same known out);
      others = inv.7;
      later = search rules;
      still = λ all. inv.8;
      cause = search rules;
      appended = search rules;
      pace = inv.11;
    }
