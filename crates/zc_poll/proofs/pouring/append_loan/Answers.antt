use Rattle.std.{proofs.Common.{rules, ◌≡◌, ℕ, ◌+◌, ◌-◌, ◌≤◌, length, take, drop, length-append, subst, arith, min}, specs.Io.KnownBytes.{Appends}}
use Rattle.std.proofs.{KnownBytes.{Keeps-trans}, lemmas.List.{length-drop}}
use Rattle.zr_io.{specs.Moved.{Gained, raised_by}, proofs.Moved.{Gained-weaker}}
use Rattle.board_face.specs.declared.views.app.AppView.{AppView}
use Rattle.flow_queues.{proofs.ReadLemmas.{IsReadTo, read-of, still-out}, specs.Core.{IsReadOf, lent_piece}}
use Rattle.zc_poll.proofs.Appending.{read-more, one-more-at, some-more-at}
use Rattle.zc_poll.proofs.pouring.append_loan.Goals as goal

pub returns-then-is_err-clause-only : goal.returns-then-is_err-clause-only
returns-then-is_err-clause-only g c =
    read-more (g.F.AppFace.seen c.args.stream.now.face) (g.F.AppFace.seen c.loop-done.stream.face) (g.F.AppFace.seen c.read.new.self.face)
    c.args.loan.now c.loop-done.done c.read.new.into c.loop-done.invariant.5 c.read.ensures.reads.view

pub returns-then-is_err-clause-gains : goal.returns-then-is_err-clause-gains
returns-then-is_err-clause-gains g c =
    let v0 : AppView = g.F.AppFace.seen c.args.stream.now.face in
    let v : AppView = g.F.AppFace.seen c.loop-done.stream.face in
    let w : AppView = g.F.AppFace.seen c.read.new.self.face in
    let inv = c.loop-done.invariant in
    let first = g.T.Shelf.kept c.args.shelf.now c.args.flow in
    let before = g.T.Shelf.kept c.loop-done.shelf c.args.flow in
    let after = g.T.Shelf.kept c.append.new.self c.args.flow in
    let size : length c.read.new.into ≡ c.min-n.result = search rules in
    let n : c.min-n.result ≡ min (c.args.loan.now.len - c.loop-done.done) 4096 = search rules in
    let fits : c.loop-done.done + length c.read.new.into ≤ c.args.loan.now.len = omega (arith, size, n, inv.0, inv.1) in
    let added : (n : ℕ) × Appends before after (take n c.read.new.into) = search rules in
    record {
      gained = λ lending same known out.
          some-more-at v0.taken first before after v w inv.3.common.apart c.args.loan.now c.loop-done.done c.read.new.into c.read.ensures.reads.copied
          c.read.ensures.reads.view lending same (still-out v0 v (lent_piece v0.taken lending) inv.5 out) known (inv.6 lending same known out) added.0 fits
          (omega (arith, size, n)) added.1;
      others = λ other away. Keeps-trans _ _ _ (inv.7 other away) (c.append.ensures.others other away);
    }

pub loop-done-preserved : goal.loop-done-preserved
loop-done-preserved g c =
    let v0 : AppView = g.F.AppFace.seen c.args.stream.now.face in
    let v : AppView = g.F.AppFace.seen c.loop-done.stream.face in
    let w : AppView = g.F.AppFace.seen c.read.new.self.face in
    let inv = c.loop-done.invariant in
    let first = g.T.Shelf.kept c.args.shelf.now c.args.flow in
    let before = g.T.Shelf.kept c.loop-done.shelf c.args.flow in
    let after = g.T.Shelf.kept c.append.new.self c.args.flow in
    let size : length c.read.new.into ≡ c.min-n.result = search rules in
    let n : c.min-n.result ≡ min (c.args.loan.now.len - c.loop-done.done) 4096 = search rules in
    let fits : c.loop-done.done + length c.read.new.into ≤ c.args.loan.now.len = omega (arith, size, n, inv.0, inv.1) in
    let added : Appends before after c.read.new.into = search rules in
    let counted : (g.T.Shelf.counts c.append.new.self).appended ≡ raised_by (g.T.Shelf.counts c.loop-done.shelf).appended (length c.read.new.into) =
    search rules in (
      omega (arith, n, inv.0),
      inv.1,
      omega (arith, length-append c.read.new.into (drop c.min-n.result c.loop-done.chunk), length-drop c.min-n.result c.loop-done.chunk, size, n, inv.2),
      search rules,
      search rules,
      read-more v0 v w c.args.loan.now c.loop-done.done c.read.new.into inv.5 c.read.ensures.reads.view,
      λ lending same known out. subst (λ k. Gained first after (IsReadTo v0.taken w.reads lending (c.loop-done.done + k))) size
          (one-more-at v0.taken first before after v w inv.3.common.apart c.args.loan.now c.loop-done.done c.read.new.into c.read.ensures.reads.copied
          c.read.ensures.reads.view lending same (still-out v0 v (lent_piece v0.taken lending) inv.5 out) known (inv.6 lending same known out) fits added),
      λ other away. Keeps-trans _ _ _ (inv.7 other away) (c.append.ensures.others other away),
      search rules,
      search rules,
      omega (arith, counted, inv.10, size),
    )

pub returns-clause-gains : goal.returns-clause-gains
returns-clause-gains g c =
    let v0 : AppView = g.F.AppFace.seen c.args.stream.now.face in
    let v : AppView = g.F.AppFace.seen c.loop-done.stream.face in
    let inv = c.loop-done.invariant in
    record {
      gained = λ lending same known out. Gained-weaker _ _ (IsReadTo v0.taken v.reads lending c.loop-done.done)
          (IsReadOf v0.taken v.reads lending c.loop-done.done c.args.loan.now.len)
          (λ bytes is. read-of v0.taken v.reads lending c.loop-done.done c.args.loan.now.len bytes (omega (arith, inv.0, inv.1)) is)
          (inv.6 lending same known out);
      others = inv.7;
    }
