use Rattle.board_face.specs.{declared.views.app.{TakenNote.{TakenNote}, AppView.{AppView}}, AppEvents.{has_read}}
use Rattle.std.{proofs.Common.{rules, List, ◌≡◌, ℕ, ◌+◌, ◌-◌, ◌≤◌, length, take, drop, length-append, refl, subst, arith, min}, specs.Io.KnownBytes.{Appends}}
use Rattle.std.proofs.{KnownBytes.{Keeps-trans}, lemmas.List.{length-drop}}
use Rattle.zr_io.specs.Moved.{Gained}
use Rattle.flow_queues.{specs.{declared.queues.Lending.{Lending}, Core.{IsIn, LieApart, lent_piece}}, proofs.Tokens.{in-contains}}
use Rattle.flow_queues.proofs.ReadLemmas.{IsReadTo, still-apart, still-out, only-then, only-read, one-more, some-more}
use Rattle.app_worker.{specs.ReadWhole.{IsReadUpTo}, proofs.ReadWhole.{read-on}}
use Rattle.app_worker.proofs.reading.read_loan.Goals as goal

pub read-requires-clause-out : goal.read-requires-clause-out
read-requires-clause-out g c =
    let l : Lending = c.args.lending.now in
    let v : AppView = g.F.AppFace.seen c.loop-done.face in
    let taken : List TakenNote = (g.F.AppFace.seen c.args.face.now).taken in
    in-contains (λ l. l.place) (lent_piece taken l) v.loans
    (still-out (g.F.AppFace.seen c.args.face.now) v (lent_piece taken l) c.loop-done.invariant.4 c.requires.may.out)

pub returns-in_err-append-clause-reads : goal.returns-in_err-append-clause-reads
returns-in_err-append-clause-reads g c =
    let v : AppView = g.F.AppFace.seen c.loop-done.face in
    record {
      only = rw c.read.ensures.view (only-then (g.F.AppFace.seen c.args.face.now) v
          (has_read v c.args.lending.now.loan c.loop-done.done c.read.new.into) c.loop-done.invariant.4
          (only-read v c.args.lending.now c.loop-done.done c.read.new.into));
      through = search rules;
    }

pub returns-in_err-append-clause-kept : goal.returns-in_err-append-clause-kept
returns-in_err-append-clause-kept g c =
    let l : Lending = c.args.lending.now in
    let v0 : AppView = g.F.AppFace.seen c.args.face.now in
    let v : AppView = g.F.AppFace.seen c.loop-done.face in
    let inv = c.loop-done.invariant in
    let lie : LieApart v = still-apart v0 v inv.4 c.requires.may.apart in
    let taken : List TakenNote = v0.taken in
    let out : IsIn (lent_piece taken l) v.loans = still-out v0 v (lent_piece taken l) inv.4 c.requires.may.out in
    let first = g.T.Shelf.kept c.args.shelf.now c.args.flow in
    let before = g.T.Shelf.kept c.loop-done.shelf c.args.flow in
    let after = g.T.Shelf.kept c.append.new.self c.args.flow in
    let size : length c.read.new.into ≡ c.min-n.result = search rules in
    let n : c.min-n.result ≡ min (c.args.most - c.loop-done.done) 4096 = search rules in
    let fits : c.loop-done.done + length c.read.new.into ≤ c.args.most = omega (arith, size, n, inv.0, inv.1) in
    let added : (n : ℕ) × Appends before after (take n c.read.new.into) = c.in_err-append.ensures.bytes in
    let done : c.loop-done.bytes - c.args.bytes.now ≡ c.loop-done.done = omega (arith, inv.2) in
    record {
      gained = rw (c.read.ensures.view, done) (some-more taken first before after v lie l c.loop-done.done c.args.most added.0 c.read.new.into c.read.new.into out
          c.requires.may.note c.read.ensures.copied c.requires.part fits (omega (arith, size, n)) refl inv.5 added.1);
      exact = search rules;
      others = λ other away. Keeps-trans _ _ _ (inv.6 other away) (c.append.ensures.others other away);
    }

pub loop-done-preserved : goal.loop-done-preserved
loop-done-preserved g c =
    let l : Lending = c.args.lending.now in
    let v0 : AppView = g.F.AppFace.seen c.args.face.now in
    let v : AppView = g.F.AppFace.seen c.loop-done.face in
    let inv = c.loop-done.invariant in
    let lie : LieApart v = still-apart v0 v inv.4 c.requires.may.apart in
    let taken : List TakenNote = v0.taken in
    let out : IsIn (lent_piece taken l) v.loans = still-out v0 v (lent_piece taken l) inv.4 c.requires.may.out in
    let first = g.T.Shelf.kept c.args.shelf.now c.args.flow in
    let before = g.T.Shelf.kept c.loop-done.shelf c.args.flow in
    let after = g.T.Shelf.kept c.append.new.self c.args.flow in
    let size : length c.read.new.into ≡ c.min-n.result = search rules in
    let n : c.min-n.result ≡ min (c.args.most - c.loop-done.done) 4096 = search rules in
    let from : c.from.result ≡ c.min-n.result = search rules in
    let added : Appends before after c.read.new.into = c.in_ok-append.ensures.bytes in
    let w : AppView = has_read v l.loan c.loop-done.done c.read.new.into in
    rw c.read.ensures.view (
      inv.0,
      omega (arith, n, inv.0, inv.1),
      omega (arith, inv.2, from),
      omega (arith, length-append c.read.new.into (drop c.min-n.result c.loop-done.chunk), length-drop c.min-n.result c.loop-done.chunk, size, n, inv.3),
      only-then v0 v w inv.4 (only-read v l c.loop-done.done c.read.new.into),
      subst (λ k. Gained first after (IsReadTo taken w.reads l (c.loop-done.done + k))) size
          (one-more taken first before after v lie l c.loop-done.done c.read.new.into c.read.new.into out c.requires.may.note c.read.ensures.copied
          (omega (arith, size, n, inv.0, inv.1)) refl inv.5 added),
      λ other away. Keeps-trans _ _ _ (inv.6 other away) (c.append.ensures.others other away),
      search rules,
      search rules,
      subst (λ k. IsReadUpTo w.reads (lent_piece taken l) (c.loop-done.done + k)) size
          (read-on taken v lie l c.loop-done.done c.read.new.into out c.read.ensures.copied inv.9),
      omega (arith, c.in_ok-append.ensures.counted, inv.10, size),
    )

pub returns-clause-reads : goal.returns-clause-reads
returns-clause-reads g c = record {
  only = c.loop-done.invariant.4;
  through = λ byte below. c.loop-done.invariant.9 byte (omega (arith, below, c.loop-done.invariant.0));
}

pub returns-in_err-append-clause-counts : goal.returns-in_err-append-clause-counts
returns-in_err-append-clause-counts g c = record { cause = search rules; appended = search rules }

pub returns-clause-counts : goal.returns-clause-counts
returns-clause-counts g c = record { cause = search rules; appended = search rules }
