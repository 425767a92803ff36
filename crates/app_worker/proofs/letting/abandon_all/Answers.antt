use Rattle.std.proofs.Common.{rules, ◌≡◌, ℕ, ◌+◌, List, ◌∷◌, drop, refl, subst, ap, ◌∙◌}
use Rattle.zr_kinds.specs.declared.ring.Completion.{Completion}
use Rattle.circular_buffer.specs.Buffer.{Buffer}
use Rattle.board_face.specs.declared.views.app.{LentPiece.{LentPiece}, AppView.{AppView}}
use Rattle.flow_queues.{specs.{declared.queues.Lending.{Lending}, Core.{lent_piece, total}}, proofs.Tokens.{in-contains}}
use Rattle.app_worker.proofs.{Oldest.{front-of}, LetGone.{AbandonsSome, abandons-none, abandons-one, first-lent}}
use Rattle.app_worker.proofs.letting.abandon_all.Goals as goal

pub loop-lending-init : goal.loop-lending-init
loop-lending-init g c = (
  abandons-none (g.F.AppFace.seen c.args.face.now) c.requires.apart
      (λ f. total (λ p. f (lent_piece (g.F.AppFace.seen c.args.face.now).taken p.1)) c.args.unread.now.items),
  refl,
  refl,
)

pub abandon-requires-clause-out : goal.abandon-requires-clause-out
abandon-requires-clause-out g c =
    let u : AppView = g.F.AppFace.seen c.args.face.now in
    let v : AppView = g.F.AppFace.seen c.loop-lending.face in
    let l : Lending = c.in-Some.lending in
    let xs : List (Completion × Lending) = c.loop-lending.unread.items in
    let p : Completion × Lending = (c.in-Some.field-0-0, l) in
    let unread : xs ≡ p ∷ drop 1 xs = front-of xs p (search rules) in
    let all : (LentPiece → ℕ) → ℕ = λ f. total (λ p. f (lent_piece u.taken p.1)) c.args.unread.now.items in
    let some : AbandonsSome u v all (λ f. f (lent_piece u.taken l) + total (λ p. f (lent_piece u.taken p.1)) (drop 1 xs)) = subst
    (λ ys. AbandonsSome u v all (λ f. total (λ p. f (lent_piece u.taken p.1)) ys)) unread c.loop-lending.invariant.0 in
    in-contains (λ l. l.place)
    (lent_piece u.taken l) v.loans (first-lent u v all (λ f. total (λ p. f (lent_piece u.taken p.1)) (drop 1 xs)) u.taken l c.requires.out some)

pub loop-lending-preserved : goal.loop-lending-preserved
loop-lending-preserved g c =
    let u : AppView = g.F.AppFace.seen c.args.face.now in
    let v : AppView = g.F.AppFace.seen c.loop-lending.face in
    let l : Lending = c.in-Some.lending in
    let xs : List (Completion × Lending) = c.loop-lending.unread.items in
    let p : Completion × Lending = (c.in-Some.field-0-0, l) in
    let unread : xs ≡ p ∷ drop 1 xs = front-of xs p (search rules) in
    let all : (LentPiece → ℕ) → ℕ = λ f. total (λ p. f (lent_piece u.taken p.1)) c.args.unread.now.items in
    let left : (LentPiece → ℕ) → ℕ = λ f. total (λ p. f (lent_piece u.taken p.1)) (drop 1 xs) in
    let some : AbandonsSome u v all (λ f. f (lent_piece u.taken l) + left f) = subst
    (λ ys. AbandonsSome u v all (λ f. total (λ p. f (lent_piece u.taken p.1)) ys)) unread c.loop-lending.invariant.0 in
    let items : c.pop_front.new.self.items ≡ drop 1 xs = ap (λ (b : Buffer (Completion × Lending)). b.items) c.pop_front.ensures.items in
    let capacity : c.pop_front.new.self.capacity ≡ c.loop-lending.unread.capacity = ap
    (λ (b : Buffer (Completion × Lending)). b.capacity) c.pop_front.ensures.items in
    rw (c.abandon.ensures.view, items) (
      abandons-one u v all left u.taken l (first-lent u v all left u.taken l c.requires.out some) some,
      capacity
          ∙ c.loop-lending.invariant.1,
      search rules,
    )
