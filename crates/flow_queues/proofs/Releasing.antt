-- Pieces are given up, one by one.
use Rattle.std.proofs.Common.{◌≡◌, ℕ, zero, suc, ◌+◌, ◌<◌, ◌≤◌, List, [], ◌∷◌, map, take, length, set, get_or, refl, ap, ◌∙◌, arith}
use Rattle.tcp_reorder.specs.{declared.places.Span.{Span}, Queue.{Queue}, Gaps.{LosesFirst}}
use Rattle.board_face.specs.{AppEvents.{released}, declared.views.app.{HeldPiece.{HeldPiece}, AppView.{AppView}}}
use Rattle.flow_queues.specs.{declared.queues.{Waiting.{Waiting, TheVariants.{InArea, Copied}}, FlowQueue.{FlowQueue}}, Core.{total, Each, held_piece, over_kept}}
use Rattle.flow_queues.{specs.{Pieces.{OnlyHelds, IsOut, given_back}, Flows.{FlowFacts, facts_of}}, proofs.{Tokens.{is-released}, Lends.{over-first}}}

-- ---- lists

pub total-none : {A : Type 0} (xs : List A) → total (λ _. 1) xs ≡ 0 → xs ≡ []
total-none [] none = refl
total-none (x ∷ xs) none = absurd (omega (arith, none))

pub total-zero : {A : Type 0} (f : A → ℕ) (xs : List A) → ((x : A) → f x ≡ 0) → total f xs ≡ 0
total-zero f [] zeros = refl
total-zero f (x ∷ xs) zeros = omega (arith, zeros x, total-zero f xs zeros)

pub map-set : {A B : Type 0} (f : A → B) (xs : List A) (i : ℕ) (own now : A) → i < length xs → own ≡ get_or xs i own → f now ≡ f own
    → map f (set xs i now) ≡ map f xs
map-set f [] i own now within value same = refl
map-set f (x ∷ xs) zero own now within value same = ap (λ y. y ∷ map f xs) (same ∙ ap f value)
map-set f (x ∷ xs) (suc i) own now within value same = ap (λ ys. f x ∷ ys) (map-set f xs i own now (omega arith) value same)

pub total-take-set : {A : Type 0} (h : A → ℕ) (xs : List A) (i : ℕ) (x : A) → i < length xs
    → total h (take (i + 1) (set xs i x)) ≡ total h (take i xs) + h x
total-take-set h [] i x within = absurd (omega arith)
total-take-set h (y ∷ ys) zero x within = omega arith
total-take-set h (y ∷ ys) (suc i) x within = let e : suc i + 1 ≡ suc (i + 1) = omega arith in rw e (omega (arith, total-take-set h ys i x (omega arith)))

pub length-set-same : {A : Type 0} (xs : List A) (i : ℕ) (x : A) → length (set xs i x) ≡ length xs
length-set-same [] i x = refl
length-set-same (y ∷ ys) zero x = refl
length-set-same (y ∷ ys) (suc i) x = ap suc (length-set-same ys i x)

pub total-take-all : {A : Type 0} (h : A → ℕ) (xs : List A) (i : ℕ) → length xs ≤ i → total h (take i xs) ≡ total h xs
total-take-all h [] zero past = refl
total-take-all h [] (suc i) past = refl
total-take-all h (x ∷ xs) zero past = absurd (omega arith)
total-take-all h (x ∷ xs) (suc i) past = omega (arith, total-take-all h xs i (omega arith))

-- what is said by the facts of a flow stays where these are the same
pub each-facts : (P Q : FlowQueue → Type 0) → ((f g : FlowQueue) → facts_of g ≡ facts_of f → P f → Q g) → (xs ys : List FlowQueue)
    → map facts_of ys ≡ map facts_of xs → Each P xs → Each Q ys
each-facts P Q step [] [] same each = tt
each-facts P Q step [] (y ∷ ys) same each = absurd (cc)
each-facts P Q step (x ∷ xs) [] same each = absurd (cc)
each-facts P Q step (x ∷ xs) (y ∷ ys) same each =
    let head : facts_of y ≡ facts_of x = cc in
    let tail : map facts_of ys ≡ map facts_of xs = cc in
    (step x y head each.0, each-facts P Q step xs ys tail each.1)

pub total-facts : (h : FlowFacts → ℕ) (xs ys : List FlowQueue) → map facts_of ys ≡ map facts_of xs
    → total (λ f. h (facts_of f)) ys ≡ total (λ f. h (facts_of f)) xs
total-facts h [] [] same = refl
total-facts h [] (y ∷ ys) same = absurd (cc)
total-facts h (x ∷ xs) [] same = absurd (cc)
total-facts h (x ∷ xs) (y ∷ ys) same =
    let head : facts_of y ≡ facts_of x = cc in
    let tail : map facts_of ys ≡ map facts_of xs = cc in
    omega (arith, ap h head, total-facts h xs ys tail)

-- ---- pieces

pub released-one : (u v : AppView) (gone : (HeldPiece → ℕ) → ℕ) (now then : Queue Waiting) (piece : Waiting) (span : Span)
    → LosesFirst now then piece span → IsOut v piece
    → OnlyHelds u v gone (λ f. over_kept f now) → OnlyHelds u (given_back v piece) gone (λ f. over_kept f then)
released-one u v gone now then (Copied s) span loses out only =
    record { view = only.view; apart = only.apart; moved = λ f. omega (arith, only.moved f, over-first f now then (Copied s) span loses) }
released-one u v gone now then (InArea piece) span loses out only =
    let step = is-released v only.apart (held_piece piece) out in
    record {
      view = ap (λ (x : AppView). released x piece.held) refl ∙ (rw only.view refl);
      apart = step.apart;
      moved = λ f. omega (arith, only.moved f, step.moved f, over-first f now then (InArea piece) span loses);
    }
