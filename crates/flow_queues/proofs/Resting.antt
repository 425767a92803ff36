-- Flows of which no piece is in order.
use Rattle.std.proofs.Common.{◌≡◌, ℕ, zero, suc, ◌<◌, ◌≤◌, subst, List, [], ◌∷◌, ◌++◌, length, set, get_or, slice_get, Some, arith}
use Rattle.flow_queues.specs.{declared.queues.FlowQueue.{FlowQueue}, Core.{Each}, Flows.{IsAtRest, RestBut}}

-- all are
pub rest-all : (i : ℕ) (fs : List FlowQueue) → Each IsAtRest fs → RestBut i fs
rest-all i [] all = tt
rest-all zero (f ∷ fs) all = all.1
rest-all (suc i) (f ∷ fs) all = (all.0, rest-all i fs all.1)

-- the active flow changed
pub rest-set : (i : ℕ) (fs : List FlowQueue) (x : FlowQueue) → RestBut i fs → RestBut i (set fs i x)
rest-set i [] x rest = tt
rest-set zero (f ∷ fs) x rest = rest
rest-set (suc i) (f ∷ fs) x rest = (rest.0, rest-set i fs x rest.1)

-- the active flow is too
pub rest-too : (i : ℕ) (fs : List FlowQueue) (own : FlowQueue) → i < length fs → RestBut i fs → get_or fs i own ≡ own → IsAtRest own
    → Each IsAtRest fs
rest-too i [] own within rest is at = tt
rest-too zero (f ∷ fs) own within rest is at = (let e : f ≡ own = is in rw e at, rest)
rest-too (suc i) (f ∷ fs) own within rest is at = (rest.0, rest-too i fs own (omega arith) rest.1 is at)

-- there is no active flow
pub rest-none : (i : ℕ) (fs : List FlowQueue) → length fs ≤ i → RestBut i fs → Each IsAtRest fs
rest-none i [] past rest = tt
rest-none zero (f ∷ fs) past rest = absurd (omega arith)
rest-none (suc i) (f ∷ fs) past rest = (rest.0, rest-none i fs (omega arith) rest.1)

-- the flow at a place is
pub rest-at : (i : ℕ) (fs : List FlowQueue) (f : FlowQueue) → Each IsAtRest fs → slice_get fs i ≡ Some f → IsAtRest f
rest-at i [] f all is = absurd (cc)
rest-at zero (g ∷ fs) f all is = (let same : g ≡ f = cc in subst IsAtRest same all.0)
rest-at (suc i) (g ∷ fs) f all is = rest-at i fs f all.1 is

-- a flow was put behind the others
pub rest-push : (fs : List FlowQueue) (x : FlowQueue) → Each IsAtRest fs → RestBut (length fs) (fs ++ x ∷ [])
rest-push [] x all = tt
rest-push (f ∷ fs) x all = (all.0, rest-push fs x all.1)

-- a flow changed, and not its queue
pub each-same : (k : ℕ) (fs : List FlowQueue) (own x : FlowQueue) → k < length fs → get_or fs k own ≡ own → x.queue ≡ own.queue → Each IsAtRest fs
    → Each IsAtRest (set fs k x)
each-same k [] own x within is same all = tt
each-same zero (f ∷ fs) own x within is same all = (let e : f ≡ own = is in let at : IsAtRest own = subst IsAtRest e all.0 in rw same at, all.1)
each-same (suc k) (f ∷ fs) own x within is same all = (all.0, each-same k fs own x (omega arith) is same all.1)

pub rest-same : (i k : ℕ) (fs : List FlowQueue) (own x : FlowQueue) → k < length fs → get_or fs k own ≡ own → x.queue ≡ own.queue → RestBut i fs
    → RestBut i (set fs k x)
rest-same i k [] own x within is same rest = tt
rest-same zero zero (f ∷ fs) own x within is same rest = rest
rest-same zero (suc k) (f ∷ fs) own x within is same rest = each-same k fs own x (omega arith) is same rest
rest-same (suc i) zero (f ∷ fs) own x within is same rest = (let e : f ≡ own = is in let at : IsAtRest own = subst IsAtRest e rest.0 in rw same at, rest.1)
rest-same (suc i) (suc k) (f ∷ fs) own x within is same rest = (rest.0, rest-same i k fs own x (omega arith) is same rest.1)
