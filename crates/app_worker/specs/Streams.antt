-- How much the shelf has of a flow.
use Rattle.std.specs.Prelude.{◌≡◌, ℕ, List, length, Option}
use Rattle.zr_io.specs.Moved.{Gained}
use Rattle.flow_queues.specs.declared.queues.FlowQueue.{FlowQueue}
use Rattle.app_worker.specs.Kept.{flow_bytes}

-- since `first`, each flow gained as many bytes as are counted
abbrev pub HasCounted : (ℕ → Option (List ℕ)) → (ℕ → Option (List ℕ)) → List FlowQueue → Type 0
HasCounted first kept flows = (flow : ℕ) → Gained (first flow) (kept flow) (λ bytes. length bytes ≡ flow_bytes flow flows)
