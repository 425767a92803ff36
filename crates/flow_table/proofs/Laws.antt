-- What the definitions say of a list of segments that goes on: each part goes on from where the one before ended.
use Rattle.std.proofs.Common.{◌≡◌, ℕ, suc, ◌+◌, List, [], ◌∷◌, ◌++◌, length, Option, refl, sym, ap, ◌∙◌, arith, append_assoc, option_to_list, if◌then◌else◌, ◌==◌}
use Rattle.std.specs.List.{list_any}
use Rattle.frame_headers.specs.FrameClass.{TcpSegment}
use Rattle.zr_kinds.specs.CopyingReceiver.{Placed, received}
use Rattle.flow_table.specs.{Steered.{SteeredTcp, steer, steered_from, first_byte}, CountedPart.{FlowClose, closed_by, counted_part}}
use Rattle.flow_table.specs.{Flows.{Flow, number_of_flow, flows_with, flows_after, of_flow_after}, Stream.{received_all}}

pub steered_from-append : (ports : List ℕ) (k : ℕ) (xs ys : List (Option TcpSegment))
    → steered_from ports k (xs ++ ys) ≡ steered_from ports k xs ++ steered_from ports (k + length xs) ys
steered_from-append ports k [] ys = ap (λ n. steered_from ports n ys) (omega arith)
steered_from-append ports k (x ∷ xs) ys =
    let here : List SteeredTcp = option_to_list (steer ports k x) in
    let later : steered_from ports (suc k) (xs ++ ys) ≡ steered_from ports (suc k) xs ++ steered_from ports (k + suc (length xs)) ys =
    steered_from-append ports (suc k) xs ys ∙ ap (λ n. steered_from ports (suc k) xs ++ steered_from ports n ys) (omega arith) in
    ap (λ others. here ++ others) later ∙ sym (append_assoc here (steered_from ports (suc k) xs) (steered_from ports (k + suc (length xs)) ys))

pub flows_after-append : (flows : List Flow) (xs ys : List SteeredTcp) → flows_after flows (xs ++ ys) ≡ flows_after (flows_after flows xs) ys
flows_after-append flows [] ys = refl
flows_after-append flows (x ∷ xs) ys = flows_after-append (flows_with flows x) xs ys

pub of_flow_after-append : (n : ℕ) (flows : List Flow) (xs ys : List SteeredTcp)
    → of_flow_after n flows (xs ++ ys) ≡ of_flow_after n flows xs ++ of_flow_after n (flows_after flows xs) ys
of_flow_after-append n flows [] ys = refl
of_flow_after-append n flows (x ∷ xs) ys =
    let here : List SteeredTcp = if number_of_flow flows x == n then x ∷ [] else [] in
    let after : List Flow = flows_with flows x in
    ap (λ others. here ++ others) (of_flow_after-append n after xs ys)
    ∙ sym (append_assoc here (of_flow_after n after xs) (of_flow_after n (flows_after after xs) ys))

-- how a flow is closed behind segments of it
abbrev pub closed_after : FlowClose → List SteeredTcp → FlowClose
closed_after close [] = close
closed_after close (steered ∷ others) = closed_after (closed_by close steered.segment) others

pub received_all-append : (base : ℕ) (left_out : List ℕ) (close : FlowClose) (placed : Placed ℕ) (xs ys : List SteeredTcp)
    → received_all base left_out close placed (xs ++ ys) ≡ received_all base left_out (closed_after close xs)
    (received_all base left_out close placed xs) ys
received_all-append base left_out close placed [] ys = refl
received_all-append base left_out close placed (x ∷ xs) ys =
    let after : FlowClose = closed_by close x.segment in
    received_all-append base left_out after
    (if list_any (λ number. number == x.record_number) left_out then
    placed else received base placed (first_byte x.segment) (counted_part after x.segment))
    xs ys
