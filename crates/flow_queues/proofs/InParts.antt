-- A frame that is received piece by piece, each judged anew, is received as a whole: what `tcp_reorder` proves of parts, of marks.
use Rattle.std.proofs.Common.{◌≡◌, ℕ, ◌+◌, ◌^◌, ◌≤◌, List, ◌++◌, length, subst, ◌∙◌, arith}
use Rattle.zr_kinds.specs.CopyingReceiver.{Placed, received_part}
pub use Rattle.tcp_reorder.specs.Parts.{IsReceived, AreSame}
use Rattle.tcp_reorder.{specs.Parts.{PartsMakeTheFrame}, proofs.InParts.{parts_make_the_frame}}
use Rattle.flow_queues.specs.Marks.{Mark}

pub parts : PartsMakeTheFrame Mark
parts = parts_make_the_frame Mark

-- where what came so far is the front of a frame, its next part makes a longer front
pub in_parts : (base seq total : ℕ) (placed later : Placed Mark) (xs ys : List Mark) → IsReceived placed → IsReceived later → total ≤ 2 ^ 30
    → length xs + length ys ≤ total → AreSame later (received_part base placed seq total 0 xs)
    → AreSame (received_part base later seq total (length xs) ys) (received_part base placed seq total 0 (xs ++ ys))
in_parts base seq total placed later xs ys is is_later few within same p =
    parts.alike base later _ seq total (length xs) ys is_later (parts.received base placed seq total 0 xs is (omega (arith, within))) same p
    ∙ (let at : 0 + length xs ≡ length xs = omega arith in
    subst (λ k. (received_part base (received_part base placed seq total 0 xs) seq total k ys).at p
    ≡ (received_part base placed seq total 0 (xs ++ ys)).at p) at (parts.joined base placed seq total 0 xs ys is few (omega (arith, within)) p))
