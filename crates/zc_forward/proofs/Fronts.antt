-- What the carrier got is a front of each flow's bytes, and the loans of the tags that are out are out.
use Rattle.std.proofs.{Common.{◌≡◌, ℕ, List, [], ◌∷◌, ◌++◌, length, take, drop, Option, refl, sym, ap, ◌∙◌, append_assoc, inl, inr}, lemmas.List.{take-append-drop}}
use Rattle.zr_kinds.specs.declared.behaviour.Stopped.TheVariants as stop
use Rattle.zr_io.{specs.Moved.{ShelfCounts}, proofs.Moved.{Gained-weaker}}
use Rattle.board_face.specs.{AppCalls.{HasLoan}, declared.views.app.AppView.{AppView}}
use Rattle.flow_queues.specs.{Marks.{Mark, FramesStandTogether, marks_of}, Core.{Each, IsIn}, Streams.{HasFronts, IsFront}, Ends.{bytes_written_of}}
use Rattle.zc_poll.{specs.{Standing.{Desk}, Items.{marks_given}, Pouring.{IsPoured}}, proofs.Whole.{items-front}}
use Rattle.zc_forward.{specs.{declared.sent.Sent.{Sent}, Tags.{Tags}, Sending.{AreLoans, OutboxState}, Forwarding.{ForwardStands}}, proofs.Live.{has-out}}
use Rattle.zc_forward.proofs.Forwards.{sent-out}

pub front-of : (first got : ℕ → Option (List ℕ)) (losses now : ShelfCounts) (w : OutboxState) (st : Desk) (tags : Tags) (v : AppView)
    → ForwardStands first losses w st tags got now v → FramesStandTogether v.taken → HasFronts first got v
front-of first got losses now w st tags v before whole n =
    let marks : List Mark = marks_given n before.items in
    let (rest, parts) = items-front st.flows v.taken before.items before.stands.common.found before.poured.given whole n in
    Gained-weaker (first n) (got n) (IsPoured ((w.tally.stopped ≡ stop.Write) × (n ≡ before.torn)) v marks (bytes_written_of n w.tally.counts))
    (IsFront v.taken v.reads (marks_of n v.taken))
    (λ bytes is. record {
      read = take (length bytes) marks;
      rest = drop (length bytes) marks ++ rest;
      parts = parts ∙ ap (λ ms. ms ++ rest) (sym (take-append-drop (length bytes) marks)) ∙ append_assoc (take (length bytes) marks) (drop (length bytes) marks) rest;
      are = is.are;
    })
    (before.poured.shelved n)

pub all-out : (w : OutboxState) (v : AppView) → AreLoans w v.loans → (out : List Sent) → ((s : Sent) → IsIn s out → IsIn s w.out)
    → Each (λ s. HasLoan v s.loan) out
all-out w v are [] within = tt
all-out w v are (s ∷ out) within =
    (has-out v s.loan (sent-out w v.loans s are (within s (inl refl))), all-out w v are out (λ x there. within x (inr there)))
