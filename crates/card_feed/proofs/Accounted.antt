-- The stream of a flow, without the frames that are left out, by the frames that were offered.
use Rattle.std.proofs.Common.{◌≡◌, ℕ, suc, ◌+◌, ◌^◌, List, [], ◌∷◌, ◌++◌, length, map, filter, append_assoc, length-append, refl}
use Rattle.std.proofs.Common.{sym, ap, subst, ◌∙◌, ⊎_elim, arith, Bool, true, false, not, nat_lt, if◌then◌else◌, ◌==◌, Option, Some, None, option_map}
use Rattle.std.{proofs.lemmas.{List.{map-id}, Bool.{eqb-true, eqb-false, ne_eqb, cases_Bool, true≢false}}, specs.{Prelude.{All}, List.{list_any, slice_get}}}
use Rattle.zr_kinds.specs.CopyingReceiver.{Placed, nothing_placed, next_missing, lead, accepts, brought, first_of, filled_by_values, received, front_of}
use Rattle.zr_kinds.proofs.{InOrder.{first_of-nothing}, LeastMissing.{IsBounded-nothing}, Mapped.{MapsPlaced, received-map, front_of-map}}
use Rattle.board_face.specs.{declared.views.{nic.SentNote.{SentNote}, app.AppView.{AppView}}, Relay.{as_taken, IsAsSent}}
use Rattle.flow_table.specs.{Steered.{SteeredTcp, first_byte}, CountedPart.{FlowClose, not_closed, closed_by, counted_part}}
use Rattle.flow_table.specs.{Flows.{Flow, flows_of, flows_with, number_of_flow, of_flow_after}, Stream.{received_all, stream_of}}
use Rattle.flow_table.proofs.Closes.{close_or, flows_with-close}
use Rattle.app_worker.specs.Marks.{base_of, marks_of}
use Rattle.page_pool.specs.Frames.{Offered, ShowFrames}
use Rattle.flow_queues.specs.Streams.{IsFront}
use Rattle.card_feed.specs.Offered.{close_of, offered_one, offered_after, has_payload, offers_without}
use Rattle.card_feed.proofs.NotesShown.{AreOf, IsShownBy, is_shown, passed, of_flow-mine, flow_notes, HaveBytes, Ascend}
use Rattle.card_feed.proofs.MarksStreamed.{received_offered, front_streamed}

abbrev pub IsLike : Placed ℕ → Placed ℕ → Type 0
IsLike one other = MapsPlaced (λ (x : ℕ). x) one other

received-like : (base s : ℕ) (one other : Placed ℕ) (values : List ℕ) → IsLike one other → IsLike (received base one s values)
    (received base other s values)
received-like base s one other values like = subst (λ bs. IsLike (received base one s values) (received base other s bs)) (map-id values)
    (received-map (λ (x : ℕ). x) base one other s values like)

nothing_brought : (from p : ℕ) → brought {A = ℕ} [] from p ≡ None
nothing_brought from p = ⊎_elim
    (λ (before : nat_lt (p + 2 ^ 31) from ≡ true). rw before refl)
    (λ (behind : nat_lt (p + 2 ^ 31) from ≡ false). rw behind refl)
    (cases_Bool (nat_lt (p + 2 ^ 31) from))

-- a frame without payload changes nothing that stands
nothing_if : (b : Bool) (one other : Placed ℕ) (from : ℕ) → IsLike one other → IsLike (if b then filled_by_values one from [] else one) other
nothing_if true one other from like = record {
  at = λ p. like.at p ∙ ap (option_map (λ (x : ℕ). x)) (sym (ap (first_of (one.at p)) (nothing_brought from p) ∙ first_of-nothing (one.at p)));
  bounded = record {
    past = λ p past. ap (first_of (one.at p)) (nothing_brought from p) ∙ first_of-nothing (one.at p) ∙ like.bounded.past p
        (omega (arith, past));
  };
  mapped_bounded = like.mapped_bounded;
}
nothing_if false one other from like = like

received-nothing : (base s : ℕ) (one other : Placed ℕ) → IsLike one other → IsLike (received base one s []) other
unfolding received
received-nothing base s one other like = nothing_if (accepts base (next_missing one) s 0) one other (next_missing one + lead base (next_missing one) s) like

no_bytes : (payload : List ℕ) → not (length payload == 0) ≡ false → payload ≡ []
no_bytes [] is = refl
no_bytes (b ∷ bs) is = let some : (length (b ∷ bs) == 0) ≡ false = ne_eqb (suc (length bs)) 0
    (λ (e : suc (length bs) ≡ 0). absurd (omega (arith, e))) in absurd (true≢false (rw some at is))

-- the frames of a flow among those that are offered and not left out
abbrev pub mine_of : ℕ → List ℕ → List Offered → List Offered
mine_of number left_out offered = filter (λ o. o.flow == number) (offers_without left_out (filter has_payload offered))

-- ---- how a flow was closed, so far

same_close : (found : Option Flow) → close_of found ≡ close_or found
same_close None = refl
same_close (Some flow) = refl

module _ (flows : List Flow) (s : SteeredTcp) (number : ℕ) where
  closed-by : (mine : Bool) → (number_of_flow flows s == number) ≡ mine
      → close_of (slice_get (flows_with flows s) number)
      ≡ (if mine then closed_by (close_of (slice_get flows number)) s.segment else close_of (slice_get flows number))
  closed-by mine is =
      same_close (slice_get (flows_with flows s) number) ∙ flows_with-close flows s number
      ∙ ap (λ c. if number_of_flow flows s == number then closed_by c s.segment else c) (sym (same_close (slice_get flows number)))
      ∙ ap (λ b. if b then closed_by (close_of (slice_get flows number)) s.segment else close_of (slice_get flows number)) is

  -- what is offered of it is what counts
  part-is : (close : FlowClose) → close ≡ close_of (slice_get flows number) → (number_of_flow flows s == number) ≡ true
      → (offered_one flows s).payload ≡ counted_part (closed_by close s.segment) s.segment
  part-is close is mine =
      ap (λ n. counted_part (close_of (slice_get (flows_with flows s) n)) s.segment) (eqb-true (number_of_flow flows s) number mine)
      ∙ ap (λ c. counted_part c s.segment) (closed-by true mine ∙ ap (λ c. closed_by c s.segment) (sym is))

-- ---- a flow's segments, and its frames among those that are offered

like_by : (a b c d : Placed ℕ) → a ≡ b → c ≡ d → IsLike b d → IsLike a c
like_by a b c d first second like = subst (λ x. IsLike x c) (sym first) (subst (IsLike b) (sym second) like)

module _ (left_out : List ℕ) (number base : ℕ) where
  abbrev is_out : ℕ → Bool
  is_out frame = list_any (λ n. n == frame) left_out

  -- a frame that isn't the flow's, is left out or has no payload, and another one
  of_another : (o : Offered) (os : List Offered) → (o.flow == number) ≡ false → mine_of number left_out (o ∷ os) ≡ mine_of number left_out os
  of_another o os others = ⊎_elim
      (λ (some : has_payload o ≡ true). ⊎_elim
      (λ (out : is_out o.frame ≡ true). rw (some, out) refl)
      (λ (stays : is_out o.frame ≡ false). rw (some, stays, others) refl)
      (cases_Bool (is_out o.frame)))
      (λ (none : has_payload o ≡ false). rw none refl)
      (cases_Bool (has_payload o))

  left : (o : Offered) (os : List Offered) → is_out o.frame ≡ true → mine_of number left_out (o ∷ os) ≡ mine_of number left_out os
  left o os out = ⊎_elim
      (λ (some : has_payload o ≡ true). rw (some, out) refl)
      (λ (none : has_payload o ≡ false). rw none refl)
      (cases_Bool (has_payload o))

  without_bytes : (o : Offered) (os : List Offered) → has_payload o ≡ false → mine_of number left_out (o ∷ os) ≡ mine_of number left_out os
  without_bytes o os none = rw none refl

  taken : (o : Offered) (os : List Offered) → (o.flow == number) ≡ true → is_out o.frame ≡ false → has_payload o ≡ true
      → mine_of number left_out (o ∷ os) ≡ o ∷ mine_of number left_out os
  taken o os mine stays some = rw (some, stays, mine) refl

  abbrev received_if : Bool → Placed ℕ → SteeredTcp → List ℕ → Placed ℕ
  received_if out placed s part = if out then placed else received base placed (first_byte s.segment) part

  -- the flow was closed so before these segments
  of_flow_like : (flows : List Flow) (close : FlowClose) (steered : List SteeredTcp) (one other : Placed ℕ) → close ≡ close_of (slice_get flows number)
      → IsLike one other
      → IsLike (received_all base left_out close one (of_flow_after number flows steered))
      (received_offered base other (mine_of number left_out (offered_after flows steered)))
  of_flow_like flows close [] one other is like = like
  of_flow_like flows close (s ∷ ss) one other is like =
      let after : List Flow = flows_with flows s in
      let o : Offered = offered_one flows s in
      let later : List Offered = offered_after after ss in
      let now : FlowClose = closed_by close s.segment in
      ⊎_elim
      (λ (mine : (number_of_flow flows s == number) ≡ true).
      let closes : now ≡ close_of (slice_get after number) = sym (closed-by flows s number true mine ∙ ap (λ c. closed_by c s.segment) (sym is)) in
      let part : o.payload ≡ counted_part now s.segment = part-is flows s number close is mine in
      let begins : received_all base left_out close one (of_flow_after number flows (s ∷ ss))
      ≡ received_all base left_out now (received_if (is_out s.record_number) one s o.payload) (of_flow_after number after ss) =
      rw (mine, part) refl in
      ⊎_elim
      (λ (out : is_out s.record_number ≡ true).
      like_by _ _ _ _
      (begins ∙ ap (λ b. received_all base left_out now (received_if b one s o.payload) (of_flow_after number after ss)) out)
      (ap (received_offered base other) (left o later out))
      (of_flow_like after now ss one other closes like))
      (λ (stays : is_out s.record_number ≡ false).
      let received_one = begins ∙ ap (λ b. received_all base left_out now (received_if b one s o.payload) (of_flow_after number after ss)) stays in
      ⊎_elim
      (λ (some : has_payload o ≡ true).
      like_by _ _ _ _ received_one (ap (received_offered base other) (taken o later mine stays some))
      (of_flow_like after now ss _ _ closes (received-like base o.seq one other o.payload like)))
      (λ (none : has_payload o ≡ false).
      like_by _ _ _ _ received_one (ap (received_offered base other) (without_bytes o later none))
      (of_flow_like after now ss _ other closes
      (subst (λ bs. IsLike (received base one o.seq bs) other) (sym (no_bytes o.payload none)) (received-nothing base o.seq one other like))))
      (cases_Bool (has_payload o)))
      (cases_Bool (is_out s.record_number)))
      (λ (others : (number_of_flow flows s == number) ≡ false).
      let begins : received_all base left_out close one (of_flow_after number flows (s ∷ ss))
      ≡ received_all base left_out close one (of_flow_after number after ss) = rw others refl in
      like_by _ _ _ _ begins (ap (received_offered base other) (of_another o later others))
      (of_flow_like after close ss one other
      (is ∙ sym (closed-by flows s number false others)) like))
      (cases_Bool (number_of_flow flows s == number))

-- ---- the base

same_first : {o p : Offered} {xs ys : List Offered} → p ∷ xs ≡ o ∷ ys → p ≡ o
same_first same = cc

first_base : (o : Offered) (mine rest all : List SentNote) (k : ℕ) → IsShownBy o k mine all → base_of (flow_notes o.flow k (mine ++ rest)) ≡ o.base
first_base o mine rest all k shown =
    let of_frame : AreOf o (shown.first ∷ shown.others) = rw shown.are at shown.of_frame in
    rw shown.are (ap base_of (of_flow-mine o shown.first k (shown.others ++ rest) of_frame.0) ∙ of_frame.0.base)

pub base_shown : (split flow : ℕ) (os : List Offered) (all before notes : List SentNote) → all ≡ before ++ notes → ShowFrames split os notes
    → HaveBytes os → (o : Offered) (later : List Offered)
    → filter (λ p. p.flow == flow) os ≡ o ∷ later → base_of (flow_notes flow (length before) notes) ≡ o.base
base_shown split flow [] all before notes is shows some o later first = absurd (grind (arith, ap length first))
base_shown split flow (p ∷ os) all before notes is shows some o later first =
    let mine : List SentNote = shows.0 in
    let rest : List SentNote = shows.1 in
    let parts : notes ≡ mine ++ rest = shows.2 in
    let is_here : all ≡ before ++ (mine ++ rest) = is ∙ ap (λ ns. before ++ ns) parts in
    let shown = is_shown split p before mine rest all is_here some.0 shows.3 in
    let is_later : all ≡ (before ++ mine) ++ rest = is_here ∙ sym (append_assoc before mine rest) in
    rw parts (⊎_elim
    (λ (is_mine : (p.flow == flow) ≡ true).
    let same : p.flow ≡ flow = eqb-true p.flow flow is_mine in
    let one : p ≡ o = same_first (rw is_mine at first) in
    subst (λ f. base_of (flow_notes f (length before) (mine ++ rest)) ≡ p.base) same (first_base p mine rest all (length before) shown) ∙ ap
    (λ (q : Offered). q.base) one)
    (λ (not_mine : (p.flow == flow) ≡ false).
    let later_first : filter (λ q. q.flow == flow) os ≡ o ∷ later = rw not_mine at first in
    rw (passed p flow mine rest (length before) shown.of_frame (λ same. eqb-false p.flow flow not_mine same))
    (rw (length-append before mine) at (base_shown split flow os all (before ++ mine) rest is_later shows.4 some.1 o later later_first)))
    (cases_Bool (p.flow == flow)))

-- ---- the stream

like_front : (one other : Placed ℕ) → IsLike one other → front_of other ≡ front_of one
like_front one other like = front_of-map (λ (x : ℕ). x) one other like ∙ map-id (front_of one)

nothing_like : IsLike nothing_placed nothing_placed
nothing_like = record { at = λ p. refl; bounded = IsBounded-nothing; mapped_bounded = IsBounded-nothing }

any_base : (b base : ℕ) (os : List Offered) → ((o : Offered) (later : List Offered) → os ≡ o ∷ later → b ≡ base)
    → received_offered b nothing_placed os ≡ received_offered base nothing_placed os
any_base b base [] same = refl
any_base b base (o ∷ os) same = ap (λ k. received_offered k nothing_placed (o ∷ os)) (same o os refl)

-- Where the notes to an application show its frames, and what was read is what was sent, the bytes at a flow's first marks
-- are a front of the flow's stream, without the frames that are left out; and those at all marks are the stream.
pub stream_accounted : (split number : ℕ) (left_out : List ℕ) (steered : List SteeredTcp) (flow : Flow) (os : List Offered) (notes : List SentNote)
    (v : AppView) (bytes : List ℕ)
    → slice_get (flows_of steered) number ≡ Some flow → ShowFrames split os notes → Ascend os → HaveBytes os
    → filter (λ o. o.flow == number) os ≡ mine_of number left_out (offered_after [] steered)
    → ((o : Offered) (later : List Offered) → filter (λ o. o.flow == number) os ≡ o ∷ later → o.base ≡ flow.base)
    → v.taken ≡ map as_taken notes → All (IsAsSent notes) v.reads → IsFront v.taken v.reads (marks_of number v.taken) bytes
    → (rest : List ℕ) × (stream_of steered left_out number ≡ bytes ++ rest) × (length bytes ≡ length (marks_of number v.taken) → rest ≡ [])
unfolding stream_of
stream_accounted split number left_out steered flow os notes v bytes known shows ascend some mine base taken reads front =
    let mine_os : List Offered = filter (λ o. o.flow == number) os in
    let got = front_streamed split number os notes v bytes shows ascend some taken reads front in
    let based : received_offered (base_of (flow_notes number 0 notes)) nothing_placed mine_os ≡ received_offered flow.base nothing_placed mine_os =
    any_base (base_of (flow_notes number 0 notes)) flow.base mine_os
    (λ o later first. base_shown split number os notes [] notes refl shows some o later first ∙ base o later first) in
    let like = of_flow_like left_out number flow.base [] not_closed steered nothing_placed nothing_placed refl nothing_like in
    let streamed : front_of (received_all flow.base left_out not_closed nothing_placed (of_flow_after number [] steered)) ≡ front_of
    (received_offered flow.base nothing_placed mine_os) =
    sym (like_front _ _ like) ∙ ap (λ xs. front_of (received_offered flow.base nothing_placed xs)) (sym mine) in
    rw known (got.0, streamed ∙ sym (ap front_of based) ∙ got.1, got.2)
