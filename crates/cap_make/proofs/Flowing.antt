-- The flows of a generated capture: the first four frames begin one each, and each later frame goes to one of them.
use Rattle.std.proofs.{Common.{◌≡◌, ℕ, zero, suc, ◌+◌, ◌/◌, ◌%◌, ◌^◌, ◌<◌, List, [], ◌∷◌, length, take, take_all, Some, refl, ap, ◌∙◌, arith}, lemmas.List.{map-append}}
use Rattle.frame_headers.specs.{FrameClass.{TcpSegment, class_of}, Seen.{segment_of}, declared.segment.Addr.TheVariants.{V4}}
use Rattle.flow_table.specs.{Steered.{SteeredTcp, segments_of, steered_of, steered_from}, Flows.{Flow, flows_of, flows_after, flows_with, number_of_flow}}
use Rattle.flow_table.proofs.Laws.{steered_from-append, flows_after-append}
use Rattle.cap_make.specs.{GeneratedCapture.{base, drawn, frame_of_piece, generated_payload, piece_of}, Carried.{generated_frames, four_flows, ports}}
use Rattle.cap_make.proofs.Classed.{class_of-frame_of, few_flows, few_bytes}

-- a segment of this flow, from this sequence number on, as the frames have them
abbrev segment : ℕ → ℕ → List ℕ → TcpSegment
segment f seq payload = record {
  src = V4 (10 ∷ 0 ∷ 0 ∷ 1 ∷ []);
  dst = V4 (10 ∷ 0 ∷ 0 ∷ 2 ∷ []);
  sport = 40000 + f;
  dport = 9000 + f;
  seq = seq;
  flags = 24;
  payload = payload;
}

abbrev steered : ℕ → ℕ → ℕ → List ℕ → SteeredTcp
steered number f seq payload = record { record_number = number; app = f; segment = segment f seq payload }

-- the port of a flow is that of its application
to_its_port : (number f seq : ℕ) (payload : List ℕ) → f < 4
    → steered_from ports number (Some (segment f seq payload) ∷ []) ≡ steered number f seq payload ∷ []
to_its_port number zero seq payload within = refl
to_its_port number (suc zero) seq payload within = refl
to_its_port number (suc (suc zero)) seq payload within = refl
to_its_port number (suc (suc (suc zero))) seq payload within = refl
to_its_port number (suc (suc (suc (suc f)))) seq payload within = absurd (omega arith)

-- it begins its flow behind the flows before, where it has the base
begins : (number f : ℕ) (payload : List ℕ) → f < 4 → flows_with (take f four_flows) (steered number f base payload) ≡ take (suc f) four_flows
unfolding flows_with number_of_flow
begins number zero payload within = refl
begins number (suc zero) payload within = refl
begins number (suc (suc zero)) payload within = refl
begins number (suc (suc (suc zero))) payload within = refl
begins number (suc (suc (suc (suc f)))) payload within = absurd (omega arith)

-- or it belongs to the one that is there
belongs : (number f seq : ℕ) (payload : List ℕ) → f < 4 → flows_with four_flows (steered number f seq payload) ≡ four_flows
unfolding flows_with number_of_flow
belongs number zero seq payload within = refl
belongs number (suc zero) seq payload within = refl
belongs number (suc (suc zero)) seq payload within = refl
belongs number (suc (suc (suc zero))) seq payload within = refl
belongs number (suc (suc (suc (suc f)))) seq payload within = absurd (omega arith)

-- the first piece of each flow is at its position 0
first_piece : (k x : ℕ) → k < 4 → (piece_of k x).first ≡ 0
first_piece k x within = let e : k / 4 ≡ 0 = omega arith in rw e (omega arith)

-- the flows once one more frame was seen
with_next : (k number f seq : ℕ) (payload : List ℕ) → f ≡ k % 4 → (k < 4 → seq ≡ base)
    → flows_with (take k four_flows) (steered number f seq payload) ≡ take (suc k) four_flows
with_next zero number f seq payload flow first = rw (flow, first (omega arith)) (begins number 0 payload (omega arith))
with_next (suc zero) number f seq payload flow first = rw (flow, first (omega arith)) (begins number 1 payload (omega arith))
with_next (suc (suc zero)) number f seq payload flow first = rw (flow, first (omega arith)) (begins number 2 payload (omega arith))
with_next (suc (suc (suc zero))) number f seq payload flow first = rw (flow, first (omega arith)) (begins number 3 payload (omega arith))
with_next (suc (suc (suc (suc k)))) number f seq payload flow first =
    let none : take {A = Flow} k [] ≡ [] = take_all k [] (omega arith) in rw none (belongs number f seq payload (omega arith))

-- the segment of frame k
abbrev seq_of : ℕ → ℕ → ℕ
seq_of seed k = (base + (piece_of k (drawn seed (suc k))).first) % 2 ^ 32

one_more : (seed k number : ℕ) (flows : List Flow) → flows ≡ take k four_flows
    → flows_after flows (steered_from ports number (segments_of (frame_of_piece seed (piece_of k (drawn seed (suc k))) ∷ []))) ≡ take (suc k) four_flows
one_more seed k number flows is =
    let x = drawn seed (suc k) in
    let piece = piece_of k x in
    let seq = seq_of seed k in
    let class = ap segment_of (class_of-frame_of seed piece (few_flows k x) (few_bytes k x)) in
    let at_base : k < 4 → seq ≡ base = λ new. ap (λ p. (base + p) % 2 ^ 32) (first_piece k x new) in
    ap (λ s. flows_after flows (steered_from ports number (s ∷ []))) class
    ∙ ap (flows_after flows) (to_its_port number piece.flow seq (generated_payload seed piece) (few_flows k x))
    ∙ ap (λ l. flows_with l (steered number piece.flow seq (generated_payload seed piece))) is
    ∙ with_next k number piece.flow seq (generated_payload seed piece) refl at_base

pub flows_of-frames : (seed n : ℕ) → flows_of (steered_of ports (segments_of (generated_frames seed n))) ≡ take n four_flows
unfolding steered_of
flows_of-frames seed zero = refl
flows_of-frames seed (suc n) =
    let before = segments_of (generated_frames seed n) in
    let next = segments_of (frame_of_piece seed (piece_of n (drawn seed (suc n))) ∷ []) in
    ap (λ l. flows_after [] (steered_from ports 1 l)) (map-append (λ frame. segment_of (class_of frame)) (generated_frames seed n)
    (frame_of_piece seed (piece_of n (drawn seed (suc n))) ∷ []))
    ∙ ap (flows_after []) (steered_from-append ports 1 before next)
    ∙ flows_after-append [] (steered_from ports 1 before) (steered_from ports (1 + length before) next)
    ∙ one_more seed n (1 + length before) (flows_after [] (steered_from ports 1 before)) (flows_of-frames seed n)
