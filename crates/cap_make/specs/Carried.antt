-- What the frames of a generated capture carry, as a reader of frames sees them.
use Rattle.std.specs.Prelude.{ℕ, zero, suc, ◌+◌, ◌%◌, ◌^◌, List, [], ◌∷◌, ◌++◌}
use Rattle.frame_headers.specs.{FrameClass.{TcpSegment}, declared.segment.Addr.TheVariants.{V4}}
use Rattle.flow_table.specs.{CountedPart.{not_closed}, Flows.{Flow}}
use Rattle.cap_make.specs.{declared.piece.Piece.{Piece}, GeneratedCapture.{base, drawn, frame_of_piece, generated_payload, piece_of}}

-- a segment with PSH and ACK from 10.0.0.1 to 10.0.0.2, to the port of the piece's flow, at the piece's place in the flow
abbrev pub segment_with : ℕ → Piece → TcpSegment
segment_with seed piece = record {
  src = V4 (10 ∷ 0 ∷ 0 ∷ 1 ∷ []);
  dst = V4 (10 ∷ 0 ∷ 0 ∷ 2 ∷ []);
  sport = 40000 + piece.flow;
  dport = 9000 + piece.flow;
  seq = (base + piece.first) % 2 ^ 32;
  flags = 24;
  payload = generated_payload seed piece;
}

-- ---- the flows of a whole capture

-- the frames of the first so many records
abbrev pub generated_frames : ℕ → ℕ → List (List ℕ)
generated_frames seed zero = []
generated_frames seed (suc k) = generated_frames seed k ++ frame_of_piece seed (piece_of k (drawn seed (suc k))) ∷ []

abbrev pub ports : List ℕ
ports = 9000 ∷ 9001 ∷ 9002 ∷ 9003 ∷ []

-- the flow to the port of this number, which begins at position 0
abbrev pub flow_with : ℕ → Flow
flow_with f = record {
  key = record { src = V4 (10 ∷ 0 ∷ 0 ∷ 1 ∷ []); dst = V4 (10 ∷ 0 ∷ 0 ∷ 2 ∷ []); sport = 40000 + f; dport = 9000 + f };
  app = f;
  base = base;
  close = not_closed;
}

abbrev pub four_flows : List Flow
four_flows = flow_with 0 ∷ flow_with 1 ∷ flow_with 2 ∷ flow_with 3 ∷ []
