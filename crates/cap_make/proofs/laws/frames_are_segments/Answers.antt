use Rattle.cap_make.{proofs.Classed.{class_of-frame_of, few_flows, few_bytes}, specs.GeneratedCapture.{piece_of}}
use Rattle.cap_make.proofs.laws.frames_are_segments.Goals as goal

pub returns : goal.returns
returns c = λ seed k x. class_of-frame_of seed (piece_of k x) (few_flows k x) (few_bytes k x)
