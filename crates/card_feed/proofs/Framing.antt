-- One frame more: its steered segment, and whether the reading ends there.
use Rattle.std.proofs.{Common.{◌≡◌, ◌≢◌, ℕ, suc, ◌+◌, List, [], ◌∷◌, ◌++◌, length, Some, option_to_list, refl, ap, ◌∙◌, arith}, lemmas.Bool.{eq-eqb, ne_eqb}}
use Rattle.zr_kinds.specs.{Limits.{most_records}, declared.fault.Fault.TheVariants.{TooManyFrames}}
use Rattle.frame_headers.specs.{FrameClass.{class_of}, Seen.{class_seen, segment_seen, segment_of}, declared.segment.Seen.{Seen}}
use Rattle.frame_headers.specs.declared.segment.Seen.TheVariants as seen
use Rattle.flow_table.{specs.{Steered.{steer, steered_of, segments_of}, Flows.{flows_of}}, proofs.FlowLaws.{steered_of-push}}
use Rattle.card_feed.specs.Ending.{steered_in, steered_next, flow_ending, ending_at}

-- ---- the steered segments

segments-more : (frames : List (List ℕ)) (frame : List ℕ)
    → segments_of (frames ++ frame ∷ []) ≡ segments_of frames ++ segment_of (class_of frame) ∷ []
segments-more [] frame = refl
segments-more (first ∷ frames) frame = ap (λ others. segment_of (class_of first) ∷ others) (segments-more frames frame)

pub length-segments : (frames : List (List ℕ)) → length (segments_of frames) ≡ length frames
length-segments [] = refl
length-segments (first ∷ frames) = ap suc (length-segments frames)

pub steered-more : (ports : List ℕ) (frames : List (List ℕ)) (frame : List ℕ)
    → steered_in ports (frames ++ frame ∷ []) ≡ steered_in ports frames ++ option_to_list (steered_next ports frames frame)
steered-more ports frames frame =
    let last = segment_of (class_of frame) in
    let count : 1 + length (segments_of frames) ≡ suc (length frames) = omega (arith, length-segments frames) in
    ap (steered_of ports) (segments-more frames frame) ∙ steered_of-push ports (segments_of frames) last
    ∙ ap (λ n. steered_in ports frames ++ option_to_list (steer ports n last)) count

-- ---- the ending

pub ending-limit : (ports : List ℕ) (frames : List (List ℕ)) (frame : List ℕ) → length frames ≡ most_records
    → ending_at ports frames frame ≡ Some TooManyFrames
unfolding ending_at
ending-limit ports frames frame limit = rw (eq-eqb (length frames) most_records limit) refl

pub ending-flow : (ports : List ℕ) (frames : List (List ℕ)) (frame : List ℕ) → length frames ≢ most_records
    → ending_at ports frames frame ≡ flow_ending (flows_of (steered_in ports frames)) (steered_next ports frames frame)
unfolding ending_at
ending-flow ports frames frame below = rw (ne_eqb (length frames) most_records below) refl

-- what was seen, as the definition has it
pub seen-segment : (found : Seen) → segment_seen found ≡ segment_of (class_seen found)
seen-segment (seen.Tcp segment) = refl
seen-segment seen.Other = refl
seen-segment seen.Fragment = refl
seen-segment seen.CutShort = refl
seen-segment seen.Bad = refl

-- before the first frame
pub steered-nothing : (ports : List ℕ) → steered_in ports [] ≡ []
unfolding steered_of
steered-nothing ports = refl
