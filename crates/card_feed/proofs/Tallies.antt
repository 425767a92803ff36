-- One more frame in the tally.
use Rattle.std.proofs.Common.{◌≡◌, ℕ, ◌+◌, List, [], ◌∷◌, ◌++◌, length, filter, Bool, true, false, if◌then◌else◌, Option, None}
use Rattle.std.proofs.Common.{Some, is_some, option_to_list, refl, sym, ap, ◌∙◌, length-append, arith}
use Rattle.frame_headers.specs.FrameClass.{FrameClass, class_of}
use Rattle.zr_kinds.specs.declared.outcome.Tally.{Tally}
use Rattle.flow_table.specs.Steered.{SteeredTcp}
use Rattle.card_feed.specs.{Ending.{steered_in, steered_next}, Tally.{is_tcp, is_other, is_fragment, is_cut_short, is_bad, count_of, tally_of, one_if, counted}}

count-one : (b : Bool) (frame : List ℕ) → length (if b then frame ∷ [] else []) ≡ one_if b
count-one true frame = refl
count-one false frame = refl

count-more : (test : FrameClass → Bool) (frames : List (List ℕ)) (frame : List ℕ)
    → count_of test (frames ++ frame ∷ []) ≡ count_of test frames + one_if (test (class_of frame))
count-more test [] frame = count-one (test (class_of frame)) frame ∙ omega arith
count-more test (first ∷ frames) frame = by_first (test (class_of first)) (count-more test frames frame)
  where
    by_first : (b : Bool) → count_of test (frames ++ frame ∷ []) ≡ count_of test frames + one_if (test (class_of frame))
        → length (if b then first ∷ filter (λ f. test (class_of f)) (frames ++ frame ∷ []) else filter (λ f. test (class_of f))
        (frames ++ frame ∷ [])) ≡ length (if b then first ∷ filter (λ f. test (class_of f)) frames else filter
        (λ f. test (class_of f)) frames) + one_if (test (class_of frame))
    by_first true more = omega (arith, more)
    by_first false more = more

steered-count : (steered : List SteeredTcp) (next : Option SteeredTcp) → length (steered ++ option_to_list next) ≡ length steered + one_if (is_some next)
steered-count steered None = length-append steered []
steered-count steered (Some s) = length-append steered (s ∷ [])

pub tally-more : (ports : List ℕ) (frames : List (List ℕ)) (frame : List ℕ) (tally : Tally) (steered : Bool) → tally ≡ tally_of ports frames
    → steered ≡ is_some (steered_next ports frames frame)
    → steered_in ports (frames ++ frame ∷ []) ≡ steered_in ports frames ++ option_to_list (steered_next ports frames frame)
    → counted tally (class_of frame) steered ≡ tally_of ports (frames ++ frame ∷ [])
tally-more ports frames frame tally steered is steered_is more =
    let records : length (frames ++ frame ∷ []) ≡ length frames + 1 = length-append frames (frame ∷ []) in
    let all_steered : length (steered_in ports (frames ++ frame ∷ [])) ≡ length (steered_in ports frames) + one_if steered =
    ap length more ∙ steered-count (steered_in ports frames) (steered_next ports frames frame)
    ∙ ap (λ b. length (steered_in ports frames) + one_if b) (sym steered_is) in
    ap (λ t. counted t (class_of frame) steered) is
    ∙ sym (rw (
      records,
      all_steered,
      count-more is_tcp frames frame,
      count-more is_other frames frame,
      count-more is_fragment frames frame,
      count-more is_cut_short frames frame,
      count-more is_bad frames frame,
    ) refl)
