-- How many records there are of each class.
use Rattle.std.specs.Prelude.{ℕ, ◌+◌, List, length, filter, Bool, true, false}
use Rattle.frame_headers.specs.FrameClass.{FrameClass, Tcp, Other, Fragment, CutShort, Bad, class_of}
use Rattle.zr_kinds.specs.declared.outcome.Tally.{Tally}
pub use Rattle.zr_kinds.specs.Counting.{one_if}
use Rattle.card_feed.specs.Ending.{steered_in}

abbrev pub is_tcp : FrameClass → Bool
is_tcp (Tcp segment) = true
is_tcp Other = false
is_tcp Fragment = false
is_tcp CutShort = false
is_tcp Bad = false

abbrev pub is_other : FrameClass → Bool
is_other Other = true
is_other (Tcp segment) = false
is_other Fragment = false
is_other CutShort = false
is_other Bad = false

abbrev pub is_fragment : FrameClass → Bool
is_fragment Fragment = true
is_fragment (Tcp segment) = false
is_fragment Other = false
is_fragment CutShort = false
is_fragment Bad = false

abbrev pub is_cut_short : FrameClass → Bool
is_cut_short CutShort = true
is_cut_short (Tcp segment) = false
is_cut_short Other = false
is_cut_short Fragment = false
is_cut_short Bad = false

abbrev pub is_bad : FrameClass → Bool
is_bad Bad = true
is_bad (Tcp segment) = false
is_bad Other = false
is_bad Fragment = false
is_bad CutShort = false

-- how many of the frames have such a class
abbrev pub count_of : (FrameClass → Bool) → List (List ℕ) → ℕ
count_of test frames = length (filter (λ frame. test (class_of frame)) frames)

-- the tally of these frames
abbrev pub tally_of : List ℕ → List (List ℕ) → Tally
tally_of ports frames = record {
  records = length frames;
  tcp = count_of is_tcp frames;
  steered = length (steered_in ports frames);
  other = count_of is_other frames;
  fragment = count_of is_fragment frames;
  cut = count_of is_cut_short frames;
  bad = count_of is_bad frames;
}

abbrev pub no_tally : Tally
no_tally = record { records = 0; tcp = 0; steered = 0; other = 0; fragment = 0; cut = 0; bad = 0 }

-- the tally with one more record, of this class
abbrev pub counted : Tally → FrameClass → Bool → Tally
counted tally class steered = record {
  records = tally.records + 1;
  tcp = tally.tcp + one_if (is_tcp class);
  steered = tally.steered + one_if steered;
  other = tally.other + one_if (is_other class);
  fragment = tally.fragment + one_if (is_fragment class);
  cut = tally.cut + one_if (is_cut_short class);
  bad = tally.bad + one_if (is_bad class);
}
