-- No more notes and bytes are sent than the records that were read have bytes.
use Rattle.std.proofs.Common.{◌≡◌, ℕ, suc, ◌+◌, ◌*◌, ◌≤◌, ◌==◌, Bool, true, false, List, [], ◌∷◌, ◌++◌}
use Rattle.std.proofs.Common.{length, length-append, take, map, refl, sym, ap, subst, arith, Option, Some, None}
use Rattle.std.{specs.Prelude.{All, filter, if◌then◌else◌, option_to_list}, proofs.{Math.Seq.{take-append_seam}, lemmas.List.{length-map}}}
use Rattle.zr_kinds.specs.Limits.{most_records, longest_payload}
use Rattle.frame_headers.specs.{FrameClass.{TcpSegment, class_of}, Seen.{segment_of}}
use Rattle.flow_table.specs.{Flows.{Flow, flows_with}, Steered.{SteeredTcp, steer, steered_from, steered_of, segments_of}}
use Rattle.card_feed.specs.{Ending.{steered_in}, Feed.{FeedState, FeedStands}, Offered.{AreSettled, Awaits, has_payload, offered_after, offers_of, offers_without}}
use Rattle.board_face.specs.{Relay.{IsProper, as_taken}, declared.views.nic.{NicView.{NicView}, SentNote.{SentNote}}}
use Rattle.page_pool.specs.Frames.{Offered}
use Rattle.app_worker.specs.Core.{total}
use Rattle.flow_queues.specs.Totals.{taken_len}
use Rattle.run_account.proofs.NoteSums.{note_len, AreFew, frames-few}

-- ---- frames

filter-few : {A : Type 0} (test : A → Bool) (xs : List A) → length (filter test xs) ≤ length xs
filter-few test [] = omega arith
filter-few test (x ∷ xs) = case x (length xs) (test x) (filter test xs) (filter-few test xs)
  where
    case : {A : Type 0} (x : A) (n : ℕ) (b : Bool) (ys : List A) → length ys ≤ n → length (if b then x ∷ ys else ys) ≤ suc n
    case x n true ys few = omega (arith, few)
    case x n false ys few = omega (arith, few)

offered-many : (flows : List Flow) (steered : List SteeredTcp) → length (offered_after flows steered) ≡ length steered
offered-many flows [] = refl
offered-many flows (s ∷ steered) = ap suc (offered-many (flows_with flows s) steered)

steered-few : (ports : List ℕ) (number : ℕ) (segments : List (Option TcpSegment)) → length (steered_from ports number segments) ≤ length segments
steered-few ports number [] = omega arith
steered-few ports number (segment ∷ segments) = one (steer ports number segment) (steered_from ports (suc number) segments)
    (steered-few ports (suc number) segments)
  where
    one : {n : ℕ} (s : Option SteeredTcp) (rest : List SteeredTcp) → length rest ≤ n → length (option_to_list s ++ rest) ≤ suc n
    one None rest few = omega (arith, few)
    one (Some s) rest few = omega (arith, few)

in-few : (ports : List ℕ) (frames : List (List ℕ)) → length (steered_in ports frames) ≤ length frames
unfolding steered_of
in-few ports frames = let few = steered-few ports 1 (segments_of frames) in let many : length (segments_of frames) ≡ length frames = length-map frames
    (λ frame. segment_of (class_of frame)) in omega (arith, few, many)

-- no more frames are offered than are read
pub offers-few : (ports : List ℕ) (frames : List (List ℕ)) → length (offers_of (steered_in ports frames)) ≤ length frames
offers-few ports frames =
    let offered : length (offers_of (steered_in ports frames)) ≤ length (offered_after [] (steered_in ports frames)) =
    filter-few has_payload (offered_after [] (steered_in ports frames)) in
    omega (arith, offered, offered-many [] (steered_in ports frames), in-few ports frames)

settled-few : (hand : Option Offered) (offers settled : List Offered) → Awaits hand offers settled → length settled ≤ length offers
settled-few None offers settled awaits = omega (arith, ap length awaits)
settled-few (Some o) offers settled awaits = omega (arith, ap length awaits, length-append settled (o ∷ []))

-- ---- notes

-- how many bytes the payloads of all records have at most
abbrev pub most_sent : ℕ
most_sent = longest_payload * most_records

sent-few : (split : ℕ) (ports : List ℕ) (frames : List (List ℕ)) (refused : List ℕ) (hand : Option Offered) (sent pending : List SentNote)
    → AreSettled split (offers_of (steered_in ports frames)) refused hand (sent ++ pending) → length frames ≤ most_records → All IsProper sent
    → AreFew most_sent sent
sent-few split ports frames refused hand sent pending settles few proper =
    let offers = offers_of (steered_in ports frames) in
    let seam : take (length sent) (sent ++ pending) ≡ sent = take-append_seam sent pending in
    let shown : AreFew (longest_payload * length (offers_without refused settles.settled)) sent =
    subst (AreFew (longest_payload * length (offers_without refused settles.settled))) seam
    (frames-few split (offers_without refused settles.settled) (sent ++ pending) (length sent) settles.shown (subst (All IsProper) (sym seam) proper)) in
    let kept : length (offers_without refused settles.settled) ≤ length settles.settled = filter-few _ settles.settled in
    let all : length settles.settled ≤ length offers = settled-few hand offers settles.settled settles.awaits in
    let bytes = shown.bytes in
    record { some = shown.some; bytes = omega (arith, bytes, kept, all, offers-few ports frames, few) }

-- the notes to one application are some of all
pub own-few : (a : ℕ) (sent : List SentNote) → (length (filter (λ s. s.app == a) sent) ≤ length sent)
    × (total note_len (filter (λ s. s.app == a) sent) ≤ total note_len sent)
own-few a [] = (omega arith, omega arith)
own-few a (s ∷ sent) = case (s.app == a) (own-few a sent)
  where
    case : (b : Bool) → (length (filter (λ s. s.app == a) sent) ≤ length sent) × (total note_len (filter (λ s. s.app == a) sent) ≤ total note_len sent)
        → (length (if b then s ∷ filter (λ s. s.app == a) sent else filter (λ s. s.app == a) sent) ≤ suc (length sent))
        × (total note_len (if b then s ∷ filter (λ s. s.app == a) sent else filter (λ s. s.app == a) sent) ≤ note_len s + total note_len sent)
    case true rest = (omega (arith, rest.0), omega (arith, rest.1))
    case false rest = (omega (arith, rest.0), omega (arith, rest.1))

pub taken-sum : (notes : List SentNote) → total taken_len (map as_taken notes) ≡ total note_len notes
taken-sum [] = refl
taken-sum (s ∷ notes) = ap (λ n. note_len s + n) (taken-sum notes)

-- ---- a run

module _ {S : Type 0} (left : S → Option (List ℕ)) (faults : S → ℕ) (source source_now : S) (ports : List ℕ) (split : ℕ) (frames : List (List ℕ))
    (feed : FeedState) (v : NicView) (stands : FeedStands left faults source source_now ports split frames feed v)
    (records : feed.tally.records ≤ most_records) where
  -- no more frames were read than are read at most
  pub frames-read : length frames ≤ most_records
  frames-read = let read = ap (λ t. t.records) stands.knows.tally_is in omega (arith, read, records)

  -- the notes that were sent tell of no more bytes than the records have
  pub notes-few : All IsProper v.sent → AreFew most_sent v.sent
  notes-few proper = sent-few split ports frames feed.refused feed.at_hand v.sent _ stands.knows.settled frames-read proper
