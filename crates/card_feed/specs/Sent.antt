-- What holds of notes that show the frames of an application: they are taken as whole frames, and are of its own flows.
use Rattle.std.specs.{Prelude.{◌≡◌, ◌≢◌, ℕ, ◌<◌, List, [], ◌++◌, length, map, All, Option, Some}, List.{slice_get}}
use Rattle.flow_table.specs.Flows.{Flow, flows_of}
use Rattle.card_feed.specs.{Ending.{steered_in}, Offered.{offers_of}, Feed.{FeedState, FeedStands}, Account.{offered_to}}
use Rattle.board_face.specs.{Holders.{sent_to}, Relay.{as_taken, IsProper}, declared.views.{nic.{SentNote.{SentNote}, NicSide.{NicSide}}, app.TakenNote.{TakenNote}}}
use Rattle.page_pool.specs.Frames.{ShowFrames}
use Rattle.app_worker.specs.Marks.{FramesStandTogether, marks_of}

-- ---- whole frames

-- Notes that show an application's frames, each as it may be sent, are taken as whole frames.
abbrev pub ShownNotesAreWhole : Type 0
ShownNotesAreWhole =
    (split : ℕ) (ports : List ℕ) (frames : List (List ℕ)) (left_out : List ℕ) (a : ℕ) (notes : List SentNote)
    → ShowFrames split (offered_to a left_out (steered_in ports frames)) notes → All IsProper notes → FramesStandTogether (map as_taken notes)

-- The first of whole frames' notes are whole frames: only the last may lack pieces.
abbrev pub FirstFramesStandTogether : Type 0
FirstFramesStandTogether = (taken later : List TakenNote) → FramesStandTogether (taken ++ later) → FramesStandTogether taken

-- At any time of a run, the notes that were sent to an application are taken as whole frames.
abbrev pub FeedsSendWhole : {S : Type 0} → (S → Option (List ℕ)) → (S → ℕ) → Type 0
FeedsSendWhole {S} left faults =
    (first source : S) (ports : List ℕ) (split : ℕ) (frames : List (List ℕ)) (feed : FeedState) (nic : NicSide)
    → FeedStands left faults first source ports split frames feed nic.view → All IsProper nic.view.sent
    → (a : ℕ) → FramesStandTogether (map as_taken (sent_to a nic))

-- ---- own flows

-- the note is one of a flow of this application
pub record IsOfOwnFlow (flows : List Flow) (a : ℕ) (s : SentNote) : Type 0 where
  pub flow : Flow
  pub known : slice_get flows s.note.flow ≡ Some flow
  pub app : flow.app ≡ a

-- Notes that show an application's frames are of its own flows.
abbrev pub ShownNotesAreOwn : Type 0
ShownNotesAreOwn =
    (split : ℕ) (ports : List ℕ) (frames : List (List ℕ)) (left_out : List ℕ) (a : ℕ) (notes : List SentNote)
    → ShowFrames split (offered_to a left_out (steered_in ports frames)) notes → All (IsOfOwnFlow (flows_of (steered_in ports frames)) a) notes

-- At any time of a run, the notes that were sent to an application are of its own flows.
abbrev pub FeedsSendOwn : {S : Type 0} → (S → Option (List ℕ)) → (S → ℕ) → Type 0
FeedsSendOwn {S} left faults =
    (first source : S) (ports : List ℕ) (split : ℕ) (frames : List (List ℕ)) (feed : FeedState) (nic : NicSide)
    → FeedStands left faults first source ports split frames feed nic.view
    → (a : ℕ) → All (IsOfOwnFlow feed.flows a) (sent_to a nic)

-- Such notes have no mark of another flow.
abbrev pub OwnNotesMarkNoOther : Type 0
OwnNotesMarkNoOther =
    (flows : List Flow) (a : ℕ) (notes : List SentNote) → All (IsOfOwnFlow flows a) notes
    → (number : ℕ) → ((flow : Flow) → slice_get flows number ≡ Some flow → flow.app ≢ a) → marks_of number (map as_taken notes) ≡ []

-- ---- applications

-- Each frame that is offered goes to one of the ports.
abbrev pub OffersHaveApps : Type 0
OffersHaveApps = (ports : List ℕ) (frames : List (List ℕ)) → All (λ o. o.app < length ports) (offers_of (steered_in ports frames))
