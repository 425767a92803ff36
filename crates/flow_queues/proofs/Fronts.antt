-- What a flow received, as one more note is taken, and how its first marks stand to the marks of its frames.
use Rattle.std.proofs.Common.{◌≡◌, ◌≢◌, ℕ, zero, suc, ◌+◌, ◌-◌, ◌<◌, ◌≤◌, true, false, List, [], ◌∷◌, ◌++◌}
use Rattle.std.{proofs.Common.{Option, Some, None, IsSome, refl, sym, ap, ◌∙◌, arith, ⊎_elim}, specs.{Prelude.{◌==◌}, Option.{is_some}}}
use Rattle.std.proofs.lemmas.Bool.{cases_Bool, cases_lt, cases_eq, both_ways, ne_eqb}
use Rattle.zr_kinds.specs.CopyingReceiver.{Placed, nothing_placed, next_missing, lead, accepts, brought, first_of, filled_by_values, values_from, front_of}
use Rattle.zr_kinds.proofs.LeastMissing.{next_missing-least, same_least}
use Rattle.tcp_reorder.{specs.Queue.{Queue}, proofs.Holding.{brought-past}}
use Rattle.board_face.specs.declared.views.app.TakenNote.{TakenNote}
use Rattle.flow_queues.specs.declared.queues.{Waiting.{Waiting}, FlowQueue.{FlowQueue}}
use Rattle.flow_queues.specs.Marks.{Mark, NumberedNote, numbered_notes, Frame, received_frame, received_frames, frames_of_notes, base_of, placed_marks, marks_of}
use Rattle.flow_queues.specs.{Marks.{marks_of_note, FramesStandTogether}, Core.{Each, many, own_notes, BeginAt, placed_of, received_note, received_notes}}
use Rattle.flow_queues.proofs.{Placing.{own-notes-other, own-notes-here, next_note, received-push, values-split}, WholeFrames.{StandWhole, whole-own, placed-same}}
use Rattle.flow_queues.proofs.InParts.{AreSame}

-- ---- one note more

pub is-some : (found : Option Mark) (value : Mark) → found ≡ Some value → IsSome found
is-some found value is = rw is refl

module _ (taken : List TakenNote) (t : TakenNote) (f : FlowQueue) (q : Queue Waiting) (base : q.base ≡ f.queue.base) where
  -- by its own note
  pub placed-here : t.note.flow ≡ f.number → placed_of (record f { queue = q }) (taken ++ t ∷ [])
      ≡ received_note f.queue.base (placed_of f taken) (next_note taken t)
  placed-here is = ap (λ b. received_notes b nothing_placed (own_notes f.number (taken ++ t ∷ []))) base
      ∙ ap (received_notes f.queue.base nothing_placed) (own-notes-here f.number taken t is)
      ∙ received-push f.queue.base nothing_placed (own_notes f.number taken) (next_note taken t)

  pub placed-other : t.note.flow ≢ f.number → placed_of (record f { queue = q }) (taken ++ t ∷ []) ≡ placed_of f taken
  placed-other other = ap (λ b. received_notes b nothing_placed (own_notes f.number (taken ++ t ∷ []))) base
      ∙ ap (received_notes f.queue.base nothing_placed) (own-notes-other f.number taken t other)

-- ---- the marks of the frames

abbrev IsPast : Placed Mark → Type 0
IsPast placed = (p : ℕ) → placed.top ≤ p → placed.at p ≡ None

filled-past : (placed : Placed Mark) (from : ℕ) (marks : List Mark) → IsPast placed → IsPast (filled_by_values placed from marks)
filled-past placed from marks past = λ p behind. ap (λ value. first_of value (brought marks from p)) (past p (omega arith))
    ∙ brought-past marks from p (omega arith)

frame-past : (base : ℕ) (placed : Placed Mark) (f : Frame) → IsPast placed → IsPast (received_frame base placed f)
frame-past base placed f past = ⊎_elim
    (λ (yes : accepts base (next_missing placed) f.seq f.total ≡ true). let is = filled-past placed
    (next_missing placed + lead base (next_missing placed) f.seq) f.marks past in rw yes is)
    (λ (no : accepts base (next_missing placed) f.seq f.total ≡ false). rw no past)
    (cases_Bool (accepts base (next_missing placed) f.seq f.total))

frames-past : (base : ℕ) (placed : Placed Mark) (fs : List Frame) → IsPast placed → IsPast (received_frames base placed fs)
frames-past base placed [] past = past
frames-past base placed (f ∷ fs) past = frames-past base (received_frame base placed f) fs (frame-past base placed f past)

note-past : (base : ℕ) (placed : Placed Mark) (n : NumberedNote) → IsPast placed → IsPast (received_note base placed n)
note-past base placed n past = ⊎_elim
    (λ (yes : accepts base (next_missing placed) n.note.seq n.note.total ≡ true). let is = filled-past placed
    (next_missing placed + lead base (next_missing placed) n.note.seq + n.note.at) (marks_of_note n) past in rw yes is)
    (λ (no : accepts base (next_missing placed) n.note.seq n.note.total ≡ false). rw no past)
    (cases_Bool (accepts base (next_missing placed) n.note.seq n.note.total))

notes-past : (base : ℕ) (placed : Placed Mark) (ns : List NumberedNote) → IsPast placed → IsPast (received_notes base placed ns)
notes-past base placed [] past = past
notes-past base placed (n ∷ ns) past = notes-past base (received_note base placed n) ns (note-past base placed n past)

values-alike : (at later : ℕ → Option Mark) (k p : ℕ) → ((q : ℕ) → later q ≡ at q) → values_from later k p ≡ values_from at k p
values-alike at later zero p same = refl
values-alike at later (suc k) p same = rw (same p, values-alike at later k (suc p) same) refl

-- the pieces of each frame stand together in a flow, where they do among all notes
pub stand-own : (flow : ℕ) (taken : List TakenNote) → FramesStandTogether taken → StandWhole (own_notes flow taken)
stand-own flow [] whole = tt
stand-own flow (t ∷ ts) whole = whole-own flow (record { number = 0; note = t.note }) (numbered_notes 1 ts) whole.0 whole.1

-- ---- one flow

-- what was appended stands at the first of the marks
pub front-of-flow : (flow : FlowQueue) (taken : List TakenNote) (count : ℕ) → BeginAt flow.queue.base (own_notes flow.number taken)
    → ((p : ℕ) → p < count → IsSome ((placed_of flow taken).at p)) → FramesStandTogether taken
    → (rest : List Mark) × (marks_of flow.number taken ≡ values_from (placed_of flow taken).at count 0 ++ rest)
unfolding front_of
front-of-flow flow taken count begun below whole =
    let placed : Placed Mark = placed_of flow taken in
    let frames : Placed Mark = placed_marks flow.number taken in
    let same : AreSame placed frames = placed-same flow taken begun (stand-own flow.number taken whole) in
    let past : IsPast frames = frames-past (base_of (own_notes flow.number taken)) nothing_placed (frames_of_notes (own_notes flow.number taken))
    (λ p behind. refl) in
    let least = next_missing-least frames (record { past = past }) in
    let within : count ≤ next_missing frames = ⊎_elim
    (λ (short : next_missing frames < count). absurd (both_ways (is_some (placed.at (next_missing frames))) (ap is_some (same (next_missing frames) ∙ least.missing))
    (below (next_missing frames) short)))
    (λ not. not)
    (cases_lt (next_missing frames) count) in
    let more : ℕ = next_missing frames - count in
    let steps : next_missing frames ≡ count + more = omega (arith, within) in (
      values_from placed.at more (0 + count),
      values-alike placed.at frames.at (next_missing frames) 0 (λ q. sym (same q)) ∙ ap (λ n. values_from placed.at n 0) steps
          ∙ values-split placed.at count more 0 (λ q from until. below q (omega arith)),
    )

-- at all of them, where that is all
pub all-of-flow : (flow : FlowQueue) (taken : List TakenNote) → BeginAt flow.queue.base (own_notes flow.number taken) → flow.bytes ≡ next_missing (placed_of flow taken)
    → FramesStandTogether taken → marks_of flow.number taken ≡ values_from (placed_of flow taken).at flow.bytes 0
unfolding front_of
all-of-flow flow taken begun is whole =
    let placed : Placed Mark = placed_of flow taken in
    let frames : Placed Mark = placed_marks flow.number taken in
    let same : AreSame placed frames = placed-same flow taken begun (stand-own flow.number taken whole) in
    let past : IsPast frames = frames-past (base_of (own_notes flow.number taken)) nothing_placed (frames_of_notes (own_notes flow.number taken))
    (λ p behind. refl) in
    let past_placed : IsPast placed = notes-past flow.queue.base nothing_placed (own_notes flow.number taken) (λ p behind. refl) in
    let next : next_missing frames ≡ next_missing placed = same_least frames placed (next_missing frames) (next_missing placed)
    (next_missing-least frames (record { past = past })) (next_missing-least placed (record { past = past_placed })) (λ p. ap is_some (sym (same p))) in
    values-alike placed.at frames.at (next_missing frames) 0 (λ q. sym (same q)) ∙ ap (λ n. values_from placed.at n 0) (next ∙ sym is)

-- ---- all flows

pub pick : (number : ℕ) (flows : List FlowQueue) (P : FlowQueue → Type 0) (Q : Type 0) → Each P flows → (many number flows ≡ 0 → Q)
    → ((f : FlowQueue) → f.number ≡ number → P f → Q) → Q
pick number [] P Q each none some = none refl
pick number (f ∷ fs) P Q each none some = ⊎_elim
    (λ (is : f.number ≡ number). some f is each.0)
    (λ (other : f.number ≢ number). pick number fs P Q each.1
    (λ zeros. none (let no : (f.number == number) ≡ false = ne_eqb f.number number other in rw no (omega (arith, zeros)))) some)
    (cases_eq f.number number)

pub no-marks : (flow : ℕ) (taken : List TakenNote) → own_notes flow taken ≡ [] → marks_of flow taken ≡ []
unfolding front_of next_missing
no-marks flow taken none = rw none refl
