-- Each gap of the payload is taken, and what lies between was there.
use Rattle.std.proofs.Common.{rules, ◌≡◌, ◌≤◌, ◌+◌, ◌-◌, ◌%◌, ◌^◌, ℕ, List, length, take, drop, true, false, refl, sym, ap, ◌∙◌}
use Rattle.std.proofs.Common.{subst, arith, length-drop, length-take-le}
use Rattle.zr_kinds.specs.{declared.place.{Note.{Note}, Place.{Place}}, CopyingReceiver.{Placed, accepts, received_part}}
use Rattle.tcp_reorder.specs.{Queue.{Queue, Kept, next_of}, declared.places.Gap.{Gap}, Gaps.{origin, AreUnwanted, IsFirstGap, with_taken}, Values.{Holds}}
use Rattle.tcp_reorder.{specs.Entering.{HasEntered, HoldsWhatCame}, proofs.Entering.{holds_what_came}}
use Rattle.board_face.specs.Texts.{IsLinearNote}
use Rattle.flow_queues.specs.{declared.queues.Waiting.{Waiting, TheVariants.{Copied}}, Marks.{Mark, marks_from}}
use Rattle.flow_queues.specs.Core.{marks_of_waiting, received_note, over_waiting, short_len, IsOfNote}
use Rattle.flow_queues.proofs.Entering.{marks-length, marks-part, over-with_kept, each-with_kept}
use Rattle.flow_queues.proofs.short.enter_short.Goals as goal

-- of queues of what waits
law : HoldsWhatCame Mark Waiting
law = holds_what_came Mark Waiting

-- the whole payload travels in the note
as-part : (base : ℕ) (placed : Placed Mark) (number : ℕ) (note : Note) → IsLinearNote note
    → received_part base placed note.seq note.total 0 (marks_from number 0 note.total) ≡ received_note base placed (record { number = number; note = note })
unfolding received_part
as-part base placed number note fields =
    let at : note.at ≡ 0 = fields.from_begin in
    let len : note.place.len ≡ note.total = ap (λ (p : Place). p.len) fields.place in
    ap (λ k. received_part base placed note.seq note.total k (marks_from number 0 note.total)) (sym at)
    ∙ ap (λ k. received_part base placed note.seq note.total note.at (marks_from number 0 k)) (sym len)

place-is : (seq done : ℕ) → (seq + done) % 2 ^ 32 ≡ (seq + (0 + done)) % 2 ^ 32
place-is seq done = omega arith

whole-entered : (was now : Queue Waiting) (number : ℕ) (note : Note) (done : ℕ) → IsLinearNote note
    → HasEntered marks_of_waiting was now note.seq note.total 0 (marks_from number 0 note.total) done
    → AreUnwanted now ((note.seq + done) % 2 ^ 32) (note.total - done)
    → (placed : Placed Mark) → Holds marks_of_waiting was placed
    → Holds marks_of_waiting now (received_note was.base placed (record { number = number; note = note }))
whole-entered was now number note done fields entered unwanted placed holds =
    let size : length (marks_from number 0 note.total) ≡ note.total = marks-length number 0 note.total in
    subst (Holds marks_of_waiting now) (as-part was.base placed number note fields)
    (law.ended marks_of_waiting was now note.seq note.total 0 (marks_from number 0 note.total) done ((note.seq + done) % 2 ^ 32) placed entered
    (place-is note.seq done) (subst (λ n. AreUnwanted now ((note.seq + done) % 2 ^ 32) (n - done)) (sym size) unwanted) holds)

rest-accepted : (was now : Queue Waiting) (seq total number done : ℕ)
    → HasEntered marks_of_waiting was now seq total 0 (marks_from number 0 total) done
    → accepts now.base (next_of now) ((seq + done) % 2 ^ 32) (total - done) ≡ true
rest-accepted was now seq total number done entered = subst (λ n. accepts now.base (next_of now) ((seq + done) % 2 ^ 32) (n - done) ≡ true)
    (marks-length number 0 total)
    (law.rest marks_of_waiting was now seq total 0 (marks_from number 0 total) done ((seq + done) % 2 ^ 32) entered (place-is seq done))

pub returns-then-not-accepts-clause-enters : goal.returns-then-not-accepts-clause-enters
returns-then-not-accepts-clause-enters c = λ placed holds.
    let queue = c.args.queue.now in
    let note : Note = c.args.note.now in
    let refused : accepts queue.base (next_of queue) note.seq note.total ≡ false = search rules in
    subst (Holds marks_of_waiting queue) (as-part queue.base placed c.args.number note c.requires.fields)
    (law.refused marks_of_waiting queue placed note.seq note.total 0 (marks_from c.args.number 0 note.total) refused holds)

pub loop-done-init : goal.loop-done-init
loop-done-init c =
    let note : Note = c.args.note.now in
    let accepted : accepts c.args.queue.now.base (next_of c.args.queue.now) note.seq note.total ≡ true = search rules in
    let size : length (marks_from c.args.number 0 note.total) ≡ note.total = marks-length c.args.number 0 note.total in
    record {
      total = refl;
      entered = law.begun marks_of_waiting c.args.queue.now note.seq note.total 0 (marks_from c.args.number 0 note.total) accepted
          (omega (arith, c.requires.fields.few_bytes)) (omega (arith, size));
      within = omega arith;
      over = λ f. refl;
      short = omega arith;
      notes = λ taken t is split bytes each. each;
    }

pub gap-requires : goal.gap-requires
gap-requires c = rest-accepted c.args.queue.now c.loop-done.queue c.args.note.now.seq c.args.note.now.total c.args.number c.loop-done.done
    c.loop-done.invariant.entered

pub take-requires-clause-accepted : goal.take-requires-clause-accepted
take-requires-clause-accepted c =
    let note : Note = c.args.note.now in
    let accepted = rest-accepted c.args.queue.now c.loop-done.queue note.seq note.total c.args.number c.loop-done.done c.loop-done.invariant.entered in
    (law.may_be_taken c.loop-done.queue ((note.seq + c.loop-done.done) % 2 ^ 32) (note.total - c.loop-done.done) c.in-Some.gap accepted
    c.in-Some.ensures.first).0

pub take-requires-clause-wanted : goal.take-requires-clause-wanted
take-requires-clause-wanted c =
    let note : Note = c.args.note.now in
    let accepted = rest-accepted c.args.queue.now c.loop-done.queue note.seq note.total c.args.number c.loop-done.done c.loop-done.invariant.entered in
    (law.may_be_taken c.loop-done.queue ((note.seq + c.loop-done.done) % 2 ^ 32) (note.total - c.loop-done.done) c.in-Some.gap accepted
    c.in-Some.ensures.first).1

pub loop-done-preserved : goal.loop-done-preserved
loop-done-preserved c =
    let was : Queue Waiting = c.args.queue.now in
    let now : Queue Waiting = c.loop-done.queue in
    let note : Note = c.args.note.now in
    let number : ℕ = c.args.number in
    let done : ℕ = c.loop-done.done in
    let gap : Gap = c.in-Some.gap in
    let from : ℕ = (note.seq + done) % 2 ^ 32 in
    let inv = c.loop-done.invariant in
    let marks : List Mark = marks_from number 0 note.total in
    let size : length marks ≡ note.total = marks-length number 0 note.total in
    let first : IsFirstGap now from (note.total - done) gap = c.in-Some.ensures.first in
    let bytes : c.in-Ok.bytes.items ≡ take gap.len (drop (done + gap.skip) c.args.payload.now) = search rules in
    let long : gap.len ≤ length (drop (done + gap.skip) c.args.payload.now) =
    omega (arith, length-drop (done + gap.skip) c.args.payload.now, c.requires.payload, first.within, inv.within) in
    let len : length c.in-Ok.bytes.items ≡ gap.len = ap length bytes ∙ length-take-le gap.len (drop (done + gap.skip) c.args.payload.now) long in
    let piece : Waiting = Copied (record { note = number; at = done + gap.skip; bytes = c.in-Ok.bytes }) in
    let one : Kept Waiting = record { position = origin now ((from + gap.skip) % 2 ^ 32) - 2 ^ 31; len = gap.len; piece = piece } in
    let items : marks_of_waiting piece ≡ take gap.len (drop (done + gap.skip) marks) = ap (marks_from number (done + gap.skip)) len
    ∙ marks-part number note.total (done + gap.skip) gap.len (omega (arith, first.within, inv.within)) in
    let taken : c.take.new.self ≡ with_taken now ((from + gap.skip) % 2 ^ 32) gap.len piece = search rules in
    rw taken (record {
      total = refl;
      entered = law.taken marks_of_waiting was now note.seq note.total 0 marks done from gap piece c.in-Some.ensures.sound inv.entered
          (place-is note.seq done) (subst (λ n. IsFirstGap now from (n - done) gap) (sym size) first) items;
      within = omega (arith, first.within, inv.within);
      over = λ f. omega (arith, over-with_kept (over_waiting f) now.kept one, inv.over f);
      short = omega (arith, over-with_kept short_len now.kept one, len, inv.short);
      notes = λ taken t is split came each. each-with_kept (IsOfNote taken) now.kept one
          (record {
            note = t;
            is = is;
            split = split;
            bytes = bytes ∙ ap (λ n. take n (drop (done + gap.skip) c.args.payload.now)) (sym len)
                ∙ ap (λ bs. take (length c.in-Ok.bytes.items) (drop (done + gap.skip) bs)) (sym came);
            few = omega (arith, len, first.within, c.requires.fields.few_bytes);
          })
          (inv.notes taken t is split came each);
    })

pub returns-after-loop-done-clause-enters : goal.returns-after-loop-done-clause-enters
returns-after-loop-done-clause-enters c = λ placed holds.
    let none_left : c.args.note.now.total ≤ c.loop-done.done = omega (arith, c.loop-done-test.false) in
    whole-entered c.args.queue.now c.loop-done.queue c.args.number c.args.note.now c.loop-done.done c.requires.fields c.loop-done.invariant.entered
    (λ place below. absurd (omega arith)) placed holds

pub returns-in_default-clause-enters : goal.returns-in_default-clause-enters
returns-in_default-clause-enters c = λ placed holds.
    let unwanted : AreUnwanted c.loop-done.queue ((c.args.note.now.seq + c.loop-done.done) % 2 ^ 32) (c.args.note.now.total - c.loop-done.done) = search
    rules in
    whole-entered c.args.queue.now c.loop-done.queue c.args.number c.args.note.now c.loop-done.done c.requires.fields c.loop-done.invariant.entered
    unwanted placed holds
