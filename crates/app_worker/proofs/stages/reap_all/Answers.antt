use Rattle.std.proofs.Common.{rules, ◌≡◌, ◌<◌, List, [], ◌∷◌, ◌++◌, length, refl, sym, ap, ◌∙◌, arith, append_assoc, length-append}
use Rattle.std.specs.Prelude.{Result, Ok, Err, IsOk, OnOk}
use Rattle.zr_kinds.specs.declared.ring.Completion.{Completion}
use Rattle.completion_ring.specs.Ring.{Ring, ring}
use Rattle.circular_buffer.specs.Buffer.{Buffer, buffer}
use Rattle.flow_queues.specs.declared.queues.Lending.{Lending}
use Rattle.app_worker.specs.State.{State}
use Rattle.app_worker.proofs.stages.reap_all.Goals as goal

on-ok : {T E : Type 0} (r : Result T E) (P : Type 0) → IsOk r → OnOk r P → P
on-ok (Ok x) P is p = p
on-ok (Err e) P is p = absurd (cc)

pub loop-entry-init : goal.loop-entry-init
loop-entry-init c = (refl, refl, refl)

pub loop-entry-preserved : goal.loop-entry-preserved
loop-entry-preserved c =
    let inv = c.loop-entry.invariant in
    let e : Completion × Lending = c.in-Some.entry in
    let xs : List (Completion × Lending) = c.loop-entry.st.reader.unread.items in
    let rest : List (Completion × Lending) = c.reap.new.self.entries in
    let oldest : c.loop-entry.st.posted ≡ ring (e ∷ rest) c.reap.new.self.places = search rules in
    let entries : c.loop-entry.st.posted.entries ≡ e ∷ rest = ap (λ (r : Ring (Completion × Lending)). r.entries) oldest in
    let places : c.loop-entry.st.posted.places ≡ c.reap.new.self.places = ap (λ (r : Ring (Completion × Lending)). r.places) oldest in
    let capacity : c.loop-entry.st.reader.unread.capacity ≡ c.args.st.now.reader.unread.capacity = ap (λ (s : State). s.room) inv.1 in
    let sum : length (xs ++ c.loop-entry.st.posted.entries) ≡ length (c.args.st.now.reader.unread.items ++ c.args.st.now.posted.entries) = ap length inv.0 in
    let room : length xs < c.loop-entry.st.reader.unread.capacity =
    omega (
      arith,
      sum,
      length-append xs c.loop-entry.st.posted.entries,
      length-append c.args.st.now.reader.unread.items c.args.st.now.posted.entries,
      ap length entries,
      capacity,
      c.requires,
    ) in
    let pushed : c.try_push_back.new.self ≡ buffer (xs ++ e ∷ []) c.loop-entry.st.reader.unread.capacity = on-ok c.try_push_back.result _
    (c.try_push_back.ensures.variant.1 room) c.try_push_back.ensures.ok in
    let items : c.try_push_back.new.self.items ≡ xs ++ e ∷ [] = ap (λ (b : Buffer (Completion × Lending)). b.items) pushed in
    let same_capacity : c.try_push_back.new.self.capacity ≡ c.loop-entry.st.reader.unread.capacity = ap
    (λ (b : Buffer (Completion × Lending)). b.capacity) pushed in
    rw (items, same_capacity) (
      append_assoc xs (e ∷ []) rest ∙ ap (λ es. xs ++ es) (sym entries) ∙ inv.0,
      ap (λ (s : State). record s { unread = xs ++ e ∷ []; posted = c.reap.new.self }) inv.1,
      sym places ∙ inv.2,
    )
