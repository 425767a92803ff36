-- Where the ring is empty nothing moves. An entry of which something is owed lowers two counts, and any other is a stray.
use Rattle.std.{proofs.Common.{◌≡◌, ℕ, ◌<◌, refl, ap, sym, ◌∙◌, Some, arith, ◌≤◌, ⊎_elim}, specs.Prelude.{◌==◌, ◌&&◌, nat_lt, Bool, true, false}}
use Rattle.std.proofs.lemmas.Bool.{ltb-true, lt-ltb, cases_lt}
use Rattle.board_face.{proofs.LookLemmas.{NicRose-nic_saw}, specs.declared.views.nic.NicLook.TheVariants.{RingEmpty}}
use Rattle.area_layout.specs.Layout.{judged, pool_buffers}
use Rattle.plain_board.{proofs.{AppFrames.{here-of}, Card.{within-setting}, Freeing.{and-right}, Still.{IsSound-saw}, Popping.{rings-same}}, specs.Events.{IsReturn}}
use Rattle.plain_board.proofs.Straying.{IsSound-passed_over, PassedOver-passed_over}
use Rattle.plain_board.proofs.Honouring.{is_held, owes_one, IsSound-honoured, came-zero, came-pool, came-code, FreedEntry-honoured, HonouredEntry-honoured}
use Rattle.plain_board.proofs.Seeing.{IsJudged-passed_over, IsJudged-honoured, NicTold-empty, NicTold-passed_over, NicTold-honoured}
use Rattle.plain_board.proofs.contents.Contents.entry.Goals.{then-free, else-free}
use Rattle.plain_board.proofs.contents.Contents.entry.Goals as goal
use Rattle.zr_kinds.proofs.Lists.{front-some, front-none}

and-left : (c d : Bool) → (c && d) ≡ true → c ≡ true
and-left true d e = refl
and-left false d e = absurd (let none : ⊥ = cc in none)

and-of : (c d : Bool) → c ≡ true → (c && d) ≡ false → d ≡ false
and-of true d is e = e
and-of false d is e = absurd (let none : ⊥ = cc in none)

not-below : (c : Bool) (i n : ℕ) → c ≡ true → (c && nat_lt i n) ≡ false → n ≤ i
not-below c i n is e = ⊎_elim (λ less. absurd (let one = lt-ltb i n less in let zero_is = and-of c (nat_lt i n) is e in let none : ⊥ = cc in none))
    (λ past. past) (cases_lt i n)

pub invariant_of-self : goal.invariant_of-self
invariant_of-self c =
    let empty = rings-same c.self.inside.refills.items c.args.app (front-none _ (sym c.take_front.ensures.front ∙ c.in_default.is)) in
    rw (c.note.ensures, c.take_front.ensures.rings, empty) (IsSound-saw _ (RingEmpty c.args.app) c.self.invariant.0, c.self.invariant.1)

pub returns-in_default-clause-view : goal.returns-in_default-clause-view
returns-in_default-clause-view c =
    rw (← c.self.view_is, c.note.ensures) record {
      event = refl;
      rose = record { rose = (NicRose-nic_saw c.self.inside.nic.view (RingEmpty c.args.app)).rose };
    }

pub returns-in_default-clause-told : goal.returns-in_default-clause-told
returns-in_default-clause-told c =
    let sound = c.self.invariant.0 in
    let few = within-setting _ _ c.self.invariant.0 (rw (← c.self.view_is) at c.requires) in
    let empty = front-none _ (sym c.take_front.ensures.front ∙ c.in_default.is) in
    rw (← c.self.view_is, c.note.ensures) (NicTold-empty _ sound c.args.app (let many = sound.set.many in omega arith) empty)

pub invariant_of-self-in_default-owed_buffer : goal.invariant_of-self-in_default-owed_buffer
invariant_of-self-in_default-owed_buffer c =
    let sound = c.self.invariant.0 in
    let here = here-of _ c.args.app sound (within-setting _ _ c.self.invariant.0 (rw (← c.self.view_is) at c.requires)) in
    let found = front-some _ c.in-Some.entry (sym c.take_front.ensures.front ∙ c.in-Some.is) in
    let none = rw c.as_slice.ensures.value at c.in_default-owed_buffer.ensures in
    rw (c.note-in_default-owed_buffer.ensures, c.take_front.ensures.rings, c.lower_if_some.ensures)
    (IsSound-passed_over _ c.args.app _ c.in-Some.entry _ sound here found none, c.self.invariant.1)

pub returns-in_default-owed_buffer-clause-view : goal.returns-in_default-owed_buffer-clause-view
returns-in_default-owed_buffer-clause-view c =
    rw (← c.self.view_is, c.note-in_default-owed_buffer.ensures) (PassedOver-passed_over c.self.inside.nic.view c.args.app c.in-Some.entry)

pub returns-in_default-owed_buffer-clause-told : goal.returns-in_default-owed_buffer-clause-told
returns-in_default-owed_buffer-clause-told c =
    let sound = c.self.invariant.0 in
    let few = within-setting _ _ c.self.invariant.0 (rw (← c.self.view_is) at c.requires) in
    let none = rw c.as_slice.ensures.value at c.in_default-owed_buffer.ensures in
    rw (← c.self.view_is, c.note-in_default-owed_buffer.ensures)
    (NicTold-passed_over _ sound c.args.app c.in-Some.entry (let many = sound.set.many in omega arith) none)

pub returns-in_default-owed_buffer-clause-judged : goal.returns-in_default-owed_buffer-clause-judged
returns-in_default-owed_buffer-clause-judged c = λ some.
    let sound = c.self.invariant.0 in
    let few = within-setting _ _ c.self.invariant.0 (rw (← c.self.view_is) at c.requires) in
    let none = rw c.as_slice.ensures.value at c.in_default-owed_buffer.ensures in
    rw (← c.self.view_is, c.note-in_default-owed_buffer.ensures)
    (IsJudged-passed_over _ sound c.args.app c.in-Some.entry _ (let many = sound.set.many in omega arith) none)

pub lower-left-requires-clause-some : goal.lower-left-requires-clause-some
lower-left-requires-clause-some c =
    let sound = c.self.invariant.0 in
    let here = here-of _ c.args.app sound (within-setting _ _ c.self.invariant.0 (rw (← c.self.view_is) at c.requires)) in
    let found = front-some _ c.in-Some.entry (sym c.take_front.ensures.front ∙ c.in-Some.is) in
    let owed = rw c.as_slice.ensures.value at c.in-Some-owed_buffer.ensures in
    is_held _ c.args.app c.in-Some-owed_buffer.buffer _ c.in-Some.entry _ sound here found owed.0 owed.1 owed.2

pub invariant_of-self-2 : goal.invariant_of-self-2
invariant_of-self-2 c =
    let sound = c.self.invariant.0 in
    let here = here-of _ c.args.app sound (within-setting _ _ c.self.invariant.0 (rw (← c.self.view_is) at c.requires)) in
    let found = front-some _ c.in-Some.entry (sym c.take_front.ensures.front ∙ c.in-Some.is) in
    let owed = rw c.as_slice.ensures.value at c.in-Some-owed_buffer.ensures in
    let b = c.in-Some-owed_buffer.buffer in
    let zero_is = ap (λ n. n == 0) c.lower-left.ensures.left in
    let after = IsSound-honoured _ c.args.app b _ c.in-Some.entry _ sound here found owed.0 owed.1 owed.2 (c.lower-left.result == 0) _ _ refl refl
    (came-zero _ c.args.app b _ c.in-Some.entry _ sound here found owed.0 owed.1 owed.2 (c.lower-left.result == 0) _ zero_is)
    (came-pool _ c.args.app b _ c.in-Some.entry _ sound here found owed.0 owed.1 owed.2 (c.lower-left.result == 0)) in
    let came = c.came_free-free.ensures ∙ came-code _ c.args.app b _ c.in-Some.entry _ sound here found owed.0 owed.1 owed.2 (c.lower-left.result == 0) in
    rw (
      c.note-2.ensures,
      c.free_if.ensures.cache,
      c.free_if.ensures.listed,
      c.lower.ensures.counts,
      c.lower-left.ensures.counts,
      c.take_front.ensures.rings,
      c.lower_if_some.ensures,
      c.user_index-user.ensures,
      came,
    ) (after, c.self.invariant.1)

pub returns-clause-view : goal.returns-clause-view
returns-clause-view c =
    let sound = c.self.invariant.0 in
    let v = c.self.inside.nic.view in
    let i = c.in-Some-owed_buffer.buffer in
    let owed = rw c.as_slice.ensures.value at c.in-Some-owed_buffer.ensures in
    let pools = ap (λ s. pool_buffers s.layout) sound.set.card in
    let named : judged v.setting.layout c.in-Some.entry ≡ Some i = ap (λ s. judged s.layout c.in-Some.entry) sound.set.card ∙ owed.0 in
    elim c.if-free.branch [
      | then-free w ↦
          let both = sym c.came_free-free.ensures ∙ w.if-free.true in
          let of_pool : i < pool_buffers v.setting.layout = rw pools (ltb-true i (pool_buffers c.self.inside.layout) (and-right _ _ both)) in
          rw (← c.self.view_is, c.note-2.ensures, w.answer-is, and-left (c.lower-left.result == 0) _ both)
          (FreedEntry-honoured v c.args.app i c.in-Some.entry named of_pool)
      | else-free w ↦
          let both = sym c.came_free-free.ensures ∙ w.if-free.false in
          rw (← c.self.view_is, c.note-2.ensures, w.answer-is)
          (HonouredEntry-honoured v c.args.app i c.in-Some.entry _ named (λ last. rw pools (not-below _ i (pool_buffers c.self.inside.layout) last both)))
    ]

pub returns-clause-told : goal.returns-clause-told
returns-clause-told c =
    let sound = c.self.invariant.0 in
    let here = here-of _ c.args.app sound (within-setting _ _ c.self.invariant.0 (rw (← c.self.view_is) at c.requires)) in
    let found = front-some _ c.in-Some.entry (sym c.take_front.ensures.front ∙ c.in-Some.is) in
    let owed = rw c.as_slice.ensures.value at c.in-Some-owed_buffer.ensures in
    let i = c.in-Some-owed_buffer.buffer in
    let held = is_held _ c.args.app i _ c.in-Some.entry _ sound here found owed.0 owed.1 owed.2 in
    rw (← c.self.view_is, c.note-2.ensures) (NicTold-honoured _ sound c.args.app i c.lower-left.result c.in-Some.entry
    here.there owed.1 owed.2 held c.lower-left.ensures.left)

pub returns-clause-judged : goal.returns-clause-judged
returns-clause-judged c = λ some.
    let sound = c.self.invariant.0 in
    let few = within-setting _ _ c.self.invariant.0 (rw (← c.self.view_is) at c.requires) in
    let owed = rw c.as_slice.ensures.value at c.in-Some-owed_buffer.ensures in
    rw (← c.self.view_is, c.note-2.ensures) (IsJudged-honoured _ sound c.args.app c.in-Some-owed_buffer.buffer c.in-Some.entry _ _
    (let many = sound.set.many in omega arith) owed.0 owed.1 owed.2)

pub returns-clause-returned : goal.returns-clause-returned
returns-clause-returned c =
    let sound = c.self.invariant.0 in
    let here = here-of _ c.args.app sound (within-setting _ _ c.self.invariant.0 (rw (← c.self.view_is) at c.requires)) in
    let found = front-some _ c.in-Some.entry (sym c.take_front.ensures.front ∙ c.in-Some.is) in
    let owed = rw c.as_slice.ensures.value at c.in-Some-owed_buffer.ensures in
    let one = owes_one _ c.args.app c.in-Some-owed_buffer.buffer _ c.in-Some.entry _ sound here found owed.0 owed.1 owed.2 in
    let answered = elim c.if-free.branch as (λ w. IsReturn c.if-free.answer) [ then-free w ↦ rw w.answer-is tt | else-free w ↦ rw w.answer-is tt ] in
    rw (← c.self.view_is, c.note-2.ensures)
    (answered, record { entry = c.in-Some.entry; last = c.lower-left.result == 0; owed = one; event = refl })

pub returns-in_default-clause-only : goal.returns-in_default-clause-only
returns-in_default-clause-only c = record { apps = rw (← c.self.view_is) refl; sound = (invariant_of-self c).0 }

pub returns-in_default-owed_buffer-clause-only : goal.returns-in_default-owed_buffer-clause-only
returns-in_default-owed_buffer-clause-only c = record { apps = rw (← c.self.view_is) refl; sound = (invariant_of-self-in_default-owed_buffer c).0 }

pub returns-clause-only : goal.returns-clause-only
returns-clause-only c = record { apps = rw (← c.self.view_is) refl; sound = (invariant_of-self-2 c).0 }
