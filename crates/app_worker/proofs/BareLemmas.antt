-- Turns of an application that has nothing out.
use Rattle.std.proofs.Common.{◌≡◌, ℕ, ◌<◌, Bool, true, false, List, [], ◌∷◌, ◌++◌, Option, refl, sym, ap, subst, ◌∙◌, arith, inl, inr}
use Rattle.zr_kinds.specs.declared.behaviour.Stopped.TheVariants as stop
use Rattle.zr_kinds.specs.CopyingReceiver.{next_missing}
use Rattle.board_face.specs.{AppCalls.{AppOnlySaw, ToldEnd}, AppEvents.{told_end, app_saw}, declared.views.app.{TakenNote.{TakenNote}, AppView.{AppView}}}
use Rattle.board_face.specs.declared.views.app.AppLook.TheVariants.{NotQuiet, CardEnded, NoNote as no_note}
use Rattle.app_worker.specs.declared.turn.{Turn.{Turn, TheVariants.{Did, Idle, Finished, Failed}}, Why.TheVariants.{NoNote, NotQuiet as not_quiet}}
use Rattle.app_worker.specs.State.{State, Common, Bare, app_steps, one_if, queues_of}
use Rattle.app_worker.{specs.Turns.{AnswersTurn, Because, Passed, Turns, LooksForOne, turn_after}, proofs.Moving.{rose-before, rose-after}}
use Rattle.app_worker.proofs.Seeing.{goes-none, goes-saw, goes-still, common-saw}
use Rattle.app_worker.proofs.Noting.{bounded-past, common-noted, steps-noted, moves-noted, ends-kept, shelves-kept, fronts-kept}
use Rattle.app_worker.proofs.{TurnLemmas.{turns-bare, as-before, idle-for, after-busy, after-none}, Through.{goes-then}}
use Rattle.app_worker.proofs.Closing.{IsOut, bare-saw, turns-finished, scrubbed_state, scrubbed_view, bare-scrubbed, common-scrubbed, goes-scrubbed}
use Rattle.zr_kinds.specs.declared.fault.Fault.TheVariants as fault
use Rattle.flow_queues.{specs.{Core.{total, Each, many, own_notes, placed_of, LieApart, has_at, is_odd}, Leaving.{LeavesOnce, ScrubsOnce}}, proofs.Looks.{looks-more}}

-- nothing that is out lies over another
pub bare-apart : (v : AppView) → v.helds ≡ [] → v.loans ≡ [] → LieApart v
bare-apart v helds loans = record {
  once = λ b x. omega (arith, ap (total (λ h. has_at b x h.place)) helds, ap (total (λ l. has_at b x l.place)) loans);
  some = omega (arith, ap (total (λ h. is_odd v.setting.layout h.place)) helds, ap (total (λ l. is_odd v.setting.layout l.place)) loans);
}

module _ (st : State) (old : AppView) (bare : Bare st old) (is_bare : st.bare ≡ true) (common : Common st old) where
  -- ---- a note

  -- it took a note and has nothing out again
  pub bare-note : (new : AppView) (t : TakenNote) (kept : ℕ → Option (List ℕ)) (f : ℕ) → st.ended ≡ false
      → new ≡ record old { taken = old.taken ++ t ∷ [] } → Passed st old new kept f Did
  bare-note new t kept f more is = rw is (record {
    bare = bare_noted;
    common = common-noted st old noted t refl (queues_of st) refl
        (bounded-past old t st.flows (record { spares = common.spares; loans = common.bound })) common;
    goes = record {
      moves = moves-noted st old noted t refl (queues_of st) (λ n. omega arith);
      shelved = λ _ begin. shelves-kept st.flows old t bare.flows begin kept;
      failed = λ is begin exact front. fronts-kept st.flows old t bare.flows begin kept (front is);
    };
    answer = omega (arith, steps-noted st old noted t refl (queues_of st));
    few = inr (t, refl);
    idle = λ why e. absurd (cc);
    here = refl;
    quiet = refl;
    rests = record { state = refl; view = refl; kept_is = refl };
    looks = inl (t, refl);
  })
    where
      noted : AppView
      noted = record old { taken = old.taken ++ t ∷ [] }

      -- one that wasn't stopped has nothing out only once it ended
      over : st.stopped ≡ stop.No → ⊥
      over going = let ended : st.ended ≡ true = (bare.whole going).0 in absurd (cc)

      bare_noted : Bare st noted
      bare_noted =
          let whole : st.stopped ≡ stop.No → (st.ended ≡ true) × Each (λ f. f.bytes ≡ next_missing (placed_of f noted.taken)) st.flows =
          λ going. absurd (over going) in
          let known : st.stopped ≡ stop.No → (n : ℕ) → many n st.flows ≡ 0 → own_notes n noted.taken ≡ [] = λ going. absurd (over going) in
          assumption (ends-kept st.flows old t bare.flows, bare)

  pub bare-empty : (new : AppView) (kept : ℕ → Option (List ℕ)) (f : ℕ) → st.ended ≡ false → AppOnlySaw no_note old new
      → Passed st old new kept f (Idle NoNote)
  bare-empty new kept f more saw = rw saw.event (record {
    bare = bare-saw st old no_note bare;
    common = common-saw st old no_note common;
    goes = goes-saw st old no_note kept;
    answer = (rw saw.event at (as-before st old new no_note saw), rw saw.event at saw.rose);
    few = inl refl;
    idle = idle-for NoNote (λ w. Because w st old) (more, λ live. absurd (cc));
    here = refl;
    quiet = refl;
    rests = record { state = refl; view = refl; kept_is = refl };
    looks = inr (inl (rw saw.event at saw.rose));
  })

module _ (st : State) (old : AppView) (bare : Bare st old) (is_bare : st.bare ≡ true) (common : Common st old) (reaped : st.posted.entries ≡ []) where
  -- ---- leaving

  out-at-once : (kept : ℕ → Option (List ℕ)) → old.left ≡ false → st.ended ≡ true → IsOut st st old old kept kept
  out-at-once kept here ended = record {
    bare = bare;
    is_bare = is_bare;
    ended = ended;
    common = common;
    reaped = reaped;
    goes = goes-none st old kept;
    taken = refl;
    left = refl;
    here = here;
    same = refl;
    rests = λ _. record { state = refl; view = refl; kept_is = refl };
    quiet = λ _. refl;
  }

  pub bare-finished : (new : AppView) (kept : ℕ → Option (List ℕ)) (f : ℕ) (done : Bool) → old.left ≡ false → st.ended ≡ true
      → LeavesOnce st.scrubbed done old new true
      → Turns st (record st { scrubbed = done }) old new kept kept f f Finished
  bare-finished new kept f done here ended leaves = turns-finished st st old old new kept kept f f done (out-at-once kept here ended) leaves

  pub bare-not-quiet : (new : AppView) (kept : ℕ → Option (List ℕ)) (f : ℕ) (done : Bool) → st.ended ≡ true → LeavesOnce st.scrubbed done old new false
      → Turns st (record st { scrubbed = done }) old new kept kept f f (Idle not_quiet)
  bare-not-quiet new kept f done ended leaves =
      let saw = leaves.1 in
      rw (leaves.0, saw.event) (turns-bare (bare-saw st old NotQuiet bare) is_bare (common-saw st old NotQuiet common) reaped
      (goes-saw st old NotQuiet kept) (rw saw.event at (as-before st old new NotQuiet saw), rw saw.event at saw.rose) (inl refl)
      (idle-for not_quiet (λ w. (kept ≡ kept) × Because w st old) (refl, (is_bare, ended))) (λ _. refl) (λ live. absurd (cc)) refl
      (λ _. record { state = refl; view = refl; kept_is = refl }) (λ _ more. absurd (let over = ended in cc))
      (λ _ _. inr (rw saw.event at saw.rose, refl)))

  -- ---- the end is seen

  pub out-ended : (mid : AppView) (kept : ℕ → Option (List ℕ)) → old.left ≡ false → st.ended ≡ false → ToldEnd old mid
      → IsOut st (record st { ended = true }) old mid kept kept × (app_steps st old < app_steps (record st { ended = true }) mid)
  out-ended mid kept here more told = rw told.event (
    record {
      bare = search (λ (going : st.stopped ≡ stop.No). (bare.whole going).1);
      is_bare = is_bare;
      ended = refl;
      common = assumption;
      reaped = reaped;
      goes = goes-still st old (told_end old) true st.scrubbed kept (omega (arith, not_yet)) (looks-more old (told_end old) CardEnded refl)
          (λ notes. absurd (cc));
      taken = refl;
      left = refl;
      here = here;
      same = refl;
      rests = λ _. record { state = refl; view = refl; kept_is = refl };
      quiet = λ _. refl;
    },
    omega (arith, not_yet),
  )
    where
      not_yet : one_if old.ended ≡ 0
      not_yet = ap one_if (common.ended ∙ more)

-- ---- a turn that then asks whether its refill slots are quiet

module _ (st : State) (u w : AppView) (kept : ℕ → Option (List ℕ)) (f : ℕ) (turn : Turn) (is_bare : st.bare ≡ true)
    (reaped : st.posted.entries ≡ []) (passed : Passed st u w kept f turn) where
  not-live : {X : Type 0} → st.bare ≡ false → X
  not-live live = absurd (cc)

  -- as it is, where it has scrubbed before
  pub then-nothing : u.scrubbed ≡ true → Turns st st u w kept kept f f turn
  then-nothing before = turns-bare passed.bare is_bare passed.common reaped passed.goes passed.answer passed.few
      (λ why e. (refl, passed.idle why e)) (λ _. passed.here) (λ live. not-live live) refl (λ _. passed.rests) (λ _ _. passed.looks)
      (λ _ not_yet. absurd (cc))

  -- one was in use
  answers-saw : (t : Turn) → AnswersTurn st st u w f f t → AnswersTurn st st u (app_saw w NotQuiet) f f t
  answers-saw Did answer = omega (arith, answer)
  answers-saw (Idle why) answer = (
    record { state = answer.0.state; view = ap (λ (v : AppView). app_saw v NotQuiet) answer.0.view },
    rose-before answer.1 (looks-more w (app_saw w NotQuiet) NotQuiet refl),
  )
  answers-saw Finished answer = answer
  answers-saw (Failed fault.Memory) answer = answer
  answers-saw (Failed fault.Write) answer = answer
  answers-saw (Failed other) answer = absurd answer

  then-saw : (x : AppView) → AppOnlySaw NotQuiet w x → Turns st st u x kept kept f f turn
  then-saw x saw = rw saw.event (turns-bare (bare-saw st w NotQuiet passed.bare) is_bare (common-saw st w NotQuiet passed.common)
      reaped (goes-then passed.goes (goes-saw st w NotQuiet kept)) (answers-saw turn passed.answer) passed.few
      (λ why e. (refl, passed.idle why e)) (λ _. passed.here) (λ live. not-live live) refl
      (λ _. record {
        state = passed.rests.state;
        view = ap (λ (v : AppView). app_saw v NotQuiet) passed.rests.view;
        kept_is = passed.rests.kept_is;
      })
      (λ _ _. looks-later passed.looks)
      (λ _ _. inr (rose-after passed.goes.moves.looks (rw saw.event at saw.rose), passed.quiet)))
    where
      looks-later : LooksForOne st u w → LooksForOne st u (app_saw w NotQuiet)
      looks-later (inl one) = inl one
      looks-later (inr (inl none)) = inr (inl (rose-before none (looks-more w (app_saw w NotQuiet) NotQuiet refl)))
      looks-later (inr (inr over)) = inr (inr over)

  -- each was free
  answers-scrubbed : (quiet : Bool) → st.scrubbed ≡ false → (t : Turn) → AnswersTurn st st u w f f t
      → AnswersTurn st (scrubbed_state st) u (scrubbed_view w quiet w.left) f f (turn_after true t)
  answers-scrubbed quiet not_yet Did answer = omega (arith, passed.goes.moves.steps, ap one_if not_yet)
  answers-scrubbed quiet not_yet (Idle why) answer = omega (arith, passed.goes.moves.steps, ap one_if not_yet)
  answers-scrubbed quiet not_yet Finished answer = answer
  answers-scrubbed quiet not_yet (Failed fault.Memory) answer = answer
  answers-scrubbed quiet not_yet (Failed fault.Write) answer = answer
  answers-scrubbed quiet not_yet (Failed other) answer = absurd answer

  then-scrubbed : (x : AppView) (done : Bool) → st.scrubbed ≡ false → ScrubsOnce st.scrubbed done w x true
      → Turns st (record st { scrubbed = done }) u x kept kept f f (turn_after true turn)
  then-scrubbed x done not_yet scrubs =
      let quiet : Bool = x.quiet in
      rw (scrubs.0, scrubs.1.view) (turns-bare (bare-scrubbed st w quiet w.left passed.bare) is_bare
      (common-scrubbed st w quiet w.left passed.common)
      reaped (goes-then passed.goes (goes-scrubbed st w quiet w.left kept (omega arith))) (answers-scrubbed quiet not_yet turn passed.answer)
      passed.few (λ why e. absurd (after-busy turn why e)) (λ _. passed.here) (λ live. not-live live) refl
      (λ _. record {
        state = ap scrubbed_state passed.rests.state;
        view = ap (λ (v : AppView). scrubbed_view v quiet v.left) passed.rests.view;
        kept_is = passed.rests.kept_is;
      })
      (λ _ _. looks-later passed.looks) (λ _ _. inl refl))
    where
      looks-later : LooksForOne st u w → LooksForOne (scrubbed_state st) u (scrubbed_view w x.quiet w.left)
      looks-later (inl one) = inl one
      looks-later (inr (inl none)) = inr (inl (record { rose = none.rose }))
      looks-later (inr (inr over)) = inr (inr over)

  pub then-done : (x : AppView) (done did : Bool) → st.scrubbed ≡ false → ScrubsOnce st.scrubbed done w x did
      → Turns st (record st { scrubbed = done }) u x kept kept f f (turn_after did turn)
  then-done x done true not_yet scrubs = then-scrubbed x done not_yet scrubs
  then-done x done false not_yet scrubs =
      subst (λ b. Turns st (record st { scrubbed = b }) u x kept kept f f (turn_after false turn)) (sym scrubs.0)
      (subst (Turns st st u x kept kept f f) (sym (after-none turn)) (then-saw x scrubs.1))
