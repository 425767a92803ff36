-- What the shelf of an application that is gone has of a flow.
use Rattle.std.{proofs.Common.{◌≡◌, ◌≢◌, ℕ, List, [], ◌∷◌, ◌++◌, Option, Some, None, refl, sym, ap, subst, ◌∙◌, ⊎_elim, append-nil}, specs.Io.KnownBytes.{Keeps}}
use Rattle.zr_kinds.specs.declared.behaviour.Behaviour.{Behaviour}
use Rattle.zr_kinds.specs.declared.behaviour.Stopped.TheVariants as stop
use Rattle.zr_io.{specs.Moved.{Gained, ShelfCounts}, proofs.Moved.{Gained-weaker}}
use Rattle.board_face.specs.declared.views.app.{Reading.{Reading}, TakenNote.{TakenNote}, AppSide.{AppSide}}
use Rattle.app_worker.specs.{Marks.{FramesStandTogether, Mark, marks_of}, Core.{AreReadAt}}
use Rattle.flow_queues.{specs.{Ends.{AppEnd, HasLeft}, Streams.{IsFront}}, proofs.ReadLemmas.{are-many}}
use Rattle.card_feed.specs.Account.{IsFlowRead}
use Rattle.zc_poll.proofs.Pours.{is-no}

-- no mark, so no byte
no-byte : (taken : List TakenNote) (reads : List Reading) (read rest : List Mark) (bytes : List ℕ) → [] ≡ read ++ rest
    → AreReadAt taken reads read bytes → bytes ≡ []
no-byte taken reads [] rest [] parts are = refl
no-byte taken reads [] rest (b ∷ bytes) parts are = absurd are
no-byte taken reads (m ∷ read) rest bytes parts are = absurd (cc)

nothing-gained : (a b : Option (List ℕ)) (taken : List TakenNote) (reads : List Reading) → Gained a b (IsFront taken reads []) → Keeps a b
nothing-gained None b taken reads gained = tt
nothing-gained (Some xs) None taken reads gained = absurd gained
nothing-gained (Some xs) (Some ys) taken reads (bytes, is, front) =
    is ∙ ap (λ more. xs ++ more) (no-byte taken reads front.read front.rest bytes front.parts front.are) ∙ append-nil xs

module _ (first kept : ℕ → Option (List ℕ)) (losses losses_now : ShelfCounts) (how : Behaviour) (app : AppSide) (end : AppEnd)
    (has : HasLeft how first kept losses losses_now app.view end) (whole : FramesStandTogether app.view.taken) (number : ℕ) where
  pub flow-read : Gained (first number) (kept number) (IsFlowRead app end.stopped number)
  flow-read =
      let marks : List Mark = marks_of number app.view.taken in
      ⊎_elim
      (λ (no : end.stopped ≡ stop.No).
      Gained-weaker (first number) (kept number) (AreReadAt app.view.taken app.view.reads marks) (IsFlowRead app end.stopped number)
      (λ bytes are. record {
        front = record { read = marks; rest = []; parts = sym (append-nil marks); are = are };
        whole = λ goes. are-many app.view.taken app.view.reads marks bytes are;
      })
      (has.whole no whole number))
      (λ (other : end.stopped ≢ stop.No).
      Gained-weaker (first number) (kept number) (IsFront app.view.taken app.view.reads marks) (IsFlowRead app end.stopped number)
      (λ bytes front. record { front = front; whole = λ goes. absurd (other goes) })
      (has.fronts whole number))
      (is-no end.stopped)

  -- of a flow that has no mark it has nothing
  pub no-flow-read : marks_of number app.view.taken ≡ [] → Keeps (first number) (kept number)
  no-flow-read none = nothing-gained (first number) (kept number) app.view.taken app.view.reads
      (subst (λ marks. Gained (first number) (kept number) (IsFront app.view.taken app.view.reads marks)) none (has.fronts whole number))
