-- The frames that messages brought are the first of theirs.
use Rattle.std.proofs.Common.{◌≡◌, ◌∙◌, ℕ, List, [], ◌∷◌, ◌++◌, Option, refl, sym, ap, append-nil, append_assoc}
use Rattle.card_feed.specs.declared.intake.Stage.{Stage}
use Rattle.card_feed.specs.declared.intake.Stage.TheVariants as stage
use Rattle.replay_threads.specs.{declared.carried.Carried.{Carried}, Cards.{IsFrame, Brought, nothing, frame, ends, over, dropped}}
use Rattle.replay_threads.{specs.Laws.{CarriedLaw, frames_in}, proofs.Joined.{joined}}
use Rattle.replay_threads.specs.declared.carried.Carried.TheVariants as carried

frames-append : (one other : List Carried) → frames_in (one ++ other) ≡ frames_in one ++ frames_in other
frames-append [] other = refl
frames-append (carried.Frame number found bytes ∷ one) other = ap (λ frames. bytes.items ∷ frames) (frames-append one other)
frames-append (carried.Over end ∷ one) other = frames-append one other

frame-is : (m : Carried) (bytes : List ℕ) → IsFrame m bytes → frames_in (m ∷ []) ≡ bytes ∷ []
frame-is (carried.Frame number found content) bytes is = ap (λ b. b ∷ []) is
frame-is (carried.Over end) bytes is = absurd is

module _ (split : ℕ) (ports : List ℕ) where
  -- as long as the reading goes on each brought its own
  all-frames : (messages : List Carried) (frames : List (List ℕ)) (at : Stage) → at ≡ stage.Unopened → Brought split ports messages frames at
      → frames_in messages ≡ frames
  all-frames _ _ _ on nothing = refl
  all-frames _ _ _ on (frame before frames m bytes was follows is more) =
      frames-append before (m ∷ []) ∙ (ap (λ fs. fs ++ frames_in (m ∷ [])) (all-frames before frames stage.Unopened refl was)
      ∙ ap (λ fs. frames ++ fs) (frame-is m bytes is))
  all-frames _ _ _ on (ends before frames m bytes fault was follows is by) = absurd (cc)
  all-frames _ _ _ on (over before frames m end was follows is) = absurd (cc)
  all-frames _ _ _ on (dropped before frames m end was follows) = absurd (cc)

  -- and then what is behind is dropped
  pub in-order : (messages : List Carried) (frames : List (List ℕ)) (at : Stage) → Brought split ports messages frames at
      → (behind : List (List ℕ)) × (frames_in messages ≡ frames ++ behind)
  in-order _ _ _ nothing = ([], refl)
  in-order _ _ _ (frame before frames m bytes was follows is more) = (
    [],
    all-frames (before ++ m ∷ []) (frames ++ bytes ∷ []) stage.Unopened refl (frame before frames m bytes was follows is more)
        ∙ sym (append-nil (frames ++ bytes ∷ [])),
  )
  in-order _ _ _ (ends before frames m bytes fault was follows is by) = (
    frames_in (m ∷ []),
    frames-append before (m ∷ []) ∙ ap (λ fs. fs ++ frames_in (m ∷ [])) (all-frames before frames stage.Unopened refl was),
  )
  in-order _ _ _ (over before frames m end was follows is) = (
    frames_in (m ∷ []),
    frames-append before (m ∷ []) ∙ ap (λ fs. fs ++ frames_in (m ∷ [])) (all-frames before frames stage.Unopened refl was),
  )
  in-order _ _ _ (dropped before frames m end was follows) =
      let (behind, is) = in-order before frames (stage.Over end) was in (
        behind ++ frames_in (m ∷ []),
        frames-append before (m ∷ []) ∙ (ap (λ fs. fs ++ frames_in (m ∷ [])) is ∙ append_assoc frames behind (frames_in (m ∷ []))),
      )

pub carried-law : {S : Type 0} (left : S → Option (List ℕ)) (faults : S → ℕ) → CarriedLaw left faults
carried-law left faults source source_now stage_now split ports messages frames end made brought =
    let (behind, is) = in-order split ports messages frames (stage.Over end) brought in
    let (at, ahead, ended) = joined split ports left faults source messages frames (stage.Over end) brought source_now stage_now made in
    record { behind = behind; in_order = is; at = at; ahead = ahead; ended = ended }
