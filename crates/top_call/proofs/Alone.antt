-- A run on this thread alone lacks memory as one whose capture is read beside the card.
use Rattle.std.{proofs.Common.{◌≡◌, refl, inl, inr}, specs.Prelude.{Result, Ok, Err, OnErr}}
use Rattle.card_feed.specs.declared.plan.Plan.{Plan}
use Rattle.run_account.{specs.{Ran.{RunLacksMemory, RunLacksMemoryBeside}, Views.{Ends, Streams}}, proofs.ReadOn.{HasReadOn-refl}}

module _ {S T : Type 0} {m : Streams S T} (was now : Ends m) (plan : Plan) where
  lacks-beside : RunLacksMemory was now plan → RunLacksMemoryBeside was now plan
  lacks-beside (inl untouched) = inl untouched
  lacks-beside (inr (told, nic, apps, ran)) =
      inr (told, nic, apps, record { at = now.source; ahead = HasReadOn-refl m.source now.source told.end; ran = ran })

  -- where the run ended so, and the card stayed as it was
  pub lacks-alone : {A E C : Type 0} (result : Result A E) (card : C) → RunLacksMemory was now plan
      → OnErr result (RunLacksMemoryBeside was now plan × (card ≡ card))
  lacks-alone (Ok value) card lacks = tt
  lacks-alone (Err error) card lacks = (lacks-beside lacks, refl)
