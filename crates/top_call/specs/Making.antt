-- What `make` leaves.
use Rattle.std.specs.{Prelude.{◌≡◌, ℕ, [], ◌∷◌, ◌==◌, true, take}, List.{list_any}, Io.KnownBytes.{Appends}}
use Rattle.zr_kinds.specs.{Fault.{number_of}, declared.fault.Fault.TheVariants.{Memory, Write}}
use Rattle.zr_io.specs.Moved.{Rose}
use Rattle.cap_make.specs.GeneratedCapture.{generated_capture}
use Rattle.top_call.specs.Worlds.{Seen, World, sink_in}

-- What `make` with this seed and number of frames leaves, and what its answer says.
pub record Makes {S T O : Type 0} {m : Seen S T O} (before after : World m) (seed frames answer : ℕ) : Type 0 where
  -- Neither the source nor a shelf is touched.
  pub ends_are : after.ends ≡ before.ends
  pub kind : list_any (λ n. n == answer) (0 ∷ number_of Memory ∷ number_of Write ∷ []) ≡ true
  -- With 0 the sink gained the whole capture, and none of its calls failed.
  pub whole : answer ≡ 0 → Appends (sink_in before).sent (sink_in after).sent (generated_capture seed frames)
      × ((sink_in after).failed ≡ (sink_in before).failed)
  -- With `Write` it gained a front of the capture, and one of its calls failed.
  pub lost : answer ≡ number_of Write
      → ((n : ℕ) × Appends (sink_in before).sent (sink_in after).sent (take n (generated_capture seed frames)))
      × Rose (sink_in before).failed (sink_in after).failed
  -- With `Memory` there was no memory to read the words.
  pub unmade : answer ≡ number_of Memory → after.out ≡ before.out
