-- The reading goes on: messages are made behind messages, and turns come behind turns.
use Rattle.std.proofs.Common.{◌≡◌, ℕ, suc, ◌+◌, ◌≤◌, List, [], ◌∷◌, ◌++◌, length, Option, Some, Vec, Global}
use Rattle.std.proofs.Common.{refl, sym, ap, subst, ◌∙◌, append_assoc, append-nil, length-append, arith}
use Rattle.zr_kinds.specs.{Limits.{most_records}, declared.fault.Fault.TheVariants.{TooManyFrames}}
use Rattle.pcap_reader.specs.declared.capture.Record.{Record}
use Rattle.card_feed.proofs.Framing.{ending-limit}
use Rattle.card_feed.specs.{declared.{intake.Stage.{Stage}, arrived.Arrived.TheVariants.{Frame}}, Coming.{ComesTo, Arrives, TookBytes}, Offered.{WantsRoom}}
use Rattle.card_feed.proofs.Further.{took-same, took-then}
use Rattle.replay_threads.specs.{declared.{carried.Carried.{Carried, TheVariants.{Over}}, reader.Reader.{Reader}}, Made.{MakesMessage, IsMade}}
use Rattle.replay_threads.specs.Reader.{messages_of, ReaderGoes}

module _ {S : Type 0} (left : S → Option (List ℕ)) (faults : S → ℕ) where
  -- ---- messages

  -- messages that were made behind others
  pub made-join : (count later : ℕ) (a b c : S) (s t u : Stage) (before after : List Carried) → later ≡ count + length before
      → IsMade left faults count a s before b t → IsMade left faults later b t after c u → IsMade left faults count a s (before ++ after) c u
  made-join count later a b c s t u [] after at first then =
      let here : later ≡ count = omega arith in
      subst (λ (n : ℕ). IsMade left faults n a s after c u) here
      (subst (λ (x : S). IsMade left faults later x s after c u) (sym first.0)
      (subst (λ (x : Stage). IsMade left faults later b x after c u) (sym first.1) then))
  made-join count later a b c s t u (message ∷ before) after at (mid, mid_stage, makes, made) then =
      (mid, mid_stage, makes, made-join (suc count) later mid b c mid_stage t u before after (omega arith) made then)

  -- The first of some messages were made, and then the others.
  pub record AreMadeInTwo (count : ℕ) (a : S) (s : Stage) (before after : List Carried) (c : S) (u : Stage) : Type 0 where
    pub mid : S
    pub mid_stage : Stage
    pub first : IsMade left faults count a s before mid mid_stage
    pub then : IsMade left faults (count + length before) mid mid_stage after c u

  pub made-split : (count : ℕ) (a c : S) (s u : Stage) (before after : List Carried) → IsMade left faults count a s (before ++ after) c u
      → AreMadeInTwo count a s before after c u
  made-split count a c s u [] after made = record {
    mid = a;
    mid_stage = s;
    first = (refl, refl);
    then = subst (λ (n : ℕ). IsMade left faults n a s after c u) (omega arith) made;
  }
  made-split count a c s u (message ∷ before) after (mid, mid_stage, makes, made) =
      let split = made-split (suc count) mid c mid_stage u before after made in
      record {
        mid = split.mid;
        mid_stage = split.mid_stage;
        first = (mid, mid_stage, makes, split.first);
        then = subst (λ (n : ℕ). IsMade left faults n split.mid split.mid_stage after c u) (omega arith) split.then;
      }

  -- the last of some messages, from the first on
  pub made-last : (a c : S) (s u : Stage) (before : List Carried) (message : Carried) → IsMade left faults 0 a s (before ++ message ∷ []) c u
      → (mid : S) × (mid_stage : Stage) × IsMade left faults 0 a s before mid mid_stage × MakesMessage left faults (length before) mid mid_stage message c u
  made-last a c s u before message made =
      let split = made-split 0 a c s u before (message ∷ []) made in
      let (b, t, makes, end) = split.then in
      let many : 0 + length before ≡ length before = omega arith in (
        split.mid,
        split.mid_stage,
        split.first,
        subst (λ (n : ℕ). MakesMessage left faults n split.mid split.mid_stage message c u) many
            (subst (λ (x : S). MakesMessage left faults (0 + length before) split.mid split.mid_stage message x u) end.0
            (subst (λ (x : Stage). MakesMessage left faults (0 + length before) split.mid split.mid_stage message b x) end.1 makes)),
      )

  -- what they took of the source
  pub made-further : (count : ℕ) (a b : S) (s t : Stage) (messages : List Carried) → IsMade left faults count a s messages b t
      → TookBytes (left a) (left b)
  made-further count a b s t [] made = subst (λ (x : S). TookBytes (left a) (left x)) made.0 (took-same (left a))
  made-further count a b s t (message ∷ messages) (mid, mid_stage, makes, made) =
      took-then (left a) (left mid) (left b) makes.further (made-further (suc count) mid b mid_stage t messages made)

  pub made-later : (count : ℕ) (a b : S) (s t : Stage) (messages : List Carried) → IsMade left faults count a s messages b t → faults a ≤ faults b
  made-later count a b s t [] made = subst (λ (x : S). faults a ≤ faults x) made.0 (omega arith)
  made-later count a b s t (message ∷ messages) (mid, mid_stage, makes, made) =
      let rest = made-later (suc count) mid b mid_stage t messages made in
      let step = makes.later in
      omega (arith, step, rest)

  -- ---- turns

  pub reads_same : (source : S) (reader : Reader) → ReaderGoes left faults source source reader reader
  reads_same source reader = record {
    more = [];
    made = sym (append-nil (messages_of reader));
    is_made = (refl, refl);
    ring = ((refl, refl, refl, refl), refl);
    done = λ done. done;
  }

  pub reads_more : (a b c : S) (u v w : Reader) → ReaderGoes left faults a b u v → ReaderGoes left faults b c v w → ReaderGoes left faults a c u w
  reads_more a b c u v w before after =
      let count : length (messages_of v) ≡ length (messages_of u) + length before.more =
      ap length before.made ∙ length-append (messages_of u) before.more in
      record {
        more = before.more ++ after.more;
        made = after.made ∙ ap (λ l. l ++ after.more) before.made ∙ append_assoc (messages_of u) before.more after.more;
        is_made = made-join (length (messages_of u)) (length (messages_of v)) a b c u.stage v.stage w.stage before.more after.more count before.is_made
            after.is_made;
        ring = (
          (
            after.ring.0.0 ∙ before.ring.0.0,
            after.ring.0.1 ∙ before.ring.0.1,
            after.ring.0.2 ∙ before.ring.0.2,
            after.ring.0.3 ∙ before.ring.0.3,
          ),
          after.ring.1 ∙ before.ring.1,
        );
        done = λ done. after.done (before.done done);
      }

  -- ---- the last record that is read

  -- a record behind so many ends the reading
  pub makes-limit : (a b : S) (s t : Stage) (count : ℕ) → count ≡ most_records → (found : Record) (bytes : Vec ℕ Global)
      → ((split : ℕ) (first : S) (ports : List ℕ) (frames : List (List ℕ)) → ComesTo (WantsRoom split ports) left faults first a ports s frames
      → Arrives (WantsRoom split ports) left faults first b ports t frames (Frame found bytes))
      → TookBytes (left a) (left b) → faults a ≤ faults b → (later : Stage) → MakesMessage left faults count a s (Over (Some TooManyFrames)) b later
  makes-limit a b s t count limit found bytes reads further rises later = record {
    brings = λ split first ports frames many comes.
        (reads split first ports frames comes).ends TooManyFrames (ending-limit ports frames bytes.items (many ∙ limit));
    further = further;
    later = rises;
  }
