-- What the shelf has since the first step.
use Rattle.std.{proofs.Common.{◌≤◌, ◌≡◌, ℕ, ◌+◌, ◌<◌, List, ◌∷◌, ◌++◌, Option, Some, None, IsSome, refl, sym, ap, subst, ◌∙◌, arith}, specs.Io.KnownBytes.{Keeps}}
use Rattle.std.proofs.KnownBytes.{Keeps-trans}
use Rattle.zr_kinds.specs.{declared.ring.Completion.{Completion}, CopyingReceiver.{values_from}}
use Rattle.zr_io.{specs.Moved.{Gained}, proofs.Moved.{Gained-then, Gained-weaker}}
use Rattle.board_face.specs.declared.views.app.{TakenNote.{TakenNote}, AppView.{AppView}}
use Rattle.flow_queues.specs.{declared.queues.{Lending.{Lending}, FlowQueue.{FlowQueue}}, Marks.{Mark}}
use Rattle.flow_queues.{specs.{Core.{AreReadAt, OnlyReads, FlowStands, Stands, Each, many, placed_of}, Shelves.{IsShelved, AreShelved}}, proofs.Tokens.{total-append}}
use Rattle.flow_queues.proofs.{ReadLemmas.{all-grow, read-append}, Placing.{values-split}, Standing.{is_number, each-right, each-changed, many-same, number-is}}
use Rattle.app_worker.{specs.Whole.{Appended}, proofs.LoansStand.{IsNextRead, is-next, own-stands}}

gained-kept : (a b c : Option (List ℕ)) (P : List ℕ → Type 0) → Gained a b P → Keeps b c → Gained a c P
gained-kept None b c P gained kept = tt
gained-kept (Some xs) None c P gained kept = absurd gained
gained-kept (Some xs) (Some ys) None P gained kept = absurd kept
gained-kept (Some xs) (Some ys) (Some zs) P (bytes, e, p) kept = (bytes, kept ∙ e, p)

-- of another flow than that which was read
pub shelved-other : (first kept now : ℕ → Option (List ℕ)) (taken : List TakenNote) (old new : AppView) (f : FlowQueue) → OnlyReads old new
    → Keeps (kept f.number) (now f.number) → IsShelved first kept taken old.reads f → IsShelved first now taken new.reads f
shelved-other first kept now taken old new f only keeps shelved = record {
  gained = gained-kept (first f.number) (kept f.number) (now f.number)
      (λ bytes. AreReadAt taken new.reads (values_from (placed_of f taken).at f.bytes 0) bytes)
      (Gained-weaker (first f.number) (kept f.number) (λ bytes. AreReadAt taken old.reads (values_from (placed_of f taken).at f.bytes 0) bytes)
      (λ bytes. AreReadAt taken new.reads (values_from (placed_of f taken).at f.bytes 0) bytes)
      (λ bytes are. subst (λ rs. AreReadAt taken rs (values_from (placed_of f taken).at f.bytes 0) bytes) (sym only.are)
      (all-grow taken old.reads only.more (values_from (placed_of f taken).at f.bytes 0) bytes are)) shelved.gained) keeps;
}

-- and of this
pub shelved-appended : (first kept now : ℕ → Option (List ℕ)) (taken : List TakenNote) (old new : AppView) (own : FlowQueue) (len : ℕ)
    → OnlyReads old new → ((q : ℕ) → q < own.bytes + len → IsSome ((placed_of own taken).at q)) → Appended own taken new len kept now
    → IsShelved first kept taken old.reads own → IsShelved first now taken new.reads (record own { bytes = own.bytes + len })
shelved-appended first kept now taken old new own len only there appended shelved =
    let at : ℕ → Option Mark = (placed_of own taken).at in
    let start : 0 + own.bytes ≡ own.bytes = omega arith in
    let all : values_from at (own.bytes + len) 0 ≡ values_from at own.bytes 0 ++ values_from at len own.bytes =
    values-split at own.bytes len 0 (λ q from until. there q (omega arith)) ∙ ap (λ p. values_from at own.bytes 0 ++ values_from at len p) start in
    record {
      gained = Gained-then (first own.number) (kept own.number) (now own.number) (λ bytes. AreReadAt taken old.reads (values_from at own.bytes 0) bytes)
          (λ bytes. AreReadAt taken new.reads (values_from at len own.bytes) bytes)
          (λ bytes. AreReadAt taken new.reads (values_from at (own.bytes + len) 0) bytes)
          (λ xs ys was is.
          let grow : AreReadAt taken new.reads (values_from at own.bytes 0) xs = subst (λ rs. AreReadAt taken rs (values_from at own.bytes 0) xs)
          (sym only.are)
          (all-grow taken old.reads only.more (values_from at own.bytes 0) xs was) in
          subst (λ ms. AreReadAt taken new.reads ms (xs ++ ys)) (sym all)
          (read-append taken new.reads (values_from at own.bytes 0) (values_from at len own.bytes) xs ys grow is))
          shelved.gained appended.gained;
    }

-- all flows, once the oldest loan was read
pub shelved-reaped : (first kept now : ℕ → Option (List ℕ)) (count : ℕ) (before after : List FlowQueue) (own : FlowQueue) (p : Completion × Lending)
    (ps : List (Completion × Lending)) (most : ℕ) (due : List Lending) (old new : AppView) → p.0.user_data ≡ own.number → OnlyReads old new
    → Stands count (before ++ own ∷ after) (p ∷ ps) due old → most ≤ p.1.loan.len → Appended own old.taken new most kept now
    → AreShelved first kept (before ++ own ∷ after) old
    → AreShelved first now (before ++ record own { bytes = own.bytes + most } ∷ after) new
shelved-reaped first kept now count before after own p ps most due old new number only stands part appended shelved =
    let later : FlowQueue = record own { bytes = own.bytes + most } in
    let of_own : FlowStands old.taken (p ∷ ps) own = own-stands count before after own (p ∷ ps) due old stands in
    let next : IsNextRead old.taken own p.1 ps = is-next old.taken p ps own number of_own in
    let taken : new.taken ≡ old.taken = ap (λ (v : AppView). v.taken) only.view in
    let same : (n : ℕ) → many n (before ++ later ∷ after) ≡ many n (before ++ own ∷ after) = many-same before after own later refl in
    let flows : Each (IsShelved first now old.taken new.reads) (before ++ later ∷ after) =
    each-changed (IsShelved first kept old.taken old.reads) (IsShelved first now old.taken new.reads) before after own later
    (stands.distinct own.number) shelved.flows
    (λ f other was. shelved-other first kept now old.taken old new f only (appended.others f.number other) was)
    (shelved-appended first kept now old.taken old new own most only (λ q below. of_own.holds.popped q (omega (arith, next.within, part))) appended
    (each-right (IsShelved first kept old.taken old.reads) before (own ∷ after) shelved.flows).0) in
    record {
      flows = subst (λ ts. Each (IsShelved first now ts new.reads) (before ++ later ∷ after)) (sym taken) flows;
      others = λ n none. Keeps-trans (first n) (kept n) (now n) (shelved.others n (sym (same n) ∙ none))
          (appended.others n (λ e. absurd (let one = stands.distinct own.number in let here : many own.number (before ++ later ∷ after)
          ≡ 0 = subst (λ k. many k (before ++ later ∷ after) ≡ 0) e none in own-there here)));
    }
  where
    own-there : many own.number (before ++ record own { bytes = own.bytes + most } ∷ after) ≡ 0 → ⊥
    own-there none = omega (
      arith,
      none,
      total-append (is_number own.number) before (record own { bytes = own.bytes + most } ∷ after),
      number-is own.number (record own { bytes = own.bytes + most }) refl,
    )
