-- A new feed has read nothing, and nothing was offered of it.
use Rattle.std.{proofs.{Common.{ℕ, List, [], Option, inl, refl, arith}, lemmas.List.Elements.{All-nil}}, specs.Prelude.{AllPairs, ◌<◌}}
use Rattle.card_feed.{proofs.Framing.{steered-nothing}, specs.Feed.{NewFeedsStand}}

no_pairs : AllPairs (λ m n. m < n) []
no_pairs = λ i j d lt none. absurd (grind (arith, none))

pub feeds_stand : {S : Type 0} (left : S → Option (List ℕ)) (faults : S → ℕ) → NewFeedsStand left faults
feeds_stand left faults source ports split v none none_dealt none_used =
    let nothing = steered-nothing ports in
    record {
      knows = record {
        ports_are = refl;
        split_is = refl;
        tally_is = rw nothing refl;
        flows_are = rw nothing refl;
        settled = record {
          settled = [];
          awaits = rw nothing refl;
          refused_are = record { rise = no_pairs; each = All-nil _ };
          shown = rw none refl;
        };
        counted = rw (nothing, none_dealt) (record { searches = omega arith; empty = refl; strays = refl });
        needed = rw (nothing, none, none_used) (record { spent = omega arith; lacked = All-nil _ });
        found = rw none (record { found = inl refl; used = tt });
        swept = omega arith;
      };
      comes = (refl, refl);
    }
