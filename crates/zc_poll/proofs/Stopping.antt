-- Pouring was stopped by its user: what was written until then.
use Rattle.std.proofs.Common.{◌≡◌, ◌≢◌, ℕ, ◌+◌, List, [], ◌++◌, length, map, take, drop, Option, Some, None, refl, sym, ap, subst, ◌∙◌, arith, append_assoc}
use Rattle.std.{specs.{Prelude.{IfSome}, List.{Contains}}, proofs.lemmas.List.{take-append-drop}}
use Rattle.zr_kinds.specs.declared.{place.Place.{Place}, behaviour.Stopped.{Stopped}}
use Rattle.zr_kinds.specs.declared.behaviour.Stopped.TheVariants as stop
use Rattle.zr_io.{specs.Moved.{Gained}, proofs.Moved.{Gained-weaker}}
use Rattle.board_face.specs.{AppCalls.{HasLoan}, declared.views.app.{LentPiece.{LentPiece}, Reading.{Reading}, TakenNote.{TakenNote}, AppView.{AppView}}}
use Rattle.flow_queues.specs.{Marks.{Mark, FramesStandTogether, marks_of}, Core.{Each, LieApart}, Totals.{capped}, Shelves.{FlowEnds}, Streams.{HasFronts, IsFront}}
use Rattle.flow_queues.{specs.{Ends.{IsCounted, bytes_written_of}, Counting.{TallyState, with_bytes, quit_by}}, proofs.Shown.{shown-total, shown-bytes}}
use Rattle.zc_poll.specs.{Standing.{Desk}, Items.{GivenItem, marks_given}, Pouring.{HasPoured, IsPoured, OnlyDue}, Stops.{HasStopped, without_loan}}
use Rattle.zc_poll.proofs.{LoanGone.{gone-loans, gone-many}, Whole.{items-front}}

pub quit-some : (s : Stopped) → quit_by s ≢ stop.No
quit-some stop.No = λ e. absurd (cc)
quit-some stop.Quit = λ e. absurd (cc)
quit-some stop.Write = λ e. absurd (cc)
quit-some stop.Memory = λ e. absurd (cc)

pub quit-write : (s : Stopped) → s ≡ stop.Write → quit_by s ≡ stop.Write
quit-write s is = ap quit_by is

-- ---- the loan that is due is given up

pub due-out : (due : Option Place) (v : AppView) → OnlyDue due v.loans → IfSome due (λ loan. HasLoan v loan)
due-out None v only = tt
due-out (Some loan) v (piece, one, place) =
    subst (λ ls. Contains (map (λ (l : LentPiece). l.place) ls) loan) (sym one) (0, omega arith, place)

-- no loan is out, and nothing else changed but where it went
pub record AllGone (v y : AppView) : Type 0 where
  pub loans : y.loans ≡ []
  pub many : length y.returned ≡ length v.loans + length v.returned
  pub taken : y.taken ≡ v.taken
  pub reads : y.reads ≡ v.reads
  pub spares : y.spares ≡ v.spares

pub due-gone : (due : Option Place) (v : AppView) → OnlyDue due v.loans → LieApart v → AllGone v (without_loan due v)
due-gone None v none apart = record { loans = none; many = omega (arith, ap length none); taken = refl; reads = refl; spares = refl }
due-gone (Some loan) v (piece, one, place) apart =
    let gone = gone-loans v apart piece one loan place in
    record {
      loans = gone;
      many = omega (arith, gone-many v apart piece one loan place, ap length gone);
      taken = refl;
      reads = refl;
      spares = refl;
    }

-- and all pieces were
pub then-released : (due : Option Place) (v y z : AppView) → y ≡ without_loan due v → z ≡ record y { helds = [] }
    → z ≡ record (without_loan due v) { helds = [] }
then-released due v y z given released = released ∙ ap (λ (x : AppView). record x { helds = [] }) given

pub none-then : (due : Option Place) (v y z : AppView) → AllGone v (without_loan due v) → y ≡ without_loan due v → z ≡ record y { helds = [] } → z.loans ≡ []
none-then due v y z gone given released = ap (λ (x : AppView). x.loans) (then-released due v y z given released) ∙ gone.loans

-- ---- what was written

module _ (P : Type 0) (first kept : ℕ → Option (List ℕ)) (w : TallyState) (st : Desk) (v : AppView) (items : List GivenItem) (torn missing : ℕ)
    (poured : HasPoured P first w st kept v items torn missing) (found : Each (FlowEnds v.taken) st.flows) where
  fronts-of : FramesStandTogether v.taken → HasFronts first kept v
  fronts-of whole n =
      let marks : List Mark = marks_given n items in
      let (rest, parts) = items-front st.flows v.taken items found poured.given whole n in
      Gained-weaker (first n) (kept n) (IsPoured (P × (n ≡ torn)) v marks (bytes_written_of n w.counts)) (IsFront v.taken v.reads (marks_of n v.taken))
      (λ bytes is. record {
        read = take (length bytes) marks;
        rest = drop (length bytes) marks ++ rest;
        parts = parts ∙ ap (λ ms. ms ++ rest) (sym (take-append-drop (length bytes) marks)) ∙ append_assoc (take (length bytes) marks) (drop (length bytes) marks) rest;
        are = is.are;
      })
      (poured.shelved n)

  module _ (z : AppView) (why : Stopped) (some : why ≢ stop.No) (failed : P → why ≡ stop.Write) (gone : AllGone v z) (helds : z.helds ≡ []) where
    fronts-then : FramesStandTogether z.taken → HasFronts first kept z
    fronts-then whole n =
        subst (λ (ts : List TakenNote). Gained (first n) (kept n) (IsFront ts z.reads (marks_of n ts))) (sym gone.taken)
        (subst (λ (rs : List Reading). Gained (first n) (kept n) (IsFront v.taken rs (marks_of n v.taken))) (sym gone.reads)
        (fronts-of (subst FramesStandTogether gone.taken whole) n))

    counted-then : (n : ℕ) → Gained (first n) (kept n) (IsCounted why (bytes_written_of n (with_bytes w.counts)))
    counted-then n = subst (λ count. Gained (first n) (kept n) (IsCounted why count)) (sym (shown-bytes n w.counts (poured.once n)))
        (Gained-weaker (first n) (kept n) (IsPoured (P × (n ≡ torn)) v (marks_given n items) (bytes_written_of n w.counts))
        (IsCounted why (bytes_written_of n w.counts))
        (λ bytes is. record { counted = λ not. is.exact (λ both. not (failed both.0)); at_least = is.at_least }) (poured.shelved n))

    pub stopped-pours : HasStopped first kept z (record { written = w.written; loans = w.loans; copied = w.copied; stopped = why; flows = with_bytes w.counts })
    stopped-pours = record {
      none_out = (gone.loans, helds);
      loans = poured.loans ∙ ap capped (omega (arith, poured.many, gone.many));
      copied = poured.copied ∙ ap capped (sym gone.spares);
      written = poured.written ∙ ap capped (sym (shown-total w.counts));
      fronts = fronts-then;
      counted = counted-then;
      some = some;
    }
