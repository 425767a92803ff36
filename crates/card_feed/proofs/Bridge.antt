-- A board that accounts for a run gives each flow its stream.
use Rattle.std.proofs.Common.{◌≡◌, ℕ, ◌<◌, List, [], ◌∷◌, ◌++◌, length, filter, Bool, true, false, not, ◌==◌, Option, ⊎_elim, sym, ap, ◌∙◌, append-nil, arith}
use Rattle.std.proofs.lemmas.Bool.{cases_Bool, true≢false}
use Rattle.zr_io.proofs.Moved.{Gained-weaker}
use Rattle.flow_table.specs.Stream.{stream_of}
use Rattle.card_feed.specs.Ending.{steered_in}
use Rattle.board_face.specs.Holders.{sent_to}
use Rattle.page_pool.specs.Frames.{Offered}
use Rattle.card_feed.specs.{Offered.{offered_after, offers_of, has_payload, offers_without}, Account.{offered_to, IsFlowRead, IsStreamedTo, AccountsGiveStreams}}
use Rattle.card_feed.specs.Account.{kept_in}
use Rattle.card_feed.proofs.{OffersRise.{RiseFrom, rise-filter, offers-rise}, NotesShown.{AreAbove, Ascend, HaveBytes}, Accounted.{stream_accounted}}
use Rattle.card_feed.proofs.OfFlow.{AreOfFlow, AreOfFlow-filter, flow-frames, app-filter, first-base}

above-from : (n m : ℕ) (os : List Offered) → n < m → RiseFrom m os → AreAbove n os
above-from n m [] less rise = tt
above-from n m (o ∷ os) less rise = (omega (arith, less, rise.0), above-from n _ os (omega (arith, less, rise.0)) rise.1)

pub ascends : (n : ℕ) (os : List Offered) → RiseFrom n os → Ascend os
ascends n [] rise = tt
ascends n (o ∷ os) rise = (above-from o.frame _ os (omega arith) rise.1, ascends _ os rise.1)

pub HaveBytes-filter : (p : Offered → Bool) (os : List Offered) → HaveBytes os → HaveBytes (filter p os)
HaveBytes-filter p [] have = tt
HaveBytes-filter p (o ∷ os) have = ⊎_elim
    (λ (is : p o ≡ true). rw is (have.0, HaveBytes-filter p os have.1))
    (λ (not_so : p o ≡ false). rw not_so (HaveBytes-filter p os have.1))
    (cases_Bool (p o))

some_byte : (payload : List ℕ) → not (length payload == 0) ≡ true → 0 < length payload
some_byte [] some = absurd (true≢false (sym some))
some_byte (b ∷ bs) some = omega arith

pub payloads : (os : List Offered) → HaveBytes (filter has_payload os)
payloads [] = tt
payloads (o ∷ os) = ⊎_elim
    (λ (is : has_payload o ≡ true). rw is (some_byte o.payload is, payloads os))
    (λ (not_so : has_payload o ≡ false). rw not_so (payloads os))
    (cases_Bool (has_payload o))

pub give_streams : {T : Type 0} (kept : T → ℕ → Option (List ℕ)) → AccountsGiveStreams kept
give_streams kept shelves shelves_now plan frames left_out nic apps lines strays accounts number flow app line known here told reads =
    let ports : List ℕ = plan.ports.items in
    let own = accounts.app flow.app app line here told in
    let all : List Offered = offers_without left_out (offers_of (steered_in ports frames)) in
    let os : List Offered = offered_to flow.app left_out (steered_in ports frames) in
    let rises : RiseFrom 1 os = rise-filter _ 1 all (rise-filter _ 1 _ (offers-rise ports frames)) in
    let bytes : HaveBytes os = HaveBytes-filter _ all (HaveBytes-filter _ _ (payloads (offered_after [] (steered_in ports frames)))) in
    let are : AreOfFlow number flow all = AreOfFlow-filter number flow _ _ (AreOfFlow-filter number flow _ _ (flow-frames ports frames number flow known)) in
    Gained-weaker (kept_in kept shelves flow.app number) (kept_in kept shelves_now flow.app number) (IsFlowRead app line.stopped number)
    (IsStreamedTo line.stopped (stream_of (steered_in ports frames) left_out number))
    (λ got read.
    let streamed = stream_accounted plan.options.split number left_out (steered_in ports frames) flow os (sent_to flow.app nic) app.view got known own.notes
    (ascends 1 os rises) bytes
    (app-filter number flow all are) (first-base number flow os (AreOfFlow-filter number flow _ all are)) own.taken reads read.front in
    record {
      rest = streamed.0;
      front = streamed.1;
      whole = λ goes. sym (streamed.1 ∙ ap (λ rest. got ++ rest) (streamed.2 (read.whole goes)) ∙ append-nil got);
    })
    (accounts.flow number flow app line known here told)
