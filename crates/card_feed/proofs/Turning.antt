-- A turn keeps what holds between turns.
use Rattle.std.proofs.Common.{◌≡◌, ◌≢◌, ◌⊎◌, inl, inr, ℕ, List, [], ◌∷◌, ◌++◌, Bool, true, false, Option, Some, None, Ok, Err, refl, sym, ap}
use Rattle.std.{proofs.{Common.{subst, ◌∙◌, ⊎_elim, option_to_list}, lemmas.Bool.{true≢false}}, specs.Prelude.{MatchBool}}
use Rattle.flow_table.specs.{Flows.{Flow, flows_of}, KnownFlows.{KnownFlows}}
use Rattle.board_face.specs.declared.views.{parts.Filling.{Filling}, nic.{NicLook.{NicLook}, NicView.{NicView}}}
use Rattle.page_pool.specs.{declared.offer.{Offer.{Offer}, Verdict.{Verdict, TheVariants.{Accepted, NoRoom, Busy}}}, Frames.{offered}, Dealing.{DrainsRings}}
use Rattle.page_pool.specs.{Searching.{LooksAhead}, Pool.{PoolState, all_notes, OnlySends, Closes}, declared.search_end.SearchEnd.TheVariants.{Fast}}
use Rattle.card_feed.specs.{Ending.{steered_in}, FramesRead.{EndsAt}, declared.{intake.Intake.{Intake}, arrived.Arrived.{Arrived}}, Coming.{Arrives, ComesTo, is_over}}
use Rattle.card_feed.specs.{Offered.{offers_of, offer_next, AreSettled, WantsRoom}, Hand.{at_hand}, declared.intake.Route.{Route}}
use Rattle.card_feed.specs.{Intake.{Knows, OnlyOpens, TakesIn, IsReadable, IsTimely, counts_as}, Feed.{FeedState, FeedKnows, FeedStands, WantsRecord}}
use Rattle.card_feed.specs.Turns.{ReadsOne, OnlyReadsFrames, MayArrive, ReceivesArrived, Settles, FeedPlays, drains, offers, finishes, rests, KeepsUp, IsAwaiting}
use Rattle.card_feed.specs.{Turns.{FeedSteps, FeedTurns, HasLooked}, Parts.{feed_of}, Counts.{AreInType, AreOffersCounted, AreFound, HaveSwept, found_in}, Need.{AreNeeded}}
use Rattle.card_feed.proofs.OffersRise.{RiseFrom, offers-rise, offers-more}
use Rattle.card_feed.proofs.Needing.{AreUnused, unused-trans, sends-unused, drains-unused, closes-unused, needed-read, needed-accepted}
use Rattle.card_feed.proofs.{Needing.{needed-refused, needed-same, keeps-setting}, Settling.{hand-last, next-last, settled-read, settled-accepted, settled-refused}}
use Rattle.card_feed.proofs.{Sweeping.{keeps_up-swept, plays-swept, prepared-swept}, Finding.{found-same, found-closed, found-accepted, found-refused}}
use Rattle.card_feed.proofs.Counting.{counted-read, counted-same, counted-drained, counted-looked, counted-accepted, counted-refused, closes-dealt}
use Rattle.card_feed.specs.declared.arrived.Arrived.TheVariants as arrived

known_is : (k : KnownFlows) (known_ports : List ℕ) (flows : List Flow) → k.ports ≡ known_ports → k.flows ≡ flows
    → k ≡ record { ports = known_ports; flows = flows }
known_is k known_ports flows same_ports same_flows = rw (sym same_ports, sym same_flows) refl

-- ---- pending notes stay

drained-notes : (pool now : PoolState) (old new : NicView) (count : ℕ) → DrainsRings pool.stats now.stats old new count
    → now ≡ record pool { stats = now.stats }
    → all_notes now new ≡ all_notes pool old
drained-notes pool now old new count done now_is = rw (done.deals.view, now_is) refl

drained-found : (pool now : PoolState) (old new : NicView) (count : ℕ) → DrainsRings pool.stats now.stats old new count
    → found_in now.stats ≡ found_in pool.stats
drained-found pool now old new count done = ap found_in done.strays.others

closed-notes : (pool : PoolState) (old new : NicView) → Closes pool.current old new → all_notes (record pool { current = None }) new ≡ all_notes pool old
closed-notes pool old new closes = by_current pool.current closes
  where
    by_current : (current : Option Filling) → Closes current old new → all_notes (record pool { current = None }) new ≡ all_notes pool old
    by_current None closes = rw closes refl
    by_current (Some own) (closed, shuts, ended) = rw (ended, shuts.event) refl

-- ---- the feed

module _ (ports : List ℕ) (split : ℕ) where
  -- nothing more was read
  settles-feed : (frames : List (List ℕ)) (was now : FeedState) (old new : NicView)
      → FeedKnows ports split frames was old
      → now.ports ≡ was.ports → now.tally ≡ was.tally → now.flows ≡ was.flows → now.pool.split ≡ was.pool.split
      → AreSettled split (offers_of (steered_in ports frames)) now.refused now.at_hand (all_notes now.pool new)
      → AreOffersCounted split (offers_of (steered_in ports frames)) now.refused now.at_hand new.dealt now.pool.stats
      → AreNeeded new.setting.layout split (offers_of (steered_in ports frames)) now.refused now.at_hand (all_notes now.pool new) new.used
      → AreFound (all_notes now.pool new) now.pool → HaveSwept now.pool new
      → FeedKnows ports split frames now new
  settles-feed frames was now old new stands same_ports same_tally same_flows same_split settled counted needed found swept = record {
    ports_are = same_ports ∙ stands.ports_are;
    split_is = same_split ∙ stands.split_is;
    tally_is = same_tally ∙ stands.tally_is;
    flows_are = same_flows ∙ stands.flows_are;
    settled = settled;
    counted = counted;
    needed = needed;
    found = found;
    swept = swept;
  }

  same-settled : (frames : List (List ℕ)) (was now : FeedState) (old new : NicView)
      → FeedKnows ports split frames was old
      → now ≡ record was { pool = now.pool } → now.pool.split ≡ was.pool.split → all_notes now.pool new ≡ all_notes was.pool old
      → now.pool.current ≡ was.pool.current → found_in now.pool.stats ≡ found_in was.pool.stats → AreUnused old new
      → AreOffersCounted split (offers_of (steered_in ports frames)) was.refused was.at_hand new.dealt now.pool.stats → HaveSwept now.pool new
      → FeedKnows ports split frames now new
  same-settled frames was now old new stands same split_same notes current_same found_same unused counted swept =
      settles-feed frames was now old new stands (ap (λ (f : FeedState). f.ports) same)
      (ap (λ (f : FeedState). f.tally) same) (ap (λ (f : FeedState). f.flows) same) split_same
      (rw (ap (λ (f : FeedState). f.refused) same, ap (λ (f : FeedState). f.at_hand) same, notes) stands.settled)
      (rw (ap (λ (f : FeedState). f.refused) same, ap (λ (f : FeedState). f.at_hand) same) counted)
      (rw (ap (λ (f : FeedState). f.refused) same, ap (λ (f : FeedState). f.at_hand) same)
      (needed-same split (offers_of (steered_in ports frames)) was.refused was.at_hand was.pool now.pool old new notes unused stands.needed))
      (found-same was.pool now.pool old new current_same found_same notes stands.found) swept

  -- notes were sent, and the rings drained
  drained-counted : (frames : List (List ℕ)) (was now : FeedState) (pool : PoolState) (old mid new : NicView) (count : ℕ)
      → AreInType now.pool.stats → OnlySends was.pool pool old mid → DrainsRings pool.stats now.pool.stats mid new count
      → AreOffersCounted split (offers_of (steered_in ports frames)) was.refused was.at_hand old.dealt was.pool.stats
      → AreOffersCounted split (offers_of (steered_in ports frames)) was.refused was.at_hand new.dealt now.pool.stats
  drained-counted frames was now pool old mid new count fits sends drained counted =
      counted-drained split (offers_of (steered_in ports frames)) was.refused was.at_hand pool.stats now.pool.stats mid new count fits drained
      (counted-same split (offers_of (steered_in ports frames)) was.refused was.at_hand was.pool.stats pool.stats old.dealt mid.dealt
      (ap (λ (p : PoolState). p.stats) sends.pool) (ap (λ (v : NicView). v.dealt) sends.view) counted)

  -- the frame at hand
  settled-by : (frames : List (List ℕ)) (was now : FeedState) (old new : NicView) (o : Offer) (verdict : Verdict)
      → AreInType now.pool.stats → was.at_hand ≡ Some (offered o) → Settles was now old new o verdict
      → FeedKnows ports split frames was old → HaveSwept now.pool new → FeedKnows ports split frames now new
  settled-by frames was now old new o Accepted fits here (accepts, same) stands swept =
      settles-feed frames was now old new stands (ap (λ (f : FeedState). f.ports) same)
      (ap (λ (f : FeedState). f.tally) same) (ap (λ (f : FeedState). f.flows) same) accepts.split
      (rw (ap (λ (f : FeedState). f.refused) same, ap (λ (f : FeedState). f.at_hand) same)
      (settled-accepted split (offers_of (steered_in ports frames)) was.refused was.pool now.pool old new o stands.split_is (offers-rise ports frames)
      (rw here at stands.settled) accepts))
      (rw (ap (λ (f : FeedState). f.refused) same, ap (λ (f : FeedState). f.at_hand) same)
      (counted-accepted split (offers_of (steered_in ports frames)) was.refused was.pool now.pool old new o stands.split_is fits
      (rw here at stands.counted) accepts))
      (rw (ap (λ (f : FeedState). f.refused) same, ap (λ (f : FeedState). f.at_hand) same, keeps-setting was.pool now.pool old new o Accepted accepts)
      (needed-accepted old.setting.layout split (offers_of (steered_in ports frames)) was.refused was.pool now.pool old new o stands.split_is refl
      (rw here at stands.needed) accepts))
      (found-accepted was.pool now.pool old new o stands.found accepts) swept
  settled-by frames was now old new o (NoRoom cached need) fits here (refuses, same) stands swept =
      let settled : AreSettled split (offers_of (steered_in ports frames)) was.refused (Some (offered o)) (all_notes was.pool old) =
      rw here at stands.settled in
      let last = hand-last split (offers_of (steered_in ports frames)) was.refused (offered o) (all_notes was.pool old) (offers-rise ports frames) settled in
      settles-feed frames was now old new stands (ap (λ (f : FeedState). f.ports) same)
      (ap (λ (f : FeedState). f.tally) same) (ap (λ (f : FeedState). f.flows) same) (ap (λ (p : PoolState). p.split) refuses.pool)
      (rw (ap (λ (f : FeedState). f.refused) same, ap (λ (f : FeedState). f.at_hand) same)
      (settled-refused split (offers_of (steered_in ports frames)) was.refused was.pool now.pool old new o stands.split_is (offers-rise ports frames)
      (rw here at stands.settled) cached need refuses))
      (rw (ap (λ (f : FeedState). f.refused) same, ap (λ (f : FeedState). f.at_hand) same)
      (counted-refused split (offers_of (steered_in ports frames)) was.refused was.pool now.pool old new o stands.split_is fits
      (rw here at stands.counted) cached need refuses))
      (rw (
        ap (λ (f : FeedState). f.refused) same,
        ap (λ (f : FeedState). f.at_hand) same,
        keeps-setting was.pool now.pool old new o (NoRoom cached need) refuses,
      )
      (needed-refused old.setting.layout split (offers_of (steered_in ports frames)) was.refused was.pool now.pool old new o stands.split_is refl
      (rw here at stands.needed) cached need settled.settled settled.awaits last.0 last.1 refuses))
      (found-refused was.pool now.pool old new o cached need stands.found refuses) swept
  settled-by frames was now old new o Busy fits here (pool, mid, count, puts_off, drained, same) stands swept =
      let pool_is : now.pool ≡ record pool { stats = now.pool.stats } = ap (λ (f : FeedState). f.pool) same in
      same-settled frames was now old new stands
      (same ∙ sym (ap (λ p. record was { pool = p }) pool_is))
      (ap (λ (p : PoolState). p.split) pool_is ∙ ap (λ (p : PoolState). p.split) puts_off.sends.pool)
      (drained-notes pool now.pool mid new count drained pool_is ∙ puts_off.sends.notes)
      (ap (λ (p : PoolState). p.current) pool_is ∙ ap (λ (p : PoolState). p.current) puts_off.sends.pool)
      (drained-found pool now.pool mid new count drained ∙ ap (λ (p : PoolState). found_in p.stats) puts_off.sends.pool)
      (unused-trans old mid new (sends-unused was.pool pool old mid puts_off.sends) (drains-unused pool now.pool mid new count drained))
      (drained-counted frames was now pool old mid new count fits puts_off.sends drained stands.counted) swept

  pub played : (frames : List (List ℕ)) (was now : FeedState) (old new : NicView) → AreInType now.pool.stats → FeedPlays was now old new
      → FeedKnows ports split frames was old → FeedKnows ports split frames now new
  played frames was now old new fits (drains closed count drained same) stands =
      let pool_is : now.pool ≡ record was.pool { stats = now.pool.stats } = ap (λ (f : FeedState). f.pool) same in
      same-settled frames was now old new stands (same ∙ sym (ap (λ p. record was { pool = p }) pool_is))
      (ap (λ (p : PoolState). p.split) pool_is) (drained-notes was.pool now.pool old new count drained pool_is)
      (ap (λ (p : PoolState). p.current) pool_is) (drained-found was.pool now.pool old new count drained)
      (drains-unused was.pool now.pool old new count drained)
      (counted-drained split (offers_of (steered_in ports frames)) was.refused was.at_hand was.pool.stats now.pool.stats old new count fits drained
      stands.counted) (plays-swept was now old new fits (drains closed count drained same) stands.swept)
  played frames was now old new fits (offers on o here by) stands =
      settled-by frames was now old new by.offer by.verdict fits (here ∙ ap Some (sym by.is)) by.settles stands
      (plays-swept was now old new fits (offers on o here by) stands.swept)
  played frames was now old new fits (finishes on none over (pool, mid, sends, inl (sent, closes, same))) stands =
      let pool_is : now.pool ≡ record pool { current = None } = ap (λ (f : FeedState). f.pool) same in
      let notes : all_notes now.pool new ≡ all_notes was.pool old = ap (λ p. all_notes p new) pool_is ∙ closed-notes pool mid new closes ∙ sends.notes in
      settles-feed frames was now old new stands (ap (λ (f : FeedState). f.ports) same)
      (ap (λ (f : FeedState). f.tally) same) (ap (λ (f : FeedState). f.flows) same)
      (ap (λ (p : PoolState). p.split) pool_is ∙ ap (λ (p : PoolState). p.split) sends.pool)
      (rw (ap (λ (f : FeedState). f.refused) same, ap (λ (f : FeedState). f.at_hand) same, notes) stands.settled)
      (rw (ap (λ (f : FeedState). f.refused) same, ap (λ (f : FeedState). f.at_hand) same)
      (counted-same split (offers_of (steered_in ports frames)) was.refused was.at_hand was.pool.stats now.pool.stats old.dealt new.dealt
      (ap (λ (p : PoolState). p.stats) pool_is ∙ ap (λ (p : PoolState). p.stats) sends.pool)
      (closes-dealt pool.current mid new closes ∙ ap (λ (v : NicView). v.dealt) sends.view) stands.counted))
      (rw (ap (λ (f : FeedState). f.refused) same, ap (λ (f : FeedState). f.at_hand) same)
      (needed-same split (offers_of (steered_in ports frames)) was.refused was.at_hand was.pool now.pool old new notes
      (unused-trans old mid new (sends-unused was.pool pool old mid sends) (closes-unused pool.current mid new closes)) stands.needed))
      (found-closed was.pool now.pool old new (ap (λ (p : PoolState). p.current) pool_is)
      (ap (λ (p : PoolState). found_in p.stats) pool_is ∙ ap (λ (p : PoolState). found_in p.stats) sends.pool) notes stands.found)
      (plays-swept was now old new fits (finishes on none over (pool, mid, sends, inl (sent, closes, same))) stands.swept)
  played frames was now old new fits (finishes on none over (pool, mid, sends, inr (waits, (count, drained, same)))) stands =
      let pool_is : now.pool ≡ record pool { stats = now.pool.stats } = ap (λ (f : FeedState). f.pool) same in
      same-settled frames was now old new stands (same ∙ sym (ap (λ p. record was { pool = p }) pool_is))
      (ap (λ (p : PoolState). p.split) pool_is ∙ ap (λ (p : PoolState). p.split) sends.pool)
      (drained-notes pool now.pool mid new count drained pool_is ∙ sends.notes)
      (ap (λ (p : PoolState). p.current) pool_is ∙ ap (λ (p : PoolState). p.current) sends.pool)
      (drained-found pool now.pool mid new count drained ∙ ap (λ (p : PoolState). found_in p.stats) sends.pool)
      (unused-trans old mid new (sends-unused was.pool pool old mid sends) (drains-unused pool now.pool mid new count drained))
      (drained-counted frames was now pool old mid new count fits sends drained stands.counted)
      (plays-swept was now old new fits (finishes on none over (pool, mid, sends, inr (waits, (count, drained, same)))) stands.swept)
  played frames was now old new fits (rests on none goes same still) stands =
      let pool_is : now.pool ≡ record was.pool { ahead = Fast } = ap (λ (f : FeedState). f.pool) same in
      same-settled frames was now old new stands (same ∙ sym (ap (λ p. record was { pool = p }) pool_is))
      (ap (λ (p : PoolState). p.split) pool_is) (rw (still, pool_is) refl) (ap (λ (p : PoolState). p.current) pool_is)
      (ap (λ (p : PoolState). found_in p.stats) pool_is)
      (record { used = ap (λ (v : NicView). v.used) still; setting = ap (λ (v : NicView). v.setting) still })
      (counted-same split (offers_of (steered_in ports frames)) was.refused was.at_hand was.pool.stats now.pool.stats old.dealt new.dealt
      (ap (λ (p : PoolState). p.stats) pool_is) (ap (λ (v : NicView). v.dealt) still) stands.counted)
      (plays-swept was now old new fits (rests on none goes same still) stands.swept)

  -- pending notes were sent, and the rings drained
  pub kept-up : (frames : List (List ℕ)) (was now : FeedState) (old new : NicView) → AreInType now.pool.stats → KeepsUp was now old new
      → FeedKnows ports split frames was old → FeedKnows ports split frames now new
  kept-up frames was now old new fits (pool, mid, sends, until, (count, drained, same)) stands =
      let pool_is : now.pool ≡ record pool { stats = now.pool.stats } = ap (λ (f : FeedState). f.pool) same in
      same-settled frames was now old new stands
      (same ∙ sym (ap (λ p. record was { pool = p }) pool_is))
      (ap (λ (p : PoolState). p.split) pool_is ∙ ap (λ (p : PoolState). p.split) sends.pool)
      (drained-notes pool now.pool mid new count drained pool_is ∙ sends.notes)
      (ap (λ (p : PoolState). p.current) pool_is ∙ ap (λ (p : PoolState). p.current) sends.pool)
      (drained-found pool now.pool mid new count drained ∙ ap (λ (p : PoolState). found_in p.stats) sends.pool)
      (unused-trans old mid new (sends-unused was.pool pool old mid sends) (drains-unused pool now.pool mid new count drained))
      (drained-counted frames was now pool old mid new count fits sends drained stands.counted)
      (keeps_up-swept was now old new (pool, mid, sends, until, (count, drained, same)) stands.swept)

  -- it looked for buffers
  pub prepared : (frames : List (List ℕ)) (need : ℕ) (was now : FeedState) (old new : NicView) → AreInType now.pool.stats
      → LooksAhead need was.pool now.pool old new → now ≡ record was { pool = now.pool }
      → FeedKnows ports split frames was old → FeedKnows ports split frames now new
  prepared frames need was now old new fits looks same stands =
      same-settled frames was now old new stands same (ap (λ (p : PoolState). p.split) looks.pool) (rw (looks.searches.view, looks.pool) refl)
      (ap (λ (p : PoolState). p.current) looks.pool) (ap found_in looks.searches.strays.others)
      (record { used = ap (λ (v : NicView). v.used) looks.searches.view; setting = ap (λ (v : NicView). v.setting) looks.searches.view })
      (counted-looked split (offers_of (steered_in ports frames)) was.refused was.at_hand need was.pool now.pool old new fits looks stands.counted)
      (prepared-swept need was.pool now.pool old new looks stands.swept)

-- ---- the stage stays

settles-stage : (was now : FeedState) (old new : NicView) (o : Offer) (verdict : Verdict) → Settles was now old new o verdict → now.stage ≡ was.stage
settles-stage was now old new o Accepted (accepts, same) = ap (λ (f : FeedState). f.stage) same
settles-stage was now old new o (NoRoom cached need) (refuses, same) = ap (λ (f : FeedState). f.stage) same
settles-stage was now old new o Busy (pool, mid, count, puts_off, drained, same) = ap (λ (f : FeedState). f.stage) same

pub plays-stage : (was now : FeedState) (old new : NicView) → FeedPlays was now old new → now.stage ≡ was.stage
plays-stage was now old new (drains closed count drained same) = ap (λ (f : FeedState). f.stage) same
plays-stage was now old new (offers on o here by) = settles-stage was now old new by.offer by.verdict by.settles
plays-stage was now old new (finishes on none over (pool, mid, sends, inl (sent, closes, same))) = ap (λ (f : FeedState). f.stage) same
plays-stage was now old new (finishes on none over (pool, mid, sends, inr (waits, (count, drained, same)))) = ap (λ (f : FeedState). f.stage) same
plays-stage was now old new (rests on none goes same still) = ap (λ (f : FeedState). f.stage) same

pub keeps_up-stage : (was now : FeedState) (old new : NicView) → KeepsUp was now old new → now.stage ≡ was.stage
keeps_up-stage was now old new (pool, mid, sends, until, (count, drained, same)) = ap (λ (f : FeedState). f.stage) same

-- ---- what arrived

module _ (ports : List ℕ) (split : ℕ) (frames : List (List ℕ)) (was : Intake) (pool : PoolState) (closed : Bool) (old : NicView)
    (knows : FeedKnows ports split frames (feed_of was pool closed) old) where
  pub knows-of : Knows ports frames was
  knows-of = record {
    tally = knows.tally_is;
    known = known_is was.table ports (flows_of (steered_in ports frames)) knows.ports_are knows.flows_are;
  }

  pub split-is : pool.split ≡ was.split → was.split ≡ split
  split-is same = sym same ∙ knows.split_is

  -- what is known once it was taken
  pub record HasReceived (now : Intake) (came : Arrived) : Type 0 where
    pub more : List (List ℕ)
    pub receives : ReceivesArrived split ports (feed_of was pool closed) (feed_of now pool closed) frames more came
    pub only : OnlyReadsFrames (feed_of was pool closed) (feed_of now pool closed)
    pub stands : FeedKnows ports split more (feed_of now pool closed) old

  -- nothing more is known but how the reading ended
  pub none-more : (now : Intake) → was.hand ≡ None → now.refused.items ≡ was.refused.items → now.table.ports ≡ was.table.ports → Knows ports frames now
      → now.hand ≡ None → FeedKnows ports split frames (feed_of now pool closed) old
  none-more now none refused same_ports known gone =
      let hand : at_hand now.hand now.bytes.items ≡ None = ap (λ h. at_hand h now.bytes.items) gone in
      record {
        ports_are = same_ports ∙ knows.ports_are;
        split_is = knows.split_is;
        tally_is = known.tally;
        flows_are = ap (λ k. k.flows) known.known;
        settled = rw (refused, hand) (rw none at knows.settled);
        counted = rw (refused, hand) (rw none at knows.counted);
        needed = rw (refused, hand) (rw none at knows.needed);
        found = knows.found;
        swept = knows.swept;
      }

  one-more : (now : Intake) (frame : List ℕ) → was.hand ≡ None → now.refused.items ≡ was.refused.items → now.table.ports ≡ was.table.ports
      → Knows ports (frames ++ frame ∷ []) now → at_hand now.hand now.bytes.items ≡ offer_next ports frames frame
      → FeedKnows ports split (frames ++ frame ∷ []) (feed_of now pool closed) old
  one-more now frame none refused same_ports known hand = record {
    ports_are = same_ports ∙ knows.ports_are;
    split_is = knows.split_is;
    tally_is = known.tally;
    flows_are = ap (λ k. k.flows) known.known;
    settled = rw (offers-more ports frames frame, refused, hand)
        (settled-read split (offers_of (steered_in ports frames)) was.refused.items _ (all_notes pool old) (rw none at knows.settled));
    counted = rw (offers-more ports frames frame, refused, hand)
        (counted-read split (offers_of (steered_in ports frames)) was.refused.items _ old.dealt pool.stats (rw none at knows.counted));
    needed = rw (offers-more ports frames frame, refused, hand)
        (needed-read old.setting.layout split (offers_of (steered_in ports frames)) was.refused.items (offer_next ports frames frame) (all_notes pool old)
        old.used
        (λ o is. next-last split (offers_of (steered_in ports frames)) was.refused.items o (all_notes pool old)
        (subst (λ next. RiseFrom 1 (offers_of (steered_in ports frames) ++ option_to_list next)) is
        (subst (RiseFrom 1) (offers-more ports frames frame) (offers-rise ports (frames ++ frame ∷ []))))
        (rw none at knows.settled))
        (rw none at knows.needed));
    found = knows.found;
    swept = knows.swept;
  }

  pub received : (now : Intake) (came : Arrived) → pool.split ≡ was.split → now.refused.items ≡ was.refused.items → now.table.ports ≡ was.table.ports
      → IsTimely was came → TakesIn was.split ports frames was.stage now came → (came ≡ arrived.Nothing → now ≡ was) → HasReceived now came
  received now (arrived.Frame r bytes) same_split refused same_ports timely (Ok done, (goes, known, hand), stage_is) same = record {
    more = frames ++ bytes.items ∷ [];
    receives = inl (record { more_are = refl; goes = goes; hand = hand; stage_is = stage_is });
    only = rw (refused, same_ports) refl;
    stands = one-more now bytes.items timely.none refused same_ports known hand;
  }
  received now (arrived.Frame r bytes) same_split refused same_ports timely (Err fault, (ends, known, gone), stage_is) same = record {
    more = frames;
    receives = inr (record {
      fault = fault;
      ends = subst (λ s. EndsAt (WantsRoom s ports) ports frames bytes.items fault) (split-is same_split) ends;
      more_are = refl;
      hand = ap (λ h. at_hand h now.bytes.items) gone;
      stage_is = stage_is;
    });
    only = rw (refused, same_ports) refl;
    stands = none-more now timely.none refused same_ports known gone;
  }
  received now arrived.Nothing same_split refused same_ports timely known same = record {
    more = frames;
    receives = (ap (λ intake. feed_of intake pool closed) (same refl), refl);
    only = rw (same refl) refl;
    stands = subst (λ intake. FeedKnows ports split frames (feed_of intake pool closed) old) (sym (same refl)) knows;
  }
  received now (arrived.Over end) same_split refused same_ports timely (known, gone, stage_is) same = record {
    more = frames;
    receives = (refl, ap (λ h. at_hand h now.bytes.items) gone, stage_is);
    only = rw (refused, same_ports) refl;
    stands = none-more now timely.none refused same_ports known gone;
  }

  module _ (now : Intake) (came : Arrived) (end : FeedState) (new : NicView) (has : HasReceived now came) (fits : AreInType end.pool.stats) where
    pub stepped : ¬ IsAwaiting (feed_of was pool closed) came → FeedPlays (feed_of now pool closed) end old new
        → FeedSteps ports split frames came (feed_of was pool closed) end old new
    stepped there plays = record {
      taken = feed_of now pool closed;
      more = has.more;
      only = has.only;
      receives = has.receives;
      done = inl (there, plays);
      stage_is = plays-stage (feed_of now pool closed) end old new plays;
      knows = played ports split has.more (feed_of now pool closed) end old new fits plays has.stands;
    }

    pub stepped-up : IsAwaiting (feed_of was pool closed) came → KeepsUp (feed_of now pool closed) end old new
        → FeedSteps ports split frames came (feed_of was pool closed) end old new
    stepped-up awaiting keeps = record {
      taken = feed_of now pool closed;
      more = has.more;
      only = has.only;
      receives = has.receives;
      done = inr (awaiting, keeps);
      stage_is = keeps_up-stage (feed_of now pool closed) end old new keeps;
      knows = kept-up ports split has.more (feed_of now pool closed) end old new fits keeps has.stands;
    }

-- ---- whether a record is wanted

pub no_hand : (hand : Option Route) (frame : List ℕ) → at_hand hand frame ≡ None → hand ≡ None
no_hand None frame none = refl
no_hand (Some r) frame none = absurd (cc)

pub wants-of : (intake : Intake) (pool : PoolState) (closed : Bool) → IsReadable intake → WantsRecord (feed_of intake pool closed)
wants-of intake pool closed readable = record { none = ap (λ h. at_hand h intake.bytes.items) readable.none; goes = readable.goes }

pub readable-of : (intake : Intake) (pool : PoolState) (closed : Bool) → WantsRecord (feed_of intake pool closed) → IsReadable intake
readable-of intake pool closed wants = record { none = no_hand intake.hand intake.bytes.items wants.none; goes = wants.goes }

pub timely-of : (intake : Intake) (pool : PoolState) (closed : Bool) (came : Arrived) → MayArrive (feed_of intake pool closed) came → IsTimely intake came
timely-of intake pool closed (arrived.Frame r bytes) may = readable-of intake pool closed may
timely-of intake pool closed arrived.Nothing may = may
timely-of intake pool closed (arrived.Over end) may = readable-of intake pool closed may

pub not-awaiting : (feed : FeedState) (came : Arrived) → came ≢ arrived.Nothing → ¬ IsAwaiting feed came
not-awaiting feed (arrived.Frame r bytes) there awaiting = awaiting
not-awaiting feed arrived.Nothing there awaiting = there refl
not-awaiting feed (arrived.Over end) there awaiting = awaiting

pub readable-cases : (intake : Intake) → IsReadable intake ⊎ ¬ IsReadable intake
readable-cases intake = by_hand intake.hand refl
  where
    by_stage : intake.hand ≡ None → (over : Bool) → is_over intake.stage ≡ over → IsReadable intake ⊎ ¬ IsReadable intake
    by_stage none false is = inl (record { none = none; goes = is })
    by_stage none true is = inr (λ readable. true≢false (sym is ∙ readable.goes))

    by_hand : (hand : Option Route) → intake.hand ≡ hand → IsReadable intake ⊎ ¬ IsReadable intake
    by_hand None is = by_stage is (is_over intake.stage) refl
    by_hand (Some r) is = inr (λ readable. (let both : Some r ≡ None = sym is ∙ readable.none in cc))

-- ---- a turn: one read, and one step

module _ {S : Type 0} (left : S → Option (List ℕ)) (faults : S → ℕ) (first later : S) (ports : List ℕ) (split : ℕ) (frames : List (List ℕ))
    (was opened : Intake) (pool : PoolState) (closed : Bool) (came : Arrived) (end : FeedState) (old new : NicView)
    (steps : FeedSteps ports split frames came (feed_of opened pool closed) end old new) where
  plays-of : ¬ IsAwaiting (feed_of opened pool closed) came → FeedPlays steps.taken end old new
  plays-of there = ⊎_elim (λ plays. plays.1) (λ keeps. absurd (there keeps.0)) steps.done

  -- a record was wanted, and came or didn't
  module _ (readable : IsReadable was) (opens : OnlyOpens was opened)
      (on : is_over opened.stage ≡ is_over was.stage) where
    opened-goes : is_over opened.stage ≡ false
    opened-goes = on ∙ readable.goes

    read-only : OnlyReadsFrames (feed_of was pool closed) steps.taken
    read-only = steps.only ∙ rw (opens.table, opens.refused) refl

    reads-one : (came_here : Arrived) → came_here ≢ arrived.Nothing
        → ReceivesArrived split ports (feed_of opened pool closed) steps.taken frames steps.more came_here → ReadsOne ports steps.taken frames steps.more
    reads-one (arrived.Frame r bytes) there (inl takes) =
        inl (bytes.items, takes.more_are, takes.hand, ap is_over takes.stage_is ∙ opened-goes)
    reads-one (arrived.Frame r bytes) there (inr ends) = inr (ends.more_are, ends.hand, ap is_over ends.stage_is)
    reads-one arrived.Nothing there received = absurd (there refl)
    reads-one (arrived.Over end) there (more_are, hand, stage_is) = inr (more_are, hand, ap is_over stage_is)

    comes-to : (came_here : Arrived) → came_here ≢ arrived.Nothing
        → ReceivesArrived split ports (feed_of opened pool closed) steps.taken frames steps.more came_here
        → Arrives (WantsRoom split ports) left faults first later ports opened.stage frames came_here
        → ComesTo (WantsRoom split ports) left faults first later ports steps.taken.stage steps.more
    comes-to (arrived.Frame r bytes) there (inl takes) arrives = rw (takes.more_are, takes.stage_is) (arrives.goes takes.goes)
    comes-to (arrived.Frame r bytes) there (inr ends) arrives = rw (ends.more_are, ends.stage_is) (arrives.ends ends.fault ends.ends)
    comes-to arrived.Nothing there received arrives = absurd (there refl)
    comes-to (arrived.Over end) there (more_are, hand, stage_is) arrives = rw (more_are, stage_is) arrives

    pub read-turns : came ≢ arrived.Nothing → Arrives (WantsRoom split ports) left faults first later ports opened.stage frames came
        → FeedTurns left faults first later ports split frames (feed_of was pool closed) end old new
    read-turns there arrives = record {
      read = steps.taken;
      more = steps.more;
      only = read-only;
      reads = λ _. reads-one came there steps.receives;
      waits = λ not_so. absurd (not_so (wants-of was pool closed readable));
      plays = plays-of (not-awaiting (feed_of opened pool closed) came there);
      stands = record {
        knows = steps.knows;
        comes = subst (λ at. ComesTo (WantsRoom split ports) left faults first later ports at steps.more) (sym steps.stage_is)
            (comes-to came there steps.receives arrives);
      };
    }

  -- none was wanted
  pub rest-turns : ¬ IsReadable was → came ≡ arrived.Nothing → opened ≡ was
      → FeedStands left faults first later ports split frames (feed_of was pool closed) old
      → FeedTurns left faults first later ports split frames (feed_of was pool closed) end old new
  rest-turns not_readable nothing same stands =
      let received : (steps.taken ≡ feed_of was pool closed) × (steps.more ≡ frames) =
      (let got : ReceivesArrived split ports (feed_of opened pool closed) steps.taken frames steps.more arrived.Nothing = rw nothing at steps.receives in
      (got.0 ∙ ap (λ i. feed_of i pool closed) same, got.1)) in
      record {
        read = steps.taken;
        more = steps.more;
        only = rw received.0 refl;
        reads = λ wants. absurd (not_readable (readable-of was pool closed wants));
        waits = λ _. received;
        plays = plays-of (rw (nothing, same) (λ wants. not_readable (readable-of was pool closed wants)));
        stands = record {
          knows = steps.knows;
          comes = rw (steps.stage_is, received.0, received.1) stands.comes;
        };
      }

-- what is known stays where a source was opened
pub knows-opened : (ports : List ℕ) (split : ℕ) (frames : List (List ℕ)) (was opened : Intake) (pool : PoolState) (closed : Bool) (v : NicView)
    → IsReadable was → OnlyOpens was opened → FeedKnows ports split frames (feed_of was pool closed) v
    → FeedKnows ports split frames (feed_of opened pool closed) v
knows-opened ports split frames was opened pool closed v readable opens knows =
    let known = knows-of ports split frames was pool closed v knows in
    none-more ports split frames was pool closed v knows opened readable.none opens.refused (ap (λ (k : KnownFlows). k.ports) opens.table)
    (record { tally = opens.tally ∙ known.tally; known = opens.table ∙ known.known }) (opens.hand ∙ readable.none)

-- ---- what a step answers

pub counts-one : (came : Arrived) → came ≢ arrived.Nothing → counts_as came ≡ 1
counts-one (arrived.Frame found bytes) there = refl
counts-one arrived.Nothing there = absurd (there refl)
counts-one (arrived.Over end) there = refl

pub looked-as : {B : Type 0} (P Q : Type 0) (tells : NicLook → NicView → B → Type 0) (beside : B) (was now : FeedState) (old new : NicView) → (P → Q)
    → HasLooked P tells beside was now old new → HasLooked Q tells beside was now old new
looked-as P Q tells beside was now old new gives looked = record {
  feed = looked.feed;
  stats = looked.stats;
  view = looked.view;
  rings = looked.rings;
  notes = ⊎_elim (λ rests. inl (gives rests)) (λ waits. inr waits) looked.notes;
}

pub answer-as : (did : Bool) (Rises Rises_now Idle Idle_now : Type 0) → (did ≡ true → Rises → Rises_now) → (did ≡ false → Idle → Idle_now)
    → MatchBool did Rises Idle → MatchBool did Rises_now Idle_now
answer-as true Rises Rises_now Idle Idle_now rises idle so = rises refl so
answer-as false Rises Rises_now Idle Idle_now rises idle so = idle refl so

pub by-answer : (did : Bool) (Rises Idle : Type 0) → (did ≡ true → Rises) → (did ≡ false → Idle) → MatchBool did Rises Idle
by-answer true Rises Idle rises idle = rises refl
by-answer false Rises Idle rises idle = idle refl
