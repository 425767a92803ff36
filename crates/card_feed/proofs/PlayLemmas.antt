-- What the parts of a turn do at the face: how far they come, and that they do nothing where they say so.
use Rattle.std.proofs.Common.{◌≡◌, inl, inr, ℕ, ◌+◌, ◌<◌, ◌≤◌, Bool, true, false, List, [], ◌∷◌, ◌++◌, length, Option, Some}
use Rattle.std.{proofs.Common.{None, option_to_list, ◌⊎◌, ⊎_elim, refl, sym, ap, subst, ◌∙◌, length-append, arith}, specs.Prelude.{MatchBool}}
use Rattle.std.proofs.lemmas.List.{length-map, Elements.{All-head}}
use Rattle.zr_kinds.specs.declared.outcome.PoolStats.{PoolStats}
use Rattle.board_face.specs.{Looks.{NicRose}, NicCalls.{apps_of}, NicEvents.{nic_gist}, declared.views.{parts.Filling.{Filling}, nic.NicLook.{NicLook}}}
use Rattle.board_face.specs.declared.views.nic.{NicLook.TheVariants.{RingEmpty, NoteInUse}, PlacedText.{PlacedText}, NicView.{NicView}}
use Rattle.board_face.proofs.LookLemmas.{NicRose-later, NicRose-before}
use Rattle.page_pool.specs.{declared.{offer.Offer.{Offer}, pool.{Pending.{Pending}, Short.{Short}}, search_end.SearchEnd.{SearchEnd, TheVariants.{Fast}}}, Dealing.{DrainsRings, CountsStrays}}
use Rattle.page_pool.specs.Pool.{PoolState, PoolStands, HasNonePending, OnlySends, IsNextApp, is_short, is_piece, pending_count, all_notes, short_note, piece_notes}
use Rattle.page_pool.specs.Offer.{ClosesCurrent, LooksFor, not_needed, searched, Accepts, Refuses}
use Rattle.card_feed.specs.{declared.intake.Intake.{Intake}, Feed.{FeedFits, FeedState, card_steps}, Turns.{HasLooked, IsIdle}, Parts.{feed_of}}

-- ---- pending notes

piece_count : (ps : List Pending) (texts : List PlacedText) → length texts ≡ length ps → length (piece_notes ps texts) ≡ length ps
piece_count [] texts same = refl
piece_count (p ∷ ps) [] same = absurd (omega (arith, same))
piece_count (p ∷ ps) (t ∷ texts) same = (let rest = piece_count ps texts (omega (arith, same)) in omega (arith, rest))

short_count : (short : Option Short) → length (short_note short) ≡ length (option_to_list short)
short_count None = refl
short_count (Some s) = refl

-- the notes that are pending are as many as the pool says
pub notes-count : (pool : PoolState) (v : NicView) → PoolStands pool v → length (all_notes pool v) ≡ length v.sent + pending_count pool
notes-count pool v stands =
    let many : length v.pieces ≡ length pool.pieces =
    sym (length-map v.pieces (λ (t : PlacedText). t.place)) ∙ ap length stands.pieces ∙ length-map pool.pieces (λ (p : Pending). p.piece) in
    let pieces = piece_count pool.pieces v.pieces many in
    let outer = length-append v.sent (short_note pool.short ++ piece_notes pool.pieces v.pieces) in
    let inner = length-append (short_note pool.short) (piece_notes pool.pieces v.pieces) in
    omega (arith, pieces, outer, inner, short_count pool.short)

pub next-pends : (pool : PoolState) (app : ℕ) → IsNextApp pool app → 0 < pending_count pool
next-pends pool _ (is_short s is) = rw is (omega arith)
next-pends pool _ (is_piece p ps none is) = rw (none, is) (omega arith)

next-below : (pool : PoolState) (v : NicView) (app : ℕ) → PoolStands pool v → IsNextApp pool app → app < apps_of v.setting
next-below pool v _ stands (is_short s is) = (let short = rw is at stands.short in short.app)
next-below pool v _ stands (is_piece p ps none is) = All-head (λ (q : Pending). q.app < apps_of v.setting) p ps (rw is at stands.apps)

no_items : {A : Type 0} (xs : List A) → length xs ≡ 0 → xs ≡ []
no_items [] none = refl
no_items (x ∷ xs) none = absurd (omega (arith, none))

-- nothing is pending, or there is a cause
pub flushed-or : (all : Bool) (pool now : PoolState) (Cause : Type 0) → now ≡ record pool { stats = now.stats } → MatchBool all (HasNonePending pool) Cause
    → HasNonePending now ⊎ Cause
flushed-or true pool now Cause same none = inl (record {
  short = ap (λ (p : PoolState). p.short) same ∙ none.short;
  pieces = ap (λ (p : PoolState). p.pieces) same ∙ none.pieces;
})
flushed-or false pool now Cause same cause = inr cause

-- ---- notes that had to wait, and rings that were drained

module _ (was pool now : PoolState) (old mid new : NicView) (count : ℕ) (stood : PoolStands was old) (stands : PoolStands pool mid)
    (sends : OnlySends was pool old mid) (drains : DrainsRings pool.stats now.stats mid new count) (now_is : now ≡ record pool { stats = now.stats }) where
  pub gone-count : length sends.gone + pending_count pool ≡ pending_count was
  gone-count =
      let before = notes-count was old stood in
      let after = notes-count pool mid stands in
      let same = ap length sends.notes in
      let sent : length mid.sent ≡ length old.sent + length sends.gone = ap (λ (v : NicView). length v.sent) sends.view
      ∙ length-append old.sent sends.gone in
      omega (arith, before, after, same, sent)

  -- it came as far as notes were sent and entries dealt with
  pub dealt-steps : (closed : Bool) → 0 < count → card_steps closed old < card_steps closed new
  dealt-steps closed some =
      let sent : length mid.sent ≡ length old.sent + length sends.gone = ap (λ (v : NicView). length v.sent) sends.view
      ∙ length-append old.sent sends.gone in
      let dealt : length new.dealt ≡ length mid.dealt + length drains.more = ap (λ (v : NicView). length v.dealt) drains.deals.view
      ∙ length-append mid.dealt drains.more in
      let still_sent : length new.sent ≡ length mid.sent = ap (λ (v : NicView). length v.sent) drains.deals.view in
      let still_dealt : length mid.dealt ≡ length old.dealt = ap (λ (v : NicView). length v.dealt) sends.view in
      omega (arith, sent, dealt, still_sent, still_dealt, drains.many, some)

  still-pending : pending_count now ≡ pending_count pool
  still-pending = ap pending_count now_is

  -- nothing changed
  pub looked-idle : {B : Type 0} (Rests : Type 0) (tells : NicLook → NicView → B → Type 0) (beside beside_now : B) (intake : Intake) (closed : Bool)
      → pending_count was ≤ pending_count now → count ≡ 0
      → (Rests ⊎ ((app : ℕ) × IsNextApp pool app × NicRose (NoteInUse app) old mid × tells (NoteInUse app) (nic_gist mid) beside))
      → nic_gist new ≡ nic_gist mid → beside_now ≡ beside
      → ((a : ℕ) → a < apps_of mid.setting → NicRose (RingEmpty a) mid new × tells (RingEmpty a) (nic_gist new) beside_now)
      → HasLooked Rests tells beside_now (feed_of intake was closed) (feed_of intake now closed) old new
  looked-idle Rests tells beside beside_now intake closed many none waits still same rings =
      let gone : sends.gone ≡ [] = no_items sends.gone (omega (arith, gone-count, still-pending, many)) in
      let stayed = sends.still gone in
      let setting : mid.setting ≡ old.setting = ap (λ (v : NicView). v.setting) sends.view in
      let dealt : drains.more ≡ [] = no_items drains.more (drains.many ∙ none) in
      let stats : pool.stats ≡ was.stats = ap (λ (p : PoolState). p.stats) stayed.0 in
      record {
        feed = ap (λ p. feed_of intake p closed) (now_is ∙ ap (λ (p : PoolState). record p { stats = now.stats }) stayed.0);
        stats = subst (λ more. CountsStrays was.stats now.stats more) dealt (subst (λ s. CountsStrays s now.stats drains.more) stats drains.strays);
        view = still ∙ ap nic_gist stayed.1;
        rings = λ a few. let ring = rings a (omega (arith, few, ap apps_of setting)) in (NicRose-later old mid new (RingEmpty a) sends.looks ring.0, ring.1);
        notes = ⊎_elim (λ rests. inl rests) (λ (app, next, rose, told). inr (
          app,
          omega (arith, next-below pool mid app stands next, ap apps_of setting),
          NicRose-before old mid new (NoteInUse app) rose drains.deals.looks,
          rw (still, same) told,
        )) waits;
      }

  pub put_off-idle : {B : Type 0} (tells : NicLook → NicView → B → Type 0) (beside beside_now : B) (intake : Intake) (closed : Bool) (app : ℕ)
      → pending_count was ≤ pending_count now → count ≡ 0 → IsNextApp pool app → NicRose (NoteInUse app) old mid → tells (NoteInUse app)
      (nic_gist mid) beside
      → nic_gist new ≡ nic_gist mid → beside_now ≡ beside
      → ((a : ℕ) → a < apps_of mid.setting → NicRose (RingEmpty a) mid new × tells (RingEmpty a) (nic_gist new) beside_now)
      → IsIdle tells beside_now (feed_of intake was closed) (feed_of intake now closed) old new
  put_off-idle tells beside beside_now intake closed app many none next rose told still same rings =
      looked-idle (closed ≡ true) tells beside beside_now intake closed many none (inr (app, next, rose, told)) still same rings

-- ---- a frame that was settled

pub closed-dealt : (current : Option Filling) (old new : NicView) → ClosesCurrent current old new → new.dealt ≡ old.dealt
closed-dealt None old new same = ap (λ (v : NicView). v.dealt) same
closed-dealt (Some own) old new closed = ap (λ (v : NicView). v.dealt) closed.event

closed-sent : (current : Option Filling) (old new : NicView) → ClosesCurrent current old new → new.sent ≡ old.sent
closed-sent None old new same = ap (λ (v : NicView). v.sent) same
closed-sent (Some own) old new closed = ap (λ (v : NicView). v.sent) closed.event

looked-dealt : (need : ℕ) (current : Option Filling) (ahead : SearchEnd) (was now : PoolStats) (old new : NicView) (how : Option SearchEnd)
    → LooksFor need current ahead was now old new how → length old.dealt ≤ length new.dealt
looked-dealt need current ahead was now old new _ (not_needed none stats same) = rw same (omega arith)
looked-dealt need current ahead was now old new _ (searched begin met how some closes searches counts) =
    let more : length new.dealt ≡ length begin.dealt + length searches.more =
    ap (λ (v : NicView). length v.dealt) searches.view ∙ length-append begin.dealt searches.more in
    omega (arith, more, ap length (closed-dealt current old begin closes))

looked-sent : (need : ℕ) (current : Option Filling) (ahead : SearchEnd) (was now : PoolStats) (old new : NicView) (how : Option SearchEnd)
    → LooksFor need current ahead was now old new how → new.sent ≡ old.sent
looked-sent need current ahead was now old new _ (not_needed none stats same) = ap (λ (v : NicView). v.sent) same
looked-sent need current ahead was now old new _ (searched begin met how some closes searches counts) =
    ap (λ (v : NicView). v.sent) searches.view ∙ closed-sent current old begin closes

module _ (was now : PoolState) (old new : NicView) (o : Offer) (stood : PoolStands was old) where
  pub accepted-steps : Accepts was now old new o → card_steps false old + pending_count was ≤ card_steps false new
  accepted-steps accepts =
      let notes = notes-count was old stood in
      let flushed : accepts.flushed.sent ≡ all_notes was old = ap (λ (v : NicView). v.sent) accepts.flush.view in
      let sent : length new.sent ≡ length (all_notes was old) + length accepts.more =
      ap length accepts.sent ∙ length-append accepts.flushed.sent accepts.more ∙ ap (λ notes. length notes + length accepts.more) flushed in
      let before : accepts.flushed.dealt ≡ old.dealt = ap (λ (v : NicView). v.dealt) accepts.flush.view in
      let found = looked-dealt _ _ _ _ _ accepts.flushed accepts.found accepts.how accepts.search in
      let dealt : new.dealt ≡ accepts.found.dealt = ap (λ (v : NicView). v.dealt) accepts.placing in
      omega (arith, notes, sent, ap length before, found, ap length dealt)

  pub refused-steps : (cached need : ℕ) → Refuses was now old new o cached need → card_steps false old + pending_count was ≤ card_steps false new
  refused-steps cached need refuses =
      let notes = notes-count was old stood in
      let flushed : refuses.flushed.sent ≡ all_notes was old = ap (λ (v : NicView). v.sent) refuses.flush.view in
      let sent : new.sent ≡ all_notes was old = looked-sent _ _ _ _ _ refuses.flushed new _ refuses.search ∙ flushed in
      let before : refuses.flushed.dealt ≡ old.dealt = ap (λ (v : NicView). v.dealt) refuses.flush.view in
      let found = looked-dealt _ _ _ _ _ refuses.flushed new _ refuses.search in
      omega (arith, notes, ap length sent, ap length before, found)

-- ---- after closing

module _ (was now : PoolState) (old new : NicView) (count : ℕ) (drains : DrainsRings was.stats now.stats old new count)
    (now_is : now ≡ record was { stats = now.stats }) where
  pub drained-steps : (closed : Bool) → 0 < count → card_steps closed old < card_steps closed new
  drained-steps closed some =
      let sent : length new.sent ≡ length old.sent = ap (λ (v : NicView). length v.sent) drains.deals.view in
      let dealt : length new.dealt ≡ length old.dealt + length drains.more = ap (λ (v : NicView). length v.dealt) drains.deals.view
      ∙ length-append old.dealt drains.more in
      omega (arith, sent, dealt, drains.many, some)

  pub drained-idle : {B : Type 0} (tells : NicLook → NicView → B → Type 0) (beside_now : B) (intake : Intake) (closed : Bool) → closed ≡ true
      → count ≡ 0
      → nic_gist new ≡ nic_gist old
      → ((a : ℕ) → a < apps_of old.setting → NicRose (RingEmpty a) old new × tells (RingEmpty a) (nic_gist new) beside_now)
      → IsIdle tells beside_now (feed_of intake was closed) (feed_of intake now closed) old new
  drained-idle tells beside_now intake closed is_closed none still rings = record {
    feed = ap (λ p. feed_of intake p closed) now_is;
    stats = subst (λ more. CountsStrays was.stats now.stats more) (no_items drains.more (drains.many ∙ none)) drains.strays;
    view = still;
    rings = rings;
    notes = inl is_closed;
  }

-- ---- the answers

-- each way of a test leads on
pub answer-then : (did : Bool) (A B C D : Type 0) → MatchBool did A B → (A → C) → (B → D) → MatchBool did C D
answer-then true A B C D answer if_did if_not = if_did answer
answer-then false A B C D answer if_did if_not = if_not answer

-- ---- where no frame is offered

-- what was searched ahead isn't wanted
pub fits-dropped : (feed : FeedState) (v : NicView) → FeedFits feed v → FeedFits (record feed { pool = record feed.pool { ahead = Fast } }) v
fits-dropped feed v fits = record {
  stands = record {
    owns = fits.stands.owns;
    pieces = fits.stands.pieces;
    apps = fits.stands.apps;
    fields = fits.stands.fields;
    places = fits.stands.places;
    short = fits.stands.short;
    few = fits.stands.few;
  };
  apps = fits.apps;
  on = fits.on;
  ended = fits.ended;
  over = fits.over;
  none = fits.none;
  sent = λ closed. record { short = (fits.sent closed).short; pieces = (fits.sent closed).pieces };
}
