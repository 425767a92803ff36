-- A frame was accepted, or refused, once the earlier notes were sent.
use Rattle.std.proofs.Common.{◌≡◌, ℕ, List, [], ◌∷◌, ◌++◌, length, refl, sym, ap, subst, ◌∙◌, arith, true, false, Option, Some, None, nat_le}
use Rattle.std.{specs.Prelude.{reverse, Bool, MatchBool}, proofs.lemmas.{List.{append-nil}, Bool.{leb-true, leb-false}}}
use Rattle.board_face.specs.{Looks.{NicLooksStay}, NicCalls.{NicOnlySaw}, NicEvents.{sent_linear, nic_saw}, declared.views.nic.{NicLook.{NicLook}, NicView.{NicView}}}
use Rattle.board_face.{specs.declared.views.nic.SentNote.{SentNote}, proofs.LookLemmas.{NicLooksStay-same, NicLooksStay-trans, NicLooksStay-nic_saw}}
use Rattle.page_pool.specs.declared.{pool.{Pending.{Pending}, Short.{Short}}, offer.{Offer.{Offer}, Verdict.{Verdict, TheVariants.{Accepted, NoRoom, Busy}}}}
use Rattle.page_pool.specs.{Pool.{PoolState, PoolStands, HasNonePending, OnlySends, IsNextApp, is_short, is_piece, all_notes}, Packing.{needed}}
use Rattle.page_pool.specs.declared.search_end.SearchEnd.TheVariants.{Fast, Empty}
use Rattle.page_pool.specs.Offer.{payload_of, packed, needed_for, short_note, FlushesNotes, LooksFor, not_needed, Accepts, Refuses, Offers, KeepsRest}
use Rattle.page_pool.{specs.Placing.{PlacesSplit, LacksRoom, KeepsShort}, proofs.FramesShown.{whole_shows}}
use Rattle.page_pool.proofs.Offering.{nothing_placed, none_not, LooksFor-keeps, looked-out}
use Rattle.area_layout.specs.Layout.{least_size}

-- ---- whose note is next

next_app : Option Short → List Pending → ℕ
next_app (Some s) ps = s.app
next_app None (p ∷ ps) = p.app
next_app None [] = 0

is_next : (pool : PoolState) (app : ℕ) → IsNextApp pool app → app ≡ next_app pool.short pool.pieces
unfolding next_app
is_next pool _ (is_short s is) = rw is refl
is_next pool _ (is_piece p ps none is) = rw (none, is) refl

pub one_is_next : (pool : PoolState) (a b : ℕ) → IsNextApp pool a → IsNextApp pool b → a ≡ b
one_is_next pool a b first second = is_next pool a first ∙ sym (is_next pool b second)

pub none_is_next : (pool : PoolState) (app : ℕ) → HasNonePending pool → IsNextApp pool app → ⊥
none_is_next pool _ none (is_short s is) = absurd (grind (arith, sym none.short ∙ is))
none_is_next pool _ none (is_piece p ps no_short is) = absurd (grind (arith, sym none.pieces ∙ is))

-- ---- the flush

-- all pending notes were sent
pub record FlushedAll (was now : PoolState) (old new : NicView) : Type 0 where
  pub flush : FlushesNotes was old new
  pub pool : now ≡ record was { short = None; pieces = [] }

pub flushed_all : (was now : PoolState) (old new : NicView) → OnlySends was now old new → HasNonePending now → PoolStands now new
    → FlushedAll was now old new
flushed_all was now old new sends none stands =
    let no_pieces : new.pieces ≡ [] = nothing_placed now new stands none in
    let all : new.sent ≡ all_notes was old = simp (none.short, none.pieces, append-nil) at sends.notes in
    let gone : old.sent ++ sends.gone ≡ all_notes was old = sym (ap (λ (v : NicView). v.sent) sends.view) ∙ all in
    record {
      flush = record { view = sends.view ∙ rw (no_pieces, gone) refl; looks = sends.looks };
      pool = sends.pool ∙ rw (none.short, none.pieces) refl;
    }

-- ---- a short payload

-- it was sent, or its note is pending
pub Accepts-short : (was pool : PoolState) (old flushed new : NicView) (o : Offer) (short : Option Short) (more : List SentNote)
    → new.sent ≡ flushed.sent ++ more → FlushedAll was pool old flushed
    → nat_le (length (payload_of o)) was.split ≡ true
    → new ≡ record flushed { sent = new.sent; looks = new.looks } → NicLooksStay flushed new
    → all_notes (record was { short = short; pieces = [] }) new ≡ flushed.sent ++ record { app = o.app; note = short_note o; bytes = payload_of o } ∷ []
    → Accepts was (record pool { short = short; ahead = Fast }) old new o
Accepts-short was pool old flushed new o short more sent_more all few view looks notes =
    let flush = all.flush.view in
    let used : new.used ≡ old.used = ap (λ (v : NicView). v.used) view ∙ ap (λ (v : NicView). v.used) flush in
    let sent : flushed.sent ≡ all_notes was old = ap (λ (v : NicView). v.sent) flush in
    rw all.pool (record {
      flushed = flushed;
      flush = all.flush;
      found = flushed;
      how = None;
      search = not_needed (rw few refl) refl refl;
      enough = none_not Empty;
      buffers = [];
      many = rw few refl;
      few = omega arith;
      used = used ∙ sym (append-nil old.used);
      cached = sym (ap (λ (v : NicView). v.cache) view) ∙ sym (append-nil new.cache);
      notes = notes ∙ rw (sent, few) refl;
      shows = rw few (record {
        short = λ le. (record { app = o.app; note = short_note o; bytes = payload_of o }, refl, whole_shows o);
        long = λ more.
            absurd (omega (arith, more, leb-true _ _ few));
      });
      current = rw few refl;
      split = refl;
      ahead = refl;
      more = more;
      sent = sent_more;
      placing = rw view refl;
      looks = looks;
    })

pub Accepts-sent : (was pool : PoolState) (old flushed new : NicView) (o : Offer) → FlushedAll was pool old flushed
    → nat_le (length (payload_of o)) was.split ≡ true
    → new ≡ sent_linear flushed o.app (short_note o) (payload_of o) → Accepts was (record pool { short = None; ahead = Fast }) old new o
Accepts-sent was pool old flushed new o all few event = Accepts-short was pool old flushed new o None
    (record { app = o.app; note = short_note o; bytes = payload_of o } ∷ []) (rw event refl) all few (rw event refl) (NicLooksStay-same flushed new
    (rw event refl))
    (rw event (append-nil _))

pub Accepts-kept : (was pool : PoolState) (old flushed new : NicView) (o : Offer) (look : NicLook) (kept : Short) → FlushedAll was pool old flushed
    → nat_le (length (payload_of o)) was.split ≡ true
    → KeepsShort o kept → new ≡ nic_saw flushed look → Accepts was (record pool { short = Some kept; ahead = Fast }) old new o
Accepts-kept was pool old flushed new o look kept all few keeps event =
    let total : kept.note.total ≡ length (payload_of o) = rw keeps.note refl in
    Accepts-short was pool old flushed new o (Some kept) [] (rw event (sym (append-nil flushed.sent))) all few (rw event refl)
    (rw event (NicLooksStay-nic_saw flushed look))
    (rw event (rw (keeps.app, keeps.note, keeps.bytes) refl))

pub Accepts-either : (was pool : PoolState) (old flushed new : NicView) (o : Offer) (look : NicLook) (short : Option Short) (sent : Bool) (Told : Type 0)
    → FlushedAll was pool old flushed
    → nat_le (length (payload_of o)) was.split ≡ true
    → MatchBool sent ((short ≡ None) × (new ≡ sent_linear flushed o.app (short_note o) (payload_of o))) ((kept : Short) × (short ≡ Some kept)
    × KeepsShort o kept × NicOnlySaw look flushed new × Told)
    → Accepts was (record pool { short = short; ahead = Fast }) old new o
Accepts-either was pool old flushed new o look short true Told all few answer = rw answer.0 (Accepts-sent was pool old flushed new o all few answer.1)
Accepts-either was pool old flushed new o look short false Told all few answer = rw answer.1
    (Accepts-kept was pool old flushed new o look answer.0 all few answer.2 answer.3.event)

-- ---- a payload that is split

pub PlacesSplit-looks : (pool placed : PoolState) (flushed filled : NicView) (o : Offer) → PlacesSplit pool placed flushed filled o
    → NicLooksStay flushed filled
PlacesSplit-looks pool placed flushed filled o places = NicLooksStay-trans flushed places.found filled
    (LooksFor-keeps _ _ _ _ _ flushed places.found places.how places.search).looks places.looks

-- what is said of the slot of the next note is said of each that is next
pub next_told : (pool : PoolState) (done : Bool) (P Q : ℕ → Type 0)
    → MatchBool done (HasNonePending pool) ((app : ℕ) × IsNextApp pool app × P app × Q app) → (app : ℕ) → IsNextApp pool app → P app × Q app
next_told pool true P Q none app next = absurd (none_is_next pool app none next)
next_told pool false P Q waits app next = rw (one_is_next pool app waits.0 next waits.1) (waits.2, waits.3)

-- there weren't enough buffers
pub Refuses-split : (was pool now : PoolState) (old flushed new : NicView) (o : Offer) (cached need : ℕ) → FlushedAll was pool old flushed
    → nat_le (length (payload_of o)) was.split ≡ false
    → LacksRoom pool now flushed new o cached need → Refuses was now old new o cached need
Refuses-split was pool now old flushed new o cached need all long lacks =
    let flush = all.flush.view in
    let keeps = LooksFor-keeps _ _ _ _ _ flushed new _ lacks.search in
    let setting : flushed.setting ≡ old.setting = ap (λ (v : NicView). v.setting) flush in
    let current : pool.current ≡ was.current = ap (λ (p : PoolState). p.current) all.pool in
    let ahead : pool.ahead ≡ was.ahead = ap (λ (p : PoolState). p.ahead) all.pool in
    let stats : pool.stats ≡ was.stats = ap (λ (p : PoolState). p.stats) all.pool in
    let used : new.used ≡ old.used = ap (λ (v : NicView). v.used) keeps.view ∙ ap (λ (v : NicView). v.used) flush in
    let sent : new.sent ≡ all_notes was old = ap (λ (v : NicView). v.sent) keeps.view ∙ ap (λ (v : NicView). v.sent) flush in
    let told = looked-out _ _ _ _ _ flushed new _ refl lacks.search in
    record {
      cached_is = lacks.cached_is;
      need_is = rw long (rw (setting, current) at lacks.need_is);
      too_few = lacks.too_few;
      swept = told.swept;
      within = omega (arith, told.all, lacks.cached_is);
      flushed = flushed;
      flush = all.flush;
      search = rw (current, ahead, stats) at lacks.search;
      pool = lacks.pool ∙ rw all.pool refl;
      notes = rw (lacks.pool, all.pool) (rw sent (append-nil _));
      used = used;
    }

pub LacksRoom-none : (pool now : PoolState) (old new : NicView) (o : Offer) (cached need : ℕ) → HasNonePending pool
    → LacksRoom pool now old new o cached need → HasNonePending now
LacksRoom-none pool now old new o cached need none lacks = record { short = rw lacks.pool none.short; pieces = rw lacks.pool none.pieces }

-- it was placed, and then its notes were sent as far as slots were free
pub Accepts-split : (was pool placed now : PoolState) (old flushed filled new : NicView) (o : Offer) → FlushedAll was pool old flushed
    → nat_le (length (payload_of o)) was.split ≡ false
    → PlacesSplit pool placed flushed filled o → OnlySends placed now filled new → Accepts was now old new o
Accepts-split was pool placed now old flushed filled new o all long places sends =
    let flush = all.flush.view in
    let keeps = LooksFor-keeps _ _ _ _ _ flushed places.found places.how places.search in
    let setting : flushed.setting ≡ old.setting = ap (λ (v : NicView). v.setting) flush in
    let current : pool.current ≡ was.current = ap (λ (p : PoolState). p.current) all.pool in
    let ahead : pool.ahead ≡ was.ahead = ap (λ (p : PoolState). p.ahead) all.pool in
    let stats : pool.stats ≡ was.stats = ap (λ (p : PoolState). p.stats) all.pool in
    let need : needed (least_size flushed.setting.layout) (packed was.current) (length (payload_of o)) ≡ needed_for was old o = rw (long, setting) refl in
    let now_stats : now.stats ≡ placed.stats = ap (λ (p : PoolState). p.stats) sends.pool in
    let search : LooksFor (needed (least_size flushed.setting.layout) (packed was.current) (length
    (payload_of o))) was.current was.ahead was.stats now.stats flushed places.found places.how =
    rw now_stats (rw (current, ahead, stats) at places.search) in
    let used : new.used ≡ old.used ++ places.buffers = ap (λ (v : NicView). v.used) sends.view ∙ places.used
    ∙ ap (λ (v : NicView). v.used ++ places.buffers) flush in
    let sent : filled.sent ≡ all_notes was old = ap (λ (v : NicView). v.sent) places.view ∙ ap (λ (v : NicView). v.sent) keeps.view
    ∙ ap (λ (v : NicView). v.sent) flush in
    let no_short : placed.short ≡ None = ap (λ (p : PoolState). p.short) places.pool ∙ ap (λ (p : PoolState). p.short) all.pool in
    let now_current : now.current ≡ placed.current = ap (λ (p : PoolState). p.current) sends.pool in
    let now_ahead : now.ahead ≡ Fast = ap (λ (p : PoolState). p.ahead) sends.pool ∙ ap (λ (p : PoolState). p.ahead) places.pool in
    let now_split : now.split ≡ was.split = ap (λ (p : PoolState). p.split) sends.pool ∙ ap (λ (p : PoolState). p.split) places.pool
    ∙ ap (λ (p : PoolState). p.split) all.pool in
    record {
      flushed = flushed;
      flush = all.flush;
      found = places.found;
      how = places.how;
      search = subst (λ n. LooksFor n was.current was.ahead was.stats now.stats flushed places.found places.how) need search;
      enough = places.enough;
      buffers = places.buffers;
      many = rw long (rw (setting, current) at places.many);
      few = rw long (rw (setting, current) at places.few);
      used = used;
      cached = places.cached ∙ ap (λ (v : NicView). v.cache ++ reverse places.buffers) (sym sends.view);
      notes = sends.notes ∙ rw (no_short, sent, long) (ap (λ notes. all_notes was old ++ notes) (rw (setting, current) at places.notes));
      shows = rw long (record { short = λ le. absurd (omega (arith, le, leb-false _ _ long)); long = λ more. rw (setting, current) at places.shows });
      current = rw long (now_current ∙ rw (setting, current) at places.current);
      split = now_split;
      ahead = now_ahead;
      more = sends.gone;
      sent = ap (λ (v : NicView). v.sent) sends.view
          ∙ ap (λ notes. notes ++ sends.gone) (ap (λ (v : NicView). v.sent) places.view ∙ ap (λ (v : NicView). v.sent) keeps.view);
      placing = rw sends.view (rw places.view refl);
      looks = NicLooksStay-trans places.found filled new places.looks sends.looks;
    }

-- ---- what no offer changes

pub Offers-keep : (was now : PoolState) (old new : NicView) (o : Offer) (verdict : Verdict) → Offers was now old new o verdict → KeepsRest old new
Offers-keep was now old new o Accepted accepts =
    let keeps = LooksFor-keeps _ _ _ _ _ accepts.flushed accepts.found accepts.how accepts.search in
    record {
      view = rw accepts.placing (rw keeps.view (rw accepts.flush.view refl));
      looks = NicLooksStay-trans old accepts.flushed new accepts.flush.looks (NicLooksStay-trans accepts.flushed accepts.found new keeps.looks accepts.looks);
    }
Offers-keep was now old new o (NoRoom cached need) refuses =
    let keeps = LooksFor-keeps _ _ _ _ _ refuses.flushed new _ refuses.search in
    record { view = rw keeps.view (rw refuses.flush.view refl); looks = NicLooksStay-trans old refuses.flushed new refuses.flush.looks keeps.looks }
Offers-keep was now old new o Busy puts_off = record { view = rw puts_off.sends.view refl; looks = puts_off.sends.looks }
