-- What the card keeps beside the words tells of its side, after each of its events.
use Rattle.std.proofs.Common.{◌≡◌, ⊎_elim, ℕ, ◌+◌, ◌-◌, ◌%◌, ◌<◌, Bool, true, false, List, [], ◌∷◌, ◌++◌, length, map, take, set}
use Rattle.std.{proofs.Common.{get_or, refl, ap, sym, ◌∙◌, subst, arith}, specs.Prelude.{◌≢◌, ◌==◌, ◌&&◌, nat_lt, if◌then◌else◌, filter, All, Some}}
use Rattle.std.proofs.{Math.Nat.{mod-add-mod, mod-lt}, lemmas.{Bool.{ltb-true, Decides.{eqb_tells}}, List.{get_or-set_same, get_or-set_other, length-set, length_push}}}
use Rattle.std.proofs.lemmas.List.Elements.{All-push, All-pop, All-append, All-contains}
use Rattle.area_layout.specs.Layout.{pool_buffers, size_of}
use Rattle.board_face.specs.{Holders.{sent_to}, Lists.{without}, NicCalls.{DealtWith, HasNothingIn, HasOwn, TookBuffer, apps_of}}
use Rattle.board_face.specs.{NicEvents.{cached, cache_room, fresh, placed, shut, took}, Relay.{dealt_entries}, Sides.{nic_at}, Tokens.{filled_by, same_filling}}
use Rattle.board_face.specs.declared.{answers.Entry.{Entry, TheVariants.{Freed, Honoured, Stray, Empty}}, views.nic.{Dealt.{Dealt}, NicSide.{NicSide}}}
use Rattle.board_face.specs.declared.views.{nic.{NicView.{NicView}, SentNote.{SentNote}}, parts.{Filling.{Filling}, Setting.{Setting}, Slot.{Slot}}}
use Rattle.board_face.proofs.{DealtLemmas.{dealt-more, dealt-same, length-mapped}, ListLemmas.{All-without}, NicLemmas.{sent_to-same, sent_to-other}}
use Rattle.ref_words.specs.{FreeSteps.{IsSwept, all_listed_in, side_swept}}
use Rattle.word_board.specs.{Board.{IsBoardSetting, TheNic}, Hands.{NicKeeps}}

-- ---- the next slots

-- a number of an application is that of a slot kept for it
pub few-apps : (setting : Setting) (a : ℕ) → IsBoardSetting setting → a < apps_of setting → a < 8
few-apps setting a sound here = omega (arith, here, sound.layout.reserves.1)

-- what its face calls an application is one of the board
pub own-app : (setting : Setting) (card seat : TheNic) (a : ℕ) → card.side.view.setting ≡ setting → card ≡ seat
    → a < apps_of seat.side.view.setting → a < apps_of setting
own-app setting card seat a set is here =
    subst (λ t. a < apps_of t) set (subst (λ (x : TheNic). a < apps_of x.side.view.setting) (sym is) here)

-- One more at this application: its next slot is the one behind, and those of the others are as before.
pub next-slots : (places n : ℕ) (slots : List ℕ) (many more : ℕ → ℕ) (a slot : ℕ) → a < length slots → a < n
    → ((k : ℕ) → k < n → get_or slots k 0 ≡ many k % places) → slot ≡ (get_or slots a 0 + 1) % places
    → more a ≡ many a + 1 → ((k : ℕ) → k ≢ a → more k ≡ many k)
    → (k : ℕ) → k < n → get_or (set slots a slot) k 0 ≡ more k % places
next-slots places n slots many more a slot within here are is one others k there =
    ⊎_elim
    (λ t. let behind : slot ≡ more a % places =
    is ∙ (ap (λ m. (m + 1) % places) (are a here) ∙ (mod-add-mod (many a) places 1 ∙ ap (λ m. m % places) (sym one))) in
    subst (λ j. get_or (set slots a slot) j 0 ≡ more j % places) (sym t.1) (get_or-set_same slots a slot 0 within ∙ behind))
    (λ t. get_or-set_other slots a k slot 0 t.1 ∙ (are k there ∙ ap (λ m. m % places) (sym (others k t.1))))
    (eqb_tells k a)

-- ---- the cache

-- a buffer enters the cache only where it is one of the pool
pub cached-within : (pool : ℕ) (cache : List ℕ) (buffer : ℕ) (last : Bool) → All (λ b. b < pool) cache
    → All (λ b. b < pool) (if last && nat_lt buffer pool then cached cache buffer else cache)
cached-within pool cache buffer last are = by last (nat_lt buffer pool) refl
  where
    pushed : (room : Bool) → buffer < pool → All (λ b. b < pool) (if room then cache ++ buffer ∷ [] else cache)
    pushed true small = All-push (λ b. b < pool) cache buffer are small
    pushed false small = are

    by : (l small : Bool) → nat_lt buffer pool ≡ small → All (λ b. b < pool) (if l && small then cached cache buffer else cache)
    by false small e = are
    by true false e = are
    by true true e = pushed (nat_lt (length cache) cache_room) (ltb-true buffer pool e)

-- ---- one event

module _ (setting : Setting) (nic : NicSide) (kept notes entries : List ℕ) (keeps : NicKeeps setting nic kept notes entries) where
  abbrev pool : ℕ
  pool = pool_buffers setting.layout

  -- the next slot is one of the ring
  pub note-within : (a : ℕ) → IsBoardSetting setting → a < apps_of setting → get_or notes a 0 < setting.places
  note-within a sound here = subst (λ n. n < setting.places) (sym (keeps.next_notes a here)) (mod-lt (length (sent_to a nic)) sound.places)

  pub entry-within : (a : ℕ) → IsBoardSetting setting → a < apps_of setting → get_or entries a 0 < setting.places
  entry-within a sound here =
      subst (λ n. n < setting.places) (sym (keeps.next_entries a here)) (mod-lt (length (dealt_entries a nic)) sound.places)

  -- events that send nothing and deal with nothing, and leave nothing in hand
  NicKeeps-nic : (v : NicView) (now : List ℕ) → v.setting ≡ nic.view.setting → v.sent ≡ nic.view.sent → v.dealt ≡ nic.view.dealt
      → now ≡ v.cache → All (λ b. b < pool) v.cache
      → All (λ (o : Filling). (o.buffer < pool) × (o.size ≡ size_of setting.layout o.buffer)) v.owns
      → NicKeeps setting (nic_at nic v) now notes entries
  NicKeeps-nic v now same sents deals cache small owns = record {
    set = same ∙ keeps.set;
    rests = record { making = keeps.rests.making; entry = keeps.rests.entry; hands = keeps.rests.hands };
    lies = record { cached = small; owns = owns };
    cache = cache;
    many = keeps.many;
    next_notes = λ a here. keeps.next_notes a here ∙ ap (λ (ss : List SentNote). length (filter (λ s. s.app == a) ss) % setting.places) (sym sents);
    next_entries = λ a here. keeps.next_entries a here
        ∙ ap (λ (ds : List Dealt). length (map (λ d. d.entry) (filter (λ d. d.app == a) ds)) % setting.places) (sym deals);
  }

  -- the buffer that entered last was taken
  pub last-small : (buffer : ℕ) (now : List ℕ) → kept ≡ now ++ buffer ∷ [] → buffer < pool
  last-small buffer now is = (All-pop (λ b. b < pool) nic.view.cache now (Some buffer) (sym keeps.cache ∙ is) keeps.lies.cached).1

  pub NicKeeps-took : (buffer : ℕ) (now : List ℕ) → kept ≡ now ++ buffer ∷ [] → now ≡ take (length kept - 1) kept
      → NicKeeps setting (nic_at nic (took nic.view buffer)) now notes entries
  NicKeeps-took buffer now is rest =
      let here : now ≡ take (length nic.view.cache - 1) nic.view.cache = subst (λ k. now ≡ take (length k - 1) k) keeps.cache rest in
      let small = last-small buffer now is in
      NicKeeps-nic (took nic.view buffer) now refl refl refl here
      (subst (All (λ b. b < pool)) here (All-pop (λ b. b < pool) nic.view.cache now (Some buffer) (sym keeps.cache ∙ is) keeps.lies.cached).0)
      (All-push (λ (o : Filling). (o.buffer < pool) × (o.size ≡ size_of setting.layout o.buffer)) nic.view.owns (fresh nic.view.setting buffer)
      keeps.lies.owns (small, ap (λ (s : Setting). size_of s.layout buffer) keeps.set))

  pub TookBuffer-last : (buffer : ℕ) (now : List ℕ) → kept ≡ now ++ buffer ∷ [] → now ≡ take (length kept - 1) kept → HasNothingIn nic.view buffer
      → TookBuffer nic.view (took nic.view buffer) (fresh nic.view.setting buffer)
  TookBuffer-last buffer now is rest apart = record {
    last = sym keeps.cache ∙ (is ∙ ap (λ xs. xs ++ buffer ∷ []) (subst (λ k. now ≡ take (length k - 1) k) keeps.cache rest));
    of_pool = subst (λ (s : Setting). buffer < pool_buffers s.layout) (sym keeps.set) (last-small buffer now is);
    fresh = refl;
    event = refl;
    apart = apart;
  }

  -- a word was swept
  pub NicKeeps-swept : (word n : ℕ) → IsSwept nic word n → NicKeeps setting (side_swept nic word n) (kept ++ all_listed_in word n) notes entries
  NicKeeps-swept word n is =
      let more = is.event in
      let of_pool : (k d : ℕ) → k < length more.found → get_or more.found k d < pool =
      λ k d there. subst (λ (s : Setting). get_or more.found k d < pool_buffers s.layout) keeps.set (more.within k d there).1 in
      NicKeeps-nic (side_swept nic word n).view (kept ++ all_listed_in word n) refl refl refl (ap (λ xs. xs ++ all_listed_in word n) keeps.cache)
      (subst (All (λ b. b < pool)) (sym (ap (λ (v : NicView). v.cache) more.event))
      (All-append (λ b. b < pool) nic.view.cache more.found keeps.lies.cached of_pool))
      keeps.lies.owns

  -- a text was placed
  pub NicKeeps-placed : (own : Filling) (bytes : List ℕ) → HasOwn nic.view own
      → NicKeeps setting (nic_at nic (placed nic.view own bytes)) kept notes entries
  NicKeeps-placed own bytes out =
      let mine : Filling → Type 0 = λ o. (o.buffer < pool) × (o.size ≡ size_of setting.layout o.buffer) in
      NicKeeps-nic (placed nic.view own bytes) kept refl refl refl keeps.cache keeps.lies.cached
      (All-push mine (without (same_filling own) nic.view.owns) (filled_by own (length bytes))
      (All-without mine (same_filling own) nic.view.owns keeps.lies.owns) (All-contains mine nic.view.owns own keeps.lies.owns out))

  -- a buffer was closed
  pub NicKeeps-shut : (own : Filling) (last free : Bool) (now : List ℕ) → free ≡ (last && nat_lt own.buffer pool)
      → now ≡ (if free then cached kept own.buffer else kept) → NicKeeps setting (nic_at nic (shut nic.view own last)) now notes entries
  NicKeeps-shut own last free now is rest =
      let small : pool_buffers nic.view.setting.layout ≡ pool = ap (λ (s : Setting). pool_buffers s.layout) keeps.set in
      NicKeeps-nic (shut nic.view own last) now refl refl refl
      (rest ∙ (ap (λ f. if f then cached kept own.buffer else kept) (is ∙ ap (λ p. last && nat_lt own.buffer p) (sym small))
      ∙ ap (λ k. if last && nat_lt own.buffer (pool_buffers nic.view.setting.layout) then cached k own.buffer else k) keeps.cache))
      (subst (λ p. All (λ b. b < p) (if last && nat_lt own.buffer (pool_buffers nic.view.setting.layout) then cached nic.view.cache own.buffer else nic.view.cache))
      small (cached-within (pool_buffers nic.view.setting.layout) nic.view.cache own.buffer last
      (subst (λ p. All (λ b. b < p) nic.view.cache) (sym small) keeps.lies.cached)))
      (All-without (λ (o : Filling). (o.buffer < pool) × (o.size ≡ size_of setting.layout o.buffer)) (same_filling own) nic.view.owns keeps.lies.owns)

  -- a note was sent
  pub NicKeeps-sent : (v : NicView) (slots : List Slot) (s : SentNote) (slot : ℕ) → IsBoardSetting setting → s.app < apps_of setting
      → v.setting ≡ nic.view.setting → v.cache ≡ nic.view.cache → v.owns ≡ nic.view.owns → v.dealt ≡ nic.view.dealt → v.sent ≡ nic.view.sent ++ s ∷ []
      → slot ≡ (get_or notes s.app 0 + 1) % setting.places
      → NicKeeps setting (record { view = v; inside = record nic.inside { note_slots = slots } }) kept (set notes s.app slot) entries
  NicKeeps-sent v slots s slot sound here same cache owns deals sents is = record {
    set = same ∙ keeps.set;
    rests = record { making = keeps.rests.making; entry = keeps.rests.entry; hands = keeps.rests.hands };
    lies = record {
      cached = subst (All (λ b. b < pool)) (sym cache) keeps.lies.cached;
      owns = subst (All (λ (o : Filling). (o.buffer < pool) × (o.size ≡ size_of setting.layout o.buffer))) (sym owns) keeps.lies.owns;
    };
    cache = keeps.cache ∙ sym cache;
    many = (length-set notes s.app slot ∙ keeps.many.0, keeps.many.1);
    next_notes = next-slots setting.places (apps_of setting) notes (λ k. length (sent_to k nic)) (λ k. length (filter (λ (x : SentNote). x.app == k) v.sent))
        s.app slot (omega (arith, keeps.many.0, few-apps setting s.app sound here)) here keeps.next_notes is
        (ap (λ ss. length (filter (λ (x : SentNote). x.app == s.app) ss)) sents
        ∙ (ap length (sent_to-same s.app nic.view.sent s refl) ∙ length_push (sent_to s.app nic) s))
        (λ k ne. ap (λ ss. length (filter (λ (x : SentNote). x.app == k) ss)) sents ∙ ap length (sent_to-other k nic.view.sent s (λ e. ne (sym e))));
    next_entries = λ a there. keeps.next_entries a there
        ∙ ap (λ (ds : List Dealt). length (map (λ d. d.entry) (filter (λ d. d.app == a) ds)) % setting.places) (sym deals);
  }

-- ---- an entry

-- One more of an application was dealt with, and only a buffer of the pool was cached.
pub record IsDealt (old new : NicView) (app : ℕ) : Type 0 where
  pub same : new.setting ≡ old.setting
  pub sents : new.sent ≡ old.sent
  pub owns : new.owns ≡ old.owns
  pub by : Dealt
  pub deals : new.dealt ≡ old.dealt ++ by ∷ []
  pub mine : by.app ≡ app
  pub cached : All (λ b. b < pool_buffers old.setting.layout) old.cache → All (λ b. b < pool_buffers old.setting.layout) new.cache

pub is-dealt : (old new : NicView) (app : ℕ) (answer : Entry) → answer ≢ Empty → DealtWith old new app answer → IsDealt old new app
is-dealt old new app Freed some did = record {
  same = ap (λ (v : NicView). v.setting) did.event;
  sents = ap (λ (v : NicView). v.sent) did.event;
  owns = ap (λ (v : NicView). v.owns) did.event;
  by = _;
  deals = ap (λ (v : NicView). v.dealt) did.event;
  mine = refl;
  cached = λ are. subst (All (λ b. b < pool_buffers old.setting.layout)) (sym (ap (λ (v : NicView). v.cache) did.event))
      (cached-within (pool_buffers old.setting.layout) old.cache did.buffer true are);
}
is-dealt old new app Honoured some did = record {
  same = ap (λ (v : NicView). v.setting) did.event;
  sents = ap (λ (v : NicView). v.sent) did.event;
  owns = ap (λ (v : NicView). v.owns) did.event;
  by = _;
  deals = ap (λ (v : NicView). v.dealt) did.event;
  mine = refl;
  cached = λ are. subst (All (λ b. b < pool_buffers old.setting.layout)) (sym (ap (λ (v : NicView). v.cache) did.event))
      (cached-within (pool_buffers old.setting.layout) old.cache did.buffer did.last are);
}
is-dealt old new app Stray some did = record {
  same = ap (λ (v : NicView). v.setting) did.event;
  sents = ap (λ (v : NicView). v.sent) did.event;
  owns = ap (λ (v : NicView). v.owns) did.event;
  by = _;
  deals = ap (λ (v : NicView). v.dealt) did.event;
  mine = refl;
  cached = λ are. subst (All (λ b. b < pool_buffers old.setting.layout)) (sym (ap (λ (v : NicView). v.cache) did.event)) are;
}
is-dealt old new app Empty some did = absurd (some refl)

pub NicKeeps-dealt : (setting : Setting) (nic now : NicSide) (kept notes entries next : List ℕ) (a slot : ℕ) (slots : List Slot)
    → NicKeeps setting nic kept notes entries → IsBoardSetting setting → a < apps_of setting → IsDealt nic.view now.view a
    → now.inside ≡ record nic.inside { refill_slots = slots } → next ≡ now.view.cache → slot ≡ (get_or entries a 0 + 1) % setting.places
    → NicKeeps setting now next notes (set entries a slot)
NicKeeps-dealt setting nic now kept notes entries next a slot slots keeps sound here did inside cache is =
    let small : pool_buffers nic.view.setting.layout ≡ pool_buffers setting.layout = ap (λ (s : Setting). pool_buffers s.layout) keeps.set in
    record {
      set = did.same ∙ keeps.set;
      rests = record {
        making = ap (λ i. i.making) inside ∙ keeps.rests.making;
        entry = ap (λ i. i.entry) inside ∙ keeps.rests.entry;
        hands = ap (λ i. i.hands) inside ∙ keeps.rests.hands;
      };
      lies = record {
        cached = subst (λ p. All (λ b. b < p) now.view.cache) small (did.cached (subst (λ p. All (λ b. b < p) nic.view.cache) (sym small) keeps.lies.cached));
        owns = subst (All (λ (o : Filling). (o.buffer < pool_buffers setting.layout) × (o.size ≡ size_of setting.layout o.buffer))) (sym did.owns)
            keeps.lies.owns;
      };
      cache = cache;
      many = (keeps.many.0, length-set entries a slot ∙ keeps.many.1);
      next_notes = λ k there. keeps.next_notes k there
          ∙ ap (λ (ss : List SentNote). length (filter (λ s. s.app == k) ss) % setting.places) (sym did.sents);
      next_entries = next-slots setting.places (apps_of setting) entries (λ k. length (dealt_entries k nic)) (λ k. length (dealt_entries k now)) a slot
          (omega (arith, keeps.many.1, few-apps setting a sound here)) here keeps.next_entries is
          (length-mapped (λ (d : Dealt). d.entry) (filter (λ (d : Dealt). d.app == a) now.view.dealt)
          ∙ (ap length (dealt-more nic now.view a did.by did.deals did.mine)
          ∙ (length_push (filter (λ (d : Dealt). d.app == a) nic.view.dealt) did.by
          ∙ ap (λ n. n + 1) (sym (length-mapped (λ (d : Dealt). d.entry) (filter (λ (d : Dealt). d.app == a) nic.view.dealt))))))
          (λ k ne. length-mapped (λ (d : Dealt). d.entry) (filter (λ (d : Dealt). d.app == k) now.view.dealt)
          ∙ (ap length (dealt-same nic now.view k did.by did.deals (λ e. ne (sym e ∙ did.mine)))
          ∙ sym (length-mapped (λ (d : Dealt). d.entry) (filter (λ (d : Dealt). d.app == k) nic.view.dealt))));
    }
