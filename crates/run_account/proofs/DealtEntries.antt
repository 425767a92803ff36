-- A turn of the card deals with entries of the board's applications alone.
use Rattle.std.{proofs.{Common.{◌≡◌, ℕ, ◌<◌, List, ◌++◌, Option, Some, None, ⊎_elim, sym, ap, ◌∙◌, subst}, lemmas.List.Elements.{All-append}}, specs.Prelude.{All}}
use Rattle.zr_kinds.specs.declared.outcome.PoolStats.{PoolStats}
use Rattle.board_face.specs.{NicCalls.{apps_of}, declared.views.{parts.Filling.{Filling}, nic.{Dealt.{Dealt}, NicView.{NicView}}}}
use Rattle.page_pool.specs.{declared.offer.{Offer.{Offer}, Verdict.{Verdict, TheVariants.{Accepted, NoRoom, Busy}}}, Dealing.{DrainsRings}}
use Rattle.page_pool.specs.{Offer.{ClosesCurrent, LooksFor, not_needed, searched}, Searching.{LooksAhead}, Pool.{PoolState}, declared.search_end.SearchEnd.{SearchEnd}}
use Rattle.card_feed.{specs.{Feed.{FeedState}, Turns.{FeedPlays, drains, offers, finishes, rests, Settles, KeepsUp}}, proofs.PlayLemmas.{closed-dealt}}
use Rattle.card_feed.proofs.Counting.{closes-dealt}

closed-setting : (current : Option Filling) (old new : NicView) → ClosesCurrent current old new → new.setting ≡ old.setting
closed-setting None old new same = ap (λ (v : NicView). v.setting) same
closed-setting (Some own) old new closed = ap (λ (v : NicView). v.setting) closed.event

module _ (n : ℕ) where
  abbrev IsOne : Dealt → Type 0
  IsOne d = d.app < n

  with-more : (before more after : List Dealt) → after ≡ before ++ more → All IsOne before → All IsOne more → All IsOne after
  with-more before more after are old new = subst (All IsOne) (sym are) (All-append IsOne before more old new)

  drained : (was now : PoolStats) (old new : NicView) (count : ℕ) → DrainsRings was now old new count → apps_of old.setting ≡ n
      → All IsOne old.dealt → All IsOne new.dealt
  drained was now old new count d many all = with-more old.dealt d.more new.dealt (ap (λ (v : NicView). v.dealt) d.deals.view) all
      (subst (λ m. All (λ (e : Dealt). e.app < m) d.more) many d.turns.apps_of)

  looked : (need : ℕ) (current : Option Filling) (ahead : SearchEnd) (was now : PoolStats) (old new : NicView) (how : Option SearchEnd)
      → LooksFor need current ahead was now old new how → apps_of old.setting ≡ n → All IsOne old.dealt → All IsOne new.dealt
  looked need current ahead was now old new _ (not_needed none stats same) many all = subst (λ (v : NicView). All IsOne v.dealt) (sym same) all
  looked need current ahead was now old new _ (searched begin met how some closes searches counts) many all =
      with-more begin.dealt searches.more new.dealt (ap (λ (v : NicView). v.dealt) searches.view)
      (subst (All IsOne) (sym (closed-dealt current old begin closes)) all)
      (subst (λ m. All (λ (e : Dealt). e.app < m) searches.more) (ap apps_of (closed-setting current old begin closes) ∙ many) searches.turns.apps_of)

  settled : (was now : FeedState) (old new : NicView) (o : Offer) (verdict : Verdict) → Settles was now old new o verdict → apps_of old.setting ≡ n
      → All IsOne old.dealt → All IsOne new.dealt
  settled was now old new o Accepted settles many all =
      let accepts = settles.0 in
      let same = accepts.flush.view in
      let found = looked _ _ _ _ _ accepts.flushed accepts.found accepts.how accepts.search (ap (λ (v : NicView). apps_of v.setting) same ∙ many)
      (subst (All IsOne) (sym (ap (λ (v : NicView). v.dealt) same)) all) in
      subst (All IsOne) (sym (ap (λ (v : NicView). v.dealt) accepts.placing)) found
  settled was now old new o (NoRoom cached need) settles many all =
      let refuses = settles.0 in
      let same = refuses.flush.view in
      looked _ _ _ _ _ refuses.flushed new _ refuses.search (ap (λ (v : NicView). apps_of v.setting) same ∙ many)
      (subst (All IsOne) (sym (ap (λ (v : NicView). v.dealt) same)) all)
  settled was now old new o Busy (pool, mid, count, puts, drains_it, same_feed) many all =
      let same = puts.sends.view in
      drained pool.stats now.pool.stats mid new count drains_it (ap (λ (v : NicView). apps_of v.setting) same ∙ many)
      (subst (All IsOne) (sym (ap (λ (v : NicView). v.dealt) same)) all)

  pub dealt-of : (was now : FeedState) (old new : NicView) → FeedPlays was now old new → apps_of old.setting ≡ n → All IsOne old.dealt
      → All IsOne new.dealt
  dealt-of was now old new (drains on count drains_it same) many all = drained was.pool.stats now.pool.stats old new count drains_it many all
  dealt-of was now old new (offers on o is hand) many all = settled was now old new hand.offer hand.verdict hand.settles many all
  dealt-of was now old new (finishes on none over (pool, mid, sends, end)) many all =
      let view = sends.view in
      let setting : apps_of mid.setting ≡ n = ap (λ (v : NicView). apps_of v.setting) view ∙ many in
      let before : All IsOne mid.dealt = subst (All IsOne) (sym (ap (λ (v : NicView). v.dealt) view)) all in
      ⊎_elim
      (λ (none_pending, closes, same). subst (All IsOne) (sym (closes-dealt pool.current mid new closes)) before)
      (λ (waits, more). drained pool.stats now.pool.stats mid new more.0 more.1 setting before)
      end
  dealt-of was now old new (rests on none over same still) many all = subst (λ (v : NicView). All IsOne v.dealt) (sym still) all

  -- nor while it keeps up with the applications
  pub dealt-up : (was now : FeedState) (old new : NicView) → KeepsUp was now old new → apps_of old.setting ≡ n → All IsOne old.dealt
      → All IsOne new.dealt
  dealt-up was now old new (pool, mid, sends, rest, (count, drains_it, same)) many all =
      let view = sends.view in
      let setting : apps_of mid.setting ≡ n = ap (λ (v : NicView). apps_of v.setting) view ∙ many in
      let before : All IsOne mid.dealt = subst (All IsOne) (sym (ap (λ (v : NicView). v.dealt) view)) all in
      drained pool.stats now.pool.stats mid new count drains_it setting before

  -- nor while it looks for buffers
  pub dealt-ahead : (need : ℕ) (was now : PoolState) (old new : NicView) → LooksAhead need was now old new → apps_of old.setting ≡ n
      → All IsOne old.dealt → All IsOne new.dealt
  dealt-ahead need was now old new looks many all =
      let searches = looks.searches in
      with-more old.dealt searches.more new.dealt (ap (λ (v : NicView). v.dealt) searches.view) all
      (subst (λ m. All (λ (e : Dealt). e.app < m) searches.more) many searches.turns.apps_of)
