-- What an answer 'not now' implies of the role's own view, by the rule of the board of which the look tells.
use Rattle.std.proofs.Common.{◌≡◌, ℕ, ◌+◌, ◌<◌, ◌≤◌, false, [], ◌∷◌, length, get_or, refl, ap, sym, ◌∙◌, arith, subst, ⊎_elim, Option, Some, None, zero, suc}
use Rattle.std.{proofs.{Math.Nat.{mod-eq_of_lt}, lemmas.Bool.{cases_lt, false≢true}}, specs.Prelude.{◌==◌, not, IfSome}}
use Rattle.area_layout.specs.Layout.{pool_buffers, all_buffers}
use Rattle.board_face.specs.{NicCalls.{apps_of}, NicEvents.{nic_gist}, AppEvents.{app_gist, reserve_of}}
use Rattle.board_face.specs.{NotNow.{HasSentRingful, HasWrittenRingful, HasWritten, HasPushedRaw, HasUsedReserve}, Returns.{is_raw}, Holders.{sent_to, making_places}}
use Rattle.board_face.specs.{SlotSteps.{next_slot}, Blank.{blank_app}, declared.views.{parts.{Setting.{Setting}, Making.{Making}}, nic.NicView.{NicView}}}
use Rattle.board_face.{specs.declared.views.app.{LentPiece.{LentPiece}, SpareOwn.{SpareOwn}, AppView.{AppView}}, proofs.SideLemmas.{IsApp-at}}
use Rattle.board_face.proofs.{Tallies.{one_if, tally, tally-append}, Parts.{count-tally}}
use Rattle.board_parts.proofs.{FreeLists.{weight-other}, Reserves.{reserve-alone}}
use Rattle.word_rings.specs.Slots.{note_width}
use Rattle.ref_words.{specs.{Words.{slot_word, pool_word_of}, Rings.{IsRing, words_of_note}}, proofs.Phases.{phases-mine}}
use Rattle.word_board.specs.Told.{IsToldToApp, IsRawInUse, IsOneInUse, SawNoteInUse, SawRefillInUse, SawReserveHeld}

-- what is 0 wasn't seen above it
zero-seen : (n : ℕ) → n ≡ 0 → (n == 0) ≡ false → ⊥
zero-seen n none some = false≢true (sym some ∙ ap (λ x. x == 0) none)

-- ---- the card

pub full-sent : (setting : Setting) (v : NicView) (a : ℕ) → a < apps_of setting → SawNoteInUse setting (nic_gist v) a → HasSentRingful v a
full-sent setting v a few told =
    let set = told.rule.refs.sides.set in
    let app = get_or told.apps a blank_app in
    let here = IsApp-at told.apps a blank_app set.numbers (omega (arith, few, set.many)) in
    let ring = subst
    (λ k. IsRing note_width (words_of_note setting) setting.places (get_or told.words.notes k []) (sent_to k told.nic) (length app.view.taken)
    (next_slot told.nic.inside.note_slots k) app.inside.note_slot)
    here.number (told.rule.refs.rings a app here).notes in
    let sent : ℕ = length (sent_to a told.nic) in
    let full : setting.places ≤ sent = ⊎_elim
    (λ less. absurd (zero-seen _ (ring.free sent (omega arith) less) told.holds)) (λ more. omega (arith, more))
    (cases_lt sent (length app.view.taken + setting.places)) in
    subst (λ (x : NicView). HasSentRingful x a) told.same
    (subst (λ (s : Setting). s.places ≤ sent) (sym set.card) full)

-- ---- an application

-- what it did is of the board's setting
own-setting : (setting : Setting) (v : AppView) (so : _) → (told : IsToldToApp setting v so) → told.app.view.setting ≡ setting
own-setting setting v so told = subst (λ x. x.view.setting ≡ setting) told.here.is (told.rule.refs.sides.set.others told.app.view.app told.app told.here.there)

pub full-written : (setting : Setting) (v : AppView) → SawRefillInUse setting (app_gist v) → HasWrittenRingful v
full-written setting v told =
    let ring = (told.rule.refs.rings told.app.view.app told.app told.here).refills.ring in
    let written : ℕ = length told.app.view.written in
    let full : setting.places ≤ written = ⊎_elim
    (λ less. absurd (zero-seen _ (ring.free written (omega arith) less) told.holds)) (λ more. omega (arith, more))
    (cases_lt written _) in
    subst HasWrittenRingful told.same (subst (λ (s : Setting). s.places ≤ written) (sym (own-setting setting (app_gist v) _ told)) full)

-- an entry that is raw is counted
pub raw-pushed : (setting : Setting) (v : AppView) → IsToldToApp setting (app_gist v) (IsRawInUse setting) → HasPushedRaw v
raw-pushed setting v told =
    let last = told.holds.last in
    let is = ap (tally is_raw) last.is in
    let raw : one_if (is_raw last.entry) ≡ 1 = ap (λ b. one_if (not b)) last.raw in
    subst HasPushedRaw told.same
    (omega (arith, is, raw, tally-append is_raw last.before (last.entry ∷ last.behind), count-tally is_raw told.app.view.written))

-- where nothing was written, every slot is free
some-of : (n taken places : ℕ) → (n ≡ 0 → taken ≡ 0 → ⊥) → taken ≤ n → 0 < n
some-of zero taken places free order = absurd (free refl (omega (arith, order)))
some-of (suc n) taken places free order = omega arith

pub some-written : (setting : Setting) (v : AppView) → IsToldToApp setting (app_gist v) (IsOneInUse setting) → HasWritten v
some-written setting v told =
    let ring = (told.rule.refs.rings told.app.view.app told.app told.here).refills.ring in
    let slots = get_or told.words.refills told.app.view.app [] in
    let s = told.holds.slot in
    let written : ℕ = length told.app.view.written in
    subst HasWritten told.same
    (some-of written _ setting.places
    (λ none first. zero-seen (slot_word told.words.refills told.app.view.app s 0)
    (subst (λ k. get_or (get_or slots k []) 0 0 ≡ 0) (mod-eq_of_lt told.holds.within)
    (ring.free s (omega (arith, none)) (omega (arith, first, told.holds.within))))
    told.holds.in_use)
    ring.order)

-- ---- its reserve

made-none : (making : Option Making) (n b : ℕ) → IfSome making (λ m. m.place.buffer < n) → n ≤ b
    → tally (λ p. p.buffer == b) (making_places making) ≡ 0
made-none None n b inside past = refl
made-none (Some m) n b inside past = omega (arith, weight-other m.place.buffer b (λ e. absurd (omega (arith, e, inside))))

pub used-reserve : (setting : Setting) (v : AppView) → SawReserveHeld setting (app_gist v) → HasUsedReserve v
used-reserve setting v told =
    let rule = told.rule in
    let set = rule.refs.sides.set in
    let app = told.app in
    let own = own-setting setting (app_gist v) _ told in
    let reserve : ℕ = reserve_of app.view in
    let pools : pool_buffers told.nic.view.setting.layout ≡ pool_buffers setting.layout = ap (λ s. pool_buffers s.layout) set.card in
    let mine : pool_buffers app.view.setting.layout ≡ pool_buffers setting.layout = ap (λ s. pool_buffers s.layout) own in
    let inside : reserve < all_buffers setting.layout = let h = told.here.there in omega (arith, mine, set.many) in
    let alone = reserve-alone told.nic told.apps app.view.app app told.here set.numbers
    (λ k y it. subst (λ x. x.view.setting ≡ setting) it.is (set.others k y it.there) ∙ sym set.card)
    (λ k y it. (phases-mine told.words.phases told.nic told.apps rule.phases k y it).lies) rule.phases.lies rule.refs.sides.fit.of_pool
    (made-none told.nic.inside.making _ reserve rule.phases.made (omega (arith, mine, pools))) in
    let some : 0 < pool_word_of told.words reserve = ⊎_elim (λ more. more)
    (λ none. absurd (zero-seen (pool_word_of told.words reserve) (omega (arith, none)) told.holds))
    (cases_lt 0 (pool_word_of told.words reserve)) in
    subst HasUsedReserve told.same
    (omega (
      arith,
      some,
      rule.refs.pool reserve inside,
      alone,
      count-tally (λ (s : SpareOwn). s.own.buffer == reserve) app.view.owns,
      count-tally (λ (l : LentPiece). l.place.buffer == reserve) app.view.loans,
      count-tally (λ (l : LentPiece). l.place.buffer == reserve) app.view.returned,
    ))
