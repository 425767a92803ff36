-- Roles that are over were served, and nobody of them has a buffer.
use Rattle.std.proofs.Common.{◌≡◌, ℕ, ◌+◌, ◌<◌, ◌≤◌, true, List, [], length, map, take, drop, get_or, refl, ap, sym, ◌∙◌, arith, subst, ⊎_elim, length-drop}
use Rattle.std.specs.{Prelude.{◌==◌, All, nat_eq, count_by, if◌then◌else◌, Option, Some, None}, List.{flat_map}}
use Rattle.std.proofs.lemmas.{List.{take_all, length-map, nil_from_length}, Bool.Decides.{eqb_tells}}
use Rattle.area_layout.specs.Layout.{pool_buffers}
use Rattle.board_face.specs.{Sides.{IsApp}, AppCalls.{CanLeave}, Counts.{pool_count}, Ended.{IsServed}}
use Rattle.board_face.specs.{Holders.{sent_to, on_way, returning_in_hand, returning_count, nic_holders, app_holders}, Relay.{as_taken, dealt_entries}}
use Rattle.board_face.specs.{Returns.{entries_on_way}, declared.views.{parts.Setting.{Setting}, nic.{EntryInHand.{EntryInHand}, NicSide.{NicSide}}}}
use Rattle.board_face.{specs.declared.views.app.{WrittenEntry.{WrittenEntry}, AppSide.{AppSide}}, proofs.{SideLemmas.{IsApp-at}, Tallies.{tally, tally-flat}}}
use Rattle.board_face.proofs.Parts.{nic_count, app_count, helds_in, spares_in, loans_in, notes_in, owed_count, owed-count, count-tally}
use Rattle.board_face.proofs.{Parts.{length-nic_holders, length-app_holders, pool_count-parts}, Counting.{total-zero}}
use Rattle.ref_words.specs.{Words.{Words, listed_bit}, Over.{CardIsOver, AppIsOver}, PhaseRule.{IsAppPhased}, TextRule.{HasTexts}, Rule.{BoardRule}}

-- what nothing is left of behind its first n was taken whole
all-taken : {A B : Type 0} (f : A → B) (n : ℕ) (xs : List A) → drop n xs ≡ [] → take n (map f xs) ≡ map f xs
all-taken f n xs none = take_all n (map f xs) (omega (arith, ap length none, length-drop n xs, length-map xs f))

module _ (setting : Setting) (words : Words) (nic : NicSide) (apps : List AppSide) (rule : BoardRule setting words nic apps) where
  -- ---- an application that has left

  module _ (a : ℕ) (app : AppSide) (here : IsApp apps a app) (left : app.view.left ≡ true) where
    phase : IsAppPhased words.phases nic app
    phase = subst (IsAppPhased words.phases nic) here.is (rule.phases.sides a app here.there)

    could : CanLeave app.view
    could = phase.left left

    no-note : on_way nic app ≡ []
    no-note = (phase.told could.ended).1

    no-entry : entries_on_way nic app ≡ []
    no-entry = (rule.refs.sides.returns a app here).scrubbed could.scrubbed

    pub served : IsServed nic app
    served = record {
      taken = sym (rule.refs.sides.taken a app here).order
          ∙ all-taken as_taken (length app.view.taken) (sent_to app.view.app nic) no-note;
      reads = (subst (λ x. HasTexts setting.layout words.area nic x) here.is (rule.texts.others a app here.there)).reads;
      entries = sym (rule.refs.sides.dealt a app here).order
          ∙ all-taken (λ (w : WrittenEntry). w.entry) (length (dealt_entries app.view.app nic)) app.view.written no-entry;
      strays = (rule.refs.sides.returns a app here).strays;
    }

    -- an entry that the card has in hand is none of this application's
    not-in-hand : (b : ℕ) (entry : Option EntryInHand) → nic.inside.entry ≡ entry → returning_in_hand app.view.app b entry ≡ 0
    not-in-hand b None e = refl
    not-in-hand b (Some inhand) e =
        ⊎_elim
        (λ t. let same : inhand.app ≡ app.view.app = t.1 in
        let it : IsApp apps inhand.app app = subst (λ n. IsApp apps n app) (sym (same ∙ here.number)) here in
        let first = (rule.refs.sides.hand inhand e).first app it in
        absurd (omega (arith, ap length first.is, ap length no-entry)))
        (λ t. rw t.0 refl)
        (eqb_tells inhand.app app.view.app)

    module _ (lowered : (b : ℕ) → get_or app.inside.scrub_owes b 0 ≡ 0) (b : ℕ) where
      none-in : app_count b nic app ≡ 0
      none-in =
          let sent : notes_in b (on_way nic app) ≡ 0 = rw no-note refl in
          let helds : helds_in b app ≡ 0 = rw could.helds refl in
          let spares : spares_in b app ≡ 0 = rw could.spares refl in
          let loans : loans_in b app ≡ 0 = rw could.loans refl in
          let owes : owed_count b nic app ≡ 0 = sym (owed-count b nic app)
          ∙ (rule.refs.sides.scrubbed a app here could.scrubbed).owed b in
          let returning : returning_count b nic app ≡ 0 = omega (arith, not-in-hand b nic.inside.entry refl, lowered b) in
          omega (arith, sent, helds, spares, loans, owes, returning)

      pub app-none : app_holders b nic app ≡ []
      app-none = nil_from_length (app_holders b nic app) (length-app_holders b nic app ∙ none-in)

  -- ---- the card

  module _ (over : CardIsOver nic) where
    none-there : (b : ℕ) → nic_count b nic ≡ 0
    none-there b =
        let stopped = rule.phases.ended over.ended in
        rw (stopped.none.owns, stopped.none.pieces, stopped.idle) refl

    pub card-none : (b : ℕ) → nic_holders b nic ≡ []
    card-none b = nil_from_length (nic_holders b nic) (length-nic_holders b nic ∙ none-there b)

    -- ---- all

    module _ (all : All AppIsOver apps) (b : ℕ) where
      none-held : pool_count b nic apps ≡ 0
      none-held = omega (
        arith,
        pool_count-parts b nic apps,
        none-there b,
        total-zero (app_count b nic) apps
            (λ k d there.
            let app = get_or apps k d in
            none-in k app (IsApp-at apps k d rule.refs.sides.set.numbers there) (all k d there).left (all k d there).lowered b),
      )

      hands-none : count_by (nat_eq b) (flat_map (λ app. app.inside.hands) apps) ≡ 0
      hands-none =
          let hands : AppSide → List ℕ = λ app. app.inside.hands in
          omega (
            arith,
            count-tally (nat_eq b) (flat_map hands apps),
            tally-flat (nat_eq b) hands apps,
            total-zero (λ app. tally (nat_eq b) (hands app)) apps (λ k d there. ap (tally (nat_eq b)) (all k d there).hands),
          )

      pub free-once : b < pool_buffers setting.layout → count_by (nat_eq b) nic.view.cache + (if listed_bit words b then 1 else 0) ≡ 1
      free-once within =
          let card : count_by (nat_eq b) nic.inside.hands ≡ 0 = rw over.hands refl in
          let of_pool = subst (λ s. b < pool_buffers s.layout) (sym rule.refs.sides.set.card) within in
          let one = rule.refs.free.pool b of_pool ∙ ap (λ n. if n == 0 then 1 else 0) none-held in
          omega (arith, one, card, hands-none)

  pub none-cached : (b : ℕ) → pool_buffers setting.layout ≤ b → count_by (nat_eq b) nic.view.cache ≡ 0
  none-cached b past =
      let none = rule.refs.free.reserves b (subst (λ s. pool_buffers s.layout ≤ b) (sym rule.refs.sides.set.card) past) in
      omega (arith, none)
