-- What holds of the sides holds again once an application's side changed.
use Rattle.std.proofs.Common.{◌≡◌, ⊎_elim, ℕ, ◌<◌, ◌≤◌, true, List, [], ◌∷◌, length, set, get_or, ap, refl, sym, ◌∙◌, arith, subst, inr}
use Rattle.std.{specs.Prelude.{◌≢◌, ◌⊎◌, All}, proofs.lemmas.{List.{length-set, get_or-set_same, get_or-set_other, Elements.{All-set}}, Bool.Decides.{eqb_tells}}}
use Rattle.zr_kinds.specs.declared.ring.Rqe.{Rqe}
use Rattle.area_layout.specs.Layout.{pool_buffers, all_buffers}
use Rattle.board_face.specs.{AppEvents.{reserve_of}, Sides.{IsApp}, Holders.{ended_in, returned_in}, Counts.{pool_count, EndedWereReturned}}
use Rattle.board_face.specs.{Places.{ArePlaced, IsMadeLast}, Fillings.{IsFilledByOne, FillingsFit}, Used.{HasFewPicks}, Returns.{AreReturns, entries_on_way}}
use Rattle.board_face.{specs.declared.views.{parts.Setting.{Setting}, nic.NicSide.{NicSide}, app.AppSide.{AppSide}}, proofs.SideLemmas.{AreNumbered-set}}
use Rattle.board_face.specs.NicCalls.{apps_of}
use Rattle.ref_words.specs.{Rings.{EntryFits}, Sides.{AreByLine, SidesRule, HasScrubLists, HasFreeReserve, IsDealtInOrder, IsTakenInOrder, HasNoneOwed}}
use Rattle.ref_words.specs.Sides.{IsScrubbedSoFar, IsFirst, IsFirstRaw}

-- What is to be known of what the application itself did and knows.
pub record IsOwnStep (nic : NicSide) (app now : AppSide) : Type 0 where
  pub setting : now.view.setting ≡ app.view.setting
  pub number : now.view.app ≡ app.view.app
  pub took : length now.inside.scrub_took ≡ length app.inside.scrub_took
  pub owes : length now.inside.scrub_owes ≡ length app.inside.scrub_owes
  pub few : HasFewPicks now
  pub dealt : IsDealtInOrder nic now
  pub entries : All EntryFits now.view.written
  pub taken : IsTakenInOrder nic now
  pub returns : AreReturns nic now
  pub scrub : IsScrubbedSoFar nic now
  -- the first entry on its way stays the first, and no loan that came back goes away again
  pub first : (entry : Rqe) → IsFirst entry (entries_on_way nic app) → IsFirst entry (entries_on_way nic now)
  pub raw : IsFirstRaw (entries_on_way nic app) → IsFirstRaw (entries_on_way nic now)
  pub came_back : (b : ℕ) → length (returned_in b app) ≤ length (returned_in b now)
  -- no more was ended, but where no entry of it is on its way
  pub ended : (entries_on_way nic app ≡ []) ⊎ ((b : ℕ) → ended_in b nic now ≡ ended_in b nic app)

-- What is to be known of its new side.
pub record IsAppStep (nic : NicSide) (apps : List AppSide) (a : ℕ) (app now : AppSide) : Type 0 where
  pub placed : (b : ℕ) → ArePlaced b nic (set apps a now)
  pub lines : (b : ℕ) → AreByLine b nic (set apps a now)
  pub by_one : (b : ℕ) → IsFilledByOne b nic (set apps a now)
  pub fit : FillingsFit nic (set apps a now)
  pub made : IsMadeLast nic (set apps a now)
  pub returned : (b : ℕ) → EndedWereReturned b nic now
  pub reserve : HasFreeReserve nic (set apps a now) now
  -- a reserve of another that nobody had stays so
  pub unheld : (b : ℕ) → pool_buffers app.view.setting.layout ≤ b → b ≢ reserve_of app.view → pool_count b nic apps ≡ 0
      → pool_count b nic (set apps a now) ≡ 0
  pub scrubbed : now.view.scrubbed ≡ true → HasNoneOwed nic now
  pub own : IsOwnStep nic app now

-- an application is one of the setting's, and a buffer of the card's area one of the board's
pub is-app : {setting : Setting} {nic : NicSide} {apps : List AppSide} {a : ℕ} {app : AppSide} → SidesRule setting nic apps → IsApp apps a app
    → a < apps_of setting
is-app rule here = let h = here.there in omega (arith, rule.set.many)

pub in-area : {setting : Setting} {nic : NicSide} {apps : List AppSide} {b : ℕ} → SidesRule setting nic apps → b < all_buffers nic.view.setting.layout
    → b < all_buffers setting.layout
in-area rule within = omega (arith, ap (λ s. all_buffers s.layout) rule.set.card)

module _ (setting : Setting) (nic : NicSide) (apps : List AppSide) (a : ℕ) (app : AppSide) (rule : SidesRule setting nic apps) (here : IsApp apps a app) where
  -- what holds of all applications holds of this one
  pub mine : (P : AppSide → Type 0) → All P apps → P app
  mine P all = subst P here.is (all a app here.there)

  pub own-setting : app.view.setting ≡ setting
  own-setting = mine (λ x. x.view.setting ≡ setting) rule.set.others

  -- the side as it was, for what a step leaves so
  pub own-was : IsOwnStep nic app app
  own-was = record {
    setting = refl;
    number = refl;
    took = refl;
    owes = refl;
    few = mine HasFewPicks rule.few;
    dealt = rule.dealt a app here;
    entries = mine (λ x. All EntryFits x.view.written) rule.entries;
    taken = rule.taken a app here;
    returns = rule.returns a app here;
    scrub = rule.scrub a app here;
    first = λ entry f. f;
    raw = λ f. f;
    came_back = λ b. omega arith;
    ended = inr (λ b. refl);
  }

  module _ (now : AppSide) (step : IsAppStep nic apps a app now) where
    abbrev apps' : List AppSide
    apps' = set apps a now

    -- an application of the list is this one, or was there before
    then-now : (P : AppSide → Type 0) (k : ℕ) → ((x : AppSide) → IsApp apps k x → P x) → (k ≡ a → P app → P now)
        → (x : AppSide) → IsApp apps' k x → P x
    then-now P k was mine-now x is =
        ⊎_elim
        (λ t. let e : k ≡ a = t.1 in
        let found : x ≡ now = sym is.is ∙ (ap (λ n. get_or apps' n x) e ∙ get_or-set_same apps a now x here.there) in
        subst P (sym found) (mine-now e (was app (subst (λ n. IsApp apps n app) (sym e) here))))
        (λ t. let ne : k ≢ a = t.1 in was x (before k x is ne))
        (eqb_tells k a)
      where
        before : (k : ℕ) (x : AppSide) → IsApp apps' k x → k ≢ a → IsApp apps k x
        before k x is ne = record {
          there = omega (arith, is.there, length-set apps a now);
          is = sym (get_or-set_other apps a k now x ne) ∙ is.is;
          number = is.number;
        }

    reserves-now : (k : ℕ) (x : AppSide) → IsApp apps' k x → HasFreeReserve nic apps' x
    reserves-now k x is =
        ⊎_elim
        (λ t. let e : k ≡ a = t.1 in
        let found : x ≡ now = sym is.is ∙ (ap (λ n. get_or apps' n x) e ∙ get_or-set_same apps a now x here.there) in
        subst (HasFreeReserve nic apps') (sym found) step.reserve)
        (λ t. let ne : k ≢ a = t.1 in
        let was : IsApp apps k x = record {
          there = omega (arith, is.there, length-set apps a now);
          is = sym (get_or-set_other apps a k now x ne) ∙ is.is;
          number = is.number;
        } in
        let theirs : x.view.setting ≡ setting = subst (λ y. y.view.setting ≡ setting) was.is (rule.set.others k x was.there) in
        let pools : pool_buffers x.view.setting.layout ≡ pool_buffers app.view.setting.layout = ap (λ s. pool_buffers s.layout) (theirs ∙ sym own-setting) in
        record {
          unheld = λ free. step.unheld (reserve_of x.view) (omega (arith, pools)) (λ e. ne (omega (
            arith,
            e,
            pools,
            is.number,
            here.number,
          ))) ((rule.reserves k x was).unheld free);
        })
        (eqb_tells k a)

    pub SidesRule-app : SidesRule setting nic apps'
    SidesRule-app = record {
      set = record {
        card = rule.set.card;
        many = length-set apps a now ∙ rule.set.many;
        numbers = AreNumbered-set 0 apps a now (omega (arith, here.number, step.own.number)) rule.set.numbers;
        others = All-set (λ x. x.view.setting ≡ setting) apps a now (step.own.setting ∙ own-setting) rule.set.others;
      };
      lists = let l = mine (HasScrubLists setting) rule.lists in
          All-set (HasScrubLists setting) apps a now (record { took = step.own.took ∙ l.took; owes = step.own.owes ∙ l.owes }) rule.lists;
      placed = step.placed;
      lines = step.lines;
      by_one = step.by_one;
      fit = step.fit;
      made = step.made;
      returned = λ b. All-set (EndedWereReturned b nic) apps a now (step.returned b) (rule.returned b);
      reserves = reserves-now;
      dealt = λ k. then-now (IsDealtInOrder nic) k (λ x is. rule.dealt k x is) (λ e was. step.own.dealt);
      few = All-set HasFewPicks apps a now step.own.few rule.few;
      honoured = rule.honoured;
      slots = rule.slots;
      entries = All-set (λ x. All EntryFits x.view.written) apps a now
          step.own.entries rule.entries;
      notes = rule.notes;
      taken = λ k. then-now (IsTakenInOrder nic) k (λ x is. rule.taken k x is) (λ e was. step.own.taken);
      proper = rule.proper;
      returns = λ k. then-now (AreReturns nic) k (λ x is. rule.returns k x is) (λ e was. step.own.returns);
      hand = λ inhand is. let h = rule.hand inhand is in record {
        app = omega (arith, h.app, length-set apps a now);
        first = then-now (λ x. IsFirst inhand.entry (entries_on_way nic x)) inhand.app h.first (λ e was. step.own.first inhand.entry was);
        named = h.named;
        owed = λ b judged. (
          (h.owed b judged).0,
          then-now (λ x. ended_in b nic x < length (returned_in b x)) inhand.app (h.owed b judged).1
              (λ e was. ⊎_elim
              (λ none. let front = h.first app (subst (λ n. IsApp apps n app) (sym e) here) in
              absurd (let empty : front.first ∷ front.others ≡ [] = sym front.is ∙ none in let no : ⊥ = cc in no))
              (λ same. omega (arith, same b, step.own.came_back b, was))
              step.own.ended),
        );
        lowered = h.lowered;
        stray = λ judged. then-now (λ x. IsFirstRaw (entries_on_way nic x)) inhand.app (h.stray judged) (λ e was. step.own.raw was);
      };
      scrub = λ k. then-now (IsScrubbedSoFar nic) k (λ x is. rule.scrub k x is) (λ e was. step.own.scrub);
      scrubbed = λ k x is done. then-now (λ y. y.view.scrubbed ≡ true
          → HasNoneOwed nic y) k (λ y at. rule.scrubbed k y at) (λ e was. step.scrubbed) x is done;
    }
