-- What holds of the sides holds again once the card's side changed, where it dealt with no entry.
use Rattle.std.{proofs.{Common.{◌≡◌, ℕ, ◌+◌, ◌<◌, ◌≤◌, List, length, refl, ap, sym, ◌∙◌, arith, subst}, lemmas.List.Elements.{All-weaker}}, specs.Prelude.{All}}
use Rattle.area_layout.specs.Layout.{pool_buffers}
use Rattle.board_face.specs.{AppEvents.{reserve_of}, Counts.{pool_count, EndedWereReturned}, Places.{ArePlaced, IsMadeLast}, Fillings.{IsFilledByOne, FillingsFit}}
use Rattle.board_face.specs.{Returns.{AreReturns}, Holders.{owed_in, lowered_in_hand}, declared.views.{parts.Setting.{Setting}, nic.NicSide.{NicSide}}}
use Rattle.board_face.specs.{declared.views.app.AppSide.{AppSide}, Relay.{IsProper}, Sides.{IsApp}}
use Rattle.ref_words.specs.{Rings.{NoteFits}, Sides.{AreByLine, SidesRule, IsTakenInOrder, IsScrubbedSoFar, HasNoneOwed}}

-- What is to be known of the card's new side, but for buffers.
pub record IsOwnCardStep (nic now : NicSide) (apps : List AppSide) : Type 0 where
  pub setting : now.view.setting ≡ nic.view.setting
  pub dealt : now.view.dealt ≡ nic.view.dealt
  pub entry : now.inside.entry ≡ nic.inside.entry
  pub notes : All NoteFits now.view.sent
  pub proper : All IsProper now.view.sent
  pub note_slots : length now.inside.note_slots ≡ length nic.inside.note_slots
  pub refill_slots : length now.inside.refill_slots ≡ length nic.inside.refill_slots

-- What is to be known of it.
pub record IsCardStep (nic now : NicSide) (apps : List AppSide) : Type 0 where
  pub placed : (b : ℕ) → ArePlaced b now apps
  pub lines : (b : ℕ) → AreByLine b now apps
  pub by_one : (b : ℕ) → IsFilledByOne b now apps
  pub fit : FillingsFit now apps
  pub made : IsMadeLast now apps
  pub taken : (a : ℕ) (app : AppSide) → IsApp apps a app → IsTakenInOrder now app
  -- a reserve that nobody had stays so
  pub unheld : (b : ℕ) → pool_buffers nic.view.setting.layout ≤ b → pool_count b nic apps ≡ 0 → pool_count b now apps ≡ 0
  pub own : IsOwnCardStep nic now apps

-- a loan is owed, or was lowered for the entry in hand
pub AreReturns-owed : (nic now : NicSide) (app : AppSide) → now.view.dealt ≡ nic.view.dealt
    → ((b : ℕ) → length (owed_in b now app) + lowered_in_hand app.view.app b now.inside.entry
    ≡ length (owed_in b nic app) + lowered_in_hand app.view.app b nic.inside.entry) → AreReturns nic app → AreReturns now app
AreReturns-owed nic now app deals same h = record {
  written = h.written;
  owed = λ b. rw (same b, deals) (h.owed b);
  no_more = λ b. rw (same b, deals) (h.no_more b);
  clear = λ b. rw deals (h.clear b);
  named = rw deals h.named;
  settled = λ e. rw deals (h.settled e);
  quiet = λ e. rw deals (h.quiet e);
  scrubbed = λ e. rw deals (h.scrubbed e);
  strays = rw deals h.strays;
}

pub AreReturns-card : (nic now : NicSide) (app : AppSide) → now.view.dealt ≡ nic.view.dealt → now.inside.entry ≡ nic.inside.entry
    → AreReturns nic app → AreReturns now app
AreReturns-card nic now app deals entry = AreReturns-owed nic now app deals (λ b. rw (deals, entry) refl)

-- no loan more is owed
pub IsScrubbedSoFar-owed : (nic now : NicSide) (app : AppSide) → ((b : ℕ) → length (owed_in b now app) ≤ length (owed_in b nic app))
    → IsScrubbedSoFar nic app → IsScrubbedSoFar now app
IsScrubbedSoFar-owed nic now app fewer s =
    let taken : (b : ℕ) → b < app.inside.scrub_mark → length (owed_in b now app) ≡ 0 = λ b less. omega (arith, fewer b, s.taken b less) in
    assumption s

pub HasNoneOwed-owed : (nic now : NicSide) (app : AppSide) → ((b : ℕ) → length (owed_in b now app) ≤ length (owed_in b nic app))
    → HasNoneOwed nic app → HasNoneOwed now app
HasNoneOwed-owed nic now app fewer none = record { loans = none.loans; owed = λ b. omega (arith, fewer b, none.owed b) }

pub SidesRule-card : (setting : Setting) (nic now : NicSide) (apps : List AppSide) → SidesRule setting nic apps → IsCardStep nic now apps
    → SidesRule setting now apps
SidesRule-card setting nic now apps rule step = record {
  set = record { card = step.own.setting ∙ rule.set.card; many = rule.set.many; numbers = rule.set.numbers; others = rule.set.others };
  lists = rule.lists;
  placed = step.placed;
  lines = step.lines;
  by_one = step.by_one;
  fit = step.fit;
  made = step.made;
  returned = λ b. All-weaker (EndedWereReturned b nic) (EndedWereReturned b now)
      (λ app r. let own = step.own in record { ended = rw (own.dealt, own.entry) r.ended; returning = rw (own.dealt, own.entry) r.returning }) apps (rule.returned b);
  reserves = λ a app here.
      let theirs : app.view.setting ≡ setting = subst (λ y. y.view.setting ≡ setting) here.is (rule.set.others a app here.there) in
      let pools : pool_buffers app.view.setting.layout ≡ pool_buffers nic.view.setting.layout = ap (λ s. pool_buffers s.layout) (theirs ∙ sym rule.set.card) in
      record { unheld = λ free. step.unheld (reserve_of app.view) (omega (arith, pools)) ((rule.reserves a app here).unheld free) };
  few = rule.few;
  honoured = rw step.own.dealt rule.honoured;
  slots = record { notes = step.own.note_slots ∙ rule.slots.notes; refills = step.own.refill_slots ∙ rule.slots.refills };
  entries = rule.entries;
  notes = step.own.notes;
  taken = step.taken;
  proper = step.own.proper;
  dealt = λ a app here. record { order = rw step.own.dealt (rule.dealt a app here).order };
  returns = λ a app here. AreReturns-card nic now app step.own.dealt step.own.entry (rule.returns a app here);
  hand = λ inhand is. let h = rule.hand inhand (sym step.own.entry ∙ is) in record {
    app = h.app;
    first = λ app here. rw step.own.dealt (h.first app here);
    named = λ b e. rw step.own.setting (h.named b e);
    owed = λ b judged. rw (step.own.setting, step.own.dealt, step.own.entry) (h.owed b judged);
    lowered = λ b judged. rw step.own.setting (h.lowered b judged);
    stray = λ judged app here. rw step.own.dealt (h.stray judged app here);
  };
  scrub = λ a app here. IsScrubbedSoFar-owed nic now app (λ b. rw (step.own.dealt, step.own.entry) (omega arith)) (rule.scrub a app here);
  scrubbed = λ a app here done. HasNoneOwed-owed nic now app (λ b. rw (step.own.dealt, step.own.entry) (omega arith)) (rule.scrubbed a app here done);
}
