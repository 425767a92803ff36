-- The texts stand after each step at the free list and at the phase words, and after the looks by which an application comes to rest,
-- falls quiet, or is told that nothing comes: no line of the area changes.
use Rattle.std.{proofs.Common.{◌≡◌, ℕ, ◌≤◌, Bool, true, false, List, set, refl, arith}, specs.Prelude.{if◌then◌else◌, None}}
use Rattle.zr_kinds.specs.declared.place.Place.{Place}
use Rattle.board_face.specs.{AppCalls.{HasLoan}, AppEvents.{app_saw, told_end, abandoned}, Counts.{EndedWereReturned}, Holders.{ended_in}, Sides.{IsApp, app_at}}
use Rattle.board_face.specs.declared.views.{parts.Setting.{Setting}, nic.NicSide.{NicSide}, app.{AppInside.{AppInside}, AppLook.TheVariants.{NoNote}}}
use Rattle.board_face.{specs.declared.views.app.{AppView.{AppView}, AppSide.{AppSide}}, proofs.AppLemmas.{SameHoldings}}
use Rattle.board_face.proofs.TextsByEvent.{AppIsShown-same, AppIsShown-abandoned}
use Rattle.ref_words.specs.{Lines.{byte_in_area}, FreeSteps.{side_swept, side_nic_listed, side_app_listed, side_word_looked, side_bit_cleared}}
use Rattle.ref_words.specs.PhaseSteps.{side_ended, side_leave_looked, side_left, side_end_looked, side_note_sought, side_reserve_looked, side_abandoned}
use Rattle.ref_words.specs.{RestSteps.{side_raw_looked, side_any_looked, side_last_looked}, Sides.{SidesRule}, TextRule.{AreTexts}}
use Rattle.ref_words.proofs.{TextsByCard.{AreTexts-card}, TextsByApp.{LeavesOwnTexts, HasTexts-left, HasTexts-idle, AreTexts-app, AppIsShown-inside}}

-- ---- the card

module _ (setting : Setting) (area : List (List ℕ)) (nic : NicSide) (apps : List AppSide) (texts : AreTexts setting.layout area nic apps) where
  pub texts-swept : (word n : ℕ) → SidesRule setting (side_swept nic word n) apps → AreTexts setting.layout area (side_swept nic word n) apps
  texts-swept word n sides =
      AreTexts-card setting area nic _ apps sides (record { pieces = refl; sents = refl; ends = λ b app. omega arith }) refl texts

  pub texts-nic_listed : (b : ℕ) → SidesRule setting (side_nic_listed nic b) apps → AreTexts setting.layout area (side_nic_listed nic b) apps
  texts-nic_listed b sides =
      AreTexts-card setting area nic _ apps sides (record { pieces = refl; sents = refl; ends = λ c app. omega arith }) refl texts

  pub texts-ended : SidesRule setting (side_ended nic) apps → AreTexts setting.layout area (side_ended nic) apps
  texts-ended sides = AreTexts-card setting area nic _ apps sides (record { pieces = refl; sents = refl; ends = λ b app. omega arith }) refl texts

  pub texts-leave_looked : (a : ℕ) (left : Bool) → SidesRule setting (side_leave_looked nic a left) apps
      → AreTexts setting.layout area (side_leave_looked nic a left) apps
  texts-leave_looked a true sides =
      AreTexts-card setting area nic _ apps sides (record { pieces = refl; sents = refl; ends = λ b app. omega arith }) refl texts
  texts-leave_looked a false sides =
      AreTexts-card setting area nic _ apps sides (record { pieces = refl; sents = refl; ends = λ b app. omega arith }) refl texts

-- ---- an application

module _ (setting : Setting) (area : List (List ℕ)) (nic : NicSide) (apps : List AppSide) (a : ℕ) (app : AppSide) (here : IsApp apps a app)
    (texts : AreTexts setting.layout area nic apps) where
  abbrev byte : ℕ → ℕ → ℕ
  byte = byte_in_area setting.layout area

  -- what it has out, filled and read stays, and what a scrub took
  stays : (v : AppView) (inside : AppInside) → SameHoldings app.view v → LeavesOwnTexts app (record { view = v; inside = inside })
      → ((b : ℕ) → ended_in b nic (app_at app v) ≤ ended_in b nic (record { view = v; inside = inside }))
      → SidesRule setting nic (set apps a (record { view = v; inside = inside }))
      → AreTexts setting.layout area nic (set apps a (record { view = v; inside = inside }))
  stays v inside same leaves ends sides =
      AreTexts-app setting area nic apps a app (record { view = v; inside = inside }) here sides
      (λ shown. AppIsShown-inside byte nic (app_at app v) inside ends (AppIsShown-same byte nic app v same shown))
      (HasTexts-left setting.layout area nic app (record { view = v; inside = inside }) leaves) texts

  kept : (now : AppSide) → SameHoldings app.view now.view → LeavesOwnTexts app now
      → ((b : ℕ) → ended_in b nic (app_at app now.view) ≤ ended_in b nic now) → SidesRule setting nic (set apps a now)
      → AreTexts setting.layout area nic (set apps a now)
  kept now = stays now.view now.inside

  pub texts-app_listed : (b : ℕ) → SidesRule setting nic (set apps a (side_app_listed app b))
      → AreTexts setting.layout area nic (set apps a (side_app_listed app b))
  texts-app_listed b =
      kept (side_app_listed app b) (record { app = refl; taken = refl; helds = refl; owns = refl; loans = refl; returned = refl })
      (record { number = refl; making = refl; owns = refl; loans = refl; reads = refl }) (λ c. omega arith)

  pub texts-word_looked : (word : ℕ) (none : Bool) → SidesRule setting nic (set apps a (side_word_looked app word none))
      → AreTexts setting.layout area nic (set apps a (side_word_looked app word none))
  texts-word_looked word true =
      kept (side_word_looked app word true) (record { app = refl; taken = refl; helds = refl; owns = refl; loans = refl; returned = refl })
      (record { number = refl; making = refl; owns = refl; loans = refl; reads = refl }) (λ c. omega arith)
  texts-word_looked word false =
      kept app (record { app = refl; taken = refl; helds = refl; owns = refl; loans = refl; returned = refl })
      (record { number = refl; making = refl; owns = refl; loans = refl; reads = refl }) (λ c. omega arith)

  pub texts-bit_cleared : (word b : ℕ) (listed : Bool) → SidesRule setting nic (set apps a (side_bit_cleared app word b listed))
      → AreTexts setting.layout area nic (set apps a (side_bit_cleared app word b listed))
  texts-bit_cleared word b true =
      kept (side_bit_cleared app word b true) (record { app = refl; taken = refl; helds = refl; owns = refl; loans = refl; returned = refl })
      (record { number = refl; making = refl; owns = refl; loans = refl; reads = refl }) (λ c. omega arith)
  texts-bit_cleared word b false =
      kept (side_bit_cleared app word b false) (record { app = refl; taken = refl; helds = refl; owns = refl; loans = refl; returned = refl })
      (record { number = refl; making = refl; owns = refl; loans = refl; reads = refl }) (λ c. omega arith)

  pub texts-raw_looked : (free : Bool) → SidesRule setting nic (set apps a (side_raw_looked app free))
      → AreTexts setting.layout area nic (set apps a (side_raw_looked app free))
  texts-raw_looked true =
      kept (side_raw_looked app true) (record { app = refl; taken = refl; helds = refl; owns = refl; loans = refl; returned = refl })
      (record { number = refl; making = refl; owns = refl; loans = refl; reads = refl }) (λ c. omega arith)
  texts-raw_looked false =
      kept (side_raw_looked app false) (record { app = refl; taken = refl; helds = refl; owns = refl; loans = refl; returned = refl })
      (record { number = refl; making = refl; owns = refl; loans = refl; reads = refl }) (λ c. omega arith)

  pub texts-any_looked : (s : ℕ) (free : Bool) → SidesRule setting nic (set apps a (side_any_looked app s free))
      → AreTexts setting.layout area nic (set apps a (side_any_looked app s free))
  texts-any_looked s true =
      kept (side_any_looked app s true) (record { app = refl; taken = refl; helds = refl; owns = refl; loans = refl; returned = refl })
      (record { number = refl; making = refl; owns = refl; loans = refl; reads = refl }) (λ c. omega arith)
  texts-any_looked s false =
      kept (side_any_looked app s false) (record { app = refl; taken = refl; helds = refl; owns = refl; loans = refl; returned = refl })
      (record { number = refl; making = refl; owns = refl; loans = refl; reads = refl }) (λ c. omega arith)

  pub texts-last_looked : (s : ℕ) (free : Bool) → SidesRule setting nic (set apps a (side_last_looked app s free))
      → AreTexts setting.layout area nic (set apps a (side_last_looked app s free))
  texts-last_looked s true =
      kept (side_last_looked app s true) (record { app = refl; taken = refl; helds = refl; owns = refl; loans = refl; returned = refl })
      (record { number = refl; making = refl; owns = refl; loans = refl; reads = refl }) (λ c. omega arith)
  texts-last_looked s false =
      kept (side_last_looked app s false) (record { app = refl; taken = refl; helds = refl; owns = refl; loans = refl; returned = refl })
      (record { number = refl; making = refl; owns = refl; loans = refl; reads = refl }) (λ c. omega arith)

  -- ---- phases

  pub texts-left : SidesRule setting nic (set apps a (side_left app)) → AreTexts setting.layout area nic (set apps a (side_left app))
  texts-left =
      kept (side_left app) (record { app = refl; taken = refl; helds = refl; owns = refl; loans = refl; returned = refl })
      (record { number = refl; making = refl; owns = refl; loans = refl; reads = refl }) (λ b. omega arith)

  pub texts-end_looked : (ended : Bool) → SidesRule setting nic (set apps a (side_end_looked app ended))
      → AreTexts setting.layout area nic (set apps a (side_end_looked app ended))
  texts-end_looked true =
      kept (side_end_looked app true) (record { app = refl; taken = refl; helds = refl; owns = refl; loans = refl; returned = refl })
      (record { number = refl; making = refl; owns = refl; loans = refl; reads = refl }) (λ b. omega arith)
  texts-end_looked false =
      kept (side_end_looked app false) (record { app = refl; taken = refl; helds = refl; owns = refl; loans = refl; returned = refl })
      (record { number = refl; making = refl; owns = refl; loans = refl; reads = refl }) (λ b. omega arith)

  -- an empty slot, by whether the end was seen, or looked for and not seen
  abbrev found-none : Bool → Bool → AppSide
  found-none seen unseen' =
      if seen then record app { view = told_end app.view; inside = record app.inside { end_unseen = false } }
      else if unseen' then record app { view = app_saw app.view NoNote; inside = record app.inside { end_unseen = false } }
      else app

  finds-none : (seen unseen' : Bool) → SidesRule setting nic (set apps a (found-none seen unseen'))
      → AreTexts setting.layout area nic (set apps a (found-none seen unseen'))
  finds-none true unseen' =
      kept (found-none true unseen') (record { app = refl; taken = refl; helds = refl; owns = refl; loans = refl; returned = refl })
      (record { number = refl; making = refl; owns = refl; loans = refl; reads = refl }) (λ b. omega arith)
  finds-none false true =
      kept (found-none false true) (record { app = refl; taken = refl; helds = refl; owns = refl; loans = refl; returned = refl })
      (record { number = refl; making = refl; owns = refl; loans = refl; reads = refl }) (λ b. omega arith)
  finds-none false false =
      kept app (record { app = refl; taken = refl; helds = refl; owns = refl; loans = refl; returned = refl })
      (record { number = refl; making = refl; owns = refl; loans = refl; reads = refl }) (λ b. omega arith)

  pub texts-note_sought : (full : Bool) → SidesRule setting nic (set apps a (side_note_sought app full))
      → AreTexts setting.layout area nic (set apps a (side_note_sought app full))
  texts-note_sought true =
      kept (side_note_sought app true) (record { app = refl; taken = refl; helds = refl; owns = refl; loans = refl; returned = refl })
      (record { number = refl; making = refl; owns = refl; loans = refl; reads = refl }) (λ b. omega arith)
  texts-note_sought false = finds-none app.inside.end_seen app.inside.end_unseen

  pub texts-reserve_looked : (free : Bool) → SidesRule setting nic (set apps a (side_reserve_looked app free))
      → AreTexts setting.layout area nic (set apps a (side_reserve_looked app free))
  texts-reserve_looked true =
      kept (side_reserve_looked app true) (record { app = refl; taken = refl; helds = refl; owns = refl; loans = refl; returned = refl })
      (record { number = refl; making = refl; owns = refl; loans = refl; reads = refl }) (λ b. omega arith)
  texts-reserve_looked false =
      kept (side_reserve_looked app false) (record { app = refl; taken = refl; helds = refl; owns = refl; loans = refl; returned = refl })
      (record { number = refl; making = refl; owns = refl; loans = refl; reads = refl }) (λ b. omega arith)

  pub texts-abandoned : (place : Place) → HasLoan app.view place → ((b : ℕ) → EndedWereReturned b nic app)
      → app.inside.making ≡ None → SidesRule setting nic (set apps a (side_abandoned app place))
      → AreTexts setting.layout area nic (set apps a (side_abandoned app place))
  texts-abandoned place out ended idle sides =
      let now = app_at app (abandoned app.view place) in
      AreTexts-app setting area nic apps a app now here sides (AppIsShown-abandoned byte nic app place out ended) (HasTexts-idle setting.layout area nic app
      now refl idle refl refl) texts
