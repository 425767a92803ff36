-- The law of a step of the card: of each step the lines that it takes, what it finds, and each part of the rule behind it.
use Rattle.std.proofs.Common.{List, length, [], refl}
use Rattle.board_face.specs.{Tokens.{next_place}, declared.views.{parts.{Setting.{Setting}, Making.{Making}}, nic.NicSide.{NicSide}, app.AppSide.{AppSide}}}
use Rattle.ref_words.specs.{Words.{Words, free_word_of}, Rule.{RefRule, BoardRule}, TextRule.{TextRule}, PhaseRule.{PhaseRule}}
use Rattle.ref_words.specs.{FreeSteps.{IsSwept}, Runs.{CardWordStep, CardMay, card_words, card_after}, RoleLaws.{FoundByCard, CardTakesLines, CardStepStands}}
use Rattle.ref_words.proofs.{AtHome.{home-begun}, PoolSteps.{RefRule-pool}, UserSteps.{RefRule-user}, Judging.{RefRule-looked}}
use Rattle.ref_words.proofs.AreaCard as area
use Rattle.ref_words.proofs.Beginning as beginning
use Rattle.ref_words.proofs.CardSlots as slots
use Rattle.ref_words.proofs.DealtCases as dealt
use Rattle.ref_words.proofs.Ending as ending
use Rattle.ref_words.proofs.LeaveLooks as leave
use Rattle.ref_words.proofs.Listing as listing
use Rattle.ref_words.proofs.PhasesByArea as by_area
use Rattle.ref_words.proofs.PhasesByCard as phased
use Rattle.ref_words.proofs.PhasesByFree as by_free
use Rattle.ref_words.proofs.ReturnLowered as returned
use Rattle.ref_words.proofs.Sending as sending
use Rattle.ref_words.proofs.Shutting as shutting
use Rattle.ref_words.proofs.Sweeping as sweeping
use Rattle.ref_words.proofs.Taking as taking
use Rattle.ref_words.proofs.TextsByCard as texts
use Rattle.ref_words.proofs.TextsByFree as free_texts
use Rattle.ref_words.proofs.TextsBySlots as slot_texts
use Rattle.ref_words.proofs.TextsStored as stored
use Rattle.ref_words.proofs.UserLowering as lowering
use Rattle.ref_words.specs.Runs

module _ (setting : Setting) (words : Words) (nic : NicSide) (apps : List AppSide) (rule : BoardRule setting words nic apps) where
  -- the lines that a step takes, what it finds and the parts of the rule behind it, together
  stands : {step : CardWordStep} → CardTakesLines setting nic apps step → FoundByCard setting words nic step
      → TextRule setting (card_words setting words nic step) (card_after setting words nic step) apps
      → RefRule setting (card_words setting words nic step) (card_after setting words nic step) apps
      → PhaseRule setting (card_words setting words nic step) (card_after setting words nic step) apps → CardStepStands setting words nic apps step
  stands lines finds texts refs phases = record { finds = finds; lines = lines; rule = record { texts = texts; refs = refs; phases = phases } }

  pub card-step : (step : CardWordStep) → CardMay setting words nic step → CardStepStands setting words nic apps step
  card-step (Runs.takes b) may =
      let is = taking.step setting words nic apps b rule.refs may.0 in
      stands tt (taking.apart setting words nic apps b rule.refs may.0, taking.none setting words nic apps b rule.refs may.0)
      (texts.texts-took setting words.area nic apps b is.sides rule.texts) (RefRule-pool setting words nic _ apps apps b _ rule.refs is)
      (phased.took-phases setting words nic apps rule.refs rule.phases b may.1)
  card-step (Runs.begins own n) may =
      let is = beginning.step setting words nic apps own n rule.refs may.0 may.1 may.2 may.3 in
      stands (home-begun setting words nic apps rule.refs rule.texts own n may.0 may.1 may.2 may.3)
      (beginning.few-holders setting words nic apps own.buffer rule.refs is.there)
      (texts.texts-begun setting words.area nic apps own n rule.refs.sides may.0 may.1 may.2 is.sides rule.texts)
      (RefRule-pool setting words nic _ apps apps own.buffer _ rule.refs is)
      (phased.begun-phases setting words nic apps rule.refs rule.phases own n may.0)
  card-step (Runs.shuts own) out =
      let is = shutting.step setting words nic apps own rule.refs out in
      stands tt (shutting.enough setting words nic apps own rule.refs out) (texts.texts-shut setting words.area nic apps own _ is.sides rule.texts)
      (RefRule-pool setting words nic _ apps apps own.buffer _ rule.refs is)
      (phased.shut-phases setting words nic apps rule.refs rule.phases own _ out)
  card-step (Runs.lowers_pool a entry b) at =
      let is = returned.step setting words nic apps a entry b rule.refs at in
      stands tt (returned.enough setting words nic apps a entry b rule.refs at)
      (texts.texts-both_lowered setting words.area nic apps a entry b _ at is.sides rule.texts)
      (RefRule-pool setting words nic _ apps apps b _ rule.refs is)
      (phased.both_lowered-phases setting words nic apps rule.refs rule.phases a entry b _)
  card-step (Runs.judges a entry b) may =
      let refs = RefRule-looked setting words nic apps a entry b rule.refs may.0 may.1 may.2 in
      stands tt tt (texts.texts-judged setting words.area nic apps a entry b _ may.0 refs.sides rule.texts) refs
      (phased.judged-phases setting words nic apps rule.refs rule.phases a entry b _)
  card-step (Runs.lowers_user a entry b) at =
      let is = lowering.step setting words nic apps a entry b rule.refs at in
      stands tt (lowering.owed setting words nic apps a entry b rule.refs at)
      (texts.texts-user_lowered setting words.area nic apps a entry b at is.sides rule.texts)
      (RefRule-user setting words nic _ apps apps a b _ rule.refs is)
      (phased.user_lowered-phases setting words nic apps rule.refs rule.phases a entry b)
  card-step (Runs.looks_note a) may =
      let refs = slots.looked-note setting words nic apps a rule.refs may.0 may.1 in
      stands tt tt (slot_texts.texts-note_looked setting words.area nic apps a rule.texts _ refs.sides) refs
      (phased.note_looked-phases setting words nic apps rule.refs rule.phases a _)
  card-step (Runs.stores_note a n) may =
      let refs = slots.store-note setting words nic apps a rule.refs may.0 n may.1 may.2 in
      stands tt tt (slot_texts.texts-note_stored setting words.area nic apps a rule.texts n refs.sides) refs
      (phased.note_stored-phases setting words nic apps rule.refs rule.phases a n)
  card-step (Runs.sends a note) may =
      let refs = sending.sends setting words nic apps a rule.refs may.0 note may.1 may.2 may.3 may.4 may.5 in
      stands tt tt (slot_texts.texts-sent setting words nic apps a rule.refs may.0 rule.texts note may.1 may.2.split refs.sides) refs
      (phased.sent-phases setting words nic apps rule.refs rule.phases a note may.1)
  card-step (Runs.sends_linear a note bytes) may =
      let refs = sending.sends-linear setting words nic apps a rule.refs may.0 note bytes may.1 may.2 may.3 may.4 may.5 in
      stands tt tt (slot_texts.texts-sent_linear setting words nic apps a rule.refs may.0 rule.texts note bytes may.1.split refs.sides) refs
      (phased.sent_linear-phases setting words nic apps rule.refs rule.phases a note bytes may.6 may.1.split)
  card-step (Runs.looks_entry a) small =
      let refs = slots.looked-entry setting words nic apps a rule.refs small in
      stands tt tt (slot_texts.texts-entry_looked setting words.area nic apps a rule.texts _ refs.sides) refs
      (phased.entry_looked-phases setting words nic apps rule.refs rule.phases a _)
  card-step (Runs.loads_entry a) may =
      let refs = slots.load-entry setting words nic apps a rule.refs may.0 may.1 may.2 in
      stands tt tt (slot_texts.texts-entry_loaded setting words.area nic apps a rule.texts _ refs.sides) refs
      (phased.entry_loaded-phases setting words nic apps rule.refs rule.phases a _)
  card-step (Runs.loads_last a n) may =
      let refs = slots.take-in-hand setting words nic apps a rule.refs may.0 n may.1 may.2 may.3 may.4 in
      stands tt tt (slot_texts.texts-in_hand setting words.area nic apps a rule.texts n _ may.3 refs.sides) refs
      (phased.in_hand-phases setting words nic apps rule.refs rule.phases a n _)
  card-step (Runs.frees_honoured a entry b) may =
      let refs = dealt.honours setting words nic apps a entry rule.refs may.0 may.1 b may.2 in
      stands tt tt (slot_texts.texts-honoured setting words.area nic apps a rule.texts entry b may.2 refs.sides) refs
      (phased.dealt-phases setting words nic apps rule.refs rule.phases a entry _)
  card-step (Runs.frees_stray a entry) may =
      let refs = dealt.passes-stray setting words nic apps a entry rule.refs may.0 may.1 may.2 in
      stands tt tt (slot_texts.texts-stray setting words.area nic apps a rule.texts entry may.2 refs.sides) refs
      (phased.dealt-phases setting words nic apps rule.refs rule.phases a entry _)
  card-step (Runs.frees_void a entry) may =
      let refs = dealt.passes-void setting words nic apps a entry rule.refs may.0 may.1 may.2 may.3 in
      stands tt tt (slot_texts.texts-void setting words.area nic apps a rule.texts entry may.2 refs.sides) refs
      (phased.dealt-phases setting words nic apps rule.refs rule.phases a entry _)
  card-step (Runs.sweeps j) may =
      let refs = sweeping.sweeps setting words nic apps j rule.refs may.0 in
      let swept : IsSwept nic j (free_word_of words j) = record {
        event = sweeping.event setting words nic apps j rule.refs may.0;
        room = sweeping.room setting words nic apps j rule.refs may.0 may.1;
        bound = sweeping.bound setting words nic apps j rule.refs may.0;
      } in
      stands tt swept (free_texts.texts-swept setting words.area nic apps rule.texts j (free_word_of words j) refs.sides) refs
      (by_free.swept-phases setting words nic apps rule.phases j (free_word_of words j))
  card-step (Runs.lists b) has =
      let refs = listing.by-card setting words nic apps b rule.refs has in
      stands tt (listing.unlisted setting words nic apps b rule.refs has)
      (free_texts.texts-nic_listed setting words.area nic apps rule.texts b refs.sides) refs
      (by_free.nic_listed-phases setting words nic apps rule.phases b)
  card-step Runs.ends may =
      let refs = ending.RefRule-over setting words nic apps rule.refs rule.phases in
      stands tt tt (free_texts.texts-ended setting words.area nic apps rule.texts refs.sides) refs
      (ending.over-phases setting words nic apps rule.refs rule.phases may.0 may.1)
  card-step (Runs.looks_left a) small =
      let refs = leave.RefRule-looked setting words nic apps a rule.refs rule.phases in
      stands tt tt (free_texts.texts-leave_looked setting words.area nic apps rule.texts a _ refs.sides) refs
      (leave.looked-phases setting words nic apps a rule.refs rule.phases)
  card-step (Runs.places_piece own bytes lines) may =
      let making : Making = record { place = next_place own (length bytes); bytes = [] } in
      let refs = area.places-piece setting words nic apps rule.refs _ lines may.2.wide making may.1 own bytes refl in
      stands tt tt (stored.placed setting words nic apps rule.refs rule.texts own bytes lines may.1 may.2) refs
      (by_area.piece_placed-phases setting words nic apps rule.refs rule.phases own bytes may.0)
