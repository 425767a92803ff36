-- The law of a step of an application: of each step the lines that it takes, what it finds, and each part of the rule behind it.
use Rattle.std.{proofs.Common.{List, [], set, refl, arith}, specs.Prelude.{◌/◌, ◌==◌, None}}
use Rattle.board_face.specs.{AppEvents.{begin_place, reserve_of}, Counts.{EndedWereReturned}, NicEvents.{word_bits}, Sides.{IsApp}}
use Rattle.board_face.specs.declared.views.{parts.Setting.{Setting}, nic.NicSide.{NicSide}, app.AppSide.{AppSide}}
use Rattle.ref_words.specs.{Words.{Words, free_word_of, listed_bit}, Rule.{RefRule, BoardRule}, TextRule.{TextRule}, PhaseRule.{PhaseRule}}
use Rattle.ref_words.specs.{Lines.{lines_at}, AreaSteps.{making_in_hand, part_of, side_read}, Sides.{HasScrubLists}, Runs.{AppWordStep, AppMay, app_words, app_after}}
use Rattle.ref_words.specs.RoleLaws.{FoundByApp, AppTakesLines, AppStepStands}
use Rattle.ref_words.proofs.{AtHome.{home-spare, home-read}, PoolSteps.{RefRule-pool}, UserSteps.{RefRule-user}, SideSteps.{mine}, SlotSteps.{no-word}}
use Rattle.ref_words.proofs.AreaCard.{differ-area}
use Rattle.ref_words.proofs.Abandoning as abandoning
use Rattle.ref_words.proofs.AppSlots as slots
use Rattle.ref_words.proofs.AreaApp as area
use Rattle.ref_words.proofs.Beginning as beginning
use Rattle.ref_words.proofs.Cutting as cutting
use Rattle.ref_words.proofs.EndLooks as end
use Rattle.ref_words.proofs.Ending as ending
use Rattle.ref_words.proofs.FreeSlots as free_slots
use Rattle.ref_words.proofs.Giving as giving
use Rattle.ref_words.proofs.Lending as lending
use Rattle.ref_words.proofs.Listing as listing
use Rattle.ref_words.proofs.NotesTaken as notes
use Rattle.ref_words.proofs.PhasesByApp as phased
use Rattle.ref_words.proofs.PhasesByArea as by_area
use Rattle.ref_words.proofs.PhasesByFree as by_free
use Rattle.ref_words.proofs.PhasesBySlots as by_slots
use Rattle.ref_words.proofs.Picking as picking
use Rattle.ref_words.proofs.Releasing as releasing
use Rattle.ref_words.proofs.ReserveLooks as reserve
use Rattle.ref_words.proofs.Resting as resting
use Rattle.ref_words.proofs.ScrubTaking as scrub
use Rattle.ref_words.proofs.Scrubbing as scrubbing
use Rattle.ref_words.proofs.SpareLending as spare_lending
use Rattle.ref_words.proofs.SpareTaking as spare
use Rattle.ref_words.proofs.TextsByApp as texts
use Rattle.ref_words.proofs.TextsByFree as free_texts
use Rattle.ref_words.proofs.TextsBySlots as slot_texts
use Rattle.ref_words.proofs.TextsRead as read
use Rattle.ref_words.proofs.TextsStored as stored
use Rattle.ref_words.proofs.WordLooks as look
use Rattle.ref_words.specs.Runs

module _ (setting : Setting) (words : Words) (nic : NicSide) (apps : List AppSide) (app : AppSide) (rule : BoardRule setting words nic apps)
    (here : IsApp apps app.view.app app) where
  -- the lines that a step takes, what it finds and the parts of the rule behind it, together
  stands : {step : AppWordStep} → AppTakesLines setting nic apps step → FoundByApp setting words app step
      → TextRule setting (app_words setting words app step) nic (set apps app.view.app (app_after setting words app step))
      → RefRule setting (app_words setting words app step) nic (set apps app.view.app (app_after setting words app step))
      → PhaseRule setting (app_words setting words app step) nic (set apps app.view.app (app_after setting words app step))
      → AppStepStands setting words nic apps app step
  stands lines finds texts refs phases = record { finds = finds; lines = lines; rule = record { texts = texts; refs = refs; phases = phases } }

  pub app-step : (step : AppWordStep) → AppMay setting words app step → AppStepStands setting words nic apps app step
  app-step (Runs.takes_picked b) may =
      let is = spare.picked setting words nic apps app.view.app app b rule.refs here may.1 may.0 in
      stands tt (
        spare.apart-picked setting words nic apps app.view.app app b rule.refs here may.1 may.0,
        spare.none-picked setting words nic apps app.view.app
            app b rule.refs here may.1 may.0,
      )
      (texts.texts-spare_begun setting words.area nic apps app.view.app app here rule.texts b is.sides)
      (RefRule-pool setting words nic nic apps _ b _ rule.refs is)
      (phased.picked-phases setting words nic apps rule.refs rule.phases app.view.app app here b may.2 may.0 may.1)
  app-step Runs.takes_reserve may =
      let b = reserve_of app.view in
      let is = spare.reserve setting words nic apps app.view.app app b rule.refs here may.2 refl may.1 in
      stands tt (
        spare.apart-reserve setting words nic apps app.view.app app b rule.refs here may.2 refl may.1,
        spare.none-reserve setting words nic apps
            app.view.app app b rule.refs here may.2 refl may.1,
      )
      (texts.texts-spare_begun setting words.area nic apps app.view.app app here rule.texts b is.sides)
      (RefRule-pool setting words nic nic apps _ b _ rule.refs is)
      (phased.reserve-phases setting words nic apps rule.refs rule.phases app.view.app app here may.3)
  app-step (Runs.cuts place at) may =
      let is = cutting.step setting words nic apps app.view.app app place at rule.refs here may.0 may.1 may.2 in
      stands tt (beginning.few-holders setting words nic apps place.buffer rule.refs is.there)
      (texts.texts-cut setting words.area nic apps app.view.app app here rule.texts place at may.0 may.2 is.sides)
      (RefRule-pool setting words nic nic apps _ place.buffer _ rule.refs is)
      (phased.cut-phases setting words nic apps rule.refs rule.phases app.view.app app here place at may.0)
  app-step (Runs.releases place) out =
      let is = releasing.step setting words nic apps app.view.app app place rule.refs here out in
      stands tt (releasing.enough setting words nic apps app.view.app app place rule.refs here out)
      (texts.texts-released setting words.area nic apps app.view.app app here rule.texts place _ is.sides)
      (RefRule-pool setting words nic nic apps _ place.buffer _ rule.refs is)
      (phased.released-phases setting words nic apps rule.refs rule.phases app.view.app app here place _ out)
  app-step (Runs.lowers_scrubbed b n) may =
      let is = scrubbing.step setting words nic apps app.view.app app b n rule.refs here may.0 may.1 may.2 in
      stands tt (scrubbing.enough setting words nic apps app.view.app app b n rule.refs here may.0 may.1 may.2)
      (texts.texts-owes_lowered setting words.area nic apps app.view.app app here rule.texts b _ is.sides)
      (RefRule-pool setting words nic nic apps _ b _ rule.refs is)
      (phased.owes_lowered-phases setting words nic apps rule.refs rule.phases app.view.app app here b _)
  app-step (Runs.lends place) may =
      let is = lending.step setting words nic apps app.view.app app place rule.refs here may.0 may.1 may.2 in
      stands tt (lending.few setting words nic apps app.view.app app place rule.refs here may.0 may.1 may.2)
      (texts.texts-lent setting words.area nic apps app.view.app app here rule.texts place may.0 is.sides)
      (RefRule-user setting words nic nic apps _ app.view.app place.buffer _ rule.refs is)
      (phased.lent-phases setting words nic apps rule.refs rule.phases app.view.app app here place may.0)
  app-step (Runs.lends_spare own) may =
      let is = spare_lending.step setting words nic apps app.view.app app own rule.refs here may.0 may.1 may.2 may.3 in
      stands tt (spare_lending.few setting words nic apps app.view.app app own rule.refs here may.0 may.1 may.2 may.3)
      (texts.texts-lent_own setting words.area nic apps app.view.app app here rule.texts own may.0 may.1 is.sides)
      (RefRule-user setting words nic nic apps _ app.view.app own.buffer _ rule.refs is)
      (phased.lent_own-phases setting words nic apps rule.refs rule.phases app.view.app app here own may.0)
  app-step (Runs.scrubs b) may =
      let is = scrub.step setting words nic apps app.view.app app b rule.refs here may.0 may.1 may.2 may.3 may.4 in
      let there = may.0 in
      stands tt tt
      (texts.texts-user_taken setting words.area nic apps app.view.app app here rule.texts b _ rule.refs.sides (omega (
        arith,
        there,
        (mine setting nic
            apps app.view.app app rule.refs.sides here (HasScrubLists setting) rule.refs.sides.lists).took,
      )) is.sides)
      (RefRule-user setting words nic nic apps _ app.view.app b 0 rule.refs is)
      (phased.user_taken-phases setting words nic apps rule.refs rule.phases app.view.app app here b _ may.4)
  app-step Runs.looks_refill may =
      let refs = slots.looked-entry setting words nic apps app rule.refs here in
      stands tt tt (slot_texts.texts-refill_looked setting words.area nic apps app.view.app app here rule.texts _ refs.sides) refs
      (by_slots.refill_looked-phases setting words nic apps rule.refs rule.phases app.view.app app here _)
  app-step (Runs.stores_entry n) may =
      let refs = slots.store-entry setting words nic apps app rule.refs here n may.0 may.1 in
      stands tt tt (slot_texts.texts-refill_stored setting words.area nic apps app.view.app app here rule.texts n refs.sides) refs
      (by_slots.refill_stored-phases setting words nic apps rule.refs rule.phases app.view.app app here n)
  app-step (Runs.gives place) may =
      let refs = giving.gives setting words nic apps app rule.refs here place may.0 may.1 may.2 may.3 in
      stands tt tt
      (slot_texts.texts-gave setting words.area nic apps app.view.app app here rule.texts place may.0 (λ b. mine setting nic apps app.view.app app
      rule.refs.sides here (EndedWereReturned b nic) (rule.refs.sides.returned b)) may.4 refs.sides)
      refs (by_slots.gave-phases setting words nic apps rule.refs rule.phases app.view.app app here place may.0)
  app-step (Runs.pushes entry) may =
      let refs = giving.pushes setting words nic apps app rule.refs here entry may.0 may.1 may.2 may.3 may.4 may.5 in
      stands tt tt (slot_texts.texts-pushed setting words.area nic apps app.view.app app here rule.texts entry refs.sides) refs
      (by_slots.pushed-phases setting words nic apps rule.refs rule.phases app.view.app app here entry)
  app-step (Runs.looks_any s) small =
      let refs = free_slots.any-looked setting words nic apps app rule.refs here s small in
      stands tt tt (free_texts.texts-any_looked setting words.area nic apps app.view.app app here rule.texts s _ refs.sides) refs
      (by_free.any_looked-phases setting words nic apps rule.phases app.view.app app here s _)
  app-step (Runs.looks_last s) may =
      let refs = free_slots.last-looked setting words nic apps app rule.refs here s may.0 may.1 in
      stands tt tt (free_texts.texts-last_looked setting words.area nic apps app.view.app app here rule.texts s _ refs.sides) refs
      (by_free.last_looked-phases setting words nic apps rule.phases app.view.app app here s _)
  app-step (Runs.looks_raw s) known =
      let refs = resting.raw-looked setting words nic apps app s rule.refs here known in
      stands tt tt (free_texts.texts-raw_looked setting words.area nic apps app.view.app app here rule.texts _ refs.sides) refs
      (by_free.raw_looked-phases setting words nic apps rule.phases app.view.app app here _)
  app-step Runs.looks_slot may =
      let refs = slots.looked-note setting words nic apps app rule.refs here in
      stands tt tt (slot_texts.texts-slot_looked setting words.area nic apps app.view.app app here rule.texts _ refs.sides) refs
      (by_slots.slot_looked-phases setting words nic apps rule.refs rule.phases app.view.app app here _)
  app-step Runs.loads_slot may =
      let refs = slots.load-note setting words nic apps app rule.refs here may.0 may.1 in
      stands tt tt (slot_texts.texts-slot_loaded setting words.area nic apps app.view.app app here rule.texts _ refs.sides) refs
      (by_slots.slot_loaded-phases setting words nic apps rule.refs rule.phases app.view.app app here _)
  app-step Runs.takes_note may =
      let next = notes.is-next setting words nic apps app rule.refs here may.0 may.1 in
      let refs = notes.takes-note setting words nic apps app rule.refs here may.0 may.1 may.2 in
      stands tt
      (by_slots.took-note setting words nic apps rule.refs rule.phases app.view.app app here _ next (notes.is-split setting words nic apps app
      rule.refs here may.0 may.1 may.2))
      (slot_texts.texts-took_note setting words.area nic apps app.view.app app here rule.texts _ next may.2 refs.sides) refs
      (by_slots.took_note-phases setting words nic apps rule.refs rule.phases app.view.app app here _ next may.2)
  app-step Runs.takes_linear may =
      let next = notes.is-next setting words nic apps app rule.refs here may.0 may.1 in
      let refs = notes.takes-linear setting words nic apps app rule.refs here may.0 may.1 may.2 in
      stands tt (notes.is-linear setting words nic apps app rule.refs here may.0 may.1 may.2)
      (slot_texts.texts-took_linear setting words.area nic apps app.view.app app here rule.texts _ _ next refs.sides) refs
      (by_slots.took_linear-phases setting words nic apps rule.refs rule.phases app.view.app app here _ next _)
  app-step (Runs.looks_word j) may =
      let empty = free_word_of words j == 0 in
      let refs = look.looks setting words nic apps app.view.app app j rule.refs here empty in
      stands tt tt (free_texts.texts-word_looked setting words.area nic apps app.view.app app here rule.texts j empty refs.sides) refs
      (by_free.word_looked-phases setting words nic apps rule.phases app.view.app app here j empty)
  app-step (Runs.clears_bit b) may =
      let refs = picking.clears setting words nic apps app.view.app app b rule.refs here may.0 may.1 may.2 (listed_bit words b) refl in
      stands tt (λ listed. picking.small setting words nic apps app.view.app app b rule.refs here may.1 may.2 listed)
      (free_texts.texts-bit_cleared setting words.area nic apps app.view.app app here rule.texts (b / word_bits) b (listed_bit words b) refs.sides)
      refs (by_free.bit_cleared-phases setting words nic apps rule.phases app.view.app app here (b / word_bits) b (listed_bit words b))
  app-step (Runs.relists b) has =
      let refs = listing.by-app setting words nic apps b rule.refs app.view.app app here has in
      stands tt (listing.unlisted-app setting words nic apps b rule.refs app.view.app app here has)
      (free_texts.texts-app_listed setting words.area nic apps app.view.app app here rule.texts b refs.sides) refs
      (by_free.app_listed-phases setting words nic apps rule.phases app.view.app app here b)
  app-step Runs.leaves can =
      let refs = ending.RefRule-left setting words nic apps rule.refs rule.phases app here in
      stands tt tt (free_texts.texts-left setting words.area nic apps app.view.app app here rule.texts refs.sides) refs
      (ending.left-phases setting words nic apps rule.refs rule.phases app here can)
  app-step Runs.looks_end may =
      let refs = end.RefRule-end setting words nic apps app rule.refs rule.phases here in
      stands tt (end.stays-over setting words nic apps app rule.refs rule.phases here)
      (free_texts.texts-end_looked setting words.area nic apps app.view.app app here rule.texts _ refs.sides) refs
      (end.end_looked-phases setting words nic apps app rule.refs rule.phases here)
  app-step Runs.seeks_note may =
      let refs = end.RefRule-sought setting words nic apps app rule.refs rule.phases here in
      stands tt tt (free_texts.texts-note_sought setting words.area nic apps app.view.app app here rule.texts _ refs.sides) refs
      (end.sought-phases setting words nic apps app rule.refs rule.phases here)
  app-step Runs.looks_reserve may =
      let refs = reserve.RefRule-reserve setting words nic apps app rule.refs rule.phases here in
      stands tt tt (free_texts.texts-reserve_looked setting words.area nic apps app.view.app app here rule.texts _ refs.sides) refs
      (reserve.reserve_looked-phases setting words nic apps app rule.refs rule.phases here)
  app-step (Runs.abandons place) may =
      let refs = abandoning.RefRule-abandoned setting words nic apps app place rule.refs here may.0 in
      stands tt tt
      (free_texts.texts-abandoned setting words.area nic apps app.view.app app here rule.texts place may.0 (λ b. mine setting nic apps app.view.app app
      rule.refs.sides here (EndedWereReturned b nic) (rule.refs.sides.returned b)) may.1 refs.sides)
      refs (abandoning.abandoned-phases setting words nic apps app place rule.refs here may.0 rule.phases)
  app-step (Runs.takes_lines own len) may =
      let making = making_in_hand (begin_place own.buffer len) [] in
      let refs = area.has-at-hand setting words words nic apps app.view.app app rule.refs here (no-word setting words rule.refs.sizes) refl refl
      app.view.reads making in
      stands (home-spare setting words nic apps rule.refs rule.texts app.view.app app here own len may.0 may.1 may.2 may.3 may.4) tt
      (stored.taken setting words nic apps rule.refs rule.texts app.view.app app own len here may.0 may.1 may.2 may.3 refs.sides) refs
      (by_area.reads-phases setting words nic apps rule.refs rule.phases app.view.app app here app.view.reads making)
  app-step (Runs.fills_spare own bytes lines) may =
      let refs = area.fills-spare setting words _ nic apps app.view.app app rule.refs here (differ-area setting words _ lines rule.refs.sizes may.5.wide)
      refl refl own bytes may.0 may.1 may.2 may.3 in
      stands tt tt
      (stored.fills setting words nic apps rule.refs rule.texts app.view.app app own bytes lines here may.0 may.1 may.2 may.3 may.5 refs.sides)
      refs (by_area.spare_filled-phases setting words nic apps rule.refs rule.phases app.view.app app here own bytes may.0)
  app-step (Runs.reads_text place from n) may =
      let part = part_of place from n in
      let now = side_read app place from n (lines_at setting.layout words.area part) in
      let refs = area.has-at-hand setting words words nic apps app.view.app app rule.refs here (no-word setting words rule.refs.sizes) refl refl
      now.view.reads now.inside.making in
      stands (home-read setting words nic apps rule.refs rule.texts app.view.app app here place from n may.0 may.1 may.2 may.3)
      (read.shows setting words nic apps rule.refs rule.texts app.view.app app here place from n may.0 may.1 may.2)
      (read.reads setting words nic apps rule.refs rule.texts app.view.app app here place from n may.0 may.1 may.2 refs.sides) refs
      (by_area.reads-phases setting words nic apps rule.refs rule.phases app.view.app app here now.view.reads now.inside.making)
  app-step (Runs.gives_lines place lines) may =
      let refs = area.has-at-hand setting words words nic apps app.view.app app rule.refs here (no-word setting words rule.refs.sizes) refl refl
      app.view.reads None in
      stands tt (read.stands setting words nic apps rule.refs rule.texts app.view.app app here place lines may.0 may.1 may.3)
      (read.given setting words nic apps rule.refs rule.texts app.view.app app here refs.sides) refs
      (by_area.reads-phases setting words nic apps rule.refs rule.phases app.view.app app here app.view.reads None)
