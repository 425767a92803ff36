-- What the events at the slots of the rings leave of the texts: no line of the area changes.
use Rattle.std.proofs.Common.{◌≡◌, ⊎_elim, ℕ, ◌<◌, ◌≤◌, Bool, true, false, List, [], ◌∷◌, ◌++◌, length, map, drop, get_or, set, refl, ap, sym, ◌∙◌, subst, arith}
use Rattle.std.{specs.Prelude.{◌==◌, All, Contains, None}, proofs.lemmas.{List.{take-append-drop, Elements.{All-weaker, Contains-get_or}}, Bool.Decides.{eqb_tells}}}
use Rattle.zr_kinds.specs.declared.{place.{Note.{Note}, Place.{Place}}, ring.Rqe.{Rqe}}
use Rattle.board_face.specs.{AppCalls.{HasLoan}, AppEvents.{gave, pushed_raw, took_note, took_linear}, NicCalls.{HasPiece, apps_of}}
use Rattle.board_face.specs.{NicEvents.{sent, sent_linear, text_at}, Counts.{EndedWereReturned}, Holders.{sent_to, lowered_in_hand, is_honoured_for}, Opened.{new_app}}
use Rattle.board_face.specs.{Relay.{as_taken, dealt_entries, IsAsSent, Relayed}, Shown.{AppIsShown, AreShown}, Sides.{IsApp, nic_at, app_at}}
use Rattle.board_face.specs.SlotSteps.{side_refill_looked, side_refill_stored, side_gave, side_pushed}
use Rattle.board_face.specs.SlotSteps.{side_entry_looked, side_entry_loaded, side_in_hand, side_dealt, side_note_looked, side_note_stored}
use Rattle.board_face.specs.SlotSteps.{side_sent, side_sent_linear, side_slot_looked, side_slot_loaded, side_took_note, side_took_linear}
use Rattle.board_face.specs.declared.views.{parts.Setting.{Setting}, nic.{Dealt.{Dealt}, Fate.{Fate, TheVariants.{Honoured, Stray}}, Judged.{Judged}}}
use Rattle.board_face.specs.declared.views.nic.{Judged.TheVariants.{Not, Stray as judged_stray, BothLowered}, NicSide.{NicSide}, SentNote.{SentNote}, NicView.{NicView}}
use Rattle.board_face.{specs.declared.views.app.{WrittenEntry.{WrittenEntry}, AppSide.{AppSide}}, proofs.Parts.{count-tally}}
use Rattle.board_face.proofs.{RelayLemmas.{Relayed-sent, Relayed-sent_other}, SideLemmas.{IsApp-at}, Tallies.{one_if, tally-push}}
use Rattle.board_face.proofs.TextsByEvent.{AppIsShown-same, AppIsShown-took_note, AppIsShown-took_linear, AppIsShown-ended}
use Rattle.board_face.{proofs.{AreShownLemmas.{AppIsShown-gave, AreShown-sent, AreShown-sent_linear}, Counting.{weight-and}}, specs.Laws.{IsNextNote}}
use Rattle.ref_words.specs.{Words.{Words}, Lines.{byte_in_area}, Sides.{SidesRule, IsTakenInOrder, IsDealtInOrder}, Rule.{RefRule}, TextRule.{AreTexts}}
use Rattle.ref_words.proofs.{InHand.{in_hand, if-none}, TextsByCard.{ends-in-hand, AreTexts-card}}
use Rattle.ref_words.proofs.TextsByApp.{HasTexts-left, HasTexts-idle, AreTexts-app, AppIsShown-inside}

-- ---- an application's slots

module _ (setting : Setting) (area : List (List ℕ)) (nic : NicSide) (apps : List AppSide) (a : ℕ) (app : AppSide) (here : IsApp apps a app)
    (texts : AreTexts setting.layout area nic apps) where
  abbrev byte : ℕ → ℕ → ℕ
  byte = byte_in_area setting.layout area

  -- a look at a slot, or a word stored or loaded there
  seen : (now : AppSide) → now ≡ record {
    view = record app.view { looks = now.view.looks; quiet = now.view.quiet };
    inside = record app.inside {
      note_slot = now.inside.note_slot;
      refill_slot = now.inside.refill_slot;
      free_slots = now.inside.free_slots;
    };
  } → SidesRule setting nic (set apps a now) → AreTexts setting.layout area nic (set apps a now)
  seen now same sides =
      let v = record app.view { looks = now.view.looks; quiet = now.view.quiet } in
      let inside = record app.inside { note_slot = now.inside.note_slot; refill_slot = now.inside.refill_slot; free_slots = now.inside.free_slots } in
      let like : AppSide = record { view = v; inside = inside } in
      subst (λ x. AreTexts setting.layout area nic (set apps a x)) (sym same)
      (AreTexts-app setting area nic apps a app like here (subst (λ x. SidesRule setting nic (set apps a x)) same sides)
      (λ shown. AppIsShown-inside byte nic (app_at app v) inside (λ b. omega arith)
      (AppIsShown-same byte nic app v (record { app = refl; taken = refl; helds = refl; owns = refl; loans = refl; returned = refl }) shown))
      (HasTexts-left setting.layout area nic app like (record { number = refl; making = refl; owns = refl; loans = refl; reads = refl })) texts)

  pub texts-refill_looked : (free : Bool) → SidesRule setting nic (set apps a (side_refill_looked app free))
      → AreTexts setting.layout area nic (set apps a (side_refill_looked app free))
  texts-refill_looked true sides = seen (side_refill_looked app true) refl sides
  texts-refill_looked false sides = seen (side_refill_looked app false) refl sides

  pub texts-refill_stored : (n : ℕ) → SidesRule setting nic (set apps a (side_refill_stored app n))
      → AreTexts setting.layout area nic (set apps a (side_refill_stored app n))
  texts-refill_stored n sides = seen (side_refill_stored app n) refl sides

  pub texts-slot_looked : (full : Bool) → SidesRule setting nic (set apps a (side_slot_looked app full))
      → AreTexts setting.layout area nic (set apps a (side_slot_looked app full))
  texts-slot_looked true sides = seen (side_slot_looked app true) refl sides
  texts-slot_looked false sides = seen (side_slot_looked app false) refl sides

  pub texts-slot_loaded : (n : ℕ) → SidesRule setting nic (set apps a (side_slot_loaded app n))
      → AreTexts setting.layout area nic (set apps a (side_slot_loaded app n))
  texts-slot_loaded n sides = seen (side_slot_loaded app n) refl sides

  pub texts-gave : (place : Place) → HasLoan app.view place → ((b : ℕ) → EndedWereReturned b nic app) → app.inside.making ≡ None
      → SidesRule setting nic (set apps a (side_gave app place)) → AreTexts setting.layout area nic (set apps a (side_gave app place))
  texts-gave place out ended idle sides =
      let now = side_gave app place in
      AreTexts-app setting area nic apps a app now here sides
      (λ shown. AppIsShown-inside byte nic (app_at app (gave app.view place)) now.inside (λ b. omega arith)
      (AppIsShown-gave byte nic app place out ended shown))
      (HasTexts-idle setting.layout area nic app now refl idle refl refl) texts

  pub texts-pushed : (entry : Rqe) → SidesRule setting nic (set apps a (side_pushed app entry))
      → AreTexts setting.layout area nic (set apps a (side_pushed app entry))
  texts-pushed entry sides =
      let now = side_pushed app entry in
      AreTexts-app setting area nic apps a app now here sides
      (λ shown. AppIsShown-inside byte nic (app_at app (pushed_raw app.view entry)) now.inside (λ b. omega arith)
      (AppIsShown-same byte nic app (pushed_raw app.view entry)
      (record { app = refl; taken = refl; helds = refl; owns = refl; loans = refl; returned = refl }) shown))
      (HasTexts-left setting.layout area nic app now (record { number = refl; making = refl; owns = refl; loans = refl; reads = refl })) texts

  pub texts-took_note : (note : Note) → IsNextNote nic app note → note.split ≡ true → SidesRule setting nic (set apps a (side_took_note app note))
      → AreTexts setting.layout area nic (set apps a (side_took_note app note))
  texts-took_note note next split sides =
      let now = side_took_note app note in
      AreTexts-app setting area nic apps a app now here sides
      (λ shown. AppIsShown-inside byte nic (app_at app (took_note app.view note)) now.inside (λ b. omega arith)
      (AppIsShown-took_note byte nic app note next split shown))
      (HasTexts-left setting.layout area nic app now (record { number = refl; making = refl; owns = refl; loans = refl; reads = refl })) texts

  pub texts-took_linear : (note : Note) (bytes : List ℕ) → IsNextNote nic app note
      → SidesRule setting nic (set apps a (side_took_linear app note bytes))
      → AreTexts setting.layout area nic (set apps a (side_took_linear app note bytes))
  texts-took_linear note bytes next sides =
      let now = side_took_linear app note bytes in
      AreTexts-app setting area nic apps a app now here sides
      (λ shown. AppIsShown-inside byte nic (app_at app (took_linear app.view note bytes)) now.inside (λ b. omega arith)
      (AppIsShown-took_linear byte nic app note bytes next shown))
      (HasTexts-left setting.layout area nic app now (record { number = refl; making = refl; owns = refl; loans = refl; reads = refl })) texts

-- ---- the card's slots

module _ (setting : Setting) (area : List (List ℕ)) (nic : NicSide) (apps : List AppSide) (a : ℕ) (texts : AreTexts setting.layout area nic apps) where
  -- a look at a slot, or a word stored or loaded there
  card-seen : (now : NicSide) → now ≡ record {
    view = record nic.view { looks = now.view.looks };
    inside = record nic.inside { note_slots = now.inside.note_slots; refill_slots = now.inside.refill_slots };
  } → SidesRule setting now apps → AreTexts setting.layout area now apps
  card-seen now same sides =
      let like : NicSide = record {
        view = record nic.view { looks = now.view.looks };
        inside = record nic.inside { note_slots = now.inside.note_slots; refill_slots = now.inside.refill_slots };
      } in
      subst (λ x. AreTexts setting.layout area x apps) (sym same)
      (AreTexts-card setting area nic like apps (subst (λ x. SidesRule setting x apps) same sides)
      (record { pieces = refl; sents = refl; ends = λ b app. omega arith }) refl texts)

  pub texts-note_looked : (free : Bool) → SidesRule setting (side_note_looked nic a free) apps
      → AreTexts setting.layout area (side_note_looked nic a free) apps
  texts-note_looked true sides = card-seen (side_note_looked nic a true) refl sides
  texts-note_looked false sides = card-seen (side_note_looked nic a false) refl sides

  pub texts-note_stored : (n : ℕ) → SidesRule setting (side_note_stored nic a n) apps → AreTexts setting.layout area (side_note_stored nic a n) apps
  texts-note_stored n sides = card-seen (side_note_stored nic a n) refl sides

  pub texts-entry_looked : (full : Bool) → SidesRule setting (side_entry_looked nic a full) apps
      → AreTexts setting.layout area (side_entry_looked nic a full) apps
  texts-entry_looked true sides = card-seen (side_entry_looked nic a true) refl sides
  texts-entry_looked false sides = card-seen (side_entry_looked nic a false) refl sides

  pub texts-entry_loaded : (n : ℕ) → SidesRule setting (side_entry_loaded nic a n) apps → AreTexts setting.layout area (side_entry_loaded nic a n) apps
  texts-entry_loaded n sides = card-seen (side_entry_loaded nic a n) refl sides

  pub texts-in_hand : (n : ℕ) (entry : Rqe) → nic.inside.entry ≡ None → SidesRule setting (side_in_hand nic a n entry) apps
      → AreTexts setting.layout area (side_in_hand nic a n entry) apps
  texts-in_hand n entry idle sides =
      AreTexts-card setting area nic _ apps sides (record {
        pieces = refl;
        sents = refl;
        ends = ends-in-hand nic (side_in_hand nic a n entry) refl (λ x c. omega (arith, ap (lowered_in_hand x c) idle));
      })
      refl texts

  -- as much is ended by an entry that was dealt with as was for it while it was in hand
  module _ (entry : Rqe) (how : Judged) (fate : Fate) (at : nic.inside.entry ≡ in_hand a entry how)
      (same : (x c : ℕ) → lowered_in_hand x c (in_hand a entry how)
      ≤ one_if (is_honoured_for x c (record { app = a; entry = entry; fate = fate }))) (sides : SidesRule setting (side_dealt nic a entry fate) apps) where
    texts-dealt : AreTexts setting.layout area (side_dealt nic a entry fate) apps
    texts-dealt =
        let d : Dealt = record { app = a; entry = entry; fate = fate } in
        AreTexts-card setting area nic _ apps sides (record {
          pieces = refl;
          sents = refl;
          ends = λ b app. let honoured = is_honoured_for app.view.app b in
              omega (
                arith,
                count-tally honoured (nic.view.dealt ++ d ∷ []),
                count-tally honoured nic.view.dealt,
                tally-push honoured nic.view.dealt d,
                ap (lowered_in_hand app.view.app b) at,
                same app.view.app b,
              );
        })
        refl texts

  pub texts-honoured : (entry : Rqe) (b : ℕ) → nic.inside.entry ≡ in_hand a entry (BothLowered b)
      → SidesRule setting (side_dealt nic a entry (Honoured b)) apps → AreTexts setting.layout area (side_dealt nic a entry (Honoured b)) apps
  texts-honoured entry b at sides =
      texts-dealt entry (BothLowered b) (Honoured b) at (λ x c. omega (arith, weight-and (a == x) (b == c))) sides

  pub texts-stray : (entry : Rqe) → nic.inside.entry ≡ in_hand a entry judged_stray → SidesRule setting (side_dealt nic a entry Stray) apps
      → AreTexts setting.layout area (side_dealt nic a entry Stray) apps
  texts-stray entry at sides = texts-dealt entry judged_stray Stray at (λ x c. omega (arith, if-none (a == x))) sides

  pub texts-void : (entry : Rqe) → nic.inside.entry ≡ in_hand a entry Not → SidesRule setting (side_dealt nic a entry Stray) apps
      → AreTexts setting.layout area (side_dealt nic a entry Stray) apps
  texts-void entry at sides = texts-dealt entry Not Stray at (λ x c. omega (arith, if-none (a == x))) sides

-- ---- a note is sent

-- with the notes and the entries on its way, an application's readings are a relay
relay : (nic : NicSide) (app : AppSide) → IsTakenInOrder nic app → IsDealtInOrder nic app → All (IsAsSent (sent_to app.view.app nic)) app.view.reads
    → Relayed nic app (drop (length app.view.taken) (map as_taken (sent_to app.view.app nic)))
    (drop (length (dealt_entries app.view.app nic)) (map (λ w. w.entry) app.view.written))
relay nic app taken dealt reads = record {
  notes = let all = map as_taken (sent_to app.view.app nic) in
      ap (λ front. front ++ drop (length app.view.taken) all) (sym taken.order) ∙ take-append-drop (length app.view.taken) all;
  reads = reads;
  entries = let all = map (λ (w : WrittenEntry). w.entry) app.view.written in
      let n = length (dealt_entries app.view.app nic) in
      ap (λ front. front ++ drop n all) (sym dealt.order) ∙ take-append-drop n all;
}

module _ (setting : Setting) (words : Words) (nic : NicSide) (apps : List AppSide) (a : ℕ) (rule : RefRule setting words nic apps)
    (is_app : a < apps_of setting) (texts : AreTexts setting.layout words.area nic apps) where
  abbrev showing : ℕ → ℕ → ℕ
  showing = byte_in_area setting.layout words.area

  -- an application of the list is there by its number
  numbered : (app : AppSide) → Contains apps app → IsApp apps app.view.app app
  numbered app has =
      let here = IsApp-at apps has.0 app rule.sides.set.numbers has.1 in
      let it : IsApp apps has.0 app = subst (IsApp apps has.0) has.2 here in subst (λ n. IsApp apps n app) (sym it.number) it

  within : (app : AppSide) → Contains apps app → length app.view.taken ≤ length (sent_to app.view.app nic)
  within app has = (rule.rings app.view.app app (numbered app has)).notes.order

  reads-sent : (v : NicView) (s : SentNote) → v.sent ≡ nic.view.sent ++ s ∷ [] → v.dealt ≡ nic.view.dealt → (app : AppSide) → Contains apps app
      → All (IsAsSent (sent_to app.view.app nic)) app.view.reads → All (IsAsSent (sent_to app.view.app (nic_at nic v))) app.view.reads
  reads-sent v s sents deals app has reads =
      let here = numbered app has in
      let relayed = relay nic app (rule.sides.taken app.view.app app here) (rule.sides.dealt app.view.app app here) reads in
      ⊎_elim
      (λ t. (Relayed-sent nic v app s _ _ sents deals t.1 relayed).reads)
      (λ t. (Relayed-sent_other nic v app s _ _ sents deals t.1 relayed).reads)
      (eqb_tells s.app app.view.app)

  -- the slot that was handed over is no text's
  sent-with : (v : NicView) (s : SentNote) → v.sent ≡ nic.view.sent ++ s ∷ [] → v.dealt ≡ nic.view.dealt
      → AreShown showing (nic_at nic v) apps → (now : NicSide)
      → now ≡ record { view = v; inside = record nic.inside { note_slots = now.inside.note_slots } }
      → SidesRule setting now apps → AreTexts setting.layout words.area now apps
  sent-with v s sents deals shown now same sides =
      let inside = record nic.inside { note_slots = now.inside.note_slots } in
      let like : NicSide = record { view = v; inside = inside } in
      subst (λ x. AreTexts setting.layout words.area x apps) (sym same) (record {
        shown = record {
          card = record { pieces = shown.card.pieces };
          apps = All-weaker (AppIsShown showing (nic_at nic v)) (AppIsShown showing like)
              (λ app is. AppIsShown-ended showing (nic_at nic v) like app app.inside refl (λ b. omega arith) is) apps shown.apps;
          places = (subst (λ x. SidesRule setting x apps) same sides).placed;
        };
        making = texts.making;
        others = λ k d small. let has = texts.others k d small in record {
          making = has.making;
          unfilled = has.unfilled;
          reads = reads-sent v s sents deals (get_or apps k d) (Contains-get_or apps k d small) has.reads;
        };
      })

  -- the application to which it goes
  abbrev to : AppSide
  to = get_or apps a (new_app setting a)

  is-to : IsApp apps a to
  is-to = IsApp-at apps a (new_app setting a) rule.sides.set.numbers (omega (arith, is_app, rule.sides.set.many))

  pub texts-sent : (note : Note) → HasPiece nic.view note.place → note.split ≡ true → SidesRule setting (side_sent nic a note) apps
      → AreTexts setting.layout words.area (side_sent nic a note) apps
  texts-sent note out split sides =
      sent-with (sent nic.view a note) (record { app = a; note = note; bytes = text_at nic.view note.place }) refl refl
      (AreShown-sent showing nic apps a note to out split rule.sides.set.numbers is-to within texts.shown) (side_sent nic a note) refl sides

  pub texts-sent_linear : (note : Note) (bytes : List ℕ) → note.split ≡ false → SidesRule setting (side_sent_linear nic a note bytes) apps
      → AreTexts setting.layout words.area (side_sent_linear nic a note bytes) apps
  texts-sent_linear note bytes unsplit sides =
      sent-with (sent_linear nic.view a note bytes) (record { app = a; note = note; bytes = bytes }) refl refl
      (AreShown-sent_linear showing nic apps a note bytes to unsplit rule.sides.set.numbers is-to within texts.shown) (side_sent_linear nic a note bytes)
      refl sides
