-- The card hands a note slot over: a note is on its way.
use Rattle.std.proofs.Common.{◌≡◌, ⊎_elim, ℕ, ◌<◌, ◌≤◌, true, false, List, [], ◌∷◌, ◌++◌, length, map, take, set, get_or, refl, ap, sym, ◌∙◌, arith, subst, mod-lt}
use Rattle.std.{specs.Prelude.{◌≢◌, if◌then◌else◌}, proofs.lemmas.{Bool.Decides.{eqb_tells}, List.{length-set, Elements.{All-push}}}}
use Rattle.zr_kinds.specs.declared.place.Note.{Note}
use Rattle.area_layout.specs.Layout.{area_of_buffer}
use Rattle.board_face.specs.{NicCalls.{HasPiece, apps_of}, NicEvents.{text_at, sent, sent_linear}, Holders.{sent_to}, Counts.{pool_count}}
use Rattle.board_face.specs.{Places.{ArePlaced, IsMadeLast}, Fillings.{IsFilledByOne}, Opened.{new_app, unseen}, Relay.{IsProper, as_taken}}
use Rattle.board_face.specs.{Texts.{IsSplitNote, IsLinearNote}, Sides.{IsApp, nic_at}, SlotSteps.{next_slot, side_sent, side_sent_linear}}
use Rattle.board_face.specs.declared.views.{parts.Setting.{Setting}, nic.{NicView.{NicView}, NicSide.{NicSide}, SentNote.{SentNote}}, app.AppSide.{AppSide}}
use Rattle.board_face.proofs.NicLemmas.{pool_count-sent, pool_count-sent_linear, user_count-nic, sent_to-same, sent_to-other}
use Rattle.board_face.proofs.{ArePlacedLemmas.{ArePlaced-sent, ArePlaced-sent_linear}, IsFilledByOneLemmas.{IsFilledByOne-sent, IsFilledByOne-sent_linear}}
use Rattle.board_face.proofs.{MadeLastLemmas.{IsMadeLast-sent, IsMadeLast-sent_linear}, SideLemmas.{IsApp-at}}
use Rattle.word_rings.specs.Slots.{note_body}
use Rattle.ref_words.specs.{Words.{Words, listed_bit, with_note}, Rings.{NoteFits, words_of_note, note_so_far, writes_note_at}, Sides.{IsTakenInOrder}, Rule.{RefRule}}
use Rattle.ref_words.proofs.{RingSteps.{AllRings}, RingMoves.{slot-here, slot-other, rings-parts}, SlotWords.{ring-here, ring-other, differ-note}}
use Rattle.ref_words.proofs.{SlotSteps.{DifferInSlots, RefRule-slot}, CardSteps.{SidesRule-card}, Frees.{AreKept-card}, Writing.{take-mapped}}
use Rattle.ref_words.proofs.Ringing as ringing
use Rattle.ref_words.proofs.LeftWords as left-words
use Rattle.ref_words.{specs.Sides.{AreByLine}, proofs.LineLemmas.{AreByLine-like, AreByLine-sent, AreByLine-sent_linear}}

-- What is to be known of the view v after the event, by which the note s was sent.
pub record IsSending (nic : NicSide) (apps : List AppSide) (v : NicView) (s : SentNote) : Type 0 where
  pub same : v ≡ record nic.view { pieces = v.pieces; sent = nic.view.sent ++ s ∷ [] }
  pub fits : NoteFits s
  pub proper : IsProper s
  pub pools : (b : ℕ) → pool_count b (nic_at nic v) apps ≡ pool_count b nic apps
  pub placed : (b : ℕ) → ArePlaced b (nic_at nic v) apps
  pub lines : (b : ℕ) → AreByLine b (nic_at nic v) apps
  pub by_one : (b : ℕ) → IsFilledByOne b (nic_at nic v) apps
  pub made : IsMadeLast (nic_at nic v) apps

module _ (setting : Setting) (words : Words) (nic : NicSide) (apps : List AppSide) (a : ℕ) (rule : RefRule setting words nic apps)
    (is_app : a < apps_of setting) where
  -- the application to which the note goes
  abbrev app : AppSide
  app = get_or apps a (new_app setting a)

  pub here : IsApp apps a app
  here = IsApp-at apps a (new_app setting a) rule.sides.set.numbers (omega (arith, is_app, rule.sides.set.many))

  pub within : length app.view.taken ≤ length (sent_to a nic)
  within = subst (λ k. length app.view.taken ≤ length (sent_to k nic)) here.number (rule.rings a app here).notes.order

  module _ (v : NicView) (s : SentNote) (sending : IsSending nic apps v s) (for : s.app ≡ a) (saw : (next_slot nic.inside.note_slots a).seen ≡ true)
      (words_are : note_so_far setting nic a ≡ words_of_note setting s) where
    abbrev like : NicSide
    like = record {
      view = record nic.view { pieces = v.pieces; sent = nic.view.sent ++ s ∷ [] };
      inside = record nic.inside { note_slots = set nic.inside.note_slots a unseen };
    }

    is : IsSending nic apps (record nic.view { pieces = v.pieces; sent = nic.view.sent ++ s ∷ [] }) s
    is = subst (λ x. IsSending nic apps x s) sending.same sending

    abbrev mark : ℕ
    mark = writes_note_at setting nic a

    abbrev words' : Words
    words' = with_note words a mark 0 1

    -- what was sent to it, and to the others
    sent-here : sent_to a like ≡ sent_to a nic ++ s ∷ []
    sent-here = sent_to-same a nic.view.sent s for

    sent-other : (k : ℕ) → k ≢ a → sent_to k like ≡ sent_to k nic
    sent-other k ne = sent_to-other k nic.view.sent s (λ e. ne (sym e ∙ for))

    taken-still : (k : ℕ) (x : AppSide) → IsApp apps k x → IsTakenInOrder like x
    taken-still k x it =
        ⊎_elim
        (λ t. let e : x.view.app ≡ a = it.number ∙ t.1 in
        let few = (rule.rings k x it).notes.order in record {
          order = ap (λ ss. take (length x.view.taken) (map as_taken ss)) (subst (λ n. sent_to n like ≡ sent_to n nic ++ s ∷ []) (sym e) sent-here)
              ∙ (take-mapped as_taken (length x.view.taken) (sent_to x.view.app nic) s few ∙ (rule.sides.taken k x it).order);
        })
        (λ t. let ne : x.view.app ≢ a = λ e. (let n : k ≢ a = t.1 in n) (sym it.number ∙ e) in record {
          order = ap (λ ss. take (length x.view.taken) (map as_taken ss)) (sent-other x.view.app ne) ∙ (rule.sides.taken k x it).order;
        })
        (eqb_tells k a)

    rings-then : AllRings setting words' like apps
    rings-then =
        let there : a < length words.notes = omega (arith, is_app, rule.sizes.notes) in
        let slot_there : a < length nic.inside.note_slots = omega (arith, is_app, rule.sides.slots.notes) in
        rings-parts setting words' like apps a
        (λ x it. let all = rule.rings a x it in
        let ring = rw it.number at all.notes in
        let left = rw it.number at all.left in record {
          refills = all.refills;
          notes = rw (it.number, ring-here words.notes a mark 0 1 there, sent-here, slot-here nic.inside.note_slots a unseen slot_there)
              (ringing.publishes _ _ _ _ _ _ _ _ ring s saw (left-words.so-far _ _ _ _ _ _ _ _ ring left saw ∙ words_are) (omega arith));
          left = rw (it.number, ring-here words.notes a mark 0 1 there, sent-here, slot-here nic.inside.note_slots a unseen slot_there)
              (left-words.publishes _ _ _ _ _ _ _ _ ring left s saw);
        })
        (λ k x it ne. let all = rule.rings k x it in let apart : x.view.app ≢ a = λ e. ne (sym it.number ∙ e) in record {
          refills = all.refills;
          notes = rw (
            ring-other words.notes a mark 0 1 x.view.app apart,
            sent-other x.view.app apart,
            slot-other nic.inside.note_slots a unseen x.view.app apart,
          ) all.notes;
          left = rw (
            ring-other words.notes a mark 0 1 x.view.app apart,
            sent-other x.view.app apart,
            slot-other nic.inside.note_slots a unseen x.view.app apart,
          ) all.left;
        })

    pub RefRule-sent : RefRule setting words' (record { view = v; inside = record nic.inside { note_slots = set nic.inside.note_slots a unseen } }) apps
    RefRule-sent =
        let differ : DifferInSlots setting words words' =
        differ-note setting words rule.sizes a mark 0 1 is_app (mod-lt (length (sent_to a nic)) (rule.rings a app here).notes.some) in
        subst (λ x. RefRule setting words' (record { view = x; inside = record nic.inside { note_slots = set nic.inside.note_slots a unseen } }) apps)
        (sym sending.same)
        (RefRule-slot setting words words' nic like apps apps rule differ (record {
          sides = SidesRule-card setting nic like apps rule.sides (record {
            placed = λ b. assumption (is.placed b);
            lines = λ b. AreByLine-like b (nic_at nic like.view) apps like (λ test. refl) (λ test app. refl) (is.lines b);
            by_one = λ b. assumption (is.by_one b);
            fit = assumption rule.sides.fit;
            made = record { last = is.made.last };
            taken = taken-still;
            unheld = λ b past none. is.pools b ∙ none;
            own = record {
              setting = refl;
              dealt = refl;
              entry = refl;
              notes = All-push NoteFits nic.view.sent s rule.sides.notes is.fits;
              proper = All-push IsProper nic.view.sent s rule.sides.proper is.proper;
              note_slots = length-set nic.inside.note_slots a unseen;
              refill_slots = refl;
            };
          });
          pool = is.pools;
          users = λ x b. user_count-nic x b nic (record nic.view { pieces = v.pieces; sent = nic.view.sent ++ s ∷ [] }) apps refl;
          free = λ b. refl;
          kept = AreKept-card (listed_bit words) nic like apps refl refl refl (λ b. omega arith) rule.kept;
          rings = rings-then;
        }))

  -- ---- with its piece, or with its bytes

  pub sends : (note : Note) → HasPiece nic.view note.place → IsSplitNote note → (next_slot nic.inside.note_slots a).seen ≡ true
      → note_so_far setting nic a ≡ note_body note [] (area_of_buffer setting.layout note.place.buffer)
      → NoteFits (record { app = a; note = note; bytes = text_at nic.view note.place })
      → RefRule setting (with_note words a (writes_note_at setting nic a) 0 1) (side_sent nic a note) apps
  sends note out fields saw words_are fits =
      let s : SentNote = record { app = a; note = note; bytes = text_at nic.view note.place } in
      let split = fields.split in
      let numbers = rule.sides.set.numbers in
      RefRule-sent (sent nic.view a note) s (record {
        same = refl;
        fits = fits;
        proper = record { split = λ e. fields; linear = λ e. absurd (let wrong : true ≡ false = sym split ∙ e in let none : ⊥ = cc in none) };
        pools = λ b. pool_count-sent b nic apps a note app out split numbers here within;
        placed = λ b. ArePlaced-sent b nic apps a note app out split numbers here within (rule.sides.placed b);
        lines = λ b. AreByLine-sent b nic apps a note app out split numbers here within (rule.sides.lines b);
        by_one = λ b. IsFilledByOne-sent b nic apps a note app out split numbers here within (rule.sides.by_one b);
        made = IsMadeLast-sent nic apps a note app out split numbers here within rule.sides.made;
      }) refl saw (words_are ∙ sym (ap
      (λ c. note_body note (if c then [] else text_at nic.view note.place) (if c then area_of_buffer setting.layout note.place.buffer else 0)) split))

  pub sends-linear : (note : Note) (bytes : List ℕ) → IsLinearNote note → note.total ≡ length bytes
      → (next_slot nic.inside.note_slots a).seen ≡ true → note_so_far setting nic a ≡ note_body note bytes 0
      → NoteFits (record { app = a; note = note; bytes = bytes })
      → RefRule setting (with_note words a (writes_note_at setting nic a) 0 1) (side_sent_linear nic a note bytes) apps
  sends-linear note bytes fields many saw words_are fits =
      let s : SentNote = record { app = a; note = note; bytes = bytes } in
      let split = fields.split in
      let numbers = rule.sides.set.numbers in
      RefRule-sent (sent_linear nic.view a note bytes) s (record {
        same = refl;
        fits = fits;
        proper = record {
          split = λ e. absurd (let wrong : true ≡ false = sym e ∙ split in let none : ⊥ = cc in none);
          linear = λ e. (fields, sym many);
        };
        pools = λ b. pool_count-sent_linear b nic apps a note bytes app split numbers here within;
        placed = λ b. ArePlaced-sent_linear b nic apps a note bytes app split numbers here within (rule.sides.placed b);
        lines = λ b. AreByLine-sent_linear b nic apps a note bytes app split numbers here within (rule.sides.lines b);
        by_one = λ b. IsFilledByOne-sent_linear b nic apps a note bytes app split numbers here within (rule.sides.by_one b);
        made = IsMadeLast-sent_linear nic apps a note bytes app split numbers here within rule.sides.made;
      }) refl saw (words_are ∙ sym (ap
      (λ c. note_body note (if c then [] else bytes) (if c then area_of_buffer setting.layout note.place.buffer else 0)) split))
