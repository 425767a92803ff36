-- A note is sent.
use Rattle.std.proofs.Common.{◌≡◌, ℕ, ◌<◌, ◌≤◌, Bool, true, false, List, [], ◌∷◌, ◌++◌, length, map, take, set, get_or, refl, ap, sym, ◌∙◌, subst, arith, ⊎_elim}
use Rattle.std.{specs.Prelude.{◌≢◌, ◌==◌, if◌then◌else◌, Contains}, proofs.lemmas.{Bool.{false≢true}, List.{map-append, length-set, get_or-set_same, get_or-set_other}}}
use Rattle.std.proofs.lemmas.{List.Elements.{All-set, All-push}, Bool.Decides.{eqb_tells}}
use Rattle.circular_buffer.specs.Buffer.{Buffer, buffer}
use Rattle.zr_kinds.specs.declared.place.Note.{Note}
use Rattle.board_face.specs.{NicEvents.{sent, sent_linear, text_at}, NicCalls.{IsOpen, HasPiece}, Texts.{IsSplitNote, IsLinearNote}, Fillings.{IsFilledByOne}}
use Rattle.board_face.{specs.{OwnBuffers.{LieInOwn}, Shown.{AreShown}, Holders.{sent_to}}, proofs.NicLemmas.{pool_count-sent, pool_count-sent_linear}}
use Rattle.board_face.specs.{Sides.{nic_at, IsApp}, Counts.{pool_count}, Relay.{Relayed, as_taken}, declared.views.nic.{SentNote.{SentNote}, NicView.{NicView}}}
use Rattle.board_face.{specs.declared.views.app.AppSide.{AppSide}, proofs.{FreeLemmas.{free_places-nic}, FillingsFitLemmas.{FillingsFit-nic}}}
use Rattle.board_face.proofs.{IsFilledByOneLemmas.{IsFilledByOne-sent, IsFilledByOne-sent_linear}, OwnBufferLemmas.{LieInOwn-sent, LieInOwn-sent_linear}}
use Rattle.board_face.proofs.{AreShownLemmas.{AreShown-sent, AreShown-sent_linear}, RelayLemmas.{taken-within, Relayed-sent, Relayed-sent_other}, SideLemmas.{IsApp-at}}
use Rattle.board_parts.specs.{declared.slots.NoteSlot.{NoteSlot}, Free.{listed_in}, Rings.{pushed}}
use Rattle.plain_board.specs.{Stand.{Arrays, Stand, byte_of}, Sound.{IsSound, IsRing, AreRelayed, IsProper, refills_of, notes_of, taken_of}}
use Rattle.plain_board.proofs.{RingSlots.{IsRing-pushed}, Card.{IsSet-nic, AreCounted-same, AreReturns-nic, AreBooked-nic, ArePhased-open}}
use Rattle.plain_board.proofs.Popping.{same-app, other-number}

-- no more changed than what was sent, and the pieces
pub record IsPosted (old new : NicView) (s : SentNote) : Type 0 where
  pub setting : new.setting ≡ old.setting
  pub ended : new.ended ≡ old.ended
  pub cache : new.cache ≡ old.cache
  pub swept : new.swept ≡ old.swept
  pub used : new.used ≡ old.used
  pub owns : new.owns ≡ old.owns
  pub dealt : new.dealt ≡ old.dealt
  pub sent : new.sent ≡ old.sent ++ s ∷ []

module _ (board : Stand) (a : ℕ) (x : AppSide) (v : NicView) (s : SentNote) (slot : NoteSlot) (sound : IsSound board) (here : IsApp board.apps a x)
    (room : length (get_or board.arrays.notes a (buffer [] 0)).items < (get_or board.arrays.notes a (buffer [] 0)).capacity)
    (posted : IsPosted board.nic.view v s) (target : s.app ≡ a) (text : taken_of slot ≡ as_taken s)
    (same : (b : ℕ) → pool_count b (nic_at board.nic v) board.apps ≡ pool_count b board.nic board.apps) where
  abbrev pub notes_then : Buffer NoteSlot
  notes_then = pushed (get_or board.arrays.notes a (buffer [] 0)) slot

  notes_there : a < length board.arrays.notes
  notes_there = let h = here.there in let many = sound.set.many in let size = sound.sizes.notes in omega arith

  relayed_then : (now : Arrays) → now.refills ≡ board.arrays.refills → now.places ≡ board.arrays.places
      → now.notes ≡ set board.arrays.notes a notes_then → AreRelayed now (nic_at board.nic v) board.apps
  relayed_then now refills places notes = record {
    relayed = λ k y it. ⊎_elim
        (λ t. let one : k ≡ a = t.1 in
        let is : y ≡ x = same-app board.apps a x y here (subst (λ n. IsApp board.apps n y) one it) in
        let more : map taken_of (notes_of now k) ≡ map taken_of (notes_of board.arrays a) ++ as_taken s ∷ [] =
        ap (λ (rings : List (Buffer NoteSlot)). map taken_of (get_or rings k (buffer [] 0)).items) notes
        ∙ (ap (λ (n : ℕ). map taken_of (get_or (set board.arrays.notes a notes_then) n (buffer [] 0)).items) one
        ∙ (ap (λ (r : Buffer NoteSlot). map taken_of r.items) (get_or-set_same board.arrays.notes a notes_then (buffer [] 0) notes_there)
        ∙ (map-append taken_of (notes_of board.arrays a) (slot ∷ []) ∙ ap (λ t. map taken_of (notes_of board.arrays a) ++ t ∷ []) text))) in
        let back : refills_of now k ≡ refills_of board.arrays a = rw (refills, one) refl in
        subst (λ app. Relayed (nic_at board.nic v) app (map taken_of (notes_of now k)) (refills_of now k)) (sym is)
        (rw (more, back) (Relayed-sent board.nic v x s _ _ posted.sent posted.dealt (target ∙ sym here.number) (sound.relayed.relayed a x here))))
        (λ t. let ne : k ≢ a = t.1 in
        let rest : notes_of now k ≡ notes_of board.arrays k =
        ap (λ (rings : List (Buffer NoteSlot)). (get_or rings k (buffer [] 0)).items) notes
        ∙ ap (λ (r : Buffer NoteSlot). r.items) (get_or-set_other board.arrays.notes a k notes_then (buffer [] 0) ne) in
        let back : refills_of now k ≡ refills_of board.arrays k = rw refills refl in
        rw (rest, back) (Relayed-sent_other board.nic v y s _ _ posted.sent posted.dealt (λ e. other-number board.apps a k y it ne (sym e ∙ target))
        (sound.relayed.relayed k y it)))
        (eqb_tells k a);
    notes = rw (notes, places) (All-set (IsRing board.arrays.places) board.arrays.notes a notes_then
        (IsRing-pushed board.arrays.places (get_or board.arrays.notes a (buffer [] 0)) slot room
        (sound.relayed.notes a (buffer [] 0) notes_there)) sound.relayed.notes);
    refills = rw (refills, places) sound.relayed.refills;
  }

  pub IsSound-posted : IsOpen board.nic.view → IsProper s → ((b : ℕ) → IsFilledByOne b (nic_at board.nic v) board.apps)
      → AreShown (byte_of board.arrays) (nic_at board.nic v) board.apps → LieInOwn (nic_at board.nic v) board.apps
      → IsSound (record { arrays = record board.arrays { notes = set board.arrays.notes a notes_then }; nic = nic_at board.nic v; apps = board.apps })
  IsSound-posted running proper by_one shown own_buffers = record {
    sizes = assumption (length-set board.arrays.notes a notes_then ∙ sound.sizes.notes, sound.sizes);
    cached = sound.cached ∙ sym posted.cache;
    set = IsSet-nic _ board.nic v board.apps posted.setting sound.set;
    counted = AreCounted-same board.arrays _ board.nic v board.apps posted.dealt refl refl refl same sound.counted;
    free = record {
      pool = λ b within. free_places-nic (listed_in board.arrays.listed) b board.nic v board.apps posted.cache
          ∙ (sound.free.pool b (rw (← posted.setting) within) ∙ ap (λ p. if p == 0 then 1 else 0) (sym (same b)));
      reserves = λ b past. free_places-nic (listed_in board.arrays.listed) b board.nic v board.apps posted.cache
          ∙ sound.free.reserves b (rw (← posted.setting) past);
    };
    relayed = relayed_then _ refl refl refl;
    returns = λ k y it. AreReturns-nic board.nic v y posted.dealt (sound.returns k y it);
    flags = assumption (sound.flags.ended ∙ sym posted.ended);
    kept = record {
      kept = λ b within. rw (posted.cache, posted.used) (sound.kept.kept b (rw (← posted.setting) within));
      swept = λ b within gone. rw (posted.cache, posted.used) (sound.kept.swept b (rw (← posted.setting) within) (rw (← posted.swept) gone));
    };
    due = sound.due;
    filled = FillingsFit-nic board.nic v board.apps posted.setting posted.owns sound.filled;
    by_one = by_one;
    shown = shown;
    notes = rw posted.sent (All-push IsProper board.nic.view.sent s sound.notes proper);
    own_buffers = own_buffers;
    judged = rw (posted.setting, posted.dealt) sound.judged;
    booked = AreBooked-nic board.arrays _ board.nic v board.apps posted.dealt refl refl refl refl sound.booked;
    phased = ArePhased-open board.nic v board.apps running posted.dealt posted.ended sound.phased;
  }

-- no application has taken more notes than were sent to it
taken-few : (board : Stand) → IsSound board → (x : AppSide) → Contains board.apps x → length x.view.taken ≤ length (sent_to x.view.app board.nic)
taken-few board sound x has =
    let it : IsApp board.apps has.0 x = subst (IsApp board.apps has.0) has.2 (IsApp-at board.apps has.0 x sound.set.numbers has.1) in
    taken-within board.nic x _ _ (sound.relayed.relayed has.0 x it)

if-true : (c : Bool) (t u : List ℕ) → c ≡ true → (if c then [] else t) ≡ (if c then [] else u)
if-true true t u e = refl
if-true false t u e = absurd (let none : ⊥ = cc in none)

-- a split note with its piece
pub IsSound-sent : (board : Stand) (a : ℕ) (x : AppSide) (note : Note) (bytes : List ℕ) → IsSound board → IsApp board.apps a x → IsOpen board.nic.view
    → HasPiece board.nic.view note.place → IsSplitNote note
    → length (get_or board.arrays.notes a (buffer [] 0)).items < (get_or board.arrays.notes a (buffer [] 0)).capacity → IsSound (record {
      arrays = record board.arrays {
        notes = set board.arrays.notes a
            (pushed (get_or board.arrays.notes a (buffer [] 0)) (record { note = note; bytes = bytes }));
      };
      nic = nic_at board.nic (sent board.nic.view a note);
      apps = board.apps;
    })
IsSound-sent board a x note bytes sound here running out fields room =
    let split = fields.split in
    let v = sent board.nic.view a note in
    let s : SentNote = record { app = a; note = note; bytes = text_at board.nic.view note.place } in
    let within : length x.view.taken ≤ length (sent_to a board.nic) =
    subst (λ n. length x.view.taken ≤ length (sent_to n board.nic)) here.number (taken-within board.nic x _ _ (sound.relayed.relayed a x here)) in
    IsSound-posted board a x v s (record { note = note; bytes = bytes }) sound here room
    (assumption)
    refl
    (ap (λ t. record { note = note; bytes = t }) (if-true note.split (take note.total bytes) s.bytes split))
    (λ b. pool_count-sent b board.nic board.apps a note x out split sound.set.numbers here within)
    running
    (record { split = λ _. fields; linear = λ not_split. absurd (false≢true (sym not_split ∙ split)) })
    (λ b. IsFilledByOne-sent b board.nic board.apps a note x out split sound.set.numbers here within (sound.by_one b))
    (AreShown-sent (byte_of board.arrays) board.nic board.apps a note x out split sound.set.numbers here (taken-few board sound) sound.shown)
    (LieInOwn-sent board.nic board.apps a note out sound.own_buffers)

if-false : (c : Bool) (t u : List ℕ) → c ≡ false → t ≡ u → (if c then [] else t) ≡ (if c then [] else u)
if-false true t u e same = absurd (let none : ⊥ = cc in none)
if-false false t u e same = same

-- a note in which its bytes travel
pub IsSound-sent_linear : (board : Stand) (a : ℕ) (x : AppSide) (note : Note) (room bytes : List ℕ) → IsSound board → IsApp board.apps a x
    → IsOpen board.nic.view → IsLinearNote note → note.total ≡ length bytes → take note.total room ≡ bytes
    → length (get_or board.arrays.notes a (buffer [] 0)).items < (get_or board.arrays.notes a (buffer [] 0)).capacity → IsSound (record {
      arrays = record board.arrays {
        notes = set board.arrays.notes a (pushed (get_or board.arrays.notes a (buffer [] 0)) (record { note = note; bytes = room }));
      };
      nic = nic_at board.nic (sent_linear board.nic.view a note bytes);
      apps = board.apps;
    })
IsSound-sent_linear board a x note room bytes sound here running fields many travels free =
    let split = fields.split in
    let v = sent_linear board.nic.view a note bytes in
    let s : SentNote = record { app = a; note = note; bytes = bytes } in
    let within : length x.view.taken ≤ length (sent_to a board.nic) =
    subst (λ n. length x.view.taken ≤ length (sent_to n board.nic)) here.number (taken-within board.nic x _ _ (sound.relayed.relayed a x here)) in
    IsSound-posted board a x v s (record { note = note; bytes = room }) sound here free
    (assumption)
    refl
    (ap (λ t. record { note = note; bytes = t }) (if-false note.split (take note.total room) bytes split travels))
    (λ b. pool_count-sent_linear b board.nic board.apps a note bytes x split sound.set.numbers here within)
    running
    (record { split = λ is_split. absurd (false≢true (sym split ∙ is_split)); linear = λ _. (fields, sym many) })
    (λ b. IsFilledByOne-sent_linear b board.nic board.apps a note bytes x split sound.set.numbers here within (sound.by_one b))
    (AreShown-sent_linear (byte_of board.arrays) board.nic board.apps a note bytes x split sound.set.numbers here (taken-few board sound) sound.shown)
    (LieInOwn-sent_linear board.nic board.apps a note bytes split sound.own_buffers)
