-- An application hands a note slot over: a note is taken.
use Rattle.std.proofs.Common.{◌≡◌, ℕ, zero, suc, ◌+◌, ◌<◌, ◌≤◌, Bool, true, false, List, drop-cons, add-one, [], ◌∷◌, ◌++◌, length, map, take, drop}
use Rattle.std.{proofs.Common.{set, get_or, refl, ap, sym, ◌∙◌, arith, subst, mod-lt}, specs.Prelude.{◌==◌, ◌*◌, All, filter, if◌then◌else◌, min}}
use Rattle.std.proofs.lemmas.List.{length_push, take-append-drop, map-append, Elements.{All-nil, All-cons, All-head, All-tail}, Sums.{sum_by-cons}}
use Rattle.board_face.specs.{Texts.{unsplit_bytes, IsSplitNote, IsLinearNote}, AppEvents.{reserve_of}, Holders.{sent_to, on_way}}
use Rattle.board_face.specs.{Counts.{pool_count, EndedWereReturned}, Opened.{unseen}, Relay.{IsProper, as_taken}, Sides.{IsApp}}
use Rattle.board_face.specs.{SlotSteps.{side_took_note, side_took_linear}, Used.{HasFewPicks}, declared.views.{parts.Setting.{Setting}, nic.NicSide.{NicSide}}}
use Rattle.board_face.specs.declared.views.{nic.SentNote.{SentNote}, app.{TakenNote.{TakenNote}, AppSide.{AppSide}}}
use Rattle.board_face.proofs.{AppLemmas.{pool_count-app, user_count-app, app_count-took_note, app_count-took_linear}, ArePlacedLemmas.{ArePlaced-app}}
use Rattle.board_face.proofs.{FillingsFitLemmas.{FillingsFit-same}, IsFilledByOneLemmas.{IsFilledByOne-app}, MadeLastLemmas.{IsMadeLast-app}, Parts.{app_count}}
use Rattle.board_face.{proofs.{PlaceTallies.{app_places}, PlacesByEvent.{app_places-took_note, app_places-took_linear}}, specs.Laws.{IsNextNote}}
use Rattle.zr_kinds.specs.declared.place.{Note.{Note}, Place.{Place}}
use Rattle.word_rings.specs.Slots.{note_width, note_fields, field_words, payload_width, payload_bytes, note_of, linear_of, words_of, bytes_of_words, pair, flags_of, words_for}
use Rattle.word_rings.proofs.{NoteSlots.{note_back, note-front, bytes-front}, Words.{padded_words, text_back}}
use Rattle.ref_words.specs.{Words.{Words, listed_bit, with_note}, Rings.{AreRings, NoteFits, area_of_note, words_of_note, linear_bytes, takes_note_at}}
use Rattle.ref_words.{specs.{Rings.{loaded_note, loaded_bytes, note_loads}, Rule.{RefRule}}, proofs.RingSteps.{AllRings, rings-others}}
use Rattle.ref_words.proofs.{SlotWords.{ring-here, ring-other, differ-note}, SlotSteps.{DifferInSlots, RefRule-slot}, SideSteps.{own-was, SidesRule-app, mine, is-app}}
use Rattle.ref_words.{proofs.{Frees.{AreKept-app, free_places-hands}, Dealing.{take-next}, LineLemmas.{AreByLine-app}}, specs.Sides.{IsTakenInOrder}}
use Rattle.ref_words.proofs.Ringing as ringing
use Rattle.ref_words.proofs.LeftWords as left-words

-- ---- what the words of a slot tell

-- the note of a slot is the one whose words it has
note-read : (setting : Setting) (s : SentNote) → NoteFits s → note_of (1 ∷ words_of_note setting s) ≡ s.note
note-read setting s fits =
    let n = s.note in
    let f1 = fits.frame in let f2 = fits.base in let f3 = fits.at in let f4 = fits.buffer in let f5 = fits.len in
    note_back n (pair n.frame n.flow) (pair n.base n.seq) (pair n.at n.total) (pair n.place.buffer n.place.offset) (pair n.place.len (flags_of n))
    (area_of_note setting n)
    (words_of payload_width (linear_bytes s)) (omega arith) (omega arith) (omega arith) (omega arith) (omega arith) (omega arith) (omega arith) (omega arith)
    (omega arith) (omega arith)

-- the bytes of a slot begin with those that travel in its note
bytes-read : (xs : List ℕ) → length xs ≤ payload_bytes → All (λ byte. byte < 256) xs → take (length xs) (bytes_of_words (words_of payload_width xs)) ≡ xs
bytes-read xs few small =
    ap (λ ws. take (length xs) (bytes_of_words ws)) (sym (padded_words payload_width payload_bytes (length xs) xs))
    ∙ text_back xs payload_bytes payload_width few (omega arith) (λ i. below xs small i)
  where
    below : (xs : List ℕ) → All (λ byte. byte < 256) xs → (i : ℕ) → get_or xs i 0 < 256
    below [] small i = omega arith
    below (x ∷ xs) small zero = small 0 0 (omega arith)
    below (x ∷ xs) small (suc i) = below xs (λ k d less. small (suc k) d (omega arith)) i

-- the fields are loaded, and of an unsplit note its bytes
fields-loaded : (note : Note) (n : ℕ) → note_loads note ≤ 1 + n → field_words ≤ n
fields-loaded note n enough = by note.split enough
  where
    by : (split : Bool) → (if split then note_fields else min note_width (note_fields + words_for note.total)) ≤ 1 + n → field_words ≤ n
    by true h = omega arith
    by false h = omega arith

bytes-loaded : (note : Note) (n : ℕ) → note.split ≡ false → note.total ≤ payload_bytes → note_loads note ≤ 1 + n → note.total + 8 * field_words ≤ 8 * n
bytes-loaded note n split most enough =
    let h : min note_width (note_fields + words_for note.total) ≤ 1 + n =
    subst (λ c. (if c then note_fields else min note_width (note_fields + words_for note.total)) ≤ 1 + n) split enough in
    omega arith

-- a note more has no fewer bytes
bytes-more : (ns : List Note) (n : Note) → unsplit_bytes ns ≤ unsplit_bytes (ns ++ n ∷ [])
bytes-more [] n = omega arith
bytes-more (m ∷ ns) n =
    omega (
      arith,
      sum_by-cons (λ (x : Note). if x.split then 0 else x.total) m ns,
      sum_by-cons (λ (x : Note). if x.split then 0 else x.total) m (ns ++ n ∷ []),
      bytes-more ns n,
    )

left-one : {A : Type 0} (P : A → Type 0) (test : A → Bool) (x : A) (xs : List A) (c : Bool) → test x ≡ c → P x → All P (filter test xs)
    → All P (filter test (x ∷ xs))
left-one P test x xs true is one all = rw is (All-cons P x (filter test xs) one all)
left-one P test x xs false is one all = rw is all

-- what holds of all holds of those that are left of them
All-left : {A : Type 0} (P : A → Type 0) (test : A → Bool) (xs : List A) → All P xs → All P (filter test xs)
All-left P test [] all = All-nil P
All-left P test (x ∷ xs) all = left-one P test x xs (test x) refl (All-head P x xs all) (All-left P test xs (All-tail P x xs all))

abbrev note_with : Note → List ℕ → TakenNote
note_with n bytes = record { note = n; bytes = bytes }

-- What is to be known of the side after the event, by which the note t was taken.
pub record IsTaking (nic : NicSide) (app now : AppSide) (t : TakenNote) : Type 0 where
  pub same : now ≡ record {
    view = record app.view { helds = now.view.helds; taken = app.view.taken ++ t ∷ [] };
    inside = record app.inside { note_slot = unseen };
  }
  pub places : (b : ℕ) (test : Place → Bool) → app_places b test nic now ≤ app_places b test nic app
  pub counts : (b : ℕ) → app_count b nic now ≡ app_count b nic app

module _ (setting : Setting) (words : Words) (nic : NicSide) (apps : List AppSide) (app : AppSide) (rule : RefRule setting words nic apps)
    (here : IsApp apps app.view.app app) (saw : app.inside.note_slot.seen ≡ true) where
  abbrev a : ℕ
  a = app.view.app

  rings : AreRings setting words nic app
  rings = rule.rings a app here

  abbrev k : ℕ
  k = length app.view.taken

  abbrev none_sent : SentNote
  none_sent = record { app = a; note = note_of []; bytes = [] }

  -- the note that is next
  abbrev next : SentNote
  next = get_or (sent_to a nic) k none_sent

  there : k < length (sent_to a nic)
  there = rings.notes.reader_seen saw

  way : on_way nic app ≡ next ∷ drop (suc k) (sent_to a nic)
  way = drop-cons (sent_to a nic) k none_sent there

  module _ (now : AppSide) (t : TakenNote) (taking : IsTaking nic app now t) (is_next : as_taken next ≡ t) where
    abbrev like : AppSide
    like = record {
      view = record app.view { helds = now.view.helds; taken = app.view.taken ++ t ∷ [] };
      inside = record app.inside { note_slot = unseen };
    }

    is : IsTaking nic app like t
    is = subst (λ x. IsTaking nic app x t) taking.same taking

    abbrev apps' : List AppSide
    apps' = set apps a like

    abbrev s : ℕ
    s = takes_note_at setting app

    abbrev words' : Words
    words' = with_note words a s 0 0

    pools : (b : ℕ) → pool_count b nic apps' ≡ pool_count b nic apps
    pools b = omega (arith, pool_count-app b nic apps a app like here, is.counts b)

    many : length (app.view.taken ++ t ∷ []) ≡ suc k
    many = length_push app.view.taken t ∙ add-one k

    rings-then : AllRings setting words' nic apps'
    rings-then =
        let inside : a < length words.notes = let small = is-app rule.sides here in omega (arith, rule.sizes.notes) in
        rings-others setting words' nic apps a app like here
        (record {
          refills = rings.refills;
          notes = rw (ring-here words.notes a s 0 0 inside, many) (ringing.frees _ _ _ _ _ _ _ _ rings.notes saw);
          left = rw (ring-here words.notes a s 0 0 inside, many) (left-words.frees _ _ _ _ _ _ _ _ rings.notes rings.left none_sent saw);
        })
        (λ j x it ne. let all = rule.rings j x it in record {
          refills = all.refills;
          notes = rw (ring-other words.notes a s 0 0 x.view.app (λ e. ne (sym it.number ∙ e))) all.notes;
          left = rw (ring-other words.notes a s 0 0 x.view.app (λ e. ne (sym it.number ∙ e))) all.left;
        })

    -- it has more bytes in unsplit notes than before, if any
    few-still : HasFewPicks app → HasFewPicks like
    few-still f = let more = bytes-more (map (λ (y : TakenNote). y.note) app.view.taken) t.note in record {
      picks = omega (arith, f.picks, ap unsplit_bytes (map-append (λ (y : TakenNote). y.note) app.view.taken (t ∷ [])), more);
      spares = omega (arith, f.spares, ap unsplit_bytes (map-append (λ (y : TakenNote). y.note) app.view.taken (t ∷ [])), more);
    }

    pub RefRule-taken : RefRule setting words' nic (set apps a now)
    RefRule-taken =
        let differ : DifferInSlots setting words words' = differ-note setting words rule.sizes a s 0 0 (is-app rule.sides here) (mod-lt k rings.notes.some) in
        subst (λ x. RefRule setting words' nic (set apps a x)) (sym taking.same)
        (RefRule-slot setting words words' nic nic apps apps' rule differ (record {
          sides = SidesRule-app setting nic apps a app rule.sides here like (record {
            placed = λ b. ArePlaced-app b nic apps a app like here (is.places b) (rule.sides.placed b);
            lines = λ b. AreByLine-app b nic apps a app like here refl (is.places b) (rule.sides.lines b);
            by_one = λ b. IsFilledByOne-app b nic apps a app like here (omega arith) (omega (arith, is.counts b)) (rule.sides.by_one b);
            fit = FillingsFit-same nic apps a app like here refl rule.sides.fit;
            made = IsMadeLast-app nic apps a app like here is.places rule.sides.made;
            returned = λ b. assumption (mine setting nic apps a app rule.sides here (EndedWereReturned b nic) (rule.sides.returned b));
            reserve = record { unheld = λ free. omega (arith, pools (reserve_of app.view), (rule.sides.reserves a app here).unheld free) };
            unheld = λ b past ne none. omega (arith, pools b, none);
            scrubbed = λ done. assumption (rule.sides.scrubbed a app here done);
            own = let was = own-was setting nic apps a app rule.sides here in
                let few : HasFewPicks like = few-still was.few in
                let taken : IsTakenInOrder nic like = record {
                  order = rw many (take-next as_taken k (sent_to a nic) next (drop (suc k) (sent_to a nic)) way
                      ∙ (ap (λ ts. ts ++ as_taken next ∷ []) (rule.sides.taken a app here).order ∙ ap (λ y. app.view.taken ++ y ∷ []) is_next));
                } in
                assumption (was, few, taken);
          });
          pool = pools;
          users = λ x b. omega (arith, user_count-app x b nic apps a app like here);
          free = λ b. omega (arith, free_places-hands (listed_bit words) b nic apps a app like here);
          kept = AreKept-app (listed_bit words) nic apps a app like here refl rule.kept;
          rings = rings-then;
        }))

  -- ---- what the words that were loaded tell of

  module _ (enough : note_loads (loaded_note app) ≤ 1 + length app.inside.note_slot.words) where
    fits : NoteFits next
    fits = All-left NoteFits (λ (s : SentNote). s.app == a) nic.view.sent rule.sides.notes k none_sent there

    proper : IsProper next
    proper = All-left IsProper (λ (s : SentNote). s.app == a) nic.view.sent rule.sides.proper k none_sent there

    -- the words that were loaded, and the others
    abbrev loaded : List ℕ
    loaded = app.inside.note_slot.words

    abbrev others : List ℕ
    others = drop (length loaded) (words_of_note setting next)

    words-are : words_of_note setting next ≡ loaded ++ others
    words-are =
        sym (take-append-drop (length loaded) (words_of_note setting next))
        ∙ ap (λ ws. ws ++ others) (ringing.has-front _ _ _ _ _ _ _ _ rings.notes none_sent saw)

    abbrev note : Note
    note = loaded_note app

    fields : 6 ≤ length loaded
    fields = fields-loaded note (length loaded) enough

    note-is : note ≡ next.note
    note-is = sym (note-front loaded others fields) ∙ (ap (λ ws. note_of (1 ∷ ws)) (sym words-are) ∙ note-read setting next fits)

    pub is-next : IsNextNote nic app note
    is-next = record { next = next; rest = drop (suc k) (sent_to a nic); way = way; same = sym note-is }

    pub is-split : note.split ≡ true → IsSplitNote note
    is-split split = subst IsSplitNote (sym note-is) (proper.split (ap (λ (n : Note). n.split) (sym note-is) ∙ split))

    pub is-linear : note.split ≡ false → IsLinearNote note
    is-linear split = subst IsLinearNote (sym note-is) (proper.linear (ap (λ (n : Note). n.split) (sym note-is) ∙ split)).0

    pub takes-note : note.split ≡ true → RefRule setting (with_note words a (takes_note_at setting app) 0 0) nic (set apps a (side_took_note app note))
    takes-note split =
        let theirs : next.note.split ≡ true = ap (λ (n : Note). n.split) (sym note-is) ∙ split in
        RefRule-taken (side_took_note app note) (record { note = note; bytes = [] }) (record {
          same = refl;
          places = λ b test. omega (arith, app_places-took_note b test nic app note is-next split);
          counts = λ b. app_count-took_note b nic app note is-next split;
        }) (taken-split next note (sym note-is) theirs)
      where
        taken-split : (sent : SentNote) (n : Note) → sent.note ≡ n → sent.note.split ≡ true → as_taken sent ≡ note_with n []
        taken-split sent n e split' = ap (λ c. note_with sent.note (if c then [] else sent.bytes)) split' ∙ ap (λ (m : Note). note_with m []) e

    pub takes-linear : note.split ≡ false → RefRule setting (with_note words a (takes_note_at setting app) 0 0) nic
        (set apps a (side_took_linear app note (loaded_bytes app)))
    takes-linear split =
        let theirs : next.note.split ≡ false = ap (λ (n : Note). n.split) (sym note-is) ∙ split in
        let tells = proper.linear theirs in
        let small = fits.bytes theirs in
        let travels : linear_bytes next ≡ next.bytes = ap (λ c. if c then [] else next.bytes) theirs in
        let most : note.total ≤ payload_bytes = let few = tells.0.few_bytes in omega (arith, ap (λ (n : Note). n.total) note-is) in
        let read : loaded_bytes app ≡ next.bytes =
        sym (bytes-front note.total loaded others fields (bytes-loaded note (length loaded) split most enough))
        ∙ (ap (λ ws. take note.total (linear_of (1 ∷ ws))) (sym words-are)
        ∙ (ap (λ (n : Note). take n.total (bytes_of_words (words_of payload_width (linear_bytes next)))) note-is
        ∙ (ap (λ xs. take next.note.total (bytes_of_words (words_of payload_width xs))) travels
        ∙ (ap (λ m. take m (bytes_of_words (words_of payload_width next.bytes))) (sym tells.1)
        ∙ bytes-read next.bytes (let few = tells.0.few_bytes in omega (arith, tells.1)) small)))) in
        let bytes = loaded_bytes app in
        RefRule-taken (side_took_linear app note bytes) (record { note = note; bytes = bytes }) (record {
          same = refl;
          places = λ b test. omega (arith, app_places-took_linear b test nic app note bytes is-next split);
          counts = λ b. app_count-took_linear b nic app note bytes is-next split;
        }) (taken-linear next note bytes (sym note-is) (sym read) theirs)
      where
        taken-linear : (sent : SentNote) (n : Note) (bytes : List ℕ) → sent.note ≡ n → sent.bytes ≡ bytes → sent.note.split ≡ false
            → as_taken sent ≡ note_with n bytes
        taken-linear sent n bytes e f split' =
            ap (λ c. note_with sent.note (if c then [] else sent.bytes)) split'
            ∙ (ap (λ bs. note_with sent.note bs) f ∙ ap (λ (m : Note). note_with m bytes) e)
