-- An application reads of a loan: the bytes are those of the loan's text, and the lines are given back as they stand.
use Rattle.std.proofs.Common.{◌≡◌, ℕ, ◌+◌, ◌<◌, ◌≤◌, List, [], ◌∷◌, length, take, drop, get_or, set, refl, ap, sym, ◌∙◌, subst, inl, inr, arith}
use Rattle.std.{specs.Prelude.{◌⊎◌, All, None, IfSome}, proofs.lemmas.List.Elements.{All-push}}
use Rattle.std.proofs.lemmas.List.{length-take, length-take-le, length-drop, get_or-take, get_or-drop, ext_get_or, drop-drop}
use Rattle.zr_kinds.specs.declared.place.Place.{Place}
use Rattle.area_layout.specs.Layout.{LiesIn}
use Rattle.board_face.specs.{AppCalls.{HasLoan, ShowsCopy}, AppEvents.{has_read, loan_origin, reads_with}, Holders.{sent_to}, Relay.{IsAsSent}}
use Rattle.board_face.specs.{Shown.{IsShown, origin_bytes, bytes_sent, AppIsShown}, Sides.{IsApp, app_at}, Texts.{further}}
use Rattle.board_face.specs.declared.views.{parts.{Setting.{Setting}, Making.{Making}}, nic.{NicSide.{NicSide}, SentNote.{SentNote}}}
use Rattle.board_face.specs.declared.views.app.{Origin.{Origin, TheVariants.{Note as of_note, Copied as of_copy}}, Reading.{Reading}, AppSide.{AppSide}}
use Rattle.board_face.proofs.{LiesLemmas.{loan-lies}, TextsByEvent.{AppIsShown-same, IsShown-loan}}
use Rattle.ref_words.specs.{Words.{Words}, Lines.{joined, byte_in_area, lines_at, text_in, AreWide}, Rule.{RefRule}, Sides.{SidesRule}}
use Rattle.ref_words.specs.{AreaSteps.{making_in_hand, part_of, side_at_hand, side_read}, TextRule.{IsAtHand, IsOfSpare, IsReadFromLoan, HasTexts, AreTexts}}
use Rattle.ref_words.proofs.{LaidLines.{lines-wide, joined-same, length-text, text-byte}, Laying.{joined-length}, TextsByApp.{AreTexts-app, AppIsShown-inside}}

-- ---- bytes of a text

-- bytes that stand in a text, from one on
text-part : (text bytes : List ℕ) (len from : ℕ) → length (take len text) ≡ len → from + length bytes ≤ len
    → ((i : ℕ) → i < length bytes → get_or bytes i 0 ≡ get_or (take len text) (from + i) 0)
    → bytes ≡ take (length bytes) (drop from text)
text-part text bytes len from long within each =
    let n = length bytes in
    ext_get_or 0 bytes (take n (drop from text))
    (sym (length-take-le n (drop from text) (omega (arith, long, length-take len text, length-drop from text, within))))
    (λ i less.
    each i less
    ∙ (get_or-take len text (from + i) 0 (omega (arith, within, less))
    ∙ sym (get_or-take n (drop from text) i 0 less ∙ get_or-drop from text i 0)))

-- whatever it comes from
origin-part : (notes : List SentNote) (o : Origin) (bytes : List ℕ) (len from : ℕ) → length (origin_bytes notes o len) ≡ len
    → from + length bytes ≤ len → ((i : ℕ) → i < length bytes → get_or bytes i 0 ≡ get_or (origin_bytes notes o len) (from + i) 0)
    → bytes ≡ origin_bytes notes (further o from) (length bytes)
origin-part notes (of_note k first) bytes len from long within each =
    text-part (drop first (bytes_sent k notes)) bytes len from long within each
    ∙ ap (take (length bytes)) (drop-drop from first (bytes_sent k notes))
origin-part notes (of_copy text) bytes len from long within each = text-part text bytes len from long within each

copy-is : (notes : List SentNote) (o : Origin) (from : ℕ) (bytes : List ℕ) → bytes ≡ origin_bytes notes (further o from) (length bytes)
    → ShowsCopy o from bytes
copy-is notes (of_note k first) from bytes is = tt
copy-is notes (of_copy text) from bytes is = is

-- with what is read so, all that was read is as sent
reads-then : (notes : List SentNote) (reads : List Reading) (o : Origin) (bytes : List ℕ) → All (IsAsSent notes) reads
    → bytes ≡ origin_bytes notes o (length bytes) → All (IsAsSent notes) (reads_with reads o bytes)
reads-then notes reads o [] all is = all
reads-then notes reads o (b ∷ bytes) all is = All-push (IsAsSent notes) reads (record { origin = o; bytes = b ∷ bytes }) all is

-- ---- the steps

module _ (setting : Setting) (words : Words) (nic : NicSide) (apps : List AppSide) (refs : RefRule setting words nic apps)
    (texts : AreTexts setting.layout words.area nic apps) (a : ℕ) (app : AppSide) (here : IsApp apps a app) where
  mine : HasTexts setting.layout words.area nic app
  mine = subst (HasTexts setting.layout words.area nic) here.is (texts.others a app here.there)

  module _ (place : Place) (from n : ℕ) (out : HasLoan app.view place) (some : 0 < n) (within : from + n ≤ place.len) where
    abbrev notes : List SentNote
    notes = sent_to app.view.app nic

    abbrev origin : Origin
    origin = loan_origin app.view place

    abbrev part : Place
    part = part_of place from n

    -- what stands there
    abbrev lines : List (List ℕ)
    lines = lines_at setting.layout words.area part

    abbrev got : List ℕ
    got = text_in part lines

    shown : IsShown (byte_in_area setting.layout words.area) place (origin_bytes notes origin place.len)
    shown = IsShown-loan (byte_in_area setting.layout words.area) nic app place out
        (subst (AppIsShown (byte_in_area setting.layout words.area) nic) here.is (texts.shown.apps a app here.there))

    lies : LiesIn setting.layout part
    lies =
        let whole = subst (λ (s : Setting). LiesIn s.layout place) refs.sides.set.card
        (loan-lies nic apps a app here place (refs.sides.placed place.buffer) (refs.sides.by_one place.buffer).inside out).0 in
        record { buffer = whole.buffer; bytes = omega (arith, whole.bytes, within) }

    as-sent : got ≡ origin_bytes notes (further origin from) (length got)
    as-sent =
        let long = length-text setting.layout words.area refs.layout refs.sizes.area refs.sizes.lines part lies some in
        origin-part notes origin got place.len from shown.len (omega (arith, long, within)) (λ i less.
        let next : place.offset + from + i ≡ place.offset + (from + i) = omega arith in
        let small : i < n = omega (arith, less, long) in
        text-byte setting.layout words.area refs.layout refs.sizes.area refs.sizes.lines part lies some i small
        ∙ (ap (byte_in_area setting.layout words.area place.buffer) next ∙ shown.bytes (from + i) (omega (arith, small, within))))

    pub shows : ShowsCopy origin from got
    shows = copy-is notes origin from got as-sent

    pub reads : SidesRule setting nic (set apps a (side_read app place from n lines))
        → AreTexts setting.layout words.area nic (set apps a (side_read app place from n lines))
    reads sides =
        let now = side_read app place from n lines in
        let v = has_read app.view place from got in
        AreTexts-app setting words.area nic apps a app now here sides
        (λ is. AppIsShown-inside (byte_in_area setting.layout words.area) nic (app_at app v) now.inside (λ b. omega arith)
        (AppIsShown-same (byte_in_area setting.layout words.area) nic app v
        (record { app = refl; taken = refl; helds = refl; owns = refl; loans = refl; returned = refl }) is))
        (λ has. record {
          making = (
            record { lies = lies; some = some },
            inr (record { loan = place; out = out; buffer = refl; from = omega arith; within = omega (arith, within); stand = refl }),
          );
          unfilled = has.unfilled;
          reads = reads-then notes app.view.reads (further origin from) got has.reads as-sent;
        }) texts

  -- lines that were read are given back as they stand
  pub given : SidesRule setting nic (set apps a (side_at_hand app None)) → AreTexts setting.layout words.area nic (set apps a (side_at_hand app None))
  given sides =
      let now = side_at_hand app None in
      AreTexts-app setting words.area nic apps a app now here sides
      (AppIsShown-inside (byte_in_area setting.layout words.area) nic app now.inside (λ b. omega arith))
      (λ has. record { making = tt; unfilled = has.unfilled; reads = has.reads }) texts

  pub stands : (place : Place) (lines : List (List ℕ)) → app.inside.making ≡ making_in_hand place (joined lines) → 0 < length lines
      → AreWide lines → lines_at setting.layout words.area place ≡ lines
  stands place lines at some wide =
      joined-same (lines_at setting.layout words.area place) lines
      (lines-wide setting.layout place words.area refs.sizes.lines)
      wide (of (record { place = place; bytes = joined lines }) is.1 refl)
    where
      made : Making
      made = record { place = place; bytes = joined lines }

      is : IsAtHand setting.layout made × (IsOfSpare app made ⊎ IsReadFromLoan setting.layout words.area app made)
      is = subst (λ m. IfSome m (λ making. IsAtHand setting.layout making × (IsOfSpare app making ⊎ IsReadFromLoan setting.layout words.area app making))) at
          mine.making

      of : (making : Making) → IsOfSpare app making ⊎ IsReadFromLoan setting.layout words.area app making → making.bytes ≡ joined lines
          → joined (lines_at setting.layout words.area making.place) ≡ joined lines
      of making (inl spare) words = absurd (omega (arith, some, joined-length 64 lines wide, ap length (sym words ∙ spare.unknown)))
      of making (inr loan) words = loan.stand ∙ words
