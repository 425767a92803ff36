-- A role stores a text in whole lines, of which no byte is another's: each text that is shown stays so, the new one is shown, and what is
-- read stands in its lines.
use Rattle.std.proofs.Common.{◌≡◌, ⊎_elim, ℕ, ◌+◌, ◌-◌, ◌*◌, ◌/◌, ◌%◌, ◌<◌, ◌≤◌, max, Bool, true, false, cond, List, [], ◌∷◌, length, map, get_or, set}
use Rattle.std.{proofs.Common.{refl, ap, sym, ◌∙◌, subst, inl, inr, arith}, specs.Prelude.{◌⊎◌, ◌&&◌, All, IfSome, nat_lt}}
use Rattle.std.proofs.lemmas.{Bool.{cases_lt, eq-eqb}, Option.{IfSome_then}, List.Elements.{All-head, All-tail, All-push, All-map, All-contains, All-weaker}}
use Rattle.zr_kinds.specs.declared.place.Place.{Place}
use Rattle.area_layout.{specs.Layout.{Shape, LiesIn, all_buffers, size_of}, proofs.Words.{words_apart}}
use Rattle.board_face.specs.{FineSteps.{side_text_done}, Lists.{without}, Tokens.{next_place, filled_by, same_filling}, AppEvents.{begin_place, filled, owns_without}}
use Rattle.board_face.specs.{AppCalls.{HasSpare, HasLoan}, Counts.{pool_count}, Fillings.{IsFilledByOne}, Places.{places_of, ends_behind, has_byte}}
use Rattle.board_face.specs.{Sides.{IsApp, app_at}, declared.views.{parts.{Setting.{Setting}, Filling.{Filling}, Making.{Making}}, nic.NicSide.{NicSide}}}
use Rattle.board_face.{specs.declared.views.app.{SpareOwn.{SpareOwn}, AppSide.{AppSide}}, proofs.ListLemmas.{same_filling-is, All-without}}
use Rattle.board_face.proofs.{Tallies.{one_if, tally}, Parts.{count-tally}, PlaceTallies.{in_buffer, app_places}}
use Rattle.board_face.proofs.{ApartLemmas.{has-weight}, LiesLemmas.{total-at, loans-at}, PlacesByEvent.{places-app}, SideLemmas.{IsApp-at}}
use Rattle.board_face.proofs.{ArePlacedLemmas.{less_spare, spare-free, places-none}, StoresAtLemmas.{HasNoText, HasNoText-making, HasNoText-behind}}
use Rattle.board_face.proofs.{AreShownLemmas.{AreShown-stored_at, AreShown-text_done}, TextsByEvent.{AppIsShown-filled}}
use Rattle.ref_words.specs.{Words.{Words}, Lines.{joined, first_line, line_at, byte_in_area, begin_line, lines_at, laid, HaveText}, Rule.{RefRule}, Sides.{SidesRule}}
use Rattle.ref_words.specs.{AreaSteps.{making_in_hand, side_at_hand, side_spare_filled}, TextRule.{IsAtHand, IsInMaking, IsOfSpare, IsReadFromLoan, HasTexts, AreTexts}}
use Rattle.ref_words.proofs.{AreaLines.{size-lines, lines_apart}, LaidLines.{lines_of-laid, stores-lines, shown-lines}, TextsByApp.{AreTexts-app, AppIsShown-inside}}

-- ---- whose a buffer is

-- the text of a spare meets the test in this buffer
abbrev has_text : ℕ → (Place → Bool) → SpareOwn → Bool
has_text b test s = nat_lt 0 (length s.bytes) && in_buffer b test (begin_place s.own.buffer (length s.bytes))

-- a spare of which nothing is used has no text, so as many texts are left without it
unfilled-tally : (b : ℕ) (test : Place → Bool) (own : Filling) → own.start ≡ 0 → (owns : List SpareOwn)
    → All (λ s. s.own.start ≡ 0 → s.bytes ≡ []) owns
    → tally (has_text b test) owns ≤ tally (has_text b test) (without (λ (s : SpareOwn). same_filling own s.own) owns)
unfilled-tally b test own begin [] all = omega arith
unfilled-tally b test own begin (s ∷ owns) all =
    first (same_filling own s.own) refl
    (unfilled-tally b test own begin owns (All-tail (λ (s : SpareOwn). s.own.start ≡ 0 → s.bytes ≡ []) s owns all))
  where
    first : (c : Bool) → same_filling own s.own ≡ c
        → tally (has_text b test) owns ≤ tally (has_text b test) (without (λ (y : SpareOwn). same_filling own y.own) owns)
        → one_if (has_text b test s) + tally (has_text b test) owns
        ≤ tally (has_text b test) (cond c owns (s ∷ without (λ (y : SpareOwn). same_filling own y.own) owns))
    first true e rest =
        let empty : s.bytes ≡ [] = All-head (λ (y : SpareOwn). y.own.start ≡ 0 → y.bytes ≡ []) s owns all
        (ap (λ (o : Filling). o.start) (same_filling-is own s.own e) ∙ begin) in
        omega (arith, ap (λ bs. one_if (nat_lt 0 (length bs) && in_buffer b test (begin_place s.own.buffer (length bs)))) empty)
    first false e rest = omega (arith, rest)

-- no text lies in the buffer of a spare of which nothing is used
HasNoText-unfilled : (nic : NicSide) (apps : List AppSide) (a : ℕ) (app : AppSide) (own : Filling) (len : ℕ) → IsApp apps a app
    → HasSpare app.view own → IsFilledByOne own.buffer nic apps → own.start ≡ 0 → All (λ (s : SpareOwn). s.own.start ≡ 0 → s.bytes ≡ []) app.view.owns
    → HasNoText nic apps (begin_place own.buffer len)
HasNoText-unfilled nic apps a app own len here out by_one begin unfilled =
    let b = own.buffer in
    let less = less_spare app own in
    HasNoText-behind nic apps (begin_place b len) (omega (
      arith,
      places-none b (ends_behind 0) nic (set apps a less) (spare-free b nic apps a app own here out by_one refl),
      count-tally (ends_behind 0) (places_of b nic (set apps a less)),
      count-tally (ends_behind 0) (places_of b nic apps),
      places-app b (ends_behind 0) nic apps a app less here,
      unfilled-tally b (ends_behind 0) own begin app.view.owns unfilled,
    ))

-- ---- the texts, with the lines of a place in which no text lies

module _ (setting : Setting) (words : Words) (nic : NicSide) (apps : List AppSide) (refs : RefRule setting words nic apps)
    (texts : AreTexts setting.layout words.area nic apps) where
  abbrev layout : Shape
  layout = setting.layout

  module _ (p : Place) (lines : List (List ℕ)) (aligned : p.offset % 64 ≡ 0) (whole : p.len ≡ 64 * length lines) (few : p.buffer < all_buffers layout)
      (within : p.offset + p.len ≤ size_of layout p.buffer) (none : HasNoText nic apps p) where
    abbrev now : List (List ℕ)
    now = laid words.area (begin_line layout p) lines

    -- no loan has a byte of the place
    no-loan : (k : ℕ) (app : AppSide) (loan : Place) → IsApp apps k app → HasLoan app.view loan → loan.buffer ≡ p.buffer → (x : ℕ)
        → p.offset ≤ x → x < p.offset + p.len → loan.offset ≤ x → x < loan.offset + loan.len → ⊥
    no-loan k app loan here out same x from inside begins ends =
        let test = in_buffer p.buffer (has_byte x) in
        let one : one_if (test loan) ≡ one_if (has_byte x loan) = ap (λ c. one_if (c && has_byte x loan)) (eq-eqb loan.buffer p.buffer same) in
        let all = none x from inside in
        omega (
          arith,
          all,
          one,
          has-weight x loan begins ends,
          loans-at app.view.loans loan test out,
          total-at (app_places p.buffer (has_byte x) nic) apps k app here.there here.is,
        )

    -- what is read of a loan stands in its lines
    still-read : (k : ℕ) (app : AppSide) (making : Making) → IsApp apps k app → IsAtHand layout making → IsReadFromLoan layout words.area app making
        → lines_at layout now making.place ≡ lines_at layout words.area making.place
    still-read k app making here hand is =
        let q = making.place in
        let some = hand.some in
        let fits = hand.lies.bytes in
        let begins = is.from in
        let ends = is.within in
        lines_of-laid layout words.area (begin_line layout p) lines q (λ j from until.
        ⊎_elim
        (λ (before : j < begin_line layout p). inl before)
        (λ past.
        ⊎_elim
        (λ (inside : j < begin_line layout p + length lines).
        -- a byte of it in this line, and one of the place
        let x : ℕ = max q.offset (64 * (j - first_line layout q.buffer)) in
        let y : ℕ = p.offset + 64 * (j - begin_line layout p) in
        let there : x < q.offset + q.len = omega (arith, some, until, from) in
        let at : line_at layout q.buffer x ≡ j = omega (arith, from) in
        let at' : line_at layout p.buffer y ≡ j = omega (arith, past, aligned) in
        let both = lines_apart layout refs.layout q.buffer p.buffer x y hand.lies.buffer few (omega (arith, there, fits))
        (omega (arith, inside, past, whole, within)) (at ∙ sym at') in
        let line : x / 64 ≡ y / 64 = both.1 in
        absurd (no-loan k app is.loan here is.out (sym is.buffer ∙ both.0) x (omega (arith, line, aligned, past))
        (omega (arith, line, aligned, past, inside, whole)) (omega (arith, begins)) (omega (arith, ends, there))))
        (λ behind. inr behind)
        (cases_lt j (begin_line layout p + length lines)))
        (cases_lt j (begin_line layout p)))

    HasTexts-laid : (k : ℕ) (app : AppSide) → IsApp apps k app → HasTexts layout words.area nic app → HasTexts layout now nic app
    HasTexts-laid k app here has = record {
      making = IfSome_then app.inside.making has.making (λ making is. (is.0, of making is.0 is.1));
      unfilled = has.unfilled;
      reads = has.reads;
    }
      where
        of : (making : Making) → IsAtHand layout making → IsOfSpare app making ⊎ IsReadFromLoan layout words.area app making
            → IsOfSpare app making ⊎ IsReadFromLoan layout now app making
        of making hand (inl spare) = inl spare
        of making hand (inr is) = inr (record {
          loan = is.loan;
          out = is.out;
          buffer = is.buffer;
          from = is.from;
          within = is.within;
          stand = ap joined (still-read k app making here hand is) ∙ is.stand;
        })

    AreTexts-laid : AreTexts layout now nic apps
    AreTexts-laid = record {
      shown = AreShown-stored_at (byte_in_area layout words.area) (byte_in_area layout now) nic apps p
          (stores-lines layout words.area refs.layout p lines aligned whole within) none texts.shown;
      making = texts.making;
      others = λ k d small. HasTexts-laid k (get_or apps k d) (IsApp-at apps k d refs.sides.set.numbers small) (texts.others k d small);
    }

  -- ---- the card

  -- the piece in the making is the last of its buffer, and shares no byte with others
  pub placed : (own : Filling) (bytes : List ℕ) (lines : List (List ℕ)) → nic.inside.making ≡ making_in_hand (next_place own (length bytes)) []
      → HaveText lines bytes
      → AreTexts layout (laid words.area (begin_line layout (next_place own (length bytes))) lines) (side_text_done nic own bytes) apps
  placed own bytes lines busy have =
      let p = next_place own (length bytes) in
      let it : Making = record { place = p; bytes = [] } in
      let is : IsInMaking layout it = subst (λ m. IfSome m (IsInMaking layout)) busy texts.making in
      let aligned = is.aligned in
      let fits = is.hand.lies.bytes in
      let many = have.many in
      let area = laid words.area (begin_line layout p) lines in
      let stored : Place = record { buffer = own.buffer; offset = own.start; len = 64 * length lines } in
      let none : HasNoText nic apps stored = λ x from to.
      ⊎_elim
      (λ (inside : x < p.offset + p.len). HasNoText-making nic apps it busy (texts.shown.places own.buffer) x from inside)
      (λ (past : p.offset + p.len ≤ x). HasNoText-behind nic apps (record { buffer = own.buffer; offset = p.offset + p.len; len = 64 * length lines })
      (refs.sides.made.last it busy) x past (omega (arith, to)))
      (cases_lt x (p.offset + p.len)) in
      let was = AreTexts-laid stored lines aligned refl is.hand.lies.buffer
      (omega (arith, aligned, fits, many, size-lines layout own.buffer refs.layout)) none in
      let new = shown-lines layout words.area refs.layout refs.sizes.area p is.hand.lies aligned lines bytes refl have in
      record {
        shown = AreShown-text_done (byte_in_area layout area) nic apps own bytes it busy refl new was.shown;
        making = tt;
        others = All-weaker (HasTexts layout area nic) (HasTexts layout area (side_text_done nic own bytes)) (λ app has. assumption has) apps was.others;
      }

  -- ---- an application

  module _ (a : ℕ) (app : AppSide) (own : Filling) (len : ℕ) (here : IsApp apps a app) (out : HasSpare app.view own) (few : len ≤ 256) where
    mine : HasTexts layout words.area nic app
    mine = subst (HasTexts layout words.area nic) here.is (texts.others a app here.there)

    -- the text of a spare lies in the area
    lies : LiesIn layout (begin_place own.buffer len)
    lies =
        let by_one = refs.sides.by_one own.buffer in
        let spares = subst (λ (x : AppSide). All (λ (s : SpareOwn). s.own.buffer ≡ own.buffer → pool_count own.buffer nic apps ≡ 1) x.view.owns) here.is
        (by_one.alone a app here.there) in
        let held : pool_count own.buffer nic apps ≡ 1 =
        All-contains (λ (o : Filling). o.buffer ≡ own.buffer → pool_count own.buffer nic apps ≡ 1) (map (λ (s : SpareOwn). s.own) app.view.owns) own
        (All-map (λ (o : Filling). o.buffer ≡ own.buffer → pool_count own.buffer nic apps ≡ 1) (λ (s : SpareOwn). s.own) app.view.owns
        spares) out refl in
        let layouts : all_buffers nic.view.setting.layout ≡ all_buffers layout = ap (λ (s : Setting). all_buffers s.layout) refs.sides.set.card in
        record {
          buffer = ⊎_elim (λ within. omega (arith, within, layouts)) (λ past. absurd (omega (arith, by_one.inside past, held)))
              (cases_lt own.buffer (all_buffers nic.view.setting.layout));
          bytes = let least = ((words_apart layout refs.layout).size own.buffer).least in omega arith;
        }

  pub taken : (a : ℕ) (app : AppSide) (own : Filling) (len : ℕ) → IsApp apps a app → HasSpare app.view own → own.start ≡ 0 → 0 < len → len ≤ 256
      → SidesRule setting nic (set apps a (side_at_hand app (making_in_hand (begin_place own.buffer len) [])))
      → AreTexts layout words.area nic (set apps a (side_at_hand app (making_in_hand (begin_place own.buffer len) [])))
  taken a app own len here out begin some few sides =
      let now = side_at_hand app (making_in_hand (begin_place own.buffer len) []) in
      AreTexts-app setting words.area nic apps a app now here sides (AppIsShown-inside (byte_in_area layout words.area) nic app now.inside (λ b. omega arith))
      (λ has. record {
        making = (
          record { lies = lies a app own len here out few; some = some },
          inl (record { own = own; out = out; begin = begin; place = refl; unknown = refl }),
        );
        unfilled = has.unfilled;
        reads = has.reads;
      }) texts

  -- nothing else lies in a spare's buffer
  pub fills : (a : ℕ) (app : AppSide) (own : Filling) (bytes : List ℕ) (lines : List (List ℕ)) → IsApp apps a app → HasSpare app.view own
      → own.start ≡ 0 → 0 < length bytes → length bytes ≤ 256 → HaveText lines bytes → SidesRule setting nic (set apps a (side_spare_filled app own bytes))
      → AreTexts layout (laid words.area (begin_line layout (begin_place own.buffer (length bytes))) lines) nic (set apps a (side_spare_filled app own bytes))
  fills a app own bytes lines here out begin some few have sides =
      let p = begin_place own.buffer (length bytes) in
      let in_area = lies a app own (length bytes) here out few in
      let least = ((words_apart layout refs.layout).size own.buffer).least in
      let many = have.many in
      let none = HasNoText-unfilled nic apps a app own (64 * length lines) here out (refs.sides.by_one own.buffer) begin
      (mine a app own (length bytes) here out few).unfilled in
      let area = laid words.area (begin_line layout p) lines in
      let was = AreTexts-laid (begin_place own.buffer (64 * length lines)) lines refl refl in_area.buffer (omega (arith, many, few, least)) none in
      let new = shown-lines layout words.area refs.layout refs.sizes.area p in_area refl lines bytes refl have in
      let now = side_spare_filled app own bytes in
      let one : SpareOwn = record { own = filled_by own (length bytes); bytes = bytes } in
      AreTexts-app setting area nic apps a app now here sides
      (λ shown. AppIsShown-inside (byte_in_area layout area) nic (app_at app (filled app.view own bytes)) now.inside (λ b. omega arith)
      (AppIsShown-filled (byte_in_area layout area) nic app own bytes new shown))
      (λ has. record {
        making = tt;
        unfilled = All-push (λ (s : SpareOwn). s.own.start ≡ 0 → s.bytes ≡ []) (owns_without app.view own) one
            (All-without (λ (s : SpareOwn). s.own.start ≡ 0 → s.bytes ≡ []) (λ s. same_filling own s.own) app.view.owns has.unfilled)
            (λ e. absurd (omega (arith, e)));
        reads = has.reads;
      }) was
