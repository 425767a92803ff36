-- Lines that a role takes are at home: nobody else has one of them out.
use Rattle.std.specs.Prelude.{◌≢◌, ◌==◌, Option, Some, None, IfSome}
use Rattle.std.proofs.Common.{◌≡◌, ⊎_elim, ℕ, ◌+◌, ◌-◌, ◌*◌, ◌<◌, ◌≤◌, Bool, true, false, List, get_or, set, refl, ap, sym, ◌∙◌, subst, arith}
use Rattle.std.proofs.lemmas.{Bool.{and_from, and_parts, cases_Bool, cases_lt, eq-eqb, leb-true, lt-ltb, ltb-true}, List.Elements.{All-contains}, Option.{none-some}}
use Rattle.zr_kinds.specs.declared.place.Place.{Place}
use Rattle.area_layout.specs.Layout.{Shape, IsLayout, LiesIn, all_buffers, pool_buffers}
use Rattle.board_face.specs.{AppCalls.{HasLoan, HasSpare}, AppEvents.{begin_place}, Holders.{making_places}, NicCalls.{HasOwn}}
use Rattle.board_face.specs.{Places.{places_of, ends_behind}, Sides.{IsApp}, Tokens.{next_place}, declared.views.{nic.NicSide.{NicSide}, app.AppSide.{AppSide}}}
use Rattle.board_face.specs.declared.views.parts.{Filling.{Filling}, Making.{Making}, Setting.{Setting}}
use Rattle.board_face.proofs.{AppLemmas.{owns-without as spares-without}, NicLemmas.{owns-without}, Parts.{spares_in}, SideLemmas.{IsApp-at}}
use Rattle.board_face.proofs.{ArePlacedLemmas.{IsBehind, less_spare, places-none, spare-free}, FillingsFitLemmas.{FillingsFit-own, FillingsFit-spare, few-within}}
use Rattle.board_face.proofs.{IsFilledByOneLemmas.{fillings-held, fillings-one}, LiesLemmas.{loan-lies, loans-at, total-at}, Tallies.{count-tally, tally, one_if}}
use Rattle.board_face.proofs.PlaceTallies.{app_places, in_buffer, piece_places, places-parts}
use Rattle.ref_words.specs.{AreaSteps.{part_of}, Homes.{AreHome}, Lines.{first_line, has_line, has_out, line_count, begin_line, touches}, Rule.{RefRule}}
use Rattle.ref_words.specs.{TextRule.{AreTexts, IsInMaking, IsReadFromLoan, IsOfSpare}, Words.{Words}}
use Rattle.ref_words.proofs.{AreaLines.{lines_apart}, LineLemmas.{app_places-all, app_places-two, line-own, other-app, same-app, total-two}}

-- ---- two places with a line in common

-- the line x of its buffer has bytes of the place
record IsIn (x : ℕ) (p : Place) : Type 0 where
  begins : p.offset < 64 * x + 64
  ends : 64 * x < p.offset + p.len

record Meet (p q : Place) : Type 0 where
  buffer : p.buffer ≡ q.buffer
  x : ℕ
  one : IsIn x p
  other : IsIn x q

is-touched : (x : ℕ) (p : Place) → IsIn x p → touches x p ≡ true
is-touched x p is = and_from _ _ (lt-ltb p.offset (64 * x + 64) is.begins) (lt-ltb (64 * x) (p.offset + p.len) is.ends)

-- a line that is one of the place's, by its number in the buffer
record HasLine (layout : Shape) (k : ℕ) (p : Place) : Type 0 where
  x : ℕ
  at : k ≡ first_line layout p.buffer + x
  is : IsIn x p

has-line : (layout : Shape) (k : ℕ) (p : Place) → has_line layout k p ≡ true → HasLine layout k p
has-line layout k p is =
    let parts = and_parts _ _ is in
    let from = leb-true (begin_line layout p) k parts.0 in
    let until = ltb-true k (begin_line layout p + line_count p) parts.1 in
    record { x = k - first_line layout p.buffer; at = omega arith; is = record { begins = omega arith; ends = omega arith } }

meet : (layout : Shape) → IsLayout layout → (k : ℕ) (p q : Place) → LiesIn layout p → LiesIn layout q → has_line layout k p ≡ true
    → has_line layout k q ≡ true → Meet p q
meet layout l k p q p_lies q_lies p_has q_has =
    let h = has-line layout k p p_has in
    let g = has-line layout k q q_has in
    let same = lines_apart layout l p.buffer q.buffer (64 * h.x) (64 * g.x) p_lies.buffer q_lies.buffer
    (omega (arith, p_lies.bytes, h.is.ends)) (omega (arith, q_lies.bytes, g.is.ends)) (omega (arith, h.at, g.at)) in
    let e : g.x ≡ h.x = omega (arith, same.1) in
    record { buffer = same.0; x = h.x; one = h.is; other = subst (λ x. IsIn x q) e g.is }

-- ---- at home

-- what a role has out shares no line with the place
abbrev IsApart : Shape → Place → Making → Type 0
IsApart layout p making = LiesIn layout making.place × (Meet p making.place → ⊥)

none-out : (layout : Shape) → IsLayout layout → (k : ℕ) (p : Place) → LiesIn layout p → has_line layout k p ≡ true → (out : Option Making)
    → IfSome out (IsApart layout p) → has_out layout k out ≡ false
none-out layout l k p lies has None apart = refl
none-out layout l k p lies has (Some making) apart =
    ⊎_elim (λ yes. absurd (apart.1 (meet layout l k p making.place lies apart.0 has yes))) (λ no. no) (cases_Bool (has_line layout k making.place))

then-some : {A : Type 0} (P Q : A → Type 0) (o : Option A) → IfSome o P → ((x : A) → o ≡ Some x → P x → Q x) → IfSome o Q
then-some P Q None is so = tt
then-some P Q (Some x) is so = so x refl is

module _ (setting : Setting) (words : Words) (nic : NicSide) (apps : List AppSide) (rule : RefRule setting words nic apps)
    (texts : AreTexts setting.layout words.area nic apps) where
  abbrev layout : Shape
  layout = setting.layout

  -- of the applications it is enough to look at what their spares and loans are
  home-from : (p : Place) → LiesIn layout p
      → ((making : Making) → nic.inside.making ≡ Some making → Meet p making.place → ⊥)
      → ((a : ℕ) (app : AppSide) → IsApp apps a app → (making : Making) → app.inside.making ≡ Some making
      → ((own : Filling) → HasSpare app.view own → p.buffer ≡ own.buffer → ⊥)
      × ((loan : Place) → HasLoan app.view loan → Meet p loan → ⊥))
      → AreHome setting nic apps p
  home-from p lies card others k has = record {
    card = none-out layout rule.layout k p lies has nic.inside.making
        (then-some (IsInMaking layout) (IsApart layout p) nic.inside.making texts.making (λ making busy is. (is.hand.lies, card making busy)));
    others = λ a d there.
        let app = get_or apps a d in
        let here : IsApp apps a app = IsApp-at apps a d rule.sides.set.numbers there in
        none-out layout rule.layout k p lies has app.inside.making
        (then-some _ (IsApart layout p) app.inside.making (texts.others a d there).making
        (λ making busy is. (
          is.0.lies,
          λ m.
              ⊎_elim
              (λ (s : IsOfSpare app making). (others a app here making busy).0 s.own s.out (m.buffer ∙ ap (λ (q : Place). q.buffer) s.place))
              (λ (o : IsReadFromLoan layout words.area app making). (others a app here making busy).1 o.loan o.out (record {
                buffer = m.buffer ∙ o.buffer;
                x = m.x;
                one = m.one;
                other = record { begins = omega (arith, m.other.begins, o.from); ends = omega (arith, m.other.ends, o.within) };
              }))
              is.1,
        )));
  }

  -- ---- in the same buffer

  card : nic.view.setting ≡ setting
  card = rule.sides.set.card

  -- an application that has nothing out isn't one that has
  another : (a c : ℕ) (app other : AppSide) (making : Making) → IsApp apps a app → IsApp apps c other → app.inside.making ≡ None
      → other.inside.making ≡ Some making → c ≢ a
  another a c app other making here there idle busy e =
      let same : other.inside.making ≡ app.inside.making = ap (λ (y : AppSide). y.inside.making) (same-app apps c a other app e there here) in
      none-some making (sym idle ∙ (sym same ∙ busy))

  in-test : (b : ℕ) (test : Place → Bool) (p : Place) → p.buffer ≡ b → test p ≡ true → one_if (in_buffer b test p) ≡ 1
  in-test b test p e is = ap one_if (and_from (p.buffer == b) (test p) (eq-eqb p.buffer b e) is)

  -- a loan is one of its buffer's places, and so is the piece in the making
  loan-place : (b : ℕ) (test : Place → Bool) (app : AppSide) (loan : Place) → HasLoan app.view loan → loan.buffer ≡ b → test loan ≡ true
      → 0 < app_places b test nic app
  loan-place b test app loan out e is = omega (arith, loans-at app.view.loans loan (in_buffer b test) out, in-test b test loan e is)

  made-place : (b : ℕ) (test : Place → Bool) (making : Making) → nic.inside.making ≡ Some making → making.place.buffer ≡ b → test making.place ≡ true
      → 0 < piece_places b test nic
  made-place b test making busy e is =
      let one : tally (in_buffer b test) (making_places nic.inside.making) ≡ one_if (in_buffer b test making.place) + 0 = rw busy refl in
      omega (arith, one, in-test b test making.place e is)

  spare-in : (b : ℕ) (app : AppSide) (own : Filling) → HasSpare app.view own → own.buffer ≡ b → 0 < spares_in b app
  spare-in b app own out e = omega (arith, spares-without b app.view own out, ap one_if (eq-eqb own.buffer b e))

  -- a buffer is filled by one
  one-fills : (b a c : ℕ) (app other : AppSide) (own its : Filling) → c ≢ a → IsApp apps a app → IsApp apps c other → HasSpare app.view own
      → HasSpare other.view its → own.buffer ≡ b → its.buffer ≡ b → ⊥
  one-fills b a c app other own its ne here there out its_out e its_e = absurd (omega (
    arith,
    fillings-one b nic apps (rule.sides.by_one b),
    total-two (spares_in b) apps c a other app ne there.there there.is here.there here.is,
    spare-in b app own out e,
    spare-in b other its its_out its_e,
  ))

  -- a spare's buffer has no place of others
  none-other : (a : ℕ) (app : AppSide) (own : Filling) → IsApp apps a app → HasSpare app.view own → (test : Place → Bool)
      → tally test (places_of own.buffer nic (set apps a (less_spare app own))) ≡ 0
  none-other a app own here out test =
      let b = own.buffer in
      let others = set apps a (less_spare app own) in
      omega (
        arith,
        count-tally test (places_of b nic others),
        places-none b test nic others (spare-free b nic apps a app own here out (rule.sides.by_one b) refl),
      )

  no-loan : (a c : ℕ) (app other : AppSide) (own : Filling) (loan : Place) → c ≢ a → IsApp apps a app → IsApp apps c other → HasSpare app.view own
      → HasLoan other.view loan → loan.buffer ≡ own.buffer → ⊥
  no-loan a c app other own loan ne here there out lent e =
      let all : Place → Bool = λ q. true in
      absurd (omega (
        arith,
        none-other a app own here out all,
        loan-place own.buffer all other loan lent e refl,
        app_places-all own.buffer all nic (set apps a (less_spare app own)) c other (other-app apps a c (less_spare app own) other ne there),
      ))

  -- ---- the lines of a piece that is begun

  pub home-begun : (own : Filling) (n : ℕ) → HasOwn nic.view own → 0 < n → own.start + n ≤ own.size → nic.inside.making ≡ None
      → AreHome setting nic apps (next_place own n)
  home-begun own n out some within idle =
      let b = own.buffer in
      let p = next_place own n in
      let fits = FillingsFit-own nic apps own out rule.sides.fit in
      let in_pool = All-contains (λ (o : Filling). o.buffer < pool_buffers nic.view.setting.layout) nic.view.owns own rule.sides.fit.of_pool out in
      let lies : LiesIn nic.view.setting.layout p = record { buffer = omega (arith, in_pool); bytes = omega (arith, within, fits.1) } in
      home-from p (subst (λ (s : Setting). LiesIn s.layout p) card lies)
      (λ making busy m. none-some making (sym idle ∙ busy))
      (λ a app here making busy. (
        λ its its_out e. absurd (omega (
          arith,
          fillings-one b nic apps (rule.sides.by_one b),
          owns-without b nic own out,
          ap one_if (eq-eqb b b refl),
          total-at (spares_in b) apps a app here.there here.is,
          spare-in b app its its_out (sym e),
        )),
        λ loan lent m.
            let behind = All-contains (IsBehind b nic apps) nic.view.owns own (rule.sides.placed b).behind out refl in
            let ends : ends_behind own.start loan ≡ true =
            lt-ltb own.start (loan.offset + loan.len) (omega (arith, fits.0.aligned, m.one.begins, m.other.ends)) in
            absurd (omega (
              arith,
              behind,
              count-tally (ends_behind own.start) (places_of b nic apps),
              app_places-all b (ends_behind own.start) nic apps a app here,
              loan-place b (ends_behind own.start) app loan lent (sym m.buffer) ends,
            )),
      ))

  -- ---- those of a spare

  pub home-spare : (a : ℕ) (app : AppSide) → IsApp apps a app → (own : Filling) (len : ℕ) → HasSpare app.view own → own.start ≡ 0 → 0 < len → len ≤ 256
      → app.inside.making ≡ None → AreHome setting nic apps (begin_place own.buffer len)
  home-spare a app here own len out begin some few idle =
      let b = own.buffer in
      let p = begin_place b len in
      let all : Place → Bool = λ q. true in
      let less = set apps a (less_spare app own) in
      let fits = FillingsFit-spare nic apps a app own here out rule.sides.fit in
      let within = few-within nic own len (subst (λ (s : Setting). IsLayout s.layout) (sym card) rule.layout) fits begin few in
      let there : b < all_buffers nic.view.setting.layout =
      ⊎_elim (λ small. small)
      (λ past. absurd (omega (
        arith,
        (rule.sides.by_one b).inside past,
        fillings-held b nic apps,
        total-at (spares_in b) apps a app here.there here.is,
        spare-in b app own out refl,
      )))
      (cases_lt b (all_buffers nic.view.setting.layout)) in
      let lies : LiesIn nic.view.setting.layout p = record { buffer = there; bytes = omega (arith, within, begin, fits.1) } in
      home-from p (subst (λ (s : Setting). LiesIn s.layout p) card lies)
      (λ making busy m. absurd (omega (
        arith,
        none-other a app own here out all,
        places-parts b all nic less,
        made-place b all making busy (sym m.buffer) refl,
      )))
      (λ c other theirs making busy.
      let ne = another a c app other making here theirs idle busy in (
        λ its its_out e. one-fills b a c app other own its ne here theirs out its_out refl (sym e),
        λ loan lent m. no-loan a c app other own loan ne here theirs out lent (sym m.buffer),
      ))

  -- ---- those of a loan that is read

  pub home-read : (a : ℕ) (app : AppSide) → IsApp apps a app → (place : Place) (from n : ℕ) → HasLoan app.view place → 0 < n → from + n ≤ place.len
      → app.inside.making ≡ None → AreHome setting nic apps (part_of place from n)
  home-read a app here place from n out some within idle =
      let b = place.buffer in
      let p = part_of place from n in
      let whole = (loan-lies nic apps a app here place (rule.sides.placed b) (rule.sides.by_one b).inside out).0 in
      let lies : LiesIn nic.view.setting.layout p = record { buffer = whole.buffer; bytes = omega (arith, whole.bytes, within) } in
      -- a line that this part has is all the application's
      let own : (x : ℕ) → IsIn x p → (0 < app_places b (touches x) nic app) × (tally (touches x) (places_of b nic apps) ≤ app_places b (touches x) nic app) =
      λ x is.
      let has = loan-place b (touches x) app place out refl
      (is-touched x place (record { begins = omega (arith, is.begins); ends = omega (arith, is.ends, within) })) in
      (has, line-own b x nic apps a app (rule.sides.lines b x) here has) in
      home-from p (subst (λ (s : Setting). LiesIn s.layout p) card lies)
      (λ making busy m. absurd (omega (
        arith,
        (own m.x m.one).1,
        places-parts b (touches m.x) nic apps,
        total-at (app_places b (touches m.x) nic) apps a app here.there here.is,
        made-place b (touches m.x) making busy (sym m.buffer) (is-touched m.x making.place m.other),
      )))
      (λ c other theirs making busy.
      let ne = another a c app other making here theirs idle busy in (
        λ its its_out e. no-loan c a other app its place (λ same. ne (sym same)) theirs here its_out out e,
        λ loan lent m. absurd (omega (
          arith,
          (own m.x m.one).1,
          app_places-two b (touches m.x) nic apps c a other app ne theirs here,
          loan-place b (touches m.x) other loan lent (sym m.buffer) (is-touched m.x loan m.other),
        )),
      ))
