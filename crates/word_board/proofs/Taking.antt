-- What a law says of a step that takes lines, or of one that gives them back, is what the table asks of it.
use Rattle.std.proofs.Common.{◌≡◌, ⊎_elim, ℕ, ◌+◌, ◌-◌, ◌<◌, ◌≤◌, ◌^◌, Bool, true, false, List, [], length, map, set, get_or, refl, ap, sym, ◌∙◌, subst, inl, inr, arith}
use Rattle.std.{proofs.lemmas.Bool.{cases_lt, lt-ltb, le-ltb, le-leb, lt-leb}, specs.Prelude.{◌⊎◌, ◌&&◌, nat_le, nat_lt, drop, All, None}}
use Rattle.std.proofs.lemmas.List.{set-get_or, get_or_default, get_or-set_same, get_or-set_other, get_or-take, get_or-drop, length-set, length-take, length-drop, ext_get_or}
use mathlib.Core.{Option.{Option, some}, Logic.{dite}}
use native.Mathlib.Decide.{ℕ_discrete}
use lib.ListN.{get_elem?}
use Rattle.zr_kinds.specs.declared.place.Place.{Place}
use Rattle.area_layout.{specs.Layout.{Shape, LiesIn}}
use Rattle.board_face.specs.{Sides.{IsApp}, declared.views.{parts.Setting.{Setting}, nic.NicSide.{NicSide}, app.AppSide.{AppSide}}}
use Rattle.ref_words.specs.{declared.view.View.{View}, Words.{Words, table_of, phase_at, with_lines}, Lines.{begin_line, line_count, has_line, has_out, lines_at, laid, AreWide}}
use Rattle.ref_words.specs.{Homes.{IsHome, AreHome, StandInSlots}, AreaSteps.{making_in_hand}, Seated.{Seated, card_seat_view, app_seat_view}, Rule.{BoardRule}}
use Rattle.ref_words.proofs.{Roles.{card-is, card-moves, app-is, app-moves}, LaidLines.{length-laid, laid-other, laid-at, lines-wide, lines-inside}}
use Rattle.atomic_table.specs.{Table.{Me, Allows, Valid, carried_after, homes_after}, Seated.{TableId}}
use Rattle.word_board.specs.{Board.{IsBoard, TheSeat, TheNic, TheApp}, Lines.{numbered, TookLines}, Steps.{MakesWords, MayTake, MayGive, word_in}}
use Rattle.word_board.proofs.Acts.{taking, taken, taking-long, taking-other, taking-valid, giving, given, giving-valid, giving-long, giving-other, giving-at, put_all, held-numbered}

-- ---- the lines of a place

module _ (layout : Shape) (p : Place) where
  line-inside : (k : ℕ) → begin_line layout p ≤ k → k < begin_line layout p + line_count p → has_line layout k p ≡ true
  line-inside k from less =
      ap (λ b. b && nat_lt k (begin_line layout p + line_count p)) (le-leb (begin_line layout p) k from)
      ∙ lt-ltb k (begin_line layout p + line_count p) less

  line-outside : (k : ℕ) → (k < begin_line layout p) ⊎ (begin_line layout p + line_count p ≤ k) → has_line layout k p ≡ false
  line-outside k away =
      ⊎_elim
      (λ (before : k < begin_line layout p). ap (λ b. b && nat_lt k (begin_line layout p + line_count p)) (lt-leb (begin_line layout p) k before))
      (λ (behind : begin_line layout p + line_count p ≤ k).
      ap (λ b. nat_le (begin_line layout p) k && b) (le-ltb k (begin_line layout p + line_count p) behind) ∙ none (nat_le (begin_line layout p) k))
      away
    where
      none : (b : Bool) → (b && false) ≡ false
      none true = refl
      none false = refl

  line-away : (k : ℕ) → has_line layout k p ≡ false → (k < begin_line layout p) ⊎ (begin_line layout p + line_count p ≤ k)
  line-away k none_here =
      ⊎_elim (λ (before : k < begin_line layout p). inl before)
      (λ (from : begin_line layout p ≤ k).
      ⊎_elim (λ (less : k < begin_line layout p + line_count p). absurd (let in_it = line-inside k from less in let none : ⊥ = cc in none))
      (λ (behind : begin_line layout p + line_count p ≤ k). inr behind)
      (cases_lt k (begin_line layout p + line_count p)))
      (cases_lt k (begin_line layout p))

  module _ (area : List (List ℕ)) (inside : begin_line layout p + line_count p ≤ length area) where
    many-lines : length (lines_at layout area p) ≡ line_count p
    many-lines = omega (arith, length-take (line_count p) (drop (begin_line layout p) area), length-drop (begin_line layout p) area)

    line-of : (j : ℕ) → j < line_count p → get_or (lines_at layout area p) j [] ≡ get_or area (begin_line layout p + j) []
    line-of j less = get_or-take (line_count p) (drop (begin_line layout p) area) j [] less ∙ get_or-drop (begin_line layout p) area j []

    -- to lay the lines that stand there changes nothing
    pub laid-back : laid area (begin_line layout p) (lines_at layout area p) ≡ area
    laid-back =
        let lines = lines_at layout area p in
        let first = begin_line layout p in
        ext_get_or [] (laid area first lines) area (length-laid area first lines) (λ k less.
        let bound : k < length area = omega (arith, less, length-laid area first lines) in
        ⊎_elim (λ (before : k < first). laid-other area first lines k (inl before))
        (λ (from : first ≤ k).
        ⊎_elim
        (λ (small : k < first + line_count p).
        let at : first + (k - first) ≡ k = omega (arith, from) in
        subst (λ i. get_or (laid area first lines) i [] ≡ get_or area i []) at
        (laid-at area first lines (k - first) (omega (arith, many-lines, inside)) (omega (arith, many-lines, small, from))
        ∙ line-of (k - first) (omega (arith, small, from))))
        (λ (behind : first + line_count p ≤ k). laid-other area first lines k (inr (omega (arith, behind, many-lines))))
        (cases_lt k (first + line_count p)))
        (cases_lt k first))

-- ---- slots

module _ (setting : Setting) (area : List (List ℕ)) (homes : List (Option (List ℕ))) (place : Place) (nic nic' : NicSide) (apps apps' : List AppSide)
    (stand : StandInSlots setting area nic apps homes) (inside : begin_line setting.layout place + line_count place ≤ length area) where
  -- The lines of a place are taken, and are not at home then.
  slots-taken : AreHome setting nic apps place
      → ((k : ℕ) → IsHome setting nic' apps' k → (has_line setting.layout k place ≡ false) × IsHome setting nic apps k)
      → Valid homes [] (taking (begin_line setting.layout place) (lines_at setting.layout area place))
      × StandInSlots setting area nic' apps' (homes_after homes [] (taking (begin_line setting.layout place) (lines_at setting.layout area place)))
  slots-taken home still =
      let first = begin_line setting.layout place in
      let lines = lines_at setting.layout area place in
      let long = many-lines setting.layout place area inside in (
        taking-valid first lines homes (λ j less.
            let small : j < line_count place = omega (arith, less, long) in
            stand.stand (first + j) (omega (arith, small, inside)) (home (first + j) (line-inside setting.layout place (first + j) (omega arith) (omega (arith, small))))
            ∙ ap (λ (l : List ℕ). some (some l)) (sym (line-of setting.layout place area inside j small))),
        record {
          many = taking-long first lines homes ∙ stand.many;
          stand = λ k less at_home.
              let was = still k at_home in
              taking-other first lines homes k
              (⊎_elim (λ before. inl before) (λ behind. inr (omega (arith, behind, long))) (line-away setting.layout place k was.0))
              ∙ stand.stand k less was.1;
        },
      )

  -- They are given back with these lines in them.
  slots-given : (lines : List (List ℕ)) → length lines ≡ line_count place
      → ((k : ℕ) → has_line setting.layout k place ≡ false → IsHome setting nic' apps' k → IsHome setting nic apps k)
      → StandInSlots setting (laid area (begin_line setting.layout place) lines) nic' apps' (put_all (begin_line setting.layout place) lines homes)
  slots-given lines long still =
      let first = begin_line setting.layout place in
      let there : length homes ≡ length area = stand.many in
      record {
        many = giving-long first lines homes ∙ (stand.many ∙ sym (length-laid area first lines));
        stand = λ k less at_home.
            let bound : k < length area = omega (arith, less, length-laid area first lines) in
            let other : (k < first) ⊎ (first + length lines ≤ k)
            → get_elem? (put_all first lines homes) k ≡ some (some (get_or (laid area first lines) k [])) =
            λ away.
            let none_here = line-outside setting.layout place k
            (⊎_elim (λ (before : k < first). inl before) (λ (behind : first + length lines ≤ k). inr (omega (arith, behind, long))) away) in
            giving-other first lines homes k away
            ∙ (stand.stand k bound (still k none_here at_home) ∙ ap (λ (l : List ℕ). some (some l)) (sym (laid-other area first lines k away))) in
            ⊎_elim (λ (before : k < first). other (inl before))
            (λ (from : first ≤ k).
            ⊎_elim
            (λ (small : k < first + length lines).
            let at : first + (k - first) ≡ k = omega (arith, from) in
            let fits : first + length lines ≤ length area = omega (arith, long, inside) in
            subst (λ i. get_elem? (put_all first lines homes) i ≡ some (some (get_or (laid area first lines) i []))) at
            (giving-at first lines homes (k - first) (omega (arith, fits, there)) (omega (arith, small, from))
            ∙ ap (λ (l : List ℕ). some (some l)) (sym (laid-at area first lines (k - first) fits (omega (arith, small, from))))))
            (λ (behind : first + length lines ≤ k). other (inr behind))
            (cases_lt k (first + length lines)))
            (cases_lt k first);
      }

-- ---- what a seat has then

-- it has these lines, in their order
took : (first many : ℕ) (view : List (List ℕ) → View) (told : List (List ℕ) → Type 0) (lines : List (List ℕ)) → length lines ≡ many
    → AreWide lines → told lines → TookLines first many view told (view lines, carried_after [] (taking first lines))
took first many view told lines long wide tells =
    let slots = taken first lines in
    let same : map (λ (slot : ℕ × List ℕ). slot.1) (carried_after [] (taking first lines)) ≡ lines =
    ap (map (λ (slot : ℕ × List ℕ). slot.1)) slots ∙ held-numbered first lines in
    record {
      has = record {
        slots = slots ∙ ap (numbered first) (sym same);
        many = ap length same ∙ long;
        wide = subst AreWide (sym same) wide;
      };
      view = ap view (sym same);
      told = subst told (sym same) tells;
    }

-- all other applications are as they were
others-before : (P : AppSide → Type 0) (apps : List AppSide) (a : ℕ) (old new : AppSide) → IsApp apps a old → All P (set apps a new) → P old → All P apps
others-before P apps a old new here all mine j d less =
    dite (ℕ_discrete j a)
    (λ e. subst P (sym (ap (λ i. get_or apps i d) e ∙ (get_or_default apps a d old here.there ∙ here.is))) mine)
    (λ ne. subst P (get_or-set_other apps a j new d ne) (all j d (omega (arith, less, length-set apps a new))))

-- and this one is as it is now
app-now : (P : AppSide → Type 0) (apps : List AppSide) (a : ℕ) (old new : AppSide) → IsApp apps a old → All P (set apps a new) → P new
app-now P apps a old new here all =
    subst P (get_or-set_same apps a new old here.there) (all a old (omega (arith, here.there, length-set apps a new)))

-- ---- steps of the card

-- The card may take the lines of a place where its law holds for all words and applications.
pub card-take : (card : TheNic) (i : ℕ) (f : ℕ → ℕ) (first many : ℕ) (place : Place) (next : List (List ℕ) → NicSide) (out : List (List ℕ) → List ℕ)
    (told : List (List ℕ) → Type 0) → first ≡ begin_line card.board.setting.layout place → LiesIn card.board.setting.layout place → 0 < place.len
    → card.side.inside.making ≡ None → ((lines : List (List ℕ)) → (next lines).inside.making ≡ making_in_hand place (out lines))
    → ((words : Words) (apps : List AppSide) → BoardRule card.board.setting words card.side apps → word_in words i < 2 ^ 64
    → MakesWords card.board.setting words i (f (word_in words i)) (next (lines_at card.board.setting.layout words.area place)) apps
    × (line_count place ≡ many) × AreHome card.board.setting card.side apps place × told (lines_at card.board.setting.layout words.area place))
    → MayTake card_seat_view card i f first many next told
card-take card i f first' many place next out told at_first lies full idle takes law =
    subst (λ x. MayTake card_seat_view card i f x many next told) (sym at_first) (record {
      allowed = λ slots id me sits.
          let setting = card.board.setting in
          let mine = card.side in
          let first = begin_line setting.layout place in
          subst (λ (x : Me (List ℕ) View). Allows (IsBoard setting) slots id x i f
          (λ n w. TookLines first many (λ lines. card_seat_view (next lines)) told w)) (sym sits)
          (λ s board deep at small.
          let is : mine ≡ board.nic = card-is setting board.words.roles s.views board.nic board.apps board.seated id mine at in
          let rule = subst (λ x. BoardRule setting board.words x board.apps) (sym is) board.rule in
          let law_now = law board.words board.apps rule (subst (λ ws. get_or ws i 0 < 2 ^ 64) board.laid small) in
          let made = law_now.0 in
          let area = board.words.area in
          let lines = lines_at setting.layout area place in
          let sizes = rule.refs.sizes in
          let inside = lines-inside setting.layout area rule.refs.layout sizes.area sizes.lines place lies full in
          let found : get_or (table_of board.words) i 0 ≡ get_or s.words i 0 = ap (λ ws. get_or ws i 0) (sym board.laid) in
          let homes = slots-taken setting area s.homes place mine (next lines) board.apps board.apps
          (subst (λ x. StandInSlots setting area x board.apps s.homes) (sym is) board.lines) inside law_now.2
          (λ k is_home. (
            ap (has_out setting.layout k) (sym (takes lines)) ∙ is_home.card,
            record { card = ap (has_out setting.layout k) idle; others = is_home.others },
          )) in (
            card_seat_view (next lines),
            taking first lines,
            homes.0,
            record {
              words = made.words';
              nic = next lines;
              apps = board.apps;
              laid = ap (λ ws. set ws i (f (get_or s.words i 0))) board.laid ∙ (ap (λ m. set (table_of board.words) i (f m)) (sym found) ∙ made.laid);
              lines = subst (λ rows. StandInSlots setting rows (next lines) board.apps (homes_after s.homes [] (taking first lines))) (sym made.area) homes.1;
              seated = subst (λ roles. Seated setting roles (set s.views id (card_seat_view (next lines))) (next lines) board.apps) (sym made.roles)
                  (card-moves setting board.words.roles s.views board.nic board.apps board.seated id mine (next lines) at);
              rule = made.rule;
            },
            took first many (λ ls. card_seat_view (next ls)) told lines (many-lines setting.layout place area inside ∙ law_now.1)
                (lines-wide setting.layout place area sizes.lines) law_now.3,
          ));
    })

-- It may give them back where its law holds for the area with these lines.
pub card-give : (card : TheNic) (first : ℕ) (place : Place) (bytes : List ℕ) (lines : List (List ℕ)) (next : NicSide)
    → first ≡ begin_line card.board.setting.layout place → LiesIn card.board.setting.layout place → 0 < place.len
    → card.side.inside.making ≡ making_in_hand place bytes → length lines ≡ line_count place
    → ((words : Words) (apps : List AppSide) → BoardRule card.board.setting words card.side apps
    → BoardRule card.board.setting (with_lines words (begin_line card.board.setting.layout place) lines) next apps)
    → MayGive card_seat_view card first lines next
card-give card first' place bytes lines next at_first lies full out long law = subst (λ x. MayGive card_seat_view card x lines next) (sym at_first) (record {
  allowed = λ slots id me sits.
      let setting = card.board.setting in
      let mine = card.side in
      let first = begin_line setting.layout place in
      let i : ℕ = phase_at setting 0 in
      subst (λ (x : Me (List ℕ) View). Allows (IsBoard setting) slots id x i (λ n. n) (λ n w. w ≡ (card_seat_view next, []))) (sym sits)
      (λ s board deep at small.
      let is : mine ≡ board.nic = card-is setting board.words.roles s.views board.nic board.apps board.seated id mine at in
      let rule = subst (λ x. BoardRule setting board.words x board.apps) (sym is) board.rule in
      let area = board.words.area in
      let sizes = rule.refs.sizes in
      let inside = lines-inside setting.layout area rule.refs.layout sizes.area sizes.lines place lies full in (
        card_seat_view next,
        giving (numbered first lines),
        giving-valid (numbered first lines) s.homes,
        record {
          words = with_lines board.words first lines;
          nic = next;
          apps = board.apps;
          laid = set-get_or s.words i 0 ∙ board.laid;
          lines = slots-given setting area s.homes place mine next board.apps board.apps
              (subst (λ x. StandInSlots setting area x board.apps s.homes) (sym is) board.lines) inside lines long
              (λ k none_here is_home. record { card = ap (has_out setting.layout k) out ∙ none_here; others = is_home.others });
          seated = card-moves setting board.words.roles s.views board.nic board.apps board.seated id mine next at;
          rule = law board.words board.apps rule;
        },
        ap (λ xs. (card_seat_view next, xs)) (given (numbered first lines)),
      ));
})

-- ---- steps of an application

-- So may an application, for all words, cards and other applications.
pub app-take : (app : TheApp) (i : ℕ) (f : ℕ → ℕ) (first many : ℕ) (place : Place) (next : List (List ℕ) → AppSide) (out : List (List ℕ) → List ℕ)
    (told : List (List ℕ) → Type 0) → first ≡ begin_line app.board.setting.layout place → line_count place ≡ many
    → LiesIn app.board.setting.layout place → 0 < place.len → app.side.inside.making ≡ None
    → ((lines : List (List ℕ)) → (next lines).inside.making ≡ making_in_hand place (out lines))
    → ((lines : List (List ℕ)) → (next lines).view.app ≡ app.side.view.app)
    → ((words : Words) (nic : NicSide) (apps : List AppSide) → BoardRule app.board.setting words nic apps → IsApp apps app.side.view.app app.side
    → word_in words i < 2 ^ 64
    → MakesWords app.board.setting words i (f (word_in words i)) nic
    (set apps app.side.view.app (next (lines_at app.board.setting.layout words.area place)))
    × AreHome app.board.setting nic apps place × told (lines_at app.board.setting.layout words.area place))
    → MayTake app_seat_view app i f first many next told
app-take app i f first' many place next out told at_first count lies full idle takes number law =
    subst (λ x. MayTake app_seat_view app i f x many next told) (sym at_first) (record {
      allowed = λ slots id me sits.
          let setting = app.board.setting in
          let mine = app.side in
          let a = mine.view.app in
          let first = begin_line setting.layout place in
          subst (λ (x : Me (List ℕ) View). Allows (IsBoard setting) slots id x i f
          (λ n w. TookLines first many (λ lines. app_seat_view (next lines)) told w)) (sym sits)
          (λ s board deep at small.
          let rule = board.rule in
          let apps = board.apps in
          let here = app-is setting board.words.roles s.views board.nic apps board.seated id mine at rule.refs.sides.set.many in
          let law_now = law board.words board.nic apps rule here (subst (λ ws. get_or ws i 0 < 2 ^ 64) board.laid small) in
          let made = law_now.0 in
          let area = board.words.area in
          let lines = lines_at setting.layout area place in
          let sizes = rule.refs.sizes in
          let inside = lines-inside setting.layout area rule.refs.layout sizes.area sizes.lines place lies full in
          let found : get_or (table_of board.words) i 0 ≡ get_or s.words i 0 = ap (λ ws. get_or ws i 0) (sym board.laid) in
          let homes = slots-taken setting area s.homes place board.nic board.nic apps (set apps a (next lines)) board.lines inside law_now.1
          (λ k is_home. (
            ap (has_out setting.layout k) (sym (takes lines))
                ∙ app-now (λ (x : AppSide). has_out setting.layout k x.inside.making ≡ false) apps a mine (next lines) here is_home.others,
            record {
              card = is_home.card;
              others = others-before (λ (x : AppSide). has_out setting.layout k x.inside.making ≡ false) apps a mine (next lines) here is_home.others
                  (ap (has_out setting.layout k) idle);
            },
          )) in (
            app_seat_view (next lines),
            taking first lines,
            homes.0,
            record {
              words = made.words';
              nic = board.nic;
              apps = set apps a (next lines);
              laid = ap (λ ws. set ws i (f (get_or s.words i 0))) board.laid ∙ (ap (λ m. set (table_of board.words) i (f m)) (sym found) ∙ made.laid);
              lines = subst (λ rows. StandInSlots setting rows board.nic (set apps a (next lines)) (homes_after s.homes [] (taking first lines))) (sym made.area)
                  homes.1;
              seated = subst (λ roles. Seated setting roles (set s.views id (app_seat_view (next lines))) board.nic (set apps a (next lines))) (sym made.roles)
                  (app-moves setting board.words.roles s.views board.nic apps board.seated id mine (next lines) at (number lines) rule.refs.sides.set.many);
              rule = made.rule;
            },
            took first many (λ ls. app_seat_view (next ls)) told lines (many-lines setting.layout place area inside ∙ count)
                (lines-wide setting.layout place area sizes.lines) law_now.2,
          ));
    })

pub app-give : (app : TheApp) (first : ℕ) (place : Place) (bytes : List ℕ) (lines : List (List ℕ)) (next : AppSide)
    → first ≡ begin_line app.board.setting.layout place → LiesIn app.board.setting.layout place → 0 < place.len
    → app.side.inside.making ≡ making_in_hand place bytes → length lines ≡ line_count place → next.view.app ≡ app.side.view.app
    → ((words : Words) (nic : NicSide) (apps : List AppSide) → BoardRule app.board.setting words nic apps → IsApp apps app.side.view.app app.side
    → BoardRule app.board.setting (with_lines words (begin_line app.board.setting.layout place) lines) nic (set apps app.side.view.app next))
    → MayGive app_seat_view app first lines next
app-give app first' place bytes lines next at_first lies full out long number law = subst (λ x. MayGive app_seat_view app x lines next) (sym at_first) (record {
  allowed = λ slots id me sits.
      let setting = app.board.setting in
      let mine = app.side in
      let a = mine.view.app in
      let first = begin_line setting.layout place in
      let i : ℕ = phase_at setting 0 in
      subst (λ (x : Me (List ℕ) View). Allows (IsBoard setting) slots id x i (λ n. n) (λ n w. w ≡ (app_seat_view next, []))) (sym sits)
      (λ s board deep at small.
      let rule = board.rule in
      let apps = board.apps in
      let here = app-is setting board.words.roles s.views board.nic apps board.seated id mine at rule.refs.sides.set.many in
      let area = board.words.area in
      let sizes = rule.refs.sizes in
      let inside = lines-inside setting.layout area rule.refs.layout sizes.area sizes.lines place lies full in (
        app_seat_view next,
        giving (numbered first lines),
        giving-valid (numbered first lines) s.homes,
        record {
          words = with_lines board.words first lines;
          nic = board.nic;
          apps = set apps a next;
          laid = set-get_or s.words i 0 ∙ board.laid;
          lines = slots-given setting area s.homes place board.nic board.nic apps (set apps a next) board.lines inside lines long
              (λ k none_here is_home. record {
                card = is_home.card;
                others = others-before (λ (x : AppSide). has_out setting.layout k x.inside.making ≡ false) apps a mine next here is_home.others
                    (ap (has_out setting.layout k) out ∙ none_here);
              });
          seated = app-moves setting board.words.roles s.views board.nic apps board.seated id mine next at number rule.refs.sides.set.many;
          rule = law board.words board.nic apps rule here;
        },
        ap (λ xs. (app_seat_view next, xs)) (given (numbered first lines)),
      ));
})

-- Lines that are given back as they stand leave the area as it is.
pub kept-lines : (setting : Setting) (words : Words) (place : Place) (lines : List (List ℕ)) (nic : NicSide) (apps apps' : List AppSide)
    → LiesIn setting.layout place → 0 < place.len → BoardRule setting words nic apps → lines_at setting.layout words.area place ≡ lines
    → BoardRule setting words nic apps' → BoardRule setting (with_lines words (begin_line setting.layout place) lines) nic apps'
kept-lines setting words place lines nic apps apps' lies full rule same after =
    let sizes = rule.refs.sizes in
    let inside = lines-inside setting.layout words.area rule.refs.layout sizes.area sizes.lines place lies full in
    subst (λ (area : List (List ℕ)). BoardRule setting (record words { area = area }) nic apps')
    (sym (ap (laid words.area (begin_line setting.layout place)) (sym same) ∙ laid-back setting.layout place words.area inside)) after

-- ---- a seat's steps

-- a word of its map is that of its board
pub at-phase : {Side : Type 0} (seat : TheSeat Side) (map : Setting) (table : TableId) (side : Side)
    → record { board = record { table = table; setting = map }; side = side } ≡ seat → (i : ℕ) → i ≡ phase_at map 0 → i ≡ phase_at seat.board.setting 0
at-phase {Side} seat map table side is i at = at ∙ ap (λ (v : TheSeat Side). phase_at v.board.setting 0) is

-- What a seat may do is what the table asks, where the seat is of that table and has its side.
module _ {Side : Type 0} {view_of : Side → View} (seat : TheSeat Side) (key map : Setting) (table : TableId) (keyed : map ≡ key) (id : ℕ) (side : Side)
    (is : record { board = record { table = table; setting = map }; side = side } ≡ seat) where
  pub asked-take : {i : ℕ} {f : ℕ → ℕ} {first many : ℕ} {next : List (List ℕ) → Side} {told : List (List ℕ) → Type 0}
      → MayTake view_of seat i f first many next told → (j : ℕ) → j ≡ i → (x : ℕ) → x ≡ first → (me : Me (List ℕ) View)
      → me ≡ (view_of side, []) → Allows (IsBoard key) table.slots id me j f (λ n w. TookLines x many (λ lines. view_of (next lines)) told w)
  asked-take {i} {f} {first} {many} {next} {told} may j word x at me sits =
      let same = sym keyed ∙ ap (λ (v : TheSeat Side). v.board.setting) is in
      subst (λ s. Allows (IsBoard s) table.slots id me j f (λ n w. TookLines x many (λ lines. view_of (next lines)) told w)) (sym same)
      (subst (λ y. Allows (IsBoard seat.board.setting) table.slots id me j f (λ n w. TookLines y many (λ lines. view_of (next lines)) told w)) (sym at)
      (subst (λ y. Allows (IsBoard seat.board.setting) table.slots id me y f (λ n w. TookLines first many (λ lines. view_of (next lines)) told w)) (sym word)
      (may.allowed table.slots id me (sits ∙ ap (λ (v : TheSeat Side). (view_of v.side, [])) is))))

  pub asked-give : {first : ℕ} {lines : List (List ℕ)} {now next : Side} → MayGive view_of (record seat { side = now }) first lines next
      → (i : ℕ) → i ≡ phase_at map 0 → (me : Me (List ℕ) View) → me.0 ≡ view_of now → me.1 ≡ numbered first lines
      → Allows (IsBoard key) table.slots id me i (λ n. n) (λ n w. w ≡ (view_of next, []))
  asked-give {first} {lines} {now} {next} may i at me shows has =
      let same = sym (ap (λ (v : TheSeat Side). v.board.setting) is) in
      subst (λ s. Allows (IsBoard s) table.slots id me i (λ n. n) (λ n w. w ≡ (view_of next, []))) (same ∙ keyed)
      (subst (λ y. Allows (IsBoard seat.board.setting) table.slots id me y (λ n. n) (λ n w. w ≡ (view_of next, [])))
      (ap (λ s. phase_at s 0) same ∙ sym at) (may.allowed table.slots id me (λ k. (shows k, has k))))
