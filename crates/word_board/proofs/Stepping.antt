-- What a law says of words and sides is what the table asks of a step.
use Rattle.std.proofs.{Common.{◌≡◌, ℕ, ◌+◌, ◌-◌, ◌%◌, ◌^◌, ◌<◌, ◌≤◌, List, [], set, get_or, refl, ap, sym, ◌∙◌, arith, subst}, lemmas.List.{set-get_or}}
use Rattle.atomic_table.specs.{Table.{Me, keeps, Allows}, Seated.{TableId}}
use Rattle.area_layout.specs.Layout.{all_buffers}
use Rattle.board_face.specs.{NicCalls.{apps_of}, Sides.{IsApp}, declared.views.{parts.Setting.{Setting}, nic.NicSide.{NicSide}, app.AppSide.{AppSide}}}
use Rattle.ref_words.specs.{declared.view.View.{View}, Words.{Words, table_of, table_words, pool_at, pool_word_of, with_pool, user_word_at, user_word_of, with_user}}
use Rattle.ref_words.specs.{Words.{note_at, with_note, refill_at, slot_word, with_refill}, Seated.{Seated, card_seat_view, app_seat_view}}
use Rattle.ref_words.{specs.{Homes.{StandInSlots}, Rule.{BoardRule}}, proofs.Roles.{card-is, card-moves, app-is, app-moves}}
use Rattle.ref_words.proofs.Laying.{pool-word, pool-set, user-word, user-set, note-word, note-set, refill-word, refill-set}
use Rattle.word_rings.specs.Slots.{note_width, refill_width}
use Rattle.word_board.{specs.{Board.{IsBoard, TheSeat, TheNic, TheApp}, Steps.{MakesWords, MayApp, MayStep, word_in}}, proofs.Standing.{stand-card, stand-app}}

module _ (setting : Setting) (slots id i : ℕ) (f : ℕ → ℕ) (told : ℕ → Type 0) where
  -- A step of the card's seat is allowed where its law holds for all words and applications.
  pub card-step : (mine : NicSide) (next : ℕ → NicSide) → ((n : ℕ) → (next n).inside.making ≡ mine.inside.making)
      → ((words : Words) (apps : List AppSide) → BoardRule setting words mine apps → get_or (table_of words) i 0 < 2 ^ 64
      → MakesWords setting words i (f (get_or (table_of words) i 0)) (next (get_or (table_of words) i 0)) apps × told (get_or (table_of words) i 0))
      → (me : Me (List ℕ) View) → me ≡ (card_seat_view mine, [])
      → Allows (IsBoard setting) slots id me i f (λ n w. (w ≡ (card_seat_view (next n), me.1)) × told n)
  card-step mine next making law me sits =
      subst (λ (x : Me (List ℕ) View). Allows (IsBoard setting) slots id x i f (λ n w. (w ≡ (card_seat_view (next n), x.1)) × told n)) (sym sits)
      (λ s board deep at small.
      let is : mine ≡ board.nic = card-is setting board.words.roles s.views board.nic board.apps board.seated id mine at in
      let both = law board.words board.apps (subst (λ x. BoardRule setting board.words x board.apps) (sym is) board.rule) (subst
      (λ ws. get_or ws i 0 < 2 ^ 64) board.laid small) in
      let made = both.0 in
      let n : ℕ = get_or s.words i 0 in
      let found : get_or (table_of board.words) i 0 ≡ n = ap (λ ws. get_or ws i 0) (sym board.laid) in (
        card_seat_view (next n),
        keeps,
        tt,
        record {
          words = made.words';
          nic = next n;
          apps = board.apps;
          laid = ap (λ ws. set ws i (f (get_or s.words i 0))) board.laid ∙ (ap (λ m. set (table_of board.words) i (f m)) (sym found) ∙ made.laid);
          lines = stand-card setting made.words'.area board.nic (next n) board.apps s.homes (making n ∙ ap (λ x. x.inside.making) is)
              (subst (λ area. StandInSlots setting area board.nic board.apps s.homes) (sym made.area) board.lines);
          seated = subst (λ roles. Seated setting roles (set s.views id (card_seat_view (next n))) (next n) board.apps) (sym made.roles)
              (card-moves setting board.words.roles s.views board.nic board.apps board.seated id mine (next n) at);
          rule = subst (λ m. BoardRule setting made.words' (next m) board.apps) found made.rule;
        },
        (refl, subst told found both.1),
      ))

  -- A step of an application's seat is allowed where its law holds for all words, cards and other applications.
  pub app-step : (mine : AppSide) (next : ℕ → AppSide) → ((n : ℕ) → (next n).view.app ≡ mine.view.app)
      → ((n : ℕ) → (next n).inside.making ≡ mine.inside.making)
      → ((words : Words) (nic : NicSide) (apps : List AppSide) → BoardRule setting words nic apps → IsApp apps mine.view.app mine
      → get_or (table_of words) i 0 < 2 ^ 64
      → MakesWords setting words i (f (get_or (table_of words) i 0)) nic (set apps mine.view.app (next (get_or (table_of words) i 0))) × told (get_or
      (table_of words) i 0))
      → (me : Me (List ℕ) View) → me ≡ (app_seat_view mine, [])
      → Allows (IsBoard setting) slots id me i f (λ n w. (w ≡ (app_seat_view (next n), me.1)) × told n)
  app-step mine next number making law me sits =
      subst (λ (x : Me (List ℕ) View). Allows (IsBoard setting) slots id x i f (λ n w. (w ≡ (app_seat_view (next n), x.1)) × told n)) (sym sits)
      (λ s board deep at small.
      let here = app-is setting board.words.roles s.views board.nic board.apps board.seated id mine at board.rule.refs.sides.set.many in
      let both = law board.words board.nic board.apps board.rule here (subst (λ ws. get_or ws i 0 < 2 ^ 64) board.laid small) in
      let made = both.0 in
      let n : ℕ = get_or s.words i 0 in
      let found : get_or (table_of board.words) i 0 ≡ n = ap (λ ws. get_or ws i 0) (sym board.laid) in (
        app_seat_view (next n),
        keeps,
        tt,
        record {
          words = made.words';
          nic = board.nic;
          apps = set board.apps mine.view.app (next n);
          laid = ap (λ ws. set ws i (f (get_or s.words i 0))) board.laid ∙ (ap (λ m. set (table_of board.words) i (f m)) (sym found) ∙ made.laid);
          lines = stand-app setting made.words'.area board.nic board.apps s.homes mine.view.app mine (next n) here (making n)
              (subst (λ area. StandInSlots setting area board.nic board.apps s.homes) (sym made.area) board.lines);
          seated = subst (λ roles. Seated setting roles (set s.views id (app_seat_view (next n))) board.nic (set board.apps mine.view.app (next n)))
              (sym made.roles)
              (app-moves setting board.words.roles s.views board.nic board.apps board.seated id mine (next n) at (number n) board.rule.refs.sides.set.many);
          rule = subst (λ m. BoardRule setting made.words' board.nic (set board.apps mine.view.app (next m))) found made.rule;
        },
        (refl, subst told found both.1),
      ))

-- So the card may step where its law holds, and an application.
pub card-may : {card : TheNic} {i : ℕ} {f : ℕ → ℕ} {next : ℕ → NicSide} {told : ℕ → Type 0}
    → ((n : ℕ) → (next n).inside.making ≡ card.side.inside.making)
    → ((words : Words) (apps : List AppSide) → BoardRule card.board.setting words card.side apps → word_in words i < 2 ^ 64
    → MakesWords card.board.setting words i (f (word_in words i)) (next (word_in words i)) apps × told (word_in words i))
    → MayStep card_seat_view (λ _ _. Unit {0}) card i f next told
card-may {card} {i} {f} {next} {told} making law = record {
  stays = λ n. tt;
  allowed = λ slots id. card-step card.board.setting slots id i f told card.side next making law;
}

pub app-may : {app : TheApp} {i : ℕ} {f : ℕ → ℕ} {next : ℕ → AppSide} {told : ℕ → Type 0} → MayApp app i f next told
    → MayStep app_seat_view (λ old new. new.view.app ≡ old.view.app) app i f next told
app-may {app} {i} {f} {next} {told} may = record {
  stays = may.number;
  allowed = λ slots id. app-step app.board.setting slots id i f told app.side next may.number may.making may.step;
}

-- What a seat may do is what the table asks, where the seat is of that table and has its side.
module _ {Side : Type 0} {view_of : Side → View} {Stays : Side → Side → Type 0} {seat : TheSeat Side} {i : ℕ} {f : ℕ → ℕ} {next : ℕ → Side}
    {told : ℕ → Type 0} (may : MayStep view_of Stays seat i f next told) where
  pub asked : (key map : Setting) (table mine : TableId) (id : ℕ) (side : Side) → mine ≡ table → map ≡ key → table_words key ≤ table.words
      → (me : Me (List ℕ) View) → me ≡ (view_of side, []) → record { board = record { table = table; setting = map }; side = side } ≡ seat
      → i < table_words seat.board.setting
      → (mine ≡ table) × (i < table.words) × Allows (IsBoard key) table.slots id me i f (λ n w. (w ≡ (view_of (next n), me.1)) × told n)
  asked key map table mine id side same keyed wide me sits is word =
      let set = sym keyed ∙ ap (λ (v : TheSeat Side). v.board.setting) is in (
        same,
        (let within : table_words seat.board.setting ≤ table.words = subst (λ (s : Setting). table_words s ≤ table.words) set wide in
            omega (arith, word, within)),
        subst (λ s. Allows (IsBoard s) table.slots id me i f (λ n w. (w ≡ (view_of (next n), me.1)) × told n)) (sym set)
            (may.allowed table.slots id me (sits ∙ ap (λ (v : TheSeat Side). (view_of v.side, [])) is)),
      )

  -- and behind it the seat has the side after it, and knows of that what it knew
  pub stepped : (side_of : View → Side) → ((x : Side) → side_of (view_of x) ≡ x) → (Knows : Side → Type 0)
      → ((old new : Side) → Stays old new → Knows old → Knows new) → (n : ℕ) (map : Setting) (table mine mine' : TableId) (me me' : Me (List ℕ) View)
      → mine ≡ table → me ≡ (view_of (side_of me.0), []) → Knows (side_of me.0)
      → record { board = record { table = table; setting = map }; side = side_of me.0 } ≡ seat → mine' ≡ mine → me' ≡ (view_of (next n), me.1)
      → ((mine' ≡ table) × (me' ≡ (view_of (side_of me'.0), [])) × Knows (side_of me'.0))
      × (record { board = record { table = table; setting = map }; side = side_of me'.0 } ≡ record seat { side = next n })
  stepped side_of back Knows still n map table mine mine' me me' same sits knows is there now =
      let shown : side_of me'.0 ≡ next n = ap (λ (m : Me (List ℕ) View). side_of m.0) now ∙ back (next n) in
      let bare : me.1 ≡ [] = ap (λ (m : Me (List ℕ) View). m.1) sits in (
        (
          there ∙ same,
          now ∙ (ap (λ xs. (view_of (next n), xs)) bare ∙ ap (λ x. (view_of x, [])) (sym shown)),
          subst Knows (sym shown) (still (side_of me.0) (next n) (subst (λ (v : TheSeat Side). Stays v.side (next n)) (sym is) (may.stays n)) knows),
        ),
        ap (λ x. record { board = record { table = table; setting = map }; side = x }) shown
            ∙ ap (λ (v : TheSeat Side). (record v { side = next n })) is,
      )

-- ---- a pool count

mod-small : (n : ℕ) → n < 2 ^ 64 → n % 2 ^ 64 ≡ n
mod-small n small = omega arith

mod-less : (n k : ℕ) → 0 < k → k ≤ n → n < 2 ^ 64 → (n + (2 ^ 64 - k)) % 2 ^ 64 ≡ n - k
mod-less n k some enough small = omega arith

module _ (setting : Setting) (words : Words) (b i : ℕ) (at : i ≡ pool_at setting b) (within : b < all_buffers setting.layout) where
  pub found : {nic : NicSide} {apps : List AppSide} → BoardRule setting words nic apps → get_or (table_of words) i 0 ≡ pool_word_of words b
  found rule = ap (λ x. get_or (table_of words) x 0) at ∙ pool-word setting words rule.refs.sizes b (omega (arith, within, rule.refs.sizes.pool))

  -- the words with n in the buffer's pool count
  makes-pool : {nic now : NicSide} {apps apps' : List AppSide} → BoardRule setting words nic apps → (m n : ℕ) → m ≡ n
      → BoardRule setting (with_pool words b n) now apps' → MakesWords setting words i m now apps'
  makes-pool rule m n is after = record {
    words' = with_pool words b n;
    laid = ap (λ x. set (table_of words) x m) at ∙ (ap (λ x. set (table_of words) (pool_at setting b) x) is
        ∙ pool-set setting words rule.refs.sizes b n (omega (arith, within, rule.refs.sizes.pool)));
    roles = refl;
    area = refl;
    rule = after;
  }

  -- where a law raises a pool count, adding 1 to its word does
  pub raises : {nic now : NicSide} {apps apps' : List AppSide} → BoardRule setting words nic apps → pool_word_of words b + 1 < 2 ^ 64
      → BoardRule setting (with_pool words b (pool_word_of words b + 1)) now apps' → MakesWords setting words i ((get_or (table_of words) i 0 + 1) % 2 ^ 64) now apps'
  raises rule few after =
      makes-pool rule _ (pool_word_of words b + 1) (ap (λ x. (x + 1) % 2 ^ 64) (found rule) ∙ mod-small (pool_word_of words b + 1) few) after

  -- where a law takes k of it, subtracting k does
  pub lowers : {nic now : NicSide} {apps apps' : List AppSide} → BoardRule setting words nic apps → (k : ℕ) → 0 < k → k ≤ pool_word_of words b
      → get_or (table_of words) i 0 < 2 ^ 64 → BoardRule setting (with_pool words b (pool_word_of words b - k)) now apps'
      → MakesWords setting words i ((get_or (table_of words) i 0 + (2 ^ 64 - k)) % 2 ^ 64) now apps'
  lowers rule k some enough small after =
      makes-pool rule _ (pool_word_of words b - k)
      (mod-less (get_or (table_of words) i 0) k some (omega (arith, found rule, enough)) small ∙ ap (λ x. x - k) (found rule)) after

  -- what an event does with the count, it does with the number found
  pub of-count : {nic : NicSide} {apps : List AppSide} → BoardRule setting words nic apps → (P : ℕ → Type 0) → P (pool_word_of words b)
      → P (get_or (table_of words) i 0)
  of-count rule P p = subst P (sym (found rule)) p

-- ---- a user count

module _ (setting : Setting) (words : Words) (a b i : ℕ) (at : i ≡ user_word_at setting a b) (few : a < apps_of setting)
    (within : b < all_buffers setting.layout) where
  found-user : {nic : NicSide} {apps : List AppSide} → BoardRule setting words nic apps → get_or (table_of words) i 0 ≡ user_word_of words a b
  found-user rule = ap (λ x. get_or (table_of words) x 0) at ∙ user-word setting words rule.refs.sizes a b (omega (arith, few, rule.refs.sizes.users)) within

  makes-user : {nic now : NicSide} {apps apps' : List AppSide} → BoardRule setting words nic apps → (m n : ℕ) → m ≡ n
      → BoardRule setting (with_user words a b n) now apps' → MakesWords setting words i m now apps'
  makes-user rule m n is after = record {
    words' = with_user words a b n;
    laid = ap (λ x. set (table_of words) x m) at ∙ (ap (λ x. set (table_of words) (user_word_at setting a b) x) is
        ∙ user-set setting words rule.refs.sizes a b n (omega (arith, few, rule.refs.sizes.users)) within);
    roles = refl;
    area = refl;
    rule = after;
  }

  pub raises-user : {nic now : NicSide} {apps apps' : List AppSide} → BoardRule setting words nic apps → user_word_of words a b + 1 < 2 ^ 64
      → BoardRule setting (with_user words a b (user_word_of words a b + 1)) now apps'
      → MakesWords setting words i ((get_or (table_of words) i 0 + 1) % 2 ^ 64) now apps'
  raises-user rule small after =
      makes-user rule _ (user_word_of words a b + 1) (ap (λ x. (x + 1) % 2 ^ 64) (found-user rule) ∙ mod-small (user_word_of words a b + 1) small) after

  pub lowers-user : {nic now : NicSide} {apps apps' : List AppSide} → BoardRule setting words nic apps → 0 < user_word_of words a b
      → get_or (table_of words) i 0 < 2 ^ 64 → BoardRule setting (with_user words a b (user_word_of words a b - 1)) now apps'
      → MakesWords setting words i ((get_or (table_of words) i 0 + (2 ^ 64 - 1)) % 2 ^ 64) now apps'
  lowers-user rule enough small after =
      makes-user rule _ (user_word_of words a b - 1)
      (mod-less (get_or (table_of words) i 0) 1 (omega arith) (omega (arith, found-user rule, enough)) small ∙ ap (λ x. x - 1) (found-user rule)) after

  -- where a law leaves 0, swapping the word with 0 does
  pub clears-user : {nic now : NicSide} {apps apps' : List AppSide} → BoardRule setting words nic apps → BoardRule setting (with_user words a b 0) now apps'
      → MakesWords setting words i 0 now apps'
  clears-user rule after = makes-user rule 0 0 refl after

  -- where a law changes no word, loading one does
  pub looks : {now : NicSide} {apps' : List AppSide} → BoardRule setting words now apps' → MakesWords setting words i (get_or (table_of words) i 0) now apps'
  looks after = record { words' = words; laid = set-get_or (table_of words) i 0; roles = refl; area = refl; rule = after }

  pub of-user : {nic : NicSide} {apps : List AppSide} → BoardRule setting words nic apps → (P : ℕ → Type 0) → P (user_word_of words a b)
      → P (get_or (table_of words) i 0)
  of-user rule P p = subst P (sym (found-user rule)) p

-- ---- a refill slot

module _ (setting : Setting) (words : Words) (a s i x : ℕ) (at : x ≡ refill_at setting a s i) (few : a < apps_of setting) (small : s < setting.places)
    (less : i < refill_width) where
  pub found-refill : {nic : NicSide} {apps : List AppSide} → BoardRule setting words nic apps
      → get_or (table_of words) x 0 ≡ slot_word words.refills a s i
  found-refill rule = ap (λ y. get_or (table_of words) y 0) at
      ∙ refill-word setting words rule.refs.sizes a s i (omega (arith, few, rule.refs.sizes.refills)) small less

  -- where a law stores a word there, storing it does
  pub stores-refill : {nic now : NicSide} {apps apps' : List AppSide} → BoardRule setting words nic apps → (n : ℕ)
      → BoardRule setting (with_refill words a s i n) now apps' → MakesWords setting words x n now apps'
  stores-refill rule n after = record {
    words' = with_refill words a s i n;
    laid = ap (λ y. set (table_of words) y n) at
        ∙ refill-set setting words rule.refs.sizes a s i n (omega (arith, few, rule.refs.sizes.refills)) small less;
    roles = refl;
    area = refl;
    rule = after;
  }

-- ---- a note slot

module _ (setting : Setting) (words : Words) (a s i x : ℕ) (at : x ≡ note_at setting a s i) (few : a < apps_of setting) (small : s < setting.places)
    (less : i < note_width) where
  pub found-note : {nic : NicSide} {apps : List AppSide} → BoardRule setting words nic apps
      → get_or (table_of words) x 0 ≡ slot_word words.notes a s i
  found-note rule = ap (λ y. get_or (table_of words) y 0) at
      ∙ note-word setting words rule.refs.sizes a s i (omega (arith, few, rule.refs.sizes.notes)) small less

  pub stores-note : {nic now : NicSide} {apps apps' : List AppSide} → BoardRule setting words nic apps → (n : ℕ)
      → BoardRule setting (with_note words a s i n) now apps' → MakesWords setting words x n now apps'
  stores-note rule n after = record {
    words' = with_note words a s i n;
    laid = ap (λ y. set (table_of words) y n) at
        ∙ note-set setting words rule.refs.sizes a s i n (omega (arith, few, rule.refs.sizes.notes)) small less;
    roles = refl;
    area = refl;
    rule = after;
  }

-- where a law changes no word, loading one does
pub loads : (setting : Setting) (words : Words) (x : ℕ) {now : NicSide} {apps' : List AppSide} → BoardRule setting words now apps'
    → MakesWords setting words x (get_or (table_of words) x 0) now apps'
loads setting words x after = record { words' = words; laid = set-get_or (table_of words) x 0; roles = refl; area = refl; rule = after }
