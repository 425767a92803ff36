-- What the rule says of the roles that are back: a load tells the desk.
use Rattle.std.proofs.Common.{◌≡◌, ℕ, ◌+◌, ◌<◌, ◌≤◌, List, [], ◌∷◌, ◌++◌, length, get_or, refl, ap, sym, ◌∙◌, arith, subst}
use Rattle.std.{specs.{Prelude.{All, nat_eq, count_by, if◌then◌else◌}, List.{flat_map}}, proofs.lemmas.List.{get_or_default, get_or-map, set-get_or, length-map}}
use Rattle.std.proofs.lemmas.List.Elements.{All-head, All-tail}
use mathlib.Core.Option.{some}
use lib.ListN.{get_elem?}
use Rattle.atomic_table.{specs.Table.{State, Me, keeps, Allows}, proofs.Lists.{at_index, set_again}}
use Rattle.area_layout.specs.Layout.{pool_buffers}
use Rattle.board_face.specs.{Counts.{is_user_kind}, Ended.{IsServed}, Holders.{nic_holders, app_holders, holders_of}, Opened.{new_app}, Relay.{IsProper}, Sides.{IsApp}}
use Rattle.board_face.{proofs.SideLemmas.{IsApp-at}, specs.declared.views.{parts.Setting.{Setting}, nic.NicSide.{NicSide}, app.AppSide.{AppSide}}}
use Rattle.ref_words.specs.{declared.view.View.{View}, Seated.{Seated, times_in}, Words.{listed_bit}, Over.{CardIsOver, AppIsOver, OverLaw}}
use Rattle.ref_words.proofs.{Seating.{taken-at}, Laying.{pool-word, user-word}}
use Rattle.word_board.specs.{Board.{IsBoard, card_of_seat, first_nic}, Desk.{AreOver, AreOfBoard, AreServed, AllAreBack, HasNoHolders, HaveNoCounts}}

-- A load that changes nothing tells what the rule says of each table under it.
pub lesson : (setting : Setting) (slots id i : ℕ) (told : ℕ → Type 0) (me : Me (List ℕ) View)
    → ((s : State (List ℕ) View) (board : IsBoard setting s) → get_elem? s.views id ≡ some me.0 → told (get_or s.words i 0))
    → Allows (IsBoard setting) slots id me i (λ n. n) (λ n w. (w ≡ (me.0, me.1)) × told n)
lesson setting slots id i told me known s board deep at small = (
  me.0,
  keeps,
  tt,
  record {
    words = board.words;
    nic = board.nic;
    apps = board.apps;
    laid = set-get_or s.words i 0 ∙ board.laid;
    lines = board.lines;
    seated = subst (λ views. Seated setting board.words.roles views board.nic board.apps) (sym (set_again s.views id me.0 at)) board.seated;
    rule = board.rule;
  },
  (refl, known s board at),
)

-- the element at a place is found there
found-at : {A : Type 0} (xs : List A) (k : ℕ) (d : A) → k < length xs → get_elem? xs k ≡ some (get_or xs k d)
found-at xs k d there = at_index xs k (get_or xs k d) there (get_or_default xs k d (get_or xs k d) there)

-- where all are one number, each is counted
one-number : (nics : List NicSide) → times_in {V = View} (λ v. v.nics) (λ _. 0) 0 nics ≡ length nics
one-number [] = refl
one-number (nic ∷ nics) = omega (arith, one-number nics)

first-found : (nics : List NicSide) → length nics ≡ 1 → get_elem? nics 0 ≡ some (first_nic nics)
first-found [] one = absurd (omega (arith, one))
first-found (nic ∷ nics) one = refl

first-all : (P : NicSide → Type 0) (nics : List NicSide) → length nics ≡ 1 → All P nics → P (first_nic nics)
first-all P [] one all = absurd (omega (arith, one))
first-all P (nic ∷ nics) one all = All-head P nic nics all

flat-none : {A B : Type 0} (f : A → List B) (xs : List A) → All (λ x. f x ≡ []) xs → flat_map f xs ≡ []
flat-none f [] none = refl
flat-none f (x ∷ xs) none =
    ap (λ ys. ys ++ flat_map f xs) (All-head (λ x. f x ≡ []) x xs none) ∙ flat-none f xs (All-tail (λ x. f x ≡ []) x xs none)

module _ (law : OverLaw) (setting : Setting) (s : State (List ℕ) View) (board : IsBoard setting s) (id : ℕ) (v : View)
    (at : get_elem? s.views id ≡ some v) (over : AreOver v) where
  -- a side at the desk is the role's
  card-there : (k : ℕ) (nic : NicSide) → get_elem? v.nics k ≡ some nic → nic ≡ board.nic
  card-there k nic there = (board.seated.card.has id k v nic at there).1

  app-there : (k : ℕ) (app : AppSide) → get_elem? v.apps k ≡ some app → IsApp board.apps app.view.app app
  app-there k app there =
      let known = board.seated.others.has id k v app at there in
      let within : app.view.app < length board.apps = omega (arith, known.0, board.rule.refs.sides.set.many) in
      record {
        there = within;
        is = get_or_default board.apps app.view.app app (new_app setting app.view.app) within ∙ sym known.1;
        number = refl;
      }

  -- ---- who is back was served

  pub one-card : length v.nics ≤ 1
  one-card = omega (
    arith,
    one-number v.nics,
    taken-at (λ (v : View). v.nics) (λ _. 0) 0 s.views id v at,
    board.seated.card.told 0 (omega arith),
    board.seated.card.once 0 (omega arith),
  )

  pub served-there : AreServed v
  served-there = λ i d there k e within.
      subst (λ nic. IsServed nic (get_or v.apps k e)) (sym (card-there i (get_or v.nics i d) (found-at v.nics i d there)))
      (law.served setting board.words board.nic board.apps (get_or v.apps k e).view.app (get_or v.apps k e) board.rule
      (app-there k (get_or v.apps k e) (found-at v.apps k e within)) (over.apps k e within).left)

  pub known-there : AreOfBoard setting v
  known-there = record {
    card = λ i d there.
        subst (λ (nic : NicSide). (nic.view.setting ≡ setting) × All IsProper nic.view.sent)
        (sym (card-there i (get_or v.nics i d) (found-at v.nics i d there)))
        (board.rule.refs.sides.set.card, board.rule.refs.sides.proper);
    apps = λ k d there.
        let app = get_or v.apps k d in
        let here = app-there k app (found-at v.apps k d there) in
        subst (λ (a : AppSide). a.view.setting ≡ setting) here.is (board.rule.refs.sides.set.others app.view.app app here.there);
  }

  -- ---- all are back

  module _ (all : AllAreBack setting v) where
    card-is : card_of_seat v ≡ board.nic
    card-is = card-there 0 (card_of_seat v) (first-found v.nics all.card)

    card-over : CardIsOver board.nic
    card-over = subst CardIsOver card-is (first-all CardIsOver v.nics all.card over.card)

    apps-over : All AppIsOver board.apps
    apps-over k d there =
        let back = all.apps k (omega (arith, there, board.rule.refs.sides.set.many)) in
        let at_desk : back.0 < length v.apps = omega (arith, back.1, length-map v.apps (λ (app : AppSide). app.view.app)) in
        let app = get_or v.apps back.0 d in
        let number : app.view.app ≡ k = sym (get_or-map (λ (app : AppSide). app.view.app) v.apps back.0 d k at_desk) ∙ back.2 in
        let here = app-there back.0 app (found-at v.apps back.0 d at_desk) in
        let is : app ≡ get_or board.apps k d = sym here.is
        ∙ (get_or_default board.apps app.view.app app d here.there ∙ ap (λ n. get_or board.apps n d) number) in
        subst AppIsOver is (over.apps back.0 d at_desk)

    holders-none : (b : ℕ) → holders_of b (card_of_seat v) v.apps ≡ []
    holders-none b =
        let card : nic_holders b (card_of_seat v) ≡ [] = subst (λ nic. nic_holders b nic ≡ []) (sym card-is)
        (law.card setting board.words board.nic board.apps b board.rule card-over) in
        let apps : All (λ app. app_holders b (card_of_seat v) app ≡ []) v.apps = λ k d there.
        let app = get_or v.apps k d in
        subst (λ nic. app_holders b nic app ≡ []) (sym card-is)
        (law.app setting board.words board.nic board.apps app.view.app app b board.rule
        (app-there k app (found-at v.apps k d there)) (over.apps k d there)) in
        ap (λ ks. ks ++ flat_map (app_holders b (card_of_seat v)) v.apps) card ∙ flat-none (app_holders b (card_of_seat v)) v.apps apps

    pub unheld-there : HasNoHolders v
    unheld-there = record {
      pool = λ b. ap length (holders-none b);
      users = λ a b. ap (count_by (is_user_kind a)) (holders-none b);
    }

    board-unheld : (b : ℕ) → holders_of b board.nic board.apps ≡ []
    board-unheld b =
        let apps : All (λ app. app_holders b board.nic app ≡ []) board.apps = λ k d there.
        law.app setting board.words board.nic board.apps k (get_or board.apps k d) b board.rule
        (IsApp-at board.apps k d board.rule.refs.sides.set.numbers there) (apps-over k d there) in
        ap (λ ks. ks ++ flat_map (app_holders b board.nic) board.apps)
        (law.card setting board.words board.nic board.apps b board.rule card-over)
        ∙ flat-none (app_holders b board.nic) board.apps apps

    pub uncounted-there : HaveNoCounts setting s.words
    uncounted-there = subst (HaveNoCounts setting) (sym board.laid) (record {
      pool = λ b within. pool-word setting board.words board.rule.refs.sizes b (omega (arith, within, board.rule.refs.sizes.pool))
          ∙ (board.rule.refs.pool b within ∙ ap length (board-unheld b));
      users = λ a b few within. user-word setting board.words board.rule.refs.sizes a b (omega (arith, few, board.rule.refs.sizes.users)) within
          ∙ (board.rule.refs.users a b few within ∙ ap (count_by (is_user_kind a)) (board-unheld b));
    })

    pub free-there : (b : ℕ) → b < pool_buffers setting.layout
        → count_by (nat_eq b) (card_of_seat v).view.cache + (if listed_bit board.words b then 1 else 0) ≡ 1
    free-there b within =
        subst (λ (nic : NicSide). count_by (nat_eq b) nic.view.cache + (if listed_bit board.words b then 1 else 0) ≡ 1) (sym card-is)
        (law.free setting board.words board.nic board.apps b board.rule card-over apps-over within)

    pub reserves-there : (b : ℕ) → pool_buffers setting.layout ≤ b → count_by (nat_eq b) (card_of_seat v).view.cache ≡ 0
    reserves-there b past =
        subst (λ (nic : NicSide). count_by (nat_eq b) nic.view.cache ≡ 0) (sym card-is)
        (law.reserves setting board.words board.nic board.apps b board.rule past)
