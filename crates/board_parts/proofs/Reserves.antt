-- Nobody but its application has anything in a reserve, where each lies in the pool or in its own.
use Rattle.std.proofs.Common.{◌≡◌, ℕ, zero, suc, ◌+◌, ◌<◌, ◌≤◌, Bool, true, false, List, [], ◌∷◌, length, get_or, refl, ap, sym, ◌∙◌, arith, ⊎_elim}
use Rattle.std.{specs.Prelude.{◌≢◌, ◌==◌, if◌then◌else◌, filter, All}, proofs.lemmas.List.Elements.{All-head, All-tail, All-filter, All-drop, All-weaker}}
use Rattle.area_layout.specs.Layout.{pool_buffers}
use Rattle.board_face.specs.{Sides.{IsApp, AreNumbered}, Holders.{sent_to, on_way}, Counts.{pool_count}, AppEvents.{reserve_of}}
use Rattle.board_face.specs.{OwnBuffers.{IsOwnBuffer, CardLiesInPool, AppLiesInOwn}, declared.views.nic.{SentNote.{SentNote}, NicSide.{NicSide}}}
use Rattle.board_face.{specs.declared.views.app.{AppView.{AppView}, AppSide.{AppSide}}, proofs.{SideLemmas.{IsApp-at}, Tallies.{tally, total}}}
use Rattle.board_face.proofs.Parts.{nic_count, app_count, notes_in, spares_in, loans_in, owed_count, returning_in_count, making_in, pool_count-parts}
use Rattle.board_face.proofs.Counting.{weight-other}

-- ---- lists without an element in a buffer

none-there : {A : Type 0} (f : A → ℕ) (b : ℕ) (xs : List A) → All (λ x. f x ≢ b) xs → tally (λ x. f x == b) xs ≡ 0
none-there f b [] apart = refl
none-there f b (x ∷ xs) apart =
    let other = weight-other (f x) b (All-head (λ y. f y ≢ b) x xs apart) in
    omega (arith, other, none-there f b xs (All-tail (λ y. f y ≢ b) x xs apart))

-- what lies in the pool doesn't lie behind it,
pool-none : {A : Type 0} (f : A → ℕ) (n b : ℕ) (xs : List A) → n ≤ b → All (λ x. f x < n) xs → tally (λ x. f x == b) xs ≡ 0
pool-none f n b xs past all =
    none-there f b xs (All-weaker (λ x. f x < n) (λ x. f x ≢ b) (λ x inside e. absurd (omega (arith, e))) xs all)

own-apart : (v : AppView) (b x : ℕ) → pool_buffers v.setting.layout ≤ b → b ≢ reserve_of v → IsOwnBuffer v x → x ≢ b
own-apart v b x past other mine same = ⊎_elim (λ of_pool. absurd (omega (arith, same))) (λ reserve. other (sym same ∙ reserve)) mine

-- and what lies there or in one's own reserve doesn't lie in another's
own-none : {A : Type 0} (f : A → ℕ) (v : AppView) (b : ℕ) (xs : List A) → pool_buffers v.setting.layout ≤ b → b ≢ reserve_of v
    → All (λ x. IsOwnBuffer v (f x)) xs → tally (λ x. f x == b) xs ≡ 0
own-none f v b xs past other all =
    none-there f b xs (All-weaker (λ x. IsOwnBuffer v (f x)) (λ x. f x ≢ b) (λ x mine. own-apart v b (f x) past other mine) xs all)

split-case : (b : ℕ) (s : SentNote) (rest : List SentNote) (c : Bool) → (c ≡ true → s.note.place.buffer ≢ b)
    → tally (λ (t : SentNote). t.note.place.buffer == b) (if c then s ∷ rest else rest)
    ≡ tally (λ (t : SentNote). t.note.place.buffer == b) rest
split-case b s rest true apart = omega (arith, weight-other s.note.place.buffer b (apart refl))
split-case b s rest false apart = refl

-- a split note's piece lies in the pool
abbrev IsOfPool : ℕ → SentNote → Type 0
IsOfPool n s = s.note.split ≡ true → s.note.place.buffer < n

notes-none : (n b : ℕ) (notes : List SentNote) → n ≤ b → All (IsOfPool n) notes → notes_in b notes ≡ 0
notes-none n b [] past all = refl
notes-none n b (s ∷ notes) past all =
    let first = All-head (IsOfPool n) s notes all in
    let apart : s.note.split ≡ true → s.note.place.buffer ≢ b = λ split e. absurd (omega (arith, first split, e)) in
    split-case b s (filter (λ (t : SentNote). t.note.split) notes) s.note.split apart
    ∙ notes-none n b notes past (All-tail (IsOfPool n) s notes all)

-- the sum is one element's, where the others have none
total-rest : (f : AppSide → ℕ) (xs : List AppSide) (d : AppSide) → ((k : ℕ) → k < length xs → f (get_or xs k d) ≡ 0) → total f xs ≡ 0
total-rest f [] d none = refl
total-rest f (x ∷ xs) d none = omega (arith, none 0 (omega arith), total-rest f xs d (λ k there. none (suc k) (omega arith)))

total-single : (f : AppSide → ℕ) (xs : List AppSide) (i : ℕ) (d : AppSide) → i < length xs
    → ((k : ℕ) → k ≢ i → k < length xs → f (get_or xs k d) ≡ 0) → total f xs ≡ f (get_or xs i d)
total-single f [] i d there others = absurd (omega arith)
total-single f (x ∷ xs) zero d there others =
    omega (arith, total-rest f xs d (λ k within. others (suc k) (λ e. absurd (omega (arith, e))) (omega arith)))
total-single f (x ∷ xs) (suc i) d there others =
    omega (
      arith,
      others 0 (λ e. absurd (omega (arith, e))) (omega arith),
      total-single f xs i d (omega arith) (λ k ne within. others (suc k) (λ e. ne (omega (arith, e))) (omega arith)),
    )

-- ---- one reserve

module _ (nic : NicSide) (apps : List AppSide) (a : ℕ) (x : AppSide) (here : IsApp apps a x) (numbers : AreNumbered 0 apps)
    (set : (k : ℕ) (y : AppSide) → IsApp apps k y → y.view.setting ≡ nic.view.setting)
    (lies : (k : ℕ) (y : AppSide) → IsApp apps k y → AppLiesInOwn y.view) (card : CardLiesInPool nic.view)
    (owns : All (λ o. o.buffer < pool_buffers nic.view.setting.layout) nic.view.owns) (making : making_in (reserve_of x.view) nic ≡ 0) where
  abbrev reserve : ℕ
  reserve = reserve_of x.view

  -- how many buffers the pool has, by each side
  pools : (k : ℕ) (y : AppSide) → IsApp apps k y → pool_buffers y.view.setting.layout ≡ pool_buffers nic.view.setting.layout
  pools k y it = ap (λ s. pool_buffers s.layout) (set k y it)

  is_past : pool_buffers nic.view.setting.layout ≤ reserve
  is_past = omega (arith, pools a x here)

  -- the card has nothing there
  card-none : nic_count reserve nic ≡ 0
  card-none =
      let n = pool_buffers nic.view.setting.layout in
      let own = pool-none (λ o. o.buffer) n reserve nic.view.owns is_past owns in
      let pieces = pool-none (λ p. p.place.buffer) n reserve nic.view.pieces is_past card.pieces in
      omega (arith, own, pieces, making)

  -- nor is a note of it on its way
  way-none : (y : AppSide) → notes_in reserve (on_way nic y) ≡ 0
  way-none y =
      let n = pool_buffers nic.view.setting.layout in
      let sent = All-filter (λ s. s.app == y.view.app) (IsOfPool n) nic.view.sent card.sent in
      notes-none n reserve (on_way nic y) is_past (All-drop (IsOfPool n) (length y.view.taken) (sent_to y.view.app nic) sent)

  -- nor has another application anything there
  others-none : (k : ℕ) → k ≢ a → k < length apps → app_count reserve nic (get_or apps k x) ≡ 0
  others-none k ne there =
      let y = get_or apps k x in
      let it = IsApp-at apps k x numbers there in
      let own = lies k y it in
      let n = pool_buffers y.view.setting.layout in
      let past : n ≤ reserve = omega (arith, pools k y it, is_past) in
      let other : reserve ≢ reserve_of y.view = λ e. ne (omega (arith, e, pools k y it, pools a x here, it.number, here.number)) in
      let helds = pool-none (λ h. h.place.buffer) n reserve y.view.helds past own.helds in
      let spares = own-none (λ s. s.own.buffer) y.view reserve y.view.owns past other own.spares in
      let loans = own-none (λ l. l.place.buffer) y.view reserve y.view.loans past other own.loans in
      let returned = own-none (λ l. l.place.buffer) y.view reserve y.view.returned past other own.returned in
      omega (arith, way-none y, helds, spares, loans, returned)

  -- Its holders are the application's: spares, and loans, out, owed or returning.
  pub reserve-alone : pool_count reserve nic apps
      ≡ spares_in reserve x + (loans_in reserve x + (owed_count reserve nic x + returning_in_count reserve nic x))
  reserve-alone =
      let own = lies a x here in
      let helds = pool-none (λ h. h.place.buffer) (pool_buffers x.view.setting.layout) reserve x.view.helds (omega arith) own.helds in
      omega (
        arith,
        pool_count-parts reserve nic apps,
        card-none,
        total-single (app_count reserve nic) apps a x here.there others-none,
        ap (app_count reserve nic) here.is,
        way-none x,
        helds,
      )
