-- Free places and used buffers, once a side changed.
use Rattle.std.proofs.Common.{◌≡◌, ⊎_elim, ℕ, ◌+◌, ◌<◌, ◌≤◌, Bool, true, false, List, [], ◌∷◌, ◌++◌, length, set, refl, ap, sym, ◌∙◌, arith, inl, inr, cond}
use Rattle.std.{specs.{Prelude.{◌⊎◌, ◌==◌, nat_eq, nat_lt, count_by, if◌then◌else◌, Contains}, List.{flat_map}}, proofs.lemmas.Bool.Decides.{eqb_tells}}
use Rattle.std.proofs.lemmas.List.{map-id}
use Rattle.area_layout.specs.Layout.{pool_buffers}
use Rattle.board_face.specs.{Lists.{without}, NicEvents.{cached, cache_room}, Sides.{IsApp}, Counts.{pool_count}, FreeOnce.{free_places, AreFreeOnce}}
use Rattle.board_face.{specs.{Used.{picked_buffers, AreKept}, declared.views.{nic.NicSide.{NicSide}, app.AppSide.{AppSide}}}, proofs.ListLemmas.{eqb_same, not-eqb}}
use Rattle.board_face.proofs.{Tallies.{one_if, tally, tally-flat, tally-without, total-set}, Parts.{count-tally}}
use Rattle.board_face.proofs.Counting.{count-append, count-push, once-freed, once-taken, weight-swap}
use Rattle.ref_words.proofs.Counting.{if_so, once-more}

-- ---- hands

-- an application's hands changed
pub free_places-hands : (listed : ℕ → Bool) (b : ℕ) (nic : NicSide) (apps : List AppSide) (a : ℕ) (app now : AppSide) → IsApp apps a app
    → free_places listed b nic (set apps a now) + count_by (nat_eq b) app.inside.hands
    ≡ free_places listed b nic apps + count_by (nat_eq b) now.inside.hands
free_places-hands listed b nic apps a app now here =
    let hands : AppSide → List ℕ = λ x. x.inside.hands in
    omega (
      arith,
      count-tally (nat_eq b) (flat_map hands (set apps a now)),
      count-tally (nat_eq b) (flat_map hands apps),
      tally-flat (nat_eq b) hands (set apps a now),
      tally-flat (nat_eq b) hands apps,
      total-set (λ x. tally (nat_eq b) (hands x)) apps a app now here.there here.is,
      count-tally (nat_eq b) now.inside.hands,
      count-tally (nat_eq b) app.inside.hands,
    )

-- what is in hand stands in a free place
pub in-hands : (listed : ℕ → Bool) (b : ℕ) (nic : NicSide) (apps : List AppSide) (a : ℕ) (app : AppSide) → IsApp apps a app
    → count_by (nat_eq b) app.inside.hands ≤ free_places listed b nic apps
in-hands listed b nic apps a app here =
    let none : AppSide = record app { inside = record app.inside { hands = [] } } in
    omega (arith, free_places-hands listed b nic apps a app none here)

-- a buffer leaves the hands
pub count-taken : (b : ℕ) (xs : List ℕ) → Contains xs b → (y : ℕ)
    → count_by (nat_eq y) (without (nat_eq b) xs) + one_if (b == y) ≡ count_by (nat_eq y) xs
count-taken b xs has y =
    omega (
      arith,
      tally-without (λ (x : ℕ). x) (nat_eq b) b (λ x e. ⊎_elim (λ t. sym t.1) (λ t. absurd (let w : true ≡ false = sym e
          ∙ t.0 in let no : ⊥ = cc in no)) (eqb_tells b x))
          (eqb_same b) (nat_eq y) xs (rw (map-id xs) has),
      count-tally (nat_eq y) (without (nat_eq b) xs),
      count-tally (nat_eq y) xs,
      weight-swap b y,
    )

pub without-none : (b : ℕ) (xs : List ℕ) → count_by (nat_eq b) xs ≡ 0 → without (nat_eq b) xs ≡ xs
without-none b [] none = refl
without-none b (x ∷ xs) none =
    let parts : one_if (b == x) + count_by (nat_eq b) xs ≡ 0 = omega (arith, none, count-tally (nat_eq b) (x ∷ xs), count-tally (nat_eq b) xs) in
    ⊎_elim
    (λ t. absurd (omega (arith, parts, ap one_if t.0)))
    (λ t. ap (λ c. cond c xs (x ∷ without (nat_eq b) xs)) t.0 ∙ ap (λ ys. x ∷ ys) (without-none b xs (omega arith)))
    (eqb_tells b x)

-- ---- used buffers

-- an application picked buffers, or didn't
pub picked-moved : (b : ℕ) (apps : List AppSide) (a : ℕ) (app now : AppSide) → IsApp apps a app
    → count_by (nat_eq b) (picked_buffers (set apps a now)) + count_by (nat_eq b) app.view.picked
    ≡ count_by (nat_eq b) (picked_buffers apps) + count_by (nat_eq b) now.view.picked
picked-moved b apps a app now here =
    let picks : AppSide → List ℕ = λ x. x.view.picked in
    omega (
      arith,
      count-tally (nat_eq b) (flat_map picks (set apps a now)),
      count-tally (nat_eq b) (flat_map picks apps),
      tally-flat (nat_eq b) picks (set apps a now),
      tally-flat (nat_eq b) picks apps,
      total-set (λ x. tally (nat_eq b) (picks x)) apps a app now here.there here.is,
      count-tally (nat_eq b) app.view.picked,
      count-tally (nat_eq b) now.view.picked,
    )

picked-same : (b : ℕ) (apps : List AppSide) (a : ℕ) (app now : AppSide) → IsApp apps a app → now.view.picked ≡ app.view.picked
    → count_by (nat_eq b) (picked_buffers (set apps a now)) ≡ count_by (nat_eq b) (picked_buffers apps)
picked-same b apps a app now here same = omega (arith, picked-moved b apps a app now here, ap (count_by (nat_eq b)) same)

pub AreKept-app : (listed : ℕ → Bool) (nic : NicSide) (apps : List AppSide) (a : ℕ) (app now : AppSide) → IsApp apps a app
    → now.view.picked ≡ app.view.picked → AreKept listed nic apps → AreKept listed nic (set apps a now)
AreKept-app listed nic apps a app now here same kept = record {
  kept = λ b within. omega (
    arith,
    kept.kept b within,
    picked-same b apps a app now here same,
    count-append b nic.view.used (picked_buffers apps),
    count-append b nic.view.used (picked_buffers (set apps a now)),
  );
  swept = λ b within gone. omega (
    arith,
    kept.swept b within gone,
    picked-same b apps a app now here same,
    count-append b nic.view.used (picked_buffers apps),
    count-append b nic.view.used (picked_buffers (set apps a now)),
  );
}

-- the card's cache lost nothing
pub AreKept-card : (listed : ℕ → Bool) (nic now : NicSide) (apps : List AppSide) → now.view.setting ≡ nic.view.setting
    → now.view.used ≡ nic.view.used
    → now.view.swept ≡ nic.view.swept → ((b : ℕ) → count_by (nat_eq b) nic.view.cache ≤ count_by (nat_eq b) now.view.cache)
    → AreKept listed nic apps → AreKept listed now apps
AreKept-card listed nic now apps setting used swept more kept = record {
  kept = λ b within. rw used (omega (arith, kept.kept b (rw (← setting) within), more b));
  swept = λ b within gone. rw used (omega (arith, kept.swept b (rw (← setting) within) (rw (← swept) gone), more b));
}

grows-room : (room : Bool) (cache : List ℕ) (i b : ℕ) → count_by (nat_eq b) cache ≤ count_by (nat_eq b) (cond room (cache ++ i ∷ []) cache)
grows-room true cache i b = omega (arith, count-push b i cache)
grows-room false cache i b = omega arith

pub cache-grows : (came : Bool) (cache : List ℕ) (i b : ℕ) → count_by (nat_eq b) cache ≤ count_by (nat_eq b) (cond came (cached cache i) cache)
cache-grows true cache i b = grows-room (nat_lt (length cache) cache_room) cache i b
cache-grows false cache i b = omega arith

-- ---- free once

-- A buffer that has a holder got one more.
pub AreFreeOnce-more : (listed : ℕ → Bool) (nic now : NicSide) (apps apps' : List AppSide) (i : ℕ) → now.view.setting ≡ nic.view.setting
    → ((b : ℕ) → pool_count b now apps' ≡ pool_count b nic apps + one_if (i == b)) → ((b : ℕ) → one_if (i == b) ≤ pool_count b nic apps)
    → ((b : ℕ) → free_places listed b now apps' ≡ free_places listed b nic apps) → AreFreeOnce listed nic apps → AreFreeOnce listed now apps'
AreFreeOnce-more listed nic now apps apps' i setting more held same free = record {
  pool = λ b small. same b ∙ once-more (pool_count b nic apps) (pool_count b now apps') _ (one_if (i == b)) (free.pool b (rw (← setting) small)) (more b)
      (held b);
  reserves = λ b past. same b ∙ free.reserves b (rw (← setting) past);
}

-- A buffer that nobody had left its free place, and has a holder.
pub AreFreeOnce-taken : (listed : ℕ → Bool) (nic now : NicSide) (apps apps' : List AppSide) (i : ℕ) → now.view.setting ≡ nic.view.setting
    → pool_count i nic apps ≡ 0 → ((b : ℕ) → pool_count b now apps' ≡ pool_count b nic apps + one_if (i == b))
    → ((b : ℕ) → free_places listed b now apps' + one_if (i == b) ≡ free_places listed b nic apps)
    → AreFreeOnce listed nic apps → AreFreeOnce listed now apps'
AreFreeOnce-taken listed nic now apps apps' i setting unheld more gone free = record {
  pool = λ b small.
      once-taken (pool_count b nic apps) _ (free_places listed b nic apps) _ (one_if (i == b)) (free.pool b (rw (← setting) small)) (gone b) (more b)
      (⊎_elim (λ t. inr (ap one_if t.0, ap (λ y. pool_count y nic apps) (sym t.1) ∙ unheld)) (λ t. inl (ap one_if t.0)) (eqb_tells i b));
  reserves = λ b past. omega (arith, free.reserves b (rw (← setting) past), gone b);
}

-- A reserve that nobody had has a holder. It stands in no free place before and after.
pub AreFreeOnce-reserve : (listed : ℕ → Bool) (nic now : NicSide) (apps apps' : List AppSide) (i : ℕ) → now.view.setting ≡ nic.view.setting
    → pool_buffers nic.view.setting.layout ≤ i → ((b : ℕ) → pool_count b now apps' ≡ pool_count b nic apps + one_if (i == b))
    → ((b : ℕ) → free_places listed b now apps' ≡ free_places listed b nic apps) → AreFreeOnce listed nic apps → AreFreeOnce listed now apps'
AreFreeOnce-reserve listed nic now apps apps' i setting past more same free = record {
  pool = λ b small.
      let inside : b < pool_buffers nic.view.setting.layout = rw (← setting) small in
      let other : one_if (i == b) ≡ 0 = ap one_if (not-eqb i b (λ e. absurd (omega (arith, e)))) in
      let count : pool_count b now apps' ≡ pool_count b nic apps = omega (arith, more b) in
      same b ∙ (free.pool b inside ∙ ap (λ n. if n == 0 then 1 else 0) (sym count));
  reserves = λ b beyond. same b ∙ free.reserves b (rw (← setting) beyond);
}

past-case : (came : Bool) (f u : ℕ) → f ≡ 0 → (came ≡ false) ⊎ (u ≡ 0) → f + if_so came u ≡ 0
past-case true f u empty which = ⊎_elim (λ no. absurd (let none : ⊥ = cc in none)) (λ none. omega arith) which
past-case false f u empty which = omega arith

-- Of the buffer i, w holders went, and it came to stand in a free place or not.
pub AreFreeOnce-fewer : (listed : ℕ → Bool) (nic now : NicSide) (apps apps' : List AppSide) (i w : ℕ) (came : Bool)
    → now.view.setting ≡ nic.view.setting
    → 1 ≤ w → ((b : ℕ) → pool_count b now apps' + if_so (i == b) w ≡ pool_count b nic apps)
    → ((b : ℕ) → free_places listed b now apps' ≡ free_places listed b nic apps + if_so came (one_if (i == b)))
    → (i < pool_buffers nic.view.setting.layout → came ≡ (pool_count i now apps' == 0)) → (pool_buffers nic.view.setting.layout ≤ i
    → came ≡ false)
    → AreFreeOnce listed nic apps → AreFreeOnce listed now apps'
AreFreeOnce-fewer listed nic now apps apps' i w came setting some less more of_pool reserve free = record {
  pool = λ b small.
      let inside : b < pool_buffers nic.view.setting.layout = rw (← setting) small in
      once-freed came (pool_count b nic apps) (pool_count b now apps') (free_places listed b nic apps) (free_places listed b now apps') (if_so (i == b) w)
      (one_if (i == b))
      (pool_count i now apps') (free.pool b inside) (less b) (more b)
      (⊎_elim
      (λ t. let e : i ≡ b = t.1 in
      inr (
        (let one : if_so (i == b) w ≡ w = ap (λ c. if_so c w) t.0 in omega (arith, some, one)),
        ap one_if t.0,
        ap (λ x. pool_count x now apps') (sym e),
        of_pool (omega (arith, inside, e)),
      ))
      (λ t. inl (ap (λ c. if_so c w) t.0, ap one_if t.0))
      (eqb_tells i b));
  reserves = λ b past.
      let beyond : pool_buffers nic.view.setting.layout ≤ b = rw (← setting) past in
      more b ∙ past-case came _ _ (free.reserves b beyond)
      (⊎_elim (λ t. let e : i ≡ b = t.1 in inl (reserve (omega (arith, beyond, e)))) (λ t. inr (ap one_if t.0)) (eqb_tells i b));
}
