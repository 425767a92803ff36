-- An application takes a spare that nobody has: a buffer that it picked from the free list, or its reserve.
use Rattle.std.proofs.Common.{◌≡◌, ⊎_elim, ℕ, ◌+◌, ◌<◌, ◌≤◌, true, List, [], map, set, refl, ap, sym, ◌∙◌, arith, inl, inr}
use Rattle.std.{specs.Prelude.{◌⊎◌, ◌==◌, nat_eq, count_by, Contains}, proofs.lemmas.{Bool.{cases_lt, false≢true}, List.Elements.{All-push}}}
use Rattle.area_layout.specs.Layout.{all_buffers, pool_buffers}
use Rattle.board_face.specs.{AppEvents.{reserve_of}, AppCalls.{HasNoneIn}, Sides.{IsApp}, Counts.{pool_count, EndedWereReturned}, FreeOnce.{free_places}}
use Rattle.board_face.specs.{Used.{HasFewPicks}, declared.views.{parts.Setting.{Setting}, nic.NicSide.{NicSide}, app.AppSide.{AppSide}}, NicEvents.{fresh}}
use Rattle.board_face.specs.{Texts.{unsplit_bytes}, FreeOnce.{AreFreeOnce}, Steps.{side_spare_begun}, declared.views.app.SpareOwn.{SpareOwn}}
use Rattle.board_face.proofs.{AppLemmas.{pool_count-app, user_count-app, app_count-got_spare}, ArePlacedLemmas.{ArePlaced-app, app_places-spare_begun}}
use Rattle.board_face.proofs.{MadeLastLemmas.{IsMadeLast-app}, FillerCounts.{spares_in-got_spare}, FreeLemmas.{IsFreeOnce-unheld}, IsFilledByOneLemmas.{one-spare}}
use Rattle.board_face.proofs.{FillingsFitLemmas.{IsFit, FillingsFit-app, FillingsFit-spares}, TokenLemmas.{FitsBuffer-fresh}, Tallies.{one_if}}
use Rattle.board_face.proofs.Counting.{All-none, weight-other, weight-same}
use Rattle.ref_words.{specs.{Words.{Words, pool_word_of, listed_bit}, Rule.{RefRule}}, proofs.RingSteps.{rings-app}}
use Rattle.ref_words.proofs.Frees.{AreFreeOnce-taken, AreFreeOnce-reserve, AreKept-app, free_places-hands, in-hands, count-taken, without-none}
use Rattle.ref_words.proofs.{SideSteps.{own-was, mine, own-setting, SidesRule-app}, PoolSteps.{IsPoolStep}, LineLemmas.{AreByLine-app}}

-- an application has nothing in a buffer that nobody has
pub own-none : (b : ℕ) (nic : NicSide) (apps : List AppSide) (a : ℕ) (app : AppSide) → IsApp apps a app → pool_count b nic apps ≡ 0
    → HasNoneIn app.view b
own-none b nic apps a app here unheld =
    let bare : AppSide = record app { view = record app.view { helds = []; owns = []; loans = [] } } in
    let parts = pool_count-app b nic apps a app bare here in
    record {
      helds = All-none (λ h. h.place.buffer) b app.view.helds (omega (arith, parts, unheld));
      loans = All-none (λ l. l.place.buffer) b app.view.loans (omega (arith, parts, unheld));
      spares = All-none (λ s. s.own.buffer) b app.view.owns (omega (arith, parts, unheld));
    }

module _ (setting : Setting) (words : Words) (nic : NicSide) (apps : List AppSide) (a : ℕ) (app : AppSide) (b : ℕ)
    (rule : RefRule setting words nic apps) (here : IsApp apps a app) (due : app.view.spares < unsplit_bytes (map (λ t. t.note) app.view.taken)) where
  abbrev now : AppSide
  now = side_spare_begun app b

  abbrev apps' : List AppSide
  apps' = set apps a now

  theirs : app.view.setting ≡ nic.view.setting
  theirs = own-setting setting nic apps a app rule.sides here ∙ sym rule.sides.set.card

  pools : pool_buffers app.view.setting.layout ≡ pool_buffers nic.view.setting.layout
  pools = ap (λ s. pool_buffers s.layout) theirs

  more : (c : ℕ) → pool_count c nic apps' ≡ pool_count c nic apps + one_if (b == c)
  more c = omega (arith, pool_count-app c nic apps a app now here, app_count-got_spare c nic app b)

  -- of a buffer that nobody has, a pool buffer or the own reserve
  with-free : pool_count b nic apps ≡ 0 → b < all_buffers setting.layout → (b < pool_buffers app.view.setting.layout) ⊎ (b ≡ reserve_of app.view)
      → AreFreeOnce (listed_bit words) nic apps' → IsPoolStep setting words nic nic apps apps' b (pool_word_of words b + 1)
  with-free unheld there own free =
      let one : SpareOwn = record { own = fresh app.view.setting b; bytes = [] } in
      let is : IsFit nic one.own = rw theirs (FitsBuffer-fresh nic.view.setting b (rw rule.sides.set.card rule.layout), refl) in
      record {
        there = there;
        sides = SidesRule-app setting nic apps a app rule.sides here now (record {
          placed = λ c. ArePlaced-app c nic apps a app now here (λ test. omega (arith, app_places-spare_begun c test nic app b)) (rule.sides.placed c);
          lines = λ c. AreByLine-app c nic apps a app now here refl (λ test. omega (arith, app_places-spare_begun c test nic app b)) (rule.sides.lines c);
          by_one = λ c. one-spare c b nic apps a app now here (spares_in-got_spare c app b) (app_count-got_spare c nic app b)
              (omega (arith, there, ap (λ s. all_buffers s.layout) rule.sides.set.card)) unheld (rule.sides.by_one c);
          fit = FillingsFit-app nic apps a now
              (All-push (λ (s : SpareOwn). IsFit nic s.own) app.view.owns one (FillingsFit-spares nic apps a app here rule.sides.fit) is) rule.sides.fit;
          made = IsMadeLast-app nic apps a app now here (λ c test. omega (arith, app_places-spare_begun c test nic app b)) rule.sides.made;
          returned = λ c. assumption (mine setting nic apps a app rule.sides here (EndedWereReturned c nic) (rule.sides.returned c));
          reserve = record { unheld = λ e. absurd (false≢true e) };
          unheld = λ c past ne none.
              omega (
                arith,
                more c,
                none,
                weight-other b c (λ e. ⊎_elim (λ small. let no : ⊥ = omega (arith, e) in no) (λ mine. ne (sym e ∙ mine)) own),
              );
          scrubbed = λ done. assumption (rule.sides.scrubbed a app here done);
          own = let was = own-was setting nic apps a app rule.sides here in
              let few : HasFewPicks now = record { picks = was.few.picks; spares = omega (arith, due) } in
              assumption (was, few);
        });
        here = omega (arith, rule.pool b there, more b, weight-same b);
        others = λ c other. omega (arith, more c, weight-other b c (λ e. other (sym e)));
        users = λ x c. omega (arith, user_count-app x c nic apps a app now here);
        free = free;
        kept = AreKept-app (listed_bit words) nic apps a app now here refl rule.kept;
        rings = rings-app setting words nic apps a app now here refl refl refl refl refl refl refl rule.rings;
      }

  -- ---- a buffer in hand

  module _ (has : Contains app.inside.hands b) where
    gone : (c : ℕ) → free_places (listed_bit words) c nic apps' + one_if (b == c) ≡ free_places (listed_bit words) c nic apps
    gone c = omega (arith, free_places-hands (listed_bit words) c nic apps a app now here, count-taken b app.inside.hands has c)

    some-place : 1 ≤ free_places (listed_bit words) b nic apps
    some-place = omega (arith, gone b, weight-same b)

    pub small : b < pool_buffers nic.view.setting.layout
    small =
        ⊎_elim
        (λ less. less)
        (λ past. absurd (omega (arith, some-place, rule.free.reserves b past)))
        (cases_lt b (pool_buffers nic.view.setting.layout))

    unheld : pool_count b nic apps ≡ 0
    unheld = IsFreeOnce-unheld (listed_bit words) b nic apps (rule.free.pool b small) some-place

    inside : b < all_buffers setting.layout
    inside = let s = small in omega (arith, ap (λ s. pool_buffers s.layout) rule.sides.set.card)

    pub none-picked : pool_word_of words b ≡ 0
    none-picked = rule.pool b inside ∙ unheld

    pub apart-picked : HasNoneIn app.view b
    apart-picked = own-none b nic apps a app here unheld

    pub picked : IsPoolStep setting words nic nic apps apps' b (pool_word_of words b + 1)
    picked = with-free unheld inside (inl (let s = small in omega (arith, pools)))
        (AreFreeOnce-taken (listed_bit words) nic nic apps apps' b refl unheld more gone rule.free)

  -- ---- the reserve

  module _ (own : b ≡ reserve_of app.view) (free : app.inside.reserve_seen_free ≡ true) where
    past : pool_buffers nic.view.setting.layout ≤ b
    past = omega (arith, own, pools)

    inside-reserve : b < all_buffers setting.layout
    inside-reserve =
        omega (
          arith,
          own,
          pools,
          here.number,
          here.there,
          rule.sides.set.many,
          ap (λ s. pool_buffers s.layout) rule.sides.set.card,
        )

    unheld-reserve : pool_count b nic apps ≡ 0
    unheld-reserve = ap (λ c. pool_count c nic apps) own ∙ (rule.sides.reserves a app here).unheld free

    pub none-reserve : pool_word_of words b ≡ 0
    none-reserve = rule.pool b inside-reserve ∙ unheld-reserve

    pub apart-reserve : HasNoneIn app.view b
    apart-reserve = own-none b nic apps a app here unheld-reserve

    nowhere : count_by (nat_eq b) app.inside.hands ≡ 0
    nowhere = omega (arith, in-hands (listed_bit words) b nic apps a app here, rule.free.reserves b past)

    pub reserve : IsPoolStep setting words nic nic apps apps' b (pool_word_of words b + 1)
    reserve = with-free unheld-reserve inside-reserve (inr own)
        (AreFreeOnce-reserve (listed_bit words) nic nic apps apps' b refl past more
        (λ c. omega (
          arith,
          free_places-hands (listed_bit words) c nic apps a app now here,
          ap (count_by (nat_eq c)) (without-none b app.inside.hands nowhere),
        ))
        rule.free)
