-- A scrub takes what an application owes in a buffer: the user count is 0 then, and as many references are returning.
use Rattle.std.proofs.Common.{◌≡◌, ⊎_elim, ℕ, ◌+◌, ◌<◌, ◌≤◌, Bool, true, false, List, [], length, set, get_or, refl, ap, sym, ◌∙◌, arith, subst, length-drop, inl}
use Rattle.std.{specs.Prelude.{◌≢◌, ◌==◌, if◌then◌else◌, nat_eq, slice_index}, proofs.lemmas.Bool.{cases_lt, false≢true, Decides.{eqb_tells}}}
use Rattle.std.{proofs.lemmas.List.{length-set, get_or-set_same, get_or-set_other}, specs.Prelude.{All}}
use Rattle.area_layout.specs.Layout.{all_buffers}
use Rattle.board_face.specs.{AppEvents.{reserve_of}, Sides.{IsApp}, Holders.{ended_in, returning_count, returned_in}}
use Rattle.board_face.specs.{Counts.{pool_count, user_count, EndedWereReturned}, Used.{HasFewPicks}, Returns.{entries_on_way}, Steps.{side_user_taken}}
use Rattle.board_face.specs.declared.views.{parts.Setting.{Setting}, nic.NicSide.{NicSide}, app.AppSide.{AppSide}}
use Rattle.board_face.proofs.{Parts.{user_part, owed_count, owed-count, loans_in, returned_in-count}, NicLemmas.{app_count-stretch}}
use Rattle.board_face.proofs.{AppLemmas.{pool_count-app, user_count-app}, PlacesByEvent.{app_places-stretch}, ArePlacedLemmas.{ArePlaced-app}}
use Rattle.board_face.proofs.{MadeLastLemmas.{IsMadeLast-app}, IsFilledByOneLemmas.{IsFilledByOne-app}, FillingsFitLemmas.{FillingsFit-same}}
use Rattle.board_face.proofs.ListLemmas.{eqb_same, not-eqb}
use Rattle.ref_words.{specs.{Words.{Words, user_word_of, listed_bit}, Sides.{HasScrubLists}, Rings.{EntryFits}, Rule.{RefRule}}, proofs.RingSteps.{rings-app}}
use Rattle.ref_words.proofs.{Counting.{if_so}, Frees.{AreKept-app, free_places-hands}, SideSteps.{mine, own-setting, SidesRule-app, is-app}, UserSteps.{IsUserStep}}
use Rattle.ref_words.proofs.{Judging.{own-users}, LineLemmas.{AreByLine-app}}

-- one number of a list is raised by n
pub raised-at : (b n c : ℕ) (xs : List ℕ) → b < length xs → get_or (set xs b (get_or xs b 0 + n)) c 0 ≡ get_or xs c 0 + if_so (b == c) n
raised-at b n c xs there =
    ⊎_elim
    (λ t. let e : b ≡ c = t.1 in
    ap (λ x. get_or (set xs b (get_or xs b 0 + n)) x 0) (sym e)
    ∙ (get_or-set_same xs b (get_or xs b 0 + n) 0 there ∙ omega (arith, ap (λ x. get_or xs x 0) e, ap (λ x. if_so x n) t.0)))
    (λ t. let ne : b ≢ c = t.1 in
    get_or-set_other xs b c (get_or xs b 0 + n) 0 (λ e. ne (sym e)) ∙ omega (arith, ap (λ x. if_so x n) t.0))
    (eqb_tells b c)

if-part : (c : Bool) (l m n : ℕ) → c ≡ false → (if c then l + m else 0) ≡ (if c then l + n else 0)
if-part true l m n e = absurd (let none : ⊥ = cc in none)
if-part false l m n e = refl

module _ (setting : Setting) (words : Words) (nic : NicSide) (apps : List AppSide) (a : ℕ) (app : AppSide) (b : ℕ)
    (rule : RefRule setting words nic apps) (here : IsApp apps a app) (there : b < all_buffers setting.layout)
    (next : app.inside.scrub_mark ≡ b) (quiet : app.view.quiet ≡ true)
    (lent : app.view.loans ≡ []) (counted : app.view.scrubbed ≡ false) where
  abbrev n : ℕ
  n = user_word_of words a b

  abbrev now : AppSide
  now = side_user_taken app b n

  abbrev apps' : List AppSide
  apps' = set apps a now

  lists : HasScrubLists setting app
  lists = mine setting nic apps a app rule.sides here (HasScrubLists setting) rule.sides.lists

  took : (c : ℕ) → slice_index now.inside.scrub_took c ≡ slice_index app.inside.scrub_took c + if_so (b == c) n
  took c = raised-at b n c app.inside.scrub_took (omega (arith, there, lists.took))

  owes : (c : ℕ) → slice_index now.inside.scrub_owes c ≡ slice_index app.inside.scrub_owes c + if_so (b == c) n
  owes c = raised-at b n c app.inside.scrub_owes (omega (arith, there, lists.owes))

  no-loans : (c : ℕ) → loans_in c app ≡ 0
  no-loans c = rw lent refl

  -- no loan is out, so all that it has there is owed
  owed : n ≡ owed_count b nic app
  owed = omega (arith, own-users setting words nic apps a b app rule here there, no-loans b)

  sound : (c : ℕ) → EndedWereReturned c nic app
  sound c = mine setting nic apps a app rule.sides here (EndedWereReturned c nic) (rule.sides.returned c)

  few : (c : ℕ) → ended_in c nic app + if_so (b == c) n ≤ length (returned_in c app)
  few c =
      ⊎_elim
      (λ t. let e : b ≡ c = t.1 in
      subst (λ x. ended_in x nic app + if_so (b == x) n ≤ length (returned_in x app)) e
      (omega (arith, owed, returned_in-count b app, (sound b).ended, ap (λ x. if_so x n) (eqb_same b))))
      (λ t. omega (arith, (sound c).ended, ap (λ x. if_so x n) t.0))
      (eqb_tells b c)

  sound-now : (c : ℕ) → EndedWereReturned c nic now
  sound-now c = record {
    ended = omega (arith, took c, few c);
    returning = omega (arith, (sound c).returning, took c, owes c);
  }

  same_pool : (c : ℕ) → pool_count c nic apps' ≡ pool_count c nic apps
  same_pool c =
      omega (
        arith,
        pool_count-app c nic apps a app now here,
        app_count-stretch c 0 nic nic app now.inside refl (sound c) (assumption (sound-now c))
            (omega (arith, took c, owes c)),
      )

  -- what the application owes then
  owed-now : (c : ℕ) → owed_count c nic now + if_so (b == c) n ≡ owed_count c nic app
  owed-now c = omega (arith, took c, few c, returned_in-count c app)

  layouts : all_buffers app.view.setting.layout ≡ all_buffers setting.layout
  layouts = ap (λ s. all_buffers s.layout) (own-setting setting nic apps a app rule.sides here)

  if-other : (c : ℕ) → b < c → if_so (b == c) n ≡ 0
  if-other c less = ap (λ x. if_so x n) (not-eqb b c (λ e. absurd (omega (arith, e, less))))

  -- nothing is owed any more of the buffers to which the scrub came
  none-below : (c : ℕ) → c < b + 1 → owed_count c nic now ≡ 0
  none-below c less =
      ⊎_elim
      (λ t. let e : b ≡ c = t.1 in
      subst (λ x. owed_count x nic now ≡ 0) e (omega (arith, owed-now b, owed, ap (λ x. if_so x n) (eqb_same b))))
      (λ t. let ne : b ≢ c = t.1 in
      omega (
        arith,
        owed-now c,
        owed-count c nic app,
        (rule.sides.scrub a app here).taken c (below c less ne),
      ))
      (eqb_tells b c)
    where
      below : (c : ℕ) → c < b + 1 → b ≢ c → c < app.inside.scrub_mark
      below c less ne = ⊎_elim (λ small. omega (arith, small, next)) (λ past. absurd (ne (omega (arith, past, less)))) (cases_lt c b)

  -- nor of a number that is no buffer's
  none-past : (c : ℕ) → all_buffers setting.layout ≤ c → owed_count c nic now ≡ 0
  none-past c past =
      let bare : AppSide = record app { view = record app.view { returned = [] } } in
      omega (
        arith,
        owed-now c,
        pool_count-app c nic apps a app bare here,
        (rule.sides.by_one c).inside (omega (arith, past, ap (λ s. all_buffers s.layout) rule.sides.set.card)),
      )

  all-below : nat_eq (b + 1) (all_buffers app.view.setting.layout) ≡ true → b + 1 ≡ all_buffers setting.layout
  all-below e = ⊎_elim
      (λ t. t.1 ∙ layouts)
      (λ t. absurd (false≢true (sym t.0 ∙ e)))
      (eqb_tells (b + 1) (all_buffers app.view.setting.layout))

  none-anywhere : (c : ℕ) → b + 1 ≡ all_buffers setting.layout → owed_count c nic now ≡ 0
  none-anywhere c whole =
      ⊎_elim
      (λ less. none-below c (omega (arith, less, whole)))
      (λ past. none-past c past)
      (cases_lt c (all_buffers setting.layout))

  places-less : (c : ℕ) → ended_in c nic app + returning_count c nic now ≤ ended_in c nic now + returning_count c nic app
  places-less c = omega (arith, took c, owes c)

  none-now : user_count a b nic apps' ≡ 0
  none-now =
      let before : user_part a b nic app ≡ loans_in b app + owed_count b nic app =
      ap (λ c. if c then loans_in b app + owed_count b nic app else 0) (subst (λ k. (k == a) ≡ true) (sym here.number) (eqb_same a)) in
      let after : user_part a b nic now ≡ loans_in b app + owed_count b nic now =
      ap (λ c. if c then loans_in b app + owed_count b nic now else 0) (subst (λ k. (k == a) ≡ true) (sym here.number) (eqb_same a)) in
      omega (
        arith,
        user_count-app a b nic apps a app now here,
        rule.users a b (is-app rule.sides here) there,
        before,
        after,
        owed-now b,
        no-loans b,
        owed,
        ap (λ x. if_so x n) (eqb_same b),
      )

  others-same : (x c : ℕ) → ((x ≡ a) × (c ≡ b) → ⊥) → user_count x c nic apps' ≡ user_count x c nic apps
  others-same x c other =
      let same : user_part x c nic now ≡ user_part x c nic app =
      ⊎_elim
      (λ t. let e : app.view.app ≡ x = t.1 in
      ⊎_elim
      (λ u. absurd (other (sym e ∙ here.number, sym u.1)))
      (λ u. let zero : owed_count c nic now ≡ owed_count c nic app = omega (arith, owed-now c, ap (λ z. if_so z n) u.0) in
      ap (λ k. if app.view.app == x then loans_in c app + k else 0) zero)
      (eqb_tells b c))
      (λ t. if-part (app.view.app == x) (loans_in c app) (owed_count c nic now) (owed_count c nic app) t.0)
      (eqb_tells app.view.app x) in
      omega (arith, user_count-app x c nic apps a app now here, same)

  pub step : IsUserStep setting words nic nic apps apps' a b 0
  step = record {
    app = is-app rule.sides here;
    there = there;
    sides = SidesRule-app setting nic apps a app rule.sides here now (record {
      placed = λ c. ArePlaced-app c nic apps a app now here
          (λ test. app_places-stretch c test nic nic app now.inside refl (sound c).returning (sound-now c).returning (places-less c))
          (rule.sides.placed c);
      lines = λ c. AreByLine-app c nic apps a app now here refl
          (λ test. app_places-stretch c test nic nic app now.inside refl (sound c).returning (sound-now c).returning (places-less c))
          (rule.sides.lines c);
      by_one = λ c. IsFilledByOne-app c nic apps a app now here (omega arith) (omega (arith, same_pool c, pool_count-app c nic apps a app now here))
          (rule.sides.by_one c);
      fit = FillingsFit-same nic apps a app now here refl rule.sides.fit;
      made = IsMadeLast-app nic apps a app now here
          (λ c test. app_places-stretch c test nic nic app now.inside refl (sound c).returning (sound-now c).returning (places-less c))
          rule.sides.made;
      returned = sound-now;
      reserve = record { unheld = λ free. same_pool (reserve_of app.view) ∙ (rule.sides.reserves a app here).unheld free };
      unheld = λ c past ne none. same_pool c ∙ none;
      scrubbed = λ done. record {
        loans = lent;
        owed = λ c. omega (arith, owed-count c nic now, none-anywhere c (all-below done));
      };
      own = record {
        setting = refl;
        number = refl;
        took = length-set app.inside.scrub_took b _;
        owes = length-set app.inside.scrub_owes b _;
        few = assumption (mine setting nic apps a app rule.sides here HasFewPicks rule.sides.few);
        dealt = assumption (rule.sides.dealt a app here);
        entries = mine setting nic apps a app rule.sides here (λ x. All EntryFits x.view.written) rule.sides.entries;
        taken = assumption (rule.sides.taken a app here);
        returns = let r = rule.sides.returns a app here in
            let way : entries_on_way nic app ≡ [] = r.quiet quiet in
            record {
              written = r.written;
              owed = λ c. rw way (omega arith);
              no_more = λ c. omega (
                arith,
                r.no_more c,
                length-drop (ended_in c nic app) (returned_in c app),
                length-drop (ended_in c nic now) (returned_in c app),
                took c,
              );
              clear = r.clear;
              named = r.named;
              settled = r.settled;
              quiet = r.quiet;
              scrubbed = λ done. way;
              strays = r.strays;
            };
        scrub = record {
          within = omega (arith, there, layouts);
          done = λ e. ⊎_elim
              (λ t. t.1)
              (λ t. absurd (false≢true (sym t.0 ∙ e)))
              (eqb_tells (b + 1) (all_buffers app.view.setting.layout));
          whole = λ e. subst (λ m. (b + 1 == m) ≡ true) e (eqb_same (b + 1));
          taken = λ c less. omega (arith, owed-count c nic now, none-below c less);
          untaken = λ c past.
              omega (arith, took c, (rule.sides.scrub a app here).untaken c (omega (arith, next, past)), if-other c (omega (arith, past)));
          quiet = λ some. quiet;
          loans = λ some. lent;
        };
        first = λ entry f. f;
        raw = λ f. f;
        came_back = λ c. omega arith;
        ended = inl ((rule.sides.returns a app here).quiet quiet);
      };
    });
    here = sym none-now;
    others = others-same;
    pool = same_pool;
    free = λ c. omega (arith, free_places-hands (listed_bit words) c nic apps a app now here);
    kept = AreKept-app (listed_bit words) nic apps a app now here refl rule.kept;
    rings = rings-app setting words nic apps a app now here refl refl refl refl refl refl refl rule.rings;
  }
