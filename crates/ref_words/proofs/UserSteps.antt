-- A user count changes with the loans of its application in its buffer.
use Rattle.std.{proofs.Common.{◌≡◌, ⊎_elim, ℕ, ◌<◌, List, [], length, set, get_or, refl, ap, sym, ◌∙◌, arith, subst}, specs.Prelude.{◌≢◌, ◌==◌, if◌then◌else◌}}
use Rattle.std.proofs.lemmas.{List.{length-set, get_or-set_same, get_or-set_other, Elements.{All-set, All-get_or}}, Bool.Decides.{eqb_tells}}
use Rattle.area_layout.specs.Layout.{all_buffers}
use Rattle.board_face.specs.{NicCalls.{apps_of}, Counts.{pool_count, user_count}, FreeOnce.{free_places, AreFreeOnce}, Used.{AreKept}}
use Rattle.board_face.specs.declared.views.{parts.Setting.{Setting}, nic.NicSide.{NicSide}, app.AppSide.{AppSide}}
use Rattle.ref_words.{specs.{Words.{Words, with_user, user_word_of, listed_bit}, Sides.{SidesRule}, Rule.{RefRule}}, proofs.RingSteps.{AllRings, rings-words}}

-- What is to be known of the sides after the step, where the count of the application a for the buffer b becomes n.
pub record IsUserStep (setting : Setting) (words : Words) (nic now : NicSide) (apps apps' : List AppSide) (a b n : ℕ) : Type 0 where
  pub app : a < apps_of setting
  pub there : b < all_buffers setting.layout
  pub sides : SidesRule setting now apps'
  pub here : n ≡ user_count a b now apps'
  pub others : (x c : ℕ) → ((x ≡ a) × (c ≡ b) → ⊥) → user_count x c now apps' ≡ user_count x c nic apps
  pub pool : (c : ℕ) → pool_count c now apps' ≡ pool_count c nic apps
  pub free : (c : ℕ) → free_places (listed_bit words) c now apps' ≡ free_places (listed_bit words) c nic apps
  pub kept : AreKept (listed_bit words) now apps'
  pub rings : AllRings setting words now apps'

-- neither holders nor free places changed
pub AreFreeOnce-same : (words : Words) (nic now : NicSide) (apps apps' : List AppSide) → now.view.setting ≡ nic.view.setting
    → ((c : ℕ) → pool_count c now apps' ≡ pool_count c nic apps)
    → ((c : ℕ) → free_places (listed_bit words) c now apps' ≡ free_places (listed_bit words) c nic apps)
    → AreFreeOnce (listed_bit words) nic apps → AreFreeOnce (listed_bit words) now apps'
AreFreeOnce-same words nic now apps apps' setting pool same free = record {
  pool = λ c small. same c ∙ (free.pool c (rw (← setting) small) ∙ ap (λ n. if n == 0 then 1 else 0) (sym (pool c)));
  reserves = λ c past. same c ∙ free.reserves c (rw (← setting) past);
}

module _ (setting : Setting) (words : Words) (nic now : NicSide) (apps apps' : List AppSide) (a b n : ℕ) (rule : RefRule setting words nic apps)
    (step : IsUserStep setting words nic now apps apps' a b n) where
  abbrev row : List ℕ
  row = get_or words.users a []

  in_users : a < length words.users
  in_users = let s = step.app in omega (arith, rule.sizes.users)

  row-length : length row ≡ all_buffers setting.layout
  row-length = All-get_or (λ r. length r ≡ all_buffers setting.layout) words.users a [] in_users rule.sizes.rows

  -- the row of the application, and its word for the buffer
  users-set : (x c : ℕ) → x < apps_of setting → c < all_buffers setting.layout → user_word_of (with_user words a b n) x c ≡ user_count x c now apps'
  users-set x c is_app small =
      ⊎_elim
      (λ t. let e : x ≡ a = t.1 in
      let here : user_word_of (with_user words a b n) x c ≡ get_or (set row b n) c 0 =
      subst (λ y. user_word_of (with_user words a b n) y c ≡ get_or (set row b n) c 0) (sym e)
      (ap (λ r. get_or r c 0) (get_or-set_same words.users a (set row b n) [] in_users)) in
      ⊎_elim
      (λ u. let f : c ≡ b = u.1 in
      let same : get_or (set row b n) b 0 ≡ n = get_or-set_same row b n 0 (omega (arith, row-length, step.there)) in
      here ∙ (ap (λ y. get_or (set row b n) y 0) f ∙ (same
      ∙ (step.here ∙ (ap (λ y. user_count y b now apps') (sym e) ∙ ap (λ y. user_count x y now apps') (sym f))))))
      (λ u. let ne : c ≢ b = u.1 in
      here ∙ (get_or-set_other row b c n 0 ne
      ∙ (ap (λ y. get_or (get_or words.users y []) c 0) (sym e) ∙ (rule.users x c is_app small ∙ sym (step.others x c (λ both. ne both.1))))))
      (eqb_tells c b))
      (λ t. let ne : x ≢ a = t.1 in
      ap (λ r. get_or r c 0) (get_or-set_other words.users a x (set row b n) [] ne)
      ∙ (rule.users x c is_app small ∙ sym (step.others x c (λ both. ne both.0))))
      (eqb_tells x a)

  pub RefRule-user : RefRule setting (with_user words a b n) now apps'
  RefRule-user = record {
    layout = rule.layout;
    sizes = assumption (
      length-set words.users a (set row b n) ∙ rule.sizes.users,
      All-set (λ r. length r ≡ all_buffers setting.layout) words.users a (set row b n) (length-set row b n ∙ row-length) rule.sizes.rows,
      rule.sizes,
    );
    sides = step.sides;
    pool = λ c small. rule.pool c small ∙ sym (step.pool c);
    users = users-set;
    free = assumption (AreFreeOnce-same words nic now apps apps' (step.sides.set.card ∙ sym rule.sides.set.card) step.pool step.free rule.free);
    kept = assumption step.kept;
    rings = rings-words setting words (with_user words a b n) now apps' refl refl step.rings;
  }
