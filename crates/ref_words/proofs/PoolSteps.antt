-- A pool count changes with the holders of its buffer.
use Rattle.std.{proofs.{Common.{◌≡◌, ℕ, ◌<◌, List, refl, sym, ◌∙◌, arith}, lemmas.List.{length-set}}, specs.Prelude.{◌≢◌}}
use Rattle.area_layout.specs.Layout.{all_buffers}
use Rattle.board_face.specs.{Counts.{pool_count, user_count}, FreeOnce.{AreFreeOnce}, Used.{AreKept}, declared.views.{parts.Setting.{Setting}, nic.NicSide.{NicSide}}}
use Rattle.board_face.specs.declared.views.app.AppSide.{AppSide}
use Rattle.ref_words.{specs.{Words.{Words, with_pool, listed_bit}, Sides.{SidesRule}, Rule.{RefRule}}, proofs.RingSteps.{AllRings, rings-words}}
use Rattle.zr_kinds.proofs.Lists.{counts-set}

-- What is to be known of the sides after the step, where the count of the buffer i becomes n.
pub record IsPoolStep (setting : Setting) (words : Words) (nic now : NicSide) (apps apps' : List AppSide) (i n : ℕ) : Type 0 where
  pub there : i < all_buffers setting.layout
  pub sides : SidesRule setting now apps'
  pub here : n ≡ pool_count i now apps'
  pub others : (b : ℕ) → b ≢ i → pool_count b now apps' ≡ pool_count b nic apps
  pub users : (a b : ℕ) → user_count a b now apps' ≡ user_count a b nic apps
  pub free : AreFreeOnce (listed_bit words) now apps'
  pub kept : AreKept (listed_bit words) now apps'
  pub rings : AllRings setting words now apps'

pub RefRule-pool : (setting : Setting) (words : Words) (nic now : NicSide) (apps apps' : List AppSide) (i n : ℕ) → RefRule setting words nic apps
    → IsPoolStep setting words nic now apps apps' i n → RefRule setting (with_pool words i n) now apps'
RefRule-pool setting words nic now apps apps' i n rule step = record {
  layout = rule.layout;
  sizes = assumption (length-set words.pool i n ∙ rule.sizes.pool, rule.sizes);
  sides = step.sides;
  pool = counts-set (all_buffers setting.layout) words.pool (λ x. pool_count x nic apps) (λ x. pool_count x now apps') i n (omega (
    arith,
    step.there,
    rule.sizes.pool,
  ))
      rule.pool step.here step.others;
  users = λ a b app small. rule.users a b app small ∙ sym (step.users a b);
  free = assumption step.free;
  kept = assumption step.kept;
  rings = rings-words setting words (with_pool words i n) now apps' refl refl step.rings;
}
