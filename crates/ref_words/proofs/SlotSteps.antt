-- At a slot no count changes: neither holders nor users nor free places.
use Rattle.std.{proofs.Common.{◌≡◌, ℕ, ◌/◌, ◌%◌, List, [], get_or, refl, ap, sym, ◌∙◌, subst}, specs.{Prelude.{◌==◌}, Int.{bit_at}}}
use Rattle.board_face.specs.{Counts.{pool_count, user_count}, FreeOnce.{free_places, AreFreeOnce}, NicEvents.{word_bits}, Used.{AreKept}}
use Rattle.board_face.specs.declared.views.{parts.Setting.{Setting}, nic.NicSide.{NicSide}, app.AppSide.{AppSide}}
use Rattle.ref_words.{specs.{Words.{Words, WordsHaveSizes, listed_bit}, Sides.{SidesRule}, Rule.{RefRule}}, proofs.{RingSteps.{AllRings}, UserSteps.{AreFreeOnce-same}}}

-- the words differ in slots or in the area alone
pub record DifferInSlots (setting : Setting) (words words' : Words) : Type 0 where
  pub sizes : WordsHaveSizes setting words'
  pub pool : words'.pool ≡ words.pool
  pub users : words'.users ≡ words.users
  pub free : words'.free ≡ words.free

pub no-word : (setting : Setting) (words : Words) → WordsHaveSizes setting words → DifferInSlots setting words words
no-word setting words sizes = record { sizes = sizes; pool = refl; users = refl; free = refl }

-- What is to be known of the sides after the step.
pub record IsSlotStep (setting : Setting) (words words' : Words) (nic now : NicSide) (apps apps' : List AppSide) : Type 0 where
  pub sides : SidesRule setting now apps'
  pub pool : (b : ℕ) → pool_count b now apps' ≡ pool_count b nic apps
  pub users : (a b : ℕ) → user_count a b now apps' ≡ user_count a b nic apps
  pub free : (b : ℕ) → free_places (listed_bit words) b now apps' ≡ free_places (listed_bit words) b nic apps
  pub kept : AreKept (listed_bit words) now apps'
  pub rings : AllRings setting words' now apps'

pub RefRule-slot : (setting : Setting) (words words' : Words) (nic now : NicSide) (apps apps' : List AppSide) → RefRule setting words nic apps
    → DifferInSlots setting words words' → IsSlotStep setting words words' nic now apps apps' → RefRule setting words' now apps'
RefRule-slot setting words words' nic now apps apps' rule same step = record {
  layout = rule.layout;
  sizes = same.sizes;
  sides = step.sides;
  pool = λ b small. ap (λ ws. get_or ws b 0) same.pool ∙ (rule.pool b small ∙ sym (step.pool b));
  users = λ a b app small. ap (λ ws. get_or (get_or ws a []) b 0) same.users ∙ (rule.users a b app small ∙ sym (step.users a b));
  free = subst (λ f. AreFreeOnce (λ b. bit_at (get_or f (b / word_bits) 0) (b % word_bits) == 1) now apps') (sym same.free)
      (AreFreeOnce-same words nic now apps apps' (step.sides.set.card ∙ sym rule.sides.set.card) step.pool step.free rule.free);
  kept = subst (λ f. AreKept (λ b. bit_at (get_or f (b / word_bits) 0) (b % word_bits) == 1) now apps') (sym same.free) step.kept;
  rings = step.rings;
}
