-- What the desk has for each application's seat: it is given once, and is that of an application that has done nothing.
use Rattle.std.proofs.Common.{◌≡◌, ℕ, zero, suc, ◌+◌, ◌<◌, Bool, true, false, List, [], ◌∷◌, length, map, set, get_or, replicate, refl, ap, sym, ◌∙◌}
use Rattle.std.proofs.{Common.{subst, arith, Option, Some, None, is_none, IfSome}, Math.Nat.{zero-mod}}
use Rattle.std.proofs.lemmas.List.{map-set, get_or-map, set-get_or, get_or_default, length-replicate}
use Rattle.area_layout.specs.Layout.{all_buffers}
use Rattle.board_face.specs.{NicCalls.{apps_of}, Opened.{new_app}, declared.views.parts.Setting.{Setting}}
use Rattle.word_board.specs.Hands.{IsNew, AppKeeps}

module _ {A : Type 0} (nic : Bool) (hands : List (Option A)) (a : ℕ) where
  next : 1 + a ≡ suc a
  next = omega arith

  -- whether an application's seat was given
  pub given-at : a < length hands → get_or (nic ∷ map is_none hands) (1 + a) false ≡ is_none (get_or hands a None)
  given-at there = subst (λ n. get_or (nic ∷ map is_none hands) n false ≡ is_none (get_or hands a None)) (sym next) (get_or-map is_none hands a None false there)

  pub given-set : nic ∷ map is_none (set hands a None) ≡ set (nic ∷ map is_none hands) (1 + a) true
  given-set = subst (λ n. nic ∷ map is_none (set hands a None) ≡ set (nic ∷ map is_none hands) n true) (sym next)
      (ap (λ gs. nic ∷ gs) (map-set is_none hands a None))

  -- it was, where the desk has nothing for it,
  module _ (kept : Option A) (found : kept ≡ get_or hands a kept) (none : kept ≡ None) where
    at-none : None ≡ get_or hands a None
    at-none = subst (λ (k : Option A). k ≡ get_or hands a k) none found

    pub given-before : a < length hands → get_or (nic ∷ map is_none hands) (1 + a) false ≡ true
    given-before there = given-at there ∙ ap is_none (sym at-none)

    pub none-left : (after : Option A) → after ≡ None → set hands a after ≡ hands
    none-left after gone = ap (set hands a) (gone ∙ at-none) ∙ set-get_or hands a None

  -- and else it wasn't
  module _ (kept : Option A) (hand : A) (found : kept ≡ get_or hands a kept) (some : kept ≡ Some hand) (there : a < length hands) where
    pub at-some : get_or hands a None ≡ Some hand
    at-some = get_or_default hands a None kept there ∙ (sym found ∙ some)

    pub not-given : get_or (nic ∷ map is_none hands) (1 + a) false ≡ false
    not-given = given-at there ∙ ap is_none at-some

-- what is so of each seat that wasn't given stays so
pub rest-kept : {A : Type 0} (P : ℕ → A → Type 0) (hands : List (Option A)) (a : ℕ) → ((b : ℕ) → IfSome (get_or hands b None) (P b))
    → (b : ℕ) → IfSome (get_or (set hands a None) b None) (P b)
rest-kept P [] a was b = was b
rest-kept P (x ∷ xs) zero was zero = tt
rest-kept P (x ∷ xs) zero was (suc b) = was (suc b)
rest-kept P (x ∷ xs) (suc a) was zero = was zero
rest-kept P (x ∷ xs) (suc a) was (suc b) = rest-kept (λ n. P (suc n)) xs a (λ n. was (suc n)) b

-- ---- an application that has done nothing

none-counted : (n b : ℕ) → ◌≡◌ {A = ℕ} (get_or (replicate n 0) b 0) 0
none-counted zero b = refl
none-counted (suc n) zero = refl
none-counted (suc n) (suc b) = none-counted n b

pub AppKeeps-new : (setting : Setting) (a note entry : ℕ) (raw : Option ℕ) (loans lengths : List ℕ) → a < apps_of setting
    → IsNew setting note entry raw loans lengths → AppKeeps setting (new_app setting a) note entry raw loans lengths
AppKeeps-new setting a note entry raw loans lengths there new = record {
  set = refl;
  here = there;
  rests = record {
    making = refl;
    hands = refl;
    given = omega arith;
    looked = refl;
    searched = (refl, refl);
    owes = none-counted (all_buffers setting.layout);
    unbegun = λ _. refl;
    lists = λ _. record { took = length-replicate (all_buffers setting.layout) 0; owes = length-replicate (all_buffers setting.layout) 0 };
  };
  lies = record {
    helds = λ k d none. absurd (omega arith);
    loans = λ k d none. absurd (omega arith);
    spares = λ k d none. absurd (omega arith);
    texts = λ k d none. absurd (omega arith);
    apart = λ i j d less none. absurd (omega arith);
  };
  slots = record {
    next_note = new.slots.0 ∙ sym (zero-mod setting.places);
    next_entry = new.slots.1 ∙ sym (zero-mod setting.places);
    last_raw = rw new.slots.2 refl;
  };
  tokens = record {
    many = (
      ap length new.none_out ∙ length-replicate (all_buffers setting.layout) 0,
      ap length new.none_filled
          ∙ length-replicate (all_buffers setting.layout) 0,
    );
    out = λ b inside. ap (λ counts. get_or counts b 0) new.none_out ∙ none-counted (all_buffers setting.layout) b;
    lengths = λ k d none. absurd (omega arith);
  };
}
