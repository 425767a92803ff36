-- A scrub, buffer by buffer.
use Rattle.std.proofs.Common.{◌≡◌, ⊎_elim, ℕ, ◌+◌, ◌<◌, Bool, true, false, List, length, set, get_or, ap, sym, ◌∙◌, arith}
use Rattle.std.{specs.Prelude.{◌≢◌, ◌==◌, nat_eq, slice_index}, proofs.lemmas.Bool.Decides.{eqb_tells}}
use Rattle.std.proofs.lemmas.List.{length-set, get_or-set_same, get_or-set_other, set-get_or}
use Rattle.area_layout.specs.Layout.{all_buffers}
use Rattle.board_face.specs.{Steps.{side_user_taken, side_owes_lowered}, declared.views.{parts.Setting.{Setting}, app.AppSide.{AppSide}}}
use Rattle.board_face.proofs.ListLemmas.{eqb_same, not-eqb}
use Rattle.ref_words.specs.Sides.{HasScrubLists}
use Rattle.word_board.specs.Board.{ScrubbedOne, ScrubbedAll}

-- where nothing was owed of a buffer, nothing is to be taken from its pool count
pub took-nothing : (setting : Setting) (old : AppSide) (b n : ℕ) → n ≡ 0 → HasScrubLists setting old → b < all_buffers setting.layout
    → slice_index old.inside.scrub_owes b ≡ 0 → side_user_taken old b n ≡ side_owes_lowered (side_user_taken old b 0) b false
took-nothing setting old b n none lists within clear =
    let side : AppSide = side_user_taken old b 0 in
    let owes : List ℕ = side.inside.scrub_owes in
    let zero : get_or owes b 0 ≡ 0 = get_or-set_same old.inside.scrub_owes b _ 0 (omega (arith, within, lists.owes)) ∙ omega (arith, clear) in
    let same : set owes b 0 ≡ owes = ap (set owes b) (sym zero) ∙ set-get_or owes b 0 in
    ap (side_user_taken old b) none ∙ ap (λ xs. record side { inside = record side.inside { scrub_owes = xs } }) (sym same)

-- The buffers below this one are scrubbed.
pub record IsScrubbedBelow (setting : Setting) (first now : AppSide) (k : ℕ) : Type 0 where
  pub event : now ≡ record {
    view = record first.view { scrubbed = k == all_buffers setting.layout };
    inside = record first.inside { scrub_mark = k; scrub_took = now.inside.scrub_took; scrub_owes = now.inside.scrub_owes };
  }
  pub lists : HasScrubLists setting now
  pub clear : (b : ℕ) → slice_index now.inside.scrub_owes b ≡ 0

cleared : (owes : List ℕ) (k n c : ℕ) → k < length owes → get_or owes c 0 ≡ 0 → get_or (set (set owes k n) k 0) c 0 ≡ 0
cleared owes k n c there zero =
    ⊎_elim
    (λ t. let e : c ≡ k = t.1 in
    ap (λ x. get_or (set (set owes k n) k 0) x 0) e ∙ get_or-set_same (set owes k n) k 0 0 (omega (arith, there, length-set owes k n)))
    (λ t. let ne : c ≢ k = t.1 in get_or-set_other (set owes k n) k c 0 0 ne ∙ (get_or-set_other owes k c n 0 ne ∙ zero))
    (eqb_tells c k)

-- the side with a scrub that came so far
abbrev scrubbed_to : AppSide → Bool → ℕ → List ℕ → List ℕ → AppSide
scrubbed_to first done k took owes = record {
  view = record first.view { scrubbed = done };
  inside = record first.inside { scrub_mark = k; scrub_took = took; scrub_owes = owes };
}

pub IsScrubbedBelow-more : (setting : Setting) (first now next : AppSide) (k : ℕ) → first.view.setting ≡ setting
    → k < all_buffers setting.layout → IsScrubbedBelow setting first now k → ScrubbedOne now next k → IsScrubbedBelow setting first next (k + 1)
IsScrubbedBelow-more setting first now next k sets within below one = record {
  event =
      let done : AppSide = side_owes_lowered (side_user_taken now k one.took) k false in
      let last : Bool = nat_eq (k + 1) (all_buffers setting.layout) in
      one.event
      ∙ (ap (λ x. side_owes_lowered (side_user_taken x k one.took) k false) below.event
      ∙ (ap (λ s. scrubbed_to first (nat_eq (k + 1) (all_buffers s.layout)) (k + 1) done.inside.scrub_took done.inside.scrub_owes) sets
      ∙ (ap (λ xs. scrubbed_to first last (k + 1) xs done.inside.scrub_owes) (sym (ap (λ s. s.inside.scrub_took) one.event))
      ∙ ap (scrubbed_to first last (k + 1) next.inside.scrub_took) (sym (ap (λ s. s.inside.scrub_owes) one.event)))));
  lists = record {
    took = ap (λ s. length s.inside.scrub_took) one.event ∙ (length-set now.inside.scrub_took k _ ∙ below.lists.took);
    owes = ap (λ s. length s.inside.scrub_owes) one.event
        ∙ (length-set (set now.inside.scrub_owes k _) k 0 ∙ (length-set now.inside.scrub_owes k _ ∙ below.lists.owes));
  };
  clear = λ c. ap (λ s. get_or s.inside.scrub_owes c 0) one.event
      ∙ cleared now.inside.scrub_owes k _ c (omega (arith, within, below.lists.owes)) (below.clear c);
}

-- before the first one
pub IsScrubbedBelow-none : (setting : Setting) (first : AppSide) → 0 < all_buffers setting.layout → first.view.scrubbed ≡ false
    → first.inside.scrub_mark ≡ 0 → HasScrubLists setting first → ((b : ℕ) → slice_index first.inside.scrub_owes b ≡ 0)
    → IsScrubbedBelow setting first first 0
IsScrubbedBelow-none setting first some counted mark lists clear = record {
  event = ap (λ c. scrubbed_to first c first.inside.scrub_mark first.inside.scrub_took first.inside.scrub_owes)
      (counted ∙ sym (not-eqb 0 (all_buffers setting.layout) (λ e. absurd (omega (arith, e, some)))))
      ∙ ap (λ k. scrubbed_to first (0 == all_buffers setting.layout) k first.inside.scrub_took first.inside.scrub_owes) mark;
  lists = record { took = lists.took; owes = lists.owes };
  clear = clear;
}

-- and behind the last one
pub IsScrubbedBelow-all : (setting : Setting) (first now : AppSide) → first.view.setting ≡ setting
    → IsScrubbedBelow setting first now (all_buffers setting.layout) → ScrubbedAll first now
IsScrubbedBelow-all setting first now sets below = record {
  took = now.inside.scrub_took;
  owes = now.inside.scrub_owes;
  event = below.event
      ∙ (ap (λ c. scrubbed_to first c (all_buffers setting.layout) now.inside.scrub_took now.inside.scrub_owes) (eqb_same (all_buffers setting.layout))
      ∙ ap (λ s. scrubbed_to first true (all_buffers s.layout) now.inside.scrub_took now.inside.scrub_owes) (sym sets));
  clear = below.clear;
}
