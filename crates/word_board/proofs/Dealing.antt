-- Seats that come, take their role, and go back.
use Rattle.std.proofs.Common.{◌≡◌, ◌≢◌, ⊎_elim, ℕ, ◌<◌, Bool, true, false, List, [], ◌∷◌, length, set, get_or, refl, ap, sym, ◌∙◌, arith, subst}
use Rattle.std.proofs.lemmas.{List.{get_or-set_same, get_or-set_other}, Bool.Decides.{eqb_tells}}
use mathlib.Core.Option.{some}
use lib.ListN.{get_elem?}
use Rattle.atomic_table.{specs.Table.{Me, keeps, Allows, Splits, Joins}, proofs.Lists.{set_else}}
use Rattle.board_face.{specs.declared.views.{parts.Setting.{Setting}, nic.NicSide.{NicSide}, app.AppSide.{AppSide}}, proofs.Tallies.{one_if}}
use Rattle.ref_words.specs.{declared.view.View.{View}, Words.{Words, roles_of, with_role, role_at, table_of}}
use Rattle.ref_words.specs.{Seated.{Seated, times_in, due_view, dealt_out, both_sides, no_role}, Laws.{SplitLaw, JoinLaw, TakesRole}, Rule.{BoardRule}}
use Rattle.ref_words.proofs.{Seating.{in-append}, Laying.{role-set, role-word}}
use Rattle.word_board.specs.Board.{IsBoard, HasDealt}

pub deals : SplitLaw → (setting : Setting) (r : ℕ) (v : View) → times_in {V = View} (λ v. v.dealt) (λ x. x) r v.dealt ≡ 0
    → Splits (IsBoard setting) 0 v (dealt_out r v) (due_view r)
deals law setting r v fresh s board at = record {
  words = board.words;
  nic = board.nic;
  apps = board.apps;
  laid = board.laid;
  lines = board.lines;
  seated = law setting board.words.roles s.views board.nic board.apps r v board.seated at fresh;
  rule = board.rule;
}

pub together : JoinLaw → (setting : Setting) (id other : ℕ) (v w : View) → w.due ≡ [] → w.dealt ≡ []
    → Joins (IsBoard setting) id v other w (both_sides v w) no_role
together law setting id other v w none out s board at ne at' = record {
  words = board.words;
  nic = board.nic;
  apps = board.apps;
  laid = board.laid;
  lines = board.lines;
  seated = law setting board.words.roles s.views board.nic board.apps id other v w board.seated at ne
      (sym (set_else s.views id other (both_sides v w) ne) ∙ at') none out;
  rule = board.rule;
}

-- The law of a role's word gives what the table asks of the swap.
pub takes : (setting : Setting) (slots id i r : ℕ) (w : View) → i ≡ role_at setting r → r < roles_of setting
    → ((words : Words) (views : List View) (nic : NicSide) (apps : List AppSide) → Seated setting words.roles views nic apps
    → BoardRule setting words nic apps → get_elem? views id ≡ some (due_view r) → TakesRole setting words (set views id w) nic apps r)
    → (me : Me (List ℕ) View) → me ≡ (due_view r, []) → Allows (IsBoard setting) slots id me i (λ _. 1) (λ n x. (x ≡ (w, me.1)) × (n ≡ 0))
takes setting slots id i r w is small law me due =
    subst (λ (x : Me (List ℕ) View). Allows (IsBoard setting) slots id x i (λ _. 1) (λ n y. (y ≡ (w, x.1)) × (n ≡ 0))) (sym due)
    (λ s board deep at few.
    let made = law board.words s.views board.nic board.apps board.seated board.rule at in
    let there : r < length board.words.roles = omega (arith, small, board.rule.refs.sizes.roles) in (
      w,
      keeps,
      tt,
      record {
        words = with_role board.words r;
        nic = board.nic;
        apps = board.apps;
        laid = ap (λ ws. set ws i 1) board.laid
            ∙ (ap (λ x. set (table_of board.words) x 1) is ∙ role-set setting board.words board.rule.refs.sizes r there);
        lines = board.lines;
        seated = made.seated;
        rule = made.rule;
      },
      (
        refl,
        ap (λ ws. get_or ws i 0) board.laid
            ∙ (ap (λ x. get_or (table_of board.words) x 0) is ∙ (role-word setting board.words board.rule.refs.sizes r there ∙ made.untaken)),
      ),
    ))

-- ---- what the desk gave

-- a role is given that wasn't: the desk's seat has dealt it out too
pub HasDealt-given : (given : List Bool) (v : View) (role : ℕ) → HasDealt given v → role < length given → get_or given role false ≡ false
    → HasDealt (set given role true) (dealt_out role v)
HasDealt-given given v role dealt there fresh r =
    let more = in-append {V = View} (λ (v : View). v.dealt) (λ x. x) r v.dealt (role ∷ []) in
    ⊎_elim
    (λ t. let e : role ≡ r = t.1 in
    omega (
      arith,
      more,
      dealt r,
      ap one_if t.0,
      ap (λ n. one_if (get_or given n false)) (sym e),
      ap one_if fresh,
      ap (λ n. one_if (get_or (set given role true) n false)) (sym e),
      ap one_if (get_or-set_same given role true false there),
    ))
    (λ t. let ne : role ≢ r = t.1 in
    omega (arith, more, dealt r, ap one_if t.0, ap one_if (get_or-set_other given role r true false (λ e. ne (sym e)))))
    (eqb_tells role r)

pub undealt : (given : List Bool) (v : View) (role : ℕ) → HasDealt given v → get_or given role false ≡ false
    → times_in {V = View} (λ v. v.dealt) (λ x. x) role v.dealt ≡ 0
undealt given v role dealt fresh = dealt role ∙ ap one_if fresh
