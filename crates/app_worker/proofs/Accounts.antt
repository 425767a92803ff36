-- What is said of the loans that an application doesn't have any more.
use Rattle.std.proofs.Common.{◌≡◌, ℕ, ◌+◌, ◌≤◌, List, [], ◌∷◌, ◌++◌, length, ap, ◌∙◌, arith}
use Rattle.area_layout.specs.Layout.{Shape}
use Rattle.board_face.specs.declared.views.{parts.Setting.{Setting}, app.{LentPiece.{LentPiece}, AppView.{AppView}}}
use Rattle.flow_queues.{specs.{Core.{total, is_odd, LieApart}, Totals.{lent_len}}, proofs.Tokens.{total-append, some-bytes}}
use Rattle.app_worker.specs.State.{odd_loans}

-- ---- each had a byte

-- one that was out went
pub sound-gave : (old new : AppView) (x : LentPiece) → new.returned ≡ old.returned ++ x ∷ [] → new.setting ≡ old.setting → LieApart old
    → ((f : LentPiece → ℕ) → total f new.loans + f x ≡ total f old.loans) → odd_loans old.setting.layout old.returned ≡ 0
    → odd_loans new.setting.layout new.returned ≡ 0
sound-gave old new x returned setting lie loans sound =
    let odd : LentPiece → ℕ = λ l. is_odd old.setting.layout l.place in
    ap (λ (s : Setting). odd_loans s.layout new.returned) setting ∙ ap (total odd) returned
    ∙ omega (arith, total-append odd old.returned (x ∷ []), loans odd, lie.some, sound)

-- all that were out went
pub sound-gone : (old new : AppView) → new.setting ≡ old.setting → LieApart old
    → ((f : LentPiece → ℕ) → total f new.returned ≡ total f old.returned + total f old.loans) → odd_loans old.setting.layout old.returned ≡ 0
    → odd_loans new.setting.layout new.returned ≡ 0
sound-gone old new setting lie back sound =
    let odd : LentPiece → ℕ = λ l. is_odd old.setting.layout l.place in
    ap (λ (s : Setting). odd_loans s.layout new.returned) setting ∙ omega (arith, back odd, lie.some, sound)

-- so there are at most as many as bytes
pub few-loans : (layout : Shape) (loans : List LentPiece) → odd_loans layout loans ≡ 0 → length loans ≤ total lent_len loans
few-loans layout [] sound = omega arith
few-loans layout (l ∷ loans) sound =
    let here : is_odd layout l.place ≡ 0 = omega (arith, sound) in
    omega (arith, some-bytes layout l.place here, few-loans layout loans (omega (arith, sound)))
