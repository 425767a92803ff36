-- What the counts of an application say at its end.
use Rattle.std.proofs.Common.{◌≡◌, ◌≤◌, true, List, [], ◌∷◌, length, map, ap, arith}
use Rattle.zr_kinds.specs.declared.behaviour.Stopped.TheVariants as stop
use Rattle.board_face.specs.{Texts.{unsplit_bytes}, declared.views.app.{Origin.{Origin, TheVariants.{Note as of_note, Copied as of_copy}}, LentPiece.{LentPiece}}}
use Rattle.board_face.specs.declared.views.app.AppView.{AppView}
use Rattle.flow_queues.{specs.{Core.{total, is_copy, one_copy}, Totals.{lent_bytes, lent_len}}, proofs.Copying.{unsplit-is}}
use Rattle.app_worker.{specs.State.{State, Working, Bare, AppStands}, proofs.{StreamLemmas.{by-mode}, Accounts.{few-loans}}}

-- and of an application that came to its end as many bytes were appended
pub loans-few : (st : State) (v : AppView) → AppStands st v → st.bare ≡ true → st.stopped ≡ stop.No → st.loans ≤ st.written
loans-few st v stands is going = by-mode st.bare (Bare st v) (Working st v) (st.loans ≤ st.written) stands.mode
    (λ _ bare. omega (
      arith,
      stands.common.loans,
      stands.common.written,
      ap length bare.loans,
      bare.appended going,
      few-loans v.setting.layout v.returned stands.common.sound,
    ))
    (λ not _. absurd (cc))

-- no more bytes were appended than were lent
pub written-within : (st : State) (v : AppView) → AppStands st v → st.written ≤ lent_bytes v
written-within st v stands = by-mode st.bare (Bare st v) (Working st v) (st.written ≤ lent_bytes v) stands.mode
    (λ _ bare. omega (arith, stands.common.written, bare.within_lent))
    (λ _ works. omega (arith, stands.common.written, works.appended, works.stands.tokens.loans lent_len))

-- and no more than bytes came in the notes that were taken
pub copies-within : (st : State) (v : AppView) → AppStands st v → st.copied ≤ unsplit_bytes (map (λ t. t.note) v.taken)
copies-within st v stands = omega (arith, stands.common.copied, stands.common.spares, unsplit-is v.taken)

-- at most as many loans were copies as were lent
pub copies-few : (st : State) (v : AppView) → AppStands st v → st.copied ≤ st.loans
copies-few st v stands =
    let few : (ls : List LentPiece) → total is_copy ls ≤ length ls = few-copies in
    omega (arith, stands.common.copied, stands.common.loans, stands.common.copies, few v.loans, few v.returned)
  where
    one-most : (o : Origin) → one_copy o ≤ 1
    one-most (of_note note at) = omega arith
    one-most (of_copy bytes) = omega arith

    few-copies : (ls : List LentPiece) → total is_copy ls ≤ length ls
    few-copies [] = omega arith
    few-copies (l ∷ ls) = omega (arith, one-most l.origin, few-copies ls)
