-- Once its entries were dealt with, an application that has nothing of its reserve unread holds nothing there.
use Rattle.std.{proofs.Common.{◌≡◌, ◌≢◌, ℕ, ◌+◌, ◌==◌, Bool, true, false, List, [], ◌∷◌, refl, ap, ◌∙◌, arith}, specs.Prelude.{count_by, Some}}
use Rattle.zr_kinds.specs.declared.ring.{Completion.{Completion}, Rqe.{Rqe}}
use Rattle.area_layout.{specs.Layout.{Shape, IsLayout, judged}, proofs.Words.{place_judged}}
use Rattle.board_face.specs.{AppEvents.{app_gist, entry_of, reserve_of}, Counts.{user_count}, Returns.{entries_on_way, returns, is_some_of, loans_out, abandoned_in}}
use Rattle.board_face.specs.{Sides.{IsApp}, declared.views.app.{LentPiece.{LentPiece}, TakenNote.{TakenNote}, WrittenEntry.{WrittenEntry}, AppSide.{AppSide}}}
use Rattle.board_face.proofs.{Parts.{count-tally, returned_in-count}, Tallies.{tally, tally-map}}
use Rattle.plain_board.specs.{Board.{Board, stand_of, others_of}, Seen.{HoldsReserve, all_app_sides}, Sound.{IsSound}, Users.{IsMadeOfLoans}}
use Rattle.plain_board.proofs.{AppFrames.{has-setting}, OwnSide.{seen-users}, Reserves.{users-are_loans}}
use Rattle.flow_queues.{specs.{declared.queues.Lending.{Lending}, Entries.{loans_of, lies_in}}, proofs.Tokens.{total-append, even-lies, even-bytes}}
use Rattle.app_worker.specs.{Core.{total, Each, is_odd, lent_piece, over_read, read_out}, State.{State, Common, Working, LiesOutside, odd_loans}, Turns.{IsCaughtUp}}
use Rattle.app_worker.proofs.Flushing.{lies-away}

-- ---- loans

tally-lies : (b : ℕ) (loans : List LentPiece) → tally (λ l. l.place.buffer == b) loans ≡ total (lies_in b) loans
tally-lies b [] = refl
tally-lies b (l ∷ loans) = ap (λ n. lies_in b l + n) (tally-lies b loans)

-- none of these lies there
unread-none : (b : ℕ) (taken : List TakenNote) (unread : List (Completion × Lending)) → Each (LiesOutside b) unread
    → total (λ (p : Completion × Lending). lies_in b (lent_piece taken p.1)) unread ≡ 0
unread-none b taken [] each = refl
unread-none b taken (p ∷ unread) each = omega (arith, unread-none b taken unread each.1, lies-away b (lent_piece taken p.1) each.0)

leaked-none : (b : ℕ) (taken : List TakenNote) (leaked : List Lending) → Each (λ (l : Lending). l.loan.buffer ≢ b) leaked
    → over_read taken (lies_in b) leaked ≡ 0
leaked-none b taken [] each = refl
leaked-none b taken (l ∷ leaked) each = omega (arith, leaked-none b taken leaked each.1, lies-away b (lent_piece taken l) each.0)

-- ---- entries of loans

abbrev names-one : Shape → ℕ → Rqe → Bool
names-one layout b entry = is_some_of (judged layout entry) b

written-case : (layout : Shape) (b : ℕ) (of_loan : Bool) (entry : Rqe) (ws : List WrittenEntry)
    → tally (returns layout b) ws ≡ tally (names-one layout b) (loans_of ws)
    → tally (returns layout b) (record { entry = entry; of_loan = of_loan } ∷ ws)
    ≡ tally (names-one layout b) (loans_of (record { entry = entry; of_loan = of_loan } ∷ ws))
written-case layout b true entry ws rest = omega (arith, rest)
written-case layout b false entry ws rest = omega (arith, rest)

-- the entries of loans that name a buffer
written-loans : (layout : Shape) (b : ℕ) (ws : List WrittenEntry) → tally (returns layout b) ws ≡ tally (names-one layout b) (loans_of ws)
written-loans layout b [] = refl
written-loans layout b (w ∷ ws) = written-case layout b w.of_loan w.entry ws (written-loans layout b ws)

-- are as many as the loans there that were given back by them
named-loans : (layout : Shape) (b : ℕ) (loans : List LentPiece) → IsLayout layout → odd_loans layout loans ≡ 0
    → tally (λ (l : LentPiece). names-one layout b (entry_of layout l.place)) loans ≡ tally (λ l. l.place.buffer == b) loans
named-loans layout b [] laid odd = refl
named-loans layout b (l ∷ loans) laid odd =
    let even : is_odd layout l.place ≡ 0 = omega (arith, odd) in
    let rest : odd_loans layout loans ≡ 0 = omega (arith, odd) in
    let lies = even-lies layout l.place even in
    let some = (even-bytes layout l.place even).0 in
    let named : judged layout (entry_of layout l.place) ≡ Some l.place.buffer =
    place_judged layout l.place l.place.len laid lies (let bytes = lies.bytes in omega (arith, bytes, some)) in
    let one : names-one layout b (entry_of layout l.place) ≡ (l.place.buffer == b) = ap (λ o. is_some_of o b) named in
    rw (one, named-loans layout b loans laid rest) refl

-- ---- the reserve

module _ (board : Board) (a : ℕ) (x : AppSide) (st : State) (sound : IsSound (stand_of board)) (here : IsApp board.apps a x) (works : Working st x.view)
    (common : Common st x.view) (caught : IsCaughtUp st x.view) (empty : entries_on_way board.nic x ≡ []) where
  none-out : loans_out (reserve_of x.view) x ≡ 0
  none-out =
      let b = reserve_of x.view in
      let lies : LentPiece → ℕ = lies_in b in
      let over : (Completion × Lending) → ℕ = λ p. lies (lent_piece x.view.taken p.1) in
      omega (
        arith,
        count-tally (λ (l : LentPiece). l.place.buffer == b) x.view.loans,
        tally-lies b x.view.loans,
        works.stands.tokens.loans lies,
        total-append over st.unread st.posted.entries,
        unread-none b x.view.taken st.unread caught.reserve,
        ap (total over) caught.posted,
        ap (λ d. over_read x.view.taken lies (read_out d st.leaked.items)) caught.given,
        leaked-none b x.view.taken st.leaked.items common.leak_aside,
      )

  laid : IsLayout x.view.setting.layout
  laid = rw (has-setting (stand_of board) a x x sound here) sound.sizes.layout

  none-abandoned : abandoned_in (reserve_of x.view) x ≡ 0
  none-abandoned =
      let b = reserve_of x.view in
      let layout = x.view.setting.layout in
      let entries : tally (names-one layout b) (loans_of x.view.written)
      ≡ tally (λ (l : LentPiece). names-one layout b (entry_of layout l.place)) x.view.returned =
      ap (tally (names-one layout b)) works.given ∙ tally-map (names-one layout b) (λ (l : LentPiece). entry_of layout l.place) x.view.returned in
      omega (
        arith,
        count-tally (returns layout b) x.view.written,
        written-loans layout b x.view.written,
        entries,
        named-loans layout b x.view.returned laid common.sound,
        returned_in-count b x,
      )

  no-users : user_count a (reserve_of x.view) board.nic board.apps ≡ 0
  no-users =
      let b = reserve_of x.view in
      let made : IsMadeOfLoans (stand_of board) a b x = users-are_loans (stand_of board) sound a b x here in
      omega (arith, made.users, made.owed none-abandoned, none-out, ap (λ ws. count_by (returns x.view.setting.layout b) ws) empty)

  pub not-held : HoldsReserve (app_gist x.view) (others_of board a) → ⊥
  not-held holds =
      let b = reserve_of x.view in
      let users : user_count x.view.app b board.nic (all_app_sides (app_gist x.view) (others_of board a)) ≡ 0 =
      seen-users (stand_of board) a x sound here x.view.app b ∙ (ap (λ n. user_count n b board.nic board.apps) here.number ∙ no-users) in
      let spares = ap (λ own. count_by (λ s. s.own.buffer == b) own) common.owns in
      let held = holds.held in
      let own = holds.own in
      omega (arith, held, own, users, spares)
