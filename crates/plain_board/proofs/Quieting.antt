-- An application asks whether its refill slots are free: as many entries lie there as are on their way.
use Rattle.std.proofs.Common.{◌≡◌, ℕ, Bool, true, false, List, length, set, refl, ap, sym, ◌∙◌, arith, length-append, length-drop}
use Rattle.std.{specs.Prelude.{◌==◌, if◌then◌else◌}, proofs.lemmas.{List.{length-map, nil_from_length}, Bool.{eqb-true}}}
use Rattle.zr_kinds.specs.declared.ring.Rqe.{Rqe}
use Rattle.board_face.specs.{Sides.{IsApp, app_at}, Looks.{AppTold}, Relay.{Relayed}, AppEvents.{app_saw, app_gist, fell_quiet}}
use Rattle.board_face.specs.declared.views.{app.{AppLook.TheVariants.{NotQuiet}, TakenNote.{TakenNote}, AppView.{AppView}, AppSide.{AppSide}}, nic.NicSide.{NicSide}}
use Rattle.board_face.proofs.LookLemmas.{AppTold-none, AppTold-one}
use Rattle.plain_board.{specs.{Stand.{Stand, others_of}, Returns.{entries_on_way}, Seen.{IsSeenBy}, Sound.{IsSound, refills_of}}, proofs.AppFrames.{was-phased}}
use Rattle.plain_board.proofs.{AppTold.{IsSound-told, IsSound-looked}, Settling.{is-some}}

-- as many entries lie in the slots as are on their way
pub entries-many : (nic : NicSide) (app : AppSide) (ns : List TakenNote) (es : List Rqe) → Relayed nic app ns es
    → length (entries_on_way nic app) ≡ length es
entries-many nic app ns es relayed =
    let e = simp (length-append, length-map) at (ap length relayed.entries) in
    simp (length-drop, length-map) (omega (arith, e))

abbrev pub quiet_if : AppView → Bool → AppView
quiet_if v quiet = if quiet then fell_quiet v else app_saw v NotQuiet

module _ (board : Stand) (a : ℕ) (x : AppSide) (sound : IsSound board) (here : IsApp board.apps a x) where
  many : length (entries_on_way board.nic x) ≡ length (refills_of board.arrays a)
  many = entries-many board.nic x _ _ (sound.relayed.relayed a x here)

  pub IsSound-quiet : (quiet : Bool) → quiet ≡ (length (refills_of board.arrays a) == 0)
      → IsSound (record { arrays = board.arrays; nic = board.nic; apps = set board.apps a (app_at x (quiet_if x.view quiet)) })
  IsSound-quiet true is =
      let none = nil_from_length (entries_on_way board.nic x) (many ∙ eqb-true (length (refills_of board.arrays a)) 0 (sym is)) in
      IsSound-told board a x sound here x.view.settled true x.view.ended x.view.looks (sound.returns a x here).settled (λ e. none)
      (was-phased board a x x sound here).ended (λ e. e)
  IsSound-quiet false is = IsSound-looked board a x NotQuiet sound here

  pub told-quiet : (quiet : Bool) → quiet ≡ (length (refills_of board.arrays a) == 0)
      → AppTold (λ look. IsSeenBy look (app_gist x.view) (others_of board a)) x.view (quiet_if x.view quiet)
  told-quiet true is = AppTold-none (λ look. IsSeenBy look (app_gist x.view) (others_of board a)) x.view (fell_quiet x.view) refl
  told-quiet false is =
      AppTold-one (λ look. IsSeenBy look (app_gist x.view) (others_of board a)) x.view (app_saw x.view NotQuiet) NotQuiet refl
      (omega (arith, many, is-some (length (refills_of board.arrays a)) (sym is)))
