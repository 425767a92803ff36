-- What a step tells its role: the board of words that it found is one with what the role did.
use Rattle.std.{proofs.Common.{◌≡◌, ℕ, ◌≤◌, Bool, true, false, List, refl, ap, sym, ◌∙◌, subst, arith, ⊎_elim, Option, Some, None}, specs.Prelude.{nat_lt, IfNone}}
use Rattle.std.proofs.lemmas.Bool.{lt-ltb, cases_lt, false≢true}
use Rattle.area_layout.specs.Layout.{pool_buffers}
use Rattle.board_face.{specs.{NicEvents.{nic_gist}, AppEvents.{app_gist, looks_by_spare}, Looks.{AppTold}}, proofs.LookLemmas.{AppTold-none, AppTold-one}}
use Rattle.board_face.specs.declared.answers.Polled.{Polled, TheVariants.{Note as got_note, Linear as got_linear, Empty as got_none, Ended as got_end}}
use Rattle.board_face.specs.{declared.views.app.{AppLook.{AppLook, TheVariants.{NoNote, CardEnded, NoneListed}}, AppView.{AppView}}, Sides.{IsApp}}
use Rattle.board_face.specs.declared.views.{parts.Setting.{Setting}, nic.NicSide.{NicSide}, app.AppSide.{AppSide}}
use Rattle.ref_words.specs.{Words.{Words}, Rule.{BoardRule}}
use Rattle.word_board.specs.{Board.{TheBoard}, Polls.{Polls}, Spares.{TookSpare}, Told.{IsToldToCard, IsToldToApp, AppTells, SawNoneListed, IsFirstSeen}}

pub tells-card : (setting : Setting) (words : Words) (mine : NicSide) (apps : List AppSide) → BoardRule setting words mine apps
    → (so : Words → NicSide → Type 0) → so words mine → IsToldToCard setting (nic_gist mine.view) so
tells-card setting words mine apps rule so is = record { words = words; nic = mine; apps = apps; rule = rule; same = refl; holds = is }

pub tells-app : (setting : Setting) (words : Words) (nic : NicSide) (apps : List AppSide) (mine : AppSide) → BoardRule setting words nic apps
    → IsApp apps mine.view.app mine → (so : Words → AppSide → Type 0) → so words mine → IsToldToApp setting (app_gist mine.view) so
tells-app setting words nic apps mine rule here so is = record {
  words = words;
  nic = nic;
  apps = apps;
  app = mine;
  rule = rule;
  here = here;
  same = refl;
  holds = is;
}

-- ---- what a call tells, by its answer

pub told-polled : (is_so : AppLook → Type 0) (old new : AppSide) (linear : List ℕ) (answer : Polled) → Polls old new linear answer
    → (answer ≡ got_none → is_so NoNote) → is_so CardEnded → AppTold is_so old.view new.view
told-polled is_so old new linear (got_note note held) p none over = AppTold-none is_so old.view new.view (ap (λ (x : AppSide). x.view.looks) p.event)
told-polled is_so old new linear (got_linear note) p none over = AppTold-none is_so old.view new.view (ap (λ (x : AppSide). x.view.looks) p.event)
told-polled is_so old new linear got_none p none over =
    AppTold-one is_so old.view new.view NoNote (ap (λ (x : AppSide). x.view.looks) p.event) (none refl)
told-polled is_so old new linear got_end p none over =
    AppTold-one is_so old.view new.view CardEnded (ap (λ (x : AppSide). x.view.looks) p.event) over

-- a spare that is the reserve comes where each word was seen to have none
spare-by : (is_so : AppLook → Type 0) (old new : AppView) (of_pool : Bool) → new.looks ≡ looks_by_spare of_pool old.looks
    → (of_pool ≡ false → is_so NoneListed) → AppTold is_so old new
spare-by is_so old new true looks none = AppTold-none is_so old new looks
spare-by is_so old new false looks none = AppTold-one is_so old new NoneListed looks (none refl)

pub told-spare : (setting : Setting) (board : TheBoard) (old new : AppSide) (buffer : ℕ) → board.setting ≡ setting → old.view.setting ≡ setting
    → TookSpare old new buffer → IsFirstSeen setting (app_gist old.view) buffer
    → AppTold (λ look. AppTells look (app_gist old.view) board) old.view new.view
told-spare setting board old new buffer of_board set took seen =
    let n = pool_buffers old.view.setting.layout in
    spare-by (λ look. AppTells look (app_gist old.view) board) old.view new.view (nat_lt buffer n)
    (ap (λ (x : AppSide). x.view.looks) took.event)
    (λ reserve.
    let past : n ≤ buffer = ⊎_elim (λ less. absurd (false≢true (sym reserve ∙ lt-ltb buffer n less))) (λ more. omega (arith, more)) (cases_lt buffer n) in
    subst (λ s. SawNoneListed s (app_gist old.view)) (sym of_board)
    (λ j small. seen.before j (omega (arith, small, seen.nowhere (omega (arith, past, ap (λ (s : Setting). pool_buffers s.layout) set))))))

-- an empty answer holds what is so
pub if-none : {A : Type 0} (answer : Option A) (P : Type 0) → P → IfNone answer P
if-none None P p = p
if-none (Some x) P p = tt
