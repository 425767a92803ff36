-- Phases stay told by each step at the lines of the area.
use Rattle.std.{proofs.{Common.{ℕ, List, length, refl, set}, lemmas.List.Elements.{All-contains, All-push}}, specs.Prelude.{◌<◌, Option}}
use Rattle.area_layout.specs.Layout.{pool_buffers}
use Rattle.board_face.specs.FineSteps.{side_text_done}
use Rattle.board_face.specs.{NicCalls.{HasOwn}, AppCalls.{HasSpare}, Sides.{IsApp}, Tokens.{filled_by}, declared.views.parts.Setting.{Setting}}
use Rattle.board_face.specs.declared.views.{parts.{Filling.{Filling}, Making.{Making}}, nic.{NicSide.{NicSide}, PlacedText.{PlacedText}}}
use Rattle.board_face.{specs.declared.views.app.{Reading.{Reading}, AppSide.{AppSide}}, proofs.OwnBufferLemmas.{AppLiesInOwn-filled}}
use Rattle.ref_words.specs.{Words.{Words}, AreaSteps.{side_spare_filled}, Rule.{RefRule}}
use Rattle.ref_words.{specs.PhaseRule.{PhaseRule}, proofs.{Phases.{phases-open, phases-mine, phases-here, phases-kept}, PhasesByCard.{own-open}}}
use Rattle.ref_words.proofs.PhasesByApp.{spare-here}

module _ (setting : Setting) (words : Words) (nic : NicSide) (apps : List AppSide) (rule : RefRule setting words nic apps)
    (was : PhaseRule setting words nic apps) where
  pub piece_placed-phases : (own : Filling) (bytes : List ℕ) → HasOwn nic.view (filled_by own (length bytes))
      → PhaseRule setting words (side_text_done nic own bytes) apps
  piece_placed-phases own bytes out =
      let of_pool = All-contains (λ (o : Filling). o.buffer < pool_buffers nic.view.setting.layout) nic.view.owns _ rule.sides.fit.of_pool out in
      phases-open words.phases nic apps was (side_text_done nic own bytes) refl refl (own-open setting words nic apps rule was _ out)
      (record {
        pieces = All-push (λ (p : PlacedText). p.place.buffer < pool_buffers nic.view.setting.layout) nic.view.pieces _ was.lies.pieces of_pool;
        sent = was.lies.sent;
      })
      tt

  -- ---- an application

  module _ (a : ℕ) (app : AppSide) (here : IsApp apps a app) where
    -- what it reads or has at hand changes
    pub reads-phases : (reads : List Reading) (making : Option Making)
        → PhaseRule setting words nic (set apps a (record { view = record app.view { reads = reads }; inside = record app.inside { making = making } }))
    reads-phases reads making =
        let now : AppSide = record { view = record app.view { reads = reads }; inside = record app.inside { making = making } } in
        phases-kept words.phases nic apps was a app here now refl refl refl refl refl refl refl refl refl refl refl

    pub spare_filled-phases : (own : Filling) (bytes : List ℕ) → HasSpare app.view own
        → PhaseRule setting words nic (set apps a (side_spare_filled app own bytes))
    spare_filled-phases own bytes out =
        phases-here words.phases nic apps was a app here (side_spare_filled app own bytes) refl refl refl refl refl
        (spare-here setting words nic apps rule was a app here own out)
        (AppLiesInOwn-filled app.view own bytes out (phases-mine words.phases nic apps was a app here).lies)
