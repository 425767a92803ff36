-- What the card's events leave of the texts, where no line of the area changes.
use Rattle.std.{proofs.Common.{◌≡◌, ℕ, ◌+◌, ◌<◌, ◌≤◌, Bool, List, refl, ap, ◌∙◌, subst, arith}, specs.Prelude.{◌==◌, IfSome}}
use Rattle.std.proofs.lemmas.List.Elements.{All-weaker, All-contains}
use Rattle.zr_kinds.specs.declared.ring.Rqe.{Rqe}
use Rattle.area_layout.specs.Layout.{Shape, pool_buffers, size_of}
use Rattle.board_face.specs.{Holders.{ended_in, lowered_in_hand}, Shown.{AppIsShown}, NicCalls.{HasOwn}, NicEvents.{took}, Sides.{nic_at}}
use Rattle.board_face.specs.{Steps.{side_begun, side_shut, side_judged, side_user_lowered, side_both_lowered}, declared.views.parts.Setting.{Setting}}
use Rattle.board_face.specs.declared.views.{parts.Filling.{Filling}, nic.{Judged.TheVariants.{Not, Owed, UserLowered}, NicSide.{NicSide}}, app.AppSide.{AppSide}}
use Rattle.board_face.proofs.{TextsByEvent.{AppIsShown-ended}, FillingsFitLemmas.{FillingsFit-own}}
use Rattle.ref_words.{specs.{Lines.{byte_in_area}, Sides.{SidesRule}, TextRule.{IsInMaking, HasTexts, AreTexts}}, proofs.InHand.{in_hand, if-none}}

-- Neither pieces nor notes change, and no loan that was ended is owed again.
pub record LeavesTexts (nic now : NicSide) : Type 0 where
  pub pieces : now.view.pieces ≡ nic.view.pieces
  pub sents : now.view.sent ≡ nic.view.sent
  pub ends : (b : ℕ) (app : AppSide) → ended_in b nic app ≤ ended_in b now app

-- where no entry is dealt with, and the user count was lowered as often for the one in hand, or more often
pub ends-in-hand : (nic now : NicSide) → now.view.dealt ≡ nic.view.dealt
    → ((x c : ℕ) → lowered_in_hand x c nic.inside.entry ≤ lowered_in_hand x c now.inside.entry)
    → (b : ℕ) (app : AppSide) → ended_in b nic app ≤ ended_in b now app
ends-in-hand nic now deals lowered b app = rw deals (omega (arith, lowered app.view.app b))

module _ (setting : Setting) (area : List (List ℕ)) (nic now : NicSide) (apps : List AppSide) (sides : SidesRule setting now apps) where
  pub AreTexts-moved : LeavesTexts nic now → IfSome now.inside.making (IsInMaking setting.layout) → AreTexts setting.layout area nic apps
      → AreTexts setting.layout area now apps
  AreTexts-moved leaves made texts =
      let byte = byte_in_area setting.layout area in
      record {
        shown = record {
          card = record { pieces = rw leaves.pieces texts.shown.card.pieces };
          apps = All-weaker (AppIsShown byte nic) (AppIsShown byte now)
              (λ app shown. AppIsShown-ended byte nic now app app.inside leaves.sents (λ b. leaves.ends b app) shown) apps texts.shown.apps;
          places = sides.placed;
        };
        making = made;
        others = All-weaker (HasTexts setting.layout area nic) (HasTexts setting.layout area now)
            (λ app has. record { making = has.making; unfilled = has.unfilled; reads = rw leaves.sents has.reads }) apps texts.others;
      }

  -- what is in the making stays, too
  pub AreTexts-card : LeavesTexts nic now → now.inside.making ≡ nic.inside.making → AreTexts setting.layout area nic apps
      → AreTexts setting.layout area now apps
  AreTexts-card leaves same texts = AreTexts-moved leaves (rw same texts.making) texts

-- ---- events

module _ (setting : Setting) (area : List (List ℕ)) (nic : NicSide) (apps : List AppSide) where
  pub texts-took : (b : ℕ) → SidesRule setting (nic_at nic (took nic.view b)) apps → AreTexts setting.layout area nic apps
      → AreTexts setting.layout area (nic_at nic (took nic.view b)) apps
  texts-took b sides texts =
      AreTexts-card setting area nic _ apps sides (record { pieces = refl; sents = refl; ends = λ c app. omega arith }) refl texts

  pub texts-begun : (own : Filling) (n : ℕ) → SidesRule setting nic apps → HasOwn nic.view own → 0 < n → own.start + n ≤ own.size
      → SidesRule setting (side_begun nic own n) apps → AreTexts setting.layout area nic apps
      → AreTexts setting.layout area (side_begun nic own n) apps
  texts-begun own n was out some within sides texts =
      let fits = FillingsFit-own nic apps own out was.fit in
      let of_pool = All-contains (λ (o : Filling). o.buffer < pool_buffers nic.view.setting.layout) nic.view.owns own was.fit.of_pool out in
      let layouts : nic.view.setting.layout ≡ setting.layout = ap (λ (s : Setting). s.layout) was.set.card in
      let size : own.size ≡ size_of setting.layout own.buffer = fits.1 ∙ ap (λ (l : Shape). size_of l own.buffer) layouts in
      let few : own.buffer < pool_buffers setting.layout = subst (λ (l : Shape). own.buffer < pool_buffers l) layouts of_pool in
      AreTexts-moved setting area nic _ apps sides (record { pieces = refl; sents = refl; ends = λ c app. omega arith })
      (record { hand = record { lies = record { buffer = omega (arith, few); bytes = omega (arith, size, within) }; some = some }; aligned = fits.0.aligned })
      texts

  pub texts-shut : (own : Filling) (last : Bool) → SidesRule setting (side_shut nic own last) apps → AreTexts setting.layout area nic apps
      → AreTexts setting.layout area (side_shut nic own last) apps
  texts-shut own last sides texts =
      AreTexts-card setting area nic _ apps sides (record { pieces = refl; sents = refl; ends = λ c app. omega arith }) refl texts

  module _ (a : ℕ) (entry : Rqe) (b : ℕ) where
    pub texts-judged : (none : Bool) → nic.inside.entry ≡ in_hand a entry Not → SidesRule setting (side_judged nic a entry b none) apps
        → AreTexts setting.layout area nic apps → AreTexts setting.layout area (side_judged nic a entry b none) apps
    texts-judged none at sides texts =
        AreTexts-card setting area nic _ apps sides (record {
          pieces = refl;
          sents = refl;
          ends = ends-in-hand nic (side_judged nic a entry b none) refl (λ x c. omega (arith, ap (lowered_in_hand x c) at, if-none (a == x)));
        })
        refl texts

    pub texts-user_lowered : nic.inside.entry ≡ in_hand a entry (Owed b) → SidesRule setting (side_user_lowered nic a entry b) apps
        → AreTexts setting.layout area nic apps → AreTexts setting.layout area (side_user_lowered nic a entry b) apps
    texts-user_lowered at sides texts =
        AreTexts-card setting area nic _ apps sides (record {
          pieces = refl;
          sents = refl;
          ends = ends-in-hand nic (side_user_lowered nic a entry b) refl (λ x c. omega (arith, ap (lowered_in_hand x c) at, if-none (a == x)));
        })
        refl texts

    pub texts-both_lowered : (last : Bool) → nic.inside.entry ≡ in_hand a entry (UserLowered b)
        → SidesRule setting (side_both_lowered nic a entry b last) apps
        → AreTexts setting.layout area nic apps → AreTexts setting.layout area (side_both_lowered nic a entry b last) apps
    texts-both_lowered last at sides texts =
        AreTexts-card setting area nic _ apps sides (record {
          pieces = refl;
          sents = refl;
          ends = ends-in-hand nic (side_both_lowered nic a entry b last) refl (λ x c. omega (arith, ap (lowered_in_hand x c) at));
        })
        refl texts
