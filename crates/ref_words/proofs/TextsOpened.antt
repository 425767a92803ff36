-- On a board that was just opened there is no text, and nothing was read.
use Rattle.std.{specs.Prelude.{◌≡◌, ℕ, []}, proofs.lemmas.List.Elements.{All-nil}}
use Rattle.board_face.specs.{NicCalls.{apps_of}, Holders.{sent_to}, Opened.{new_nic, new_app, new_apps}, Relay.{IsAsSent}, declared.views.parts.Setting.{Setting}}
use Rattle.board_face.{specs.declared.views.app.SpareOwn.{SpareOwn}, proofs.OpenedLemmas.{news, All-new, AreShown-opened}}
use Rattle.ref_words.specs.{Lines.{byte_in_area}, Words.{opened_words}, TextRule.{HasTexts, TextRule}}

module _ (setting : Setting) where
  has-none : (a : ℕ) → HasTexts setting.layout (opened_words setting).area (new_nic setting) (new_app setting a)
  has-none a = record {
    making = tt;
    unfilled = All-nil (λ (s : SpareOwn). s.own.start ≡ 0 → s.bytes ≡ []);
    reads = All-nil (IsAsSent (sent_to a (new_nic setting)));
  }

  pub texts : TextRule setting (opened_words setting) (new_nic setting) (new_apps setting 0 (apps_of setting))
  texts = record {
    shown = AreShown-opened (byte_in_area setting.layout (opened_words setting).area) setting _ (news setting 0 (apps_of setting));
    making = tt;
    others = All-new (HasTexts setting.layout (opened_words setting).area (new_nic setting)) setting 0 (apps_of setting) has-none;
  }
