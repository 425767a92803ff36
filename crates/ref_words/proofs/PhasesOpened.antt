-- On a board that was just opened nobody has ended or left, and nothing is out.
use Rattle.std.proofs.{Common.{◌+◌}, lemmas.{Bool.{false≢true}, List.Elements.{All-nil}}}
use Rattle.board_face.{specs.{NicCalls.{apps_of}, Opened.{new_nic, new_apps}, declared.views.parts.Setting.{Setting}}, proofs.OpenedLemmas.{all-alike, All-new}}
use Rattle.ref_words.specs.{Words.{opened_words, roles_of}, PhaseRule.{IsAppPhased, PhaseRule}}

pub opened-phases : (setting : Setting) → PhaseRule setting (opened_words setting) (new_nic setting) (new_apps setting 0 (apps_of setting))
opened-phases setting = record {
  word = all-alike (roles_of setting) 0 0;
  ended = λ e. absurd (false≢true e);
  gone = All-nil _;
  lies = record { pieces = All-nil _; sent = All-nil _ };
  made = tt;
  sides = All-new (IsAppPhased (opened_words setting).phases (new_nic setting)) setting 0 (apps_of setting)
      (λ a. record {
        word = all-alike (roles_of setting) (1 + a) 0;
        left = λ e. absurd (false≢true e);
        seen = λ e. absurd (false≢true e);
        told = λ e. absurd (false≢true e);
        lies = record { helds = All-nil _; spares = All-nil _; loans = All-nil _; returned = All-nil _ };
      });
}
