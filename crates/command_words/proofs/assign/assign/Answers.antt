-- The parse by what the words say.
use Rattle.std.proofs.Common.{◌∙◌}
use Rattle.command_words.proofs.Answering.{accepted, rejected, rest_is_text, texts_are_text}
use Rattle.command_words.proofs.assign.assign.Goals as goal

pub returns-in-Ok : goal.returns-in-Ok
returns-in-Ok c =
    accepted _ _ c.requires _ c.in_ok-command.ensures _ (rest_is_text _
    (texts_are_text c.args.words.now c.known_texts.ensures)) c.in-Ok.matches c.in-Ok.ensures.kinds c.in-Ok.ensures.matches

pub returns : goal.returns
returns c =
    rejected _ _ c.requires _ c.in_ok-command.ensures _ (rest_is_text _
    (texts_are_text c.args.words.now c.known_texts.ensures)) c.in-Err.error c.in-Err.ensures.kinds
    (λ memory. c.in_default.not-OutOfMemory (c.kind.ensures ∙ memory))
