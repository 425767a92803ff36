-- What is read as a replay may be told to one.
use Rattle.std.proofs.Common.{◌∙◌, sym, ap, drop, map, option_map}
use Rattle.command_words.{specs.{Assigned.{sorted}, Options.{flag_names, option_names}, Words.{replay_shown}}, proofs.Told.{replay_read}}
use Rattle.command_words.proofs.reading.read_words.Goals as goal

pub returns-in-Some-clause-told : goal.returns-in-Some-clause-told
returns-in-Some-clause-told c =
    replay_read (sorted option_names flag_names (drop 1 (map (λ w. w.now) c.args.words.now))) c.in-Some.replay
    (sym (ap (option_map replay_shown) c.in-Some.is) ∙ c.in_ok-replay-in-len1-up.ensures)
