-- clap's matches have what the words say, and the options and ports were read from them.
use Rattle.std.proofs.{Common.{rules, ◌≡◌, ◌∙◌, sym, ap, map, option_map}, lemmas.Result.{IfOk-weaker}}
use Rattle.command_words.{specs.Options.{flag_names, option_names}, proofs.Told.{replay-said, nothing-said, no-ports-said}}
use Rattle.command_words.proofs.reading.read_replay.Goals as goal

pub returns-in_default : goal.returns-in_default
returns-in_default c =
    let names : map (λ n. n.now) c.as_slice.result.now ≡ option_names = search rules in
    let flags : map (λ n. n.now) c.as_slice-2.result.now ≡ flag_names = search rules in
    let has = rw (c.in_default.is, names, flags) at c.in_ok-said.ensures in
    nothing-said _ has

pub returns-in_default-2 : goal.returns-in_default-2
returns-in_default-2 c =
    let names : map (λ n. n.now) c.as_slice.result.now ≡ option_names = search rules in
    let flags : map (λ n. n.now) c.as_slice-2.result.now ≡ flag_names = search rules in
    let has = rw (c.in-Some.is, names, flags) at c.in_ok-said.ensures in
    no-ports-said c.in-Some.said _ has (λ words e. sym (ap (option_map (λ ports. ports.items)) c.in_default-2.is) ∙ c.in_ok-ports.ensures words e)

pub returns : goal.returns
returns c =
    let names : map (λ n. n.now) c.as_slice.result.now ≡ option_names = search rules in
    let flags : map (λ n. n.now) c.as_slice-2.result.now ≡ flag_names = search rules in
    let has = rw (c.in-Some.is, names, flags) at c.in_ok-said.ensures in
    IfOk-weaker c.with_ports.result _ _ (λ told is. replay-said c.in-Some.said _ c.in-Some-2.ports.items _ has
    (λ words e. sym (ap (option_map (λ ports. ports.items)) c.in-Some-2.is) ∙ c.in_ok-ports.ensures words e) is) c.with_ports.ensures
