-- A part that is no area, one that is, and the end.
use Rattle.std.{proofs.{Common.{◌≡◌, None, [], rules, arith}, lemmas.{Str.Pattern.{split_parts}, List.Splits.{length-slice_split}}}, specs.List.{slice_split}}
use Rattle.command_words.{specs.Areas.{is_comma}, proofs.AreaParts.{one-part, first-part, no-area, next-area, last-area, too-many}}
use Rattle.command_words.proofs.areas.few_areas.Goals as goal

pub returns-in_err-read_area : goal.returns-in_err-read_area
returns-in_err-read_area c =
    let l = c.loop in
    let none = rw c.in_default.is at (split_parts 44 l.rest.now c.split_once.result c.split_once.ensures.cases (omega arith)) in
    let gone : c.from_residual.result ≡ None = grind arith in
    rw gone (no-area (slice_split is_comma c.args.text.now) (slice_split is_comma l.rest.now) l.areas.items l.invariant.all
    l.rest.now [] (one-part l.rest.now none) c.in_err-read_area.ensures)

pub returns-in_default : goal.returns-in_default
returns-in_default c =
    let l = c.loop in
    let none = rw c.in_default.is at (split_parts 44 l.rest.now c.split_once.result c.split_once.ensures.cases (omega arith)) in
    let count = l.invariant.count in
    rw c.push.ensures.items (last-area (slice_split is_comma c.args.text.now) (slice_split is_comma l.rest.now) l.areas.items l.invariant.all
    l.rest.now c.in_ok-read_area.field-0 (one-part l.rest.now none) c.in_ok-read_area.ensures (omega (arith, count, c.loop-test.true)))

pub returns-in_err-read_area-2 : goal.returns-in_err-read_area-2
returns-in_err-read_area-2 c =
    let l = c.loop in
    let cut = rw c.in-Some.is at (split_parts 44 l.rest.now c.split_once.result c.split_once.ensures.cases (omega arith)) in
    let gone : c.from_residual-in_err-read_area-2.result ≡ None = grind arith in
    rw gone (no-area (slice_split is_comma c.args.text.now) (slice_split is_comma l.rest.now) l.areas.items l.invariant.all
    c.in-Some.part.now (slice_split is_comma c.in-Some.more.now) (first-part l.rest.now c.in-Some.part.now c.in-Some.more.now cut.0 cut.1)
    c.in_err-read_area-2.ensures)

pub loop-preserved : goal.loop-preserved
loop-preserved c =
    let l = c.loop in
    let cut = rw c.in-Some.is at (split_parts 44 l.rest.now c.split_once.result c.split_once.ensures.cases (omega arith)) in
    record {
      text = search rules;
      count = search rules;
      all = rw c.push-in-loop.ensures.items (next-area (slice_split is_comma c.args.text.now) (slice_split is_comma l.rest.now) l.areas.items l.invariant.all
          c.in-Some.part.now (slice_split is_comma c.in-Some.more.now) c.in_ok-read_area-2.field-0
          (first-part l.rest.now c.in-Some.part.now c.in-Some.more.now cut.0 cut.1) c.in_ok-read_area-2.ensures);
    }

pub returns : goal.returns
returns c =
    let l = c.loop in
    let some = length-slice_split is_comma l.rest.now in
    let count = l.invariant.count in
    too-many (slice_split is_comma c.args.text.now) (slice_split is_comma l.rest.now) l.areas.items l.invariant.all
    (omega (arith, count, c.loop-test.false)) (omega arith)
