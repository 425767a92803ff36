-- What arrived is taken, and then the rest of the step is played.
use Rattle.std.proofs.{Common.{◌≡◌, ◌≢◌, true, false, inl, inr, ⊎_elim, sym, subst, ap, ◌∙◌, rules, arith}, lemmas.Bool.{true≢false}}
use Rattle.zr_kinds.specs.declared.outcome.Tally.{Tally}
use Rattle.card_feed.specs.{Coming.{is_over}, Feed.{one_if}, declared.{arrived.Arrived.TheVariants.{Nothing}, intake.Intake.{Intake}}, Intake.{IsReadable, counts_as}}
use Rattle.card_feed.specs.{Parts.{feed_of}, Turns.{IsAwaiting}}
use Rattle.card_feed.proofs.Turning.{by-answer, counts-one, knows-of, looked-as, no_hand, not-awaiting, readable-of, received, stepped, stepped-up, timely-of, wants-of}
use Rattle.card_feed.proofs.turn.nic_step.Goals.{in-Nothing, in_default, then-nothing+then-is_readable, else-nothing}
use Rattle.card_feed.proofs.turn.nic_step.Goals.{else-nothing-via-then-nothing+else-is_readable, else-nothing-via-else-nothing, then-not-nothing, else-not-nothing}
use Rattle.card_feed.proofs.turn.nic_step.Goals as goal

pub returns-clause-steps : goal.returns-clause-steps
returns-clause-steps g c = λ ports split frames stands.
    let view = sym c.feed.view_is in
    let inside = c.feed.inside in
    let came = c.args.arrived in
    let now = c.receive.new.self in
    let knows = rw view at stands in
    let fits = c.counts_fit.ensures in
    let is : c.match-matches.matches ≡ true → came ≡ Nothing = λ so. elim c.match-matches.branch [
      | in-Nothing w ↦ w.in-Nothing.is
      | in_default w ↦ absurd (true≢false (sym so ∙ w.matches-is))
    ] in
    let not : c.match-matches.matches ≡ false → came ≢ Nothing = λ so same. elim c.match-matches.branch [
      | in-Nothing w ↦ absurd (true≢false (sym w.matches-is ∙ so))
      | in_default w ↦ w.in_default.not-Nothing same
    ] in
    let takes = c.receive.ensures.takes ports frames (knows-of ports split frames inside.intake inside.pool inside.closed _ knows) in
    let has = received ports split frames inside.intake inside.pool inside.closed _ knows now came c.feed.invariant c.receive.ensures.same.1
    c.receive.ensures.same.2 (timely-of inside.intake inside.pool inside.closed came (rw view at c.requires.arrived)) takes c.receive.ensures.nothing in
    elim c.if-nothing.branch [
      | then-nothing+then-is_readable w ↦
          let nothing = is w.if-nothing.true in
          let same = c.receive.ensures.nothing nothing in
          let readable : IsReadable inside.intake = subst IsReadable same (w.is_readable.ensures.0 w.if-is_readable.true) in
          rw view (stepped-up ports split frames inside.intake inside.pool inside.closed _ knows now came _ _ has fits
          (rw nothing (wants-of inside.intake inside.pool inside.closed readable))
          (rw (w.feed-inside-is, w.face-is) (w.keep_up-plays.ensures.keeps_up now inside.closed)))
      | else-nothing w ↦
          let there : ¬ IsAwaiting (feed_of inside.intake inside.pool inside.closed) came = elim w.else-nothing.branch [
            | else-nothing-via-then-nothing+else-is_readable v ↦
                let nothing = is v.if-nothing.true in
                let same = c.receive.ensures.nothing nothing in
                rw nothing (λ wants. true≢false (sym (v.is_readable.ensures.1 (subst IsReadable (sym same)
                (readable-of inside.intake inside.pool inside.closed wants))) ∙ v.if-is_readable.false))
            | else-nothing-via-else-nothing v ↦ not-awaiting (feed_of inside.intake inside.pool inside.closed) came (not v.if-nothing.false)
          ] in
          rw view (stepped ports split frames inside.intake inside.pool inside.closed _ knows now came _ _ has fits there
          (rw (w.feed-inside-is, w.face-is) w.play-plays.ensures.plays))
    ]

pub returns-clause-answer : goal.returns-clause-answer
returns-clause-answer g c =
    let view = sym c.feed.view_is in
    let inside = c.feed.inside in
    let came = c.args.arrived in
    let count = c.receive.ensures.count in
    let is : c.match-matches.matches ≡ true → came ≡ Nothing = λ so. elim c.match-matches.branch [
      | in-Nothing w ↦ w.in-Nothing.is
      | in_default w ↦ absurd (true≢false (sym so ∙ w.matches-is))
    ] in
    let not : c.match-matches.matches ≡ false → came ≢ Nothing = λ so same. elim c.match-matches.branch [
      | in-Nothing w ↦ absurd (true≢false (sym w.matches-is ∙ so))
      | in_default w ↦ w.in_default.not-Nothing same
    ] in
    let readable-of-now : c.receive.new.self ≡ inside.intake → IsReadable c.receive.new.self → IsReadable inside.intake = λ same. subst IsReadable same in
    elim c.if-nothing.branch [
      | then-nothing+then-is_readable w ↦
          let nothing = is w.if-nothing.true in
          let none : counts_as came ≡ 0 = ap counts_as nothing in
          let same = c.receive.ensures.nothing nothing in
          let readable = readable-of-now same (w.is_readable.ensures.0 w.if-is_readable.true) in
          let awaiting : IsAwaiting (feed_of inside.intake inside.pool inside.closed) came = rw nothing (wants-of inside.intake inside.pool inside.closed readable) in
          elim c.if-not-nothing.branch [
            | then-not-nothing v ↦ absurd (let so : c.match-matches.matches ≡ true = w.if-nothing.true in let no = v.if-not-nothing.true in cc)
            | else-not-nothing v ↦ rw (v.result-is, w.plays-is, view, w.feed-inside-is, w.face-is, same) (by-answer w.keep_up-plays.result _ _
                (λ did. let rises = rw did at w.keep_up-plays.ensures.answer in omega (arith, count, none, rises))
                (λ idle. looked-as _ _ g.F.NicFace.tells _ _ _ _ _ (λ none_pending. inr (awaiting, none_pending))
                (rw same at ((rw idle at w.keep_up-plays.ensures.answer) c.receive.new.self inside.closed))))
          ]
      | else-nothing w ↦
          let later = w.play-plays.ensures.later in
          let kept = w.play-plays.ensures.same in
          let records = ap (λ (t : Tally). t.records) kept.tally in
          let over = ap (λ s. one_if (is_over s)) kept.stage_is in
          elim c.if-not-nothing.branch [
            | then-not-nothing v ↦
                let no : c.match-matches.matches ≡ false = (let so = v.if-not-nothing.true in cc) in
                let one = counts-one came (not no) in
                rw (v.result-is, no, view, w.feed-inside-is, w.face-is) (omega (arith, count, one, later, records, over))
            | else-not-nothing v ↦
                let so : c.match-matches.matches ≡ true = (let no = v.if-not-nothing.false in cc) in
                let nothing = is so in
                let none : counts_as came ≡ 0 = ap counts_as nothing in
                let same = c.receive.ensures.nothing nothing in
                let not_readable : ¬ IsReadable c.receive.new.self = λ readable. elim w.else-nothing.branch [
                  | else-nothing-via-then-nothing+else-is_readable u ↦ true≢false (sym (u.is_readable.ensures.1 readable) ∙ u.if-is_readable.false)
                  | else-nothing-via-else-nothing u ↦ true≢false (sym so ∙ u.if-nothing.false)
                ] in
                rw (v.result-is, w.plays-is, view, w.feed-inside-is, w.face-is) (by-answer w.play-plays.result _ _
                (λ did. let rises = (rw did at w.play-plays.ensures.answer) (λ some. (rw view at c.requires.ready.waits)
                (λ none_there. some (ap (λ (i : Intake). i.hand) same ∙ no_hand inside.intake.hand inside.intake.bytes.items none_there))) in omega (arith, count, none, rises, records, over))
                (λ idle. ⊎_elim (λ rests. absurd (not_readable (record { none = rests.0; goes = rests.1 })))
                (λ looked. looked-as _ _ g.F.NicFace.tells _ _ _ _ _ (λ closed. inl closed) (rw same at looked)) (rw idle at w.play-plays.ensures.answer)))
          ]
    ]
