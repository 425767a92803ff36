use Rattle.std.{proofs.Common.{◌≡◌, ◌+◌, ◌%◌, sym, ◌∙◌, ap, subst, arith, true, false, ⊎_elim}, specs.Prelude.{if◌then◌else◌}}
use Rattle.word_board.{specs.{Board.{TheApp}, Hands.{AppKeeps}}, proofs.AppKept.{note-within, is_note, none-noted, kept-polled}}
use Rattle.word_board.{proofs.{app_seat.AppSeatAppFace.poll.Goals.{in_default, in-Note, in-Note-2}, Telling.{told-polled}}, specs.Told.{AppTells}}
use Rattle.board_face.specs.{AppEvents.{app_gist}, Looks.{AppTold}, declared.views.parts.Setting.{Setting}}
use Rattle.word_board.proofs.app_seat.AppSeatAppFace.poll.Goals as goal

pub poll-polled-requires : goal.poll-polled-requires
poll-polled-requires c =
    let hand = c.self.inside.hand in
    let places = ap (λ (s : Setting). s.places) c.map.ensures in
    let within = note-within c.self.inside.app.board.setting c.self.inside.app.side hand.note hand.entry hand.raw c.self.invariant.slots
    (omega (arith, places, c.places-places.ensures.value, c.places-places.ensures.some)) in
    record { slot = record { within = omega (arith, within, places); next = c.self.invariant.slots.next_note } }

pub invariant_of-self : goal.invariant_of-self
invariant_of-self c =
    let hand = c.self.inside.hand in
    let setting = c.self.inside.app.board.setting in
    let places = c.places-places.ensures.value ∙ ap (λ (s : Setting). s.places) c.map.ensures in
    let is : is_note c.poll-polled.result ≡ true =
    elim c.match-matches.branch [
      | in_default w ↦ absurd (let wrong : true ≡ false = sym c.if-matches.true ∙ w.matches-is in cc)
      | in-Note w ↦ ⊎_elim (λ t. ap is_note t.2) (λ t. ap is_note t.1) w.in-Note.is
      | in-Note-2 w ↦ ⊎_elim (λ t. ap is_note t.2) (λ t. ap is_note t.1) w.in-Note.is
    ] in
    let keeps = kept-polled setting c.self.inside.app.side c.poll-polled.new.app.side hand.note hand.entry hand.raw
    hand.loans.items hand.filled.items c.poll-polled.new.linear c.self.invariant c.poll-polled.result c.poll-polled.ensures.event in
    let noted = subst (λ b. AppKeeps setting c.poll-polled.new.app.side (if b then (hand.note + 1) % setting.places else hand.note)
    hand.entry hand.raw hand.loans.items hand.filled.items) is keeps in
    rw (c.poll-polled.ensures.board, c.slot_after-self-inside.ensures, places) noted

pub invariant_of-self-else-matches : goal.invariant_of-self-else-matches
invariant_of-self-else-matches c =
    let hand = c.self.inside.hand in
    let setting = c.self.inside.app.board.setting in
    let is : is_note c.poll-polled.result ≡ false =
    elim c.match-matches.branch [
      | in_default w ↦ none-noted c.poll-polled.result w.in_default.not-Note w.in_default.not-Linear
      | in-Note w ↦ absurd (let wrong : true ≡ false = sym w.matches-is ∙ c.if-matches.false in cc)
      | in-Note-2 w ↦ absurd (let wrong : true ≡ false = sym w.matches-is ∙ c.if-matches.false in cc)
    ] in
    let keeps = kept-polled setting c.self.inside.app.side c.poll-polled.new.app.side hand.note hand.entry hand.raw
    hand.loans.items hand.filled.items c.poll-polled.new.linear c.self.invariant c.poll-polled.result c.poll-polled.ensures.event in
    let noted = subst (λ b. AppKeeps setting c.poll-polled.new.app.side (if b then (hand.note + 1) % setting.places else hand.note)
    hand.entry hand.raw hand.loans.items hand.filled.items) is keeps in
    rw c.poll-polled.ensures.board noted

pub returns-else-matches-clause-told : goal.returns-else-matches-clause-told
returns-else-matches-clause-told c =
    let mine = c.self.inside.app.side in
    subst (λ (s : TheApp). AppTold (λ look. AppTells look (app_gist s.side.view) s.board) s.side.view c.poll-polled.new.app.side.view)
    c.self.view_is
    (told-polled (λ look. AppTells look (app_gist mine.view) c.self.inside.app.board) mine c.poll-polled.new.app.side
    c.poll-polled.new.linear c.poll-polled.result c.poll-polled.ensures.event
    c.poll-polled.ensures.told
    tt)
