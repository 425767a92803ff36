-- What was picked is held as a spare, and the search is over.
use Rattle.std.proofs.Common.{[], false, ap, ◌∙◌, subst}
use Rattle.board_face.specs.{AppCalls.{HasNoneIn}, AppEvents.{got_spare}, Steps.{side_spare_begun}}
use Rattle.word_board.{specs.Board.{TheApp}, proofs.Searching.{hands-once}}
use Rattle.word_board.proofs.kinds.spares.spare_listed.Goals as goal

pub returns-clause-event : goal.returns-clause-event
returns-clause-event c =
    let old = c.args.app.now.side in
    let b = c.in_ok-buffer.buffer in
    let found = c.in_ok-buffer.ensures.event in
    let apart = subst (λ x. HasNoneIn x.view b) found.event c.take_picked.ensures.apart in record {
      event = ap (λ (me : TheApp). me.side) c.take_picked.ensures.event
          ∙ (ap (λ x. side_spare_begun x b) found.event
          ∙ ap (λ hs. record {
            view = got_spare old.view b;
            inside = record old.inside { hands = hs; words_without = []; reserve_seen_free = false };
          }) (hands-once b old.inside.hands c.requires.bare.hands));
      of_pool = found.of_pool;
      apart = record { helds = apart.helds; loans = apart.loans; spares = apart.spares };
    }
