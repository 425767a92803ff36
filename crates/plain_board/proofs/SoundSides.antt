-- The sides of a board between two calls are sound.
use Rattle.std.proofs.{Common.{ℕ, ◌≤◌, length, ap, subst, arith, length-append}, lemmas.List.{length-map, Elements.{All-get_or}}}
use Rattle.board_face.specs.{Counts.{EndedWereReturned}, Holders.{sent_to}, Laws.{AllSides}, Relay.{as_taken}, Sides.{IsApp}, declared.views.app.AppSide.{AppSide}}
use Rattle.plain_board.specs.SoundLaw.{IsRelayed, SoundLaw}

taken-few : (s : AllSides) (a : ℕ) (app : AppSide) → IsApp s.apps a app → IsRelayed s app → length app.view.taken ≤ length (sent_to a s.nic)
taken-few s a app at relay =
    omega (
      arith,
      ap length relay.relayed.notes,
      length-append app.view.taken relay.notes,
      length-map (sent_to app.view.app s.nic) as_taken,
      ap (λ n. length (sent_to n s.nic)) at.number,
    )

pub sound-law : SoundLaw
sound-law s layout setting numbers relayed returned none places by_one fillings = record {
  layout = layout;
  setting = setting;
  fit = record {
    numbers = numbers;
    taken = λ a app at. taken-few s a app at (relayed a app at);
    ended = λ a b app at. subst (EndedWereReturned b s.nic) at.is (All-get_or (EndedWereReturned b s.nic) s.apps a app at.there (returned b));
  };
  returns = none;
  places = places;
  by_one = by_one;
  fillings = fillings;
}
