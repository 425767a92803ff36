-- Pieces that are cut, and given up in part.
use Rattle.std.proofs.{Common.{◌≡◌, ℕ, ◌<◌, false, Some, refl, arith}, lemmas.Bool.Decides.{nat_tests}}
use Rattle.zr_kinds.specs.declared.place.Place.{Place}
use Rattle.board_face.specs.{Lists.{same_place}, Texts.{front_place, rest_place}, AppEvents.{cut, released}, declared.views.app.HeldPiece.{HeldPiece}}
use Rattle.board_face.specs.declared.views.app.AppView.{AppView}
use Rattle.flow_queues.specs.{declared.queues.NotePiece.{NotePiece}, Core.{IsIn, LieApart, held_piece}}
use Rattle.flow_queues.{specs.Pieces.{OnlyHelds, GaveFront, CutFirst, front_of_piece, rest_of_piece}, proofs.Tokens.{Cut, is-cut, Released, is-released}}

-- a place isn't that of what comes behind it
pub other-place : (p : Place) (n : ℕ) → 0 < n → same_place (front_place p n) (rest_place p n) ≡ false
other-place p n some = grind (arith, nat_tests)

pub skipped : (v : AppView) → LieApart v → (piece : NotePiece) (n : ℕ) → IsIn (held_piece piece) v.helds → 0 < n → n < piece.held.len
    → GaveFront v (released (cut v piece.held n) (front_place piece.held n)) piece n (rest_of_piece piece n)
skipped v lie piece n is some below =
    let h : HeldPiece = held_piece piece in
    let first : Cut v lie h n = is-cut v lie h n is some below in
    let middle : AppView = cut v piece.held n in
    let front : HeldPiece = held_piece (front_of_piece piece n) in
    let then : Released middle first.apart front = is-released middle first.apart front first.front_out in
    record {
      only = record { view = refl; apart = then.apart; moved = λ f. omega (arith, first.moved f, then.moved f) };
      rest = refl;
      out = then.others (held_piece (rest_of_piece piece n)) first.rest_out (other-place piece.held n some);
    }

pub taken-off : (v : AppView) → LieApart v → (piece : NotePiece) (n : ℕ) → IsIn (held_piece piece) v.helds → 0 < n → n < piece.held.len
    → CutFirst v (cut v piece.held n) piece n (front_of_piece piece n) (Some (rest_of_piece piece n))
taken-off v lie piece n is some below =
    let first : Cut v lie (held_piece piece) n = is-cut v lie (held_piece piece) n is some below in
    record {
      only = record { view = refl; apart = first.apart; moved = λ f. first.moved f };
      front = refl;
      out = first.front_out;
      rest = (below, refl, first.rest_out);
    }

pub given-up : (v : AppView) → LieApart v → (piece : NotePiece) → IsIn (held_piece piece) v.helds
    → OnlyHelds v (released v piece.held) (λ f. f (held_piece piece)) (λ f. 0)
given-up v lie piece is =
    let then = is-released v lie (held_piece piece) is in
    record { view = refl; apart = then.apart; moved = λ f. omega (arith, then.moved f) }
