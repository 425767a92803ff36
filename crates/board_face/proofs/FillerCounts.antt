-- How many fill a buffer, as a sum, and what each event does to it.
use Rattle.board_face.specs.Lists.{one_if as one}
use Rattle.board_face.{specs.{NicEvents.{begun}, Holdings.{Hold, app_weight, kind_of}, Holders.{on_way}}, proofs.Sums.{none, zeros}}
use Rattle.zr_kinds.specs.declared.place.Place.{Place}
use Rattle.board_face.specs.declared.views.{nic.{SentNote.{SentNote}, PlacedText.{PlacedText}}, app.{HeldPiece.{HeldPiece}, LentPiece.{LentPiece}}}
use Rattle.board_face.proofs.{CardExchange.{sides}, Weighing.{kinds-counted, tally-total}}
use Rattle.std.{proofs.Common.{◌≡◌, ℕ, ◌+◌, List, [], length, arith}, specs.Prelude.{filter, ◌==◌, count_by}}
use Rattle.board_face.specs.{Lists.{without}, Tokens.{filled_by, same_filling}, NicEvents.{fresh, took}}
use Rattle.board_face.specs.{AppEvents.{owns_without, got_spare, filled}, NicCalls.{HasOwn}, AppCalls.{HasSpare}, Sides.{nic_at, app_at}}
use Rattle.board_face.specs.Holders.{owed_in, returning_in, making_places}
use Rattle.board_face.specs.{Holders.{holders_of}, Fillings.{is_filling}, declared.views.{parts.Filling.{Filling}, nic.NicSide.{NicSide}}}
use Rattle.board_face.{specs.declared.views.app.{SpareOwn.{SpareOwn}, AppSide.{AppSide}}, proofs.Tallies.{one_if, total, tally-push, total-agree}}
use Rattle.board_face.proofs.{Parts.{owns_in, spares_in}, NicLemmas.{owns-without as card_owns-without}, AppLemmas.{owns-without as spares-without}}

abbrev fills : Hold → ℕ
fills h = one (is_filling (kind_of h))

spares-weigh : (b : ℕ) (nic : NicSide) (x : AppSide) → app_weight fills b nic x ≡ spares_in b x
spares-weigh b nic x =
    omega (
      arith,
      none (λ (s : SentNote). s.note.place.buffer) b (filter (λ s. s.note.split) (on_way nic x)),
      none (λ (h : HeldPiece). h.place.buffer) b x.view.helds,
      tally-total (λ (s : SpareOwn). s.own.buffer == b) x.view.owns,
      none (λ (l : LentPiece). l.place.buffer) b x.view.loans,
      zeros (owed_in b nic x),
      zeros (returning_in b nic x),
    )

-- who fills a buffer: the card's buffers for filling, and the spares
pub fillings-parts : (b : ℕ) (nic : NicSide) (apps : List AppSide)
    → count_by is_filling (holders_of b nic apps) ≡ owns_in b nic + total (spares_in b) apps
fillings-parts b nic apps =
    omega (
      arith,
      kinds-counted is_filling b (sides nic apps),
      tally-total (λ (o : Filling). o.buffer == b) nic.view.owns,
      none (λ (p : PlacedText). p.place.buffer) b nic.view.pieces,
      none (λ (p : Place). p.buffer) b (making_places nic.inside.making),
      total-agree (app_weight fills b nic) (spares_in b) (spares-weigh b nic) apps,
    )

pub owns_in-took : (b : ℕ) (nic : NicSide) (buffer : ℕ) → owns_in b (nic_at nic (took nic.view buffer)) ≡ owns_in b nic + one_if (buffer == b)
owns_in-took b nic buffer = tally-push (λ (o : Filling). o.buffer == b) nic.view.owns (fresh nic.view.setting buffer)

pub spares_in-got_spare : (b : ℕ) (app : AppSide) (buffer : ℕ)
    → spares_in b (app_at app (got_spare app.view buffer)) ≡ spares_in b app + one_if (buffer == b)
spares_in-got_spare b app buffer = tally-push (λ (s : SpareOwn). s.own.buffer == b) app.view.owns (record { own = fresh app.view.setting buffer; bytes = [] })

pub owns_in-filled : (b : ℕ) (nic : NicSide) (it : Filling) (n : ℕ) → HasOwn nic.view it → owns_in b (nic_at nic (begun nic.view it n)) ≡ owns_in b nic
owns_in-filled b nic it n out = omega (
  arith,
  card_owns-without b nic it out,
  tally-push (λ (o : Filling). o.buffer == b) (without (same_filling it) nic.view.owns) (filled_by it n),
)

pub spares_in-filled : (b : ℕ) (app : AppSide) (it : Filling) (bytes : List ℕ) → HasSpare app.view it
    → spares_in b (app_at app (filled app.view it bytes)) ≡ spares_in b app
spares_in-filled b app it bytes out = omega (
  arith,
  spares-without b app.view it out,
  tally-push (λ (s : SpareOwn). s.own.buffer == b) (owns_without app.view it) (record { own = filled_by it (length bytes); bytes = bytes }),
)
