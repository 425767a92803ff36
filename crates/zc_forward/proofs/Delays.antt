-- A carrier over a shelf keeps so many tags out.
use Rattle.std.{proofs.Common.{◌≡◌, ◌∙◌, ◌∷◌, ◌⊎◌, ℕ, Option, Some, None, sym, ap, subst, inl, inr, ⊎_elim}, specs.Prelude.{MatchBool, MatchOption}}
use Rattle.zr_kinds.specs.declared.place.Place.{Place}
use Rattle.zr_io.specs.Memory.{raised}
use Rattle.board_face.specs.declared.views.app.AppView.{AppView}
use Rattle.zc_poll.specs.Standing.{Desk}
use Rattle.zc_forward.specs.{Sending.{OutboxState, is_urgent}, Carriage.{AnswersLate, Carriage, is_waiting, pace_of}, Turns.{Asks, CarriedItem, KeepsDelay, Stage, NoticeCame, stage_of}}

module _ {T : Type 0} (w z : OutboxState) (desk later : Desk) (v y : AppView) (old new : Carriage T) where
  abbrev was : Stage
  was = stage_of w desk old.out (pace_of old) v

  abbrev now : Stage
  now = stage_of z later new.out (pace_of new) y

  abbrev Late : Type 0
  Late = MatchBool (is_waiting old (is_urgent w))
      ((pace_of new ≡ record (pace_of old) { looks = raised old.looks }) × ((new.out ≡ old.out) ⊎ CarriedItem was now))
      ((pace_of new ≡ pace_of old) × NoticeCame was now × (first : ℕ × ℕ) × (old.out ≡ first ∷ new.out))

  answered : (asked : Carriage T) (told : Option ℕ) → AnswersLate (is_urgent w) old asked told → pace_of new ≡ pace_of asked
      → MatchOption told ((new ≡ asked) ⊎ CarriedItem was now) (λ tag. (new ≡ asked) × NoticeCame was now) → Late
  answered asked None (few, looked) pace rest = rw (sym few) (
    pace ∙ ap (λ (k : Carriage T). pace_of k) looked,
    ⊎_elim
        (λ (same : new ≡ asked). inl (ap (λ (k : Carriage T). k.out) same ∙ ap (λ (k : Carriage T). k.out) looked))
        (λ (item : CarriedItem was now). inr item)
        rest,
  )
  answered asked (Some tag) (many, (flow, oldest, same)) pace (is, told) = rw (sym many) (
    pace ∙ ap (λ (k : Carriage T). pace_of k) same,
    told,
    (tag, flow),
    subst (λ (k : Carriage T). old.out ≡ (tag, flow) ∷ k.out) (sym is) oldest,
  )

  settled : (due : Option Place) (asked : Carriage T) (told : Option ℕ)
      → MatchOption due (AnswersLate (is_urgent w) old asked told) (λ loan. (told ≡ None) × (asked ≡ old)) → pace_of new ≡ pace_of asked
      → MatchOption told ((new ≡ asked) ⊎ CarriedItem was now) (λ tag. (new ≡ asked) × NoticeCame was now)
      → MatchOption due Late (λ loan. pace_of new ≡ pace_of old)
  settled None asked told by pace rest = answered asked told by pace rest
  settled (Some loan) asked told by pace rest = pace ∙ ap (λ (k : Carriage T). pace_of k) by.1

  pub keeps-delay : Asks AnswersLate (λ (k : Carriage T). k.out) (λ (k : Carriage T). pace_of k) was now old new → KeepsDelay was now
  keeps-delay asks = settled w.tally.due asks.asked asks.told asks.by asks.pace asks.rest
