-- The part of the rule on phases, once a side changed.
use Rattle.std.proofs.{Common.{◌≡◌, ℕ, true, false, List, set, sym, ◌∙◌, subst}, lemmas.{Bool.{false≢true}, List.Elements.{All-set, All-weaker}}}
use Rattle.board_face.specs.{OwnBuffers.{CardLiesInPool, AppLiesInOwn, LieInOwn}, Sides.{IsApp}, declared.views.{parts.Setting.{Setting}, nic.NicSide.{NicSide}}}
use Rattle.board_face.specs.declared.views.app.AppSide.{AppSide}
use Rattle.ref_words.specs.{Words.{Words}, Rule.{RefRule}, PhaseRule.{IsAppPhased, HasPhases, CardHasNone, IsMadeInPool, PhaseRule}}

-- ---- the card's side changed

module _ (phases : List ℕ) (nic : NicSide) (apps : List AppSide) (was : HasPhases phases nic apps) (now : NicSide)
    (ended : now.view.ended ≡ nic.view.ended) (gone : now.view.gone ≡ nic.view.gone) where
  others : (now.view.sent ≡ nic.view.sent) → (app : AppSide) → IsAppPhased phases nic app → IsAppPhased phases now app
  others sents app p = record {
    word = p.word;
    left = p.left;
    seen = λ e. ended ∙ p.seen e;
    told = λ e. (ended ∙ (p.told e).0, rw sents (p.told e).1);
    lies = p.lies;
  }

  -- not by a note that it sent
  pub phases-card : now.view.sent ≡ nic.view.sent → (now.view.ended ≡ true → CardHasNone now) → CardLiesInPool now.view → IsMadeInPool now
      → HasPhases phases now apps
  phases-card sents stopped lies made = record {
    word = rw ended was.word;
    ended = stopped;
    gone = rw gone was.gone;
    lies = lies;
    made = made;
    sides = All-weaker (IsAppPhased phases nic) (IsAppPhased phases now) (others sents) apps was.sides;
  }

  -- and before it ended, when nobody can have seen that or been told of it
  pub phases-open : nic.view.ended ≡ false → CardLiesInPool now.view → IsMadeInPool now → HasPhases phases now apps
  phases-open running lies made = record {
    word = rw ended was.word;
    ended = λ e. absurd (false≢true (sym running ∙ (sym ended ∙ e)));
    gone = rw gone was.gone;
    lies = lies;
    made = made;
    sides = All-weaker (IsAppPhased phases nic) (IsAppPhased phases now)
        (λ app p. record {
          word = p.word;
          left = p.left;
          seen = λ e. absurd (false≢true (sym running ∙ p.seen e));
          told = λ e. absurd (false≢true (sym running ∙ (p.told e).0));
          lies = p.lies;
        })
        apps was.sides;
  }

  -- what it has out stayed as it was
  pub phases-still : now.view.sent ≡ nic.view.sent → now.view.owns ≡ nic.view.owns → now.view.pieces ≡ nic.view.pieces
      → now.inside.making ≡ nic.inside.making → now.view.setting ≡ nic.view.setting → HasPhases phases now apps
  phases-still sents owns pieces making setting =
      phases-card sents
      (λ e. let stopped = was.ended (sym ended ∙ e) in record {
        none = record { owns = owns ∙ stopped.none.owns; pieces = pieces ∙ stopped.none.pieces };
        idle = making ∙ stopped.idle;
      })
      (record { pieces = rw (setting, pieces) was.lies.pieces; sent = rw (setting, sents) was.lies.sent })
      (rw (setting, making) was.made)

-- ---- an application's side changed

module _ (phases : List ℕ) (nic : NicSide) (apps : List AppSide) (was : HasPhases phases nic apps) (a : ℕ) (app : AppSide)
    (here : IsApp apps a app) where
  -- what is so of it
  pub phases-mine : IsAppPhased phases nic app
  phases-mine = subst (IsAppPhased phases nic) here.is (was.sides a app here.there)

  pub phases-app : (now : AppSide) → IsAppPhased phases nic now → HasPhases phases nic (set apps a now)
  phases-app now mine = record {
    word = was.word;
    ended = was.ended;
    gone = was.gone;
    lies = was.lies;
    made = was.made;
    sides = All-set (IsAppPhased phases nic) apps a now mine was.sides;
  }

  -- before it left: what is out may change
  pub phases-here : (now : AppSide) → now.view.app ≡ app.view.app → now.view.left ≡ app.view.left → now.inside.end_seen ≡ app.inside.end_seen
      → now.view.ended ≡ app.view.ended → now.view.taken ≡ app.view.taken → app.view.left ≡ false → AppLiesInOwn now.view
      → HasPhases phases nic (set apps a now)
  phases-here now number left seen ended taken stays lies =
      let p = phases-mine in
      phases-app now (record {
        word = rw (number, left) p.word;
        left = λ e. absurd (false≢true (sym stays ∙ (sym left ∙ e)));
        seen = λ e. p.seen (sym seen ∙ e);
        told = λ e. rw (number, taken) (p.told (sym ended ∙ e));
        lies = lies;
      })

  -- what it has out, and what it has taken, stayed as they were
  pub phases-kept : (now : AppSide) → now.view.app ≡ app.view.app → now.view.left ≡ app.view.left → now.inside.end_seen ≡ app.inside.end_seen
      → now.view.ended ≡ app.view.ended → now.view.taken ≡ app.view.taken → now.view.scrubbed ≡ app.view.scrubbed
      → now.view.helds ≡ app.view.helds → now.view.owns ≡ app.view.owns → now.view.loans ≡ app.view.loans
      → now.view.returned ≡ app.view.returned → now.view.setting ≡ app.view.setting → HasPhases phases nic (set apps a now)
  phases-kept now number left seen ended taken scrubbed helds owns loans returned setting =
      let p = phases-mine in
      phases-app now (record {
        word = rw (number, left) p.word;
        left = λ e. let can = p.left (sym left ∙ e) in record {
          scrubbed = scrubbed ∙ can.scrubbed;
          ended = ended ∙ can.ended;
          helds = helds ∙ can.helds;
          loans = loans ∙ can.loans;
          spares = owns ∙ can.spares;
        };
        seen = λ e. p.seen (sym seen ∙ e);
        told = λ e. rw (number, taken) (p.told (sym ended ∙ e));
        lies = record {
          helds = rw (setting, helds) p.lies.helds;
          spares = rw (setting, number, owns) p.lies.spares;
          loans = rw (setting, number, loans) p.lies.loans;
          returned = rw (setting, number, returned) p.lies.returned;
        };
      })

-- ---- what is said of the sides alone

module _ (setting : Setting) (words : Words) (nic : NicSide) (apps : List AppSide) (rule : RefRule setting words nic apps)
    (was : PhaseRule setting words nic apps) where
  pub LieInOwn-by : LieInOwn nic apps
  LieInOwn-by = record {
    card = was.lies;
    sides = All-weaker (IsAppPhased words.phases nic) (λ (x : AppSide). AppLiesInOwn x.view) (λ x p. p.lies) apps was.sides;
  }
