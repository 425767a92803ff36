-- A refill entry that gave a reference back: the loan that lay first in its buffer is owed no more.
use Rattle.std.proofs.Common.{◌≡◌, ℕ, ◌≤◌, true, List, [], ◌∷◌, length, refl, ap, subst, arith}
use Rattle.std.{specs.Prelude.{◌==◌, All, slice_index}, proofs.lemmas.{Bool.{eqb-true}, List.Elements.{All-head, All-drop, All-get_or, filter_passes}}}
use Rattle.zr_kinds.specs.{declared.{place.Place.{Place}, event.Event.{Event}}, LegalRun.{HasSmallNumbers}}
use Rattle.board_face.specs.{BoardSteps.{OwesFirst, apply, card, honours}, Holders.{ended_in, owed_in, returned_in, returning_count}, Laws.{AllSides}}
use Rattle.board_face.specs.{Sides.{IsApp, nic_at}, declared.{answers.Entry.{Entry, TheVariants.{Freed, Honoured, Stray, Empty}}, views.app.AppSide.{AppSide}}}
use Rattle.plain_board.specs.{IsLogged.{NoneReturns}, Logs.{KeptEvents, all_logged, logged}, StepEvents.{card_events}}
use Rattle.plain_board.specs.{Board.{Board}, Events.{GaveBack, IsNoReturn, IsReturn}, Sound.{IsSound}, Stand.{Stand, side_of, sides_of}, Told.{EntryTells, HonourTells}}
use Rattle.board_face.specs.{BoardSteps.{CardCan, card_view}, Laws.{pool_of, user_of}, NicEvents.{gave_up, honoured}}
use Rattle.zr_kinds.specs.declared.event.Event.TheVariants as event
use Rattle.plain_board.{specs.{OneSide.{OnlyCard}, Recorded.{IsSoundAndRecorded}}, proofs.Logging.{card-made, card-told, nic-by, sides-sound, with_log}}
use Rattle.std.proofs.Common.{sym, ◌∙◌}

record First (b : ℕ) (owed : List Place) : Type 0 where
  pub place : Place
  pub there : place.buffer ≡ b
  pub rest : List Place
  pub first : owed ≡ place ∷ rest

first-of : (b : ℕ) (owed : List Place) → All (λ p. (p.buffer == b) ≡ true) owed → 1 ≤ length owed → First b owed
first-of b [] all some = absurd (omega arith)
first-of b (p ∷ owed) all some =
    record { place = p; there = eqb-true p.buffer b (All-head (λ (q : Place). (q.buffer == b) ≡ true) p owed all); rest = owed; first = refl }

-- between two calls nothing is on its way back
none-returning : (s : AllSides) (a b : ℕ) (x : AppSide) → NoneReturns s → IsApp s.apps a x → returning_count b s.nic x ≡ 0
none-returning s a b x none here =
    let P : AppSide → Type 0 = λ y. (c : ℕ) → slice_index y.inside.scrub_owes c ≡ 0 in
    let owes : P x = subst P here.is (All-get_or P s.apps a x here.there none.owes) in
    rw none.entry (omega (arith, owes b))

-- the loan that the application owed first there
pub record WasOwed (b : ℕ) (old : Stand) (a : ℕ) : Type 0 where
  pub place : Place
  pub there : place.buffer ≡ b
  pub owes : OwesFirst place old.nic (side_of old a)

pub was-owed : (old new : Stand) (a b : ℕ) → IsSound old → IsApp old.apps a (side_of old a) → GaveBack old new a b → WasOwed b old a
was-owed old new a b sound here gave =
    let x = side_of old a in
    let P : Place → Type 0 = λ p. (p.buffer == b) ≡ true in
    let first = first-of b (owed_in b old.nic x)
    (All-drop P (ended_in b old.nic x) (returned_in b x) (filter_passes (λ (p : Place). p.buffer == b) _)) gave.owed in
    record {
      place = first.place;
      there = first.there;
      owes = record {
        rest = first.rest;
        owes = rw first.there first.first;
        idle = none-returning (sides_of old) a first.place.buffer x (sides-sound old sound).returns here;
      };
    }

-- ---- what the log tells

module _ (old new : Stand) (a b : ℕ) (log : KeptEvents) (was : IsSoundAndRecorded (with_log old log)) (here : IsApp old.apps a (side_of old a))
    (gave : GaveBack old new a b) (only : OnlyCard old new) where
  sound : IsSound old
  sound = was.sound

  owed : WasOwed b old a
  owed = was-owed old new a b sound here gave

  can : CardCan (honours a gave.entry owed.place gave.last) (sides_of old)
  can = ((sides-sound old sound).fit, here, owed.owes)

  honoured-nic : new.nic ≡ nic_at old.nic (card_view (honours a gave.entry owed.place gave.last) old.nic.view)
  honoured-nic =
      let is = nic-by old new (gave_up (honoured old.nic.view a gave.entry b) b gave.last) sound only.sound gave.event refl in
      subst (λ c. new.nic ≡ nic_at old.nic (gave_up (honoured old.nic.view a gave.entry c) c gave.last)) (sym owed.there) is

  honoured-made : sides_of new ≡ apply (card (honours a gave.entry owed.place gave.last)) (sides_of old)
  honoured-made = card-made (honours a gave.entry owed.place gave.last) old new honoured-nic only

  abbrev honour : ℕ → ℕ → Event
  honour pool user = event.Honour a b pool user

  honour-is : (pool user : ℕ) → pool ≡ pool_of (sides_of new) b → user ≡ user_of (sides_of new) a b
      → honour pool user ∷ [] ≡ card_events (honours a gave.entry owed.place gave.last) (sides_of new)
  honour-is pool user pools users = rw (owed.there, pools, users) refl

  pub honour-told : (pool user : ℕ) → pool ≡ pool_of (sides_of new) b → user ≡ user_of (sides_of new) a b → HasSmallNumbers (honour pool user)
      → IsSoundAndRecorded (with_log new (logged log (honour pool user)))
  honour-told pool user pools users small =
      card-told (honours a gave.entry owed.place gave.last) old new log was can tt honoured-nic only (honour pool user ∷ [])
      (honour-is pool user pools users) (small, tt)

  pub honour-tells : (now : KeptEvents) (pool user : ℕ) → pool ≡ pool_of (sides_of new) b → user ≡ user_of (sides_of new) a b
      → now ≡ logged log (honour pool user) → HonourTells a (with_log old log) (with_log new now)
  honour-tells now pool user pools users is = record {
    entry = gave.entry;
    place = owed.place;
    last = gave.last;
    made = honoured-made;
    log = is ∙ ap (all_logged log) (honour-is pool user pools users);
  }

-- what the log tells, by the answer
pub return-tells : (a : ℕ) (old new : Board) (e : Entry) → IsReturn e → HonourTells a old new → EntryTells a e old new
return-tells a old new Freed is tells = tells
return-tells a old new Honoured is tells = tells
return-tells a old new Stray is tells = absurd is
return-tells a old new Empty is tells = absurd is

pub empty-tells : (a : ℕ) (old new : Board) (e : Entry) → IsNoReturn e → (e ≡ Stray → ⊥) → new.log ≡ old.log → EntryTells a e old new
empty-tells a old new Freed none other same = absurd none
empty-tells a old new Honoured none other same = absurd none
empty-tells a old new Stray none other same = absurd (other refl)
empty-tells a old new Empty none other same = same
