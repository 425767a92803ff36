-- What the events tell of loans, copies and strays goes on to be so, as the sides change.
use Rattle.std.proofs.Common.{◌≡◌, ◌∙◌, ℕ, ◌+◌, Bool, false, List, [], ◌∷◌, ◌++◌, length, map, get_or, set, refl, sym, ap, subst, arith, ⊎_elim}
use Rattle.std.{specs.{Prelude.{◌≢◌, count_by}, List.{sum_by, flat_map}}, proofs.lemmas.Bool.Decides.{eqb_tells}}
use Rattle.std.proofs.lemmas.List.{append-nil, flat_map_more, get_or-set_same, get_or-set_other, length-set, Sums.{sum_by-cons, sum_by_push}}
use Rattle.zr_kinds.specs.declared.event.Event.{Event}
use Rattle.board_face.specs.{Laws.{AllSides, by_card}, Sides.{IsApp}, declared.views.{nic.NicView.{NicView}, app.{AppView.{AppView}, AppSide.{AppSide}}}}
use Rattle.board_face.proofs.{Parts.{count-tally}, Tallies.{one_if as one, total, tally-push}}
use Rattle.plain_board.specs.Tallies.{AreTallied, IsTallied, TellsApp, TellsCard, is_copy_event, is_loan, is_spare, is_stray_event, len_of_loan, loan_bytes}
use Rattle.plain_board.specs.Tallies.{stray_events_in, strays_of}
use Rattle.plain_board.specs.{Tallies.{dealt_as, deals_of, holds_of, place_of_loan, returns_of, sends_of, sent_as, taken_as, takes_of}, ToldLaw.{IsToldOf}}

-- ---- one more

pub count-push : {A : Type 0} (test : A → Bool) (xs : List A) (x : A) → count_by test (xs ++ x ∷ []) ≡ count_by test xs + one (test x)
count-push test xs x = omega (arith, count-tally test (xs ++ x ∷ []), count-tally test xs, tally-push test xs x)

pub sum-total : {A : Type 0} (f : A → ℕ) (xs : List A) → sum_by f xs ≡ total f xs
sum-total f [] = refl
sum-total f (x ∷ xs) = sum_by-cons f x xs ∙ ap (λ n. f x + n) (sum-total f xs)

-- ---- what the card did

-- one event more
list-push : {A : Type 0} (f : Event → List A) (events : List Event) (e : Event) (old new : List A) → flat_map f events ≡ old → new ≡ old ++ f e
    → flat_map f (events ++ e ∷ []) ≡ new
list-push f events e old new was is = sym (flat_map_more f [] events e) ∙ (ap (λ xs. xs ++ f e) was ∙ sym is)

-- what the event tells of the card is what the card's lists have more
pub record CardGains (e : Event) (old new : NicView) : Type 0 where
  pub takes : new.used ≡ old.used ++ takes_of e
  pub sends : flat_map sent_as new.sent ≡ flat_map sent_as old.sent ++ sends_of e
  pub deals : map dealt_as new.dealt ≡ map dealt_as old.dealt ++ deals_of e

card-told : (e : Event) (old new : NicView) (events : List Event) → CardGains e old new → TellsCard old events → TellsCard new (events ++ e ∷ [])
card-told e old new events gains was = record {
  takes = list-push takes_of events e _ _ was.takes gains.takes;
  sends = list-push sends_of events e _ _ was.sends gains.sends;
  deals = list-push deals_of events e _ _ was.deals gains.deals;
}

-- The event tells nothing of the card.
pub record IsNoneOfCard (e : Event) : Type 0 where
  pub stray : is_stray_event e ≡ false
  pub takes : takes_of e ≡ []
  pub sends : sends_of e ≡ []
  pub deals : deals_of e ≡ []

-- the card's lists are the same
pub card-stays : (e : Event) (old new : NicView) → IsNoneOfCard e → new.used ≡ old.used → new.sent ≡ old.sent → new.dealt ≡ old.dealt
    → CardGains e old new
card-stays e old new none used sent dealt = record {
  takes = used ∙ (sym (append-nil old.used) ∙ ap (λ xs. old.used ++ xs) (sym none.takes));
  sends = ap (flat_map sent_as) sent ∙ (sym (append-nil _) ∙ ap (λ xs. flat_map sent_as old.sent ++ xs) (sym none.sends));
  deals = ap (map dealt_as) dealt ∙ (sym (append-nil _) ∙ ap (λ xs. map dealt_as old.dealt ++ xs) (sym none.deals));
}

-- ---- one application changes

-- What the application with this number is may change, and the events with it, if they tell the same of the others.
pub side-tallied : (s : AllSides) (a : ℕ) (app now : AppSide) → IsApp s.apps a app → (before after : List Event)
    → (IsTallied a app.view before → IsTallied a now.view after)
    → ((other : ℕ) (v : AppView) → other ≢ a → IsTallied other v before → IsTallied other v after) → stray_events_in after ≡ stray_events_in before
    → (TellsCard s.nic.view before → TellsCard s.nic.view after) → AreTallied s before → AreTallied (record { nic = s.nic; apps = set s.apps a now }) after
side-tallied s a app now at before after own others strays card was = record {
  apps = λ b it there.
      let within = length-set s.apps a now in
      ⊎_elim
      (λ t.
      let e : b ≡ a = t.1 in
      let is : it ≡ now = sym there.is ∙ ap (λ n. get_or (set s.apps a now) n it) e ∙ get_or-set_same s.apps a now it at.there in
      subst (λ n. IsTallied n it.view after) (sym e)
      (subst (λ (x : AppSide). IsTallied a x.view after) (sym is) (own (was.apps a app at))))
      (λ t.
      let same : get_or s.apps b it ≡ it = sym (get_or-set_other s.apps a b now it t.1) ∙ there.is in
      others b it.view t.1 (was.apps b it (record { there = omega (arith, there.there, within); is = same; number = there.number })))
      (eqb_tells b a);
  strays = strays ∙ was.strays;
  card = card was.card;
}

-- so many loans more, with so many bytes, and so many copies
pub record Gains (loans bytes copies : ℕ) (old new : AppView) : Type 0 where
  pub loans_are : length new.loans + length new.returned ≡ length old.loans + length old.returned + loans
  pub bytes_are : sum_by len_of_loan new.loans + sum_by len_of_loan new.returned ≡ sum_by len_of_loan old.loans + sum_by len_of_loan old.returned + bytes
  pub copies_are : new.spares + length old.owns ≡ old.spares + length new.owns + copies

pub gains-none : (old new : AppView) → new.loans ≡ old.loans → new.returned ≡ old.returned → new.owns ≡ old.owns → new.spares ≡ old.spares
    → Gains 0 0 0 old new
gains-none old new loans returned owns spares = record {
  loans_are = omega (arith, ap length loans, ap length returned);
  bytes_are = omega (arith, ap (sum_by len_of_loan) loans, ap (sum_by len_of_loan) returned);
  copies_are = omega (arith, ap length owns, spares);
}

-- what the event tells of the application is what its lists have more
pub record AppGains (a : ℕ) (e : Event) (old new : AppView) : Type 0 where
  pub holds : flat_map taken_as new.taken ≡ flat_map taken_as old.taken ++ holds_of a e
  pub returns : map place_of_loan new.returned ≡ map place_of_loan old.returned ++ returns_of a e
  pub spares : new.spares ≡ old.spares + one (is_spare a e)

app-told : (a : ℕ) (e : Event) (old new : AppView) (events : List Event) → AppGains a e old new → TellsApp a old events
    → TellsApp a new (events ++ e ∷ [])
app-told a e old new events gains was = record {
  holds = list-push (holds_of a) events e _ _ was.holds gains.holds;
  returns = list-push (returns_of a) events e _ _ was.returns gains.returns;
  spares = omega (arith, count-push (is_spare a) events e, gains.spares, was.spares);
}

-- its lists are the same
pub record SameLists (old new : AppView) : Type 0 where
  pub taken : flat_map taken_as new.taken ≡ flat_map taken_as old.taken
  pub returned : new.returned ≡ old.returned
  pub spares : new.spares ≡ old.spares

-- one event more that tells of the application
pub event-tallied : (a : ℕ) (e : Event) (old new : AppView) (events : List Event)
    → Gains (one (is_loan a e)) (loan_bytes a e) (one (is_copy_event a e)) old new → AppGains a e old new → IsTallied a old events
    → IsTallied a new (events ++ e ∷ [])
event-tallied a e old new events gains lists was = record {
  loans = omega (arith, count-push (is_loan a) events e, gains.loans_are, was.loans);
  bytes = omega (arith, sum_by_push (loan_bytes a) events e, gains.bytes_are, was.bytes);
  copies = omega (arith, count-push (is_copy_event a) events e, gains.copies_are, was.copies);
  lists = app-told a e old new events lists was.lists;
}

-- The event tells nothing of this application.
pub record TellsNothing (a : ℕ) (e : Event) : Type 0 where
  pub loans : is_loan a e ≡ false
  pub bytes : loan_bytes a e ≡ 0
  pub copies : is_copy_event a e ≡ false
  pub holds : holds_of a e ≡ []
  pub returns : returns_of a e ≡ []
  pub spares : is_spare a e ≡ false

pub app-stays : (a : ℕ) (e : Event) (old new : AppView) → TellsNothing a e → SameLists old new → AppGains a e old new
app-stays a e old new nothing same = record {
  holds = same.taken ∙ (sym (append-nil _) ∙ ap (λ xs. flat_map taken_as old.taken ++ xs) (sym nothing.holds));
  returns = ap (map place_of_loan) same.returned ∙ (sym (append-nil _) ∙ ap (λ xs. map place_of_loan old.returned ++ xs) (sym nothing.returns));
  spares = omega (arith, same.spares, ap one nothing.spares);
}

nothing-gained : (a : ℕ) (e : Event) (old new : AppView) → TellsNothing a e → Gains 0 0 0 old new
    → Gains (one (is_loan a e)) (loan_bytes a e) (one (is_copy_event a e)) old new
nothing-gained a e old new nothing none = rw (nothing.loans, nothing.bytes, nothing.copies) none

none-gained : (v : AppView) → Gains 0 0 0 v v
none-gained v = gains-none v v refl refl refl refl

pub nothing-tallied : (a : ℕ) (e : Event) (v : AppView) (events : List Event) → TellsNothing a e → IsTallied a v events
    → IsTallied a v (events ++ e ∷ [])
nothing-tallied a e v events nothing was =
    event-tallied a e v v events (nothing-gained a e v v nothing (none-gained v))
    (app-stays a e v v nothing (assumption)) was

strays-push : (events : List Event) (e : Event) → is_stray_event e ≡ false → stray_events_in (events ++ e ∷ []) ≡ stray_events_in events
strays-push events e not_one = omega (arith, count-push is_stray_event events e, ap one not_one)

-- ---- the sides after an event

-- the tallies are those of the new sides, where this event is one more
abbrev pub Tallies : Event → AllSides → AllSides → Type 0
Tallies e old new = (events : List Event) → AreTallied old events → AreTallied new (events ++ e ∷ [])

abbrev pub KeepsTallies : AllSides → AllSides → Type 0
KeepsTallies old new = (events : List Event) → AreTallied old events → AreTallied new events

-- an event of an application
pub tallies-app : (e : Event) (s : AllSides) (a : ℕ) (app now : AppSide) → IsApp s.apps a app
    → Gains (one (is_loan a e)) (loan_bytes a e) (one (is_copy_event a e)) app.view now.view → AppGains a e app.view now.view
    → ((other : ℕ) → other ≢ a → TellsNothing other e) → IsNoneOfCard e → Tallies e s (record { nic = s.nic; apps = set s.apps a now })
tallies-app e s a app now at gains lists nothing none events was =
    side-tallied s a app now at events (events ++ e ∷ []) (event-tallied a e app.view now.view events gains lists)
    (λ other v ne. nothing-tallied other e v events (nothing other ne)) (strays-push events e none.stray)
    (card-told e s.nic.view s.nic.view events (card-stays e s.nic.view s.nic.view none refl refl refl)) was

same-tallied : (a : ℕ) (old new : AppView) (events : List Event) → Gains 0 0 0 old new → SameLists old new → IsTallied a old events
    → IsTallied a new events
same-tallied a old new events none same was = record {
  loans = omega (arith, none.loans_are, was.loans);
  bytes = omega (arith, none.bytes_are, was.bytes);
  copies = omega (arith, none.copies_are, was.copies);
  lists = record {
    holds = was.lists.holds ∙ sym same.taken;
    returns = was.lists.returns ∙ ap (map place_of_loan) (sym same.returned);
    spares = was.lists.spares ∙ sym same.spares;
  };
}

pub keeps-app : (s : AllSides) (a : ℕ) (app now : AppSide) → IsApp s.apps a app → Gains 0 0 0 app.view now.view
    → SameLists app.view now.view → KeepsTallies s (record { nic = s.nic; apps = set s.apps a now })
keeps-app s a app now at none same events was =
    side-tallied s a app now at events events (same-tallied a app.view now.view events none same) (λ other v ne is. is) refl (λ is. is) was

-- an event of the card
pub tallies-card : (e : Event) (s : AllSides) (v : NicView) → ((a : ℕ) → TellsNothing a e)
    → strays_of v.dealt ≡ strays_of s.nic.view.dealt + one (is_stray_event e) → CardGains e s.nic.view v → Tallies e s (by_card s v)
tallies-card e s v nothing strays gains events was = record {
  apps = λ a app at. nothing-tallied a e app.view events (nothing a) (was.apps a app at);
  strays = omega (arith, count-push is_stray_event events e, strays, was.strays);
  card = card-told e s.nic.view v events gains was.card;
}

pub keeps-card : (s : AllSides) (v : NicView) → v.used ≡ s.nic.view.used → flat_map sent_as v.sent ≡ flat_map sent_as s.nic.view.sent
    → v.dealt ≡ s.nic.view.dealt → KeepsTallies s (by_card s v)
keeps-card s v used sent dealt events was = assumption (was.strays ∙ ap strays_of (sym dealt), was.card.takes ∙ sym used, was.card.sends ∙ sym sent, was.card.deals ∙ ap (map dealt_as) (sym dealt))

-- ---- what a log tells

pub told-of : (a : ℕ) (v : AppView) (events : List Event) → IsTallied a v events → IsToldOf a v events
told-of a v events is = record {
  loans = λ none. omega (arith, is.loans, ap length none);
  bytes = λ none. omega (arith, is.bytes, ap (sum_by len_of_loan) none);
  copies = λ none. omega (arith, is.copies, ap length none);
}
