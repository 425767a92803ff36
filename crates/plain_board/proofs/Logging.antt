-- What a call of a face changes of a board's sides, and that the log goes on to tell of them.
use Rattle.std.proofs.Common.{◌≡◌, ℕ, ◌^◌, ◌<◌, Bool, true, false, List, [], length, map, set, refl, ap, sym, ◌∙◌, arith}
use Rattle.std.{specs.{Prelude.{MatchBool, MatchResult, Result, Ok, Err}, List.{AllByRecursion}}, proofs.{lemmas.List.{length-set}, Common.{subst}}}
use Rattle.zr_kinds.specs.{declared.event.Event.{Event}, LegalRun.{HasSmallNumbers}, Setting.{total_buffers}}
use Rattle.area_layout.specs.Layout.{all_buffers}
use Rattle.board_face.specs.{Blank.{blank_app}, Laws.{AllSides, Scrubs, pool_of, scrubbed_by}, Counts.{EndedWereReturned}, NicCalls.{DealtWith}, NicEvents.{nic_saw}, Opened.{new_nic}}
use Rattle.board_face.specs.declared.{answers.Entry.{Entry, TheVariants.{Freed, Honoured, Stray, Empty}}, views.nic.NicLook.TheVariants.{RingEmpty}}
use Rattle.board_face.specs.{Sides.{app_at, nic_at}, declared.views.{nic.{NicView.{NicView}, NicSide.{NicSide}}, app.{AppView.{AppView}, AppSide.{AppSide}}}}
use Rattle.board_face.{proofs.CountLaws.{scrub_law}, specs.BoardSteps.{CardStep, AppStep, Step, AppCan, CardCan, Can, apply, app_view, card_view, card, app}}
use Rattle.plain_board.specs.{IsLogged.{AreSound, setting_of_sides}, Logs.{KeptEvents, all_logged}, ScrubLaw.{scrub_logged, scrub_of, scrubbed_sides}}
use Rattle.plain_board.{specs.StepEvents.{MayTell, app_events, card_events, events_of}, proofs.StepLaw.{step-law}}
use Rattle.plain_board.proofs.{OneSide.{one_side-law}, Scrubs.{scrubbed-law}, Settings.{total-same}, ShortFills.{fills-law}, SoundSides.{sound-law}}
use Rattle.plain_board.specs.{Board.{Board, Part}, Events.{IsNoReturn, TookOwed}, OneSide.{OnlyCard, OnlyView}, Recorded.{IsRecorded, IsSoundAndRecorded, IsSoundPart}}
use Rattle.plain_board.specs.Stand.{Stand, setting_of_arrays, sides_of, side_of, others_of}
use Rattle.plain_board.{specs.Sound.{IsSound, taken_of, notes_of, refills_of}, proofs.{AppFrames.{here-of}, Counting.{holders-few}}}

-- the board with this log, and the same in the hands of an application
abbrev pub with_log : Stand → KeptEvents → Board
with_log stand log = record { arrays = stand.arrays; nic = stand.nic; apps = stand.apps; log = log }

abbrev pub part_with : Stand → ℕ → KeptEvents → Part
part_with stand a log = record { board = with_log stand log; app = a }

-- what holds of a board's contents makes its sides sound
pub sides-sound : (board : Stand) → IsSound board → AreSound (sides_of board)
sides-sound board sound =
    sound-law (sides_of board)
    (rw sound.set.card sound.sizes.layout)
    (record {
      same = λ i x there. sound.set.roles i x there ∙ sym sound.set.card;
      many = sound.set.many ∙ sym (ap (λ s. s.layout.reserves) sound.set.card);
    })
    sound.set.numbers
    (λ a x here. record {
      notes = map taken_of (notes_of board.arrays a);
      entries = refills_of board.arrays a;
      relayed = sound.relayed.relayed a x here;
    })
    sound.counted.returned
    (record { entry = ap (λ i. i.entry) sound.set.card_rest; owes = λ i x there. (sound.set.roles_rest i x there).owes })
    sound.shown.places sound.by_one sound.filled

-- where a step was made, the log that has its events tells of the board
module _ (step : Step) (old new : Stand) (log : KeptEvents) (was : IsSoundAndRecorded (with_log old log)) (can : Can step (sides_of old))
    (may : MayTell step (sides_of old)) (sound : IsSound new) (made : sides_of new ≡ apply step (sides_of old)) where
  step-told : (events : List Event) → events ≡ events_of step (sides_of old) (sides_of new) → AllByRecursion HasSmallNumbers events
      → IsSoundAndRecorded (with_log new (all_logged log events))
  step-told events are small =
      let s = sides_of old in
      let now = apply step s in
      let same : events ≡ events_of step s now = are ∙ ap (events_of step s) made in
      let next : IsRecorded now (all_logged log (events_of step s now)) =
      step-law step s (sides-sound old was.sound) can may log (subst (AllByRecursion HasSmallNumbers) same small) was.recorded in
      record {
        sound = sound;
        recorded = subst (λ x. IsRecorded x (all_logged log events)) (sym made) (subst (λ es. IsRecorded now (all_logged log es)) (sym same) next);
      }

-- ---- the card's calls

-- between two calls a card has nothing in hand, so its side is its view's
pub nic-by : (old new : Stand) (v : NicView) → IsSound old → IsSound new → new.nic.view ≡ v → v.setting ≡ old.nic.view.setting
    → new.nic ≡ nic_at old.nic v
nic-by old new v before after view setting =
    let settings : setting_of_arrays new.arrays ≡ setting_of_arrays old.arrays =
    sym after.set.card ∙ (ap (λ w. w.setting) view ∙ (setting ∙ before.set.card)) in
    let inside : new.nic.inside ≡ old.nic.inside =
    after.set.card_rest ∙ (ap (λ s. (new_nic s).inside) settings ∙ sym before.set.card_rest) in
    rw (← view, ← inside) refl

sides-are : (nic other : NicSide) (apps others : List AppSide) → nic ≡ other → apps ≡ others
    → ◌≡◌ {A = AllSides} (record { nic = nic; apps = apps }) (record { nic = other; apps = others })
sides-are nic other apps others e d = rw (e, d) refl

pub card-made : (step : CardStep) (old new : Stand) → new.nic ≡ nic_at old.nic (card_view step old.nic.view) → OnlyCard old new
    → sides_of new ≡ apply (card step) (sides_of old)
card-made step old new nic only = sides-are new.nic (nic_at old.nic (card_view step old.nic.view)) new.apps old.apps nic only.apps

module _ (step : CardStep) (old new : Stand) (log : KeptEvents) (was : IsSoundAndRecorded (with_log old log)) (can : CardCan step (sides_of old))
    (may : MayTell (card step) (sides_of old)) (nic : new.nic ≡ nic_at old.nic (card_view step old.nic.view)) (only : OnlyCard old new) where
  pub card-told : (events : List Event) → events ≡ card_events step (sides_of new) → AllByRecursion HasSmallNumbers events
      → IsSoundAndRecorded (with_log new (all_logged log events))
  card-told = step-told (card step) old new log was can may only.sound (card-made step old new nic only)

pub by-answer : (b : Bool) {A B C : Type 0} → MatchBool b A B → (A → C) → (B → C) → C
by-answer true it then_do else_do = then_do it
by-answer false it then_do else_do = else_do it

pub by-result : {T E : Type 0} (r : Result T E) {A : T → Type 0} {B : E → Type 0} {C : Type 0} → MatchResult r A B
    → ((x : T) → A x → C) → ((e : E) → B e → C) → C
by-result (Ok x) it ok_do err_do = ok_do x it
by-result (Err e) it ok_do err_do = err_do e it

-- nothing was there, where no reference was given back and no stray passed over
pub only-looked : (old new : NicView) (a : ℕ) (e : Entry) → DealtWith old new a e → IsNoReturn e → (e ≡ Stray → ⊥) → new ≡ nic_saw old (RingEmpty a)
only-looked old new a Freed it none other = absurd none
only-looked old new a Honoured it none other = absurd none
only-looked old new a Stray it none other = absurd (other refl)
only-looked old new a Empty it none other = it.event

-- ---- an application's calls

side-is : (x now : AppSide) (v : AppView) → now.view ≡ v → now.inside ≡ x.inside → now ≡ app_at x v
side-is x now v view inside = rw (← view, ← inside) refl

-- only its own side changes
app-sides : (old new : Stand) (a : ℕ) (now : AppSide) → IsSound old → a < old.arrays.layout.reserves → others_of new a ≡ others_of old a → side_of new a ≡ now
    → sides_of new ≡ record { nic = old.nic; apps = set old.apps a now }
app-sides old new a now before within others side =
    let here = here-of old a before within in
    let there : a < length new.apps =
    omega (arith, ap (λ o. length o.apps) others, length-set new.apps a blank_app, length-set old.apps a blank_app, here.there) in
    one_side-law (sides_of old) (sides_of new) a now (ap (λ o. o.card) others) (ap (λ o. o.apps) others) there side

module _ (step : AppStep) (old new : Stand) (a : ℕ) (log : KeptEvents) (was : IsSoundPart (part_with old a log)) (can : AppCan step old.nic (side_of old a))
    (may : MayTell (app a step) (sides_of old)) (only : OnlyView old new a) (view : (side_of new a).view ≡ app_view step (side_of old a).view) where
  pub app-told : (events : List Event) → events ≡ app_events a step (side_of old a).view (sides_of new) → AllByRecursion HasSmallNumbers events
      → IsSoundPart (part_with new a (all_logged log events))
  app-told events are small =
      let x = side_of old a in
      let v = app_view step x.view in
      let made = app-sides old new a (app_at x v) was.board.sound was.app only.others (side-is x (side_of new a) v view only.inside) in
      record {
        app = rw only.layout was.app;
        board = step-told (app a step) old new log was.board (here-of old a was.board.sound was.app, can) may only.sound made events are small;
      }

pub ended-returned : (old : Stand) (a : ℕ) (log : KeptEvents) → IsSoundPart (part_with old a log) → (b : ℕ) → EndedWereReturned b old.nic (side_of old a)
ended-returned old a log was b = (sides-sound old was.board.sound).fit.ended a b (side_of old a) (here-of old a was.board.sound was.app)

-- a scrub, which is logged before it takes what the application owes
module _ (old new : Stand) (a : ℕ) (kept : KeptEvents) (was : IsSoundPart (part_with old a kept)) (others : others_of new a ≡ others_of old a)
    (loans : (side_of old a).view.loans ≡ []) (took : TookOwed old new a) where
  before : IsSound old
  before = was.board.sound

  within : a < old.arrays.layout.reserves
  within = was.app

  abbrev after : AllSides
  after = scrubbed_sides (sides_of old) a (side_of old a) took.total

  is-scrub : Scrubs a (sides_of old) after
  is-scrub = scrub_law (sides_of old) (sides-sound old before).fit a (side_of old a) (here-of old a before within) loans took.total took.all

  all-there : total_buffers (setting_of_sides (sides_of old)) ≡ all_buffers old.arrays.layout
  all-there = total-same old.nic.view.setting.layout ∙ ap (λ s. all_buffers s.layout) before.set.card

  small-scrub : (b : ℕ) → b < total_buffers (setting_of_sides (sides_of old)) → HasSmallNumbers (scrub_of after a b)
  small-scrub b lies =
      let good = before.sizes.layout in
      let number : a < 2 ^ 32 = omega (arith, within, good.reserves.1) in
      let buffer : b < 2 ^ 32 = omega (arith, lies, all-there, good.buffers, good.reserves.1) in
      let pool : pool_of after b < 2 ^ 32 = omega (arith, is-scrub.pool b, holders-few old before b) in
      (number, (buffer, (pool, (omega (arith, is-scrub.own b), tt))))

  scrubbed-made : sides_of new ≡ after
  scrubbed-made = app-sides old new a (scrubbed_by (side_of old a) took.total) before within others took.side

  pub scrub-told : (said : KeptEvents)
      → ((later : AllSides) → Scrubs a (sides_of old) later → said ≡ scrub_logged (sides_of old) later a kept (all_buffers old.arrays.layout))
      → said ≡ scrub_logged (sides_of old) (sides_of new) a kept (all_buffers old.arrays.layout)
  scrub-told said tells = tells (sides_of new) (subst (Scrubs a (sides_of old)) (sym scrubbed-made) is-scrub)

  scrub-logs : (said : KeptEvents)
      → ((then : AllSides) → Scrubs a (sides_of old) then → said ≡ scrub_logged (sides_of old) then a kept (all_buffers old.arrays.layout))
      → IsRecorded (sides_of new) said
  scrub-logs said tells =
      let x = side_of old a in
      let here = here-of old a before within in
      let now = scrubbed_by x took.total in
      let recorded = was.board.recorded in
      let logged = scrubbed-law (sides_of old) (sides-sound old before) a x here loans took.total took.all kept small-scrub recorded.logged in
      rw (scrubbed-made, tells after is-scrub)
      (record { logged = rw all-there at logged; short = fills-law.same old.apps a x now here refl recorded.short })

  pub scrubbed-part : new.arrays.layout ≡ old.arrays.layout → IsSound new → (said : KeptEvents)
      → ((then : AllSides) → Scrubs a (sides_of old) then → said ≡ scrub_logged (sides_of old) then a kept (all_buffers old.arrays.layout))
      → IsSoundPart (part_with new a said)
  scrubbed-part layout sound said tells =
      record { app = rw layout within; board = record { sound = sound; recorded = scrub-logs said tells } }
