-- The laws on counts and free places, from the lemmas on each event.
use Rattle.board_face.{proofs.{FreeLemmas.{free-side}, Counted.{user-here}}, specs.Laws.{one_user, KeepsFree}}
use Rattle.zr_kinds.proofs.Booleans.{if-none}
use Rattle.board_face.specs.BoardSteps.{AppStep, AppCan, app_view, polls, polls_linear, cuts, releases, gives, abandons, spares, fills, lends_own, sees, reads, pushes, settles, falls_quiet, is_told, leaves}
use Rattle.board_face.specs.BoardSteps as steps
use Rattle.board_face.specs.Holdings.{Hold, CountsBy, app_ends, app_begins, weight_in as weights, used, here}
use Rattle.board_face.proofs.{Counted.{counted}, Exchanging.{app-exchanged}}
use Rattle.std.proofs.Common.{◌≡◌, ℕ, ◌+◌, Bool, true, false, refl, ap, sym, ◌∙◌, arith, ⊎_elim}
use Rattle.std.{specs.{Prelude.{◌≢◌, if◌then◌else◌, ◌==◌, slice_index}}, proofs.lemmas.Bool.{cases_eq, eq-eqb}}
use Rattle.board_face.specs.Laws.{AllSides, FitTogether, by_card, by_app, one_at, KeepsAll, GainsHolder, GainsUser, TakeLaw, SweepLaw, PlaceLaw}
use Rattle.board_face.specs.Laws.{SendLaw, ShutLaw, HonourLaw, StrayLaw, CardKeeps, PollLaw, CutLaw, LendLaw, ReleaseLaw, GiveLaw, SpareLaw, FillLaw}
use Rattle.board_face.specs.Laws.{LendOwnLaw, AppKeepsAll, ScrubLaw}
use Rattle.board_face.specs.NicEvents.{took, swept, placed, sent, sent_linear, gave_up, shut, passed_over, honoured, nic_saw, saw_leave, nic_ended}
use Rattle.board_face.specs.{Sides.{nic_at, IsApp}, Counts.{user_count}}
use Rattle.board_face.specs.{FreeOnce.{free_places}, declared.views.{nic.{NicView.{NicView}, NicSide.{NicSide}}, app.{AppSide.{AppSide}}}}
use Rattle.board_face.proofs.{ListLemmas.{not-eqb}, Tallies.{one_if}, Parts.{nic_count, user_part, owed_count, owed-count, user_count-parts, total-only}}
use Rattle.board_face.proofs.NicLemmas.{Owes, pool_count-nic, user_count-nic, pool_count-took, pool_count-placed, pool_count-swept, pool_count-gave_up}
use Rattle.board_face.proofs.NicLemmas.{pool_count-shut, pool_count-sent, pool_count-sent_linear, pool_count-honoured, user_count-honoured}
use Rattle.board_face.proofs.{NicLemmas.{pool_count-passed_over, user_count-passed_over}, AppLemmas.{scrubbed_side, pool_count-app, user_count-app}}
use Rattle.board_face.proofs.AppLemmas.{app_count-scrubbed, user_part-scrubbed}
use Rattle.board_face.proofs.FreeLemmas.{free_places-took, free_places-swept, free_places-gave_up, free_places-nic, free_places-app, comes_in}

turned : (a b : ℕ) → one_if (a == b) ≡ one_at b a
turned a b =
    ⊎_elim
    (λ e. rw e refl)
    (λ ne. rw (not-eqb a b ne, not-eqb b a (λ e. ne (sym e))) refl)
    (cases_eq a b)

turned-if : (c : Bool) (a b : ℕ) → (if c then one_if (a == b) else 0) ≡ (if c then one_at b a else 0)
turned-if c a b = ap (λ n. if c then n else 0) (turned a b)

-- ---- the card

card-keeps : (s : AllSides) (v : NicView) → v.sent ≡ s.nic.view.sent → v.dealt ≡ s.nic.view.dealt → v.cache ≡ s.nic.view.cache
    → ((b : ℕ) → nic_count b (nic_at s.nic v) ≡ nic_count b s.nic) → KeepsAll s (by_card s v)
card-keeps s v sents deals cache counts = record {
  pool = λ b. omega (arith, pool_count-nic b s.nic v s.apps sents deals, counts b);
  users = λ a b. user_count-nic a b s.nic v s.apps deals;
  free = λ listed b. free_places-nic listed b s.nic v s.apps cache;
}

pub take_law : TakeLaw
take_law s buffer last = record {
  pool = λ b. pool_count-took b s.nic s.apps buffer;
  users = λ a b. user_count-nic a b s.nic (took s.nic.view buffer) s.apps refl;
  free = λ listed b. omega (arith, free_places-took listed b s.nic s.apps buffer last, turned b buffer);
}

pub sweep_law : SweepLaw
sweep_law s word found = record {
  pool = λ b. pool_count-swept b s.nic s.apps word found;
  users = λ a b. user_count-nic a b s.nic (swept s.nic.view word found) s.apps refl;
  free = λ listed b. free_places-swept listed b s.nic s.apps word found;
}

pub place_law : PlaceLaw
place_law s own bytes out = record {
  pool = λ b. pool_count-placed b s.nic s.apps own bytes out;
  users = λ a b. user_count-nic a b s.nic (placed s.nic.view own bytes) s.apps refl;
  free = λ listed b. free_places-nic listed b s.nic (placed s.nic.view own bytes) s.apps refl;
}

pub send_law : SendLaw
send_law = record {
  split = λ s fit a app here note split out. record {
    pool = λ b. pool_count-sent b s.nic s.apps a note app out split fit.numbers here (fit.taken a app here);
    users = λ x b. user_count-nic x b s.nic (sent s.nic.view a note) s.apps refl;
    free = λ listed b. free_places-nic listed b s.nic (sent s.nic.view a note) s.apps refl;
  };
  linear = λ s fit a app here note split bytes. record {
    pool = λ b. pool_count-sent_linear b s.nic s.apps a note bytes app split fit.numbers here (fit.taken a app here);
    users = λ x b. user_count-nic x b s.nic (sent_linear s.nic.view a note bytes) s.apps refl;
    free = λ listed b. free_places-nic listed b s.nic (sent_linear s.nic.view a note bytes) s.apps refl;
  };
}

pub shut_law : ShutLaw
shut_law s own last out = record {
  pool = λ b. pool_count-shut b s.nic s.apps own last out;
  users = λ a b. user_count-nic a b s.nic (shut s.nic.view own last) s.apps refl;
  free = λ listed b. free_places-gave_up listed b s.nic s.apps own.buffer last
      ∙ ap (λ n. free_places listed b s.nic s.apps + n) (turned-if (comes_in s.nic own.buffer last) b own.buffer);
}

pub honour_law : HonourLaw
honour_law s fit a app here entry buffer last some =
    let ended = fit.ended a buffer app here in
    let owes : Owes buffer s.nic app = record { owes = omega (arith, some, owed-count buffer s.nic app); returning = ended.returning } in
    let after : NicSide = nic_at s.nic (honoured s.nic.view a entry buffer) in
    record {
      pool = λ b. omega (arith, pool_count-gave_up b after s.apps buffer last, pool_count-honoured b s.nic s.apps a buffer entry app fit.numbers here owes);
      users = λ x b.
          let less = user_count-honoured x b s.nic s.apps a buffer entry app fit.numbers here owes in
          omega (arith, user_count-nic x b after (gave_up after.view buffer last) s.apps refl, less);
      free = λ listed b. free_places-gave_up listed b after s.apps buffer last
          ∙ ap (λ n. free_places listed b s.nic s.apps + n) (turned-if (comes_in s.nic buffer last) b buffer);
    }

pub stray_law : StrayLaw
stray_law s a entry = record {
  pool = λ b. pool_count-passed_over b s.nic s.apps a entry;
  users = λ x b. user_count-passed_over x b s.nic s.apps a entry;
  free = λ listed b. free_places-nic listed b s.nic (passed_over s.nic.view a entry) s.apps refl;
}

pub card_keeps : CardKeeps
card_keeps = record {
  look = λ s look. card-keeps s (nic_saw s.nic.view look) refl refl refl (λ b. refl);
  leave = λ s a. card-keeps s (saw_leave s.nic.view a) refl refl refl (λ b. refl);
  end = λ s. card-keeps s (nic_ended s.nic.view) refl refl refl (λ b. refl);
}

-- ---- an application

module _ (step : AppStep) (s : AllSides) (a : ℕ) (app : AppSide) (here : IsApp s.apps a app) (can : AppCan step s.nic app) where
  abbrev behind : AllSides
  behind = by_app s a app (app_view step app.view)

  abbrev ended : (Hold → ℕ) → ℕ → ℕ
  ended w b = weights w b (app_ends a step app.view)

  abbrev begun : (Hold → ℕ) → ℕ → ℕ
  begun w b = weights w b (app_begins a step app.view)

  now : CountsBy (app_ends a step app.view) (app_begins a step app.view) s behind
  now = counted s behind (app_ends a step app.view) (app_begins a step app.view) (app-exchanged step s a app here can)

  free : KeepsFree s behind
  free listed b = free_places-app listed b s.nic s.apps a app (app_view step app.view) here

  keeps : ((b : ℕ) → begun (λ h. 1) b ≡ ended (λ h. 1) b) → ((x b : ℕ) → begun (used x) b ≡ ended (used x) b) → KeepsAll s behind
  keeps pools users = record { pool = λ b. omega (arith, now.pool b, pools b); users = λ x b. omega (arith, now.users x b, users x b); free = free }

  gains : (buffer : ℕ) → ((b : ℕ) → begun (λ h. 1) b ≡ ended (λ h. 1) b + one_at buffer b) → ((x b : ℕ) → begun (used x) b ≡ ended (used x) b)
      → GainsHolder buffer s behind
  gains buffer pools users = record {
    pool = λ b. omega (arith, now.pool b, pools b);
    users = λ x b. omega (arith, now.users x b, users x b);
    free = free;
  }

  lends : (buffer : ℕ) → ((b : ℕ) → begun (λ h. 1) b ≡ ended (λ h. 1) b) → ((x b : ℕ) → begun (used x) b ≡ ended (used x) b + one_user a buffer x b)
      → GainsUser a buffer s behind
  lends buffer pools users = record {
    pool = λ b. omega (arith, now.pool b, pools b);
    users = λ x b. omega (arith, now.users x b, users x b);
    free = free;
  }

nothing : (buffer b : ℕ) → here b buffer 0 ≡ 0
nothing buffer b = if-none (buffer == b) 0 refl

pub poll_law : PollLaw
poll_law = record {
  split = λ s a app at note split next. keeps (polls note) s a app at (split, next) (λ b. refl) (λ x b. refl);
  linear = λ s a app at note split next bytes. keeps (polls_linear note bytes) s a app at (split, next) (λ b. refl) (λ x b. refl);
}

pub cut_law : CutLaw
cut_law s a app at place n out = gains (cuts place n) s a app at out place.buffer (λ b. omega arith) (λ x b. omega (arith, nothing place.buffer b))

pub release_law : ReleaseLaw
release_law s a app at place out =
    let after = now (releases place) s a app at out in
    record {
      pool = λ b. omega (arith, after.pool b);
      users = λ x b. omega (arith, after.users x b, nothing place.buffer b);
      free = free (releases place) s a app at out;
    }

pub lend_law : LendLaw
lend_law s a app at place out =
    lends (steps.lends place) s a app at out place.buffer (λ b. refl) (λ x b. omega (arith, nothing place.buffer b, user-here a x place.buffer b))

pub give_law : GiveLaw
give_law = record {
  given = λ s fit a app at place out. keeps (gives place) s a app at (out, λ b. fit.ended a b app at) (λ b. refl) (λ x b. refl);
  abandoned = λ s fit a app at place out. keeps (abandons place) s a app at (out, λ b. fit.ended a b app at) (λ b. refl) (λ x b. refl);
}

pub spare_law : SpareLaw
spare_law s a app at buffer = gains (spares buffer) s a app at tt buffer (λ b. omega arith) (λ x b. omega (arith, nothing buffer b))

pub fill_law : FillLaw
fill_law s a app at own bytes out = keeps (fills own bytes) s a app at out (λ b. refl) (λ x b. refl)

pub lend_own_law : LendOwnLaw
lend_own_law s a app at own out =
    lends (lends_own own) s a app at out own.buffer (λ b. refl) (λ x b. omega (arith, nothing own.buffer b, user-here a x own.buffer b))

pub app_keeps : AppKeepsAll
app_keeps = record {
  look = λ s a app at look. keeps (sees look) s a app at tt (λ b. refl) (λ x b. refl);
  read = λ s a app at place from bytes. keeps (reads place from bytes) s a app at tt (λ b. refl) (λ x b. refl);
  raw = λ s a app at entry. keeps (pushes entry) s a app at tt (λ b. refl) (λ x b. refl);
  settled = λ s a app at. keeps settles s a app at tt (λ b. refl) (λ x b. refl);
  quiet = λ s a app at. keeps falls_quiet s a app at tt (λ b. refl) (λ x b. refl);
  end = λ s a app at. keeps is_told s a app at tt (λ b. refl) (λ x b. refl);
  left = λ s a app at. keeps leaves s a app at tt (λ b. refl) (λ x b. refl);
}

-- ---- a scrub

-- the users that an application has are its own part
users-mine : (s : AllSides) (a b : ℕ) (app : AppSide) → FitTogether s → IsApp s.apps a app → user_count a b s.nic s.apps ≡ user_part a b s.nic app
users-mine s a b app fit here =
    user_count-parts a b s.nic s.apps
    ∙ total-only 0 (user_part a b s.nic) a (λ other ne. rw (not-eqb other.view.app a ne) refl) s.apps fit.numbers a app here.there (omega arith)
    ∙ ap (user_part a b s.nic) here.is

pub scrub_law : ScrubLaw
scrub_law s fit a app here loans total takes =
    let now = scrubbed_side app total in
    let all : (b : ℕ) → slice_index total b ≡ slice_index app.inside.scrub_took b + owed_count b s.nic app = λ b. takes b
    ∙ ap (λ n. slice_index app.inside.scrub_took b + n) (owed-count b s.nic app) in
    let ended = λ (b : ℕ). fit.ended a b app here in
    let is : (app.view.app == a) ≡ true = eq-eqb app.view.app a here.number in
    let mine : (b : ℕ) → user_part a b s.nic app ≡ owed_count b s.nic app = λ b. rw (is, loans) (omega arith) in
    let none : (b : ℕ) → user_part a b s.nic now ≡ 0 = λ b. user_part-scrubbed a b s.nic app total (ended b) (all b) ∙ rw (is, loans) refl in
    let isnt : (x : ℕ) → x ≢ a → (app.view.app == x) ≡ false = λ x ne. not-eqb app.view.app x (λ e. ne (sym e ∙ here.number)) in
    let not_its : (x b : ℕ) → x ≢ a → user_part x b s.nic app ≡ 0 = λ x b ne. rw (isnt x ne) refl in
    let nor_then : (x b : ℕ) → x ≢ a → user_part x b s.nic now ≡ 0 = λ x b ne. user_part-scrubbed x b s.nic app total (ended b) (all b)
    ∙ rw (isnt x ne) refl in
    record {
      pool = λ b.
          let less = app_count-scrubbed b s.nic app total (ended b) (all b) in
          omega (arith, pool_count-app b s.nic s.apps a app now here, less, users-mine s a b app fit here, mine b);
      own = λ b. omega (arith, user_count-app a b s.nic s.apps a app now here, users-mine s a b app fit here, none b);
      others = λ x b ne. omega (arith, user_count-app x b s.nic s.apps a app now here, not_its x b ne, nor_then x b ne);
      free = λ listed b. free-side listed b s.nic s.apps a app now here refl;
    }
