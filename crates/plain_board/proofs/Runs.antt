-- A log from the opening of its board to the end.
use Rattle.std.proofs.Common.{◌≡◌, ◌∙◌, ℕ, suc, ◌+◌, ◌*◌, ◌≤◌, List, [], ◌∷◌, length, map, take, get_or, leb, Option, Some, IsTrue, refl, sym, ap, subst, arith, ⊎_elim}
use Rattle.std.{specs.{Prelude.{All}, List.{filter_map}}, proofs.lemmas.{Bool.{cases_lt, lt-ltb, le-ltb, le-leb, leb-true}, List.{length-take, take_all}}}
use Rattle.std.proofs.lemmas.List.{Elements.{All-nil, All-cons, All-get_or}, Sums.{sum_by-cons}}
use Rattle.area_layout.specs.{declared.layout.Area.{Area}, Layout.{Shape, IsLayout, IsBufferSize, buffers_in, bytes_in, no_area}}
use Rattle.zr_kinds.specs.{Setting.{IsRunArea, IsSetting, pool_bytes}, declared.{event.Event.{Event}, holding.Holding.{Holding}}}
use Rattle.zr_kinds.{specs.{Holders.{Holdings, all_after, no_holdings}, LegalRun.{IsLegalRun}}, proofs.Weighing.{weight-length}}
use Rattle.board_face.specs.{Holders.{Kind, holders_of}, Laws.{AllSides, pool_of}, NicCalls.{apps_of}, Opened.{new_app_view, new_apps}}
use Rattle.board_face.{specs.declared.views.{parts.Setting.{Setting as Shared}, app.AppSide.{AppSide}}, proofs.OpenedLemmas.{All-new, count-new}}
use Rattle.plain_board.specs.{IsLogged.{IsLogged, setting_of_sides}, Logs.{KeptEvents}, Plain.{plain, plain_holders, weight}, RunLaws.{OpenedLaw, EndedLaw, opened_sides}}
use Rattle.plain_board.{specs.{Settings.{SettingLaw, areas_of, setting_of_layout}, Tallies.{IsTallied}, ToldLaw.{ToldLaw}}, proofs.FirstEvents.{front-reached}}
use Rattle.plain_board.proofs.{FirstEvents.{front-small}, Settings.{in-cons, pool_buffers-same, size-same, total-same}, Tallying.{told-of}}

-- ---- no holder

kinds-none : (kinds : List Kind) → length kinds ≡ 0 → filter_map plain kinds ≡ []
kinds-none [] none = refl
kinds-none (k ∷ kinds) none = absurd (omega (arith, none))

pub no-holders : (s : AllSides) (b : ℕ) → pool_of s b ≡ 0 → plain_holders s b ≡ []
no-holders s b none = kinds-none (holders_of b s.nic s.apps) none

-- an application that did nothing has no loans and no spares
new-tallied : (setting : Shared) (a : ℕ) → IsTallied a (new_app_view setting a) []
new-tallied setting a = assumption

abbrev NoneTallied : AppSide → Type 0
NoneTallied app = IsTallied app.view.app app.view []

pub opened-law : OpenedLaw
opened-law setting room most = record {
  most = most;
  all = [];
  log_is = rw (take_all {A = Event} room [] (omega arith), le-leb 0 room (omega arith)) refl;
  small = tt;
  holdings = λ b. [];
  reached = refl;
  same = λ b f. sym (ap (weight f) (no-holders (opened_sides setting) b (count-new b setting (apps_of setting))));
  tallied = record {
    apps = λ a app at.
        let apps = new_apps setting 0 (apps_of setting) in
        let new : NoneTallied app = subst NoneTallied at.is
        (All-get_or NoneTallied apps a app at.there (All-new NoneTallied setting 0 (apps_of setting) (new-tallied setting))) in
        subst (λ n. IsTallied n app.view []) at.number new;
    strays = refl;
    card = assumption;
  };
}

-- ---- the setting

bytes-cons : (a : Area) (areas : List Area) → bytes_in (a ∷ areas) ≡ a.buffers * a.size + bytes_in areas
bytes-cons a areas = sum_by-cons (λ (x : Area). x.buffers * x.size) a areas

run-bytes-cons : (area : ℕ × ℕ) (areas : List (ℕ × ℕ)) → pool_bytes (area ∷ areas) ≡ area.0 * area.1 + pool_bytes areas
run-bytes-cons area areas = sum_by-cons (λ (n : ℕ). n) (area.0 * area.1) (map (λ (x : ℕ × ℕ). x.0 * x.1) areas)

none-of : (n : ℕ) → 0 * n ≡ 0
none-of n = omega arith

bytes-same : (areas : List Area) → pool_bytes (areas_of areas) ≡ bytes_in areas
bytes-same [] = refl
bytes-same (a ∷ areas) =
    ⊎_elim
    (λ some. rw (lt-ltb 0 a.buffers some) (omega (arith, run-bytes-cons (a.buffers, a.size) (areas_of areas), bytes-cons a areas, bytes-same areas)))
    (λ (none : a.buffers ≤ 0).
    let zero_buffers : a.buffers ≡ 0 = omega arith in
    let nothing : a.buffers * a.size ≡ 0 = rw zero_buffers (none-of a.size) in
    rw (le-ltb 0 a.buffers none) (omega (arith, nothing, bytes-cons a areas, bytes-same areas)))
    (cases_lt 0 a.buffers)

few-areas : (areas : List Area) → length (areas_of areas) ≤ length areas
few-areas [] = omega arith
few-areas (a ∷ areas) =
    ⊎_elim
    (λ some. rw (lt-ltb 0 a.buffers some) (omega (arith, few-areas areas)))
    (λ none. rw (le-ltb 0 a.buffers none) (omega (arith, few-areas areas)))
    (cases_lt 0 a.buffers)

some-area : (areas : List Area) → 1 ≤ (get_or areas 0 no_area).buffers → 1 ≤ length (areas_of areas)
some-area [] some = absurd (omega arith)
some-area (a ∷ areas) some = rw (lt-ltb 0 a.buffers some) (omega arith)

each-area : (areas : List Area) → ((n : ℕ) → 1 ≤ (get_or areas n no_area).buffers → IsBufferSize (get_or areas n no_area).size)
    → buffers_in areas ≤ 4096 → All IsRunArea (areas_of areas)
each-area [] sizes few = All-nil IsRunArea
each-area (a ∷ areas) sizes few =
    let rest = each-area areas (λ n. sizes (suc n)) (omega (arith, few, in-cons a areas)) in
    ⊎_elim
    (λ some.
    let size : IsBufferSize a.size = sizes 0 some in
    let area : IsRunArea (a.buffers, a.size) = record {
      buffers = (some, omega (arith, few, in-cons a areas));
      size = assumption;
    } in
    rw (lt-ltb 0 a.buffers some) (All-cons IsRunArea (a.buffers, a.size) (areas_of areas) area rest))
    (λ none. rw (le-ltb 0 a.buffers none) rest)
    (cases_lt 0 a.buffers)

pub IsSetting-layout : (layout : Shape) → IsLayout layout → IsSetting (setting_of_layout layout)
IsSetting-layout layout good = record {
  areas = record {
    some = some-area layout.areas good.first;
    most = omega (arith, few-areas layout.areas, good.four);
    each = each-area layout.areas good.sizes good.buffers;
    buffers = omega (arith, pool_buffers-same layout, good.buffers);
    bytes = omega (arith, bytes-same layout.areas, good.bytes);
  };
  apps = good.reserves;
}

pub setting-law : SettingLaw
setting-law layout good = record {
  sound = IsSetting-layout layout good;
  pool = pool_buffers-same layout;
  all = total-same layout;
  sizes = size-same layout good;
}

-- ---- the end

length-none : (held : List Holding) → length held ≡ 0 → held ≡ []
length-none [] none = refl
length-none (x ∷ held) none = absurd (omega (arith, none))

-- no holder is left of a buffer that has none
none-left : (s : AllSides) (kept : KeptEvents) (logged : IsLogged s kept) (b : ℕ) → pool_of s b ≡ 0 → logged.holdings b ≡ []
none-left s kept logged b none = length-none (logged.holdings b)
    (sym (weight-length (logged.holdings b)) ∙ logged.same b (λ h. 1) ∙ ap (weight (λ h. 1)) (no-holders s b none))

pub told-law : ToldLaw
told-law s kept logged = record {
  all = logged.all;
  log_is = logged.log_is;
  holdings = logged.holdings;
  reached = logged.reached;
  ended = λ none b. none-left s kept logged b (none b);
  apps = λ a app at. told-of a app.view logged.all (logged.tallied.apps a app at);
  strays = logged.tallied.strays;
}

some-is : {A : Type 0} (value : Option A) (x y : A) → value ≡ Some x → value ≡ Some y → x ≡ y
some-is value x y one other = cc

pub ended-law : EndedLaw
ended-law s kept layout logged over =
    let room = kept.room in
    let all = logged.all in
    let run = setting_of_sides s in
    let front = front-reached run no_holdings logged.holdings all room logged.reached in
    let AreLegal : KeptEvents → Type 0 = λ k. (IsTrue k.whole → (b : ℕ) → pool_of s b ≡ 0) → IsLegalRun run k.events k.whole in
    subst AreLegal (sym logged.log_is)
    (λ (none : IsTrue (leb (length all) room) → (b : ℕ) → pool_of s b ≡ 0). record {
      sound = IsSetting-layout s.nic.view.setting.layout layout;
      most = omega (arith, length-take room all, logged.most);
      small = front-small all room logged.small;
      holdings = front.0;
      reached = front.1;
      ended = λ whole b.
          let whole_is : take room all ≡ all = take_all room all (leb-true (length all) room whole) in
          let same : front.0 ≡ logged.holdings = some-is (all_after run no_holdings all) front.0 logged.holdings
          (ap (all_after run no_holdings) (sym whole_is) ∙ front.1) logged.reached in
          ap (λ (h : Holdings). h b) same ∙ none-left s kept logged b (none whole b);
    })
    over
