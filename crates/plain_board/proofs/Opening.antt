-- A board that was just opened.
use Rattle.std.proofs.Common.{◌≡◌, ℕ, zero, suc, ◌*◌, ◌<◌, ◌≤◌, true, false, List, [], ◌∷◌, length, map, get_or, replicate}
use Rattle.std.{proofs.{Common.{refl, ap, sym, ◌∙◌, subst, arith, length-drop}, lemmas.Bool.{false≢true}}, specs.Prelude.{◌==◌, All}}
use Rattle.std.proofs.{lemmas.List.{length-replicate, get_or-replicate, Elements.{All-nil, All-replicate}}, Math.ListN.{get_or-eq_default}}
use Rattle.circular_buffer.specs.Buffer.{Buffer, buffer}
use Rattle.area_layout.specs.Layout.{Shape, IsLayout, pool_buffers, all_buffers, begin_of}
use Rattle.board_face.specs.{Opened.{new_nic, new_app}, Sides.{IsApp}, Holders.{ended_in}, Counts.{EndedWereReturned}, Relay.{Relayed}, OwnBuffers.{AppLiesInOwn}}
use Rattle.board_face.specs.{Judged.{IsHonouredAsNamed}, Used.{HasFewPicks, PicksAreGiven}, declared.views.{parts.Setting.{Setting}, app.AppSide.{AppSide}}}
use Rattle.board_face.proofs.{Tallies.{one_if}, OpenedLemmas.{length-new_apps, numbered-new_apps, All-new, hands-new, count-new, users-new}}
use Rattle.board_face.proofs.OpenedLemmas.{all-alike, IsNew, FillingsFit-opened, IsFilledByOne-opened, AreShown-opened}
use Rattle.zr_kinds.specs.declared.{place.Place.{Place}, ring.Rqe.{Rqe}}
use Rattle.board_parts.specs.{declared.slots.NoteSlot.{NoteSlot}, Opened.{new_apps}, Free.{listed_in}, Counts.{user_at}}
use Rattle.plain_board.specs.{Returns.{AreReturns, entries_on_way, loans_out, reach_of}, Stand.{Stand, new_stand, byte_of}}
use Rattle.plain_board.specs.Sound.{IsRing, IsSound, IsAppAtRest, IsProper, IsPhased}

left-new : (s : Setting) (first n : ℕ) → replicate n false ≡ map (λ app. app.view.left) (new_apps s first n)
left-new s first zero = refl
left-new s first (suc n) = ap (λ xs. false ∷ xs) (left-new s (suc first) n)

module _ (layout : Shape) (places : ℕ) (good : IsLayout layout) (some : 1 ≤ places) (few : places ≤ 256) where
  abbrev s : Setting
  s = record { layout = layout; places = places }

  listed-new : (b : ℕ) → b < pool_buffers layout → one_if (listed_in (replicate (pool_buffers layout) true) b) ≡ 1
  listed-new b within = ap one_if (get_or-replicate (pool_buffers layout) b true false within)

  unlisted-new : (b : ℕ) → pool_buffers layout ≤ b → one_if (listed_in (replicate (pool_buffers layout) true) b) ≡ 0
  unlisted-new b past = ap one_if (get_or-eq_default (replicate (pool_buffers layout) true) false (omega (arith, length-replicate (pool_buffers layout) true)))

  relayed-new : (a : ℕ) (app : AppSide) → IsApp (new_apps s 0 layout.reserves) a app → Relayed (new_nic s) app [] []
  relayed-new a app here =
      subst (λ x. Relayed (new_nic s) x [] []) here.is
      (All-new (λ x. Relayed (new_nic s) x [] []) s 0 layout.reserves (λ n. record { notes = refl; reads = All-nil _; entries = refl }) a app here.there)

  slots-new : {X : Type 0} (a : ℕ) → a < layout.reserves → (get_or (replicate layout.reserves (buffer {X = X} [] places)) a (buffer [] 0)).items ≡ []
  slots-new {X} a within = ap (λ (ring : Buffer X). ring.items) (get_or-replicate layout.reserves a (buffer [] places) (buffer [] 0) within)

  abbrev apps : List AppSide
  apps = new_apps s 0 layout.reserves

  news : All (IsNew s) apps
  news = All-new (IsNew s) s 0 layout.reserves (λ a. refl)

  abbrev AreLengths : AppSide → Type 0
  AreLengths app = All (λ own. get_or (new_stand layout places).arrays.filled own.own.buffer 0 ≡ length own.bytes) app.view.owns

  pub IsSound-new : IsSound (new_stand layout places)
  IsSound-new = record {
    sizes = record {
      layout = good;
      places = (some, few);
      area = length-replicate (begin_of layout (all_buffers layout)) 0;
      pool = length-replicate (all_buffers layout) 0;
      users = length-replicate (layout.reserves * all_buffers layout) 0;
      listed = length-replicate (pool_buffers layout) true;
      cache = omega arith;
      notes = length-replicate layout.reserves _;
      refills = length-replicate layout.reserves _;
      loans = length-replicate (layout.reserves * all_buffers layout) 0;
      filled = length-replicate (all_buffers layout) 0;
      raw = length-replicate layout.reserves 0;
      left = length-replicate layout.reserves false;
    };
    cached = refl;
    set = record {
      card = refl;
      card_rest = refl;
      many = length-new_apps s 0 layout.reserves;
      numbers = numbered-new_apps s 0 layout.reserves;
      roles = All-new (λ app. app.view.setting ≡ s) s 0 layout.reserves (λ a. refl);
      roles_rest = All-new IsAppAtRest s 0 layout.reserves (λ a. record {
        hands = refl;
        owes = λ b. all-alike (all_buffers layout) b 0;
        unscrubbed = λ _ b. all-alike (all_buffers layout) b 0;
      });
    };
    counted = record {
      pool = λ b within. get_or-replicate (all_buffers layout) b 0 0 within ∙ sym (count-new b s layout.reserves);
      users = λ a b app within. all-alike (layout.reserves * all_buffers layout) (user_at layout a b) 0 ∙ sym (users-new a b s layout.reserves);
      beyond = λ b past. count-new b s layout.reserves;
      returned = λ b. All-new (EndedWereReturned b (new_nic s)) s 0 layout.reserves
          (λ a. record { ended = omega (arith, all-alike (all_buffers layout) b 0); returning = omega (arith, all-alike (all_buffers layout) b 0) });
    };
    free = record {
      pool = λ b within. omega (arith, listed-new b within, hands-new b s 0 layout.reserves, ap (λ n. one_if (n == 0)) (count-new b s layout.reserves));
      reserves = λ b past. omega (arith, unlisted-new b past, hands-new b s 0 layout.reserves);
    };
    relayed = record {
      relayed = λ a app here. let within : a < layout.reserves = omega (arith, here.there, length-new_apps s 0 layout.reserves) in rw
          (slots-new a within, slots-new a within) (relayed-new a app here);
      notes = All-replicate (IsRing {X = NoteSlot} places) layout.reserves _ (record { slots = refl; within = omega arith });
      refills = All-replicate (IsRing {X = Rqe} places) layout.reserves _ (record { slots = refl; within = omega arith });
    };
    returns = λ a app here. subst (AreReturns (new_nic s)) here.is
        (All-new (AreReturns (new_nic s)) s 0 layout.reserves
        (λ n. record {
          written = λ b. omega arith;
          owed = λ b. omega arith;
          no_more = λ b. omega (arith, length-drop {A = Place} (ended_in b (new_nic s) (new_app s n)) []);
          clear = λ b. tt;
          named = All-nil _;
          settled = λ e. All-nil _;
          quiet = λ e. refl;
          scrubbed = λ e. refl;
          strays = All-nil _;
        }) a app here.there);
    flags = record { ended = refl; left = left-new s 0 layout.reserves };
    kept = record {
      kept = λ b within. omega (arith, listed-new b within);
      swept = λ b within gone. absurd (omega (arith, gone));
    };
    due = record {
      picked = All-new PicksAreGiven s 0 layout.reserves (λ a. omega arith);
      few = All-new HasFewPicks s 0 layout.reserves (λ a. record { picks = omega arith; spares = omega arith });
    };
    filled = FillingsFit-opened s apps news;
    by_one = λ b. IsFilledByOne-opened b s apps news;
    shown = AreShown-opened (byte_of (new_stand layout places).arrays) s apps news;
    notes = All-nil IsProper;
    own_buffers = record {
      card = record { pieces = All-nil _; sent = All-nil _ };
      sides = All-new (λ app. AppLiesInOwn app.view) s 0 layout.reserves
          (λ n. record { helds = All-nil _; spares = All-nil _; loans = All-nil _; returned = All-nil _ });
    };
    judged = All-nil (IsHonouredAsNamed layout);
    booked = record {
      loans = λ a b app here within. all-alike (layout.reserves * all_buffers layout) (user_at layout a b) 0
          ∙ subst (λ x. 0 ≡ loans_out b x) here.is (All-new (λ x. 0 ≡ loans_out b x) s 0 layout.reserves (λ n. refl) a app here.there);
      filled = λ a app here. subst AreLengths here.is (All-new AreLengths s 0 layout.reserves (λ n. All-nil _) a app here.there);
      raw = λ a app here. all-alike layout.reserves a 0
          ∙ subst (λ x. 0 ≡ reach_of (entries_on_way (new_nic s) x)) here.is
          (All-new (λ x. 0 ≡ reach_of (entries_on_way (new_nic s) x)) s 0 layout.reserves (λ n. refl) a app here.there);
    };
    phased = record {
      card = λ e. absurd (false≢true e);
      sides = All-new (IsPhased (new_nic s)) s 0 layout.reserves
          (λ n. record {
            ended = λ e. absurd (false≢true e);
            scrubbed = λ e. absurd (false≢true e);
            left = λ e. absurd (false≢true e);
          });
    };
  }

-- the same of lists that are made by lengths which turn out to be right
pub IsSound-opened : (layout : Shape) (places : ℕ) → IsLayout layout → 1 ≤ places → places ≤ 256
    → (board : Stand) → board ≡ new_stand layout places → IsSound board
IsSound-opened layout places good some few board e = subst IsSound (sym e) (IsSound-new layout places good some few)
