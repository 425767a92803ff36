-- Nothing was poured yet.
use Rattle.std.proofs.{Common.{◌≡◌, ℕ, if◌then◌else◌, List, [], length, Option, refl, sym, ap, arith}, KnownBytes.{Keeps-refl}}
use Rattle.zr_kinds.specs.declared.behaviour.Stopped.TheVariants as stop
use Rattle.zr_io.{specs.Moved.{ShelfCounts}, proofs.Moved.{Gained-nothing}}
use Rattle.board_face.specs.declared.views.app.{WrittenEntry.{WrittenEntry}, AppView.{AppView}}
use Rattle.flow_queues.specs.{Core.{total}, Totals.{capped, lent_len, loan_entries}, Counting.{new_tally}}
use Rattle.zc_poll.specs.{Fresh.{HasDoneNothing, new_stream_desk}, Standing.{StreamStands}, Pouring.{IsPoured, HasPoured, PourStands}}
use Rattle.zc_poll.proofs.{EntriesFirst.{first-none}, ItemPoured.{none-at}}

module _ (kept : ℕ → Option (List ℕ)) (losses : ShelfCounts) (room app : ℕ) (v : AppView) (fresh : HasDoneNothing app v) (stands : StreamStands (new_stream_desk app) v) where
  no-entry : loan_entries v ≡ 0
  no-entry = ap (total (λ (e : WrittenEntry). if e.of_loan then 1 else 0)) fresh.written

  new-poured : (P : Type 0) → HasPoured P kept (new_tally room) (new_stream_desk app) kept v [] 0 0
  new-poured P = record {
    given = record { flows = tt; others = λ n none. refl };
    many = omega (arith, ap length fresh.loans, ap length fresh.returned);
    lent = omega (arith, ap (total lent_len) fresh.loans, ap (total lent_len) fresh.returned);
    some = omega arith;
    copies = omega (arith, fresh.spares);
    back = first-none v fresh.written fresh.returned;
    sum = refl;
    counts = λ n. omega (arith, none-at n 0 0 refl);
    once = λ n. omega arith;
    known = λ n some. absurd (omega (arith, some));
    written = refl;
    loans = refl;
    copied = ap capped (sym fresh.spares);
    room = omega arith;
    empty = refl;
    shelved = λ n. Gained-nothing (kept n) (kept n) (IsPoured (P × (n ≡ 0)) v [] 0) (Keeps-refl (kept n)) (record {
      are = tt;
      at_least = omega arith;
      at_once = omega arith;
      exact = λ _. refl;
      beyond = λ less. absurd (omega (arith, less));
    });
  }

  pub new-pours : PourStands kept losses (new_tally room) (new_stream_desk app) kept losses v
  new-pours = record {
    items = [];
    torn = 0;
    missing = 0;
    stands = stands;
    poured = new-poured ((new_tally room).stopped ≡ stop.Write);
    due = fresh.loans;
    whole = λ _. refl;
    given_back = λ _. omega (arith, no-entry, ap length fresh.returned);
    going = λ _. refl;
    over = λ not. absurd (not refl);
    no_quit = λ e. absurd (cc);
    later = omega arith;
    cause = λ e. absurd (cc);
    still = λ _. refl;
    appended = omega arith;
  }
