-- What is read where a loan in the reserve was posted, over some steps.
use Rattle.std.proofs.{Common.{◌≡◌, ◌≢◌, ℕ, ◌<◌, ◌≤◌, true, false, ◌⊎◌, inl, inr, ⊎_elim, refl, sym, ap, ◌∙◌, arith}, lemmas.Bool.{cases_Bool, cases_lt}}
use Rattle.std.specs.Prelude.{◌==◌}
use Rattle.board_face.{proofs.ListLemmas.{not-eqb}, specs.{AppCalls.{AppOnlySaw}, declared.views.app.{LentPiece.{LentPiece}, AppLook.{AppLook}, AppView.{AppView}}}}
use Rattle.app_worker.specs.{State.{State}, Moves.{reads_of, reserve_loans}, Flushing.{FlushesUnread, loans_so_far}}
use Rattle.flow_queues.specs.Entries.{lies_in}

-- no loan came, and none was read
pub flushes-same : (was now : State) (old new : AppView) → reads_of now new ≡ reads_of was old → loans_so_far new ≡ loans_so_far old
    → reserve_loans new ≡ reserve_loans old → now.flush ≡ was.flush → FlushesUnread was now old new
flushes-same was now old new reads lent reserve flush = record {
  reads = omega (arith, reads);
  lent = omega (arith, lent);
  reserve = omega (arith, reserve);
  all = all;
}
  where
    all : now.flush ≡ false → (was.flush ≡ true) ⊎ (reserve_loans old < reserve_loans new) → loans_so_far old ≤ reads_of now new
    all off (inl on) = absurd (let e : true ≡ false = sym on ∙ sym flush ∙ off in cc)
    all off (inr more) = absurd (omega (arith, more, reserve))

pub flushes-none : (st : State) (v : AppView) → FlushesUnread st st v v
flushes-none st v = flushes-same st st v v refl refl refl refl

pub flushes-then : {a b c : State} {u v w : AppView} → FlushesUnread a b u v → FlushesUnread b c v w → FlushesUnread a c u w
flushes-then {a} {b} {c} {u} {v} {w} first second = record {
  reads = omega (arith, first.reads, second.reads);
  lent = omega (arith, first.lent, second.lent);
  reserve = omega (arith, first.reserve, second.reserve);
  all = all;
}
  where
    all : c.flush ≡ false → (a.flush ≡ true) ⊎ (reserve_loans u < reserve_loans w) → loans_so_far u ≤ reads_of c w
    all off before = ⊎_elim
        (λ (on : b.flush ≡ true). omega (arith, first.lent, second.all off (inl on)))
        (λ (b_off : b.flush ≡ false). ⊎_elim
        (λ (a_on : a.flush ≡ true). omega (arith, first.all b_off (inl a_on), second.reads))
        (λ (more : reserve_loans u < reserve_loans w). ⊎_elim
        (λ (early : reserve_loans u < reserve_loans v). omega (arith, first.all b_off (inr early), second.reads))
        (λ (late : reserve_loans v ≤ reserve_loans u). omega (arith, first.lent, second.all off (inr (omega (arith, late, more)))))
        (cases_lt (reserve_loans u) (reserve_loans v)))
        before)
        (cases_Bool b.flush)

-- a look changes none of it
pub flushes-saw : (st : State) (v w : AppView) (look : AppLook) → AppOnlySaw look v w → FlushesUnread st st v w
flushes-saw st v w look saw = flushes-same st st v w (ap (reads_of st) saw.event) (ap loans_so_far saw.event) (ap reserve_loans saw.event) refl

-- a loan in another buffer isn't counted
pub lies-away : (buffer : ℕ) (l : LentPiece) → l.place.buffer ≢ buffer → lies_in buffer l ≡ 0
lies-away buffer l away = let no : (l.place.buffer == buffer) ≡ false = not-eqb l.place.buffer buffer away in rw no refl
