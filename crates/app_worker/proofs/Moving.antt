-- From one moment to a later one.
use Rattle.std.proofs.Common.{◌≡◌, ℕ, ◌≤◌, ◌+◌, true, false, ⊎_elim, Option, Some, None, List, [], ◌∷◌, ◌++◌, drop, length, refl, sym}
use Rattle.std.{proofs.{Common.{ap, subst, ◌∙◌, arith, append-nil, append_assoc}, lemmas.Bool.{cases_Bool}}, specs.Prelude.{◌==◌, if◌then◌else◌}}
use Rattle.area_layout.specs.Layout.{pool_buffers}
use Rattle.board_face.specs.{AppEvents.{reserve_of}, declared.views.{parts.Setting.{Setting}, app.LentPiece.{LentPiece}}, Looks.{AppLooksStay, AppRose}}
use Rattle.board_face.specs.declared.views.app.{AppLook.{AppLook}, AppView.{AppView}, TakenNote.{TakenNote}}
use Rattle.flow_queues.specs.{declared.queues.Lending.{Lending}, Core.{total, Each, over_due, read_out}, Totals.{loan_entries}, Entries.{lies_in}}
use Rattle.flow_queues.proofs.{Tokens.{total-append}, Standing.{each-join}, Looks.{looks-same}}
use Rattle.zr_kinds.specs.declared.behaviour.Stopped.TheVariants as stop
use Rattle.zr_kinds.specs.declared.{behaviour.Stopped.{Stopped}, place.Place.{Place}, ring.Completion.{Completion}}
use Rattle.app_worker.specs.{State.{State, TellsOfLoan, due_one}, Moves.{Moves, Reaps, KeepsLeaked, KeptSince, reads_of, reserve_loans, over_lent, over_gone}}
use Rattle.app_worker.specs.Moves.{over_leaked}

pub total-one : {A : Type 0} (xs : List A) → total (λ _. 1) xs ≡ length xs
total-one [] = refl
total-one (x ∷ xs) = omega (arith, total-one xs)

-- how many are due
pub due-is : (taken : List TakenNote) (due : Option Lending) → over_due taken (λ _. 1) due ≡ due_one due
due-is taken None = refl
due-is taken (Some l) = refl

-- ---- looks

pub looks-trans : {u v w : AppView} → AppLooksStay u v → AppLooksStay v w → AppLooksStay u w
looks-trans first second = record { later = λ look. omega (arith, first.later look, second.later look) }

-- what was seen in a part was seen in the whole
pub rose-after : {look : AppLook} {u v w : AppView} → AppLooksStay u v → AppRose look v w → AppRose look u w
rose-after {look} first second = record { rose = omega (arith, first.later look, second.rose) }

pub rose-before : {look : AppLook} {u v w : AppView} → AppRose look u v → AppLooksStay v w → AppRose look u w
rose-before {look} first second = record { rose = omega (arith, second.later look, first.rose) }

-- ---- what is kept to the end

pub reserve-same : (old new : AppView) → new.setting ≡ old.setting → new.app ≡ old.app → reserve_of new ≡ reserve_of old
reserve-same old new setting app = ap (λ (s : Setting). pool_buffers s.layout + new.app) setting ∙ ap (λ n. pool_buffers old.setting.layout + n) app

pub same-leaked : (was now : State) → now.bare ≡ was.bare → now.leaked.items ≡ was.leaked.items → now.bare ≡ false → KeepsLeaked was now
same-leaked was now bare items live = (sym bare ∙ live, ([], items ∙ sym (append-nil was.leaked.items)))

leaked-then : (a b c : State) → KeepsLeaked a b → KeepsLeaked b c → KeepsLeaked a c
leaked-then a b c (live, (more, are)) (_, (more_then, are_then)) = (
  live,
  (more ++ more_then, are_then ∙ ap (λ ls. ls ++ more_then) are ∙ append_assoc a.leaked.items more more_then),
)

-- ---- what follows loans

-- ---- what is kept unread

pub lies-not : (buffer : ℕ) (l : LentPiece) → lies_in buffer l ≡ 0 → (l.place.buffer == buffer) ≡ false
lies-not buffer l none = ⊎_elim
    (λ (yes : (l.place.buffer == buffer) ≡ true). absurd (let one : lies_in buffer l ≡ 1 = rw yes refl in omega (arith, one, none)))
    (λ (no : (l.place.buffer == buffer) ≡ false). no)
    (cases_Bool (l.place.buffer == buffer))

-- steps of an application that has something out, which read nothing and lend nothing
pub kept-same : (was now : State) (old new : AppView) → now.bare ≡ was.bare → now.ended ≡ was.ended → now.flush ≡ was.flush → now.how ≡ was.how
    → reads_of now new ≡ reads_of was old → reserve_loans new ≡ reserve_loans old
    → length (was.unread ++ was.posted.entries) ≤ length (now.unread ++ now.posted.entries)
    → (n r : ℕ) → (was.bare ≡ false → KeptSince n r was old) → now.bare ≡ false → KeptSince n r now new
kept-same was now old new bare ended flush how reads lent unread n r before live =
    let k : KeptSince n r was old = before (sym bare ∙ live) in
    record {
      lent = omega (arith, k.lent, lent);
      kept = λ more same.
          let kept = k.kept (sym ended ∙ more) (sym lent ∙ same) in
          (flush ∙ kept.0, λ read. omega (arith, kept.1 (omega (arith, read, reads)), ap (λ h. h.hold) how, unread));
    }

-- ---- what is abandoned

-- it has something out before and after, and kept more
pub abandons-live : (was now : State) (old new : AppView) → was.bare ≡ false → now.bare ≡ false → (more : List Lending)
    → now.leaked.items ≡ was.leaked.items ++ more → (f : Place → ℕ) → over_leaked f was old ≤ over_leaked f now new
abandons-live was now old new live still more items f =
    let kept : List Lending → ℕ = λ ls. total (λ (l : Lending). f l.loan) ls in
    let gone : AppView → ℕ = λ v. total (λ (l : LentPiece). f l.place) (drop (loan_entries v) v.returned) in
    let before : over_leaked f was old ≡ kept was.leaked.items = ap (λ b. if b then gone old else kept was.leaked.items) live in
    let after : over_leaked f now new ≡ kept now.leaked.items = ap (λ b. if b then gone new else kept now.leaked.items) still in
    omega (arith, before, after, ap kept items, total-append (λ (l : Lending). f l.loan) was.leaked.items more)

-- ---- what is posted and read

-- nothing is
pub reaps-none : (was now : State) (old new : AppView) → was.unread ++ was.posted.entries ≡ now.unread ++ now.posted.entries
    → ((f : Place → ℕ) → over_lent f new ≡ over_lent f old) → ((f : Place → ℕ) → over_gone f now new ≡ over_gone f was old)
    → Reaps was now old new
reaps-none was now old new unread lent gone = record {
  read = [];
  more = [];
  in_order = append-nil (was.unread ++ was.posted.entries) ∙ unread;
  lent = λ f. omega (arith, lent f);
  tells = tt;
  gone = λ f. omega (arith, gone f);
}

pub lent-same : (old new : AppView) → new.loans ≡ old.loans → new.returned ≡ old.returned → (f : Place → ℕ)
    → over_lent f new ≡ over_lent f old
lent-same old new loans returned f =
    ap (λ ls. total (λ (l : LentPiece). f l.place) ls + total (λ (l : LentPiece). f l.place) new.returned) loans
    ∙ ap (λ ls. total (λ (l : LentPiece). f l.place) old.loans + total (λ (l : LentPiece). f l.place) ls) returned

pub gone-same : (was now : State) (old new : AppView) → new.returned ≡ old.returned → now.due ≡ was.due → now.leaked.items ≡ was.leaked.items
    → (f : Place → ℕ) → over_gone f now new ≡ over_gone f was old
gone-same was now old new returned due items f =
    ap (λ ls. total (λ (l : LentPiece). f l.place) ls + total (λ (l : Lending). f l.loan) (read_out now.due now.leaked.items)) returned
    ∙ ap (λ d. total (λ (l : LentPiece). f l.place) old.returned + total (λ (l : Lending). f l.loan) (read_out d now.leaked.items)) due
    ∙ ap (λ ls. total (λ (l : LentPiece). f l.place) old.returned + total (λ (l : Lending). f l.loan) (read_out was.due ls)) items

pub reaps-same : (was now : State) (old new : AppView) → was.unread ++ was.posted.entries ≡ now.unread ++ now.posted.entries → new.loans ≡ old.loans
    → new.returned ≡ old.returned → now.due ≡ was.due → now.leaked.items ≡ was.leaked.items → Reaps was now old new
reaps-same was now old new unread loans returned due items =
    reaps-none was now old new unread (lent-same old new loans returned) (gone-same was now old new returned due items)

reaps-then : (a b c : State) (u v w : AppView) → v.setting ≡ u.setting → Reaps a b u v → Reaps b c v w → Reaps a c u w
reaps-then a b c u v w setting first second = record {
  read = first.read ++ second.read;
  more = first.more ++ second.more;
  in_order = sym (append_assoc (a.unread ++ a.posted.entries) first.more second.more) ∙ ap (λ es. es ++ second.more) first.in_order
      ∙ append_assoc first.read (b.unread ++ b.posted.entries) second.more ∙ ap (λ es. first.read ++ es) second.in_order
      ∙ sym (append_assoc first.read second.read (c.unread ++ c.posted.entries));
  lent = λ f. omega (arith, first.lent f, second.lent f, total-append (λ (p : Completion × Lending). f p.1.loan) first.more second.more);
  tells = each-join (TellsOfLoan u.setting.layout) first.more second.more first.tells
      (subst (λ (s : Setting). Each (TellsOfLoan s.layout) second.more) setting second.tells);
  gone = λ f. omega (arith, first.gone f, second.gone f, total-append (λ (p : Completion × Lending). f p.1.loan) first.read second.read);
}

-- ---- steps one after another

pub moves-none : (st : State) (v : AppView) → Moves st st v v
moves-none st v = record {
  same = (refl, refl, refl, omega arith);
  how = (refl, refl);
  places = refl;
  steps = omega arith;
  looks = looks-same v v refl;
  keeps = λ n r before. before;
  stays = λ _. refl;
  leaked = same-leaked st st refl refl;
  abandons = λ f. omega arith;
  reaps = reaps-same st st v v refl refl refl refl refl;
  bytes = λ n. omega arith;
}

pub moves-then : {a b c : State} {u v w : AppView} → Moves a b u v → Moves b c v w → Moves a c u w
moves-then {a} {b} {c} {u} {v} {w} first second = record {
  same = (second.same.0 ∙ first.same.0, second.same.1 ∙ first.same.1, second.same.2 ∙ first.same.2, omega (arith, first.same.3, second.same.3));
  how = (second.how.0 ∙ first.how.0, second.how.1 ∙ first.how.1);
  places = second.places ∙ first.places;
  steps = omega (arith, first.steps, second.steps);
  looks = looks-trans first.looks second.looks;
  keeps = λ n r before. second.keeps n r (first.keeps n r before);
  stays = λ other. (let e : b.stopped ≡ a.stopped = first.stays other in second.stays (λ is. other (sym e ∙ is)) ∙ e);
  leaked = λ live. (let later = second.leaked live in leaked-then a b c (first.leaked later.0) later);
  abandons = λ f. omega (arith, first.abandons f, second.abandons f);
  reaps = reaps-then a b c u v w first.same.0 first.reaps second.reaps;
  bytes = λ n. omega (arith, first.bytes n, second.bytes n);
}

-- what quit wasn't stopped by its shelf
pub quit-no-write : (s : Stopped) → s ≡ stop.Quit → s ≡ stop.Write → ⊥
quit-no-write s quit is = let e : stop.Quit ≡ stop.Write = sym quit ∙ is in absurd (cc)

-- what wasn't stopped wasn't stopped by its shelf
pub no-write : (s : Stopped) → s ≡ stop.No → s ≡ stop.Write → ⊥
no-write s none is = let e : stop.No ≡ stop.Write = sym none ∙ is in absurd (cc)

-- want of memory is none of the other causes
pub no-memory : (s : Stopped) → s ≡ stop.No → s ≡ stop.Memory → ⊥
no-memory s none is = let e : stop.No ≡ stop.Memory = sym none ∙ is in absurd (cc)

pub quit-no-memory : (s : Stopped) → s ≡ stop.Quit → s ≡ stop.Memory → ⊥
quit-no-memory s quit is = let e : stop.Quit ≡ stop.Memory = sym quit ∙ is in absurd (cc)

pub write-no-memory : (s : Stopped) → s ≡ stop.Write → s ≡ stop.Memory → ⊥
write-no-memory s write is = let e : stop.Write ≡ stop.Memory = sym write ∙ is in absurd (cc)
