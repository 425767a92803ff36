-- What is on its way: the notes sent to an application that it hasn't taken, and of its loans that came back those that entries ended.
use Rattle.std.proofs.Common.{◌≡◌, ℕ, zero, suc, ◌+◌, ◌≤◌, Bool, true, false, eqb, List, [], ◌∷◌, ◌++◌, length, drop, refl, ap, sym, arith, length-append, add-one}
use Rattle.std.{specs.Prelude.{◌≢◌, filter, ◌==◌, ◌&&◌}, proofs.lemmas.{List.{append-nil, Elements.{filter-append}}, Bool.{eq-eqb}}}
use Rattle.zr_kinds.{specs.declared.ring.Rqe.{Rqe}, proofs.Lists.{drop-after}}
use Rattle.board_face.specs.{NicEvents.{honoured, passed_over}, Sides.{nic_at}, Holders.{sent_to, on_way, is_honoured_for, ended_in}}
use Rattle.board_face.specs.declared.views.nic.{SentNote.{SentNote}, Dealt.{Dealt}, Fate.TheVariants.{Honoured, Stray}, NicView.{NicView}, NicSide.{NicSide}}
use Rattle.board_face.{specs.declared.views.app.{TakenNote.{TakenNote}, AppSide.{AppSide}}, proofs.{ListLemmas.{not-eqb}, Tallies.{one_if, tally-push}}}
use Rattle.board_face.proofs.Parts.{count-tally}

-- ---- notes

pub drop-push : {A : Type 0} (t : ℕ) (xs : List A) (x : A) → t ≤ length xs → drop t (xs ++ x ∷ []) ≡ drop t xs ++ x ∷ []
drop-push zero xs x within = refl
drop-push (suc t) [] x within = absurd (omega arith)
drop-push (suc t) (y ∷ xs) x within = drop-push t xs x (omega arith)

-- to an application that a note isn't for, nothing was sent
pub sent_to-other : (n : ℕ) (notes : List SentNote) (s : SentNote) → s.app ≢ n
    → filter (λ (x : SentNote). x.app == n) (notes ++ s ∷ []) ≡ filter (λ (x : SentNote). x.app == n) notes
sent_to-other n notes s other =
    let no : eqb s.app n ≡ false = not-eqb s.app n other in
    rw (filter-append (λ (x : SentNote). x.app == n) notes (s ∷ []), no) (append-nil _)

pub sent_to-same : (n : ℕ) (notes : List SentNote) (s : SentNote) → s.app ≡ n
    → filter (λ (x : SentNote). x.app == n) (notes ++ s ∷ []) ≡ filter (λ (x : SentNote). x.app == n) notes ++ s ∷ []
sent_to-same n notes s same =
    let is : eqb s.app n ≡ true = eq-eqb s.app n same in
    rw (filter-append (λ (x : SentNote). x.app == n) notes (s ∷ []), is) refl

pub after-taken : (nic : NicSide) (app : AppSide) (t : TakenNote) (next : SentNote) (rest : List SentNote) → on_way nic app ≡ next ∷ rest
    → drop (length (app.view.taken ++ t ∷ [])) (sent_to app.view.app nic) ≡ rest
after-taken nic app t next rest way = rw (length-append app.view.taken (t ∷ []))
    (simp add-one (drop-after (length app.view.taken) (sent_to app.view.app nic) next rest way))

-- ---- entries

pub ended_in-push : (b : ℕ) (nic : NicSide) (v : NicView) (d : Dealt) (app : AppSide) → v.dealt ≡ nic.view.dealt ++ d ∷ []
    → ended_in b (nic_at nic v) app ≡ ended_in b nic app + one_if (is_honoured_for app.view.app b d)
ended_in-push b nic v d app deals =
    rw deals (omega (
      arith,
      count-tally (is_honoured_for app.view.app b) (nic.view.dealt ++ d ∷ []),
      count-tally (is_honoured_for app.view.app b) nic.view.dealt,
      tally-push (is_honoured_for app.view.app b) nic.view.dealt d,
    ))

and-false : (c : Bool) → (c && false) ≡ false
and-false true = refl
and-false false = refl

pub ended_in-honoured : (b : ℕ) (nic : NicSide) (app : AppSide) (a buffer : ℕ) (entry : Rqe)
    → ended_in b (nic_at nic (honoured nic.view a entry buffer)) app ≡ ended_in b nic app + one_if ((a == app.view.app) && (buffer == b))
ended_in-honoured b nic app a buffer entry = ended_in-push b nic (honoured nic.view a entry buffer)
    (record { app = a; entry = entry; fate = Honoured buffer }) app refl

pub honoured-other : (b : ℕ) (nic : NicSide) (a buffer : ℕ) (entry : Rqe) (app : AppSide) → app.view.app ≢ a
    → ended_in b (nic_at nic (honoured nic.view a entry buffer)) app ≡ ended_in b nic app
honoured-other b nic a buffer entry app other =
    let none : one_if ((a == app.view.app) && (buffer == b)) ≡ 0 = ap (λ c. one_if (c && (buffer == b))) (not-eqb a app.view.app (λ e. other (sym e))) in
    omega (arith, ended_in-honoured b nic app a buffer entry)

pub honoured-target : (b : ℕ) (nic : NicSide) (a buffer : ℕ) (entry : Rqe) (app : AppSide) → app.view.app ≡ a
    → ended_in b (nic_at nic (honoured nic.view a entry buffer)) app ≡ ended_in b nic app + one_if (buffer == b)
honoured-target b nic a buffer entry app same =
    let one : one_if ((a == app.view.app) && (buffer == b)) ≡ one_if (buffer == b) = ap (λ c. one_if (c && (buffer == b)))
    (eq-eqb a app.view.app (sym same)) in
    omega (arith, ended_in-honoured b nic app a buffer entry)

pub ended_in-passed_over : (b : ℕ) (nic : NicSide) (a : ℕ) (entry : Rqe) (app : AppSide)
    → ended_in b (nic_at nic (passed_over nic.view a entry)) app ≡ ended_in b nic app
ended_in-passed_over b nic a entry app =
    let none : one_if ((a == app.view.app) && false) ≡ 0 = ap one_if (and-false (a == app.view.app)) in
    omega (arith, ended_in-push b nic (passed_over nic.view a entry) (record { app = a; entry = entry; fate = Stray }) app refl)
