-- What each event does to the notes and entries on their way.
use Rattle.std.proofs.Common.{◌≡◌, ℕ, zero, suc, ◌<◌, ◌≤◌, Bool, true, false, eqb, List, [], ◌∷◌, ◌++◌, length, map, take, drop}
use Rattle.std.{proofs.Common.{refl, ap, sym, ◌∙◌, arith, subst, ⊎_elim, append_assoc, length-append}, specs.Prelude.{◌≢◌, filter, ◌==◌}}
use Rattle.std.proofs.lemmas.{List.{append-nil, map-append, length-map, Elements.{filter-append, All-push, All-weaker}}, Bool.{eq-eqb, cases_lt}}
use Rattle.zr_kinds.specs.declared.ring.Rqe.{Rqe}
use Rattle.board_face.specs.{Sides.{nic_at, app_at}, Holders.{sent_to, on_way}, Shown.{origin_bytes, bytes_sent}, Relay.{as_taken, IsAsSent, Relayed}}
use Rattle.board_face.specs.declared.views.{nic.{SentNote.{SentNote}, Dealt.{Dealt}, NicView.{NicView}, NicSide.{NicSide}}, app.Origin.{Origin}}
use Rattle.board_face.specs.declared.views.app.{Origin.TheVariants.{Note as of_note, Copied as of_copy}, TakenNote.{TakenNote}, WrittenEntry.{WrittenEntry}}
use Rattle.board_face.{specs.declared.views.app.{Reading.{Reading}, AppView.{AppView}, AppSide.{AppSide}}, proofs.ListLemmas.{not-eqb}}
use Rattle.board_face.{proofs.NicLemmas.{sent_to-other, sent_to-same}, specs.Laws.{IsNextNote}}

-- ---- what is on its way

-- no more notes were taken than were sent
pub taken-within : (nic : NicSide) (app : AppSide) (ns : List TakenNote) (es : List Rqe) → Relayed nic app ns es
    → length app.view.taken ≤ length (sent_to app.view.app nic)
taken-within nic app ns es relayed = let e = ap length relayed.notes in omega (arith, simp (length-append, length-map) at e)

drop-behind : {A B : Type 0} (f : A → B) (front rest : List B) (xs : List A) → front ++ rest ≡ map f xs → map f (drop (length front) xs) ≡ rest
drop-behind f [] rest xs e = sym e
drop-behind f (y ∷ front) rest [] e = absurd (let none : ⊥ = cc in none)
drop-behind f (y ∷ front) rest (x ∷ xs) e = drop-behind f front rest xs (let tails : front ++ rest ≡ map f xs = cc in tails)

-- the notes on their way are those in the slots
pub way-taken : (nic : NicSide) (app : AppSide) (ns : List TakenNote) (es : List Rqe) → Relayed nic app ns es → map as_taken (on_way nic app) ≡ ns
way-taken nic app ns es relayed = drop-behind as_taken app.view.taken ns (sent_to app.view.app nic) relayed.notes

first-way : (nic : NicSide) (app : AppSide) (t : TakenNote) (ns : List TakenNote) (way : List SentNote) → on_way nic app ≡ way
    → map as_taken way ≡ t ∷ ns → IsNextNote nic app t.note
first-way nic app t ns [] way e = absurd (let none : ⊥ = cc in none)
first-way nic app t ns (s ∷ rest) way e =
    let first : as_taken s ≡ t = cc in
    record { next = s; rest = rest; way = way; same = ap (λ (x : TakenNote). x.note) first }

-- the first note in the slots is the next
pub NoteComesNext-relayed : (nic : NicSide) (app : AppSide) (t : TakenNote) (ns : List TakenNote) (es : List Rqe) → Relayed nic app (t ∷ ns) es
    → IsNextNote nic app t.note
NoteComesNext-relayed nic app t ns es relayed = first-way nic app t ns (on_way nic app) refl (way-taken nic app (t ∷ ns) es relayed)

-- ---- the card's events

pub bytes_sent-push : (k : ℕ) (notes : List SentNote) (s : SentNote) → k < length notes → bytes_sent k (notes ++ s ∷ []) ≡ bytes_sent k notes
bytes_sent-push k [] s within = absurd (omega arith)
bytes_sent-push zero (n ∷ notes) s within = refl
bytes_sent-push (suc k) (n ∷ notes) s within = bytes_sent-push k notes s (omega arith)

pub bytes_sent-past : (k : ℕ) (notes : List SentNote) → length notes ≤ k → bytes_sent k notes ≡ []
bytes_sent-past zero [] past = refl
bytes_sent-past (suc k) [] past = refl
bytes_sent-past zero (n ∷ notes) past = absurd (omega arith)
bytes_sent-past (suc k) (n ∷ notes) past = bytes_sent-past k notes (omega arith)

pub take-drop-none : (n at : ℕ) → take {A = ℕ} n (drop at []) ≡ []
take-drop-none zero zero = refl
take-drop-none zero (suc at) = refl
take-drop-none (suc n) zero = refl
take-drop-none (suc n) (suc at) = refl

origin-push : (notes : List SentNote) (s : SentNote) (o : Origin) (bytes : List ℕ) → bytes ≡ origin_bytes notes o (length bytes)
    → bytes ≡ origin_bytes (notes ++ s ∷ []) o (length bytes)
origin-push notes s (of_copy text) bytes as_sent = as_sent
origin-push notes s (of_note k at) bytes as_sent =
    ⊎_elim
    (λ within. rw (bytes_sent-push k notes s within) as_sent)
    (λ past.
    let empty : bytes ≡ [] = as_sent ∙ (ap (λ text. take (length bytes) (drop at text)) (bytes_sent-past k notes past)
    ∙ take-drop-none (length bytes) at) in
    subst (λ (bs : List ℕ). bs ≡ take (length bs) (drop at (bytes_sent k (notes ++ s ∷ [])))) (sym empty) refl)
    (cases_lt k (length notes))

-- what was read stays as it was sent, however many notes follow
IsAsSent-push : (notes : List SentNote) (s : SentNote) (r : Reading) → IsAsSent notes r → IsAsSent (notes ++ s ∷ []) r
IsAsSent-push notes s r as_sent = origin-push notes s r.origin r.bytes as_sent

-- a note that is sent is the last on its way
pub Relayed-sent : (nic : NicSide) (v : NicView) (app : AppSide) (s : SentNote) (ns : List TakenNote) (es : List Rqe) → v.sent ≡ nic.view.sent ++ s ∷ []
    → v.dealt ≡ nic.view.dealt → s.app ≡ app.view.app
    → Relayed nic app ns es → Relayed (nic_at nic v) app (ns ++ as_taken s ∷ []) es
Relayed-sent nic v app s ns es sents deals same relayed =
    let longer : filter (λ (x : SentNote). x.app == app.view.app) v.sent
    ≡ sent_to app.view.app nic ++ s ∷ [] = rw sents (sent_to-same app.view.app nic.view.sent s same) in
    record {
      notes = rw longer (simp map-append (rw (← append_assoc, relayed.notes) refl));
      reads = rw longer (All-weaker (IsAsSent (sent_to app.view.app nic)) (IsAsSent (sent_to app.view.app nic ++ s ∷ []))
          (IsAsSent-push (sent_to app.view.app nic) s) app.view.reads relayed.reads);
      entries = rw deals relayed.entries;
    }

-- and on its way to no other application
pub Relayed-sent_other : (nic : NicSide) (v : NicView) (app : AppSide) (s : SentNote) (ns : List TakenNote) (es : List Rqe)
    → v.sent ≡ nic.view.sent ++ s ∷ [] → v.dealt ≡ nic.view.dealt → s.app ≢ app.view.app
    → Relayed nic app ns es → Relayed (nic_at nic v) app ns es
Relayed-sent_other nic v app s ns es sents deals other relayed =
    let same : filter (λ (x : SentNote). x.app == app.view.app) v.sent
    ≡ sent_to app.view.app nic = rw sents (sent_to-other app.view.app nic.view.sent s other) in
    record { notes = rw same relayed.notes; reads = rw same relayed.reads; entries = rw deals relayed.entries }

-- the entry that is dealt with is the first on its way
pub Relayed-dealt : (nic : NicSide) (v : NicView) (app : AppSide) (d : Dealt) (ns : List TakenNote) (es : List Rqe) → v.sent ≡ nic.view.sent
    → v.dealt ≡ nic.view.dealt ++ d ∷ [] → d.app ≡ app.view.app
    → Relayed nic app ns (d.entry ∷ es) → Relayed (nic_at nic v) app ns es
Relayed-dealt nic v app d ns es sents deals same relayed =
    let mine : Dealt → Bool = λ x. x.app == app.view.app in
    let is : eqb d.app app.view.app ≡ true = eq-eqb d.app app.view.app same in
    let one : filter mine (d ∷ []) ≡ d ∷ [] = rw is refl in
    let longer : filter mine v.dealt ≡ filter mine nic.view.dealt
    ++ d ∷ [] = rw deals (filter-append mine nic.view.dealt (d ∷ []) ∙ ap (λ ds. filter mine nic.view.dealt ++ ds) one) in
    record {
      notes = rw sents relayed.notes;
      reads = rw sents relayed.reads;
      entries = rw longer (simp (map-append, append_assoc) relayed.entries);
    }

pub Relayed-dealt_other : (nic : NicSide) (v : NicView) (app : AppSide) (d : Dealt) (ns : List TakenNote) (es : List Rqe) → v.sent ≡ nic.view.sent
    → v.dealt ≡ nic.view.dealt ++ d ∷ [] → d.app ≢ app.view.app
    → Relayed nic app ns es → Relayed (nic_at nic v) app ns es
Relayed-dealt_other nic v app d ns es sents deals other relayed =
    let mine : Dealt → Bool = λ x. x.app == app.view.app in
    let no : eqb d.app app.view.app ≡ false = not-eqb d.app app.view.app other in
    let none : filter mine (d ∷ []) ≡ [] = rw no refl in
    let same : filter mine v.dealt ≡ filter mine nic.view.dealt = rw deals
    (filter-append mine nic.view.dealt (d ∷ []) ∙ (ap (λ ds. filter mine nic.view.dealt ++ ds) none ∙ append-nil (filter mine nic.view.dealt))) in
    record { notes = rw sents relayed.notes; reads = rw sents relayed.reads; entries = rw same relayed.entries }

-- every other event of the card leaves all on its way
pub Relayed-nic : (nic : NicSide) (v : NicView) (app : AppSide) (ns : List TakenNote) (es : List Rqe) → v.sent ≡ nic.view.sent
    → v.dealt ≡ nic.view.dealt → Relayed nic app ns es → Relayed (nic_at nic v) app ns es
Relayed-nic nic v app ns es sents deals relayed = record { notes = rw sents relayed.notes; reads = rw sents relayed.reads; entries = rw deals relayed.entries }

-- ---- the application's events

-- the note that is taken was the first on its way
pub Relayed-took : (nic : NicSide) (app : AppSide) (w : AppView) (t : TakenNote) (ns : List TakenNote) (es : List Rqe) → w.app ≡ app.view.app
    → w.taken ≡ app.view.taken ++ t ∷ [] → w.reads ≡ app.view.reads → w.written ≡ app.view.written
    → Relayed nic app (t ∷ ns) es → Relayed nic (app_at app w) ns es
Relayed-took nic app w t ns es same takes reads writes relayed =
    rw same (record { notes = rw takes (simp append_assoc relayed.notes); reads = rw reads relayed.reads; entries = rw writes relayed.entries })

-- an entry that is written is the last on its way
pub Relayed-wrote : (nic : NicSide) (app : AppSide) (w : AppView) (e : WrittenEntry) (ns : List TakenNote) (es : List Rqe) → w.app ≡ app.view.app
    → w.taken ≡ app.view.taken → w.reads ≡ app.view.reads → w.written ≡ app.view.written ++ e ∷ []
    → Relayed nic app ns es → Relayed nic (app_at app w) ns (es ++ e.entry ∷ [])
Relayed-wrote nic app w e ns es same takes reads writes relayed =
    rw same (record {
      notes = rw takes relayed.notes;
      reads = rw reads relayed.reads;
      entries = rw writes (simp map-append (rw (← append_assoc, relayed.entries) refl));
    })

-- what is read is kept
pub Relayed-read : (nic : NicSide) (app : AppSide) (w : AppView) (r : Reading) (ns : List TakenNote) (es : List Rqe) → w.app ≡ app.view.app
    → w.taken ≡ app.view.taken → w.reads ≡ app.view.reads ++ r ∷ [] → w.written ≡ app.view.written
    → IsAsSent (sent_to app.view.app nic) r → Relayed nic app ns es → Relayed nic (app_at app w) ns es
Relayed-read nic app w r ns es same takes reads writes as_sent relayed =
    rw same (record {
      notes = rw takes relayed.notes;
      reads = rw reads (All-push (IsAsSent (sent_to app.view.app nic)) app.view.reads r relayed.reads as_sent);
      entries = rw writes relayed.entries;
    })

-- every other event of an application leaves all on its way
pub Relayed-app : (nic : NicSide) (app : AppSide) (w : AppView) (ns : List TakenNote) (es : List Rqe) → w.app ≡ app.view.app → w.taken ≡ app.view.taken
    → w.reads ≡ app.view.reads → w.written ≡ app.view.written → Relayed nic app ns es → Relayed nic (app_at app w) ns es
Relayed-app nic app w ns es same takes reads writes relayed =
    rw same (record { notes = rw takes relayed.notes; reads = rw reads relayed.reads; entries = rw writes relayed.entries })
