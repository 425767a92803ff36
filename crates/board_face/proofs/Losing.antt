-- Buffers of swept words that are neither cached nor were taken were picked as spares, of which each is for a byte of an unsplit note.
use Rattle.std.proofs.Common.{◌≡◌, ⊎_elim, ℕ, suc, ◌+◌, ◌/◌, ◌<◌, ◌≤◌, Bool, true, false, cond, List, [], ◌∷◌, length, map, take, get_or, refl, ap, arith}
use Rattle.std.{specs.{Prelude.{not, ◌&&◌, ◌==◌, nat_eq, if◌then◌else◌, filter, sum_by, All}, List.{list_any}}, proofs.lemmas.List.Sums.{sum_by-cons, sum_by-take-le}}
use Rattle.std.proofs.lemmas.{List.Elements.{All-contains}, Bool.{cases_Bool, Decides.{eqb_tells}}}
use Rattle.area_layout.specs.Layout.{pool_buffers}
use Rattle.zr_kinds.{specs.declared.place.Note.{Note}, proofs.Booleans.{if-le}}
use Rattle.board_face.specs.{NicCalls.{is_lost, lost_of, sent_unsplit_bytes}, NicEvents.{word_bits}, Texts.{unsplit_bytes}, Sides.{AreNumbered, IsApp}}
use Rattle.board_face.specs.{Holders.{sent_to}, Relay.{as_taken}, Used.{AreKept, HasFewPicks, picked_buffers}, declared.views.nic.SentNote.{SentNote}}
use Rattle.board_face.{specs.declared.views.{nic.NicSide.{NicSide}, app.{TakenNote.{TakenNote}, AppSide.{AppSide}}}, proofs.ListLemmas.{not-eqb}}
use Rattle.board_face.proofs.{SideLemmas.{IsApp-at}, LostLemmas.{lost-few, none-counted, some-counted}, Tallies.{total, total-le, total-agree, length-flat}}
use Rattle.board_face.proofs.Counting.{sum-map, count-append}

-- ---- what is lost was picked

-- the three parts of a buffer that is lost
lost-parts : (s c u : Bool) → (s && not c && not u) ≡ true → (s ≡ true) × (c ≡ false) × (u ≡ false)
lost-parts true true u e = absurd (let no : ⊥ = cc in no)
lost-parts true false true e = absurd (let no : ⊥ = cc in no)
lost-parts true false false e = (refl, refl, refl)
lost-parts false c u e = absurd (let no : ⊥ = cc in no)

lost-picked : (listed : ℕ → Bool) (nic : NicSide) (apps : List AppSide) → AreKept listed nic apps → (b : ℕ)
    → b < pool_buffers nic.view.setting.layout → is_lost nic.view b ≡ true → list_any (nat_eq b) (picked_buffers apps) ≡ true
lost-picked listed nic apps kept b within lost =
    let v = nic.view in
    let parts = lost-parts (list_any (nat_eq (b / word_bits)) v.swept) (list_any (nat_eq b) v.cache) (list_any (nat_eq b) v.used) lost in
    ⊎_elim
    (λ picked. picked)
    (λ none. absurd (omega (
      arith,
      kept.swept b within (some-counted (b / word_bits) v.swept parts.0),
      none-counted b v.cache parts.1,
      none-counted b v.used parts.2,
      none-counted b (picked_buffers apps) none,
      count-append b v.used (picked_buffers apps),
    )))
    (cases_Bool (list_any (nat_eq b) (picked_buffers apps)))

-- ---- bytes of unsplit notes

abbrev unsplit : Note → ℕ
unsplit note = if note.split then 0 else note.total

abbrev of_sent : SentNote → ℕ
of_sent s = unsplit s.note

-- the notes that an application took are among those that were sent to it
taken-sent : (nic : NicSide) (app : AppSide) → take (length app.view.taken) (map as_taken (sent_to app.view.app nic)) ≡ app.view.taken
    → unsplit_bytes (map (λ t. t.note) app.view.taken) ≤ sum_by of_sent (sent_to app.view.app nic)
taken-sent nic app taken =
    let of_taken : TakenNote → ℕ = λ t. unsplit t.note in
    let all = map as_taken (sent_to app.view.app nic) in
    omega (
      arith,
      sum-map unsplit (λ (t : TakenNote). t.note) app.view.taken,
      ap (sum_by of_taken) taken,
      sum_by-take-le of_taken all (length app.view.taken),
      sum-map of_taken as_taken (sent_to app.view.app nic),
    )

filter-case : (c : Bool) (s : SentNote) (rest : List SentNote)
    → sum_by of_sent (cond c (s ∷ rest) rest) ≡ (if c then of_sent s else 0) + sum_by of_sent rest
filter-case true s rest = sum_by-cons of_sent s rest
filter-case false s rest = omega arith

total-plus : {A : Type 0} (f g : A → ℕ) (xs : List A) → total (λ x. f x + g x) xs ≡ total f xs + total g xs
total-plus f g [] = refl
total-plus f g (x ∷ xs) = omega (arith, total-plus f g xs)

-- a note is sent to one application at most
once : (n a w : ℕ) (apps : List AppSide) → AreNumbered n apps
    → (total (λ app. if a == app.view.app then w else 0) apps ≤ w) × (a < n → total (λ app. if a == app.view.app then w else 0) apps ≡ 0)
once n a w [] numbered = (omega arith, λ past. refl)
once n a w (app ∷ apps) numbered =
    let rest = once (suc n) a w apps numbered.1 in
    let number = numbered.0 in (
      ⊎_elim
          (λ t. let here : a ≡ app.view.app = t.1 in omega (arith, if-le (a == app.view.app) w, rest.1 (omega (arith, here, number))))
          (λ t. let none : (if a == app.view.app then w else 0) ≡ 0 = ap (λ c. if c then w else 0) t.0 in omega (arith, none, rest.0))
          (eqb_tells a app.view.app),
      λ past.
          let other : (a == app.view.app) ≡ false = not-eqb a app.view.app (λ e. omega (arith, e, number, past)) in
          let none : (if a == app.view.app then w else 0) ≡ 0 = ap (λ c. if c then w else 0) other in
          omega (arith, none, rest.1 (omega (arith, past))),
    )

abbrev sent_bytes : List SentNote → AppSide → ℕ
sent_bytes sents app = sum_by of_sent (filter (λ s. s.app == app.view.app) sents)

sent-once : (apps : List AppSide) → AreNumbered 0 apps → (sents : List SentNote) → total (sent_bytes sents) apps ≤ sum_by of_sent sents
sent-once apps numbered [] = omega (arith, total-zero apps)
  where
    total-zero : (xs : List AppSide) → total (sent_bytes []) xs ≡ 0
    total-zero [] = refl
    total-zero (x ∷ xs) = omega (arith, total-zero xs)
sent-once apps numbered (s ∷ rest) =
    let here : AppSide → ℕ = λ app. if s.app == app.view.app then of_sent s else 0 in
    omega (
      arith,
      total-agree (sent_bytes (s ∷ rest)) (λ app. here app + sent_bytes rest app)
          (λ app. filter-case (s.app == app.view.app) s (filter (λ x. x.app == app.view.app) rest)) apps,
      total-plus here (sent_bytes rest) apps,
      (once 0 s.app (of_sent s) apps numbered).0,
      sent-once apps numbered rest,
      sum_by-cons of_sent s rest,
    )

-- ---- the bound

pub lost-bound : (listed : ℕ → Bool) (nic : NicSide) (apps : List AppSide) → AreKept listed nic apps → AreNumbered 0 apps → All HasFewPicks apps
    → ((a : ℕ) (app : AppSide) → IsApp apps a app → take (length app.view.taken) (map as_taken (sent_to app.view.app nic)) ≡ app.view.taken)
    → lost_of nic.view ≤ sent_unsplit_bytes nic.view
lost-bound listed nic apps kept numbered few taken =
    omega (
      arith,
      lost-few nic.view (picked_buffers apps) (lost-picked listed nic apps kept),
      length-flat (λ (app : AppSide). app.view.picked) apps,
      total-le (λ (app : AppSide). length app.view.picked) (sent_bytes nic.view.sent) apps
          (λ app has. All-contains (λ x. length x.view.picked ≤ sent_bytes nic.view.sent x) apps app each has),
      sent-once apps numbered nic.view.sent,
      sum-map unsplit (λ (s : SentNote). s.note) nic.view.sent,
    )
  where
    each : All (λ x. length x.view.picked ≤ sent_bytes nic.view.sent x) apps
    each i d within =
        omega (arith, (few i d within).picks, taken-sent nic (get_or apps i d) (taken i (get_or apps i d) (IsApp-at apps i d numbered within)))
