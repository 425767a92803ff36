-- What the desk keeps, once a seat went back to it.
use Rattle.std.proofs.Common.{◌≡◌, ℕ, zero, suc, ◌+◌, ◌<◌, ◌≤◌, Bool, true, false, List, [], ◌∷◌, ◌++◌, length, map, get_or, set, refl, ap, sym, ◌∙◌}
use Rattle.std.proofs.Common.{arith, subst, ⊎_elim, length-append}
use Rattle.std.specs.Prelude.{◌≢◌, All, AllPairs, Option, Some, None, is_none, replicate, nat_eq, count_by, if◌then◌else◌}
use Rattle.std.proofs.lemmas.List.{append-nil, map-append, replicate-append-replicate, get_or-set_same, get_or-set_other}
use Rattle.std.proofs.{Math.Seq.{take-append_seam, drop-append_seam}, lemmas.{List.Elements.{All-push}, Bool.Decides.{eqb_tells}}}
use Rattle.board_face.{specs.declared.views.{nic.NicSide.{NicSide}, app.AppSide.{AppSide}}, proofs.Tallies.{one_if}}
use Rattle.ref_words.specs.{declared.view.View.{View}, Over.{CardIsOver, AppIsOver}, Seated.{times_in, both_sides, card_seat_view, app_seat_view}}
use Rattle.board_parts.{specs.Free.{listed_below}, proofs.FreeLists.{below-rises}}
use Rattle.word_board.specs.{Board.{HasDealt, first_nic}, Desk.{AreOver, StandInOrder, cache_back}}

-- a seat comes back that dealt nothing out
pub HasDealt-both : (given : List Bool) (v w : View) → w.dealt ≡ [] → HasDealt given v → HasDealt given (both_sides v w)
HasDealt-both given v w none dealt r =
    ap (times_in {V = View} (λ v. v.dealt) (λ x. x) r) (ap (λ ds. v.dealt ++ ds) none ∙ append-nil v.dealt) ∙ dealt r

-- the card's, or an application's
pub AreOver-card : (v : View) (nic : NicSide) → AreOver v → CardIsOver nic → AreOver (both_sides v (card_seat_view nic))
AreOver-card v nic over is = record {
  card = All-push CardIsOver v.nics nic over.card is;
  apps = subst (All AppIsOver) (sym (append-nil v.apps)) over.apps;
  due = append-nil v.due ∙ over.due;
}

pub AreOver-app : (v : View) (app : AppSide) → AreOver v → AppIsOver app → AreOver (both_sides v (app_seat_view app))
AreOver-app v app over is = record {
  card = subst (All CardIsOver) (sym (append-nil v.nics)) over.card;
  apps = All-push AppIsOver v.apps app over.apps is;
  due = append-nil v.due ∙ over.due;
}

-- the card's cache is that of the one card which is back
pub cache-back : (nics : List NicSide) (nic : NicSide) → length (nics ++ nic ∷ []) ≤ 1 → nic.view.cache ≡ cache_back (nics ++ nic ∷ [])
cache-back [] nic one = refl
cache-back (other ∷ nics) nic one = absurd (omega (arith, one, length-append nics (nic ∷ [])))

-- ---- what the applications' seats are to keep

-- where each hand is as it should be by its number, so is one more
pub hands-push : {H : Type 0} (P : ℕ → Option H → Type 0) → ((a : ℕ) → P a None) → (hands : List (Option H)) (hand : H)
    → ((a : ℕ) → P a (get_or hands a None)) → P (length hands) (Some hand) → (a : ℕ) → P a (get_or (hands ++ Some hand ∷ []) a None)
hands-push P none [] hand each new zero = new
hands-push P none [] hand each new (suc a) = none (suc a)
hands-push P none (h ∷ hands) hand each new zero = each 0
hands-push P none (h ∷ hands) hand each new (suc a) =
    hands-push (λ n. P (suc n)) (λ n. none (suc n)) hands hand (λ n. each (suc n)) new a

pub none-given : {H : Type 0} (hands : List (Option H)) (hand : H) (n : ℕ) → map is_none hands ≡ replicate n false
    → map is_none (hands ++ Some hand ∷ []) ≡ replicate (n + 1) false
none-given hands hand n none =
    map-append is_none hands (Some hand ∷ []) ∙ (ap (λ bs. bs ++ false ∷ []) none ∙ replicate-append-replicate n 1 false)

-- a desk that gave nothing has dealt nothing out
pub none-more : (n : ℕ) → false ∷ replicate n false ≡ replicate (1 + n) false
none-more n = let e : suc n ≡ 1 + n = omega arith in ap (λ k. replicate k false) e

pub HasDealt-none : (n r : ℕ) → one_if (get_or (replicate n false) r false) ≡ 0
HasDealt-none zero r = refl
HasDealt-none (suc n) zero = refl
HasDealt-none (suc n) (suc r) = HasDealt-none n r

-- ---- the free buffers

-- a buffer more was looked at: it is listed or cached
pub looked-more : (cached : List ℕ) (listed : List Bool) (n : ℕ) (found : Bool) → n < length listed
    → ((b : ℕ) → b < n → count_by (nat_eq b) cached + one_if (get_or listed b false) ≡ 1)
    → count_by (nat_eq n) cached ≡ (if found then 0 else 1)
    → (b : ℕ) → b < suc n → count_by (nat_eq b) cached + one_if (get_or (set listed n found) b false) ≡ 1
looked-more cached listed n found there before now b less =
    ⊎_elim
    (λ t. let same : b ≡ n = t.1 in
    subst (λ k. count_by (nat_eq k) cached + one_if (get_or (set listed n found) k false) ≡ 1) (sym same)
    (ap (λ c. count_by (nat_eq n) cached + one_if c) (get_or-set_same listed n found false there) ∙ in-one-place found (count_by (nat_eq n) cached) now))
    (λ t. let other : b ≢ n = t.1 in
    ap (λ c. count_by (nat_eq b) cached + one_if c) (get_or-set_other listed n b found false other) ∙ before b (omega (arith, other)))
    (eqb_tells b n)
  where
    in-one-place : (c : Bool) (k : ℕ) → k ≡ (if c then 0 else 1) → k + one_if c ≡ 1
    in-one-place true k e = omega (arith, e)
    in-one-place false k e = omega (arith, e)

-- the cache of the card, which is back
pub cached-back : (nics : List NicSide) → length nics ≡ 1 → cache_back nics ≡ (first_nic nics).view.cache
cached-back [] one = absurd (omega (arith, one))
cached-back (nic ∷ nics) one = refl

pub StandInOrder-free : (cache : List ℕ) (listed : List Bool) → StandInOrder cache (cache ++ listed_below listed (length listed))
StandInOrder-free cache listed =
    let below = listed_below listed (length listed) in
    record {
      first = take-append_seam cache below;
      rising = subst (AllPairs (λ a b. a < b)) (sym (drop-append_seam cache below)) (below-rises (length listed) listed);
    }
