-- The lanes at the opening and at the end, side by side in the order of their applications.
use Rattle.std.proofs.Common.{◌≡◌, ℕ, zero, suc, ◌+◌, ◌-◌, ◌<◌, true, List, [], ◌∷◌, ◌++◌, length, map, take, drop, Option, Some, refl, sym, ap, ◌∙◌, subst, arith}
use Rattle.std.specs.{Prelude.{All, Contains, reverse, slice_index_or, ⊤}, List.{slice_get}}
use Rattle.std.proofs.lemmas.List.{append-nil, drop_all, get_or-reverse, length-reverse, reverse-reverse, take_all, Elements.{All-nil, All-cons}}
use Rattle.board_face.specs.{Opened.{new_app}, Sides.{AreNumbered, side_in}, declared.views.app.AppSide.{AppSide}}
use Rattle.flow_queues.specs.Ends.{AppEnd}
use Rattle.card_feed.specs.declared.plan.Plan.{Plan}
use Rattle.word_board.specs.Board.{TheBoard}
use Rattle.replay_threads.specs.{declared.lane.Lane.{Lane}, Lanes.{LanesGo, LanesFit, AreAtOpening}, Seated.{BeginsLane, SeatedGoes, end_of_seated, is_gone, seat_of}}
use Rattle.replay_threads.{specs.Seated.{shelf_of}, proofs.Leavings.{gone-left}}
use Rattle.zr_io.specs.Moved.{ShelfCounts}

-- ---- lists

pub All-reverse : {A : Type 0} (P : A → Type 0) (xs : List A) → All P xs → All P (reverse xs)
All-reverse P xs all i d within =
    let less : i < length xs = omega (arith, within, length-reverse xs) in
    subst P (sym (get_or-reverse xs i d less)) (all (length xs - 1 - i) d (omega (arith, less)))

pub All-reversed : {A : Type 0} (P : A → Type 0) (xs : List A) → All P (reverse xs) → All P xs
All-reversed P xs all = subst (All P) (reverse-reverse xs) (All-reverse P (reverse xs) all)

pub get-front : {A : Type 0} (xs ys : List A) (i : ℕ) (x : A) → slice_get xs i ≡ Some x → slice_get (xs ++ ys) i ≡ Some x
get-front [] ys i x is = absurd (cc)
get-front (y ∷ xs) ys zero x is = is
get-front (y ∷ xs) ys (suc i) x is = get-front xs ys i x is

-- numbers in order from `first` on are all there
pub is-numbered : (first : ℕ) (apps : List AppSide) → AreNumbered first apps → (a n : ℕ) → a < length apps → n ≡ first + a
    → Contains (map (λ app. app.view.app) apps) n
is-numbered first [] numbers a n within is = absurd (omega arith)
is-numbered first (app ∷ apps) numbers zero n within is = (0, omega arith, numbers.0 ∙ (let e : first ≡ n = omega (arith, is) in e))
is-numbered first (app ∷ apps) numbers (suc a) n within is =
    let there = is-numbered (suc first) apps numbers.1 a n (omega (arith, within)) (omega (arith, is)) in
    (suc there.0, omega (arith, there.1), there.2)

module _ {T : Type 0} (kept : T → ℕ → Option (List ℕ)) (losses : T → ShelfCounts) where
  pub go-reverse : (was now : List (Lane T)) → LanesGo kept losses was now → LanesGo kept losses (reverse was) (reverse now)
  go-reverse was now go = record {
    many = length-reverse now ∙ go.many ∙ sym (length-reverse was);
    each = λ i d within.
        let less : i < length was = omega (arith, within, length-reverse was) in
        let same : length now - 1 - i ≡ length was - 1 - i = ap (λ n. n - 1 - i) go.many in
        subst (λ (lane : Lane T). SeatedGoes kept losses lane.seated (slice_index_or (reverse now) i d).seated) (sym (get_or-reverse was i d less))
        (subst (λ (lane : Lane T). SeatedGoes kept losses (slice_index_or was (length was - 1 - i) d).seated lane.seated)
        (sym (get_or-reverse now i d (omega (arith, less, go.many)) ∙ ap (λ k. slice_index_or now k d) same))
        (go.each (length was - 1 - i) d (omega (arith, less))));
  }

  -- what has taken no turn fits its side
  pub begun-fit : (plan : Plan) (lanes : List (Lane T)) → All (λ (lane : Lane T). BeginsLane kept losses plan lane.seated) lanes → LanesFit kept losses lanes
  begun-fit plan lanes begun i d within = (begun i d within).fits

  -- an application that is done has left its board
  pub lanes-left : (lanes : List (Lane T)) → LanesFit kept losses lanes → All (λ (lane : Lane T). is_gone lane.seated ≡ true) lanes
      → All (λ (lane : Lane T). (seat_of lane.seated).side.view.left ≡ true) lanes
  lanes-left lanes fit gone i d within = gone-left kept losses (slice_index_or lanes i d).seated (fit i d within) (gone i d within)

  -- ---- side by side

  module _ (plan : Plan) where
    -- an application's lane: nothing was done at the one, and the other came of it and has left
    pub record LaneWent (board : TheBoard) (number : ℕ) (was now : Lane T) : Type 0 where
      pub opened : seat_of was.seated ≡ record { board = board; side = new_app board.setting number }
      pub begins : BeginsLane kept losses plan was.seated
      pub goes : SeatedGoes kept losses was.seated now.seated
      pub gone : is_gone now.seated ≡ true

    abbrev pub HaveGone : TheBoard → ℕ → List (Lane T) → List (Lane T) → Type 0
    HaveGone board number [] [] = ⊤
    HaveGone board number [] (v ∷ vs) = ⊥
    HaveGone board number (u ∷ us) [] = ⊥
    HaveGone board number (u ∷ us) (v ∷ vs) = LaneWent board number u v × HaveGone board (suc number) us vs

    pub have-gone : (board : TheBoard) (number : ℕ) (us vs : List (Lane T)) → AreAtOpening board number us
        → All (λ (lane : Lane T). BeginsLane kept losses plan lane.seated) us → LanesGo kept losses us vs
        → All (λ (lane : Lane T). is_gone lane.seated ≡ true) vs → HaveGone board number us vs
    have-gone board number [] [] opened begun go gone = tt
    have-gone board number [] (v ∷ vs) opened begun go gone = let many = go.many in absurd (omega (arith, many))
    have-gone board number (u ∷ us) [] opened begun go gone = let many = go.many in absurd (omega (arith, many))
    have-gone board number (u ∷ us) (v ∷ vs) opened begun go gone = (
      record { opened = opened.0; begins = begun 0 u (omega arith); goes = go.each 0 u (omega arith); gone = gone 0 v (omega arith) },
      have-gone board (suc number) us vs opened.1 (λ i d within. begun (suc i) d (omega (arith, within)))
          (record { many = (let many = go.many in omega (arith, many)); each = λ i d within. go.each (suc i) d (omega (arith, within)) })
          (λ i d within. gone (suc i) d (omega (arith, within))),
    )

    -- the lane of an application, by its place
    pub record IsLaneAt (board : TheBoard) (number a : ℕ) (us vs : List (Lane T)) (end : AppEnd) : Type 0 where
      pub was : Lane T
      pub now : Lane T
      pub went : LaneWent board number was now
      pub end_is : end ≡ end_of_seated now.seated
      pub shelf : slice_get (map (λ (lane : Lane T). shelf_of lane.seated) us) a ≡ Some (shelf_of was.seated)
      pub shelf_now : slice_get (map (λ (lane : Lane T). shelf_of lane.seated) vs) a ≡ Some (shelf_of now.seated)
      pub side : side_in (map (λ (lane : Lane T). (seat_of lane.seated).side) vs) a ≡ (seat_of now.seated).side

    pub is-at : (board : TheBoard) (number : ℕ) (us vs : List (Lane T)) → HaveGone board number us vs → (a n : ℕ) (end : AppEnd) → n ≡ number + a
        → slice_get (map (λ (lane : Lane T). end_of_seated lane.seated) vs) a ≡ Some end → IsLaneAt board n a us vs end
    is-at board number [] [] gone a n end is at = absurd (cc)
    is-at board number [] (v ∷ vs) gone a n end is at = absurd gone
    is-at board number (u ∷ us) [] gone a n end is at = absurd (cc)
    is-at board number (u ∷ us) (v ∷ vs) gone zero n end is at = record {
      was = u;
      now = v;
      went = subst (λ k. LaneWent board k u v) (let e : number ≡ n = omega (arith, is) in e) gone.0;
      end_is = (let e : end ≡ end_of_seated v.seated = cc in e);
      shelf = refl;
      shelf_now = refl;
      side = refl;
    }
    is-at board number (u ∷ us) (v ∷ vs) gone (suc a) n end is at =
        let there = is-at board (suc number) us vs gone.1 a n end (omega (arith, is)) at in
        record {
          was = there.was;
          now = there.now;
          went = there.went;
          end_is = there.end_is;
          shelf = there.shelf;
          shelf_now = there.shelf_now;
          side = there.side;
        }

    pub numbered : (board : TheBoard) (number : ℕ) (us vs : List (Lane T)) → HaveGone board number us vs
        → AreNumbered number (map (λ (lane : Lane T). (seat_of lane.seated).side) vs)
    numbered board number [] [] gone = tt
    numbered board number [] (v ∷ vs) gone = absurd gone
    numbered board number (u ∷ us) [] gone = absurd gone
    numbered board number (u ∷ us) (v ∷ vs) gone = (
      gone.0.goes.app ∙ ap (λ seat. seat.side.view.app) gone.0.opened,
      numbered board (suc number) us vs gone.1,
    )

    pub at-board : (board : TheBoard) (number : ℕ) (us vs : List (Lane T)) → HaveGone board number us vs
        → All (λ (lane : Lane T). (seat_of lane.seated).board ≡ board) vs
    at-board board number [] [] gone = All-nil (λ (lane : Lane T). (seat_of lane.seated).board ≡ board)
    at-board board number [] (v ∷ vs) gone = absurd gone
    at-board board number (u ∷ us) [] gone = absurd gone
    at-board board number (u ∷ us) (v ∷ vs) gone = All-cons (λ (lane : Lane T). (seat_of lane.seated).board ≡ board) v vs
        (gone.0.goes.board ∙ ap (λ seat. seat.board) gone.0.opened) (at-board board (suc number) us vs gone.1)

-- what is written back through a slice of a whole list is the list then
pub written-whole : {A : Type 0} (n : ℕ) (new old : List A) → n ≡ length old → length new ≡ length old → take n (new ++ drop (length new) old) ≡ new
written-whole n new old whole same =
    let none : drop (length new) old ≡ [] = drop_all (length new) old (omega (arith, same)) in
    rw (none, append-nil new) (take_all n new (omega (arith, whole, same)))
