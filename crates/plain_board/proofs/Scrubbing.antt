-- All that an application owes is taken back: it has no loan and no entry on its way, so it is left with no user reference.
use Rattle.std.proofs.Common.{◌≡◌, ℕ, zero, suc, ◌+◌, ◌<◌, ◌≤◌, Bool, true, false, List, length, drop, set, get_or, refl, ap, sym}
use Rattle.std.{proofs.Common.{◌∙◌, arith, ⊎_elim, length-take, length-drop}, specs.Prelude.{◌==◌, ◌&&◌, nat_lt, if◌then◌else◌}}
use Rattle.std.proofs.lemmas.{List.{get_or-take, get_or-drop, get_or_past}, Bool.{cases_lt, lt-ltb}}
use Rattle.area_layout.specs.Layout.{Shape, pool_buffers, all_buffers}
use Rattle.board_face.specs.{Sides.{IsApp}, AppCalls.{CanScrub}, Counts.{pool_count}, FreeOnce.{AreFreeOnce, free_places}, Holders.{ended_in, owed_in, returned_in}}
use Rattle.board_face.{specs.{Laws.{TookAll}, declared.views.app.AppSide.{AppSide}}, proofs.{ListLemmas.{eqb_same, not-eqb}, Tallies.{one_if}}}
use Rattle.board_face.proofs.Parts.{app_count, user_part, loans_in, owed_count, returned_in-count, user_count-own}
use Rattle.board_face.proofs.AppLemmas.{scrubbed_side, pool_count-app, app_count-scrubbed, user_part-scrubbed, EndedWereReturned-scrubbed}
use Rattle.board_face.proofs.{IsFilledByOneLemmas.{IsFilledByOne-scrubbed}, FillingsFitLemmas.{FillingsFit-same}, AreShownLemmas.{AreShown-scrubbed}}
use Rattle.board_parts.specs.{Area.{loaded}, Counts.{user_at, HasFewUsers, came_back, TakesBack}, Free.{listed_in}}
use Rattle.plain_board.specs.{Stand.{Stand, byte_of}, Sound.{IsSound, IsAppAtRest}}
use Rattle.plain_board.proofs.AppFrames.{has-setting, IsSet-app, was-at_rest, AreCounted-app, was-returned, AreRelayed-kept, was-relayed, returns-app, pools}
use Rattle.plain_board.proofs.AppFrames.{was-returns, AreFlags-kept, free_places-side, AreKept-app, AreDue-app, was-given, was-due, AreBooked-kept}
use Rattle.plain_board.proofs.{AppFrames.{ArePhased-app, was-phased, OwnBuffers-kept}, Card.{none-lowered}, TokensLie.{part-le}}

-- the user counts of an application
abbrev pub took_of : Shape → ℕ → List ℕ → List ℕ
took_of layout a users = loaded users (user_at layout a 0) (all_buffers layout)

-- Of a buffer of the pool so many references were taken back and so many are left. It is free once where none is left.
once-back : (owed left f f' : ℕ) (inside was now : Bool) → inside ≡ true → now ≡ (if nat_lt 0 owed && (left == 0) && inside then true else was)
    → f ≡ (if (left + owed) == 0 then 1 else 0) → one_if was ≤ f → f' + one_if was ≡ f + one_if now
    → f' ≡ (if left == 0 then 1 else 0)
once-back zero left f f' inside was now is lists e in_places change =
    let same : left + 0 ≡ left = omega arith in
    omega (arith, change, ap one_if lists, e, ap (λ n. one_if (n == 0)) same)
once-back (suc n) zero f f' inside was now is lists e in_places change =
    let listed : now ≡ true = rw (lt-ltb 0 (suc n) (omega arith), is) at lists in
    let none : f ≡ 0 = e ∙ ap one_if (not-eqb (0 + suc n) 0 (λ wrong. absurd (omega (arith, wrong)))) in
    omega (arith, change, ap one_if listed, none, in_places)
once-back (suc n) (suc m) f f' inside was now is lists e in_places change =
    let some : ((suc m) == 0) ≡ false = not-eqb (suc m) 0 (λ wrong. absurd (omega (arith, wrong))) in
    let same : now ≡ was = rw (lt-ltb 0 (suc n) (omega arith), some) at lists in
    let none : f ≡ 0 = e ∙ ap one_if (not-eqb (suc m + suc n) 0 (λ wrong. absurd (omega (arith, wrong)))) in
    rw some (omega (arith, change, ap one_if same, none))

more-case : (c was now : Bool) → now ≡ (if c then true else was) → one_if was ≤ one_if now
more-case true false now e = omega arith
more-case true true now e = omega (arith, ap one_if e)
more-case false was now e = omega (arith, ap one_if e)

module _ (board : Stand) (a : ℕ) (x : AppSide) (sound : IsSound board) (here : IsApp board.apps a x) where
  same_layout : x.view.setting.layout ≡ board.arrays.layout
  same_layout = ap (λ s. s.layout) (has-setting board a x x sound here)

  module _ (can : CanScrub x.view) where
    no-loans : (b : ℕ) → loans_in b x ≡ 0
    no-loans b = rw can.loans refl

    part-mine : (b : ℕ) → user_part a b board.nic x ≡ owed_count b board.nic x
    part-mine b =
        let mine : user_part a b board.nic x ≡ loans_in b x + owed_count b board.nic x = rw (here.number, eqb_same a) refl in
        omega (arith, mine, no-loans b)

    users-mine : (b : ℕ) → b < all_buffers board.arrays.layout
        → get_or board.arrays.users (user_at board.arrays.layout a b) 0 ≡ owed_count b board.nic x
    users-mine b within =
        sound.counted.users a b here.there within
        ∙ user_count-own a b board.nic board.apps x sound.set.numbers here
        ∙ ap (λ n. n + owed_count b board.nic x) (no-loans b)
        ∙ omega arith

    pub few-users : HasFewUsers board.arrays.layout a board.arrays.users board.arrays.pool
    few-users b within = omega (arith, users-mine b within, part-le board a x sound here b, sound.counted.pool b within)

    abbrev pub took : List ℕ
    took = took_of x.view.setting.layout a board.arrays.users

    abbrev pub scrubbed_then : AppSide
    scrubbed_then = scrubbed_side x took

    takes : (b : ℕ) → get_or took b 0 ≡ get_or x.inside.scrub_took b 0 + owed_count b board.nic x
    takes b =
        let none = (was-at_rest board a x x sound here).unscrubbed can.counted b in
        let layout = board.arrays.layout in
        let users = board.arrays.users in
        let at = user_at layout a 0 in
        let is : took ≡ took_of layout a users = ap (λ l. took_of l a users) same_layout in
        ⊎_elim
        (λ within.
        let there : at + b ≡ user_at layout a b = omega arith in
        let got : get_or (took_of layout a users) b 0 ≡ get_or users (user_at layout a b) 0 = get_or-take (all_buffers layout) (drop at users) b 0 within
        ∙ (get_or-drop at users b 0 ∙ ap (λ n. get_or users n 0) there) in
        omega (arith, ap (λ (us : List ℕ). get_or us b 0) is, got, users-mine b within, none))
        (λ past.
        let short : length (took_of layout a users) ≤ b = simp length-take (omega (arith, past)) in
        omega (arith, ap (λ (us : List ℕ). get_or us b 0) is, get_or_past (took_of layout a users) b 0 short, none, part-le board a x sound here b, sound.counted.beyond b past))
        (cases_lt b (all_buffers layout))

    pub takes-all : TookAll board.nic x took
    takes-all b = omega (arith, takes b, length-drop (ended_in b board.nic x) (returned_in b x), returned_in-count b x)

    module _ (users' pool' : List ℕ) (listed' : List Bool)
        (back : TakesBack board.arrays.layout a board.arrays.users users' board.arrays.pool pool' board.arrays.listed listed') where
      fewer : (b : ℕ) → app_count b board.nic scrubbed_then + owed_count b board.nic x ≡ app_count b board.nic x
      fewer b = app_count-scrubbed b board.nic x took (was-returned board a x x sound here b) (takes b)

      none-mine : (b : ℕ) → user_part a b board.nic scrubbed_then ≡ 0
      none-mine b = user_part-scrubbed a b board.nic x took (was-returned board a x x sound here b) (takes b) ∙ (rw (here.number, eqb_same a) (no-loans b))

      pool-then : (b : ℕ) → b < all_buffers board.arrays.layout → get_or pool' b 0 + owed_count b board.nic x ≡ get_or board.arrays.pool b 0
      pool-then b within = omega (arith, back.less b within, users-mine b within, part-le board a x sound here b, sound.counted.pool b within)

      holders-then : (b : ℕ) → b < all_buffers board.arrays.layout → get_or pool' b 0 ≡ pool_count b board.nic (set board.apps a scrubbed_then)
      holders-then b within = omega (
        arith,
        pool-then b within,
        fewer b,
        sound.counted.pool b within,
        pool_count-app b board.nic board.apps a x scrubbed_then here,
      )

      at-rest : IsAppAtRest scrubbed_then
      at-rest = let rest = was-at_rest board a x scrubbed_then sound here in record {
        hands = rest.hands;
        owes = rest.owes;
        unscrubbed = λ e. absurd (let wrong : true ≡ false = e in cc);
      }

      free-then : AreFreeOnce (listed_in listed') board.nic (set board.apps a scrubbed_then)
      free-then = record {
        pool = λ b inside.
            let of_pool : b < pool_buffers board.arrays.layout = rw (← pools sound) inside in
            let within : b < all_buffers board.arrays.layout = omega arith in
            let owed = get_or board.arrays.users (user_at board.arrays.layout a b) 0 in
            let before : pool_count b board.nic board.apps ≡ get_or pool' b 0 + owed = omega
            (arith, pool-then b within, users-mine b within, sound.counted.pool b within) in
            let was : free_places (listed_in board.arrays.listed) b board.nic board.apps
            ≡ (if (get_or pool' b 0 + owed) == 0 then 1 else 0) = rw (← before) (sound.free.pool b inside) in
            let some : one_if (listed_in board.arrays.listed b) ≤ free_places (listed_in board.arrays.listed) b board.nic board.apps = omega arith in
            let kept : pool_count b board.nic (set board.apps a scrubbed_then) ≡ get_or pool' b 0 = sym (holders-then b within) in
            let change = free_places-side board a x scrubbed_then sound here (listed_in board.arrays.listed) (listed_in listed') b at-rest in
            rw kept
            (once-back owed (get_or pool' b 0) _ _ (nat_lt b (pool_buffers board.arrays.layout)) (listed_in board.arrays.listed b) (listed_in listed' b)
            (lt-ltb b (pool_buffers board.arrays.layout) of_pool) (back.lists b within) was some change);
        reserves = λ b past.
            let past' : pool_buffers board.arrays.layout ≤ b = rw (← pools sound) past in
            let none : listed_in listed' b ≡ false = get_or_past listed' b false (omega (arith, back.listed_len, sound.sizes.listed)) in
            omega (
              arith,
              sound.free.reserves b past,
              free_places-side board a x scrubbed_then sound here (listed_in board.arrays.listed)
                  (listed_in listed') b at-rest,
              ap one_if none,
            );
      }

      listed-more : (b : ℕ) → one_if (listed_in board.arrays.listed b) ≤ one_if (listed_in listed' b)
      listed-more b =
          ⊎_elim
          (λ within. more-case (came_back board.arrays.layout b (get_or board.arrays.users (user_at board.arrays.layout a b) 0) (get_or pool' b 0)) _ _
          (back.lists b within))
          (λ past. let none : listed_in board.arrays.listed b
          ≡ false = get_or_past board.arrays.listed b false (omega (arith, sound.sizes.listed)) in omega (arith, ap one_if none))
          (cases_lt b (all_buffers board.arrays.layout))

      owed-none : (b : ℕ) → length (owed_in b board.nic scrubbed_then) ≡ 0
      owed-none b =
          let ends : ended_in b board.nic scrubbed_then ≡ ended_in b board.nic x + owed_count b board.nic x = omega (arith, takes b) in
          omega (arith, length-drop (ended_in b board.nic scrubbed_then) (returned_in b x), returned_in-count b x, ends)

      pub IsSound-scrubbed : IsSound (record {
        arrays = record board.arrays { users = users'; pool = pool'; listed = listed' };
        nic = board.nic;
        apps = set board.apps a scrubbed_then;
      })
      IsSound-scrubbed =
          let phase = was-phased board a x scrubbed_then sound here in
          let was = was-returns board a x scrubbed_then sound here in
          let sent = was-relayed board a x scrubbed_then sound here in
          record {
            sizes = assumption (
              back.pool_len ∙ sound.sizes.pool,
              back.users_len ∙ sound.sizes.users,
              back.listed_len ∙ sound.sizes.listed,
              sound.sizes,
            );
            cached = sound.cached;
            set = IsSet-app board a x scrubbed_then sound here refl refl at-rest;
            counted = AreCounted-app board a x scrubbed_then sound here _ refl refl
                (λ b within. omega (arith, pool-then b within, fewer b))
                (λ b within. omega (arith, back.none b within, none-mine b, part-mine b, users-mine b within))
                (λ k b ne app within. back.others k b ne within)
                (λ b past. omega (arith, fewer b))
                (λ b. EndedWereReturned-scrubbed b board.nic x took (takes b) (was-returned board a x scrubbed_then sound here b));
            free = free-then;
            relayed = AreRelayed-kept board a x scrubbed_then sound here _ refl refl refl (assumption sent);
            returns = returns-app board a x scrubbed_then sound here (record {
              written = was.written;
              owed = λ b. rw (was.quiet can.quiet) (omega arith);
              no_more = λ b. omega (arith, owed-none b, none-lowered _ board.nic board.apps sound.set x.view.app b);
              clear = was.clear;
              named = was.named;
              settled = was.settled;
              quiet = was.quiet;
              scrubbed = λ e. was.quiet can.quiet;
              strays = was.strays;
            });
            flags = AreFlags-kept board a x scrubbed_then sound here _ refl refl refl;
            kept = AreKept-app board a x scrubbed_then sound here _ _ refl listed-more sound.kept;
            due = AreDue-app board a x scrubbed_then sound here (was-given board a x scrubbed_then sound here) (was-due board a x scrubbed_then sound here);
            filled = FillingsFit-same board.nic board.apps a x scrubbed_then here refl sound.filled;
            by_one = λ b. IsFilledByOne-scrubbed b board.nic board.apps a x took here (was-returned board a x scrubbed_then sound here b) (takes b)
                (sound.by_one b);
            shown = AreShown-scrubbed (byte_of board.arrays) board.nic board.apps a x took (λ b. owed_count b board.nic x) here takes
                (λ b. (was-returned board a x scrubbed_then sound here b).returning) sound.shown;
            notes = sound.notes;
            own_buffers = OwnBuffers-kept board a x scrubbed_then sound here refl refl refl refl refl refl;
            judged = sound.judged;
            booked = AreBooked-kept board a x scrubbed_then sound here _ refl refl refl refl refl refl refl;
            phased = ArePhased-app board a x scrubbed_then sound here (record {
              ended = phase.ended;
              scrubbed = λ e. (can.loans, owed-none);
              left = λ e. absurd (let was_scrubbed = (phase.left e).scrubbed in let wrong : false ≡ true = sym can.counted ∙ was_scrubbed in cc);
            });
          }
