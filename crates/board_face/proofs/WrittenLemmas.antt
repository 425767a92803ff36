-- Entries that are written, of a loan or raw: each is the last on its way, and nothing before it changes.
use Rattle.std.proofs.Common.{◌≡◌, ⊎_elim, ℕ, suc, ◌+◌, ◌-◌, ◌<◌, ◌≤◌, Bool, true, false, List, [], ◌∷◌, ◌++◌, length, drop, map}
use Rattle.std.{proofs.Common.{refl, ap, sym, ◌∙◌, arith, subst, length-drop, Option, Some, None}, specs.Prelude.{◌==◌, count_by, filter, All, Contains, IfSome}}
use Rattle.std.{specs.List.{zip}, proofs.lemmas.{List.{drop-append-le, length-map, Elements.{All-push}}, Bool.Decides.{eqb_tells}}}
use Rattle.zr_kinds.specs.declared.{place.Place.{Place}, ring.Rqe.{Rqe}}
use Rattle.area_layout.specs.Layout.{Shape, judged}
use Rattle.board_face.specs.{Lists.{same_place}, Sides.{app_at}, AppCalls.{HasLoan, IsLive, NamesNoLoan}}
use Rattle.board_face.specs.{AppEvents.{abandoned, gave, pushed_raw, entry_of, loan_origin, loans_without}, Counts.{EndedWereReturned}}
use Rattle.board_face.specs.{Holders.{ended_in, owed_in, returned_in}, Relay.{dealt_entries, IsNoLoanStray, HasNoLoanStray}}
use Rattle.board_face.specs.{Returns.{entries_on_way, returns, names, is_some_of, loans_out, IsOfLoan, IsNamed, IsClear, AreReturns}, declared.views.nic.Dealt.{Dealt}}
use Rattle.board_face.specs.declared.views.{nic.NicSide.{NicSide}, app.{LentPiece.{LentPiece}, WrittenEntry.{WrittenEntry}, AppSide.{AppSide}}}
use Rattle.board_face.proofs.{ListLemmas.{same_place-is, same_place-refl}, Tallies.{one_if, tally, tally-push, tally-without}}
use Rattle.board_face.proofs.Parts.{count-tally, came_back_in, returned_in-count}

pub zip-longer : {A B : Type 0} (xs : List A) (ys : List B) (x : A) → length ys ≤ length xs → zip (xs ++ x ∷ []) ys ≡ zip xs ys
zip-longer [] [] x less = refl
zip-longer [] (y ∷ ys) x less = absurd (omega arith)
zip-longer (z ∷ xs) [] x less = refl
zip-longer (z ∷ xs) (y ∷ ys) x less = ap (λ ps. (z, y) ∷ ps) (zip-longer xs ys x (omega arith))

-- ---- what the entry gives back

pub returns-one : (layout : Shape) (b buffer : ℕ) (w : WrittenEntry) → IsOfLoan w → judged layout w.entry ≡ Some buffer
    → returns layout b w ≡ (buffer == b)
returns-one layout b buffer w of_loan judges = rw (of_loan, judges) refl

pub returns-longer : (layout : Shape) (b : ℕ) (ws : List WrittenEntry) (w : WrittenEntry)
    → count_by (returns layout b) (ws ++ w ∷ []) ≡ count_by (returns layout b) ws + one_if (returns layout b w)
returns-longer layout b ws w = omega (
  arith,
  count-tally (returns layout b) (ws ++ w ∷ []),
  count-tally (returns layout b) ws,
  tally-push (returns layout b) ws w,
)

-- Where a loan is out in a buffer, no raw entry on its way names it, so whatever follows is clear there.
IsClear-live : (layout : Shape) (b n m : ℕ) (ws : List WrittenEntry) (w : WrittenEntry) → 0 < n → IsOfLoan w → IsClear layout b n ws
    → IsClear layout b m (ws ++ w ∷ [])
IsClear-live layout b n m [] w some of_loan clear = (λ raw named. absurd (let wrong : true ≡ false = sym of_loan ∙ raw in cc), tt)
IsClear-live layout b n m (v ∷ ws) w some of_loan clear =
    (λ raw named. absurd (let none = (clear.0 raw named).0 in omega arith), IsClear-live layout b n m ws w some of_loan clear.1)

-- An entry that names another buffer is behind the others, and changes nothing there.
IsClear-elsewhere : (layout : Shape) (b n m : ℕ) (ws : List WrittenEntry) (w : WrittenEntry) → m ≤ n → IsOfLoan w → returns layout b w ≡ false
    → IsClear layout b n ws → IsClear layout b m (ws ++ w ∷ [])
IsClear-elsewhere layout b n m [] w less of_loan other clear = (λ raw named. absurd (let wrong : true ≡ false = sym of_loan ∙ raw in cc), tt)
IsClear-elsewhere layout b n m (v ∷ ws) w less of_loan other clear = (
  λ raw named. let were = clear.0 raw named in (
    let none = were.0 in omega arith,
    let none = were.1 in omega (arith, returns-longer layout b ws w, ap one_if other),
  ),
  IsClear-elsewhere layout b n m ws w less of_loan other clear.1,
)

pub IsClear-longer : (layout : Shape) (b buffer n m : ℕ) (ws : List WrittenEntry) (w : WrittenEntry) → IsOfLoan w → judged layout w.entry ≡ Some buffer
    → m + one_if (buffer == b) ≡ n → IsClear layout b n ws → IsClear layout b m (ws ++ w ∷ [])
IsClear-longer layout b buffer n m ws w of_loan judges less clear = by (buffer == b) refl
  where
    by : (c : Bool) → (buffer == b) ≡ c → IsClear layout b m (ws ++ w ∷ [])
    by true is = IsClear-live layout b n m ws w (omega (arith, less, ap one_if is)) of_loan clear
    by false is = IsClear-elsewhere layout b n m ws w (omega arith) of_loan (returns-one layout b buffer w of_loan judges ∙ is) clear

-- an entry that came from no loan gives none back
pub returns-raw : (layout : Shape) (b : ℕ) (ws : List WrittenEntry) (w : WrittenEntry) → w.of_loan ≡ false
    → count_by (returns layout b) (ws ++ w ∷ []) ≡ count_by (returns layout b) ws
returns-raw layout b ws w raw =
    let none : one_if (returns layout b w) ≡ 0 = rw raw refl in
    omega (arith, none, count-tally (returns layout b) (ws ++ w ∷ []), count-tally (returns layout b) ws, tally-push (returns layout b) ws w)

-- an entry that came from no loan is clear where none is out, and leaves those before it clear
pub IsClear-push : (layout : Shape) (b loans : ℕ) (ws : List WrittenEntry) (w : WrittenEntry) → w.of_loan ≡ false
    → (names layout b w ≡ true → loans ≡ 0) → IsClear layout b loans ws → IsClear layout b loans (ws ++ w ∷ [])
IsClear-push layout b loans [] w raw idle clear = (λ is named. (idle named, refl), tt)
IsClear-push layout b loans (v ∷ ws) w raw idle clear =
    (λ is named. let was = clear.0 is named in (was.0, returns-raw layout b ws w raw ∙ was.1), IsClear-push layout b loans ws w raw idle clear.1)

-- ---- no loan is out where the entry points

none-out : (b : ℕ) (ls : List LentPiece) → (Contains (map (λ l. l.place.buffer) ls) b → ⊥) → tally (λ l. l.place.buffer == b) ls ≡ 0
none-out b [] idle = refl
none-out b (l ∷ ls) idle =
    ⊎_elim
    (λ t. absurd (idle (0, omega arith, t.1)))
    (λ t. omega (arith, ap one_if t.0, none-out b ls (λ live. idle (suc live.0, omega (arith, live.1), live.2))))
    (eqb_tells l.place.buffer b)

pub idle-case : (o : Option ℕ) (x : AppSide) (b : ℕ) → IfSome o (λ buffer. IsLive x.view buffer → ⊥) → is_some_of o b ≡ true
    → loans_out b x ≡ 0
idle-case None x b idle named = absurd (let wrong : false ≡ true = named in cc)
idle-case (Some i) x b idle named =
    ⊎_elim
    (λ t. count-tally (λ (l : LentPiece). l.place.buffer == b) x.view.loans ∙ none-out b x.view.loans (subst (λ c. IsLive x.view c → ⊥) t.1 idle))
    (λ t. absurd (let wrong : true ≡ false = sym named ∙ t.0 in cc))
    (eqb_tells i b)

-- ---- a loan that came back

-- the loans out in a buffer are one fewer in the loan's own
pub loans-fewer : (b : ℕ) (x : AppSide) (place : Place) → HasLoan x.view place
    → loans_out b (app_at x (abandoned x.view place)) + one_if (place.buffer == b) ≡ loans_out b x
loans-fewer b x place out =
    omega (
      arith,
      count-tally (λ (l : LentPiece). l.place.buffer == b) (loans_without x.view place),
      count-tally (λ (l : LentPiece). l.place.buffer == b) x.view.loans,
      tally-without (λ (l : LentPiece). l.place) (same_place place) place (same_place-is place) (same_place-refl place) (λ p. p.buffer == b) x.view.loans out,
    )

owed-many : (b : ℕ) (nic : NicSide) (x : AppSide) → length (owed_in b nic x) ≡ came_back_in b x - ended_in b nic x
owed-many b nic x = length-drop (ended_in b nic x) (returned_in b x) ∙ ap (λ n. n - ended_in b nic x) (returned_in-count b x)

-- those that were given back or abandoned one more
pub returned-more : (b : ℕ) (x : AppSide) (place : Place) → length (returned_in b (app_at x (abandoned x.view place)))
    ≡ length (returned_in b x) + one_if (place.buffer == b)
returned-more b x place =
    omega (
      arith,
      returned_in-count b (app_at x (abandoned x.view place)),
      returned_in-count b x,
      tally-push (λ (l : LentPiece). l.place.buffer == b) x.view.returned (record { place = place; origin = loan_origin x.view place }),
    )

-- and those owed one more
pub owed-more : (b : ℕ) (nic : NicSide) (x : AppSide) (place : Place) → EndedWereReturned b nic x
    → length (owed_in b nic (app_at x (abandoned x.view place))) ≡ length (owed_in b nic x) + one_if (place.buffer == b)
owed-more b nic x place ended =
    let now = app_at x (abandoned x.view place) in
    omega (
      arith,
      owed-many b nic now,
      owed-many b nic x,
      tally-push (λ (l : LentPiece). l.place.buffer == b) x.view.returned (record { place = place; origin = loan_origin x.view place }),
      ended.ended,
      returned_in-count b x,
    )

-- where no loan is out, none is after fewer are
pub IsClear-fewer : (layout : Shape) (b n m : ℕ) (ws : List WrittenEntry) → m ≤ n → IsClear layout b n ws → IsClear layout b m ws
IsClear-fewer layout b n m [] less clear = clear
IsClear-fewer layout b n m (w ∷ ws) less clear = (
  λ raw named. let were = clear.0 raw named in (let e = were.0 in omega arith, were.1),
  IsClear-fewer layout b n m ws less clear.1,
)

-- ---- what is on its way

module _ (nic : NicSide) (app : AppSide) (few : length (dealt_entries app.view.app nic) ≤ length app.view.written) where
  -- an entry that is written is the last on its way
  pub way-written : (w : WrittenEntry) → drop (length (dealt_entries app.view.app nic)) (app.view.written ++ w ∷ []) ≡ entries_on_way nic app ++ w ∷ []
  way-written w = drop-append-le (length (dealt_entries app.view.app nic)) app.view.written (w ∷ []) few

  strays-then : (w : WrittenEntry) → HasNoLoanStray nic app
      → All IsNoLoanStray (zip (app.view.written ++ w ∷ []) (filter (λ d. d.app == app.view.app) nic.view.dealt))
  strays-then w strays =
      let dealt = filter (λ (d : Dealt). d.app == app.view.app) nic.view.dealt in
      rw (zip-longer app.view.written dealt w (omega (arith, few, length-map dealt (λ (d : Dealt). d.entry)))) strays

  pub AreReturns-gave : (place : Place) → HasLoan app.view place → judged app.view.setting.layout
      (entry_of app.view.setting.layout place) ≡ Some place.buffer
      → ((b : ℕ) → EndedWereReturned b nic app) → (app.view.scrubbed ≡ true → app.view.loans ≡ []) → AreReturns nic app
      → AreReturns nic (app_at app (gave app.view place))
  AreReturns-gave place out names_own ended unlent was =
      let now = app_at app (gave app.view place) in
      let layout = app.view.setting.layout in
      let ws = entries_on_way nic app in
      let written : WrittenEntry = record { entry = entry_of layout place; of_loan = true } in
      let way : entries_on_way nic now ≡ ws ++ written ∷ [] = way-written written in
      record {
        written = λ b. omega (
          arith,
          was.written b,
          returned-more b app place,
          returns-longer layout b app.view.written written,
          ap one_if (returns-one layout b place.buffer written refl names_own),
        );
        owed = λ b. omega (
          arith,
          was.owed b,
          owed-more b nic app place (ended b),
          ap (count_by (returns layout b)) way,
          returns-longer layout b ws written,
          ap one_if (returns-one layout b place.buffer written refl names_own),
        );
        no_more = λ b. omega (
          arith,
          was.written b,
          was.no_more b,
          owed-more b nic app place (ended b),
          returned-more b app place,
          ap (count_by (returns layout b)) way,
          returns-longer layout b ws written,
          returns-longer layout b app.view.written written,
          ap one_if (returns-one layout b place.buffer written refl names_own),
        );
        clear = λ b. subst (IsClear layout b (loans_out b now)) (sym way)
            (IsClear-longer layout b place.buffer (loans_out b app) (loans_out b now) ws written refl names_own (loans-fewer b app place out) (was.clear b));
        named = subst (All (IsNamed layout)) (sym way) (All-push (IsNamed layout) ws written was.named (λ of_loan. rw names_own refl));
        settled = λ e. subst (All IsOfLoan) (sym way) (All-push IsOfLoan ws written (was.settled e) refl);
        quiet = λ e. absurd (let wrong : false ≡ true = e in cc);
        scrubbed = λ e. absurd (let there = (rw (unlent e) at out).1 in omega arith);
        strays = strays-then written was.strays;
      }

  pub AreReturns-pushed : (entry : Rqe) → NamesNoLoan app.view entry → app.view.scrubbed ≡ false → AreReturns nic app
      → AreReturns nic (app_at app (pushed_raw app.view entry))
  AreReturns-pushed entry unlent counted was =
      let layout = app.view.setting.layout in
      let ws = entries_on_way nic app in
      let one : WrittenEntry = record { entry = entry; of_loan = false } in
      let way : entries_on_way nic (app_at app (pushed_raw app.view entry)) ≡ ws ++ one ∷ [] = way-written one in
      record {
        written = λ b. omega (arith, was.written b, returns-raw layout b app.view.written one refl);
        owed = λ b. rw way (omega (arith, was.owed b, returns-raw layout b ws one refl));
        no_more = λ b. rw way (omega (arith, was.no_more b, returns-raw layout b ws one refl, returns-raw layout b app.view.written one refl));
        clear = λ b. rw way (IsClear-push layout b (loans_out b app) ws one refl (idle-case (judged layout entry) app b unlent) (was.clear b));
        named = rw way (All-push (IsNamed layout) ws one was.named (λ e. absurd (let wrong : false ≡ true = e in cc)));
        settled = λ e. absurd (let wrong : false ≡ true = e in cc);
        quiet = λ e. absurd (let wrong : false ≡ true = e in cc);
        scrubbed = λ e. absurd (let wrong : false ≡ true = sym counted ∙ e in cc);
        strays = strays-then one was.strays;
      }
