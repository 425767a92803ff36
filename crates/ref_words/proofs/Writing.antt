-- An application hands a refill slot over: an entry is on its way.
use Rattle.std.proofs.Common.{◌≡◌, ℕ, zero, suc, ◌<◌, ◌≤◌, Bool, true, false, List, [], ◌∷◌, ◌++◌, length, map, take, set}
use Rattle.std.{proofs.{Common.{refl, ap, sym, ◌∙◌, arith, subst, Some, None, mod-lt}, lemmas.List.{append_assoc, Elements.{All-push, All-nil}}}, specs.Prelude.{All}}
use Rattle.zr_kinds.specs.declared.{place.Place.{Place}, ring.Rqe.{Rqe}}
use Rattle.board_face.specs.{AppEvents.{reserve_of}, Opened.{unseen}, Holders.{returned_in, owed_in}, Counts.{pool_count, EndedWereReturned}, Relay.{dealt_entries}}
use Rattle.board_face.specs.{Returns.{AreReturns, IsOfLoan, entries_on_way}, Sides.{IsApp}, declared.views.{parts.Setting.{Setting}, nic.NicSide.{NicSide}}}
use Rattle.board_face.{specs.declared.views.app.{WrittenEntry.{WrittenEntry}, AppSide.{AppSide}}, proofs.AppLemmas.{pool_count-app, user_count-app}}
use Rattle.board_face.proofs.{ArePlacedLemmas.{ArePlaced-app}, FillingsFitLemmas.{FillingsFit-same}, IsFilledByOneLemmas.{IsFilledByOne-app}}
use Rattle.board_face.proofs.{MadeLastLemmas.{IsMadeLast-app}, Parts.{app_count, user_part}, PlaceTallies.{app_places}, WrittenLemmas.{way-written}}
use Rattle.ref_words.specs.{Words.{Words, listed_bit, with_refill}, Rings.{AreRings, EntryFits, IsLastRaw, words_of_entry, writes_entry_at}}
use Rattle.ref_words.{specs.{Sides.{IsFirst, IsFirstRaw, IsDealtInOrder}, Rule.{RefRule}}, proofs.RingSteps.{AllRings, rings-others}}
use Rattle.ref_words.proofs.{SlotWords.{ring-here, ring-other, differ-refill}, SlotSteps.{DifferInSlots, RefRule-slot}, SideSteps.{SidesRule-app, own-was, is-app}}
use Rattle.ref_words.proofs.{Frees.{AreKept-app, free_places-hands}, LineLemmas.{AreByLine-app}}
use Rattle.ref_words.proofs.Ringing as ringing

pub take-mapped : {A B : Type 0} (f : A → B) (n : ℕ) (xs : List A) (x : A) → n ≤ length xs → take n (map f (xs ++ x ∷ [])) ≡ take n (map f xs)
take-mapped f zero xs x few = refl
take-mapped f (suc n) [] x few = absurd (omega arith)
take-mapped f (suc n) (y ∷ xs) x few = ap (λ ys. f y ∷ ys) (take-mapped f n xs x (omega arith))

pub first-stays : {ws : List WrittenEntry} (w : WrittenEntry) {entry : _} → IsFirst entry ws → IsFirst entry (ws ++ w ∷ [])
first-stays w f = record { first = f.first; others = f.others ++ w ∷ []; is = ap (λ xs. xs ++ w ∷ []) f.is; same = f.same }

pub raw-stays : {ws : List WrittenEntry} (w : WrittenEntry) → IsFirstRaw ws → IsFirstRaw (ws ++ w ∷ [])
raw-stays w f = record { first = f.first; others = f.others ++ w ∷ []; is = ap (λ xs. xs ++ w ∷ []) f.is; raw = f.raw }

-- an entry of a loan behind the last raw one
pub last-raw-stays : (places s : ℕ) (ws : List WrittenEntry) (w : WrittenEntry) → w.of_loan ≡ true → IsLastRaw places ws s
    → IsLastRaw places (ws ++ w ∷ []) s
last-raw-stays places s ws w of_loan l = record {
  before = l.before;
  entry = l.entry;
  behind = l.behind ++ w ∷ [];
  is = ap (λ xs. xs ++ w ∷ []) l.is ∙ append_assoc l.before (l.entry ∷ l.behind) (w ∷ []);
  raw = l.raw;
  others = All-push IsOfLoan l.behind w l.others of_loan;
  slot = l.slot;
}

-- What is to be known of the side after the event, by which the entry w was written.
pub record IsWriting (setting : Setting) (nic : NicSide) (app now : AppSide) (w : WrittenEntry) : Type 0 where
  pub same : now ≡ record {
    view = record app.view {
      loans = now.view.loans;
      returned = now.view.returned;
      written = app.view.written ++ w ∷ [];
      settled = now.view.settled;
      quiet = false;
    };
    inside = record app.inside { refill_slot = unseen; free_slots = []; raw_slot = now.inside.raw_slot };
  }
  pub fits : EntryFits w
  pub places : (b : ℕ) (test : Place → Bool) → app_places b test nic now ≤ app_places b test nic app
  pub counts : (b : ℕ) → app_count b nic now ≡ app_count b nic app
  pub users : (x b : ℕ) → user_part x b nic now ≡ user_part x b nic app
  pub returned : (b : ℕ) → EndedWereReturned b nic now
  pub came_back : (b : ℕ) → length (returned_in b app) ≤ length (returned_in b now)
  pub returns : AreReturns nic now
  -- no scrub has begun
  pub unbegun : app.inside.scrub_mark ≡ 0
  pub unscrubbed : app.view.scrubbed ≡ false
  pub raw_slot : (s : ℕ) → now.inside.raw_slot ≡ Some s → IsLastRaw setting.places (app.view.written ++ w ∷ []) s
  pub none_raw : now.inside.raw_slot ≡ None → All IsOfLoan (app.view.written ++ w ∷ [])

module _ (setting : Setting) (words : Words) (nic : NicSide) (apps : List AppSide) (app : AppSide) (rule : RefRule setting words nic apps)
    (here : IsApp apps app.view.app app) where
  abbrev a : ℕ
  a = app.view.app

  rings : AreRings setting words nic app
  rings = rule.rings a app here

  -- no more was dealt with than was written
  pub few : length (dealt_entries a nic) ≤ length app.view.written
  few = rings.refills.ring.order

  module _ (now : AppSide) (w : WrittenEntry) (writing : IsWriting setting nic app now w) (saw : app.inside.refill_slot.seen ≡ true)
      (words_are : app.inside.refill_slot.words ≡ words_of_entry w) where
    abbrev like : AppSide
    like = record {
      view = record app.view {
        loans = now.view.loans;
        returned = now.view.returned;
        written = app.view.written ++ w ∷ [];
        settled = now.view.settled;
        quiet = false;
      };
      inside = record app.inside { refill_slot = unseen; free_slots = []; raw_slot = now.inside.raw_slot };
    }

    is : IsWriting setting nic app like w
    is = subst (λ x. IsWriting setting nic app x w) writing.same writing

    abbrev apps' : List AppSide
    apps' = set apps a like

    abbrev s : ℕ
    s = writes_entry_at setting app

    abbrev words' : Words
    words' = with_refill words a s 0 1

    pools : (b : ℕ) → pool_count b nic apps' ≡ pool_count b nic apps
    pools b = omega (arith, pool_count-app b nic apps a app like here, is.counts b)

    way : entries_on_way nic like ≡ entries_on_way nic app ++ w ∷ []
    way = way-written nic app few w

    rings-then : AllRings setting words' nic apps'
    rings-then =
        let there : a < length words.refills = let small = is-app rule.sides here in omega (arith, rule.sizes.refills) in
        rings-others setting words' nic apps a app like here
        (record {
          refills = rw (ring-here words.refills a s 0 1 there) (record {
            ring = ringing.publishes _ _ _ _ _ _ _ _ rings.refills.ring w saw
                (ringing.has-stored _ _ _ _ _ _ _ _ rings.refills.ring w saw words_are refl) (omega arith);
            free_slots = All-nil _;
            raw_slot = is.raw_slot;
            none_raw = is.none_raw;
          });
          notes = rings.notes;
          left = rings.left;
        })
        (λ k x it ne. let all = rule.rings k x it in record {
          refills = rw (ring-other words.refills a s 0 1 x.view.app (λ e. ne (sym it.number ∙ e))) all.refills;
          notes = all.notes;
          left = all.left;
        })

    differ : DifferInSlots setting words words'
    differ = differ-refill setting words rule.sizes a s 0 1 (is-app rule.sides here) (mod-lt (length app.view.written) rings.refills.ring.some)

    pub RefRule-written : RefRule setting words' nic (set apps a now)
    RefRule-written =
        subst (λ x. RefRule setting words' nic (set apps a x)) (sym writing.same)
        (RefRule-slot setting words words' nic nic apps apps' rule differ (record {
          sides = SidesRule-app setting nic apps a app rule.sides here like (record {
            placed = λ b. ArePlaced-app b nic apps a app like here (is.places b) (rule.sides.placed b);
            lines = λ b. AreByLine-app b nic apps a app like here refl (is.places b) (rule.sides.lines b);
            by_one = λ b. IsFilledByOne-app b nic apps a app like here (omega arith) (omega (arith, is.counts b)) (rule.sides.by_one b);
            fit = FillingsFit-same nic apps a app like here refl rule.sides.fit;
            made = IsMadeLast-app nic apps a app like here is.places rule.sides.made;
            returned = is.returned;
            reserve = record { unheld = λ free. omega (arith, pools (reserve_of app.view), (rule.sides.reserves a app here).unheld free) };
            unheld = λ b past ne none. omega (arith, pools b, none);
            scrubbed = λ done. absurd (let wrong : false ≡ true = sym is.unscrubbed ∙ done in let none : ⊥ = cc in none);
            own = let was = own-was setting nic apps a app rule.sides here in
                let dealt : IsDealtInOrder nic like = record {
                  order = take-mapped (λ (x : WrittenEntry). x.entry) (length (dealt_entries a nic)) app.view.written w few ∙ was.dealt.order;
                } in
                let entries : All EntryFits like.view.written = All-push EntryFits app.view.written w was.entries is.fits in
                let taken : (b : ℕ) → b < app.inside.scrub_mark → length (owed_in b nic like) ≡ 0 =
                λ b less. absurd (omega (arith, is.unbegun, less)) in
                let quiet : 0 < app.inside.scrub_mark → like.view.quiet ≡ true = λ some. absurd (omega (arith, is.unbegun, some)) in
                let loans : 0 < app.inside.scrub_mark → like.view.loans ≡ [] = λ some. absurd (omega (arith, is.unbegun, some)) in
                let first : (entry : Rqe) → IsFirst entry (entries_on_way nic app) → IsFirst entry (entries_on_way nic like) =
                λ entry f. rw way (first-stays w f) in
                let raw : IsFirstRaw (entries_on_way nic app) → IsFirstRaw (entries_on_way nic like) = λ f. rw way (raw-stays w f) in
                assumption (was, is, dealt, entries, taken, quiet, loans, first, raw);
          });
          pool = pools;
          users = λ x b. omega (arith, user_count-app x b nic apps a app like here, is.users x b);
          free = λ b. omega (arith, free_places-hands (listed_bit words) b nic apps a app like here);
          kept = AreKept-app (listed_bit words) nic apps a app like here refl rule.kept;
          rings = rings-then;
        }))
