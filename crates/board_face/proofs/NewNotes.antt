-- Where the piece of an application's next note lies: in a pool buffer, with a byte at least, and apart from all that it has.
use Rattle.std.{proofs.Common.{◌≡◌, ℕ, ◌+◌, ◌<◌, ◌≤◌, Bool, true, List, length, refl, ap, ◌∙◌, subst, arith, ⊎_elim}, specs.Prelude.{◌==◌, count_by, filter, All}}
use Rattle.std.proofs.lemmas.{Bool.{cases_lt}, List.Elements.{All-head, All-filter, All-drop}}
use Rattle.zr_kinds.specs.declared.place.{Place.{Place}, Note.{Note}}
use Rattle.area_layout.specs.Layout.{LiesIn, pool_buffers}
use Rattle.board_face.specs.{Sides.{IsApp}, Holders.{sent_to, on_way}, Counts.{pool_count}, Places.{ArePlaced, places_of, has_byte, is_empty}, Fillings.{IsFilledByOne}}
use Rattle.board_face.specs.{OwnBuffers.{CardLiesInPool}, AppCalls.{IsNewPlace}, declared.views.{nic.{SentNote.{SentNote}, NicSide.{NicSide}}, app.AppSide.{AppSide}}}
use Rattle.board_face.proofs.{ListLemmas.{eqb_same}, Tallies.{one_if, tally}, Parts.{app_count, spares_in, pool_count-parts, count-tally}}
use Rattle.board_face.proofs.{PlaceTallies.{in_buffer, app_places, held_places, loan_places, places-parts, first-of, All-some}, IsFilledByOneLemmas.{fillings-alone}}
use Rattle.board_face.{proofs.{ApartLemmas.{AreApart-all}, LiesLemmas.{total-at, lies-by}, Counting.{All-none}}, specs.Laws.{IsNextNote}}

module _ (nic : NicSide) (apps : List AppSide) (a : ℕ) (app : AppSide) (here : IsApp apps a app) (note : Note) (next : IsNextNote nic app note)
    (split : note.split ≡ true) where
  theirs : next.next.note.split ≡ true
  theirs = ap (λ (n : Note). n.split) next.same ∙ split

  first-in : (f : Place → Bool) → one_if (f note.place)
      ≤ tally (λ (t : SentNote). f t.note.place) (filter (λ (t : SentNote). t.note.split) (on_way nic app))
  first-in f =
      omega (
        arith,
        ap (λ way. tally (λ (t : SentNote). f t.note.place) (filter (λ (t : SentNote). t.note.split) way)) next.way,
        first-of f next.next.note.split next.next (filter (λ (t : SentNote). t.note.split) next.rest) theirs,
        ap (λ (n : Note). one_if (f n.place)) next.same,
      )

  -- it lies in a buffer of the pool
  pub new-of_pool : CardLiesInPool nic.view → note.place.buffer < pool_buffers nic.view.setting.layout
  new-of_pool lies =
      let IsOfPool : SentNote → Type 0 = λ s. s.note.split ≡ true → s.note.place.buffer < pool_buffers nic.view.setting.layout in
      let all : All IsOfPool (on_way nic app) = All-drop IsOfPool (length app.view.taken) (sent_to app.view.app nic)
      (All-filter (λ s. s.app == app.view.app) IsOfPool nic.view.sent lies.sent) in
      let first : IsOfPool next.next = All-head IsOfPool next.next next.rest (subst (All IsOfPool) next.way all) in
      subst (λ (n : Note). n.place.buffer < pool_buffers nic.view.setting.layout) next.same (first theirs)

  module _ (placed : (b : ℕ) → ArePlaced b nic apps) (by_one : (b : ℕ) → IsFilledByOne b nic apps) where
    pub new-lies : LiesIn nic.view.setting.layout note.place × (0 < note.place.len)
    new-lies =
        lies-by nic apps a app here note.place (placed note.place.buffer) (by_one note.place.buffer).inside
        (omega (arith, first-in (λ p. p.buffer == note.place.buffer), ap one_if (eqb_same note.place.buffer)))
        (λ test. omega (arith, first-in (in_buffer note.place.buffer test)))

    places-first : (c : ℕ) (test : Place → Bool)
        → one_if (in_buffer c test note.place) + held_places c test app + loan_places c test app ≤ count_by test (places_of c nic apps)
    places-first c test =
        omega (
          arith,
          count-tally test (places_of c nic apps),
          places-parts c test nic apps,
          total-at (app_places c test nic) apps a app here.there here.is,
          first-in (in_buffer c test),
        )

    holders-first : (c : ℕ) → one_if (note.place.buffer == c) + spares_in c app ≤ pool_count c nic apps
    holders-first c =
        omega (
          arith,
          pool_count-parts c nic apps,
          total-at (app_count c nic) apps a app here.there here.is,
          first-in (λ p. p.buffer == c),
        )

    -- no place of the application is empty
    some-helds : All (λ h. 0 < h.place.len) app.view.helds
    some-helds = All-some (λ h. h.place) app.view.helds (λ c. omega (arith, places-first c is_empty, (placed c).some_bytes))

    some-loans : All (λ l. 0 < l.place.len) app.view.loans
    some-loans = All-some (λ l. l.place) app.view.loans (λ c. omega (arith, places-first c is_empty, (placed c).some_bytes))

    pub new-apart : IsNewPlace app.view note.place
    new-apart =
        let c = note.place.buffer in
        record {
          helds = AreApart-all (λ h. h.place) c note.place app.view.helds refl new-lies.1 some-helds
              (λ y. omega (arith, places-first c (has_byte y), (placed c).apart y));
          loans = AreApart-all (λ l. l.place) c note.place app.view.loans refl new-lies.1 some-loans
              (λ y. omega (arith, places-first c (has_byte y), (placed c).apart y));
          spares = All-none (λ s. s.own.buffer) c app.view.owns (⊎_elim
              (λ some. absurd (
              let alone = fillings-alone c nic apps (by_one c) (omega (arith, total-at (spares_in c) apps a app here.there here.is)) in
              omega (arith, alone, holders-first c, ap one_if (eqb_same c))))
              (λ none. omega arith)
              (cases_lt 0 (spares_in c app)));
        }
