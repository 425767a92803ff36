-- What an event needs of the holders and of its numbers.
use Rattle.std.{proofs.Common.{◌≡◌, ◌∙◌, ℕ, ◌+◌, ◌≤◌, true, List, [], ◌∷◌, length, ltb, Some, refl, ap, subst, arith, ⊎_elim}, specs.Prelude.{◌&&◌, count_by, slice_index}}
use Rattle.std.proofs.lemmas.{Bool.{cases_lt, lt-ltb, le-leb, eq-eqb}, List.Elements.{All-get_or, All-set}}
use Rattle.area_layout.specs.Layout.{size_of}
use Rattle.zr_kinds.specs.{declared.{event.Event.{Event}, holding.Holding.{Holding}}, Setting.{size_of_buffer}}
use Rattle.zr_kinds.specs.Holders.{becomes, buffer_of_event, changed, is_app, is_buffer, is_in_range, is_same, is_user, is_user_count, is_pool_count, is_within}
use Rattle.zr_kinds.proofs.Weighing.{one_if, some_becomes}
use Rattle.zr_kinds.specs.declared.holding.Holding.TheVariants as holding
use Rattle.board_face.specs.{Laws.{AllSides, by_card, by_app}, Sides.{IsApp, app_at}, declared.views.{nic.NicView.{NicView}, app.AppView.{AppView}}}
use Rattle.board_face.{specs.declared.views.app.AppSide.{AppSide}, proofs.{ListLemmas.{eqb_same}, Tallies.{one_if as one}}}
use Rattle.plain_board.{specs.{IsLogged.{AreSound, Logs, NoneReturns, setting_of_sides}, Plain.{weight}}, proofs.EventCounting.{buffer-there, ends, held-some, held-within}}
use Rattle.plain_board.proofs.{Following.{Becomes, Counts, Shifts, follows-by, logs-by, was-there}, Tallying.{Tallies}, Settings.{size-same}}

-- ---- nothing is under way after the event either

pub NoneReturns-card : (s : AllSides) (v : NicView) → NoneReturns s → NoneReturns (by_card s v)
NoneReturns-card s v none = assumption

pub NoneReturns-app : (s : AllSides) (a : ℕ) (app : AppSide) (v : AppView) → IsApp s.apps a app → NoneReturns s → NoneReturns (by_app s a app v)
NoneReturns-app s a app v at none =
    let P : AppSide → Type 0 = λ x. (b : ℕ) → slice_index x.inside.scrub_owes b ≡ 0 in
    let own : P app = subst P at.is (All-get_or P s.apps a app at.there none.owes) in
    assumption (All-set P s.apps a (app_at app v) own none.owes)

-- ---- counts

pub pool-said : (held : List Holding) (p : ℕ) → length held ≡ p → is_pool_count held p ≡ true
pool-said held p e = eq-eqb (length held) p e

pub both-said : (held : List Holding) (p a u : ℕ) → length held ≡ p → count_by (is_user a) held ≡ u
    → (is_pool_count held p && is_user_count held a u) ≡ true
both-said held p a u e d = rw (eq-eqb (length held) p e, eq-eqb (count_by (is_user a) held) u d) refl

-- ---- numbers in range

pub app-there : (s : AllSides) → AreSound s → (a : ℕ) (app : AppSide) → IsApp s.apps a app → is_app (setting_of_sides s) a ≡ true
app-there s sound a app at = lt-ltb a s.nic.view.setting.layout.reserves (omega (arith, at.there, sound.setting.many))

pub within-there : (s : AllSides) → AreSound s → (b o l : ℕ) → is_buffer (setting_of_sides s) b ≡ true → o + l ≤ size_of s.nic.view.setting.layout b
    → is_within (setting_of_sides s) b o l ≡ true
within-there s sound b o l there within =
    let size : o + l ≤ size_of_buffer (setting_of_sides s).areas b = omega (arith, within, size-same s.nic.view.setting.layout sound.layout b) in
    rw (there, le-leb (o + l) (size_of_buffer (setting_of_sides s).areas b) size) refl

-- bytes of which none lies behind their buffer's end
pub within-by : (s : AllSides) → AreSound s → (b o l : ℕ) → is_buffer (setting_of_sides s) b ≡ true
    → one (ltb (size_of s.nic.view.setting.layout b) (o + l)) ≡ 0 → is_within (setting_of_sides s) b o l ≡ true
within-by s sound b o l there none =
    let size = size_of s.nic.view.setting.layout b in
    within-there s sound b o l there (⊎_elim (λ past. absurd (omega (arith, none, ap one (lt-ltb size (o + l) past)))) (λ within. within)
    (cases_lt size (o + l)))

-- ---- one holder becomes others

pub same-itself : (x : Holding) → is_same x x ≡ true
same-itself holding.Own = refl
same-itself (holding.Piece o l) = rw (eqb_same o, eqb_same l) refl
same-itself (holding.Sent a o l) = rw (eqb_same a, eqb_same o, eqb_same l) refl
same-itself (holding.Held a o l) = rw (eqb_same a, eqb_same o, eqb_same l) refl
same-itself (holding.Spare a) = eqb_same a
same-itself (holding.Loan a o l) = rw (eqb_same a, eqb_same o, eqb_same l) refl
same-itself (holding.Owed a) = eqb_same a

-- Where the sides show that a holder ends and isn't among those that begin, it is there, and the event finds it.
pub one-becomes : (e : Event) (buffer : ℕ) (x : Holding) (news : List Holding) (old new : AllSides) → AreSound old
    → Shifts buffer (x ∷ []) news old new → weight (one_if (is_same x)) news ≡ 0
    → (is_buffer (setting_of_sides old) buffer ≡ true → one (ends (size_of old.nic.view.setting.layout buffer) x) ≡ 0
    → is_in_range (setting_of_sides old) e ≡ true)
    → ((held : List Holding) → changed (setting_of_sides old) held e ≡ becomes x news held) → Becomes e buffer (x ∷ []) news old
one-becomes e buffer x news old new sound shifts none range does h same =
    let there = was-there buffer x news old new shifts (same-itself x) none h same in
    let some = held-some old sound h same buffer x there in
    let became = some_becomes x news (h buffer) there in (
      range (buffer-there old sound h same buffer some) (held-within old sound h same buffer x there),
      (became.0, does (h buffer) ∙ became.1, became.2),
    )

-- the log behind such an event
pub one-ends : (e : Event) (buffer : ℕ) (x : Holding) (news : List Holding) (old new : AllSides) → AreSound old → NoneReturns new
    → setting_of_sides new ≡ setting_of_sides old → buffer_of_event e ≡ Some buffer → Shifts buffer (x ∷ []) news old new → weight (one_if (is_same x)) news ≡ 0
    → (is_buffer (setting_of_sides old) buffer ≡ true → one (ends (size_of old.nic.view.setting.layout buffer) x) ≡ 0
    → is_in_range (setting_of_sides old) e ≡ true)
    → ((held : List Holding) → changed (setting_of_sides old) held e ≡ becomes x news held) → Counts e buffer new → Tallies e old new → Logs e old new
one-ends e buffer x news old new sound idle same names shifts none range does counts tallies =
    logs-by e old new same (follows-by e buffer (x ∷ []) news old new names idle shifts counts
    (one-becomes e buffer x news old new sound shifts none range does)) tallies
