-- The rings stay as they are where neither end of any moved.
use Rattle.std.{proofs.Common.{◌≡◌, ⊎_elim, ℕ, List, set, get_or, ap, sym, ◌∙◌, arith, subst}, specs.Prelude.{◌≢◌}}
use Rattle.std.proofs.lemmas.{List.{length-set, get_or-set_same, get_or-set_other}, Bool.Decides.{eqb_tells}}
use Rattle.board_face.specs.{Sides.{IsApp}, declared.views.{parts.Setting.{Setting}, nic.NicSide.{NicSide}, app.AppSide.{AppSide}}}
use Rattle.ref_words.specs.{Words.{Words}, Rings.{AreRings}}

-- all rings of a board
abbrev pub AllRings : Setting → Words → NicSide → List AppSide → Type 0
AllRings setting words nic apps = (a : ℕ) (app : AppSide) → IsApp apps a app → AreRings setting words nic app

-- other words changed
pub rings-words : (setting : Setting) (words words' : Words) (nic : NicSide) (apps : List AppSide) → words'.refills ≡ words.refills
    → words'.notes ≡ words.notes → AllRings setting words nic apps → AllRings setting words' nic apps
rings-words setting words words' nic apps refills notes rings a app here =
    let all = rings a app here in record { refills = rw refills all.refills; notes = rw notes all.notes; left = rw notes all.left }

-- the card's side changed, but not what it dealt with or sent, nor what it has seen of slots
pub rings-card : (setting : Setting) (words : Words) (nic now : NicSide) (apps : List AppSide) → now.view.dealt ≡ nic.view.dealt
    → now.inside.refill_slots ≡ nic.inside.refill_slots → now.view.sent ≡ nic.view.sent → now.inside.note_slots ≡ nic.inside.note_slots
    → AllRings setting words nic apps → AllRings setting words now apps
rings-card setting words nic now apps dealt refills sent notes rings a app here =
    let all = rings a app here in
    record { refills = rw (dealt, refills) all.refills; notes = rw (sent, notes) all.notes; left = rw (sent, notes) all.left }

-- what holds of the rings of the others, and of this one, holds of all
pub rings-others : (setting : Setting) (words : Words) (nic : NicSide) (apps : List AppSide) (a : ℕ) (app now : AppSide) → IsApp apps a app
    → AreRings setting words nic now
    → ((k : ℕ) (x : AppSide) → IsApp apps k x → k ≢ a → AreRings setting words nic x) → AllRings setting words nic (set apps a now)
rings-others setting words nic apps a app now here mine others k x is =
    ⊎_elim
    (λ t. let e : k ≡ a = t.1 in
    let found : x ≡ now = sym is.is ∙ (ap (λ n. get_or (set apps a now) n x) e ∙ get_or-set_same apps a now x here.there) in
    subst (AreRings setting words nic) (sym found) mine)
    (λ t. let ne : k ≢ a = t.1 in
    others k x (record {
      there = omega (arith, is.there, length-set apps a now);
      is = sym (get_or-set_other apps a k now x ne) ∙ is.is;
      number = is.number;
    }) ne)
    (eqb_tells k a)

-- an application's side changed, but not what it wrote or took, nor what it has seen of its slots
pub rings-app : (setting : Setting) (words : Words) (nic : NicSide) (apps : List AppSide) (a : ℕ) (app now : AppSide) → IsApp apps a app
    → now.view.app ≡ app.view.app → now.view.written ≡ app.view.written → now.inside.refill_slot ≡ app.inside.refill_slot
    → now.inside.free_slots ≡ app.inside.free_slots → now.inside.raw_slot ≡ app.inside.raw_slot → now.view.taken ≡ app.view.taken
    → now.inside.note_slot ≡ app.inside.note_slot
    → AllRings setting words nic apps → AllRings setting words nic (set apps a now)
rings-app setting words nic apps a app now here number written slot free raw taken note rings =
    let all = rings a app here in
    rings-others setting words nic apps a app now here
    (record {
      refills = rw (number, written, slot, free, raw) all.refills;
      notes = rw (number, taken, note) all.notes;
      left = rw (number, taken) all.left;
    })
    (λ k x is ne. rings k x is)
