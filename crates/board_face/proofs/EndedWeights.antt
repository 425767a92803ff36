-- What is owed in a buffer and what is returning there are two stretches of the loans that came back, one behind the other.
use Rattle.std.{proofs.{Common.{◌∙◌, ⊎_elim}, lemmas.Bool.Decides.{eqb_tells}}, specs.Prelude.{if◌then◌else◌}}
use Rattle.board_face.{specs.Holdings.{here}, proofs.Tallies.{total, total-append}}
use Rattle.std.proofs.{Common.{◌≡◌, ℕ, ◌+◌, ◌-◌, ◌≤◌, List, take, drop, ap, arith}, lemmas.List.{drop-drop, take-append-drop}, Math.Seq.{take-add}}
use Rattle.zr_kinds.specs.declared.place.Place.{Place}

-- what they weigh, where h of the loans were ended and r of these are returning
abbrev pub stretch : (Place → ℕ) → (Place → ℕ) → ℕ → ℕ → List Place → ℕ
stretch f g h r ps = total f (drop h ps) + total g (take r (drop (h - r) ps))

parts : (f : Place → ℕ) (k : ℕ) (ps : List Place) → total f (take k ps) + total f (drop k ps) ≡ total f ps
parts f k ps = omega (arith, total-append f (take k ps) (drop k ps), ap (total f) (take-append-drop k ps))

-- k more are returning, that were owed
pub owed-less : (f g : Place → ℕ) (k h r : ℕ) (ps : List Place) → r ≤ h
    → stretch f g (h + k) (r + k) ps + total f (take k (drop h ps)) ≡ stretch f g h r ps + total g (take k (drop h ps))
owed-less f g k h r ps small =
    let from : h + k - (r + k) ≡ h - r = omega arith in
    let at : h - r + r ≡ h = omega arith in
    omega (
      arith,
      parts f k (drop h ps),
      ap (total f) (drop-drop k h ps),
      ap (λ n. total g (take (r + k) (drop n ps))) from,
      ap (total g) (take-add r k (drop (h - r) ps)),
      total-append g (take r (drop (h - r) ps)) (take k (drop r (drop (h - r) ps))),
      ap (λ qs. total g (take k qs)) (drop-drop r (h - r) ps),
      ap (λ n. total g (take k (drop n ps))) at,
    )

-- the first k of those that were returning ended
pub returning-less : (f g : Place → ℕ) (k h r : ℕ) (ps : List Place) → k + r ≤ h
    → stretch f g h r ps + total g (take k (drop (h - (k + r)) ps)) ≡ stretch f g h (k + r) ps
returning-less f g k h r ps small =
    let from : h - (k + r) + k ≡ h - r = omega arith in
    omega (
      arith,
      ap (total g) (take-add k r (drop (h - (k + r)) ps)),
      total-append g (take k (drop (h - (k + r)) ps)) (take r (drop k (drop (h - (k + r)) ps))),
      ap (λ qs. total g (take r qs)) (drop-drop k (h - (k + r)) ps),
      ap (λ n. total g (take r (drop n ps))) from,
    )

-- ---- at one buffer, of all

module _ (f g : Place → ℕ) (b c k h r : ℕ) (ps : List Place) where
  -- k of the loans in buffer c are owed no more, but returning
  pub owed-moves : (h' r' : ℕ) → (c ≡ b → r ≤ h) → h' ≡ h + here b c k → r' ≡ r + here b c k
      → stretch f g h' r' ps + here b c (total f (take k (drop h ps))) ≡ stretch f g h r ps + here b c (total g (take k (drop h ps)))
  owed-moves h' r' small ends returns =
      let n = here b c k in
      let moved = ap (λ m. stretch f g m r' ps) ends ∙ ap (λ m. stretch f g (h + n) m ps) returns in
      ⊎_elim
      (λ t. let at : (m : ℕ) → here b c m ≡ m = λ m. ap (λ d. if d then m else 0) t.0 in
      omega (arith, moved, ap (λ m. stretch f g (h + m) (r + m) ps) (at k), owed-less f g k h r ps (small t.1), at (total f (take k (drop h ps))), at (total g (take k (drop h ps)))))
      (λ t. let at : (m : ℕ) → here b c m ≡ 0 = λ m. ap (λ d. if d then m else 0) t.0 in
      omega (arith, moved, ap (λ m. stretch f g (h + m) (r + m) ps) (at k), ap (λ m. stretch f g m (r + 0) ps) (let e : h + 0 ≡ h = omega arith in e), ap (λ m. stretch f g h m ps) (let e : r + 0 ≡ r = omega arith in e), at (total f (take k (drop h ps))), at (total g (take k (drop h ps)))))
      (eqb_tells c b)

  -- the first k of those that were returning in buffer c ended
  pub returning-moves : (r' : ℕ) → (c ≡ b → r ≤ h) → r ≡ here b c k + r'
      → stretch f g h r' ps + here b c (total g (take k (drop (h - r) ps))) ≡ stretch f g h r ps
  returning-moves r' small returns =
      ⊎_elim
      (λ t. let at : (m : ℕ) → here b c m ≡ m = λ m. ap (λ d. if d then m else 0) t.0 in
      let all : r ≡ k + r' = omega (arith, returns, at k) in
      omega (
        arith,
        ap (λ m. stretch f g h m ps) all,
        ap (λ m. total g (take k (drop (h - m) ps))) all,
        returning-less f g k h r' ps (let le = small t.1 in omega (arith, all, le)),
        at (total g (take k (drop (h - r) ps))),
      ))
      (λ t. let at : (m : ℕ) → here b c m ≡ 0 = λ m. ap (λ d. if d then m else 0) t.0 in
      omega (arith, ap (λ m. stretch f g h m ps) (let e : r' ≡ r = omega (arith, returns, at k) in e), at (total g (take k (drop (h - r) ps)))))
      (eqb_tells c b)
