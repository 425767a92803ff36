use Rattle.std.proofs.{Common.{◌≡◌, ⊎_elim, arith, ap}, lemmas.Bool.{cases_lt}}
use Rattle.ref_words.{specs.Words.{group_sizes, begins}, proofs.Laying.{begins-apart}}
use Rattle.ref_words.proofs.laws.words.groups_are_apart.Goals as goal

pub returns : goal.returns
returns c setting g h i j in_g in_h e =
    let sizes = group_sizes setting in
    ⊎_elim
    (λ less. absurd (omega (arith, e, begins-apart sizes g h i j less in_g)))
    (λ no_less.
    ⊎_elim
    (λ more. absurd (omega (arith, e, begins-apart sizes h g j i more in_h)))
    (λ no_more.
    let same : g ≡ h = omega arith in
    (same, omega (arith, e, ap (begins sizes) same)))
    (cases_lt h g))
    (cases_lt g h)
