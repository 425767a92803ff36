-- What stands in the slots, where each role has the lines out that it had.
use Rattle.std.{proofs.Common.{◌≡◌, ℕ, ◌<◌, false, List, length, set, get_or, ap, sym, ◌∙◌, arith, subst, ⊎_elim}, proofs.lemmas.Bool.Decides.{eqb_tells}}
use Rattle.std.proofs.lemmas.List.{get_or_default, get_or-set_same, get_or-set_other, length-set}
use mathlib.Core.Option.{Option}
use Rattle.board_face.specs.{Sides.{IsApp}, declared.views.{parts.Setting.{Setting}, nic.NicSide.{NicSide}, app.AppSide.{AppSide}}}
use Rattle.ref_words.specs.{Homes.{StandInSlots}, Lines.{has_out}}

pub stand-card : (setting : Setting) (area : List (List ℕ)) (nic now : NicSide) (apps : List AppSide) (homes : List (Option (List ℕ)))
    → now.inside.making ≡ nic.inside.making → StandInSlots setting area nic apps homes → StandInSlots setting area now apps homes
stand-card setting area nic now apps homes same slots = record {
  many = slots.many;
  stand = λ k within home. slots.stand k within (record {
    card = subst (λ m. has_out setting.layout k m ≡ false) same home.card;
    others = home.others;
  });
}

pub stand-app : (setting : Setting) (area : List (List ℕ)) (nic : NicSide) (apps : List AppSide) (homes : List (Option (List ℕ))) (a : ℕ) (app now : AppSide)
    → IsApp apps a app → now.inside.making ≡ app.inside.making → StandInSlots setting area nic apps homes
    → StandInSlots setting area nic (set apps a now) homes
stand-app setting area nic apps homes a app now here same slots = record {
  many = slots.many;
  stand = λ k within home. slots.stand k within (record {
    card = home.card;
    others = λ j d inside. subst (λ m. has_out setting.layout k m ≡ false) (makings j d inside) (home.others j d (omega (arith, inside, length-set apps a now)));
  });
}
  where
    -- what each has out is as before
    makings : (j : ℕ) (d : AppSide) → j < length apps → (get_or (set apps a now) j d).inside.making ≡ (get_or apps j d).inside.making
    makings j d inside = ⊎_elim
        (λ t. let e : get_or apps j d ≡ app = ap (λ x. get_or apps x d) t.1 ∙ (get_or_default apps a d app here.there ∙ here.is) in
        ap (λ (x : AppSide). x.inside.making) (ap (λ x. get_or (set apps a now) x d) t.1 ∙ get_or-set_same apps a now d here.there)
        ∙ (same ∙ ap (λ (x : AppSide). x.inside.making) (sym e)))
        (λ t. ap (λ (x : AppSide). x.inside.making) (get_or-set_other apps a j now d t.1))
        (eqb_tells j a)
