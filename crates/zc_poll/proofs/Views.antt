-- What steps do to a view, one after another.
use Rattle.std.proofs.Common.{◌≡◌, List, [], ◌∷◌, length, ◌++◌, refl, sym, ap, subst, ◌∙◌, arith, append_assoc, append-nil}
use Rattle.board_face.specs.{AppEvents.{app_saw, told_end}, Looks.{AppLooksStay, AppRose}, declared.views.app.AppLook.{AppLook, TheVariants.{CardEnded}}}
use Rattle.board_face.specs.declared.views.app.{TakenNote.{TakenNote}, AppView.{AppView}}
use Rattle.flow_queues.{specs.Core.{total}, proofs.Looks.{looks-same, looks-more}}
use Rattle.zc_poll.specs.Steps.{OnlySteps}

pub total-one : {A : Type 0} (xs : List A) → total (λ _. 1) xs ≡ length xs
total-one [] = refl
total-one (x ∷ xs) = omega (arith, total-one xs)

abbrev with_steps : AppView → AppView → AppView
with_steps old x = record old {
  settled = x.settled;
  ended = x.ended;
  spares = x.spares;
  picked = x.picked;
  helds = x.helds;
  loans = x.loans;
  taken = x.taken;
  looks = x.looks;
}

-- the view is the old one but for what steps change
pub is-with : (old new x : AppView) → new ≡ x → x ≡ with_steps old x → new ≡ with_steps old new
is-with old new x e same = subst (λ (y : AppView). y ≡ with_steps old y) (sym e) same

pub only-none : (v : AppView) → OnlySteps v v
only-none v = record { view = refl; more = []; taken = sym (append-nil v.taken); looks = looks-same v v refl }

pub only-then : (u v w : AppView) → OnlySteps u v → OnlySteps v w → OnlySteps u w
only-then u v w first second = record {
  view = is-with u w (with_steps v w) second.view (ap (λ (x : AppView). with_steps x w) first.view);
  more = first.more ++ second.more;
  taken = second.taken ∙ ap (λ ts. ts ++ second.more) first.taken ∙ append_assoc u.taken first.more second.more;
  looks = record { later = λ look. omega (arith, first.looks.later look, second.looks.later look) };
}

-- of a look
pub only-saw : (old new : AppView) (look : AppLook) → new ≡ app_saw old look → OnlySteps old new
only-saw old new look e = record {
  view = is-with old new (app_saw old look) e refl;
  more = [];
  taken = ap (λ (v : AppView). v.taken) e ∙ sym (append-nil old.taken);
  looks = looks-more old new look (ap (λ (v : AppView). v.looks) e);
}

pub only-ended : (old new : AppView) → new ≡ told_end old → OnlySteps old new
only-ended old new e = record {
  view = is-with old new (told_end old) e refl;
  more = [];
  taken = ap (λ (v : AppView). v.taken) e ∙ sym (append-nil old.taken);
  looks = looks-more old new CardEnded (ap (λ (v : AppView). v.looks) e);
}

-- of a note
pub only-noted : (old new : AppView) (t : TakenNote) → new ≡ record old { taken = old.taken ++ t ∷ []; helds = new.helds } → OnlySteps old new
only-noted old new t e = record {
  view = is-with old new (record old { taken = old.taken ++ t ∷ []; helds = new.helds }) e refl;
  more = t ∷ [];
  taken = ap (λ (v : AppView). v.taken) e;
  looks = looks-same old new (ap (λ (v : AppView). v.looks) e);
}

-- of pieces that were given up
pub only-released : (old new : AppView) → new ≡ record old { helds = [] } → OnlySteps old new
only-released old new e = record {
  view = is-with old new (record old { helds = [] }) e refl;
  more = [];
  taken = ap (λ (v : AppView). v.taken) e ∙ sym (append-nil old.taken);
  looks = looks-same old new (ap (λ (v : AppView). v.looks) e);
}

pub rose-then : (look : AppLook) (u v w : AppView) → AppLooksStay u v → AppRose look v w → AppRose look u w
rose-then look u v w first second = record { rose = omega (arith, first.later look, second.rose) }
