-- What was seen stays seen.
use Rattle.std.proofs.Common.{◌≡◌, ◌∷◌, ap, arith}
use Rattle.board_face.specs.{Looks.{AppLooksStay, app_looks, times, same_app_look}, declared.views.app.{AppLook.{AppLook}, AppView.{AppView}}}

pub looks-same : (old new : AppView) → new.looks ≡ old.looks → AppLooksStay old new
looks-same old new same = record {
  later = λ look. (let e : app_looks new look
      ≡ app_looks old look = ap (times same_app_look look) same in omega (arith, e));
}

pub looks-more : (old new : AppView) (seen : AppLook) → new.looks ≡ seen ∷ old.looks → AppLooksStay old new
looks-more old new seen more = record {
  later = λ look. (let e : app_looks new look
      ≡ times same_app_look look (seen ∷ old.looks) = ap (times same_app_look look) more in omega (arith, e));
}
