-- The entries that gave loans back, as more loans go.
use Rattle.std.proofs.Common.{◌≡◌, Bool, true, false, if◌then◌else◌, List, [], ◌∷◌, ◌++◌, map, take, length, refl, sym, ap, subst, ◌∙◌, arith}
use Rattle.std.proofs.{Common.{append_assoc, length-append}, Math.Seq.{take-append_seam}, lemmas.List.{map-append, length-map}}
use Rattle.zr_kinds.specs.declared.ring.Rqe.{Rqe}
use Rattle.area_layout.specs.Layout.{Shape}
use Rattle.board_face.specs.{AppEvents.{entry_of}, declared.views.{parts.Setting.{Setting}, app.{LentPiece.{LentPiece}, WrittenEntry.{WrittenEntry}}}}
use Rattle.board_face.specs.declared.views.app.AppView.{AppView}
use Rattle.flow_queues.specs.{Core.{total}, Entries.{loans_of, GivesAll}, Totals.{loan_entries}}

pub loans-append : (xs ys : List WrittenEntry) → loans_of (xs ++ ys) ≡ loans_of xs ++ loans_of ys
loans-append [] ys = refl
loans-append (x ∷ xs) ys =
    let one : List Rqe = if x.of_loan then x.entry ∷ [] else [] in
    ap (λ es. one ++ es) (loans-append xs ys) ∙ sym (append_assoc one (loans_of xs) (loans_of ys))

one-size : (b : Bool) (e : Rqe) → length (if b then e ∷ [] else []) ≡ (if b then 1 else 0)
one-size true e = refl
one-size false e = refl

pub loans-size : (ws : List WrittenEntry) → length (loans_of ws) ≡ total (λ w. if w.of_loan then 1 else 0) ws
loans-size [] = refl
loans-size (w ∷ ws) = length-append (if w.of_loan then w.entry ∷ [] else []) (loans_of ws)
    ∙ omega (arith, one-size w.of_loan w.entry, loans-size ws)

abbrev pub entries_of : Shape → List LentPiece → List Rqe
entries_of layout loans = map (λ l. entry_of layout l.place) loans

pub gives-same : (old new : AppView) (loans : List LentPiece) → new.written ≡ old.written → new.setting ≡ old.setting → GivesAll old loans
    → GivesAll new loans
gives-same old new loans written setting gives = ap loans_of written ∙ gives ∙ ap (λ (s : Setting). entries_of s.layout loans) (sym setting)

-- a loan was given back
pub gives-gave : (old new : AppView) (x : LentPiece)
    → new.written ≡ old.written ++ record { entry = entry_of old.setting.layout x.place; of_loan = true } ∷ []
    → new.returned ≡ old.returned ++ x ∷ [] → new.setting ≡ old.setting → GivesAll old old.returned → GivesAll new new.returned
gives-gave old new x written returned setting gives =
    let e : Rqe = entry_of old.setting.layout x.place in
    ap loans_of written ∙ loans-append old.written (record { entry = e; of_loan = true } ∷ []) ∙ ap (λ es. es ++ e ∷ []) gives
    ∙ sym (map-append (λ (l : LentPiece). entry_of old.setting.layout l.place) old.returned (x ∷ []))
    ∙ ap (entries_of old.setting.layout) (sym returned) ∙ ap (λ (s : Setting). entries_of s.layout new.returned) (sym setting)

pub gives-count : (v : AppView) (loans : List LentPiece) → GivesAll v loans → loan_entries v ≡ length loans
gives-count v loans gives = sym (loans-size v.written) ∙ ap length gives ∙ length-map loans (λ (l : LentPiece). entry_of v.setting.layout l.place)

-- once the others are abandoned, those of entries are those that it didn't have any more before
pub front-gone : (old new : AppView) (more : List LentPiece) → new.written ≡ old.written → new.setting ≡ old.setting
    → new.returned ≡ old.returned ++ more → GivesAll old old.returned → take (loan_entries new) new.returned ≡ old.returned
front-gone old new more written setting returned gives =
    ap (λ n. take n new.returned) (gives-count new old.returned (gives-same old new old.returned written setting gives))
    ∙ ap (take (length old.returned)) returned ∙ take-append_seam old.returned more

pub gives-gone : (old new : AppView) (more : List LentPiece) → new.written ≡ old.written → new.setting ≡ old.setting
    → new.returned ≡ old.returned ++ more
    → GivesAll old old.returned → GivesAll new (take (loan_entries new) new.returned)
gives-gone old new more written setting returned gives = subst (GivesAll new) (sym (front-gone old new more written setting returned gives))
    (gives-same old new old.returned written setting gives)

pub fresh_given : (v : AppView) → v.written ≡ [] → v.returned ≡ [] → GivesAll v v.returned
fresh_given v written returned = ap loans_of written ∙ ap (entries_of v.setting.layout) (sym returned)

pub fresh_front : (v : AppView) → v.written ≡ [] → v.returned ≡ [] → GivesAll v (take (loan_entries v) v.returned)
fresh_front v written returned =
    let count : loan_entries v ≡ 0 = ap (λ ws. total (λ (w : WrittenEntry). if w.of_loan then 1 else 0) ws) written in
    ap loans_of written ∙ ap (λ n. entries_of v.setting.layout (take n v.returned)) (sym count)
