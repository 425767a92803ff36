-- A loan's text is what was sent with its note, which later notes don't change, and both boards show it.
use Rattle.std.proofs.Common.{◌≡◌, ℕ, zero, suc, ◌<◌, List, [], ◌∷◌, ◌++◌, length, take, drop, get_or, refl, ap, sym, ◌∙◌, subst, arith, ⊎_elim}
use Rattle.std.proofs.lemmas.{Bool.{cases_lt}, List.Elements.{All-contains}}
use Rattle.board_face.specs.{Holders.{sent_to}, Shown.{IsShown, AppIsShown, bytes_sent, origin_bytes, text_of, owed_loans}, Sides.{IsApp}}
use Rattle.board_face.specs.declared.views.{nic.SentNote.{SentNote}, app.{Origin.{Origin, TheVariants.{Note as of_note, Copied as of_copy}}, LentPiece.{LentPiece}}}
use Rattle.board_face.{specs.declared.views.app.AppSide.{AppSide}, proofs.RelayLemmas.{bytes_sent-past, take-drop-none}}
use Rattle.plain_board.specs.{Stand.{Stand, byte_of}, Sound.{IsSound}, Lent.{IsLent, LentTextsStand}}

bytes_sent-more : (k : ℕ) (notes more : List SentNote) → k < length notes → bytes_sent k (notes ++ more) ≡ bytes_sent k notes
bytes_sent-more k [] more within = absurd (omega arith)
bytes_sent-more zero (n ∷ notes) more within = refl
bytes_sent-more (suc k) (n ∷ notes) more within = bytes_sent-more k notes more (omega arith)

-- bytes that were sent are the same however many notes follow
origin-more : (notes more : List SentNote) (o : Origin) (n : ℕ) → length (origin_bytes notes o n) ≡ n → 0 < n
    → origin_bytes (notes ++ more) o n ≡ origin_bytes notes o n
origin-more notes more (of_copy text) n whole some = refl
origin-more notes more (of_note k at) n whole some =
    ⊎_elim
    (λ within. ap (λ text. take n (drop at text)) (bytes_sent-more k notes more within))
    (λ past. absurd (
    let none : origin_bytes notes (of_note k at) n ≡ [] = ap (λ text. take n (drop at text)) (bytes_sent-past k notes past) ∙ take-drop-none n at in
    omega (arith, ap length none, whole, some)))
    (cases_lt k (length notes))

-- a loan that is out or owed is shown
lent-shown : (board : Stand) (a : ℕ) (app : AppSide) (l : LentPiece) → IsSound board → IsApp board.apps a app → IsLent board.nic app l
    → IsShown (byte_of board.arrays) l.place (text_of board.nic app l.origin l.place)
lent-shown board a app l sound here lent =
    let shown : AppIsShown (byte_of board.arrays) board.nic app = subst (AppIsShown (byte_of board.arrays) board.nic) here.is
    (sound.shown.apps a app here.there) in
    ⊎_elim
    (λ out. All-contains (λ m. IsShown (byte_of board.arrays) m.place (text_of board.nic app m.origin m.place)) app.view.loans l shown.loans out)
    (λ owed. All-contains (λ m. IsShown (byte_of board.arrays) m.place (text_of board.nic app m.origin m.place)) (owed_loans l.place.buffer board.nic app) l
    (shown.owed l.place.buffer) owed)
    lent

pub texts-stand : LentTextsStand
texts-stand old new sound later a was now here there front l lent still i within =
    let one = lent-shown old a was l sound here lent in
    let two = lent-shown new a now l later there still in
    let mine : sent_to was.view.app old.nic ≡ sent_to a old.nic = ap (λ n. sent_to n old.nic) here.number in
    let its : sent_to now.view.app new.nic ≡ sent_to a new.nic = ap (λ n. sent_to n new.nic) there.number in
    let whole : length (origin_bytes (sent_to a old.nic) l.origin l.place.len) ≡ l.place.len = rw mine at one.len in
    let same : text_of new.nic now l.origin l.place ≡ text_of old.nic was l.origin l.place =
    ap (λ notes. origin_bytes notes l.origin l.place.len) (its ∙ front.parts)
    ∙ (origin-more (sent_to a old.nic) front.more l.origin l.place.len whole (omega arith)
    ∙ ap (λ notes. origin_bytes notes l.origin l.place.len) (sym mine)) in
    two.bytes i within ∙ (ap (λ text. get_or text i 0) same ∙ sym (one.bytes i within))
