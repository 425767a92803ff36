-- An entry of a loan is written behind all that are on their way: it names the loan's buffer, and nothing before it changes.
use Rattle.std.proofs.{Common.{◌≡◌, ℕ, ◌<◌, ◌≤◌, List, [], ◌∷◌, ◌++◌, length, drop, refl, ap, sym, ◌∙◌, arith, length-append}, lemmas.List.{length-map}}
use Rattle.circular_buffer.specs.Buffer.{buffer}
use Rattle.zr_kinds.specs.declared.ring.Rqe.{Rqe}
use Rattle.board_face.specs.{Relay.{Relayed, dealt_entries}, Sides.{IsApp}, Looks.{AppTold}, AppEvents.{app_saw, app_gist}}
use Rattle.board_face.specs.declared.views.{app.{AppLook.TheVariants.{RefillInUse}, TakenNote.{TakenNote}, WrittenEntry.{WrittenEntry}}, nic.NicSide.{NicSide}}
use Rattle.board_face.{specs.declared.views.app.AppSide.{AppSide}, proofs.{LookLemmas.{AppTold-one}, WrittenLemmas.{way-written}}}
use Rattle.board_parts.specs.Rings.{ring_in}
use Rattle.plain_board.{specs.{Stand.{Stand, others_of}, Seen.{IsSeenBy}, Sound.{IsSound}}, proofs.AppFrames.{has-setting, was-relayed}}
use Rattle.plain_board.{specs.Returns.{entries_on_way, reach_of, IsOfLoan}, proofs.Dealing.{entries-relayed}}

-- ---- what is on its way

-- no more entries were dealt with than were written
pub dealt-within : (nic : NicSide) (x : AppSide) (ns : List TakenNote) (es : List Rqe) → Relayed nic x ns es
    → length (dealt_entries x.view.app nic) ≤ length x.view.written
dealt-within nic x ns es relayed = omega (
  arith,
  ap length relayed.entries,
  length-append (dealt_entries x.view.app nic) es,
  length-map x.view.written (λ (w : WrittenEntry). w.entry),
)

pub way-many : (nic : NicSide) (x : AppSide) (ns : List TakenNote) (es : List Rqe) → Relayed nic x ns es → length (entries_on_way nic x) ≡ length es
way-many nic x ns es relayed = sym (length-map (entries_on_way nic x) (λ (w : WrittenEntry). w.entry)) ∙ ap length (entries-relayed nic x ns es relayed)

-- an entry that is written is the last on its way
pub way-longer : (nic : NicSide) (x : AppSide) (ns : List TakenNote) (es : List Rqe) (w : WrittenEntry) → Relayed nic x ns es
    → drop (length (dealt_entries x.view.app nic)) (x.view.written ++ w ∷ []) ≡ entries_on_way nic x ++ w ∷ []
way-longer nic x ns es w relayed = way-written nic x (dealt-within nic x ns es relayed) w

-- ---- how far back the last raw entry lies

pub reach-longer : (ws : List WrittenEntry) (w : WrittenEntry) → IsOfLoan w → reach_of (ws ++ w ∷ []) ≡ reach_of ws
reach-longer [] w of_loan = rw of_loan refl
reach-longer (v ∷ ws) w of_loan = rw (reach-longer ws w of_loan) refl

-- ---- where the ring is full

-- as many entries are on their way as the ring has slots
pub told-in_use : (board : Stand) (a : ℕ) (x : AppSide) → IsSound board → IsApp board.apps a x
    → (ring_in board.arrays.refills a).capacity ≤ length (ring_in board.arrays.refills a).items
    → AppTold (λ look. IsSeenBy look (app_gist x.view) (others_of board a)) x.view (app_saw x.view RefillInUse)
told-in_use board a x sound here full =
    let there : a < length board.arrays.refills = let many = sound.set.many in let t = here.there in omega (arith, sound.sizes.refills) in
    let room = (sound.relayed.refills a (buffer [] 0) there).slots in
    let places = ap (λ s. s.places) (has-setting board a x x sound here) in
    AppTold-one (λ look. IsSeenBy look (app_gist x.view) (others_of board a)) x.view (app_saw x.view RefillInUse) RefillInUse refl
    (omega (arith, full, room, places, way-many board.nic x _ _ (was-relayed board a x x sound here)))
