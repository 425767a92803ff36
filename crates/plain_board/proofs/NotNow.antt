-- What an answer 'not now' implies of the role's own view, by what was seen.
use Rattle.std.proofs.Common.{◌≡◌, ℕ, ◌<◌, ◌≤◌, Bool, true, false, List, [], ◌∷◌, length, drop, get_or, refl, ap, sym, ◌∙◌, arith, ⊎_elim, length-drop, zero, suc}
use Rattle.std.{proofs.lemmas.List.{length-map}, specs.Prelude.{◌+◌, ◌==◌}}
use Rattle.circular_buffer.specs.Buffer.{buffer}
use Rattle.area_layout.specs.Layout.{pool_buffers, all_buffers}
use Rattle.board_face.specs.{Sides.{IsApp, side_in}, NotNow.{HasSentRingful, HasWrittenRingful, HasWritten, HasPushedRaw, HasUsedReserve}, Returns.{is_raw}}
use Rattle.board_face.specs.{Holders.{sent_to}, Counts.{pool_count}, Relay.{dealt_entries}, AppEvents.{app_gist, reserve_of}, Blank.{blank_app}}
use Rattle.board_face.{specs.declared.views.app.{LentPiece.{LentPiece}, AppSide.{AppSide}}, proofs.{Tallies.{tally}, Parts.{count-tally}, SideLemmas.{IsApp-at}}}
use Rattle.board_face.proofs.RelayLemmas.{way-taken}
use Rattle.board_parts.specs.{Rings.{ring_in}, Free.{IsPicked}}
use Rattle.plain_board.specs.{Stand.{Stand, others_of}, Sound.{IsSound, notes_of, refills_of}, Returns.{entries_on_way}, Seen.{IsFoundLowest}}
use Rattle.plain_board.proofs.{AppFrames.{has-setting, was-phased, was-relayed}, Reserves.{own-users, reserve-own}, OwnSide.{unlisted-cached, listed-free}}
use Rattle.plain_board.proofs.{Sparing.{is_unheld}, Settling.{reach-some, is-some}, Quieting.{entries-many}, Writing.{way-many}}

-- ---- refill entries: those on their way were written

pub count-drop : {A : Type 0} (test : A → Bool) (k : ℕ) (xs : List A) → tally test (drop k xs) ≤ tally test xs
count-drop test zero xs = omega arith
count-drop test (suc k) [] = omega arith
count-drop test (suc k) (x ∷ xs) = omega (arith, count-drop test k xs)

module _ (board : Stand) (a : ℕ) (x : AppSide) (sound : IsSound board) (here : IsApp board.apps a x) where
  pub full-written : (ring_in board.arrays.refills a).capacity ≤ length (ring_in board.arrays.refills a).items → HasWrittenRingful x.view
  full-written full =
      let there : a < length board.arrays.refills = let many = sound.set.many in let t = here.there in omega (arith, sound.sizes.refills) in
      let room = (sound.relayed.refills a (buffer [] 0) there).slots in
      let places = ap (λ s. s.places) (has-setting board a x x sound here) in
      let way = way-many board.nic x _ _ (was-relayed board a x x sound here) in
      omega (arith, full, room, places, way, length-drop (length (dealt_entries x.view.app board.nic)) x.view.written)

  pub raw-pushed : (get_or board.arrays.raw a 0 == 0) ≡ false → HasPushedRaw x.view
  raw-pushed some =
      let k = length (dealt_entries x.view.app board.nic) in
      omega (
        arith,
        reach-some (entries_on_way board.nic x) (omega (arith, sound.booked.raw a x here, is-some (get_or board.arrays.raw a 0) some)),
        count-drop is_raw k x.view.written,
        count-tally is_raw x.view.written,
        count-tally is_raw (drop k x.view.written),
      )

  pub some-written : (length (refills_of board.arrays a) == 0) ≡ false → HasWritten x.view
  some-written some =
      let many = entries-many board.nic x _ _ (sound.relayed.relayed a x here) in
      omega (arith, many, is-some (length (refills_of board.arrays a)) some, length-drop (length (dealt_entries x.view.app board.nic)) x.view.written)

-- ---- notes on their way were sent

pub full-sent : (board : Stand) (a : ℕ) → IsSound board → a < length board.apps
    → (get_or board.arrays.notes a (buffer [] 0)).capacity ≤ length (notes_of board.arrays a) → HasSentRingful board.nic.view a
full-sent board a sound there full =
    let app = side_in board.apps a in
    let here = IsApp-at board.apps a blank_app sound.set.numbers there in
    let way = ap length (way-taken board.nic app _ _ (sound.relayed.relayed a app here)) in
    let room = (sound.relayed.notes a (buffer [] 0) (let many = sound.set.many in let size = sound.sizes.notes in omega arith)).slots in
    let places = ap (λ s. s.places) sound.set.card in
    let sent = ap (λ n. length (sent_to n board.nic)) here.number in
    omega (arith, full, room, places, simp length-map at way, length-drop (length app.view.taken) (sent_to app.view.app board.nic), sent)

module _ (board : Stand) (a : ℕ) (x : AppSide) (sound : IsSound board) (here : IsApp board.apps a x) where
  -- one that was told the end sees that the card has ended
  pub untold : board.arrays.ended ≡ false → (told : Bool) → x.view.ended ≡ told → told ≡ false
  untold going true is =
      let over = ((was-phased board a x x sound here).ended is).0 in
      absurd (let no : true ≡ false = sym over ∙ (sym sound.flags.ended ∙ going) in cc)
  untold going false is = refl

  -- ---- spares

  -- The reserve's holders are the application's.
  pub used-reserve : 0 < get_or board.arrays.pool (pool_buffers board.arrays.layout + a) 0 → HasUsedReserve x.view
  used-reserve held =
      let mine = has-setting board a x x sound here in
      let reserve : reserve_of x.view ≡ pool_buffers board.arrays.layout + a = omega (arith, ap (λ s. pool_buffers s.layout) mine, here.number) in
      let inside : pool_buffers board.arrays.layout + a < all_buffers board.arrays.layout = let many = sound.set.many in let h = here.there in omega arith in
      omega (
        arith,
        held,
        sound.counted.pool _ inside,
        ap (λ n. pool_count n board.nic board.apps) reserve,
        reserve-own board a x sound here,
        own-users board a x sound here (reserve_of x.view),
        count-tally (λ (l : LentPiece). l.place.buffer == reserve_of x.view) x.view.loans,
        count-tally (λ (l : LentPiece). l.place.buffer == reserve_of x.view) x.view.returned,
      )

  pub found-lowest : (buffer : ℕ) (listed : List Bool) → IsPicked board.arrays.listed listed board.arrays.pool (pool_buffers board.arrays.layout + a) buffer
      → IsFoundLowest buffer (app_gist x.view) (others_of board a)
  found-lowest buffer listed picked =
      let mine : pool_buffers x.view.setting.layout ≡ pool_buffers board.arrays.layout = ap (λ s. pool_buffers s.layout) (has-setting board a x x sound here) in
      let unheld = is_unheld board a buffer x listed sound here picked in
      ⊎_elim
      (λ t. record {
        listed = λ within. listed-free board a x sound here buffer within t.0.is_listed unheld.none;
        none_lower = λ b lower within free. unlisted-cached board a x sound here b within (t.0.lowest b lower) free;
      })
      (λ t. record {
        listed = λ within. absurd (let r = t.0 in omega (arith, mine));
        none_lower = λ b lower within free. unlisted-cached board a x sound here b within (t.1 b) free;
      })
      picked.which
