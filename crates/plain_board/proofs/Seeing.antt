-- What the card sees of its board is so: a count that it reads is the number of holders, and a ring has what is on its way.
use Rattle.std.proofs.Common.{◌≡◌, ℕ, ◌-◌, ◌<◌, ◌≤◌, Bool, true, false, [], ◌∷◌, ◌++◌, length, get_or, refl, ap, sym, ◌∙◌, arith, ⊎_elim, Option, Some, None}
use Rattle.std.{specs.Prelude.{◌≢◌, ◌==◌, IfSome}, proofs.lemmas.{List.{length-map}, Bool.{cases_lt, lt-ltb, eqb-true, Decides.{eqb_tells}}}}
use Rattle.zr_kinds.{specs.declared.ring.Rqe.{Rqe}, proofs.Lists.{map-none}}
use Rattle.circular_buffer.specs.Buffer.{buffer}
use Rattle.area_layout.specs.Layout.{all_buffers, judged}
use Rattle.board_face.specs.{Judged.{fate_of}, Sides.{nic_at, side_in}, Looks.{NicTold}, NicEvents.{nic_gist, nic_saw, holder_look, shut, passed_over, looks_by_stray}}
use Rattle.board_face.specs.{Opened.{new_nic}, Counts.{pool_count, user_count}, declared.views.{parts.Filling.{Filling}, nic.Fate.TheVariants.{Honoured, Stray}}}
use Rattle.board_face.specs.declared.views.nic.{NicLook.{NicLook, TheVariants.{RingEmpty, NoteInUse, NotOwed, Owed}}, NicView.{NicView}}
use Rattle.board_face.{proofs.{FreeLemmas.{user_count-le}, LookLemmas.{NicTold-none, NicTold-one, NicTold-two}, RelayLemmas.{way-taken}}, specs.Blank.{blank_app}}
use Rattle.board_face.proofs.SideLemmas.{IsApp-at}
use Rattle.board_parts.specs.Counts.{user_at}
use Rattle.plain_board.specs.{Stand.{Arrays, Stand}, Returns.{entries_on_way}, Sound.{IsSound, notes_of, refills_of}, Seen.{card_of, IsSeenByCard, IsJudged}}
use Rattle.plain_board.proofs.{Dealing.{entries-relayed}, Honouring.{honoured_if}}

module _ (board : Stand) (sound : IsSound board) where
  -- what is said of each look whose count rose
  abbrev pub IsSo : NicLook → Type 0
  IsSo look = IsSeenByCard look (nic_gist board.nic.view) board.apps

  -- the card is in the middle of nothing
  rests : (new_nic board.nic.view.setting).inside ≡ board.nic.inside
  rests = ap (λ s. (new_nic s).inside) sound.set.card ∙ sym sound.set.card_rest

  pub seen-pool : (b : ℕ) → pool_count b (card_of (nic_gist board.nic.view)) board.apps ≡ pool_count b board.nic board.apps
  seen-pool b = ap (λ inside. pool_count b (record { view = board.nic.view; inside = inside }) board.apps) rests

  pub seen-users : (a b : ℕ) → user_count a b (card_of (nic_gist board.nic.view)) board.apps ≡ user_count a b board.nic board.apps
  seen-users a b = ap (λ inside. user_count a b (record { view = board.nic.view; inside = inside }) board.apps) rests

  -- ---- counts

  pub IsSo-holder : (last : Bool) (b n : ℕ) → b < all_buffers board.arrays.layout → 0 < get_or board.arrays.pool b 0 → n ≡ get_or board.arrays.pool b 0 - 1
      → last ≡ (n == 0) → IsSo (holder_look last b)
  IsSo-holder true b n within some many is = let none = eqb-true n 0 (sym is) in omega (arith, seen-pool b, sound.counted.pool b within)
  IsSo-holder false b n within some many is =
      ⊎_elim
      (λ t. absurd (let both : true ≡ false = sym t.0 ∙ sym is in let none : ⊥ = cc in none))
      (λ t. let ne : n ≢ 0 = t.1 in omega (arith, seen-pool b, sound.counted.pool b within))
      (eqb_tells n 0)

  pub NicTold-shut : (own : Filling) (n : ℕ) → own.buffer < all_buffers board.arrays.layout → 0 < get_or board.arrays.pool own.buffer 0
      → n ≡ get_or board.arrays.pool own.buffer 0 - 1 → NicTold IsSo board.nic.view (shut board.nic.view own (n == 0))
  NicTold-shut own n within some many = NicTold-one IsSo board.nic.view (shut board.nic.view own (n == 0)) (holder_look (n == 0) own.buffer) refl
      (IsSo-holder (n == 0) own.buffer n within some many refl)

  pub NicTold-honoured : (a i n : ℕ) (e : Rqe) → a < length board.apps → i < all_buffers board.arrays.layout
      → 0 < get_or board.arrays.users (user_at board.arrays.layout a i) 0 → 0 < get_or board.arrays.pool i 0 → n ≡ get_or board.arrays.pool i 0 - 1
      → NicTold IsSo board.nic.view (honoured_if board.nic.view a e i (n == 0))
  NicTold-honoured a i n e there within owed some many =
      NicTold-two IsSo board.nic.view (honoured_if board.nic.view a e i (n == 0)) (holder_look (n == 0) i) (Owed a i) refl
      (IsSo-holder (n == 0) i n within some many refl)
      (omega (arith, seen-users a i, sound.counted.users a i there within))

  -- ---- an entry of which nothing is owed

  unowed : (a i : ℕ) → a < length board.apps → get_or board.arrays.users (user_at board.arrays.layout a i) 0 ≡ 0 → IsSo (NotOwed a i)
  unowed a i there none =
      ⊎_elim
      (λ within. omega (arith, seen-users a i, sound.counted.users a i there within))
      (λ past. omega (arith, seen-users a i, user_count-le a i board.nic board.apps, sound.counted.beyond i past))
      (cases_lt i (all_buffers board.arrays.layout))

  stray-case : (a : ℕ) (v : NicView) (o : Option ℕ) → a < length board.apps → v.looks ≡ looks_by_stray o a board.nic.view.looks
      → IfSome o (λ i. get_or board.arrays.users (user_at board.arrays.layout a i) 0 ≡ 0) → NicTold IsSo board.nic.view v
  stray-case a v None there looks none = NicTold-none IsSo board.nic.view v looks
  stray-case a v (Some i) there looks none = NicTold-one IsSo board.nic.view v (NotOwed a i) looks (unowed a i there none)

  pub NicTold-passed_over : (a : ℕ) (e : Rqe) → a < length board.apps
      → IfSome (judged board.arrays.layout e) (λ i. get_or board.arrays.users (user_at board.arrays.layout a i) 0 ≡ 0)
      → NicTold IsSo board.nic.view (passed_over board.nic.view a e)
  NicTold-passed_over a e there none =
      stray-case a (passed_over board.nic.view a e) (judged board.arrays.layout e) there
      (ap (λ s. looks_by_stray (judged s.layout e) a board.nic.view.looks) sound.set.card) none

  -- ---- rings

  -- the ring has no entry
  pub NicTold-empty : (a : ℕ) → a < length board.apps → refills_of board.arrays a ≡ []
      → NicTold IsSo board.nic.view (nic_saw board.nic.view (RingEmpty a))
  NicTold-empty a there empty =
      let app = side_in board.apps a in
      let here = IsApp-at board.apps a blank_app sound.set.numbers there in
      let way = entries-relayed board.nic app _ (refills_of board.arrays a) (sound.relayed.relayed a app here) in
      NicTold-one IsSo board.nic.view (nic_saw board.nic.view (RingEmpty a)) (RingEmpty a) refl
      (map-none (λ w. w.entry) (entries_on_way board.nic app) (way ∙ empty))

  -- the ring has no room
  pub NicTold-full : (a : ℕ) → a < length board.apps → (get_or board.arrays.notes a (buffer [] 0)).capacity ≤ length (notes_of board.arrays a)
      → NicTold IsSo board.nic.view (nic_saw board.nic.view (NoteInUse a))
  NicTold-full a there full =
      let app = side_in board.apps a in
      let here = IsApp-at board.apps a blank_app sound.set.numbers there in
      let way = ap length (way-taken board.nic app _ _ (sound.relayed.relayed a app here)) in
      let room = (sound.relayed.notes a (buffer [] 0) (let many = sound.set.many in let size = sound.sizes.notes in omega arith)).slots in
      let places = ap (λ s. s.places) sound.set.card in
      NicTold-one IsSo board.nic.view (nic_saw board.nic.view (NoteInUse a)) (NoteInUse a) refl (omega (arith, full, room, places, simp length-map at way))

  -- ---- how an entry is judged

  fate-stray : (a : ℕ) (o : Option ℕ) (e : Rqe) → judged board.nic.view.setting.layout e ≡ o → a < length board.apps
      → IfSome o (λ i. get_or board.arrays.users (user_at board.arrays.layout a i) 0 ≡ 0)
      → fate_of board.nic.view.setting.layout (λ b. user_count a b board.nic board.apps) e ≡ Stray
  fate-stray a None e is there none = rw is refl
  fate-stray a (Some i) e is there none =
      let unowed_here : user_count a i board.nic board.apps ≡ 0 = omega (arith, unowed a i there none, seen-users a i) in
      rw (is, unowed_here) refl

  pub IsJudged-passed_over : (a : ℕ) (e : Rqe) (arr : Arrays) → a < length board.apps
      → IfSome (judged board.arrays.layout e) (λ i. get_or board.arrays.users (user_at board.arrays.layout a i) 0 ≡ 0)
      → IsJudged board (record { arrays = arr; nic = nic_at board.nic (passed_over board.nic.view a e); apps = board.apps }) a
  IsJudged-passed_over a e arr there none =
      let is = ap (λ s. judged s.layout e) sound.set.card in
      record {
        entry = e;
        dealt = ap (λ fate. board.nic.view.dealt ++ record { app = a; entry = e; fate = fate } ∷ [])
            (sym (fate-stray a (judged board.arrays.layout e) e is there none));
      }

  pub IsJudged-honoured : (a i : ℕ) (e : Rqe) (last : Bool) (arr : Arrays) → a < length board.apps → judged board.arrays.layout e ≡ Some i
      → i < all_buffers board.arrays.layout → 0 < get_or board.arrays.users (user_at board.arrays.layout a i) 0
      → IsJudged board (record { arrays = arr; nic = nic_at board.nic (honoured_if board.nic.view a e i last); apps = board.apps }) a
  IsJudged-honoured a i e last arr there named within owed =
      let is : judged board.nic.view.setting.layout e ≡ Some i = ap (λ s. judged s.layout e) sound.set.card ∙ named in
      let some : 0 < user_count a i board.nic board.apps = omega (arith, owed, sound.counted.users a i there within) in
      let fate : fate_of board.nic.view.setting.layout (λ b. user_count a b board.nic board.apps) e
      ≡ Honoured i = rw (is, lt-ltb 0 (user_count a i board.nic board.apps) some) refl in
      record { entry = e; dealt = ap (λ f. board.nic.view.dealt ++ record { app = a; entry = e; fate = f } ∷ []) (sym fate) }
