-- A text is placed: its buffer has one holder more, and the area has the text where the buffer's next bytes go.
use Rattle.std.proofs.Common.{◌≡◌, ℕ, ◌+◌, ◌^◌, ◌<◌, ◌≤◌, List, length, set, get_or, refl, ap, sym, ◌∙◌, subst, arith, ⊎_elim, inl, inr}
use Rattle.std.{specs.Prelude.{◌⊎◌, ◌==◌, if◌then◌else◌}, proofs.lemmas.List.{length-set}}
use Rattle.area_layout.{specs.Layout.{pool_buffers, all_buffers, size_of, begin_of, LiesIn}, proofs.Words.{words_apart}}
use Rattle.board_face.specs.{NicEvents.{placed}, NicCalls.{IsOpen, HasOwn}, Sides.{nic_at}, Counts.{pool_count}, FreeOnce.{free_places}}
use Rattle.board_face.{specs.declared.views.parts.Filling.{Filling}, proofs.{Tallies.{one_if}, NicLemmas.{pool_count-placed}, FreeLemmas.{free_places-nic}}}
use Rattle.board_face.proofs.{FewLemmas.{pool_count-few}, FillingsFitLemmas.{FillingsFit-own, FillingsFit-placed}, IsFilledByOneLemmas.{IsFilledByOne-placed}}
use Rattle.board_face.proofs.{OwnBufferLemmas.{LieInOwn-placed}, AreShownLemmas.{AreShown-placed}, Counting.{weight-same, weight-other}}
use Rattle.board_parts.specs.{Area.{stored}, Free.{listed_in}}
use Rattle.plain_board.{specs.{Stand.{Stand, byte_of}, Sound.{IsSound}}, proofs.{Lists.{same-or-other}, Shutting.{of_pool, is_held, used-nowhere}}}
use Rattle.plain_board.proofs.Card.{IsSet-nic, AreCounted-nic, AreRelayed-nic, AreReturns-nic, AreBooked-nic, ArePhased-open}
use Rattle.plain_board.proofs.Storing.{in_area as stored-in_area, length-stored, stored_then, byte_upto, IsShown-stored, StoresAt-last, AreShown-before}

-- a buffer that has a holder may have one more, and is free neither before nor after
once-placed : (p p' f w : ℕ) → f ≡ (if p == 0 then 1 else 0) → p' ≡ p + w → (w ≡ 0) ⊎ (0 < p) → f ≡ (if p' == 0 then 1 else 0)
once-placed p p' f w e more which =
    ⊎_elim
    (λ none. let same : p' ≡ p = omega arith in rw same e)
    (λ some. used-nowhere p f e some ∙ sym (used-nowhere p' (if p' == 0 then 1 else 0) refl (omega arith)))
    which

module _ (board : Stand) (own : Filling) (bytes : List ℕ) (sound : IsSound board) (out : HasOwn board.nic.view own)
    (fits : own.start + length bytes ≤ own.size) where
  pub inside : own.buffer < all_buffers board.arrays.layout
  inside = let p = of_pool board own sound out in omega arith

  lies : own.start + length bytes ≤ size_of board.arrays.layout own.buffer
  lies = let is = FillingsFit-own board.nic board.apps own out sound.filled in omega (arith, is.1, ap (λ s. size_of s.layout own.buffer) sound.set.card)

  pub lies-in : LiesIn board.arrays.layout (record { buffer = own.buffer; offset = own.start; len = length bytes })
  lies-in = record { buffer = inside; bytes = lies }

  pub in_area : begin_of board.arrays.layout own.buffer + own.start + length bytes ≤ length board.arrays.area
  in_area = stored-in_area board.arrays own.buffer own.start bytes sound.sizes inside lies

  -- no count wraps
  pub is_few : get_or board.arrays.pool own.buffer 0 + 1 < 2 ^ 64
  is_few =
      let few = pool_count-few own.buffer board.nic board.apps (sound.shown.places own.buffer) (sound.by_one own.buffer) in
      let most = ((words_apart board.arrays.layout sound.sizes.layout).size own.buffer).most in
      omega (arith, few, ap (λ s. size_of s.layout own.buffer) sound.set.card, most, sound.counted.pool own.buffer inside)

  more : (b : ℕ) → pool_count b (nic_at board.nic (placed board.nic.view own bytes)) board.apps
      ≡ pool_count b board.nic board.apps + one_if (own.buffer == b)
  more b = pool_count-placed b board.nic board.apps own bytes out

  holds : 0 < pool_count own.buffer board.nic board.apps
  holds = omega (arith, is_held board own sound out, sound.counted.pool own.buffer inside)

  pub IsSound-placed : IsOpen board.nic.view → 0 < length bytes → IsSound (record {
    arrays = record board.arrays {
      area = stored board.arrays.area (begin_of board.arrays.layout own.buffer + own.start) bytes;
      pool = set board.arrays.pool own.buffer (get_or board.arrays.pool own.buffer 0 + 1);
    };
    nic = nic_at board.nic (placed board.nic.view own bytes);
    apps = board.apps;
  })
  IsSound-placed running some =
      let v = placed board.nic.view own bytes in
      let layout = ap (λ s. s.layout) sound.set.card in
      record {
        sizes = assumption (
          length-stored board.arrays.area bytes (begin_of board.arrays.layout own.buffer + own.start) in_area ∙ sound.sizes.area,
          length-set board.arrays.pool own.buffer (get_or board.arrays.pool own.buffer 0 + 1) ∙ sound.sizes.pool,
          sound.sizes,
        );
        cached = sound.cached;
        set = IsSet-nic _ board.nic v board.apps refl sound.set;
        counted = AreCounted-nic board.arrays _ board.nic v board.apps own.buffer
            (get_or board.arrays.pool own.buffer 0 + 1) refl refl refl refl inside sound.sizes.pool
            (omega (arith, more own.buffer, weight-same own.buffer, sound.counted.pool own.buffer inside))
            (λ b other. omega (arith, more b, weight-other own.buffer b (λ e. other (sym e))))
            sound.counted;
        free = record {
          pool = λ b within. free_places-nic (listed_in board.arrays.listed) b board.nic v board.apps refl
              ∙ once-placed (pool_count b board.nic board.apps) _ (free_places (listed_in board.arrays.listed) b board.nic board.apps)
              (one_if (own.buffer == b)) (sound.free.pool b within) (more b)
              (⊎_elim (λ same. inr (subst (λ x. 0 < pool_count x board.nic board.apps) (sym same.1) holds)) (λ other. inl other)
              (same-or-other b own.buffer));
          reserves = λ b past. free_places-nic (listed_in board.arrays.listed) b board.nic v board.apps refl ∙ sound.free.reserves b past;
        };
        relayed = AreRelayed-nic board.arrays _ board.nic v board.apps refl refl refl refl refl sound.relayed;
        returns = λ a app here. AreReturns-nic board.nic v app refl (sound.returns a app here);
        flags = assumption sound.flags;
        kept = assumption sound.kept;
        due = sound.due;
        filled = FillingsFit-placed board.nic board.apps own bytes out fits sound.filled;
        by_one = λ b. IsFilledByOne-placed b board.nic board.apps own bytes out (sound.by_one b);
        shown = AreShown-placed (byte_upto board.arrays own.buffer own.start bytes sound.sizes inside lies own.buffer)
            (byte_of (stored_then board.arrays own.buffer own.start bytes sound.sizes inside lies)) board.nic board.apps own bytes
            (StoresAt-last board.arrays own.buffer own.start bytes sound.sizes inside lies)
            (IsShown-stored board.arrays own.buffer own.start bytes sound.sizes inside lies) out some fits sound.filled sound.by_one
            (AreShown-before board.arrays own.buffer own.start bytes sound.sizes inside lies board.nic board.apps layout sound.shown);
        notes = sound.notes;
        own_buffers = LieInOwn-placed board.nic board.apps own bytes
            (rw (ap (λ s. pool_buffers s.layout) sound.set.card) (of_pool board own sound out)) sound.own_buffers;
        judged = sound.judged;
        booked = AreBooked-nic board.arrays _ board.nic v board.apps refl refl refl refl refl sound.booked;
        phased = ArePhased-open board.nic v board.apps running refl refl sound.phased;
      }
