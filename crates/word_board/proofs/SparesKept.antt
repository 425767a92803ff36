-- What an application keeps is right after each event of its spares, and once a loan is abandoned.
use Rattle.std.proofs.Common.{◌≡◌, ℕ, ◌+◌, ◌-◌, ◌^◌, ◌<◌, ◌≤◌, Bool, true, false, List, [], ◌∷◌, ◌++◌, length, map, set, get_or, refl, ap, ◌∙◌}
use Rattle.std.{proofs.Common.{arith, Option, ⊎_elim, length-append}, specs.Prelude.{◌==◌, if◌then◌else◌, nat_lt, All, AllPairs, IsTrue, ◌↔◌}}
use Rattle.std.proofs.lemmas.List.{length-set, get_or-set_same, get_or_default, Elements.{All-push, All-map, All-contains}, Quantifiers.{all_pairs_push}}
use Rattle.std.proofs.lemmas.Bool.{false≢true}
use Rattle.zr_kinds.specs.declared.place.Place.{Place}
use Rattle.area_layout.{specs.Layout.{IsLayout, LiesIn, pool_buffers, all_buffers, size_of}, proofs.Words.{words_apart}}
use Rattle.board_face.specs.{Sides.{app_at}, NicEvents.{fresh}, Lists.{same_place}, Tokens.{filled_by, same_filling}, OwnBuffers.{IsOwnBuffer}, Returns.{loans_out}}
use Rattle.board_face.specs.{AppEvents.{abandoned, got_spare, filled, owns_without, lent_own, own_bytes, begin_place}, AppCalls.{HasLoan, HasSpare, HasNoneIn, IsLive}}
use Rattle.board_face.specs.declared.views.{parts.{Setting.{Setting}, Filling.{Filling}}, app.{Origin.TheVariants.{Copied as of_copy}, LentPiece.{LentPiece}}}
use Rattle.board_face.{specs.declared.views.app.{SpareOwn.{SpareOwn}, AppSide.{AppSide}}, proofs.{ListLemmas.{All-without}, Parts.{count-tally}, Tallies.{tally-push}}}
use Rattle.board_face.proofs.WrittenLemmas.{loans-fewer}
use Rattle.word_board.{specs.Hands.{AppKeeps}, proofs.{AppKept.{loan-lies, loan-some, kept as kept-event}, LoansCounted.{count-raised, count-lowered, counted-tells}}}
use Rattle.word_board.proofs.SparesApart.{AreApartBuffers, IsElsewhere, HasLength, AllPairs-without, others-elsewhere, lengths-elsewhere, text-of_spare, own-of_spare}

abbrev SpareLies : Setting → SpareOwn → Type 0
SpareLies setting s = (s.own.buffer < all_buffers setting.layout) × (s.own.size ≡ size_of setting.layout s.own.buffer) × (256 ≤ s.own.size)

abbrev TextIsShort : SpareOwn → Type 0
TextIsShort s = length s.bytes ≤ 256

picked-longer : (c : Bool) (picks : List ℕ) (buffer : ℕ) → length (if c then picks ++ buffer ∷ [] else picks) ≤ length picks + 1
picked-longer true picks buffer = omega (arith, length-append picks (buffer ∷ []))
picked-longer false picks buffer = omega arith

module _ (setting : Setting) (app : AppSide) (note entry : ℕ) (raw : Option ℕ) (loans lengths : List ℕ)
    (kept : AppKeeps setting app note entry raw loans lengths) where
  -- ---- spares

  module _ (own : Filling) (out : HasSpare app.view own) where
    -- a spare that is out lies in a buffer, and has room for a short text
    spare-lies : (own.buffer < all_buffers setting.layout) × (own.size ≡ size_of setting.layout own.buffer) × (256 ≤ own.size)
    spare-lies = own-of_spare (λ o. (o.buffer < all_buffers setting.layout) × (o.size ≡ size_of setting.layout o.buffer) × (256 ≤ o.size)) own app.view.owns out
        kept.lies.spares

    pub spare-within : own.buffer < all_buffers setting.layout
    spare-within = spare-lies.0

    pub spare-room : 256 ≤ own.size
    spare-room = spare-lies.2

    pub text-lies : (n : ℕ) → n ≤ 256 → LiesIn setting.layout (begin_place own.buffer n)
    text-lies n few = record { buffer = spare-within; bytes = omega (arith, spare-lies.1, spare-lies.2) }

    pub loans-there : own.buffer < length loans
    loans-there = omega (arith, spare-within, kept.tokens.many.0)

    pub lengths-there : own.buffer < length lengths
    lengths-there = omega (arith, spare-within, kept.tokens.many.1)

    -- the length that is kept for it is that of its text
    pub length-own : get_or lengths own.buffer 0 ≡ length (own_bytes app.view own)
    length-own = text-of_spare (λ o bytes. get_or lengths o.buffer 0 ≡ length bytes) own app.view.owns out kept.tokens.lengths

    -- so the place that is made of it is its text's
    pub place-own : (place : Place) (len : ℕ) → place ≡ begin_place own.buffer len → len ≡ get_or lengths own.buffer len
        → place ≡ begin_place own.buffer (length (own_bytes app.view own))
    place-own place len made is = made
        ∙ ap (begin_place own.buffer) (is ∙ (get_or_default lengths own.buffer len 0 lengths-there ∙ length-own))

    elsewhere : All (IsElsewhere own.buffer) (owns_without app.view own)
    elsewhere = others-elsewhere own app.view.owns out kept.lies.apart

    rest : (P : SpareOwn → Type 0) → All P app.view.owns → All P (owns_without app.view own)
    rest P all = All-without P (λ (s : SpareOwn). same_filling own s.own) app.view.owns all

    rest-apart : AllPairs AreApartBuffers (owns_without app.view own)
    rest-apart = AllPairs-without AreApartBuffers (λ (s : SpareOwn). same_filling own s.own) app.view.owns kept.lies.apart

  -- a spare is filled
  module _ (own : Filling) (bytes : List ℕ) (out : HasSpare app.view own) (few : length bytes ≤ 256) where
    abbrev one : SpareOwn
    one = record { own = filled_by own (length bytes); bytes = bytes }

    abbrev others : List SpareOwn
    others = owns_without app.view own

    pub AppKeeps-filled : AppKeeps setting (app_at app (filled app.view own bytes)) note entry raw loans (set lengths own.buffer (length bytes))
    AppKeeps-filled = record {
      set = kept.set;
      here = kept.here;
      rests = record {
        making = kept.rests.making;
        hands = kept.rests.hands;
        given = kept.rests.given;
        looked = kept.rests.looked;
        searched = kept.rests.searched;
        owes = kept.rests.owes;
        unbegun = kept.rests.unbegun;
        lists = λ e. let l = kept.rests.lists e in record { took = l.took; owes = l.owes };
      };
      lies = record {
        helds = kept.lies.helds;
        loans = kept.lies.loans;
        spares = All-push (SpareLies setting) others one (rest own out (SpareLies setting) kept.lies.spares) (spare-lies own out);
        texts = All-push TextIsShort others one (rest own out TextIsShort kept.lies.texts) few;
        apart = all_pairs_push AreApartBuffers others one (rest-apart own out) (elsewhere own out);
      };
      slots = record { next_note = kept.slots.next_note; next_entry = kept.slots.next_entry; last_raw = kept.slots.last_raw };
      tokens = record {
        many = (kept.tokens.many.0, length-set lengths own.buffer (length bytes) ∙ kept.tokens.many.1);
        out = kept.tokens.out;
        lengths = All-push (HasLength (set lengths own.buffer (length bytes))) others one
            (lengths-elsewhere lengths own.buffer (length bytes) others (elsewhere own out) (rest own out (HasLength lengths) kept.tokens.lengths))
            (get_or-set_same lengths own.buffer (length bytes) 0 (lengths-there own out));
      };
    }

  -- it is lent
  module _ (own : Filling) (out : HasSpare app.view own) where
    -- no count of loans is large
    pub few-counted : loans_out own.buffer app + 1 < 2 ^ 64 → get_or loans own.buffer 0 + 1 < 2 ^ 64
    few-counted few = omega (arith, kept.tokens.out own.buffer (spare-within own out))

    abbrev lent_piece : LentPiece
    lent_piece = record { place = begin_place own.buffer (length (own_bytes app.view own)); origin = of_copy (own_bytes app.view own) }

    pub AppKeeps-lent_own : AppKeeps setting (app_at app (lent_own app.view own)) note entry raw
        (set loans own.buffer (get_or loans own.buffer 0 + 1)) lengths
    AppKeeps-lent_own = record {
      set = kept.set;
      here = kept.here;
      rests = record {
        making = kept.rests.making;
        hands = kept.rests.hands;
        given = kept.rests.given;
        looked = kept.rests.looked;
        searched = kept.rests.searched;
        owes = kept.rests.owes;
        unbegun = kept.rests.unbegun;
        lists = λ e. let l = kept.rests.lists e in record { took = l.took; owes = l.owes };
      };
      lies = record {
        helds = kept.lies.helds;
        loans = All-push (λ l. LiesIn setting.layout l.place) app.view.loans lent_piece kept.lies.loans
            (text-lies own out (length (own_bytes app.view own)) (text-of_spare (λ _ bytes. length bytes ≤ 256) own app.view.owns out kept.lies.texts));
        spares = rest own out (SpareLies setting) kept.lies.spares;
        texts = rest own out TextIsShort kept.lies.texts;
        apart = rest-apart own out;
      };
      slots = record { next_note = kept.slots.next_note; next_entry = kept.slots.next_entry; last_raw = kept.slots.last_raw };
      tokens = record {
        many = (length-set loans own.buffer (get_or loans own.buffer 0 + 1) ∙ kept.tokens.many.0, kept.tokens.many.1);
        out = λ b inside. omega (
          arith,
          count-raised loans own.buffer b (loans-there own out),
          kept.tokens.out b inside,
          count-tally (λ (l : LentPiece). l.place.buffer == b) app.view.loans,
          count-tally (λ (l : LentPiece). l.place.buffer == b) (app.view.loans ++ lent_piece ∷ []),
          tally-push (λ (l : LentPiece). l.place.buffer == b) app.view.loans lent_piece,
        );
        lengths = rest own out (HasLength lengths) kept.tokens.lengths;
      };
    }

  -- one is given, in a buffer where none was
  module _ (buffer : ℕ) (apart : HasNoneIn app.view buffer) (mine : IsOwnBuffer app.view buffer) (sound : IsLayout setting.layout) where
    abbrev given : SpareOwn
    given = record { own = fresh app.view.setting buffer; bytes = [] }

    pub given-within : buffer < all_buffers setting.layout
    given-within =
        let pool = ap (λ s. pool_buffers s.layout) kept.set in
        ⊎_elim (λ less. omega (arith, pool, less)) (λ e. omega (arith, pool, e, kept.here)) mine

    pub given-there : buffer < length lengths
    given-there = omega (arith, given-within, kept.tokens.many.1)

    pub AppKeeps-got_spare : AppKeeps setting (record {
      view = got_spare app.view buffer;
      inside = record app.inside { words_without = []; reserve_seen_free = false };
    }) note entry raw loans (set lengths buffer 0)
    AppKeeps-got_spare = record {
      set = kept.set;
      here = kept.here;
      rests = record {
        making = kept.rests.making;
        hands = kept.rests.hands;
        given = omega (
          arith,
          kept.rests.given,
          picked-longer (nat_lt buffer (pool_buffers app.view.setting.layout)) app.view.picked buffer,
        );
        looked = kept.rests.looked;
        searched = (refl, refl);
        owes = kept.rests.owes;
        unbegun = kept.rests.unbegun;
        lists = λ e. let l = kept.rests.lists e in record { took = l.took; owes = l.owes };
      };
      lies = record {
        helds = kept.lies.helds;
        loans = kept.lies.loans;
        spares = All-push (SpareLies setting) app.view.owns given kept.lies.spares
            (given-within, ap (λ s. size_of s.layout buffer) kept.set, let least = ((words_apart setting.layout sound).size buffer).least in omega (arith, ap (λ s. size_of s.layout buffer) kept.set));
        texts = All-push TextIsShort app.view.owns given kept.lies.texts (omega arith);
        apart = all_pairs_push AreApartBuffers app.view.owns given kept.lies.apart apart.spares;
      };
      slots = record { next_note = kept.slots.next_note; next_entry = kept.slots.next_entry; last_raw = kept.slots.last_raw };
      tokens = record {
        many = (kept.tokens.many.0, length-set lengths buffer 0 ∙ kept.tokens.many.1);
        out = kept.tokens.out;
        lengths = All-push (HasLength (set lengths buffer 0)) app.view.owns given
            (lengths-elsewhere lengths buffer 0 app.view.owns apart.spares kept.tokens.lengths) (get_or-set_same lengths buffer 0 0 given-there);
      };
    }

  -- ---- loans

  module _ (place : Place) (out : HasLoan app.view place) where
    lies-there : place.buffer < all_buffers setting.layout
    lies-there = (loan-lies setting app place kept.lies out).buffer

    pub loan-there : place.buffer < length loans
    loan-there = omega (arith, lies-there, kept.tokens.many.0)

    pub loan-counted : 0 < get_or loans place.buffer 0
    loan-counted = omega (arith, kept.tokens.out place.buffer lies-there, loan-some app place out)

    -- it is abandoned
    pub AppKeeps-abandoned : AppKeeps setting (app_at app (abandoned app.view place)) note entry raw
        (set loans place.buffer (get_or loans place.buffer 0 - 1)) lengths
    AppKeeps-abandoned =
        kept-event setting app (app_at app (abandoned app.view place)) refl note entry note entry raw raw loans
        (set loans place.buffer (get_or loans place.buffer 0 - 1)) lengths kept.lies.helds
        (All-without (λ l. LiesIn setting.layout l.place) (λ (l : LentPiece). same_place place l.place) app.view.loans kept.lies.loans)
        (record { next_note = kept.slots.next_note; next_entry = kept.slots.next_entry; last_raw = kept.slots.last_raw })
        (length-set loans place.buffer (get_or loans place.buffer 0 - 1) ∙ kept.tokens.many.0)
        (λ b inside. omega (
          arith,
          count-lowered loans place.buffer b loan-there loan-counted,
          kept.tokens.out b inside,
          loans-fewer b app place out,
        ))
        kept

  -- ---- whether a loan is out

  module _ (buffer : ℕ) where
    -- the count of a buffer tells whether one is out there
    pub live-tells : (n : ℕ) → n ≡ get_or loans buffer 0 → buffer < length loans → IsTrue (nat_lt 0 n) ↔ IsLive app.view buffer
    live-tells n is there = counted-tells n buffer app.view.loans (is ∙ kept.tokens.out buffer (omega (arith, there, kept.tokens.many.0)))

    -- none is out where there is no buffer
    pub none-beyond : length loans ≤ buffer → IsTrue false ↔ IsLive app.view buffer
    none-beyond past = (
      λ e. absurd (false≢true e),
      λ live.
          let within = All-contains (λ b. b < all_buffers setting.layout) (map (λ (l : LentPiece). l.place.buffer) app.view.loans) buffer
          (All-map (λ b. b < all_buffers setting.layout) (λ (l : LentPiece). l.place.buffer) app.view.loans (λ k d there. (kept.lies.loans k d there).buffer))
          live in
          absurd (omega (arith, within, past, kept.tokens.many.0)),
    )
