-- What the steps of an offer come to.
use Rattle.std.proofs.Common.{◌≡◌, ℕ, ◌%◌, ◌<◌, ◌≤◌, List, [], ◌∷◌, length, map, refl, sym, ap, subst, ◌∙◌, arith, true, false, Option, Some, None}
use Rattle.std.{specs.Prelude.{◌≢◌, option_to_list}, proofs.{lemmas.List.{append-nil, Elements.{All-nil}}, Math.Seq.{take-length}}}
use Rattle.zr_kinds.specs.{Limits.{longest_payload}, declared.outcome.PoolStats.{PoolStats}}
use Rattle.area_layout.{specs.Layout.{IsLayout, least_size}, proofs.Words.{in_order}}
use Rattle.board_face.specs.{Looks.{NicLooksStay, same_nic_look}, NicCalls.{apps_of}, NicEvents.{placed, holder_look}, Tokens.{next_start, next_place}}
use Rattle.board_face.specs.declared.views.{parts.{Setting.{Setting}, Filling.{Filling}}, nic.{PlacedText.{PlacedText}, NicView.{NicView}}}
use Rattle.board_face.proofs.{ListLemmas.{same_filling-refl}, LookLemmas.{NicLooksStay-same, NicLooksStay-trans, times-more}}
use Rattle.page_pool.specs.{declared.{pool.Pending.{Pending}, offer.Offer.{Offer}}, Frames.{offered, ShowRest}, Packing.{buffers_for, fits, needed}}
use Rattle.page_pool.specs.{Pool.{PoolState, PoolStands, HasNonePending, piece_notes}, Searching.{AreToldOf, CountsEnd, EndsBy, Searches, joint_end}}
use Rattle.page_pool.specs.declared.search_end.SearchEnd.{SearchEnd, TheVariants.{Fast, Empty}}
use Rattle.page_pool.specs.Offer.{payload_of, split_notes, packed, packed_into, last_of, ClosesCurrent, LooksFor, not_needed, searched}
use Rattle.page_pool.{specs.Placing.{PiecesStand, pending_of_part, fresh_places, FillsFresh, FillsCurrent, PlacesSplit, LacksRoom}, proofs.FramesShown.{one_shows}}
use Rattle.page_pool.proofs.{FramesShown.{fresh_shows}, Packed.{parts_places}, PlacedParts.{PiecesStand-part, still_needed}}

-- ---- closing and looking for buffers

pub record ClosesOnly (old new : NicView) : Type 0 where
  pub view : new ≡ record old { cache = new.cache; swept = new.swept; owns = new.owns; dealt = new.dealt; looks = new.looks }
  pub looks : NicLooksStay old new

pub ClosesCurrent-keeps : (current : Option Filling) (old new : NicView) → ClosesCurrent current old new → ClosesOnly old new
ClosesCurrent-keeps None old new same = rw same (record { view = refl; looks = NicLooksStay-same old old refl })
ClosesCurrent-keeps (Some own) old new closed = record {
  view = rw closed.event refl;
  looks = rw closed.event (record { later = λ look. times-more same_nic_look look (holder_look closed.last own.buffer) old.looks });
}

pub Searches-keeps : (need : ℕ) (was now : PoolStats) (old new : NicView) (how : SearchEnd) → Searches need was now old new how → ClosesOnly old new
Searches-keeps need was now old new how searches = record { view = rw searches.view refl; looks = searches.looks }

Keeps-trans : (u v w : NicView) → ClosesOnly u v → ClosesOnly v w → ClosesOnly u w
Keeps-trans u v w first then = record {
  view = rw then.view (rw first.view refl);
  looks = NicLooksStay-trans u v w first.looks then.looks;
}

pub LooksFor-keeps : (need : ℕ) (current : Option Filling) (ahead : SearchEnd) (was now : PoolStats) (old new : NicView) (how : Option SearchEnd)
    → LooksFor need current ahead was now old new how → ClosesOnly old new
LooksFor-keeps need current ahead was now old new _ (not_needed none stats same) = rw same (record { view = refl; looks = NicLooksStay-same old old refl })
LooksFor-keeps need current ahead was now old new _ (searched begin met how some closes searches counts) =
    Keeps-trans old begin new (ClosesCurrent-keeps current old begin closes) (Searches-keeps need was met begin new how searches)

-- where it found too few, all buffers are told of
pub looked-out : (need : ℕ) (current : Option Filling) (ahead : SearchEnd) (was now : PoolStats) (old new : NicView) (how : Option SearchEnd)
    → how ≡ Some Empty → LooksFor need current ahead was now old new how → AreToldOf new
looked-out need current ahead was now old new _ is (not_needed none stats same) = absurd (cc)
looked-out need current ahead was now old new _ is (searched begin met how some closes searches counts) =
    let same : how ≡ Empty = cc in
    (subst (λ end. EndsBy end need begin new searches.more searches.freed searches.words) same searches.ends).4

-- ---- a payload that is split

pub none_not : {T : Type 0} (x : T) → None ≢ Some x
none_not x same = absurd (grind arith)

starts : (start : ℕ) → start % 64 ≡ 0 → next_start start ≡ start
starts start aligned = omega (arith, aligned)

pub nothing_placed : (pool : PoolState) (v : NicView) → PoolStands pool v → HasNonePending pool → v.pieces ≡ []
nothing_placed pool v stands none = no_text v.pieces (rw none.pieces at stands.pieces)
  where
    no_text : (texts : List PlacedText) → map (λ (t : PlacedText). t.place) texts ≡ [] → texts ≡ []
    no_text [] same = refl
    no_text (t ∷ ts) same = absurd (grind arith)

pub PiecesStand-none : (v : NicView) → v.pieces ≡ [] → PiecesStand [] v
PiecesStand-none v none = record { places_are = rw none refl; apps = All-nil _; fields = All-nil _; places = All-nil _ }

-- it went to the current buffer
pub PlacesSplit-current : (was : PoolState) (old new : NicView) (o : Offer) (current : Option Filling) (pieces : List Pending)
    → PoolStands was old
    → HasNonePending was → o.app < apps_of old.setting → 0 < length (payload_of o) → length (payload_of o) ≤ longest_payload
    → FillsCurrent o was.current current old new pieces → PlacesSplit was (record was { current = current; pieces = pieces; ahead = Fast }) old new o
PlacesSplit-current was old new o current pieces stands none app some most fills =
    let own : Filling = fills.own in
    let len : ℕ = length (payload_of o) in
    let was_is : was.current ≡ Some own = fills.was_is in
    let there : fits (packed (Some own)) len ≡ true = rw was_is at fills.fits_there in
    let no_pieces : old.pieces ≡ [] = nothing_placed was old stands none in
    let start : next_start own.start ≡ own.start = starts own.start fills.aligned in
    let owns : old.owns ≡ own ∷ [] = rw was_is at stands.owns in
    let stand : PiecesStand (pending_of_part o 0 (next_place own len) ∷ []) (placed old own (payload_of o)) = PiecesStand-part o 0 [] old own (payload_of o)
    (PiecesStand-none old no_pieces) app most (omega arith) in
    record {
      found = old;
      how = None;
      search = not_needed (rw (was_is, there) refl) refl refl;
      enough = none_not Empty;
      buffers = [];
      many = rw (was_is, there) refl;
      few = omega arith;
      used = rw (fills.event, append-nil) refl;
      cached = rw (fills.event, append-nil) refl;
      notes = rw (fills.event, fills.pieces_are, no_pieces, was_is, there, start, take-length) refl;
      shows = rw (was_is, there, start) (one_shows o (next_place own len) some refl);
      current = rw (fills.now_is, was_is, there) refl;
      pool = refl;
      view = rw fills.event refl;
      looks = NicLooksStay-same old new (rw fills.event refl);
      stands = rw (fills.event, fills.now_is, fills.pieces_are) (record {
        owns = rw (owns, same_filling-refl own) refl;
        pieces = stand.places_are;
        apps = stand.apps;
        fields = stand.fields;
        places = stand.places;
        short = rw none.short tt;
        few = rw none.short (omega arith);
      });
    }

-- once the current buffer was closed and a search was made
pub record Looked (was : PoolState) (old found : NicView) : Type 0 where
  pub keeps : ClosesOnly old found
  pub owns : found.owns ≡ []
  pub pieces : found.pieces ≡ []

pub looked : (was : PoolState) (old begin found : NicView) (need : ℕ) (stats : PoolStats) (how : SearchEnd) → PoolStands was old → HasNonePending was
    → ClosesCurrent was.current old begin → begin.owns ≡ []
    → Searches need was.stats stats begin found how → Looked was old found
looked was old begin found need stats how stands none closes owns searches =
    let keeps = Keeps-trans old begin found (ClosesCurrent-keeps was.current old begin closes)
    (Searches-keeps need was.stats stats begin found how searches) in
    record {
      keeps = keeps;
      owns = ap (λ (v : NicView). v.owns) searches.view ∙ owns;
      pieces = ap (λ (v : NicView). v.pieces) keeps.view ∙ nothing_placed was old stands none;
    }

-- the number that is looked for
pub record IsNeed (need size : ℕ) (current : Option Filling) (begin : NicView) (o : Offer) : Type 0 where
  pub too_long : fits (packed current) (length (payload_of o)) ≡ false
  pub size_is : size ≡ least_size begin.setting.layout
  pub need_is : need ≡ buffers_for size (length (payload_of o))

pub needed_is : (need size : ℕ) (current : Option Filling) (old begin : NicView) (o : Offer) → ClosesCurrent current old begin
    → IsNeed need size current begin o → needed (least_size old.setting.layout) (packed current) (length (payload_of o)) ≡ need
needed_is need size current old begin o closes is =
    let setting : begin.setting ≡ old.setting = ap (λ (v : NicView). v.setting) (ClosesCurrent-keeps current old begin closes).view in
    let size_there : size ≡ least_size old.setting.layout = is.size_is ∙ ap (λ s. least_size s.layout) setting in
    rw is.too_long (rw (sym size_there) (sym is.need_is))

pub some_needed : (need size : ℕ) (current : Option Filling) (begin : NicView) (o : Offer) → IsNeed need size current begin o
    → IsLayout begin.setting.layout → 0 < length (payload_of o) → 0 < need
some_needed need size current begin o is layout some =
    let least = (in_order begin.setting.layout layout).some.least in
    let one = still_needed size 0 (length (payload_of o)) (omega (arith, is.size_is, least)) (omega (arith, some)) in
    rw is.need_is one

-- there weren't enough buffers
pub LacksRoom-empty : (was : PoolState) (met stats : PoolStats) (old begin new : NicView) (o : Offer) (cached need size : ℕ)
    → PoolStands was old
    → HasNonePending was → IsNeed need size was.current begin o
    → ClosesCurrent was.current old begin → begin.owns ≡ [] → Searches need was.stats met begin new Empty → CountsEnd Empty met stats
    → length new.cache ≡ cached
    → cached < need → LacksRoom was (record was { current = None; pieces = []; stats = stats; ahead = Fast }) old new o cached need
LacksRoom-empty was met stats old begin new o cached need size stands none is closes owns searches counts many few =
    let all = looked was old begin new need met Empty stands none closes owns searches in
    record {
      cached_is = many;
      need_is = needed_is need size was.current old begin o closes is;
      too_few = few;
      search = searched begin met Empty (omega (arith, few)) closes searches counts;
      pool = rw none.pieces refl;
      stands = record {
        owns = all.owns;
        pieces = rw all.pieces refl;
        apps = All-nil _;
        fields = All-nil _;
        places = All-nil _;
        short = rw none.short tt;
        few = rw none.short (omega arith);
      };
    }

pub packed_into-fresh : (setting : Setting) (own : Option Filling) (buffers : List ℕ) (len : ℕ) → fits (packed own) len ≡ false
    → packed_into setting own buffers len ≡ last_of setting buffers len
packed_into-fresh setting None buffers len too_long = refl
packed_into-fresh setting (Some own) buffers len too_long = rw too_long refl

-- it went to fresh buffers
pub PlacesSplit-fresh : (was : PoolState) (met stats : PoolStats) (old begin found new : NicView) (o : Offer) (how : SearchEnd)
    (need size : ℕ) (current : Option Filling) (pieces : List Pending)
    → PoolStands was old → HasNonePending was → IsNeed need size was.current begin o → IsLayout begin.setting.layout → 0 < length (payload_of o)
    → ClosesCurrent was.current old begin → begin.owns ≡ [] → Searches need was.stats met begin found how → how ≢ Empty
    → CountsEnd (joint_end was.ahead how) met stats → FillsFresh o found new pieces current
    → new.owns ≡ option_to_list current → length pieces ≤ 64
    → PlacesSplit was (record was { current = current; pieces = pieces; stats = stats; ahead = Fast }) old new o
PlacesSplit-fresh was met stats old begin found new o how need size current pieces stands none is layout some closes begin_owns searches enough
    counts fills owns few =
    let len : ℕ = length (payload_of o) in
    let all = looked was old begin found need met how stands none closes begin_owns searches in
    let setting : found.setting ≡ old.setting = ap (λ (v : NicView). v.setting) all.keeps.view in
    let used : found.used ≡ old.used = ap (λ (v : NicView). v.used) all.keeps.view in
    let begin_setting : begin.setting ≡ old.setting = ap (λ (v : NicView). v.setting) (ClosesCurrent-keeps was.current old begin closes).view in
    let layout_there : IsLayout old.setting.layout = rw begin_setting at layout in
    let need_is = needed_is need size was.current old begin o closes is in
    let parts = fills.parts in
    let buffers : List ℕ = fills.buffers in
    let places = parts_places was.current old.setting.layout [] buffers len in
    let notes : piece_notes pieces new.pieces ≡ split_notes o 0 (fresh_places old.setting.layout buffers len) = rw setting at parts.notes in
    record {
      found = found;
      how = Some how;
      search = rw need_is (searched begin met how (some_needed need size was.current begin o is layout some) closes searches counts);
      enough = λ same. enough (grind (arith, same));
      buffers = buffers;
      many = rw is.too_long (rw setting at fills.many);
      few = rw is.too_long (rw setting at fills.few);
      used = rw (parts.used, used) refl;
      cached = fills.cached;
      notes = rw is.too_long (notes ∙ ap (λ places. split_notes o 0 places) (sym places));
      shows = rw is.too_long (subst (λ places. ShowRest (offered o) 0 (split_notes o 0 places)) (sym places) (fresh_shows o
          old.setting.layout buffers layout_there (rw setting at fills.room)));
      current = rw setting at fills.last_is ∙ sym (packed_into-fresh old.setting was.current buffers len is.too_long);
      pool = refl;
      view = parts.view;
      looks = parts.looks;
      stands = record {
        owns = owns;
        pieces = parts.stand.places_are;
        apps = parts.stand.apps;
        fields = parts.stand.fields;
        places = parts.stand.places;
        short = rw none.short tt;
        few = rw none.short (omega (arith, few));
      };
    }
