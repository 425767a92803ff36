-- A look is exact on this board: what a role saw is so. It is said of the board before the call that saw it.
use Rattle.std.specs.Prelude.{◌≡◌, ℕ, ◌+◌, ◌<◌, ◌≤◌, ◌==◌, true, false, if◌then◌else◌, List, [], ◌∷◌, ◌++◌, length, nat_eq, count_by, slice_set, ⊤}
use Rattle.zr_kinds.specs.declared.ring.Rqe.{Rqe}
use Rattle.area_layout.specs.Layout.{pool_buffers}
use Rattle.board_face.specs.{Looks.{NicTold, AppTold}, NicEvents.{nic_gist}, Opened.{new_nic, new_app}, Holders.{on_way}, Counts.{pool_count, user_count}}
use Rattle.board_face.specs.{Judged.{fate_of}, AppEvents.{app_gist, reserve_of}, declared.views.nic.NicLook.{NicLook}}
use Rattle.board_face.specs.declared.views.nic.NicLook.TheVariants.{RingEmpty, NoteInUse, Swept, NotLeft, HasLeft, NotOwed, Owed, LastHolder, StillHeld}
use Rattle.board_face.specs.declared.views.{nic.{NicView.{NicView}, NicSide.{NicSide}}, app.AppLook.{AppLook}}
use Rattle.board_face.specs.declared.views.app.{AppLook.TheVariants.{NoNote, CardEnded, RefillInUse, RawOnItsWay, NoneListed, NoSpare, NotQuiet}, AppView.{AppView}}
use Rattle.board_face.specs.{declared.views.app.AppSide.{AppSide}, Sides.{side_in}}
use Rattle.plain_board.specs.{declared.others.Others.{Others}, Stand.{Stand, side_of, others_of}, Returns.{entries_on_way, is_raw}}

-- ---- the card

-- the card's side between two of its calls
abbrev pub card_of : NicView → NicSide
card_of v = record { view = v; inside = (new_nic v.setting).inside }

-- What the card sees is so. That it swept a word is no more than its own doing.
abbrev pub IsSeenByCard : NicLook → NicView → List AppSide → Type 0
IsSeenByCard (RingEmpty a) v apps = entries_on_way (card_of v) (side_in apps a) ≡ []
IsSeenByCard (NoteInUse a) v apps = v.setting.places ≤ length (on_way (card_of v) (side_in apps a))
IsSeenByCard (Swept word) v apps = ⊤
IsSeenByCard (NotLeft a) v apps = (side_in apps a).view.left ≡ false
IsSeenByCard (HasLeft a) v apps = (side_in apps a).view.left ≡ true
IsSeenByCard (NotOwed a b) v apps = user_count a b (card_of v) apps ≡ 0
IsSeenByCard (Owed a b) v apps = 0 < user_count a b (card_of v) apps
IsSeenByCard (LastHolder b) v apps = pool_count b (card_of v) apps ≡ 1
IsSeenByCard (StillHeld b) v apps = 2 ≤ pool_count b (card_of v) apps

-- An entry of the application was dealt with, and its fate is that which the user counts of the board before give it.
pub record IsJudged (old new : Stand) (a : ℕ) : Type 0 where
  pub entry : Rqe
  pub dealt : new.nic.view.dealt
      ≡ old.nic.view.dealt ++ record {
        app = a;
        entry = entry;
        fate = fate_of old.nic.view.setting.layout (λ b. user_count a b old.nic old.apps) entry;
      } ∷ []

-- ---- an application

-- An application's side between two of its calls, as far as it holds anything: once it has scrubbed it owes nothing.
abbrev pub self_of : AppView → AppSide
self_of v = record {
  view = record v { returned = if v.scrubbed then [] else v.returned };
  inside = (new_app v.setting v.app).inside;
}

-- the sides of all applications
abbrev pub all_app_sides : AppView → Others → List AppSide
all_app_sides v others = slice_set others.apps v.app (self_of v)

-- no pool buffer is on the free list: one without holder is cached
abbrev pub HasNothingListed : AppView → Others → Type 0
HasNothingListed v others =
    (b : ℕ) → b < pool_buffers v.setting.layout → pool_count b others.card (all_app_sides v others) ≡ 0 → 1 ≤ count_by (nat_eq b) others.card.view.cache

-- The application's reserve is held, and by nobody but itself: by its loans there, out or owed, and by its spares.
pub record HoldsReserve (v : AppView) (others : Others) : Type 0 where
  pub held : 0 < pool_count (reserve_of v) others.card (all_app_sides v others)
  pub own : pool_count (reserve_of v) others.card (all_app_sides v others)
      ≡ user_count v.app (reserve_of v) others.card (all_app_sides v others) + count_by (λ s. s.own.buffer == reserve_of v) v.owns

-- What an application sees is so.
abbrev pub IsSeenBy : AppLook → AppView → Others → Type 0
IsSeenBy NoNote v others = (others.card.view.ended ≡ false) × (on_way others.card (self_of v) ≡ [])
IsSeenBy CardEnded v others = (others.card.view.ended ≡ true) × (on_way others.card (self_of v) ≡ [])
IsSeenBy RefillInUse v others = v.setting.places ≤ length (entries_on_way others.card (self_of v))
IsSeenBy RawOnItsWay v others = 0 < count_by is_raw (entries_on_way others.card (self_of v))
IsSeenBy NoneListed v others = HasNothingListed v others
IsSeenBy NoSpare v others = HasNothingListed v others × HoldsReserve v others
IsSeenBy NotQuiet v others = 0 < length (entries_on_way others.card (self_of v))

-- A spare that is a pool buffer was on the free list: nobody has it, and it isn't cached. No lower one was, nor any where it is the reserve.
pub record IsFoundLowest (buffer : ℕ) (v : AppView) (others : Others) : Type 0 where
  pub listed : buffer < pool_buffers v.setting.layout
      → (pool_count buffer others.card (all_app_sides v others) ≡ 0) × (count_by (nat_eq buffer) others.card.view.cache ≡ 0)
  pub none_lower : (b : ℕ) → b < buffer → b < pool_buffers v.setting.layout → pool_count b others.card (all_app_sides v others) ≡ 0
      → 1 ≤ count_by (nat_eq b) others.card.view.cache

-- ---- what a call saw

-- Each look whose count rose for the card is so of the board before.
abbrev pub CardSawSo : Stand → Stand → Type 0
CardSawSo old new = NicTold (λ look. IsSeenByCard look (nic_gist old.nic.view) old.apps) old.nic.view new.nic.view

-- Each look whose count rose for the application is so of the board before.
abbrev pub AppSawSo : Stand → Stand → ℕ → Type 0
AppSawSo old new app =
    AppTold (λ look. IsSeenBy look (app_gist (side_of old app).view) (others_of old app)) (side_of old app).view (side_of new app).view
