-- What the card may ask of a board, and what its calls answer.
use Rattle.std.specs.Prelude.{◌≤◌, true, ◌≡◌, ◌≢◌, ℕ, ◌+◌, ◌/◌, ◌<◌, Bool, false, not, ◌&&◌, List, [], ◌∷◌, ◌++◌}
use Rattle.std.specs.{Prelude.{length, map, nat_eq, All, AllPairs, Contains, Some, IfSome}, List.{list_any}}
use Rattle.zr_kinds.specs.declared.{place.Place.{Place}, ring.Rqe.{Rqe}}
use Rattle.area_layout.specs.Layout.{pool_buffers, judged}
use Rattle.board_face.specs.{Lists.{count_below}, Looks.{NicRose}, Texts.{unsplit_bytes}}
use Rattle.board_face.specs.NicEvents.{fresh, took, word_bits, swept, holder_look, gave_up, shut, passed_over, honoured, nic_saw}
use Rattle.board_face.specs.declared.views.{parts.{Setting.{Setting}, Filling.{Filling}}, nic.NicLook.TheVariants.{RingEmpty, Swept, NotOwed, Owed, LastHolder}}
use Rattle.board_face.specs.declared.{views.nic.{NicLook.{NicLook}, NicView.{NicView}}, answers.Entry.{Entry, TheVariants.{Freed, Honoured, Stray, Empty}}}

-- how many applications there are
abbrev pub apps_of : Setting → ℕ
apps_of setting = setting.layout.reserves

-- how many words of 64 buffers the free list has
abbrev pub free_words_of : Setting → ℕ
free_words_of setting = (pool_buffers setting.layout + 63) / 64

-- each word of the free list was swept
abbrev pub HasSweptAll : NicView → Type 0
HasSweptAll v = (word : ℕ) → word < free_words_of v.setting → list_any (nat_eq word) v.swept ≡ true

-- it has not ended
abbrev pub IsOpen : NicView → Type 0
IsOpen v = v.ended ≡ false

-- the token is out
abbrev pub HasOwn : NicView → Filling → Type 0
HasOwn v own = Contains v.owns own

abbrev pub HasPiece : NicView → Place → Type 0
HasPiece v place = Contains (map (λ p. p.place) v.pieces) place

-- no token is out
pub record HasNoToken (v : NicView) : Type 0 where
  pub owns : v.owns ≡ []
  pub pieces : v.pieces ≡ []

-- no token is out in this buffer
pub record HasNothingIn (v : NicView) (buffer : ℕ) : Type 0 where
  pub owns : All (λ o. o.buffer ≢ buffer) v.owns
  pub pieces : All (λ p. p.place.buffer ≢ buffer) v.pieces

-- the pool buffer belongs to a free word that was swept, isn't cached, and was never taken by the card
abbrev pub is_lost : NicView → ℕ → Bool
is_lost v buffer =
    list_any (nat_eq (buffer / word_bits)) v.swept && not (list_any (nat_eq buffer) v.cache) && not (list_any (nat_eq buffer) v.used)

abbrev pub lost_of : NicView → ℕ
lost_of v = count_below (is_lost v) (pool_buffers v.setting.layout)

-- the bytes of the unsplit notes sent so far
abbrev pub sent_unsplit_bytes : NicView → ℕ
sent_unsplit_bytes v = unsplit_bytes (map (λ s. s.note) v.sent)

-- Nothing changed but for a look, whose count rose.
pub record NicOnlySaw (look : NicLook) (old new : NicView) : Type 0 where
  pub event : new ≡ nic_saw old look
  pub rose : NicRose look old new

-- The pool buffer that entered the cache last was taken: nothing of it is used, and nobody has it.
pub record TookBuffer (old new : NicView) (own : Filling) : Type 0 where
  pub last : old.cache ≡ new.cache ++ own.buffer ∷ []
  pub of_pool : own.buffer < pool_buffers old.setting.layout
  pub fresh : own ≡ fresh old.setting own.buffer
  pub event : new ≡ took old own.buffer
  pub apart : HasNothingIn old own.buffer

-- A free word was swept: the pool buffers found there entered the cache, the highest first.
pub record SweptWord (old new : NicView) (word count : ℕ) : Type 0 where
  pub found : List ℕ
  pub event : new ≡ swept old word found
  pub look : NicRose (Swept word) old new
  pub many : length found ≡ count
  pub within : All (λ b. (b / word_bits ≡ word) × (b < pool_buffers old.setting.layout)) found
  pub falling : AllPairs (λ a b. b < a) found

-- An entry of the application was honoured: it names a buffer whose user count was seen above 0, and no pool buffer came
-- to be free by it.
pub record HonouredEntry (old new : NicView) (app : ℕ) : Type 0 where
  pub entry : Rqe
  pub buffer : ℕ
  pub last : Bool
  pub names : judged old.setting.layout entry ≡ Some buffer
  pub reserve : last ≡ true → pool_buffers old.setting.layout ≤ buffer
  pub event : new ≡ gave_up (honoured old app entry buffer) buffer last
  pub look : NicRose (Owed app buffer) old new
  pub holders : NicRose (holder_look last buffer) old new

-- An entry was honoured, and its buffer, one of the pool, came to be free by that.
pub record FreedEntry (old new : NicView) (app : ℕ) : Type 0 where
  pub entry : Rqe
  pub buffer : ℕ
  pub names : judged old.setting.layout entry ≡ Some buffer
  pub of_pool : buffer < pool_buffers old.setting.layout
  pub event : new ≡ gave_up (honoured old app entry buffer) buffer true
  pub look : NicRose (Owed app buffer) old new
  pub holders : NicRose (LastHolder buffer) old new

-- An entry of the application was a stray.
pub record PassedOver (old new : NicView) (app : ℕ) : Type 0 where
  pub entry : Rqe
  pub event : new ≡ passed_over old app entry
  pub look : IfSome (judged old.setting.layout entry) (λ buffer. NicRose (NotOwed app buffer) old new)

-- what became of the next entry of the application, by the answer
abbrev pub DealtWith : NicView → NicView → ℕ → Entry → Type 0
DealtWith old new app Freed = FreedEntry old new app
DealtWith old new app Honoured = HonouredEntry old new app
DealtWith old new app Stray = PassedOver old new app
DealtWith old new app Empty = NicOnlySaw (RingEmpty app) old new

-- The buffer was closed, and its pool count was seen to come to 0 by that, or to stay above it.
pub record Closed (old new : NicView) (own : Filling) : Type 0 where
  pub last : Bool
  pub event : new ≡ shut old own last
  pub holders : NicRose (holder_look last own.buffer) old new
