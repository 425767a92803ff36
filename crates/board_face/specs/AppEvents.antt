-- What an application does at a board: each event is a function of its view and of the event's own data.
use Rattle.std.specs.Prelude.{ℕ, ◌+◌, Bool, true, false, if◌then◌else◌, nat_lt, List, [], ◌∷◌, ◌++◌, length}
use Rattle.zr_kinds.specs.declared.{place.{Note.{Note}, Place.{Place}}, ring.Rqe.{Rqe}}
use Rattle.area_layout.specs.Layout.{Shape, pool_buffers, off_of}
use Rattle.board_face.specs.{Lists.{without, at_first, same_place}, Tokens.{filled_by, same_filling}, Texts.{further, front_place, rest_place}, NicEvents.{fresh}}
use Rattle.board_face.specs.declared.views.{parts.Filling.{Filling}, app.{Origin.{Origin, TheVariants.{Note as of_note, Copied as of_copy}}, AppLook.{AppLook}}}
use Rattle.board_face.specs.declared.views.app.{AppLook.TheVariants.{CardEnded, NoneListed}, Reading.{Reading}, HeldPiece.{HeldPiece}, LentPiece.{LentPiece}}
use Rattle.board_face.specs.declared.views.app.{SpareOwn.{SpareOwn}, AppView.{AppView}}

-- nothing but a look
abbrev pub app_saw : AppView → AppLook → AppView
app_saw v look = record v { looks = look ∷ v.looks }

-- the view but for its looks, and for what it knows of its refill slots
abbrev pub app_gist : AppView → AppView
app_gist v = record v { settled = true; quiet = false; looks = [] }

-- ---- notes

-- a note was taken, and its piece is held
abbrev pub took_note : AppView → Note → AppView
took_note v note = record v {
  helds = v.helds ++ record { place = note.place; origin = of_note (length v.taken) 0 } ∷ [];
  taken = v.taken ++ record { note = note; bytes = [] } ∷ [];
}

-- a note was taken in which these bytes travelled
abbrev pub took_linear : AppView → Note → List ℕ → AppView
took_linear v note bytes = record v { taken = v.taken ++ record { note = note; bytes = bytes } ∷ [] }

-- the application was told that no note comes any more
abbrev pub told_end : AppView → AppView
told_end v = record v { ended = true; looks = CardEnded ∷ v.looks }

-- ---- pieces

-- where the bytes of the held piece at a place come from
abbrev pub held_origin : AppView → Place → Origin
held_origin v place = at_first (λ h. same_place place h.place) (λ h. h.origin) (of_copy []) v.helds

-- the held pieces without the one at a place
abbrev pub helds_without : AppView → Place → List HeldPiece
helds_without v place = without (λ h. same_place place h.place) v.helds

-- a held piece was cut in two behind its first `at` bytes
abbrev pub cut : AppView → Place → ℕ → AppView
cut v place at = record v {
  helds = helds_without v place
      ++ record { place = front_place place at; origin = held_origin v place }
      ∷ record { place = rest_place place at; origin = further (held_origin v place) at } ∷ [];
}

-- a held piece was given up
abbrev pub released : AppView → Place → AppView
released v place = record v { helds = helds_without v place }

-- ---- loans

-- a held piece was lent
abbrev pub lent : AppView → Place → AppView
lent v place = record v {
  helds = helds_without v place;
  loans = v.loans ++ record { place = place; origin = held_origin v place } ∷ [];
}

-- where the bytes of the loan at a place come from
abbrev pub loan_origin : AppView → Place → Origin
loan_origin v place = at_first (λ l. same_place place l.place) (λ l. l.origin) (of_copy []) v.loans

-- the loans without the one at a place
abbrev pub loans_without : AppView → Place → List LentPiece
loans_without v place = without (λ l. same_place place l.place) v.loans

-- the reads, once these bytes were read from their origin on; to read nothing is no read
abbrev pub reads_with : List Reading → Origin → List ℕ → List Reading
reads_with reads origin [] = reads
reads_with reads origin (b ∷ bytes) = reads ++ record { origin = origin; bytes = b ∷ bytes } ∷ []

-- bytes were read through the loan at a place, from its byte `from` on
abbrev pub has_read : AppView → Place → ℕ → List ℕ → AppView
has_read v place from bytes = record v { reads = reads_with v.reads (further (loan_origin v place) from) bytes }

-- a loan was abandoned
abbrev pub abandoned : AppView → Place → AppView
abandoned v place = record v {
  loans = loans_without v place;
  returned = v.returned ++ record { place = place; origin = loan_origin v place } ∷ [];
}

-- an entry was written, of a loan or raw, so the refill slots aren't all free any more
abbrev pub wrote : AppView → Rqe → Bool → AppView
wrote v entry of_loan = record v { written = v.written ++ record { entry = entry; of_loan = of_loan } ∷ []; quiet = false }

-- the entry that gives the loan at a place back
abbrev pub entry_of : Shape → Place → Rqe
entry_of layout place = record { off = off_of layout place; len = place.len; pad = 0 }

-- a loan was given back
abbrev pub gave : AppView → Place → AppView
gave v place = wrote (abandoned v place) (entry_of v.setting.layout place) true

-- a raw entry was written, which is on its way from now on
abbrev pub pushed_raw : AppView → Rqe → AppView
pushed_raw v entry = record (wrote v entry false) { settled = false }

-- no raw entry is on its way
abbrev pub came_to_rest : AppView → AppView
came_to_rest v = record v { settled = true }

-- ---- spares

-- the number of the application's reserve buffer
abbrev pub reserve_of : AppView → ℕ
reserve_of v = pool_buffers v.setting.layout + v.app

-- a pool buffer was picked from the free list; the reserve is never picked
abbrev pub picked_one : AppView → ℕ → AppView
picked_one v buffer = record v { picked = if nat_lt buffer (pool_buffers v.setting.layout) then v.picked ++ buffer ∷ [] else v.picked }

-- the looks, once a spare was given: the reserve is given only where no word had a buffer
abbrev pub looks_by_spare : Bool → List AppLook → List AppLook
looks_by_spare of_pool looks = if of_pool then looks else NoneListed ∷ looks

-- a spare begins
abbrev pub spare_begun : AppView → ℕ → AppView
spare_begun v buffer = record v {
  spares = v.spares + 1;
  owns = v.owns ++ record { own = fresh v.setting buffer; bytes = [] } ∷ [];
  looks = looks_by_spare (nat_lt buffer (pool_buffers v.setting.layout)) v.looks;
}

-- a spare was given: a pool buffer that was picked from the free list, or the reserve
abbrev pub got_spare : AppView → ℕ → AppView
got_spare v buffer = spare_begun (picked_one v buffer) buffer

-- the spares without one
abbrev pub owns_without : AppView → Filling → List SpareOwn
owns_without v own = without (λ s. same_filling own s.own) v.owns

-- a spare was filled
abbrev pub filled : AppView → Filling → List ℕ → AppView
filled v own bytes = record v { owns = owns_without v own ++ record { own = filled_by own (length bytes); bytes = bytes } ∷ [] }

-- the bytes that a spare was filled with
abbrev pub own_bytes : AppView → Filling → List ℕ
own_bytes v own = at_first (λ s. same_filling own s.own) (λ s. s.bytes) [] v.owns

-- the place of so many bytes at the begin of a buffer
abbrev pub begin_place : ℕ → ℕ → Place
begin_place buffer len = record { buffer = buffer; offset = 0; len = len }

-- a filled spare was lent
abbrev pub lent_own : AppView → Filling → AppView
lent_own v own = record v {
  owns = owns_without v own;
  loans = v.loans ++ record { place = begin_place own.buffer (length (own_bytes v own)); origin = of_copy (own_bytes v own) } ∷ [];
}

-- ---- the end

-- each refill slot was seen free
abbrev pub fell_quiet : AppView → AppView
fell_quiet v = record v { quiet = true }

-- the user counts were scrubbed
abbrev pub scrubbed : AppView → AppView
scrubbed v = record v { scrubbed = true }

-- the application left
abbrev pub left_board : AppView → AppView
left_board v = record v { left = true }
