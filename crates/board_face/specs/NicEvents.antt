-- What the card does at a board: each event is a function of its view and of the event's own data.
use Rattle.std.specs.Prelude.{◌&&◌, ℕ, ◌-◌, Bool, true, if◌then◌else◌, List, [], ◌∷◌, ◌++◌, length, take, nat_lt, Option, Some, None}
use Rattle.zr_kinds.specs.declared.{place.{Note.{Note}, Place.{Place}}, ring.Rqe.{Rqe}}
use Rattle.area_layout.specs.Layout.{pool_buffers, size_of, judged}
use Rattle.board_face.specs.{Lists.{without, at_first, same_place}, Tokens.{filling, filled_by, next_place, same_filling}, declared.views.parts.Setting.{Setting}}
use Rattle.board_face.specs.declared.views.{parts.Filling.{Filling}, nic.NicLook.{NicLook, TheVariants.{Swept, HasLeft, NotOwed, Owed, LastHolder, StillHeld}}}
use Rattle.board_face.specs.declared.views.nic.{Fate.{Fate, TheVariants.{Honoured, Stray}}, NicView.{NicView}}

-- a buffer of which nothing is used
abbrev pub fresh : Setting → ℕ → Filling
fresh setting buffer = filling buffer 0 (size_of setting.layout buffer)

-- what a free word of the list holds at most
abbrev pub word_bits : ℕ
word_bits = 64

-- how many buffers the cache holds at most
abbrev pub cache_room : ℕ
cache_room = 128

-- nothing but a look
abbrev pub nic_saw : NicView → NicLook → NicView
nic_saw v look = record v { looks = look ∷ v.looks }

-- the view but for its looks
abbrev pub nic_gist : NicView → NicView
nic_gist v = record v { looks = [] }

-- the buffer that entered the cache last was taken for filling
abbrev pub took : NicView → ℕ → NicView
took v buffer = record v {
  cache = take (length v.cache - 1) v.cache;
  used = v.used ++ buffer ∷ [];
  owns = v.owns ++ fresh v.setting buffer ∷ [];
}

-- a free word was swept, and these buffers were found there
abbrev pub swept : NicView → ℕ → List ℕ → NicView
swept v word found = record v {
  cache = v.cache ++ found;
  swept = v.swept ++ word ∷ [];
  looks = Swept word ∷ v.looks;
}

-- a piece was begun where the buffer's next bytes go, which count as used from now on
abbrev pub begun : NicView → Filling → ℕ → NicView
begun v own n = record v { owns = without (same_filling own) v.owns ++ filled_by own n ∷ [] }

-- the text of a piece that was begun is complete
abbrev pub text_done : NicView → Filling → List ℕ → NicView
text_done v own bytes = record v { pieces = v.pieces ++ record { place = next_place own (length bytes); bytes = bytes } ∷ [] }

-- a text was placed where the buffer's next bytes go
abbrev pub placed : NicView → Filling → List ℕ → NicView
placed v own bytes = text_done (begun v own (length bytes)) own bytes

-- the bytes of the piece at a place
abbrev pub text_at : NicView → Place → List ℕ
text_at v place = at_first (λ p. same_place place p.place) (λ p. p.bytes) [] v.pieces

-- a note was sent, with the piece that lies at its place
abbrev pub sent : NicView → ℕ → Note → NicView
sent v app note = record v {
  pieces = without (λ p. same_place note.place p.place) v.pieces;
  sent = v.sent ++ record { app = app; note = note; bytes = text_at v note.place } ∷ [];
}

-- a note was sent in which these bytes travel
abbrev pub sent_linear : NicView → ℕ → Note → List ℕ → NicView
sent_linear v app note bytes = record v { sent = v.sent ++ record { app = app; note = note; bytes = bytes } ∷ [] }

-- the cache, once a buffer came to be free: it entered the cache, or the free list where the cache was full
abbrev pub cached : List ℕ → ℕ → List ℕ
cached cache buffer = if nat_lt (length cache) cache_room then cache ++ buffer ∷ [] else cache

-- what was seen of a buffer's pool count as it was lowered
abbrev pub holder_look : Bool → ℕ → NicLook
holder_look last buffer = if last then LastHolder buffer else StillHeld buffer

-- A reference to a buffer was given up, and `last` says whether its pool count came to 0 by that. A pool buffer is free
-- then; a reserve is neither cached nor listed.
abbrev pub gave_up : NicView → ℕ → Bool → NicView
gave_up v buffer last = record v {
  cache = if last && nat_lt buffer (pool_buffers v.setting.layout) then cached v.cache buffer else v.cache;
  looks = holder_look last buffer ∷ v.looks;
}

-- the buffer was closed
abbrev pub shut : NicView → Filling → Bool → NicView
shut v own last = gave_up (record v { owns = without (same_filling own) v.owns }) own.buffer last

-- an entry was dealt with
abbrev pub dealt : NicView → ℕ → Rqe → Fate → NicView
dealt v app entry fate = record v { dealt = v.dealt ++ record { app = app; entry = entry; fate = fate } ∷ [] }

-- the looks, once an entry was a stray: where it names a buffer, the application's user count there was seen 0
abbrev pub looks_by_stray : Option ℕ → ℕ → List NicLook → List NicLook
looks_by_stray None app looks = looks
looks_by_stray (Some buffer) app looks = NotOwed app buffer ∷ looks

-- an entry was a stray
abbrev pub passed_over : NicView → ℕ → Rqe → NicView
passed_over v app entry = record v {
  dealt = v.dealt ++ record { app = app; entry = entry; fate = Stray } ∷ [];
  looks = looks_by_stray (judged v.setting.layout entry) app v.looks;
}

-- An entry for this buffer was a return. The application's user count there was seen above 0.
abbrev pub honoured : NicView → ℕ → Rqe → ℕ → NicView
honoured v app entry buffer = nic_saw (dealt v app entry (Honoured buffer)) (Owed app buffer)

-- an application was seen to have left
abbrev pub saw_leave : NicView → ℕ → NicView
saw_leave v app = record v { gone = v.gone ++ app ∷ []; looks = HasLeft app ∷ v.looks }

-- the card ended
abbrev pub nic_ended : NicView → NicView
nic_ended v = record v { ended = true }
