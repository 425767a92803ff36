-- Holders: who has a buffer, and what for, a list with one entry for each holding. (page_pool: a fragment's reference,
-- `pp_ref_count`; iou-zcrx: `niov` user references, each of which carries one of the pool.)
--
-- | Kind        | begins                      | ends                                              |
-- | own         | the card took the buffer    | it shut the buffer                                |
-- | piece       | a text was placed           | it was sent                                       |
-- | sent a      | its note was published      | application a freed the note slot                 |
-- | held a      | that moment, or a cut       | lent or released                                  |
-- | spare a     | a took a spare              | lent                                              |
-- | loan a      | lent                        | given back or abandoned                           |
-- | owed a      | given back or abandoned     | an entry of a was honoured, or a scrub took it    |
-- | returning a | owed ended                  | the pool count was lowered                        |
use Rattle.std.specs.Prelude.{ℕ, ◌+◌, ◌-◌, Bool, false, ◌&&◌, if◌then◌else◌, List, [], ◌∷◌, ◌++◌, length, map, filter, take, drop}
use Rattle.std.specs.{Prelude.{◌==◌, count_by, slice_index, Option, Some, None}, List.{flat_map}}
use Rattle.zr_kinds.specs.declared.place.Place.{Place}
use Rattle.board_face.specs.declared.views.{parts.Making.{Making}, nic.{Fate.{Fate, TheVariants.{Honoured, Stray}}, Judged.{Judged}}}
use Rattle.board_face.specs.declared.views.nic.{Judged.TheVariants.{Not, Stray as judged_stray, Owed, UserLowered, BothLowered}, EntryInHand.{EntryInHand}}
use Rattle.board_face.specs.declared.views.{nic.{SentNote.{SentNote}, Dealt.{Dealt}, NicSide.{NicSide}}, app.AppSide.{AppSide}}

-- what a buffer is held for; the place, where the holding has one
pub data Kind : Type 0 where
  own : Kind
  piece : Place → Kind
  sent : ℕ → Place → Kind
  held : ℕ → Place → Kind
  spare : ℕ → Kind
  loan : ℕ → Place → Kind
  owed : ℕ → Place → Kind
  returning : ℕ → Place → Kind

-- the places in a buffer
abbrev pub places_in : ℕ → List Place → List Place
places_in b places = filter (λ p. p.buffer == b) places

-- ---- notes on their way

-- the notes that the card has sent to an application
abbrev pub sent_to : ℕ → NicSide → List SentNote
sent_to a nic = filter (λ s. s.app == a) nic.view.sent

-- those of them that the application hasn't taken
abbrev pub on_way : NicSide → AppSide → List SentNote
on_way nic app = drop (length app.view.taken) (sent_to app.view.app nic)

abbrev pub sent_places : NicSide → AppSide → List Place
sent_places nic app = map (λ s. s.note.place) (filter (λ s. s.note.split) (on_way nic app))

-- ---- what is owed

-- an entry of the application for this buffer was honoured
abbrev pub is_honoured_for : ℕ → ℕ → Dealt → Bool
is_honoured_for a b dealt = (dealt.app == a) && of_buffer dealt.fate b
  where
    of_buffer : Fate → ℕ → Bool
    of_buffer Stray b = false
    of_buffer (Honoured buffer) b = buffer == b

-- how often the user count was lowered for the entry in hand
abbrev pub lowered_in_hand : ℕ → ℕ → Option EntryInHand → ℕ
lowered_in_hand a b None = 0
lowered_in_hand a b (Some inhand) = if inhand.app == a then lowered_of inhand.judged b else 0
  where
    lowered_of : Judged → ℕ → ℕ
    lowered_of Not b = 0
    lowered_of judged_stray b = 0
    lowered_of (Owed buffer) b = 0
    lowered_of (UserLowered buffer) b = if buffer == b then 1 else 0
    lowered_of (BothLowered buffer) b = if buffer == b then 1 else 0

-- and the pool count not yet
abbrev pub returning_in_hand : ℕ → ℕ → Option EntryInHand → ℕ
returning_in_hand a b None = 0
returning_in_hand a b (Some inhand) = if inhand.app == a then returning_of inhand.judged b else 0
  where
    returning_of : Judged → ℕ → ℕ
    returning_of Not b = 0
    returning_of judged_stray b = 0
    returning_of (Owed buffer) b = 0
    returning_of (UserLowered buffer) b = if buffer == b then 1 else 0
    returning_of (BothLowered buffer) b = 0

-- the places in this buffer of the loans that the application has given back or abandoned, in order
abbrev pub returned_in : ℕ → AppSide → List Place
returned_in b app = places_in b (map (λ l. l.place) app.view.returned)

-- how many of these were honoured or scrubbed, the first ones
abbrev pub ended_in : ℕ → NicSide → AppSide → ℕ
ended_in b nic app =
    count_by (is_honoured_for app.view.app b) nic.view.dealt
    + lowered_in_hand app.view.app b nic.inside.entry
    + slice_index app.inside.scrub_took b

-- the last of these, of which the pool count isn't lowered yet
abbrev pub returning_count : ℕ → NicSide → AppSide → ℕ
returning_count b nic app = returning_in_hand app.view.app b nic.inside.entry + slice_index app.inside.scrub_owes b

abbrev pub owed_in : ℕ → NicSide → AppSide → List Place
owed_in b nic app = drop (ended_in b nic app) (returned_in b app)

abbrev pub returning_in : ℕ → NicSide → AppSide → List Place
returning_in b nic app = take (returning_count b nic app) (drop (ended_in b nic app - returning_count b nic app) (returned_in b app))

-- ---- all holders of a buffer

abbrev pub making_places : Option Making → List Place
making_places None = []
making_places (Some making) = making.place ∷ []

abbrev pub nic_holders : ℕ → NicSide → List Kind
nic_holders b nic =
    map (λ o. own) (filter (λ o. o.buffer == b) nic.view.owns)
    ++ map piece (places_in b (map (λ p. p.place) nic.view.pieces ++ making_places nic.inside.making))

abbrev pub app_holders : ℕ → NicSide → AppSide → List Kind
app_holders b nic app =
    map (sent app.view.app) (places_in b (sent_places nic app))
    ++ map (held app.view.app) (places_in b (map (λ h. h.place) app.view.helds))
    ++ map (λ s. spare app.view.app) (filter (λ s. s.own.buffer == b) app.view.owns)
    ++ map (loan app.view.app) (places_in b (map (λ l. l.place) app.view.loans))
    ++ map (owed app.view.app) (owed_in b nic app)
    ++ map (returning app.view.app) (returning_in b nic app)

abbrev pub holders_of : ℕ → NicSide → List AppSide → List Kind
holders_of b nic apps = nic_holders b nic ++ flat_map (app_holders b nic) apps
