-- The words of a board that threads share, group by group, and how they lie in one table, whose slots are the lines of the area. Counts,
-- bits and slots of rings are those of docs/BOARDS.md; each group is a list, so that a store in one leaves the others as they are.
use Rattle.std.specs.Prelude.{◌≡◌, ℕ, zero, suc, ◌+◌, ◌-◌, ◌*◌, ◌/◌, ◌%◌, ◌^◌, ◌<◌, ◌≤◌, Bool, List, [], ◌∷◌, ◌++◌, length, min, replicate, slice_index}
use Rattle.std.specs.{Prelude.{slice_index_or, slice_set, ◌==◌, All, bit_and, bit_or}, List.{flat_map}, Int.{bit_at, bit_not, w64}}
use Rattle.area_layout.specs.Layout.{IsLayout, pool_buffers, all_buffers}
use Rattle.word_rings.specs.Slots.{note_width, refill_width}
use Rattle.board_face.specs.{NicCalls.{apps_of, free_words_of}, NicEvents.{word_bits}, declared.views.parts.Setting.{Setting}}
use Rattle.ref_words.specs.Lines.{joined, area_lines, AreWide, laid}

pub record Words : Type 0 where
  -- 1 where a role was taken: the card's, then the applications'
  pub roles : List ℕ
  -- 1 where a role has ended or left
  pub phases : List ℕ
  -- the pool count of each buffer
  pub pool : List ℕ
  -- the user counts of each application, by buffer
  pub users : List (List ℕ)
  -- the free list, a bit for each pool buffer
  pub free : List ℕ
  -- the lines of the area, in slots of their own
  pub area : List (List ℕ)
  -- the note slots and the refill slots of each application, each slot a list of words
  pub notes : List (List (List ℕ))
  pub refills : List (List (List ℕ))

-- ---- the table

-- the groups in their order
abbrev pub groups : Words → List (List ℕ)
groups w = w.roles ∷ w.phases ∷ w.pool ∷ joined w.users ∷ w.free ∷ flat_map joined w.notes ∷ flat_map joined w.refills ∷ []

-- the table's words
abbrev pub table_of : Words → List ℕ
table_of w = joined (groups w)

-- ---- where a word lies

-- how many roles there are
abbrev pub roles_of : Setting → ℕ
roles_of setting = 1 + apps_of setting

-- how many words each group has
abbrev pub group_sizes : Setting → List ℕ
group_sizes setting =
    roles_of setting ∷ roles_of setting ∷ all_buffers setting.layout ∷ apps_of setting * all_buffers setting.layout ∷ free_words_of setting
    ∷ apps_of setting * (setting.places * note_width) ∷ apps_of setting * (setting.places * refill_width) ∷ []

-- how many the first ones have
abbrev pub begins : List ℕ → ℕ → ℕ
begins sizes zero = 0
begins [] (suc n) = 0
begins (size ∷ sizes) (suc n) = size + begins sizes n

-- where a group begins, and behind the last where the table ends
abbrev pub begin_at : Setting → ℕ → ℕ
begin_at setting group = begins (group_sizes setting) group

abbrev pub table_words : Setting → ℕ
table_words setting = begin_at setting 7

-- the word of a role, of a role's phase, of a buffer's pool count, of an application's user count for a buffer,
abbrev pub role_at : Setting → ℕ → ℕ
role_at setting r = begin_at setting 0 + r

abbrev pub phase_at : Setting → ℕ → ℕ
phase_at setting r = begin_at setting 1 + r

abbrev pub pool_at : Setting → ℕ → ℕ
pool_at setting b = begin_at setting 2 + b

abbrev pub user_word_at : Setting → ℕ → ℕ → ℕ
user_word_at setting a b = begin_at setting 3 + (a * all_buffers setting.layout + b)

-- of the free list, and of a slot of an application's rings
abbrev pub free_at : Setting → ℕ → ℕ
free_at setting j = begin_at setting 4 + j

abbrev pub note_at : Setting → ℕ → ℕ → ℕ → ℕ
note_at setting a s i = begin_at setting 5 + (a * (setting.places * note_width) + (s * note_width + i))

abbrev pub refill_at : Setting → ℕ → ℕ → ℕ → ℕ
refill_at setting a s i = begin_at setting 6 + (a * (setting.places * refill_width) + (s * refill_width + i))

-- what a word map keeps: where the groups begin behind the pool counts, and where the table ends
pub record IsMap (setting : Setting) (users free notes refills end : ℕ) : Type 0 where
  pub layout : IsLayout setting.layout
  pub places : (1 ≤ setting.places) × (setting.places ≤ 256)
  pub users_at : users ≡ begin_at setting 3
  pub free_at : free ≡ begin_at setting 4
  pub notes_at : notes ≡ begin_at setting 5
  pub refills_at : refills ≡ begin_at setting 6
  pub end_at : end ≡ table_words setting
  pub few : end < 2 ^ 32

-- No two groups share a word.
abbrev pub GroupsAreApart : Type 0
GroupsAreApart =
    (setting : Setting) (g h i j : ℕ) → i < slice_index (group_sizes setting) g → j < slice_index (group_sizes setting) h
    → begin_at setting g + i ≡ begin_at setting h + j → (g ≡ h) × (i ≡ j)

-- ---- sizes

-- so many slots of so many words
pub record AreSlots (places width : ℕ) (slots : List (List ℕ)) : Type 0 where
  pub many : length slots ≡ places
  pub wide : All (λ slot. length slot ≡ width) slots

pub record WordsHaveSizes (setting : Setting) (w : Words) : Type 0 where
  pub roles : length w.roles ≡ roles_of setting
  pub phases : length w.phases ≡ roles_of setting
  pub pool : length w.pool ≡ all_buffers setting.layout
  pub users : length w.users ≡ apps_of setting
  pub rows : All (λ row. length row ≡ all_buffers setting.layout) w.users
  pub free : length w.free ≡ free_words_of setting
  pub area : length w.area ≡ area_lines setting.layout
  pub lines : AreWide w.area
  pub notes : length w.notes ≡ apps_of setting
  pub note_slots : All (AreSlots setting.places note_width) w.notes
  pub refills : length w.refills ≡ apps_of setting
  pub refill_slots : All (AreSlots setting.places refill_width) w.refills

-- ---- counts and bits

-- a buffer's bit in the free list
abbrev pub listed_bit : Words → ℕ → Bool
listed_bit w b = bit_at (slice_index w.free (b / word_bits)) (b % word_bits) == 1

-- a word of the free list, and the words with another number there
abbrev pub free_word_of : Words → ℕ → ℕ
free_word_of w j = slice_index w.free j

abbrev pub with_free : Words → ℕ → ℕ → Words
with_free w j n = record w { free = slice_set w.free j n }

-- the words with a buffer's bit set, and with it cleared
abbrev pub with_listed : Words → ℕ → Words
with_listed w b = with_free w (b / word_bits) (bit_or (free_word_of w (b / word_bits)) (2 ^ (b % word_bits)))

abbrev pub with_unlisted : Words → ℕ → Words
with_unlisted w b = with_free w (b / word_bits) (bit_and (free_word_of w (b / word_bits)) (bit_not w64 (2 ^ (b % word_bits))))

-- the words with one role taken
abbrev pub with_role : Words → ℕ → Words
with_role w r = record w { roles = slice_set w.roles r 1 }

-- the words with another pool count of a buffer
abbrev pub with_pool : Words → ℕ → ℕ → Words
with_pool w b n = record w { pool = slice_set w.pool b n }

abbrev pub pool_word_of : Words → ℕ → ℕ
pool_word_of w b = slice_index w.pool b

abbrev pub user_word_of : Words → ℕ → ℕ → ℕ
user_word_of w a b = slice_index (slice_index_or w.users a []) b

-- the words with another user count of an application for a buffer
abbrev pub with_user : Words → ℕ → ℕ → ℕ → Words
with_user w a b n = record w { users = slice_set w.users a (slice_set (slice_index_or w.users a []) b n) }

-- ---- slots

-- the word i of a slot of an application's ring
abbrev pub slot_word : List (List (List ℕ)) → ℕ → ℕ → ℕ → ℕ
slot_word rings a s i = slice_index (slice_index_or (slice_index_or rings a []) s []) i

-- the slots of a ring with another word i in one
abbrev pub with_word : List (List ℕ) → ℕ → ℕ → ℕ → List (List ℕ)
with_word slots s i n = slice_set slots s (slice_set (slice_index_or slots s []) i n)

abbrev pub with_slot_word : List (List (List ℕ)) → ℕ → ℕ → ℕ → ℕ → List (List (List ℕ))
with_slot_word rings a s i n = slice_set rings a (with_word (slice_index_or rings a []) s i n)

-- the words with another word i in a slot of an application's refill ring, or note ring
abbrev pub with_refill : Words → ℕ → ℕ → ℕ → ℕ → Words
with_refill w a s i n = record w { refills = with_slot_word w.refills a s i n }

abbrev pub with_note : Words → ℕ → ℕ → ℕ → ℕ → Words
with_note w a s i n = record w { notes = with_slot_word w.notes a s i n }

-- ---- the area

-- the words with other lines of the area, from one on
abbrev pub with_lines : Words → ℕ → List (List ℕ) → Words
with_lines w x lines = record w { area = laid w.area x lines }

-- ---- the beginning

-- a word of the free list with the bits of so many pool buffers set, or all 64
abbrev pub full_bits : ℕ → ℕ
full_bits n = 2 ^ min n word_bits - 1

-- the free list's word j, where all of so many pool buffers are listed
abbrev pub free_word : ℕ → ℕ → ℕ
free_word buffers j = full_bits (buffers - word_bits * j)

-- the first n words of it
abbrev pub free_list : ℕ → ℕ → List ℕ
free_list buffers zero = []
free_list buffers (suc n) = free_list buffers n ++ free_word buffers n ∷ []

-- The words and the lines at the opening: each pool buffer is listed, and all else is 0.
abbrev pub opened_words : Setting → Words
opened_words setting = record {
  roles = replicate (roles_of setting) 0;
  phases = replicate (roles_of setting) 0;
  pool = replicate (all_buffers setting.layout) 0;
  users = replicate (apps_of setting) (replicate (all_buffers setting.layout) 0);
  free = free_list (pool_buffers setting.layout) (free_words_of setting);
  area = replicate (area_lines setting.layout) (replicate 64 0);
  notes = replicate (apps_of setting) (replicate setting.places (replicate note_width 0));
  refills = replicate (apps_of setting) (replicate setting.places (replicate refill_width 0));
}
