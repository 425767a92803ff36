-- The lines of a record and what is read of them.
use Rattle.std.proofs.Common.{◌≡◌, ◌∙◌, ℕ, ◌<◌, ◌^◌, List, [], ◌∷◌, map, Bool, true, false, refl, sym, ap, subst, rules, inl, Option, Some, None, lit<}
use Rattle.std.specs.{Prelude.{if◌then◌else◌, option_and_then, codes}, Fmt.{decimal}, List.{AllByRecursion, join_with_byte}, Str.{bytes_eq}}
use Rattle.std.proofs.lemmas.{Slice.Eq.{bytes_eq-Decides}, List.Splits.{join_with_byte-slice_split}}
use Rattle.zr_kinds.specs.{declared.event.Event.{Event}, LegalRun.{HasSmallNumbers}, RunText.{RecordText, last_line, line_of, name_of, numbers_of}}
use Rattle.zr_kinds.specs.declared.event.Event.TheVariants as event
use Rattle.run_check.{specs.Reading.{all_numbers, event_by, event_from, event_of, parts_of}, proofs.Numerals.{all_numbers-decimal, decimal-all_numbers}}
use Rattle.run_check.proofs.Parting.{Lacks, lack_decimals, lacks_from_test, lacks_joined, parts_of-joined}

-- ---- an event's line is read as the event

event_from-own : (e : Event) → event_from (name_of e) (numbers_of e) ≡ Some e
event_from-own (event.Take b p) = refl
event_from-own (event.Place b o l p) = refl
event_from-own (event.Sent a b o l) = refl
event_from-own (event.Held a b o l) = refl
event_from-own (event.Cut a b o l m p) = refl
event_from-own (event.Lend a b o l p u) = refl
event_from-own (event.Back a b o l u) = refl
event_from-own (event.Honour a b p u) = refl
event_from-own (event.Stray a) = refl
event_from-own (event.Free a b o l p) = refl
event_from-own (event.Spare a b p) = refl
event_from-own (event.Own a b l p u) = refl
event_from-own (event.Shut b p) = refl
event_from-own (event.Scrub a b p u) = refl

name_lacks_spaces : (e : Event) → Lacks 32 (name_of e)
name_lacks_spaces (event.Take b p) = lacks_from_test 32 (codes "take") refl
name_lacks_spaces (event.Place b o l p) = lacks_from_test 32 (codes "place") refl
name_lacks_spaces (event.Sent a b o l) = lacks_from_test 32 (codes "sent") refl
name_lacks_spaces (event.Held a b o l) = lacks_from_test 32 (codes "held") refl
name_lacks_spaces (event.Cut a b o l m p) = lacks_from_test 32 (codes "cut") refl
name_lacks_spaces (event.Lend a b o l p u) = lacks_from_test 32 (codes "lend") refl
name_lacks_spaces (event.Back a b o l u) = lacks_from_test 32 (codes "back") refl
name_lacks_spaces (event.Honour a b p u) = lacks_from_test 32 (codes "honour") refl
name_lacks_spaces (event.Stray a) = lacks_from_test 32 (codes "stray") refl
name_lacks_spaces (event.Free a b o l p) = lacks_from_test 32 (codes "free") refl
name_lacks_spaces (event.Spare a b p) = lacks_from_test 32 (codes "spare") refl
name_lacks_spaces (event.Own a b l p u) = lacks_from_test 32 (codes "own") refl
name_lacks_spaces (event.Shut b p) = lacks_from_test 32 (codes "shut") refl
name_lacks_spaces (event.Scrub a b p u) = lacks_from_test 32 (codes "scrub") refl

name_lacks_feeds : (e : Event) → Lacks 10 (name_of e)
name_lacks_feeds (event.Take b p) = lacks_from_test 10 (codes "take") refl
name_lacks_feeds (event.Place b o l p) = lacks_from_test 10 (codes "place") refl
name_lacks_feeds (event.Sent a b o l) = lacks_from_test 10 (codes "sent") refl
name_lacks_feeds (event.Held a b o l) = lacks_from_test 10 (codes "held") refl
name_lacks_feeds (event.Cut a b o l m p) = lacks_from_test 10 (codes "cut") refl
name_lacks_feeds (event.Lend a b o l p u) = lacks_from_test 10 (codes "lend") refl
name_lacks_feeds (event.Back a b o l u) = lacks_from_test 10 (codes "back") refl
name_lacks_feeds (event.Honour a b p u) = lacks_from_test 10 (codes "honour") refl
name_lacks_feeds (event.Stray a) = lacks_from_test 10 (codes "stray") refl
name_lacks_feeds (event.Free a b o l p) = lacks_from_test 10 (codes "free") refl
name_lacks_feeds (event.Spare a b p) = lacks_from_test 10 (codes "spare") refl
name_lacks_feeds (event.Own a b l p u) = lacks_from_test 10 (codes "own") refl
name_lacks_feeds (event.Shut b p) = lacks_from_test 10 (codes "shut") refl
name_lacks_feeds (event.Scrub a b p u) = lacks_from_test 10 (codes "scrub") refl

pub event_of-line_of : (e : Event) → HasSmallNumbers e → event_of (line_of e) ≡ Some e
unfolding line_of
event_of-line_of e small =
    ap event_by (parts_of-joined 32 (name_of e) (map decimal (numbers_of e)) (name_lacks_spaces e) (lack_decimals 32 (numbers_of e) (inl (lit< tt)) small))
    ∙ ap (option_and_then (event_from (name_of e))) (all_numbers-decimal (numbers_of e) small) ∙ event_from-own e

-- a line of a run has no line feed
pub line_of-one : (e : Event) → HasSmallNumbers e → Lacks 10 (line_of e)
unfolding line_of
line_of-one e small =
    lacks_joined 10 32 (name_of e ∷ map decimal (numbers_of e)) refl (name_lacks_feeds e, lack_decimals 10 (numbers_of e) (inl (lit< tt)) small)

-- ---- a line that is read as an event is that event's

abbrev Named : RecordText → List ℕ → Event → Type 0
Named name numbers e = (name ≡ name_of e) × (numbers ≡ numbers_of e)

if_is : (t : Bool) (x : Event) (others : Option Event) (e : Event) (P : Event → Type 0) → (if t then Some x else others) ≡ Some e → (t ≡ true → P x)
    → (others ≡ Some e → P e) → P e
if_is true x others e P is first later = let same : x ≡ e = cc in subst P same (first refl)
if_is false x others e P is first later = later is

same_text : (name : RecordText) (other : RecordText) → bytes_eq name other ≡ true → name ≡ other
same_text name other t = search (rules, bytes_eq-Decides)

event_from-named : (name : RecordText) (numbers : List ℕ) (e : Event) → event_from name numbers ≡ Some e → Named name numbers e
event_from-named name (a ∷ []) e is =
    if_is _ _ _ e (Named name (a ∷ [])) is (λ t. (same_text name (codes "stray") t, refl)) (λ is0. cc)
event_from-named name (a ∷ b ∷ []) e is =
    if_is _ _ _ e (Named name (a ∷ b ∷ [])) is (λ t. (same_text name (codes "take") t, refl)) (λ is0. if_is _ _ _ e (Named name (a ∷ b ∷ [])) is0 (λ t. (same_text name (codes "shut") t, refl)) (λ is1. cc))
event_from-named name (a ∷ b ∷ c ∷ []) e is =
    if_is _ _ _ e (Named name (a ∷ b ∷ c ∷ [])) is (λ t. (same_text name (codes "spare") t, refl)) (λ is0. cc)
event_from-named name (a ∷ b ∷ c ∷ d ∷ []) e is =
    if_is _ _ _ e (Named name (a ∷ b ∷ c ∷ d ∷ [])) is (λ t. (same_text name (codes "place") t, refl)) (λ is0. if_is _ _ _ e (Named name (a ∷ b ∷ c ∷ d ∷ [])) is0 (λ t. (same_text name (codes "sent") t, refl)) (λ is1. if_is _ _ _ e (Named name (a ∷ b ∷ c ∷ d ∷ [])) is1 (λ t. (same_text name (codes "held") t, refl)) (λ is2. if_is _ _ _ e (Named name (a ∷ b ∷ c ∷ d ∷ [])) is2 (λ t. (same_text name (codes "honour") t, refl)) (λ is3. if_is _ _ _ e (Named name (a ∷ b ∷ c ∷ d ∷ [])) is3 (λ t. (same_text name (codes "scrub") t, refl)) (λ is4. cc)))))
event_from-named name (a ∷ b ∷ c ∷ d ∷ x ∷ []) e is =
    if_is _ _ _ e (Named name (a ∷ b ∷ c ∷ d ∷ x ∷ [])) is (λ t. (same_text name (codes "back") t, refl)) (λ is0. if_is _ _ _ e (Named name (a ∷ b ∷ c ∷ d ∷ x ∷ [])) is0 (λ t. (same_text name (codes "free") t, refl)) (λ is1. if_is _ _ _ e (Named name (a ∷ b ∷ c ∷ d ∷ x ∷ [])) is1 (λ t. (same_text name (codes "own") t, refl)) (λ is2. cc)))
event_from-named name (a ∷ b ∷ c ∷ d ∷ x ∷ f ∷ []) e is =
    if_is _ _ _ e (Named name (a ∷ b ∷ c ∷ d ∷ x ∷ f ∷ [])) is (λ t. (same_text name (codes "cut") t, refl)) (λ is0. if_is _ _ _ e (Named name (a ∷ b ∷ c ∷ d ∷ x ∷ f ∷ [])) is0 (λ t. (same_text name (codes "lend") t, refl)) (λ is1. cc))
event_from-named name numbers e is = cc

from_numbers : (name : RecordText) (words : List RecordText) (numbers : Option (List ℕ)) (e : Event) → all_numbers words ≡ numbers
    → option_and_then (event_from name) numbers ≡ Some e → (name ∷ words ≡ name_of e ∷ map decimal (numbers_of e)) × HasSmallNumbers e
from_numbers name words None e read is = cc
from_numbers name words (Some numbers) e read is =
    let written = decimal-all_numbers words numbers read in
    let named = event_from-named name numbers e is in
    let same : numbers ≡ numbers_of e = named.1 in
    let first : name ≡ name_of e = named.0 in
    let words_are : words ≡ map decimal (numbers_of e) = written.0 ∙ ap (map decimal) same in
    (cc, subst (λ ns. AllByRecursion (λ n. n < 2 ^ 32) ns) same written.1)

from_words : (words : List RecordText) (e : Event) → event_by words ≡ Some e → (words ≡ name_of e ∷ map decimal (numbers_of e)) × HasSmallNumbers e
from_words [] e is = cc
from_words (name ∷ words) e is = from_numbers name words (all_numbers words) e refl is

pub line_of-event_of : (line : RecordText) (e : Event) → event_of line ≡ Some e → (line ≡ line_of e) × HasSmallNumbers e
unfolding line_of
line_of-event_of line e is =
    let words = from_words (parts_of 32 line) e is in
    (sym (join_with_byte-slice_split 32 line) ∙ ap (join_with_byte 32) words.0, words.1)

-- ---- the last line is no event's

pub last_line-no_event : (whole : Bool) → event_of (last_line whole) ≡ None
last_line-no_event true = refl
last_line-no_event false = refl

pub last_line-one : (whole : Bool) → Lacks 10 (last_line whole)
last_line-one true = lacks_from_test 10 (codes "end") refl
last_line-one false = lacks_from_test 10 (codes "more") refl
