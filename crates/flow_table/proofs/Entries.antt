-- The entries of a table, the flows that they stand for, and the map of the newest.
use Rattle.std.proofs.Common.{◌≡◌, ℕ, zero, suc, ◌+◌, ◌<◌, List, [], ◌∷◌, ◌++◌, length, map, set, get_or, Option, Some, Bool, true}
use Rattle.std.{proofs.Common.{false, cond, refl, sym, ap, ◌∙◌, arith, rules, if◌then◌else◌, option_map}, specs.declared.random_state.RandomState.{RandomState}}
use Rattle.std.{specs.List.{slice_get}, proofs.lemmas.{List.{map-append, length-map}, Option.{slice_get-map, slice_get-get_or}}}
use Rattle.indexmap.specs.IndexMap.{IndexMap, get}
use Rattle.flow_table.specs.{Steered.{SteeredTcp}, Flows.{Flow, Numbered, same_key, newest, seen_by, with_segment}, declared.entry.{Key.{Key}, FlowEntry.{FlowEntry}}}
use Rattle.flow_table.{specs.{Kept.{key_shown, entry_shown, key_eq}, Newest.{newest_number, HasNewest}}, proofs.{Newest.{newest_from-push}, Listing.{newest-seen}}}

pub shown_at : (entries : List FlowEntry) (n : ℕ) (d : FlowEntry) → n < length (map entry_shown entries)
    → slice_get (map entry_shown entries) n ≡ Some (entry_shown (get_or entries n d))
shown_at entries n d below =
    slice_get-map entry_shown entries n ∙ ap (option_map entry_shown) (slice_get-get_or entries n d (omega (arith, length-map entries entry_shown)))

pub entries-seen : (entries : List FlowEntry) (n : ℕ) (steered : SteeredTcp) (d later : FlowEntry) → n < length entries
    → entry_shown later ≡ seen_by (entry_shown (get_or entries n d)) steered.segment
    → map entry_shown (set entries n later) ≡ with_segment (map entry_shown entries) n steered
entries-seen [] n steered d later below seen = absurd (omega arith)
entries-seen (entry ∷ entries) zero steered d later below seen = ap (λ f. f ∷ map entry_shown entries) seen
entries-seen (entry ∷ entries) (suc n) steered d later below seen =
    ap (λ fs. entry_shown entry ∷ fs) (entries-seen entries n steered d later (omega arith) seen)

pub HasNewest-seen : (entries after : List FlowEntry) (numbers : IndexMap Key ℕ RandomState) (n : ℕ) (steered : SteeredTcp)
    → n < length (map entry_shown entries) → map entry_shown after ≡ with_segment (map entry_shown entries) n steered → HasNewest entries numbers
    → HasNewest after numbers
HasNewest-seen entries after numbers n steered below seen has key =
    has key ∙ sym (ap (λ fs. option_map (λ (f : Numbered). f.number) (newest (key_shown key) fs)) seen
    ∙ newest-seen (key_shown key) (map entry_shown entries) n steered below)

pub key_eq-shown : (a b : Key) → key_eq a b ≡ same_key (key_shown a) (key_shown b)
key_eq-shown a b = search rules

number_if : (b : Bool) (found : Numbered) (before : Option Numbered)
    → option_map (λ (f : Numbered). f.number) (if b then Some found else before) ≡ cond b (Some found.number)
    (option_map (λ (f : Numbered). f.number) before)
number_if true found before = refl
number_if false found before = refl

pub HasNewest-begun : (entries after : List FlowEntry) (numbers more : IndexMap Key ℕ RandomState) (entry : FlowEntry) (n : ℕ)
    → n ≡ length (map entry_shown entries) → after ≡ entries ++ entry ∷ []
    → ((key : Key) → get key_eq more key ≡ cond (key_eq entry.key key) (Some n) (get key_eq numbers key)) → HasNewest entries numbers
    → HasNewest after more
HasNewest-begun entries after numbers more entry n count pushed inserted has key =
    let flows : List Flow = map entry_shown entries in
    let last : Numbered = record { number = 0 + length flows; flow = entry_shown entry } in
    inserted key
    ∙ ap (λ b. cond b (Some n) (get key_eq numbers key)) (key_eq-shown entry.key key)
    ∙ ap (λ k. cond (same_key (key_shown entry.key) (key_shown key)) (Some k) (get key_eq numbers key)) (count ∙ omega arith)
    ∙ ap (λ o. cond (same_key (key_shown entry.key) (key_shown key)) (Some (0 + length flows)) o) (has key)
    ∙ sym (ap (λ es. newest_number key es) pushed
    ∙ ap (λ fs. option_map (λ (f : Numbered). f.number) (newest (key_shown key) fs)) (map-append entry_shown entries (entry ∷ []))
    ∙ ap (option_map (λ (f : Numbered). f.number)) (newest_from-push (key_shown key) 0 flows (entry_shown entry))
    ∙ number_if (same_key (key_shown entry.key) (key_shown key)) last (newest (key_shown key) flows))
