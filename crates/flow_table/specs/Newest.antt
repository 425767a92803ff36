-- A map from each key to the number of its newest flow.
use Rattle.std.specs.{Prelude.{◌≡◌, ℕ, List, Option, option_map, map}, declared.random_state.RandomState.{RandomState}}
use Rattle.indexmap.specs.IndexMap.{IndexMap, get}
use Rattle.flow_table.specs.{Flows.{Numbered, newest}, declared.entry.{Key.{Key}, FlowEntry.{FlowEntry}}, Kept.{key_shown, entry_shown, key_eq}}

abbrev pub newest_number : Key → List FlowEntry → Option ℕ
newest_number key entries = option_map (λ (found : Numbered). found.number) (newest (key_shown key) (map entry_shown entries))

abbrev pub HasNewest : List FlowEntry → IndexMap Key ℕ RandomState → Type 0
HasNewest entries numbers = (key : Key) → get key_eq numbers key ≡ newest_number key entries
