-- What the entries of a table stand for.
use Rattle.std.specs.Prelude.{Bool}
use Rattle.flow_table.specs.{CountedPart.{FlowClose}, declared.{close.Close.{Close}, entry.{Key.{Key}, FlowEntry.{FlowEntry}}}, Flows.{FlowKey, Flow}}
use Rattle.flow_table.specs.contracts.entry.KeyPartialEq.TheImpl as key_partial_eq

abbrev pub close_shown : Close → FlowClose
close_shown c = record { fin = c.fin; reset = c.reset }

abbrev pub key_shown : Key → FlowKey
key_shown k = record { src = k.src; dst = k.dst; sport = k.sport; dport = k.dport }

abbrev pub entry_shown : FlowEntry → Flow
entry_shown e = record { key = key_shown e.key; app = e.app; base = e.base; close = close_shown e.close }

-- the `==` of keys
abbrev pub key_eq : Key → Key → Bool
key_eq = (key_partial_eq.ghosts).eq
