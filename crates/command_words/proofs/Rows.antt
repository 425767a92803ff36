-- The reading at words whose reading was worked out by hand, without options and with some.
use Rattle.std.{specs.Prelude.{◌≡◌, ℕ, true, false, List, [], ◌∷◌, Option, Some, None, codes}, proofs.Common.{refl}}
use Rattle.command_words.specs.{Assigned.{Text, assigned, sorted}, Options.{behaviour_of, options_of, stand_together}, Areas.{pool_areas_of}}
use Rattle.zr_kinds.specs.declared.options.Options.{Options}
use Rattle.command_words.specs.Words.{Shown, make, reading_of, replay}

-- what stands for options that aren't said
abbrev usual : Options
usual = record {
  ring = 64;
  split = 0;
  how = record { hold = 0; leak = 0; stray = 0; quit = None };
  polled = false;
  forward = None;
  events = false;
}

abbrev shown : List ℕ → Option Shown
shown ports = Some (replay (record { ports = ports; areas = (64, 4096) ∷ []; options = usual; turns = None }))

one_port : reading_of (codes "replay" ∷ codes "9000" ∷ []) ≡ shown (9000 ∷ [])
unfolding assigned pool_areas_of options_of behaviour_of stand_together
one_port = refl

in_order : reading_of (codes "replay" ∷ codes "9001" ∷ codes "9000" ∷ []) ≡ shown (9001 ∷ 9000 ∷ [])
unfolding assigned pool_areas_of options_of behaviour_of stand_together
in_order = refl

leading_zero : reading_of (codes "replay" ∷ codes "09000" ∷ []) ≡ shown (9000 ∷ [])
unfolding assigned pool_areas_of options_of behaviour_of stand_together
leading_zero = refl

after_closing : reading_of (codes "replay" ∷ codes "9000" ∷ codes "--" ∷ codes "9001" ∷ []) ≡ shown (9000 ∷ 9001 ∷ [])
unfolding assigned pool_areas_of options_of behaviour_of stand_together
after_closing = refl

largest : reading_of (codes "replay" ∷ codes "65535" ∷ []) ≡ shown (65535 ∷ [])
unfolding assigned pool_areas_of options_of behaviour_of stand_together
largest = refl

too_large : reading_of (codes "replay" ∷ codes "65536" ∷ []) ≡ None
unfolding assigned pool_areas_of options_of behaviour_of stand_together
too_large = refl

port_0 : reading_of (codes "replay" ∷ codes "0" ∷ []) ≡ None
unfolding assigned pool_areas_of options_of behaviour_of stand_together
port_0 = refl

digits_19 : reading_of (codes "replay" ∷ codes "0000000000000009000" ∷ []) ≡ None
unfolding assigned pool_areas_of options_of behaviour_of stand_together
digits_19 = refl

signed : reading_of (codes "replay" ∷ codes "+9000" ∷ []) ≡ None
unfolding assigned pool_areas_of options_of behaviour_of stand_together
signed = refl

no_words : reading_of [] ≡ None
no_words = refl

no_ports : reading_of (codes "replay" ∷ []) ≡ None
unfolding assigned pool_areas_of options_of behaviour_of stand_together
no_ports = refl

same_port : reading_of (codes "replay" ∷ codes "9000" ∷ codes "9000" ∷ []) ≡ None
unfolding assigned pool_areas_of options_of behaviour_of stand_together
same_port = refl

abbrev digits : List Text
digits = codes "1" ∷ codes "2" ∷ codes "3" ∷ codes "4" ∷ codes "5" ∷ codes "6" ∷ codes "7" ∷ codes "8" ∷ []

eight_ports : reading_of (codes "replay" ∷ digits) ≡ shown (1 ∷ 2 ∷ 3 ∷ 4 ∷ 5 ∷ 6 ∷ 7 ∷ 8 ∷ [])
unfolding assigned pool_areas_of options_of behaviour_of stand_together
eight_ports = refl

nine_ports : reading_of (codes "replay" ∷ codes "9" ∷ digits) ≡ None
unfolding assigned pool_areas_of options_of behaviour_of stand_together
nine_ports = refl

help : reading_of (codes "replay" ∷ codes "--help" ∷ []) ≡ None
unfolding assigned pool_areas_of options_of behaviour_of stand_together
help = refl

unknown_option : reading_of (codes "replay" ∷ codes "--sizes=1024" ∷ codes "9000" ∷ []) ≡ None
unfolding assigned pool_areas_of options_of behaviour_of stand_together
unknown_option = refl

-- ---- options

abbrev told : Options → Option Text → Option Shown
told options turns = Some (replay (record { ports = 9000 ∷ []; areas = (64, 4096) ∷ []; options = options; turns = turns }))

abbrev over : List (ℕ × ℕ) → Option Shown
over areas = Some (replay (record { ports = 9000 ∷ []; areas = areas; options = usual; turns = None }))

largest_area : reading_of (codes "replay" ∷ codes "--buffers" ∷ codes "1024" ∷ codes "--size=65536" ∷ codes "9000" ∷ [])
    ≡ over ((1024, 65536) ∷ [])
unfolding assigned pool_areas_of options_of behaviour_of stand_together
largest_area = refl

area_too_large : reading_of (codes "replay" ∷ codes "--buffers" ∷ codes "4096" ∷ codes "--size" ∷ codes "65536" ∷ codes "9000" ∷ []) ≡ None
unfolding assigned pool_areas_of options_of behaviour_of stand_together
area_too_large = refl

two_areas : reading_of (codes "replay" ∷ codes "--areas" ∷ codes "2:1024,1:2048" ∷ codes "9000" ∷ []) ≡ over ((2, 1024) ∷ (1, 2048) ∷ [])
unfolding assigned pool_areas_of options_of behaviour_of stand_together
two_areas = refl

five_areas : reading_of (codes "replay" ∷ codes "--areas=1:1024,1:1024,1:1024,1:1024,1:1024" ∷ codes "9000" ∷ []) ≡ None
unfolding assigned pool_areas_of options_of behaviour_of stand_together
five_areas = refl

areas_and_size : reading_of (codes "replay" ∷ codes "--areas" ∷ codes "1:1024" ∷ codes "--size" ∷ codes "1024" ∷ codes "9000" ∷ []) ≡ None
unfolding assigned pool_areas_of options_of behaviour_of stand_together
areas_and_size = refl

no_power_of_two : reading_of (codes "replay" ∷ codes "--size" ∷ codes "1000" ∷ codes "9000" ∷ []) ≡ None
unfolding assigned pool_areas_of options_of behaviour_of stand_together
no_power_of_two = refl

no_place : reading_of (codes "replay" ∷ codes "--ring" ∷ codes "0" ∷ codes "9000" ∷ []) ≡ None
unfolding assigned pool_areas_of options_of behaviour_of stand_together
no_place = refl

each_behaviour : reading_of (codes "replay" ∷ codes "9000" ∷ codes "--hold=4096" ∷ codes "--leak" ∷ codes "2" ∷ codes "--stray=16" ∷ codes "--quit"
    ∷ codes "0100" ∷ [])
    ≡ told (record usual { how = record { hold = 4096; leak = 2; stray = 16; quit = Some 100 } }) None
unfolding assigned pool_areas_of options_of behaviour_of stand_together
each_behaviour = refl

some_turns : reading_of (codes "replay" ∷ codes "--split=256" ∷ codes "--turns" ∷ codes "nn0n" ∷ codes "9000" ∷ [])
    ≡ told (record usual { split = 256 }) (Some (codes "nn0n"))
unfolding assigned pool_areas_of options_of behaviour_of stand_together
some_turns = refl

no_such_application : reading_of (codes "replay" ∷ codes "--turns" ∷ codes "n1" ∷ codes "9000" ∷ []) ≡ None
unfolding assigned pool_areas_of options_of behaviour_of stand_together
no_such_application = refl

no_turns : reading_of (codes "replay" ∷ codes "--turns=" ∷ codes "9000" ∷ []) ≡ None
unfolding assigned pool_areas_of options_of behaviour_of stand_together
no_turns = refl

-- ---- polled and forwarding

polled : reading_of (codes "replay" ∷ codes "9000" ∷ codes "--polled" ∷ []) ≡ told (record usual { polled = true }) None
unfolding assigned pool_areas_of options_of behaviour_of stand_together
polled = refl

polled_and_split : reading_of (codes "replay" ∷ codes "--polled" ∷ codes "--split=64" ∷ codes "9000" ∷ []) ≡ told (record usual { polled = true; split = 64 }) None
unfolding assigned pool_areas_of options_of behaviour_of stand_together
polled_and_split = refl

polled_twice : reading_of (codes "replay" ∷ codes "--polled" ∷ codes "--polled" ∷ codes "9000" ∷ []) ≡ None
unfolding assigned pool_areas_of options_of behaviour_of stand_together
polled_twice = refl

polled_with_value : reading_of (codes "replay" ∷ codes "--polled=" ∷ codes "9000" ∷ []) ≡ None
unfolding assigned pool_areas_of options_of behaviour_of stand_together
polled_with_value = refl

polled_behind_closing : reading_of (codes "replay" ∷ codes "9000" ∷ codes "--" ∷ codes "--polled" ∷ []) ≡ None
unfolding assigned pool_areas_of options_of behaviour_of stand_together
polled_behind_closing = refl

polled_as_value : reading_of (codes "replay" ∷ codes "--hold" ∷ codes "--polled" ∷ codes "9000" ∷ []) ≡ None
unfolding assigned pool_areas_of options_of behaviour_of stand_together
polled_as_value = refl

polled_and_held : reading_of (codes "replay" ∷ codes "--polled" ∷ codes "--hold" ∷ codes "0" ∷ codes "9000" ∷ []) ≡ None
unfolding assigned pool_areas_of options_of behaviour_of stand_together
polled_and_held = refl

polled_by_turns : reading_of (codes "replay" ∷ codes "--turns=n" ∷ codes "--polled" ∷ codes "9000" ∷ []) ≡ None
unfolding assigned pool_areas_of options_of behaviour_of stand_together
polled_by_turns = refl

largest_delay : reading_of (codes "replay" ∷ codes "--forward" ∷ codes "63" ∷ codes "9000" ∷ []) ≡ told (record usual { forward = Some 63 }) None
unfolding assigned pool_areas_of options_of behaviour_of stand_together
largest_delay = refl

no_delay : reading_of (codes "replay" ∷ codes "--forward=0" ∷ codes "9000" ∷ []) ≡ told (record usual { forward = Some 0 }) None
unfolding assigned pool_areas_of options_of behaviour_of stand_together
no_delay = refl

delay_too_large : reading_of (codes "replay" ∷ codes "--forward" ∷ codes "64" ∷ codes "9000" ∷ []) ≡ None
unfolding assigned pool_areas_of options_of behaviour_of stand_together
delay_too_large = refl

forwarding_and_polled : reading_of (codes "replay" ∷ codes "--forward=0" ∷ codes "--polled" ∷ codes "9000" ∷ []) ≡ None
unfolding assigned pool_areas_of options_of behaviour_of stand_together
forwarding_and_polled = refl

forwarding_and_quit : reading_of (codes "replay" ∷ codes "--quit=1" ∷ codes "--forward=0" ∷ codes "9000" ∷ []) ≡ None
unfolding assigned pool_areas_of options_of behaviour_of stand_together
forwarding_and_quit = refl

-- ---- the record of a run

by_events : reading_of (codes "replay" ∷ codes "--events" ∷ codes "--turns" ∷ codes "n" ∷ codes "9000" ∷ []) ≡ told (record usual { events = true }) (Some (codes "n"))
unfolding assigned pool_areas_of options_of behaviour_of stand_together
by_events = refl

events_behind_turns : reading_of (codes "replay" ∷ codes "--turns=n" ∷ codes "9000" ∷ codes "--events" ∷ []) ≡ told (record usual { events = true }) (Some (codes "n"))
unfolding assigned pool_areas_of options_of behaviour_of stand_together
events_behind_turns = refl

events_without_turns : reading_of (codes "replay" ∷ codes "--events" ∷ codes "9000" ∷ []) ≡ None
unfolding assigned pool_areas_of options_of behaviour_of stand_together
events_without_turns = refl

events_twice : reading_of (codes "replay" ∷ codes "--events" ∷ codes "--events" ∷ codes "--turns=n" ∷ codes "9000" ∷ []) ≡ None
unfolding assigned pool_areas_of options_of behaviour_of stand_together
events_twice = refl

events_with_value : reading_of (codes "replay" ∷ codes "--events=1" ∷ codes "--turns=n" ∷ codes "9000" ∷ []) ≡ None
unfolding assigned pool_areas_of options_of behaviour_of stand_together
events_with_value = refl

events_and_polled : reading_of (codes "replay" ∷ codes "--events" ∷ codes "--polled" ∷ codes "9000" ∷ []) ≡ None
unfolding assigned pool_areas_of options_of behaviour_of stand_together
events_and_polled = refl

events_and_forwarding : reading_of (codes "replay" ∷ codes "--events" ∷ codes "--forward=0" ∷ codes "9000" ∷ []) ≡ None
unfolding assigned pool_areas_of options_of behaviour_of stand_together
events_and_forwarding = refl

-- ---- a seed and a number of frames

abbrev made : ℕ → ℕ → Option Shown
made seed frames = Some (make (record { seed = seed; frames = frames }))

seed_and_frames : reading_of (codes "make" ∷ codes "7" ∷ codes "2000" ∷ []) ≡ made 7 2000
unfolding assigned
seed_and_frames = refl

largest_seed : reading_of (codes "make" ∷ codes "4294967295" ∷ codes "--" ∷ codes "001000000" ∷ []) ≡ made 4294967295 1000000
unfolding assigned
largest_seed = refl

seed_too_large : reading_of (codes "make" ∷ codes "4294967296" ∷ codes "0" ∷ []) ≡ None
unfolding assigned
seed_too_large = refl

too_many_frames : reading_of (codes "make" ∷ codes "7" ∷ codes "1000001" ∷ []) ≡ None
unfolding assigned
too_many_frames = refl

one_number : reading_of (codes "make" ∷ codes "7" ∷ []) ≡ None
unfolding assigned
one_number = refl

three_numbers : reading_of (codes "make" ∷ codes "7" ∷ codes "0" ∷ codes "0" ∷ []) ≡ None
unfolding assigned
three_numbers = refl

make_has_no_option : reading_of (codes "make" ∷ codes "--seed=7" ∷ codes "0" ∷ []) ≡ None
unfolding assigned
make_has_no_option = refl

other_command : reading_of (codes "Make" ∷ codes "7" ∷ codes "0" ∷ []) ≡ None
other_command = refl

-- ---- with two options and two flags

abbrev names : List Text
names = codes "size" ∷ codes "ring" ∷ []

abbrev flags : List Text
flags = codes "loud" ∷ codes "long" ∷ []

both_forms : sorted names flags (codes "--size=1=2" ∷ codes "9000" ∷ codes "--ring" ∷ codes "7" ∷ codes "--" ∷ codes "--size" ∷ [])
    ≡ Some (record { options = (codes "size", codes "1=2") ∷ (codes "ring", codes "7") ∷ []; flags = []; words = codes "9000" ∷ codes "--size" ∷ [] })
unfolding assigned
both_forms = refl

-- a lone dash is a plain word
lone_dash : sorted names flags (codes "--size" ∷ codes "-" ∷ codes "-" ∷ [])
    ≡ Some (record { options = (codes "size", codes "-") ∷ []; flags = []; words = codes "-" ∷ [] })
unfolding assigned
lone_dash = refl

empty_value : sorted names flags (codes "--size=" ∷ []) ≡ Some (record { options = (codes "size", []) ∷ []; flags = []; words = [] })
unfolding assigned
empty_value = refl

no_value : sorted names flags (codes "--size" ∷ []) ≡ None
unfolding assigned
no_value = refl

dashed_value : sorted names flags (codes "--size" ∷ codes "-5" ∷ []) ≡ None
unfolding assigned
dashed_value = refl

closing_value : sorted names flags (codes "--size" ∷ codes "--" ∷ codes "5" ∷ []) ≡ None
unfolding assigned
closing_value = refl

second_use : sorted names flags (codes "--size=1" ∷ codes "--ring=2" ∷ codes "--size" ∷ codes "1" ∷ []) ≡ None
unfolding assigned
second_use = refl

both_flags : sorted names flags (codes "--long" ∷ codes "5" ∷ codes "--loud" ∷ codes "--size" ∷ codes "7" ∷ [])
    ≡ Some (record { options = (codes "size", codes "7") ∷ []; flags = codes "long" ∷ codes "loud" ∷ []; words = codes "5" ∷ [] })
unfolding assigned
both_flags = refl

second_flag : sorted names flags (codes "--loud" ∷ codes "--long" ∷ codes "--loud" ∷ []) ≡ None
unfolding assigned
second_flag = refl

flag_with_value : sorted names flags (codes "--loud=true" ∷ []) ≡ None
unfolding assigned
flag_with_value = refl

flag_as_value : sorted names flags (codes "--size" ∷ codes "--loud" ∷ []) ≡ None
unfolding assigned
flag_as_value = refl

short_option : sorted names flags (codes "-s" ∷ codes "1" ∷ []) ≡ None
unfolding assigned
short_option = refl
