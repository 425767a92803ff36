-- The sides of a board that was just opened: nobody has done anything.
use Rattle.std.specs.Prelude.{ℕ, zero, suc, true, false, List, [], ◌∷◌, None, replicate}
use Rattle.area_layout.specs.Layout.{all_buffers}
use Rattle.board_face.specs.{NicCalls.{apps_of}, declared.views.{parts.{Setting.{Setting}, Slot.{Slot}}, nic.{NicView.{NicView}, NicSide.{NicSide}}}}
use Rattle.board_face.specs.declared.views.app.{AppView.{AppView}, AppSide.{AppSide}}

abbrev pub new_nic_view : Setting → NicView
new_nic_view setting = record {
  setting = setting;
  ended = false;
  cache = [];
  swept = [];
  used = [];
  owns = [];
  pieces = [];
  sent = [];
  dealt = [];
  gone = [];
  looks = [];
}

abbrev pub new_app_view : Setting → ℕ → AppView
new_app_view setting a = record {
  setting = setting;
  app = a;
  left = false;
  settled = true;
  quiet = false;
  scrubbed = false;
  ended = false;
  spares = 0;
  picked = [];
  helds = [];
  owns = [];
  loans = [];
  returned = [];
  taken = [];
  written = [];
  reads = [];
  looks = [];
}

-- a slot of which nothing was seen
abbrev pub unseen : Slot
unseen = record { seen = false; words = [] }

abbrev pub new_nic : Setting → NicSide
new_nic setting = record {
  view = new_nic_view setting;
  inside = record {
    hands = [];
    making = None;
    entry = None;
    note_slots = replicate (apps_of setting) unseen;
    refill_slots = replicate (apps_of setting) unseen;
  };
}

abbrev pub new_app : Setting → ℕ → AppSide
new_app setting a = record {
  view = new_app_view setting a;
  inside = record {
    hands = [];
    making = None;
    note_slot = unseen;
    refill_slot = unseen;
    free_slots = [];
    raw_slot = None;
    end_seen = false;
    end_unseen = false;
    words_without = [];
    reserve_seen_free = false;
    scrub_mark = 0;
    scrub_took = replicate (all_buffers setting.layout) 0;
    scrub_owes = replicate (all_buffers setting.layout) 0;
  };
}

-- applications that have done nothing, numbered from the first on
abbrev pub new_apps : Setting → ℕ → ℕ → List AppSide
new_apps setting first zero = []
new_apps setting first (suc n) = new_app setting first ∷ new_apps setting (suc first) n
