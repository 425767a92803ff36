-- What an event of the card leaves that sends nothing, deals with nothing and keeps the setting.
use Rattle.std.{proofs.{Common.{◌≡◌, ℕ, ◌<◌, ◌≤◌, true, List, length, set, ap, sym, ◌∙◌, arith}, lemmas.Bool.{false≢true}}, specs.Prelude.{◌≢◌, All}}
use Rattle.std.proofs.lemmas.List.Elements.{All-weaker}
use Rattle.area_layout.specs.Layout.{all_buffers}
use Rattle.board_face.specs.{Sides.{nic_at}, Holders.{lowered_in_hand}, Counts.{pool_count, EndedWereReturned}, NicCalls.{apps_of, IsOpen, HasNoToken}}
use Rattle.board_face.specs.declared.views.{parts.Setting.{Setting}, nic.{NicView.{NicView}, NicSide.{NicSide}}, app.AppSide.{AppSide}}
use Rattle.board_face.proofs.{NicLemmas.{user_count-nic}, RelayLemmas.{Relayed-nic}}
use Rattle.plain_board.specs.{Returns.{AreReturns}, Stand.{Arrays, Stand}, Sound.{IsSound, IsSet, AreCounted, AreRelayed, AreBooked, IsPhased, ArePhased}}
use Rattle.zr_kinds.proofs.Lists.{counts-set}

-- the board's setting is that of its arrays
pub within-setting : (board : Stand) (a : ℕ) → IsSound board → a < apps_of board.nic.view.setting → a < board.arrays.layout.reserves
within-setting board a sound few = omega (arith, few, ap (λ s. s.layout.reserves) sound.set.card)

pub IsSet-nic : (setting : Setting) (nic : NicSide) (v : NicView) (apps : List AppSide) → v.setting ≡ nic.view.setting → IsSet setting nic apps
    → IsSet setting (nic_at nic v) apps
IsSet-nic setting nic v apps same h = record {
  card = rw same h.card;
  card_rest = h.card_rest;
  many = h.many;
  numbers = h.numbers;
  roles = h.roles;
  roles_rest = h.roles_rest;
}

pub EndedWereReturned-nic : (nic : NicSide) (v : NicView) (apps : List AppSide) → v.dealt ≡ nic.view.dealt → (b : ℕ)
    → All (EndedWereReturned b nic) apps → All (EndedWereReturned b (nic_at nic v)) apps
EndedWereReturned-nic nic v apps deals b all =
    All-weaker (EndedWereReturned b nic) (EndedWereReturned b (nic_at nic v))
    (λ app h. record { ended = rw deals h.ended; returning = rw deals h.returning }) apps all

pub AreRelayed-nic : (arrays now : Arrays) (nic : NicSide) (v : NicView) (apps : List AppSide) → v.sent ≡ nic.view.sent → v.dealt ≡ nic.view.dealt
    → now.notes ≡ arrays.notes → now.refills ≡ arrays.refills → now.places ≡ arrays.places
    → AreRelayed arrays nic apps → AreRelayed now (nic_at nic v) apps
AreRelayed-nic arrays now nic v apps sents deals notes refills places h = record {
  relayed = λ a app here. rw (notes, refills) (Relayed-nic nic v app _ _ sents deals (h.relayed a app here));
  notes = rw (notes, places) h.notes;
  refills = rw (refills, places) h.refills;
}

-- Where a count is set to what the holders of one buffer came to be, and no other buffer's changed, counts are holders.
pub AreCounted-nic : (arrays now : Arrays) (nic : NicSide) (v : NicView) (apps : List AppSide) (i n : ℕ) → v.dealt ≡ nic.view.dealt
    → now.layout ≡ arrays.layout → now.users ≡ arrays.users → now.pool ≡ set arrays.pool i n
    → i < all_buffers arrays.layout → length arrays.pool ≡ all_buffers arrays.layout → n ≡ pool_count i (nic_at nic v) apps
    → ((b : ℕ) → b ≢ i → pool_count b (nic_at nic v) apps ≡ pool_count b nic apps)
    → AreCounted arrays nic apps → AreCounted now (nic_at nic v) apps
AreCounted-nic arrays now nic v apps i n deals layout users pool there many here others h = record {
  pool = λ b within. rw pool (counts-set (all_buffers arrays.layout) arrays.pool (λ b. pool_count b nic apps) (λ b. pool_count b (nic_at nic v) apps) i n
      (omega arith) h.pool here others b (rw (← layout) within));
  users = λ a b app within. rw (users, layout) (h.users a b app (rw (← layout) within) ∙ sym (user_count-nic a b nic v apps deals));
  beyond = λ b past. others b (λ e. absurd (let past' : all_buffers arrays.layout ≤ b = rw (← layout) past in omega arith))
      ∙ h.beyond b (rw (← layout) past);
  returned = λ b. EndedWereReturned-nic nic v apps deals b (h.returned b);
}

-- Where no buffer's holders changed in number, counts are holders.
pub AreCounted-same : (arrays now : Arrays) (nic : NicSide) (v : NicView) (apps : List AppSide) → v.dealt ≡ nic.view.dealt → now.layout ≡ arrays.layout
    → now.users ≡ arrays.users → now.pool ≡ arrays.pool
    → ((b : ℕ) → pool_count b (nic_at nic v) apps ≡ pool_count b nic apps) → AreCounted arrays nic apps → AreCounted now (nic_at nic v) apps
AreCounted-same arrays now nic v apps deals layout users pool same h = record {
  pool = λ b within. rw pool (h.pool b (rw (← layout) within)) ∙ sym (same b);
  users = λ a b app within. rw (users, layout) (h.users a b app (rw (← layout) within) ∙ sym (user_count-nic a b nic v apps deals));
  beyond = λ b past. same b ∙ h.beyond b (rw (← layout) past);
  returned = λ b. EndedWereReturned-nic nic v apps deals b (h.returned b);
}

-- no entry is in hand between two calls
pub none-lowered : (setting : Setting) (nic : NicSide) (apps : List AppSide) → IsSet setting nic apps → (a b : ℕ)
    → lowered_in_hand a b nic.inside.entry ≡ 0
none-lowered setting nic apps set a b = ap (λ inside. lowered_in_hand a b inside.entry) set.card_rest

pub AreReturns-nic : (nic : NicSide) (v : NicView) (app : AppSide) → v.dealt ≡ nic.view.dealt → AreReturns nic app → AreReturns (nic_at nic v) app
AreReturns-nic nic v app deals h = record {
  written = h.written;
  owed = λ b. rw deals (h.owed b);
  no_more = λ b. rw deals (h.no_more b);
  clear = λ b. rw deals (h.clear b);
  named = rw deals h.named;
  settled = λ e. rw deals (h.settled e);
  quiet = λ e. rw deals (h.quiet e);
  scrubbed = λ e. rw deals (h.scrubbed e);
  strays = rw deals h.strays;
}

pub AreBooked-nic : (arrays now : Arrays) (nic : NicSide) (v : NicView) (apps : List AppSide) → v.dealt ≡ nic.view.dealt → now.layout ≡ arrays.layout
    → now.loans ≡ arrays.loans → now.filled ≡ arrays.filled → now.raw ≡ arrays.raw → AreBooked arrays nic apps
    → AreBooked now (nic_at nic v) apps
AreBooked-nic arrays now nic v apps deals layout loans filled raw h = record {
  loans = λ a b app here within. rw (loans, layout) (h.loans a b app here (rw (← layout) within));
  filled = λ a app here. rw filled (h.filled a app here);
  raw = λ a app here. rw (raw, deals) (h.raw a app here);
}

-- No more is sent and dealt with, and where the card has ended it stays so, with no token out.
pub ArePhased-nic : (nic : NicSide) (v : NicView) (apps : List AppSide) → v.sent ≡ nic.view.sent → v.dealt ≡ nic.view.dealt
    → (nic.view.ended ≡ true → v.ended ≡ true) → (v.ended ≡ true → HasNoToken v) → ArePhased nic apps → ArePhased (nic_at nic v) apps
ArePhased-nic nic v apps sents deals ends none h = record {
  card = none;
  sides = All-weaker (IsPhased nic) (IsPhased (nic_at nic v))
      (λ app p. record {
        ended = λ e. (ends (p.ended e).0, rw sents (p.ended e).1);
        scrubbed = λ e. ((p.scrubbed e).0, λ b. rw deals ((p.scrubbed e).1 b));
        left = p.left;
      })
      apps h.sides;
}

-- As long as the card hasn't ended, no application was told the end, so it may send.
pub ArePhased-open : (nic : NicSide) (v : NicView) (apps : List AppSide) → IsOpen nic.view → v.dealt ≡ nic.view.dealt → v.ended ≡ nic.view.ended
    → ArePhased nic apps → ArePhased (nic_at nic v) apps
ArePhased-open nic v apps running deals same h = record {
  card = λ e. absurd (false≢true (sym running ∙ (sym same ∙ e)));
  sides = All-weaker (IsPhased nic) (IsPhased (nic_at nic v))
      (λ app p. record {
        ended = λ e. absurd (false≢true (sym running ∙ (p.ended e).0));
        scrubbed = λ e. ((p.scrubbed e).0, λ b. rw deals ((p.scrubbed e).1 b));
        left = p.left;
      })
      apps h.sides;
}
