-- A stream that has taken no step.
use Rattle.std.proofs.Common.{◌≡◌, ℕ, [], length, refl, sym, ap, subst, arith, true, false}
use Rattle.board_face.specs.declared.views.app.AppView.{AppView}
use Rattle.flow_queues.specs.Core.{total, LieApart, own_notes, has_at, is_odd, held_len}
use Rattle.zc_poll.specs.{Standing.{Desk, StreamStands}, Fresh.{HasDoneNothing, new_stream_desk}}

module _ (app : ℕ) (v : AppView) (new : HasDoneNothing app v) where
  apart : LieApart v
  apart = record {
    once = λ b x. omega (arith, ap (total (λ h. has_at b x h.place)) new.helds, ap (total (λ l. has_at b x l.place)) new.loans);
    some = omega (arith, ap (total (λ h. is_odd v.setting.layout h.place)) new.helds, ap (total (λ l. is_odd v.setting.layout l.place)) new.loans);
  }

  new-stands : StreamStands (new_stream_desk app) v
  new-stands = record {
    common = record {
      here = new.here;
      settled = new.settled;
      counted = new.counted;
      bare = λ is. (let clash : true ≡ false = sym is in absurd (cc));
      owns = new.owns;
      app = new.app_is;
      ended = new.ended;
      apart = apart;
      found = tt;
      distinct = λ n. omega arith;
      few = omega (arith, ap length new.loans, ap length new.returned);
    };
    going = λ _ _. record {
      out = [];
      stand = record {
        stands = record {
          tokens = record { apart = apart; helds = λ f. ap (total f) new.helds; loans = λ f. ap (total f) new.loans };
          notes = sym (ap length new.taken);
          distinct = λ n. omega arith;
          flows = tt;
          known = λ n _. ap (own_notes n) new.taken;
          posted = tt;
          lent = tt;
          due_lent = tt;
          counted = new.counted;
        };
        rest = tt;
        index = λ number. refl;
        bounded = record {
          spares = omega (arith, new.spares);
          loans = omega (arith, ap length new.loans, ap length new.returned, ap (total held_len) new.helds);
        };
      };
    };
    released = λ _. new.helds;
    whole = λ is _. absurd (cc);
  }

  pub stands-at-first : (st : Desk) → st ≡ new_stream_desk app → StreamStands st v
  stands-at-first st e = subst (λ (d : Desk). StreamStands d v) (sym e) new-stands
