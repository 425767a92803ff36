use Rattle.std.proofs.{Common.{rules, arith, refl, sym, ◌≡◌, None, Some}, lemmas.List.Elements.{All-head}}
use Rattle.board_face.{specs.Texts.{IsSplitNote}, proofs.LookLemmas.{NicRose-later}}
use Rattle.page_pool.specs.{declared.pool.Pending.{Pending}, Pool.{is_short, is_piece}}
use Rattle.page_pool.proofs.Sending.{PoolStands-sent, PoolStands-short, OnlySends-none, OnlySends-sent, OnlySends-short, OnlySends-refused}
use Rattle.page_pool.proofs.flush.nic_flush.Goals.{in-Some+else-not-send_linear, in_default}
use Rattle.page_pool.proofs.flush.nic_flush.Goals as goal

pub returns-then-not-send_linear-clause-answer : goal.returns-then-not-send_linear-clause-answer
returns-then-not-send_linear-clause-answer g c =
    let only = c.if-not-send_linear.ensures.view in (
      c.in-Some.short.app,
      is_short c.in-Some.short (search rules),
      only.rose,
      rw (c.if-not-send_linear.ensures.beside, only.event) (c.if-not-send_linear.ensures.told _ only.rose),
    )

pub returns-then-not-send_linear-clause-sends : goal.returns-then-not-send_linear-clause-sends
returns-then-not-send_linear-clause-sends g c = rw c.if-not-send_linear.ensures.view.event (OnlySends-refused _ _ _ _ (search rules))

pub send-requires-clause-fields : goal.send-requires-clause-fields
send-requires-clause-fields g c =
    let fields = rw c.in-Some-pop_front.ensures.first at c.loop-pending.invariant.stands.fields in
    All-head (λ (p : Pending). IsSplitNote p.note) c.in-Some-pop_front.pending c.pop_front.new.self fields

pub push_front-requires : goal.push_front-requires
push_front-requires g c = let few = c.in-Some-pop_front.ensures.few in let first = c.in-Some-pop_front.ensures.first in omega (arith, rw first at few)

pub returns-in-Err-clause-answer : goal.returns-in-Err-clause-answer
returns-in-Err-clause-answer g c =
    let view = c.in-Err.ensures.view in (
      c.in-Some-pop_front.pending.app,
      is_piece _ _ c.loop-pending.invariant.none c.push_front.ensures,
      NicRose-later _ _ _ _ c.loop-pending.invariant.sends.looks view.1.rose,
      rw (c.in-Err.ensures.beside, view.1.event) (c.in-Err.ensures.told _ view.1.rose),
    )

pub loop-pending-init : goal.loop-pending-init
loop-pending-init g c =
    elim c.match-pool.branch [
      | in-Some+else-not-send_linear w ↦
          let there : c.pool.inside.short ≡ Some w.in-Some.short = w.in-Some.is in
          let pool = sym c.pool.view_is in
          let before = rw pool at c.requires.stands in
          let event = w.if-not-send_linear.ensures.view in
          rw (w.pool-inside-is, w.face-is) (record {
            open_still = rw event c.requires.open;
            none = refl;
            stands = rw event (PoolStands-short _ _ _ _ _ before);
            sends = rw (event, pool) (OnlySends-short _ _ _ there);
            beside = w.if-not-send_linear.ensures.beside;
          })
      | in_default w ↦
          let none : c.pool.inside.short ≡ None = w.in_default.is in
          let pool = sym c.pool.view_is in
          rw (w.pool-inside-is, w.face-is) (record {
            open_still = c.requires.open;
            none = none;
            stands = rw pool at c.requires.stands;
            sends = rw pool (OnlySends-none _ _);
            beside = refl;
          })
    ]

pub loop-pending-preserved : goal.loop-pending-preserved
loop-pending-preserved g c =
    let inv = c.loop-pending.invariant in
    let first = c.in-Some-pop_front.ensures.first in
    rw c.in_default-send.ensures.view (record {
      open_still = inv.open_still;
      none = inv.none;
      stands = PoolStands-sent _ _ _ _ first inv.stands;
      sends = OnlySends-sent _ _ _ _ _ _ first inv.none inv.stands inv.sends;
      beside = cc;
    })
