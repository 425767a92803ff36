use Rattle.std.proofs.{Common.{◌≡◌, inl, inr, arith}, lemmas.{Bool.{cases_lt}, List.{get_or_default}}}
use Rattle.area_layout.proofs.layout.are_areas.Goals as goal

pub loop-buffers-preserved : goal.loop-buffers-preserved
loop-buffers-preserved c = λ k d within.
    elim (cases_lt k c.loop-buffers.buffers-index) [
      | inl lt ↦ c.loop-buffers.invariant k d lt
      | inr ge ↦
          let e : k ≡ c.loop-buffers.buffers-index = omega arith in
          let read = get_or_default c.args.areas.now c.loop-buffers.buffers-index d (0, 0) c.loop-buffers-test.true in
          rw (e, read)
          (record {
            some = (let some = c.if-buffers-eq0.false in omega arith, c.if-buffers-gt-MAX_BUFFERS.false);
            fits = c.is_buffer_size.ensures.0 c.if-not-is_buffer_size.false;
          })
    ]
