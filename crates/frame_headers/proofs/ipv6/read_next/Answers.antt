-- Passing over an extension header takes one step of the definition, and at least 8 bytes.
use Rattle.std.proofs.{Common.{◌≡◌, ◌∙◌, sym, ℕ, zero, suc, ◌+◌, ◌*◌, ◌≤◌, ◌<◌, true, List, length, refl, arith}, lemmas.Grind.{common_steps}}
use Rattle.frame_headers.specs.{declared.segment.Addr.{Addr}, FrameClass.{ipv6_from, is_extension, byte_at}}
use Rattle.frame_headers.proofs.ipv6.read_next.Goals as goal

-- of enough steps one is left
one_left : (frame : List ℕ) (src dst : Addr) (next at end steps : ℕ) → at ≤ end → end < at + 8 * steps
    → (rest : ℕ) × (end < at + 8 * suc rest) × (ipv6_from steps frame src dst next at end ≡ ipv6_from (suc rest) frame src dst next at end)
one_left frame src dst next at end zero within enough = absurd (omega arith)
one_left frame src dst next at end (suc rest) within enough = (rest, enough, refl)

-- the step over an extension header of this length
passed_over : (frame : List ℕ) (src dst : Addr) (next at end steps len : ℕ) → len ≡ byte_at frame (at + 1)
    → is_extension next ≡ true → at + 8 ≤ end → at + 2 ≤ length frame → at + 8 * (len + 1) ≤ end
    → ipv6_from (suc steps) frame src dst next at end ≡ ipv6_from steps frame src dst (byte_at frame at) (at + 8 * (len + 1)) end
unfolding ipv6_from
passed_over frame src dst next at end steps len is_len extension least captured within = grind (arith, common_steps)

pub loop-src-init : goal.loop-src-init
loop-src-init g c =
    (omega arith, c.requires.0, one_left c.args.frame.now c.args.src c.args.dst c.args.next c.args.at c.args.end g.steps c.requires.0 c.requires.1.1)

pub loop-src-preserved : goal.loop-src-preserved
loop-src-preserved g c =
    let here = c.loop-src.invariant.2 in
    let frame = c.args.frame.now in
    let at = c.loop-src.at in
    let left = one_left frame c.args.src c.args.dst (byte_at frame at) (at + 8 * (c.from.result + 1)) c.args.end here.0 (omega arith) (omega (arith, here.1)) in
    let passed = passed_over frame c.args.src c.args.dst c.loop-src.next at c.args.end here.0 c.from.result c.from.ensures
    (sym c.is_passed_over.ensures ∙ c.loop-src-test.true) (omega arith) (omega arith) (omega arith) in
    (omega (arith, c.loop-src.invariant.0), omega arith, (left.0, left.1, here.2 ∙ passed ∙ left.2))
