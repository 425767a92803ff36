-- Each read goes on behind what was filled before.
use Rattle.std.proofs.{Common.{◌≡◌, ℕ, ◌+◌, ◌≤◌, List, ◌++◌, rules, length, take, ap, ◌∙◌, sym, subst}, lemmas.List.{take-append-le, length-take-le}}
use Rattle.std.{specs.Io.KnownBytes.{Consumes}, proofs.{KnownBytes.{Consumes-trans}, Math.Seq.{take-append-add}}}
use borrow.Rule.Slice.PartMut.{put_mid, post_of}
use Rattle.pcap_reader.proofs.filling.fill.Goals as goal

-- the front of a list whose part behind a was read over
take_over : (a k n : ℕ) (xs ys : List ℕ) → a ≤ length xs → n ≤ length ys → take (a + n) (put_mid a k xs ys) ≡ take a xs ++ take n ys
take_over a k n xs ys within fits =
    let size : length (take a xs) ≡ a = length-take-le a xs within in
    let after = post_of a k xs in
    ap (λ (m : ℕ). take (m + n) (put_mid a k xs ys)) (sym size) ∙ take-append-add (take a xs) (ys ++ after) n
    ∙ ap (λ (l : List ℕ). take a xs ++ l) (take-append-le n ys after fits)

pub loop-filled-preserved : goal.loop-filled-preserved
loop-filled-preserved g c =
    let from = c.loop-filled.filled in
    let within = c.loop-filled.invariant.within in
    record {
      same_room = search rules;
      within = search rules;
      taken = subst (Consumes _ _) (sym (take_over from _ c.in-Ok.count c.loop-filled.into c.read.new.into within c.in-Ok.ensures.bound.0))
          (Consumes-trans _ _ _ _ _ c.loop-filled.invariant.taken c.in-Ok.ensures.bytes.0);
      still = c.in-Ok.ensures.cause.still ∙ c.loop-filled.invariant.still;
    }
