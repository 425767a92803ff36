-- The first section header, whose type was read before.
use Rattle.std.proofs.{Common.{◌≡◌, ◌-◌, ◌<◌, ◌++◌, ℕ, Option, List, [], length, ap, refl, arith, sym, subst, ◌∙◌, length-append}, lemmas.Result.{err_from_is_err_and}}
use Rattle.std.proofs.lemmas.List.{take_at, take_all}
use Rattle.zr_kinds.specs.declared.fault.Fault.{Fault}
use Rattle.zr_io.proofs.Moved.{Took-weaker}
use Rattle.pcap_reader.{proofs.Joined.{fronts-short}, specs.declared.order.ByteOrder.TheVariants.{Little}}
use Rattle.pcapng_reader.specs.{Blocks.{Section, block_fault, blocks_in, no_section}, Steps.{told, head_bytes, fault_from, BlockStops, IsCutBefore, IsHeaderFault}}
use Rattle.pcapng_reader.proofs.{BlockLaws.{fault-start}, BlockSteps.{stops-broken, stops-behind, cut-behind, took-behind}, Heads.{kind_of_first, head_cut}}
use Rattle.pcapng_reader.proofs.WholeBlocks.{section-same}
use Rattle.pcapng_reader.proofs.blocks.BlockCapture.open_rest.Goals as goal

start_cuts : (start : List ℕ) → length start ≡ 8 → IsCutBefore (block_fault no_section) start
start_cuts start eight = fronts-short _ start (λ front short. fault-start no_section front (omega arith))

in_section : (s t : Section) (front : List ℕ) (a b : Option (List ℕ)) (fault : Fault) → s ≡ t → BlockStops IsHeaderFault (fault_from s front) a b fault
    → BlockStops IsHeaderFault (fault_from t front) a b fault
in_section s t front a b fault same stops = subst (λ (n : Section). BlockStops IsHeaderFault (fault_from n front) a b fault) same stops

pub returns-in_err-fill_part-clause-opens : goal.returns-in_err-fill_part-clause-opens
returns-in_err-fill_part-clause-opens g c =
    let p = err_from_is_err_and c.from_residual.result c.from_residual.ensures.1 in
    let first = c.args.first in
    let four : length first ≡ 4 = omega arith in
    rw (p.1, p.2)
    (stops-broken IsHeaderFault (fault_from no_section first) _ _ (λ xs. length xs < 8 - 4) _ tt tt
    (λ xs short. fault-start no_section (first ++ xs) (omega (arith, length-append first xs, four))) c.in_err-fill_part.ensures.fills)

pub returns-in_err-head-clause-opens : goal.returns-in_err-head-clause-opens
returns-in_err-head-clause-opens g c =
    let p = err_from_is_err_and c.from_residual-in_err-head.result c.from_residual-in_err-head.ensures.1 in
    let start = c.fill_part.new.bytes in
    let same = section-same Little Little c.new.result.items [] 0 refl c.new.ensures.items in
    rw (p.1, p.2)
    (stops-behind no_section c.args.first start (start_cuts start (omega arith)) _ _ _
    (Took-weaker _ _ _ _ (λ t e. ap (λ (l : List ℕ). l ++ t) (sym (take_at c.copy_from_slice.new.self _ 4 (omega arith) ∙ c.copy_from_slice.ensures.after))
    ∙ sym e ∙ take_all 8 start (omega arith)) c.in_ok-fill_part.ensures.fills) IsHeaderFault _
    (in_section _ _ start _ _ _ same c.in_err-head.ensures.takes))

pub begin_section-requires-clause-kind : goal.begin_section-requires-clause-kind
begin_section-requires-clause-kind g c =
    c.in_ok-head.ensures.kind
    ∙ kind_of_first Little c.args.first c.fill_part.new.bytes (omega arith)
    (c.in_ok-fill_part.ensures.front ∙ take_at c.copy_from_slice.new.self _ 4 (omega arith) ∙ c.copy_from_slice.ensures.after) c.requires

pub returns-in_err-begin_section-clause-opens : goal.returns-in_err-begin_section-clause-opens
returns-in_err-begin_section-clause-opens g c =
    let p = err_from_is_err_and c.from_residual-in_err-begin_section.result c.from_residual-in_err-begin_section.ensures.1 in
    let start = c.fill_part.new.bytes in
    let front = head_bytes c.in_ok-head.head in
    let same = section-same Little Little c.new.result.items [] 0 refl c.new.ensures.items in
    rw (p.1, p.2)
    (stops-behind no_section c.args.first start (start_cuts start (omega arith)) _ _ _
    (Took-weaker _ _ _ _ (λ t e. ap (λ (l : List ℕ). l ++ t) (sym (take_at c.copy_from_slice.new.self _ 4 (omega arith) ∙ c.copy_from_slice.ensures.after))
    ∙ sym e ∙ take_all 8 start (omega arith)) c.in_ok-fill_part.ensures.fills) IsHeaderFault _
    (stops-behind no_section start front (subst (λ (n : Section). IsCutBefore (block_fault n) front) same (head_cut _ c.in_ok-head.head c.in_ok-head.ensures.is))
    _ _ _ c.in_ok-head.ensures.takes IsHeaderFault _
    (in_section _ _ front _ _ _ same c.in_err-begin_section.ensures.passes)))

pub returns-clause-opens : goal.returns-clause-opens
returns-clause-opens g c =
    let start = c.fill_part.new.bytes in
    let front = head_bytes c.in_ok-head.head in
    let same = section-same Little Little c.new.result.items [] 0 refl c.new.ensures.items in
    let now = told c.begin_section.new.section in (
      refl,
      took-behind c.args.first start _ _ _ (λ block. (rest : List ℕ) → blocks_in no_section (block ++ rest) ≡ blocks_in now rest)
          (Took-weaker _ _ _ _ (λ t e. ap (λ (l : List ℕ). l ++ t) (sym (take_at c.copy_from_slice.new.self _ 4 (omega arith) ∙ c.copy_from_slice.ensures.after))
          ∙ sym e ∙ take_all 8 start (omega arith)) c.in_ok-fill_part.ensures.fills)
          (took-behind start front _ _ _ (λ block. (rest : List ℕ) → blocks_in no_section (block ++ rest) ≡ blocks_in now rest) c.in_ok-head.ensures.takes
          (Took-weaker _ _ _ _ (λ ys passes rest. ap (λ (s : Section). blocks_in s ((front ++ ys) ++ rest)) (sym same) ∙ passes rest)
          c.in_ok-begin_section.ensures.passes.1)),
      cut-behind no_section c.args.first start (start_cuts start (omega arith)) _ _ _
          (Took-weaker _ _ _ _ (λ t e. ap (λ (l : List ℕ). l ++ t) (sym (take_at c.copy_from_slice.new.self _ 4 (omega arith) ∙ c.copy_from_slice.ensures.after))
          ∙ sym e ∙ take_all 8 start (omega arith)) c.in_ok-fill_part.ensures.fills)
          (cut-behind no_section start front (subst (λ (n : Section). IsCutBefore (block_fault n) front) same (head_cut _ c.in_ok-head.head c.in_ok-head.ensures.is))
          _ _ _ c.in_ok-head.ensures.takes
          (Took-weaker _ _ _ _ (λ ys cut. subst (λ (n : Section). IsCutBefore (fault_from n front) ys) same cut) c.in_ok-begin_section.ensures.passes.2)),
    )
