-- Bytes of which a flow too many ends the reading: whatever follows them changes nothing of how it ends.
use Rattle.std.proofs.Common.{◌≡◌, ◌≢◌, ℕ, List, [], ◌∷◌, ◌++◌, Option, Some, None, ap, ◌∙◌}
use Rattle.zr_kinds.specs.declared.fault.Fault.{Fault, TheVariants.{TooManyFlows}}
use Rattle.pcapng_reader.{specs.Records.{records_of}, proofs.BlocksGo.{capture-goes}}
use Rattle.card_feed.{specs.Ending.{Ending, ended_after, ended_of, ended_or, ending_at, frames_of}, proofs.FramesRead.{frames-append}}

-- a reading that ends at one of these frames ends there whatever frames follow
goes-by : (ending : Option Fault) (before : List (List ℕ)) (first later ended : Ending) → (first ≡ ended → later ≡ ended)
    → ended_or ending before first ≡ ended → ended_or ending before later ≡ ended
goes-by None before first later ended more is = more is
goes-by (Some fault) before first later ended more is = is

ends-so : (ports : List ℕ) (before frames more : List (List ℕ)) (fault later : Option Fault) (ended : Ending) → fault ≢ Some TooManyFlows
    → ended.fault ≡ Some TooManyFlows → ended_after ports before frames fault ≡ ended → ended_after ports before (frames ++ more) later ≡ ended
unfolding ended_after
ends-so ports before [] more fault later ended other many is = absurd (other (ap (λ (e : Ending). e.fault) is ∙ many))
ends-so ports before (frame ∷ frames) more fault later ended other many is =
    goes-by (ending_at ports before frame) before (ended_after ports (before ++ frame ∷ []) frames fault)
    (ended_after ports (before ++ frame ∷ []) (frames ++ more) later) ended
    (λ same. ends-so ports (before ++ frame ∷ []) frames more fault later ended other many same) is

pub ended_of-behind : (ports taken more : List ℕ) (ended : Ending) → ended.fault ≡ Some TooManyFlows → ended_of ports taken ≡ ended
    → ended_of ports (taken ++ more) ≡ ended
unfolding ended_of
ended_of-behind ports taken more ended many is =
    let go = capture-goes taken more in
    let fault : Option Fault = (records_of (taken ++ more)).fault in
    ap (λ all. ended_after ports [] (frames_of all) fault) go.all
    ∙ ap (λ frames. ended_after ports [] frames fault) (frames-append (records_of taken).all go.more)
    ∙ ends-so ports [] (frames_of (records_of taken).all) (frames_of go.more) (records_of taken).fault fault ended go.kind many is
