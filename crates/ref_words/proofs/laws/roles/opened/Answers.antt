use Rattle.ref_words.proofs.{Opening.{seated, rule}, PhasesOpened.{opened-phases}, TextsOpened.{texts}}
use Rattle.ref_words.proofs.laws.roles.opened.Goals as goal

pub returns : goal.returns
returns c = λ setting layout places. record {
  seated = seated setting;
  rule = record {
    texts = texts setting;
    refs = rule setting layout places;
    phases = opened-phases setting;
  };
}
