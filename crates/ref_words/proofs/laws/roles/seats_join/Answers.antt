use Rattle.ref_words.proofs.Roles.{joins}
use Rattle.ref_words.proofs.laws.roles.seats_join.Goals as goal

pub returns : goal.returns
returns c = λ setting roles views nic apps id other v w seated at ne at' none out. joins setting roles views nic apps seated id other v w at ne at' none out
