-- An accepted report covers what can be covered.
use Rattle.definitions.proofs.Certified.{certified}
use Rattle.definitions.proofs.laws.accepted_are_certified.Goals as goal

pub returns : goal.returns
returns c = certified
