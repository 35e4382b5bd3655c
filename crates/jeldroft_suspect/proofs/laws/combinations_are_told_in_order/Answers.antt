use Rattle.jeldroft_suspect.proofs.OrderLemmas.{told_in_order}
use Rattle.jeldroft_suspect.proofs.laws.combinations_are_told_in_order.Goals as goal

pub returns : goal.returns
returns c = told_in_order
