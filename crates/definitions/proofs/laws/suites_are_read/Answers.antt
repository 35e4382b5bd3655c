-- Reading a suite gives the rows that its bytes hold.
use Rattle.definitions.proofs.Readings.{suites_read}
use Rattle.definitions.proofs.laws.suites_are_read.Goals as goal

pub returns : goal.returns
returns c = suites_read
