-- A report is read as a suite.
use Rattle.definitions.proofs.ReportRead as lemmas
use Rattle.definitions.proofs.laws.reports_are_read.Goals as goal

pub returns : goal.returns
returns c = lemmas.reports_are_read
