-- A report holds its rows, without a note.
use Rattle.definitions.proofs.ReportRead as lemmas
use Rattle.definitions.proofs.laws.reports_read_back.Goals as goal

pub returns : goal.returns
returns c = lemmas.reports_read_back
