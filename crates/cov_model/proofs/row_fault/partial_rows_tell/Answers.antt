use Rattle.cov_model.proofs.KnownLemmas.{no_stays, yes_stays, rows_are_known}
use Rattle.cov_model.proofs.row_fault.partial_rows_tell.Goals as goal

pub returns-clause-no : goal.returns-clause-no
returns-clause-no c = no_stays

pub returns-clause-yes : goal.returns-clause-yes
returns-clause-yes c = yes_stays

pub returns-clause-rows : goal.returns-clause-rows
returns-clause-rows c = rows_are_known
