use Rattle.std.proofs.Common.{[]}
use Rattle.suite_forms.specs.believed.Suites.{param_names, spelled_rows}
use Rattle.suite_forms.proofs.Tables.{suite-IsTable}
use Rattle.suite_forms.proofs.laws.csv_reads_back.Goals as goal

pub returns : goal.returns
returns c = λ m rows some. c.csv_reads_back.ensures (param_names m) (spelled_rows m [] rows) (suite-IsTable m rows some)
