use Rattle.suite_forms.proofs.Tabbed.{tsv-is-report}
use Rattle.suite_forms.proofs.laws.tsv_is_report.Goals as goal

pub returns : goal.returns
returns c = tsv-is-report
