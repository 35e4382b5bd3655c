use Rattle.row_forms.proofs.CsvLaw.{csv-reads-back}
use Rattle.row_forms.proofs.laws.csv_reads_back.Goals as goal

pub returns : goal.returns
returns c = csv-reads-back
