use Rattle.row_forms.proofs.JsonLaw.{json-reads-back}
use Rattle.row_forms.proofs.laws.json_reads_back.Goals as goal

pub returns : goal.returns
returns c = json-reads-back
