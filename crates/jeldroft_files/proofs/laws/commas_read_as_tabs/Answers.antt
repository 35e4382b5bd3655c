use Rattle.jeldroft_files.proofs.ReadBack.{read_back}
use Rattle.jeldroft_files.proofs.laws.commas_read_as_tabs.Goals as goal

pub returns : goal.returns
returns c = read_back
