use Rattle.std.proofs.Common.{sym}
use Rattle.jeldroft_shrink.proofs.ReadLemmas.{no_table_called}
use Rattle.jeldroft_shrink.proofs.answer.make_answer.Goals as goal

pub returns-in-None-clause-called : goal.returns-in-None-clause-called
returns-in-None-clause-called g c = λ held holds. no_table_called c.args.args.now held (sym c.in-None.ensures)
