use Rattle.runs_in_memory.proofs.NoFaults.{never_rose}
use Rattle.runs_in_memory.proofs.check_without_faults.run_check_without_faults.Goals as goal

pub returns-clause-read : goal.returns-clause-read
returns-clause-read g c = λ seven. never_rose (c.run_check.ensures.read seven).1

pub returns-clause-write : goal.returns-clause-write
returns-clause-write g c = λ eight. never_rose (c.run_check.ensures.write eight)

pub returns-clause-complete : goal.returns-clause-complete
returns-clause-complete g c = λ s held asked holds read. c.run_check.ensures.complete s held asked holds read (λ rose. never_rose rose.1) never_rose

pub returns-clause-refused : goal.returns-clause-refused
returns-clause-refused g c = λ s held stop asked holds refused. c.run_check.ensures.refused s held stop asked holds refused (λ rose. never_rose rose.1)
