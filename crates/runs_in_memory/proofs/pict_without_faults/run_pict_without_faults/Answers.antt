use Rattle.std.proofs.Common.{inl, inr}
use Rattle.runs_in_memory.proofs.NoFaults.{never_rose, none_rose}
use Rattle.runs_in_memory.proofs.pict_without_faults.run_pict_without_faults.Goals as goal

pub returns-clause-read : goal.returns-clause-read
returns-clause-read g c = λ seven. none_rose _ (c.run_pict.ensures.statuses.read seven).1

pub returns-clause-write : goal.returns-clause-write
returns-clause-write g c = λ eight. elim (c.run_pict.ensures.statuses.write eight) [
  | inl report ↦ never_rose report
  | inr file ↦ none_rose _ file.1.1
]

pub returns-clause-complete : goal.returns-clause-complete
returns-clause-complete g c = λ s source m spelled due.
    c.run_pict.ensures.statuses.complete s source m spelled due (λ kind. none_rose _) (λ kind. none_rose _) never_rose

pub returns-clause-stopped : goal.returns-clause-stopped
returns-clause-stopped g c = λ s source m stop spelled due.
    c.run_pict.ensures.statuses.stopped s source m stop spelled due (λ kind. none_rose _) (none_rose _, none_rose _)

pub returns-clause-refused : goal.returns-clause-refused
returns-clause-refused g c = λ s bytes fault asked given within refusal.
    c.run_pict.ensures.statuses.refused s bytes fault asked given within refusal (none_rose _, none_rose _)

pub returns-clause-too_long : goal.returns-clause-too_long
returns-clause-too_long g c = λ s bytes asked given above.
    c.run_pict.ensures.statuses.too_long s bytes asked given above (none_rose _, none_rose _)
