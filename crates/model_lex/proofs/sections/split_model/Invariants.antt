use Rattle.std.proofs.Common.{length}
use Rattle.model_lex.specs.believed.Sections.{sections_of}
use Rattle.model_lex.specs.Sections.{split_seen}
use Rattle.model_lex.proofs.Splitting.{Sorting}
use Rattle.model_lex.proofs.sections.split_model.Given as goal

abbrev pub invariant-loop-rest : goal.invariant-loop-rest
invariant-loop-rest l = Sorting (sections_of l.fn.bytes) (split_seen l.sections) l.before l.line l.rest

abbrev pub decreases-loop-rest : goal.decreases-loop-rest
decreases-loop-rest l = length l.rest
