use Rattle.row_text.proofs.NameSteps.{ValuesSoFar}
use Rattle.row_text.proofs.model_names.all_value_texts.Given as goal

abbrev pub invariant-loop-param : goal.invariant-loop-param
invariant-loop-param l = ValuesSoFar l.model l.param-items l.param-index l.values.items
