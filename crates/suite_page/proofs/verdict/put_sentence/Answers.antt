use Rattle.std.proofs.Common.{◌∙◌, sym, eqb-true}
use Rattle.suite_page.proofs.More.{nothing_said}
use Rattle.suite_page.proofs.verdict.put_sentence.Goals as goal

pub returns-then-is_empty : goal.returns-then-is_empty
returns-then-is_empty c = nothing_said c.args.sentence.now c.args.page.now (eqb-true _ _ (sym c.is_empty.ensures ∙ c.if-is_empty.true))
