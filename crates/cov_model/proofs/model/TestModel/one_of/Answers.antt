use Rattle.std.proofs.Common.{◌∙◌, Bool, sym, ap, take_all, arith}
use Rattle.std.specs.List.{list_any}
use Rattle.std.specs.Ordering.{is_eq}
use Rattle.std.proofs.lemmas.Grind.{common_steps}
use Rattle.cov_model.specs.declared.constraint.Literal.{Literal}
use Rattle.cov_model.specs.believed.Meaning.{literal_order, operand_of}
use Rattle.cov_model.proofs.TruthLemmas.{term_truth-OneOf_none}
use Rattle.cov_model.proofs.model.TestModel.one_of.Goals as goal

pub returns : goal.returns
returns c =
    let numeric = c.param-param.result.now.numeric in
    let name = c.name_of-name.result.now in
    let equals : Literal → Bool = λ literal. is_eq (literal_order c.args.self.now.fold (operand_of numeric name) literal) in
    let all = take_all c.loop-literal.literal-index c.args.literals.now (omega (arith, c.loop-literal-test.false)) in
    term_truth-OneOf_none c.args.self.now c.args.p c.args.literals.now c.args.cells.now numeric name (grind (arith, common_steps))
    (grind (arith, common_steps)) (grind (arith, common_steps)) (ap (list_any equals) (sym all) ∙ c.loop-literal.invariant)
