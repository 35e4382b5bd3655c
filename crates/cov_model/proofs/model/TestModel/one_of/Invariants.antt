use Rattle.std.proofs.Common.{◌≡◌, false, take}
use Rattle.std.specs.List.{list_any}
use Rattle.std.specs.Ordering.{is_eq}
use Rattle.cov_model.specs.believed.Meaning.{literal_order, operand_of}
use Rattle.cov_model.proofs.model.TestModel.one_of.Given as goal

abbrev pub invariant-loop-literal : goal.invariant-loop-literal
invariant-loop-literal l =
    list_any (λ literal. is_eq (literal_order l.self.fold (operand_of l.param.numeric l.name) literal)) (take l.literal-index l.literals) ≡ false
