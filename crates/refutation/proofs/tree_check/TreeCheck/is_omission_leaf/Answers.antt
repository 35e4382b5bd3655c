use Rattle.std.proofs.Common.{sym, subst, All}
use Rattle.refutation.specs.Checking.{AreOfModel}
use Rattle.refutation.proofs.tree_check.TreeCheck.is_omission_leaf.Goals as goal

pub has_negatives-requires : goal.has_negatives-requires
has_negatives-requires c =
    c.in-Some.ensures.of_model c.args.self.now.model
    (subst (All (λ omission. AreOfModel c.args.self.now.model omission.tuple)) (sym c.earlier.ensures.value) c.earlier.ensures.of_model)
