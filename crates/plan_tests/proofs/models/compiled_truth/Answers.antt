use Rattle.std.proofs.Common.{sym, subst}
use Rattle.cov_model.proofs.RowLemmas.{FitsModel-is_row}
use Rattle.cov_model.specs.Fits.{FitsModel}
use Rattle.cov_model.specs.believed.Sound.{ModelView}
use Rattle.plan_tests.proofs.models.compiled_truth.Goals as goal

pub truth-requires-clause-fits : goal.truth-requires-clause-fits
truth-requires-clause-fits c =
    subst (λ (m : ModelView). FitsModel m c.args.row.now) (sym c.in-Ok.ensures) (FitsModel-is_row c.args.model.now c.args.row.now c.requires)
