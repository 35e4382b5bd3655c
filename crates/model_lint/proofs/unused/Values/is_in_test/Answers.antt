use Rattle.std.proofs.Common.{◌≡◌, true, arith, sym}
use Rattle.std.proofs.lemmas.Grind.{common_steps}
use Rattle.cov_model.specs.declared.slice.Slice.TheVariants.{Positive}
use Rattle.definitions.specs.believed.Completion.{is_extendable}
use Rattle.model_lint.proofs.SliceTests.{slice_test}
use Rattle.model_lint.proofs.unused.Values.is_in_test.Goals as goal

pub returns-then-ask-clause-found : goal.returns-then-ask-clause-found
returns-then-ask-clause-found g c =
    let extends : is_extendable c.args.self.now.model.now Positive c.args.cells.now ≡ true = first_of (cc, grind (arith, common_steps)) in
    sym (slice_test c.args.self.now.model.now Positive c.args.cells.now tt extends)
