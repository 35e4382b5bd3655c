use Rattle.std.proofs.Common.{arith}
use Rattle.std.proofs.lemmas.Grind.{common_steps}
use Rattle.model_lint.proofs.SliceTests.{by_slices}
use Rattle.model_lint.proofs.seeking.seek_test.Goals as goal

pub returns-then-branch-clause-found : goal.returns-then-branch-clause-found
returns-then-branch-clause-found g c = let e = by_slices c.args.model.now c.args.cells.now in grind (arith, common_steps)

pub returns-clause-found : goal.returns-clause-found
returns-clause-found g c = let e = by_slices c.args.model.now c.args.cells.now in grind (arith, common_steps)
