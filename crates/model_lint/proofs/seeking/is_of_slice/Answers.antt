use Rattle.std.proofs.Common.{arith, sym, ◌∙◌}
use Rattle.model_lint.proofs.SliceTests.{cell_fails}
use Rattle.model_lint.proofs.seeking.is_of_slice.Goals as goal

pub returns-then-not-is_cell_of-clause-no : goal.returns-then-not-is_cell_of-clause-no
returns-then-not-is_cell_of-clause-no c q =
    cell_fails c.args.model.now c.args.slice c.args.cells.now c.loop-p.p (omega (arith, c.requires.fits.as_long)) (sym c.is_cell_of.ensures ∙ c.if-not-is_cell_of.true)
