use Rattle.std.proofs.Common.{rules, arith, All, subst, sym}
use Rattle.compiled_rules.specs.declared.code.Code.{the_lemmas}
use Rattle.compiled_rules.specs.SoundCodes.{IsSoundCode}
use Rattle.compiled_rules.proofs.CodeLemmas.{code_truth-All, code_truth-Any}
use Rattle.compiled_rules.proofs.SoundLemmas.{parts_of_all, parts_of_any}
use Rattle.compiled_rules.proofs.code.+truths.Goals as goal

pub code_truth-returns-in-All : goal.code_truth-returns-in-All
code_truth-returns-in-All t c = let e = code_truth-All c.args.model.now c.args.table.now c.in-All.parts c.args.cells.now in cc

pub code_truth-returns-in-Any : goal.code_truth-returns-in-Any
code_truth-returns-in-Any t c = let e = code_truth-Any c.args.model.now c.args.table.now c.in-Any.parts c.args.cells.now in cc

pub code_truth-all_codes-requires : goal.code_truth-all_codes-requires
code_truth-all_codes-requires t c = (
  first_of (search (rules, the_lemmas), grind (arith, the_lemmas)),
  (
    subst (All (IsSoundCode c.args.model.now.params)) (sym c.as_slice.ensures)
        (parts_of_all c.args.model.now.params c.args.code.now c.in-All.parts c.in-All.is c.requires.sound),
    c.requires.fits,
  ),
)

pub code_truth-any_codes-requires : goal.code_truth-any_codes-requires
code_truth-any_codes-requires t c = (
  first_of (search (rules, the_lemmas), grind (arith, the_lemmas)),
  (
    subst (All (IsSoundCode c.args.model.now.params)) (sym c.as_slice-in-Any.ensures)
        (parts_of_any c.args.model.now.params c.args.code.now c.in-Any.parts c.in-Any.is c.requires.sound),
    c.requires.fits,
  ),
)
