use Rattle.std.proofs.Common.{◌≡◌, ℕ, List, Option, Some, subst}
use Rattle.std.proofs.lemmas.Result.{IfErr-weaker}
use Rattle.row_text.specs.Told.{figures_seen}
use Rattle.jeldroft_files.specs.believed.Tables.{is_comma}
use Rattle.jeldroft_inputs.specs.Inputs.{HoldsTests}
use Rattle.jeldroft_measure.specs.believed.Due.{effort_of}
use Rattle.jeldroft_measure.proofs.MeasuredLemmas.{if_ok_and, measured_ends, measured_is}
use Rattle.jeldroft_measure.proofs.measuring.measured.Goals as goal

pub returns-clause-figures : goal.returns-clause-figures
returns-clause-figures g c =
    let args = c.args.args.now in
    let tests =
    subst (λ name. (table : Option (List ℕ)) → (g.F.Folder.seen c.args.files.now).files name ≡ Some table → HoldsTests c.args.model.now (is_comma args.delimiter name) table c.in_ok-tests.tests)
    c.as_str-name.ensures.value c.in_ok-tests.ensures.tests in
    if_ok_and c.figures_of-figures.result (λ figures is answered table told.
    measured_is (effort_of args.budget) c.args.model.now (is_comma args.delimiter args.table) table c.in_ok-plan.ensures.within c.in_ok-tests.tests
    (tests table told) (figures_seen figures) is answered)
    c.figures_of-figures.ensures.figures c.figures_of-figures.ensures.answered

pub returns-clause-stops : goal.returns-clause-stops
returns-clause-stops g c =
    let args = c.args.args.now in
    let tests =
    subst (λ name. (table : Option (List ℕ)) → (g.F.Folder.seen c.args.files.now).files name ≡ Some table → HoldsTests c.args.model.now (is_comma args.delimiter name) table c.in_ok-tests.tests)
    c.as_str-name.ensures.value c.in_ok-tests.ensures.tests in
    IfErr-weaker c.figures_of-figures.result _ _ (λ failure ends table told.
    measured_ends (effort_of args.budget) c.args.model.now (is_comma args.delimiter args.table) table c.in_ok-plan.ensures.within c.in_ok-tests.tests
    (tests table told) failure.cause ends)
    c.figures_of-figures.ensures.stops
