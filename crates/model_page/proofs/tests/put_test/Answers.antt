use Rattle.std.proofs.Common.{◌+◌, ◌++◌, ◌∙◌, [], ap, get_or, map, take}
use Rattle.cov_model.specs.believed.Valid.{param_numbers}
use Rattle.html_page.specs.believed.Trees.{all_of}
use Rattle.html_page.proofs.TreeTexts.{around}
use Rattle.row_text.specs.RowFiles.{suite_seen}
use Rattle.suite_page.specs.believed.TestsTable.{cell_tree}
use Rattle.suite_page.specs.TestsTable.{test_closing, test_opening}
use Rattle.model_page.specs.believed.Tests.{cell_of}
use Rattle.model_page.proofs.Putting.{made_trees}
use Rattle.model_page.proofs.tests.put_test.Goals as goal

pub returns : goal.returns
returns c =
    let m = c.args.model.now in
    let rows = suite_seen c.args.file.now in
    let cell = cell_of m (take c.args.at rows) (get_or rows c.args.at []) in
    around (test_opening (c.args.at + 1)) (all_of cell_tree (map cell (param_numbers m))) test_closing
    c.args.page.now c.put_test_opening.new.page c.put_cells.new.page c.put_test_closing.new.page
    c.in_ok-put_test_opening.ensures
    (c.in_ok-put_cells.ensures ∙ ap (λ bytes. c.put_test_opening.new.page ++ bytes) (made_trees cell_tree cell (param_numbers m)))
    c.in_ok-put_test_closing.ensures
