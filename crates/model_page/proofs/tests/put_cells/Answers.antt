use Rattle.std.proofs.Common.{[], get_or, take}
use Rattle.html_page.specs.Trees.{content_text}
use Rattle.row_text.specs.RowFiles.{suite_seen}
use Rattle.suite_page.specs.believed.TestsTable.{cell_tree}
use Rattle.model_page.specs.believed.Tests.{cell_of}
use Rattle.model_page.proofs.tests.put_cells.Goals as goal
use Rattle.value_text.proofs.ListLemmas.{text_more}

pub loop-place-preserved : goal.loop-place-preserved
loop-place-preserved c =
    let rows = suite_seen c.args.file.now in
    text_more (λ p. content_text (cell_tree (cell_of c.args.model.now (take c.args.at rows) (get_or rows c.args.at []) p))) c.loop-place.place
    c.args.page.now c.loop-place.page c.put_cell_of.new.page c.loop-place.invariant c.in_ok-put_cell_of.ensures
