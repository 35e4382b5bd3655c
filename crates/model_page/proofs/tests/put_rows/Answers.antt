use Rattle.html_page.specs.Trees.{content_text}
use Rattle.row_text.specs.RowFiles.{suite_seen}
use Rattle.suite_page.specs.believed.TestsTable.{test_tree}
use Rattle.model_page.specs.believed.Tests.{test_of}
use Rattle.model_page.proofs.tests.put_rows.Goals as goal
use Rattle.value_text.proofs.ListLemmas.{text_more}

pub loop-at-preserved : goal.loop-at-preserved
loop-at-preserved c =
    text_more (λ at. content_text (test_tree (test_of c.args.model.now (suite_seen c.args.file.now) at))) c.loop-at.at
    c.args.page.now c.loop-at.page c.put_test.new.page c.loop-at.invariant c.in_ok-put_test.ensures
