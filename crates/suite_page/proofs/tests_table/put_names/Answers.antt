use Rattle.std.proofs.Common.{arith}
use Rattle.html_page.proofs.TreeTexts.{all_put}
use Rattle.suite_page.specs.believed.TestsTable.{name_tree}
use Rattle.suite_page.proofs.tests_table.put_names.Goals as goal

pub returns : goal.returns
returns c =
    all_put name_tree (λ item. item.now) c.args.names.now c.loop-name.name-index c.args.page.now c.loop-name.page c.loop-name.invariant
    (omega (arith, c.loop-name-test.false))
