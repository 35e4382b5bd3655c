use Rattle.std.proofs.Common.{[], ◌∷◌}
use Rattle.html_page.specs.believed.Pieces.{End}
use Rattle.html_page.specs.declared.tag.Tag.TheVariants as tag
use Rattle.html_page.proofs.TreeTexts.{around}
use Rattle.suite_page.specs.believed.TestsTable.{more_tests}
use Rattle.suite_page.proofs.tests_table.put_tests_closing.Goals as goal

pub returns : goal.returns
returns c =
    around (End tag.Tbody ∷ End tag.Table ∷ End tag.Div ∷ []) (more_tests c.args.more) (End tag.Section ∷ [])
    c.args.page.now c.put.new.self c.put_more.new.page c.put-2.new.self c.in_ok-put.ensures c.in_ok-put_more.ensures c.in_ok-put-2.ensures
