use Rattle.std.proofs.Common.{[], ◌∷◌, codes}
use Rattle.std.specs.Prelude.{decimal}
use Rattle.html_page.specs.believed.Pieces.{Start, End, Text}
use Rattle.html_page.specs.declared.attribute.AttributeName.TheVariants as attribute
use Rattle.html_page.specs.declared.tag.Tag.TheVariants as tag
use Rattle.html_page.proofs.TreeTexts.{behind}
use Rattle.suite_page.specs.believed.TestsTable.{given}
use Rattle.suite_page.proofs.tests_table.put_test_opening.Goals as goal

pub returns : goal.returns
returns c =
    let row = Start tag.Tr [] in
    let head = Start tag.Th (given attribute.Scope (codes "row") ∷ []) in
    let number = Text (decimal c.args.number) in
    behind (row ∷ head ∷ number ∷ []) (End tag.Th ∷ []) c.args.page.now c.put_number.new.page c.put-2.new.self
    (behind (row ∷ head ∷ []) (number ∷ []) c.args.page.now c.put.new.self c.put_number.new.page c.in_ok-put.ensures c.in_ok-put_number.ensures)
    c.in_ok-put-2.ensures
