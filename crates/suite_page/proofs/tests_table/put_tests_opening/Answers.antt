use Rattle.std.proofs.Common.{[], ◌∷◌, ◌++◌, map, codes}
use Rattle.html_page.specs.believed.Pieces.{Start, End}
use Rattle.html_page.specs.believed.Trees.{all_of}
use Rattle.html_page.specs.declared.tag.Tag.TheVariants as tag
use Rattle.html_page.proofs.TreeTexts.{around, behind}
use Rattle.suite_page.specs.Sections.{section_opening}
use Rattle.suite_page.specs.believed.TestsTable.{name_tree}
use Rattle.suite_page.specs.TestsTable.{table_opening}
use Rattle.suite_page.proofs.tests_table.put_tests_opening.Goals as goal

pub returns : goal.returns
returns c =
    around (section_opening (codes "Tests") ++ table_opening) (all_of name_tree (map (λ name. name.now) c.args.names.now))
    (End tag.Tr ∷ End tag.Thead ∷ Start tag.Tbody [] ∷ []) c.args.page.now c.put.new.self c.put_names.new.page c.put-2.new.self
    (behind (section_opening (codes "Tests")) table_opening c.args.page.now c.put_section.new.page c.put.new.self c.in_ok-put_section.ensures c.in_ok-put.ensures)
    c.in_ok-put_names.ensures c.in_ok-put-2.ensures
