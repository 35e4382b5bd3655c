use Rattle.std.proofs.Common.{◌≡◌, ◌++◌, take}
use Rattle.std.specs.List.{flat_map}
use Rattle.html_page.specs.Trees.{content_text}
use Rattle.suite_page.specs.believed.TestsTable.{name_tree}
use Rattle.suite_page.proofs.tests_table.put_names.Given as goal

abbrev pub invariant-loop-name : goal.invariant-loop-name
invariant-loop-name l = l.page ≡ l.fn.page ++ flat_map (λ item. content_text (name_tree item.now)) (take l.name-index l.names)
