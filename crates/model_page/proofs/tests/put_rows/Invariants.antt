use Rattle.std.proofs.Common.{◌≡◌, ◌++◌}
use Rattle.std.specs.List.{flat_map, range_with_len}
use Rattle.html_page.specs.Trees.{content_text}
use Rattle.row_text.specs.RowFiles.{suite_seen}
use Rattle.suite_page.specs.believed.TestsTable.{test_tree}
use Rattle.model_page.specs.believed.Tests.{test_of}
use Rattle.model_page.proofs.tests.put_rows.Given as goal

-- the rows before this one
abbrev pub invariant-loop-at : goal.invariant-loop-at
invariant-loop-at l = l.page ≡ l.fn.page ++ flat_map (λ at. content_text (test_tree (test_of l.model (suite_seen l.file) at))) (range_with_len 0 l.at)
