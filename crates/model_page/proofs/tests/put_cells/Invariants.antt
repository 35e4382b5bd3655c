use Rattle.std.proofs.Common.{◌≡◌, ◌++◌, [], take}
use Rattle.std.specs.Prelude.{slice_index_or}
use Rattle.std.specs.List.{flat_map, range_with_len}
use Rattle.html_page.specs.Trees.{content_text}
use Rattle.row_text.specs.RowFiles.{suite_seen}
use Rattle.suite_page.specs.believed.TestsTable.{cell_tree}
use Rattle.model_page.specs.believed.Tests.{cell_of}
use Rattle.model_page.proofs.tests.put_cells.Given as goal

-- the cells before this one
abbrev pub invariant-loop-place : goal.invariant-loop-place
invariant-loop-place l =
    let rows = suite_seen l.file in
    l.page ≡ l.fn.page ++ flat_map (λ p. content_text (cell_tree (cell_of l.model (take l.at rows) (slice_index_or rows l.at []) p))) (range_with_len 0 l.place)
