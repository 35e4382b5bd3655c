-- The parts of a page in a row are the text of its tree.
use Rattle.std.specs.Prelude.{◌≡◌, ℕ, List, [], ◌∷◌, ◌++◌}
use Rattle.std.specs.List.{flat_map}
use Rattle.html_page.specs.believed.Pieces.{pieces_text}
use Rattle.html_page.specs.Trees.{content_text}
use Rattle.html_page.specs.believed.Trees.{page_text}
use Rattle.suite_page.specs.believed.Document.{Suite, suite_tree}
use Rattle.suite_page.specs.Document.{closing, opening}
use Rattle.suite_page.specs.believed.LeftOut.{Group, item_tree}
use Rattle.suite_page.specs.LeftOut.{group_closing, group_opening, left_out_closing, left_out_opening}
use Rattle.suite_page.specs.believed.Pictures.{picture_tree}
use Rattle.suite_page.specs.believed.TestsTable.{Test, test_tree}
use Rattle.suite_page.specs.TestsTable.{tests_closing, tests_opening}
use Rattle.suite_page.specs.believed.Verdicts.{numbers_tree, verdict_tree}

-- the parts of the section of tests, of a group, and of the section of what is left out, if something is
abbrev pub tests_parts : List (List ℕ) → List Test → ℕ → List ℕ
tests_parts names tests more =
    pieces_text (tests_opening names) ++ flat_map (λ test. content_text (test_tree test)) tests ++ pieces_text (tests_closing more)

abbrev pub group_parts : Group → List ℕ
group_parts group =
    pieces_text (group_opening group.constraints group.count) ++ flat_map (λ item. content_text (item_tree item)) group.combinations
    ++ pieces_text group_closing

abbrev pub left_out_parts : List Group → ℕ → List ℕ
left_out_parts [] more = []
left_out_parts (group ∷ groups) more =
    pieces_text left_out_opening ++ flat_map group_parts (group ∷ groups) ++ pieces_text (left_out_closing more)

-- the parts of a page
abbrev pub parts : Suite → List ℕ
parts suite =
    pieces_text (opening suite.name) ++ content_text (verdict_tree suite.name suite.accepted suite.verdict suite.remark)
    ++ content_text (numbers_tree suite.numbers) ++ content_text (picture_tree suite.picture)
    ++ tests_parts suite.names suite.tests suite.more_tests ++ left_out_parts suite.groups suite.more_combinations
    ++ pieces_text closing

abbrev pub PagesAreWhole : Type 0
PagesAreWhole = (suite : Suite) → parts suite ≡ page_text (suite_tree suite)
