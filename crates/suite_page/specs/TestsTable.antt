-- The table of tests: a row for each, with its number, under the names of the parameters.
use Rattle.std.specs.Prelude.{ℕ, List, [], ◌∷◌, ◌++◌, codes, decimal}
use Rattle.html_page.specs.believed.Pieces.{Piece, Start, End, Text}
use Rattle.html_page.specs.believed.Trees.{all_of, pieces_of}
use Rattle.html_page.specs.declared.attribute.AttributeName.TheVariants as attribute
use Rattle.html_page.specs.declared.tag.Tag.TheVariants as tag
use Rattle.suite_page.specs.Sections.{section_opening}
use Rattle.suite_page.specs.believed.TestsTable.{given, name_tree, scroll, caption, more_tests}

-- its pieces before the cells, and behind them
abbrev pub test_opening : ℕ → List Piece
test_opening number =
    Start tag.Tr [] ∷ Start tag.Th (given attribute.Scope (codes "row") ∷ []) ∷ Text (decimal number) ∷ End tag.Th ∷ []

abbrev pub test_closing : List Piece
test_closing = End tag.Tr ∷ []

-- its pieces before the names, before the tests, and behind them
abbrev pub table_opening : List Piece
table_opening =
    Start tag.Div scroll ∷ Start tag.Table [] ∷ Start tag.Caption [] ∷ Text caption ∷ End tag.Caption ∷ Start tag.Thead [] ∷ Start tag.Tr []
    ∷ Start tag.Th (given attribute.Scope (codes "col") ∷ []) ∷ Text (codes "Test") ∷ End tag.Th ∷ []

abbrev pub tests_opening : List (List ℕ) → List Piece
tests_opening names =
    section_opening (codes "Tests") ++ table_opening ++ (pieces_of (all_of name_tree names) ++ End tag.Tr ∷ End tag.Thead ∷ Start tag.Tbody [] ∷ [])

abbrev pub tests_closing : ℕ → List Piece
tests_closing more = End tag.Tbody ∷ End tag.Table ∷ End tag.Div ∷ (pieces_of (more_tests more) ++ End tag.Section ∷ [])
