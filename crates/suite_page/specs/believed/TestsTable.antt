-- The table of tests: a row for each, with its number, under the names of the parameters.
use Rattle.std.specs.Prelude.{ℕ, Bool, false, List, [], ◌∷◌, if◌then◌else◌, codes, decimal}
use Rattle.html_page.specs.believed.Pieces.{Attribute}
use Rattle.html_page.specs.believed.Trees.{Content, nothing, text, element, all_of}
use Rattle.html_page.specs.declared.attribute.AttributeName.{AttributeName}
use Rattle.html_page.specs.declared.attribute.AttributeName.TheVariants as attribute
use Rattle.html_page.specs.declared.tag.Tag.TheVariants as tag
use Rattle.suite_page.specs.believed.Sections.{more_tree}

pub record Cell : Type 0 where
  pub text : List ℕ
  pub is_invalid : Bool

pub record Test : Type 0 where
  pub number : ℕ
  pub cells : List Cell

abbrev pub no_cell : Cell
no_cell = record { text = []; is_invalid = false }

abbrev pub given : AttributeName → List ℕ → Attribute
given name value = record { name = name; value = value }

abbrev pub name_tree : List ℕ → Content
name_tree name = element tag.Th (given attribute.Scope (codes "col") ∷ []) (text name nothing) nothing

-- a value; an invalid one is marked by a word
abbrev pub cell_tree : Cell → Content
cell_tree cell =
    if cell.is_invalid
    then element tag.Td (given attribute.Class (codes "invalid") ∷ []) (
    element tag.Span (given attribute.Class (codes "mark") ∷ []) (text (codes "invalid") nothing) (text (codes " ") (text cell.text nothing))
    ) nothing
    else element tag.Td [] (text cell.text nothing) nothing

abbrev pub test_tree : Test → Content
test_tree test =
    element tag.Tr [] (
    element tag.Th (given attribute.Scope (codes "row") ∷ []) (text (decimal test.number) nothing) (all_of cell_tree test.cells)
    ) nothing

abbrev pub scroll : List Attribute
scroll =
    given attribute.Class (codes "scroll") ∷ given attribute.TabIndex (codes "0") ∷ given attribute.Role (codes "region")
    ∷ given attribute.AriaLabel (codes "Tests") ∷ []

abbrev pub caption : List ℕ
caption = codes "The tests, one in each row"

abbrev pub more_tests : ℕ → Content
more_tests more = more_tree more (codes " more test.") (codes " more tests.")

-- the section of the tests, some of which are shown
abbrev pub tests_tree : List (List ℕ) → List Test → ℕ → Content
tests_tree names tests more =
    element tag.Section [] (
    element tag.H2 [] (text (codes "Tests") nothing)
    (element tag.Div scroll (
    element tag.Table [] (
    element tag.Caption [] (text caption nothing)
    (element tag.Thead [] (
    element tag.Tr [] (element tag.Th (given attribute.Scope (codes "col") ∷ []) (text (codes "Test") nothing) (all_of name_tree names)) nothing
    ) (element tag.Tbody [] (all_of test_tree tests) nothing))
    ) nothing
    ) (more_tests more))
    ) nothing
