-- The whole of a page.
use Rattle.std.specs.Prelude.{ℕ, Bool, List, [], ◌∷◌, ◌++◌, codes}
use Rattle.html_page.specs.believed.Pieces.{Attribute}
use Rattle.html_page.specs.believed.Trees.{Content, nothing, element, meta, title, style, followed_by}
use Rattle.html_page.specs.declared.attribute.AttributeName.TheVariants as attribute
use Rattle.html_page.specs.declared.tag.Tag.TheVariants as tag
use Rattle.suite_page.specs.believed.LeftOut.{Group, left_out_tree}
use Rattle.suite_page.specs.believed.Pictures.{Picture, picture_tree}
use Rattle.suite_page.specs.believed.TestsTable.{Test, tests_tree}
use Rattle.suite_page.specs.believed.Verdicts.{numbers_tree, verdict_tree}

-- What a page says: the model file's name, the verdict and a remark on it, the numbers in sentences, the picture, the
-- names of the parameters, the tests that are shown and how many follow, and the groups of combinations that are left
-- out and how many combinations follow.
pub record Suite : Type 0 where
  pub name : List ℕ
  pub accepted : Bool
  pub verdict : List ℕ
  pub remark : List ℕ
  pub numbers : List (List ℕ)
  pub picture : Picture
  pub names : List (List ℕ)
  pub tests : List Test
  pub more_tests : ℕ
  pub groups : List Group
  pub more_combinations : ℕ

abbrev pub title_of : List ℕ → List ℕ
title_of name = codes "Test suite of " ++ name

abbrev pub in_english : List Attribute
in_english = record { name = attribute.Lang; value = codes "en" } ∷ []

abbrev pub encoding : List Attribute
encoding = record { name = attribute.Charset; value = codes "utf-8" } ∷ []

abbrev pub viewport : List Attribute
viewport =
    record { name = attribute.Name; value = codes "viewport" }
    ∷ record { name = attribute.Content; value = codes "width=device-width, initial-scale=1" } ∷ []

-- a page with this in its main part
abbrev pub document_tree : List ℕ → Content → Content
document_tree name inside =
    element tag.Html in_english (
    element tag.Head [] (meta encoding (meta viewport (title [] (title_of name) (style nothing))))
    (element tag.Body [] (element tag.Main [] inside nothing) nothing)
    ) nothing

-- what is left out, where something is
abbrev pub left_out : List Group → ℕ → Content
left_out [] more = nothing
left_out (group ∷ groups) more = left_out_tree (group ∷ groups) more

abbrev pub suite_tree : Suite → Content
suite_tree suite =
    document_tree suite.name
    (followed_by (verdict_tree suite.name suite.accepted suite.verdict suite.remark)
    (followed_by (numbers_tree suite.numbers)
    (followed_by (picture_tree suite.picture)
    (followed_by (tests_tree suite.names suite.tests suite.more_tests) (left_out suite.groups suite.more_combinations)))))
