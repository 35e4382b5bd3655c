-- The combinations that are left out, in groups that the same constraints leave out.
use Rattle.std.specs.Prelude.{ℕ, List, [], ◌∷◌, ◌++◌, codes, decimal}
use Rattle.html_page.specs.believed.Pieces.{Piece, Start, End, Text}
use Rattle.html_page.specs.believed.Trees.{all_of, pieces_of}
use Rattle.html_page.specs.declared.tag.Tag.TheVariants as tag
use Rattle.suite_page.specs.Sections.{section_opening}
use Rattle.suite_page.specs.believed.LeftOut.{item_tree, opened, of_constraints, more_combinations}

-- its pieces before the constraints, before the combinations, and behind them
abbrev pub summary_opening : ℕ → List Piece
summary_opening count =
    Start tag.Details opened ∷ Start tag.Summary [] ∷ Text (codes "Combinations left out: ") ∷ Text (decimal count) ∷ End tag.Summary
    ∷ Start tag.Ul of_constraints ∷ []

abbrev pub group_opening : List (List ℕ) → ℕ → List Piece
group_opening constraints count = summary_opening count ++ (pieces_of (all_of item_tree constraints) ++ End tag.Ul ∷ Start tag.Ul [] ∷ [])

abbrev pub group_closing : List Piece
group_closing = End tag.Ul ∷ End tag.Details ∷ []

abbrev pub left_out_opening : List Piece
left_out_opening = section_opening (codes "Left out")

abbrev pub left_out_closing : ℕ → List Piece
left_out_closing more = pieces_of (more_combinations more) ++ End tag.Section ∷ []
