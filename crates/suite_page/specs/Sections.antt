-- A section's beginning, and how many follow what is shown.
use Rattle.std.specs.Prelude.{ℕ, List, [], ◌∷◌}
use Rattle.html_page.specs.believed.Pieces.{Piece, Start, End, Text}
use Rattle.html_page.specs.declared.tag.Tag.TheVariants as tag

-- the pieces of a section up to its heading
abbrev pub section_opening : List ℕ → List Piece
section_opening heading = Start tag.Section [] ∷ Start tag.H2 [] ∷ Text heading ∷ End tag.H2 ∷ []
