-- The whole of a page.
use Rattle.std.specs.Prelude.{ℕ, List, [], ◌∷◌}
use Rattle.html_page.specs.believed.Pieces.{Piece, Doctype, Start, End, Meta, Title, Style}
use Rattle.html_page.specs.declared.tag.Tag.TheVariants as tag
use Rattle.suite_page.specs.believed.Document.{title_of, in_english, encoding, viewport}

-- its pieces before that, and behind it
abbrev pub opening : List ℕ → List Piece
opening name =
    Doctype ∷ Start tag.Html in_english ∷ Start tag.Head [] ∷ Meta encoding ∷ Meta viewport ∷ Title [] (title_of name) ∷ Style ∷ End tag.Head
    ∷ Start tag.Body [] ∷ Start tag.Main [] ∷ []

abbrev pub closing : List Piece
closing = End tag.Main ∷ End tag.Body ∷ End tag.Html ∷ []
