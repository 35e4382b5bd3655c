-- What the code's attributes and pieces are.
use Rattle.std.specs.Prelude.{ℕ, List, [], ◌∷◌, map}
use Rattle.html_page.specs.believed.Pieces as pieces
use Rattle.html_page.specs.declared.attribute.Attribute.{Attribute}
use Rattle.html_page.specs.declared.attribute.AttributeName.TheVariants as attribute
use Rattle.html_page.specs.declared.piece.Piece.{Piece}
use Rattle.html_page.specs.declared.piece.Piece.TheVariants.{Doctype, Start, StartWith, Meta, Title, TitleWithId, Style, Text, Bytes, End}

abbrev pub attribute_seen : Attribute → pieces.Attribute
attribute_seen attribute = record { name = attribute.name; value = attribute.value.now }

abbrev pub id_attribute : List ℕ → pieces.Attribute
id_attribute id = record { name = attribute.Id; value = id }

abbrev pub piece_seen : Piece → pieces.Piece
piece_seen Doctype = pieces.Doctype
piece_seen (Start tag) = pieces.Start tag []
piece_seen (StartWith tag attributes) = pieces.Start tag (map attribute_seen attributes.now)
piece_seen (Meta attributes) = pieces.Meta (map attribute_seen attributes.now)
piece_seen (Title text) = pieces.Title [] text.now
piece_seen (TitleWithId id text) = pieces.Title (id_attribute id.now ∷ []) text.now
piece_seen Style = pieces.Style
piece_seen (Text text) = pieces.Text text.now
piece_seen (Bytes text) = pieces.Text text.now
piece_seen (End tag) = pieces.End tag
