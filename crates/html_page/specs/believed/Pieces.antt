-- The pieces that the text of a page is made of: tags, texts, and the style that each page has.
use Rattle.std.specs.Prelude.{ℕ, List, [], ◌∷◌, ◌++◌, ◌==◌, if◌then◌else◌, codes}
use Rattle.std.specs.List.{flat_map}
use Rattle.html_page.specs.believed.Names.{attribute_name, tag_name}
use Rattle.html_page.specs.declared.attribute.AttributeName.{AttributeName}
use Rattle.html_page.specs.declared.style.TheConstants.{STYLE}
use Rattle.html_page.specs.declared.tag.Tag.{Tag}

pub record Attribute : Type 0 where
  pub name : AttributeName
  pub value : List ℕ

pub data Piece : Type 0 where
  Doctype : Piece
  Start : Tag → List Attribute → Piece
  Meta : List Attribute → Piece
  Title : List Attribute → List ℕ → Piece
  Style : Piece
  Text : List ℕ → Piece
  End : Tag → Piece

-- U+FFFD, as UTF-8
abbrev pub replacement : List ℕ
replacement = 239 ∷ 191 ∷ 189 ∷ []

-- What stands for a byte of a text. CR would be read as LF, so it is written as a reference; HTML has no
-- reference to NUL, and puts U+FFFD in its place.
abbrev pub escaped : ℕ → List ℕ
escaped byte =
    if byte == 38 then codes "&amp;"
    else if byte == 60 then codes "&lt;"
    else if byte == 62 then codes "&gt;"
    else if byte == 34 then codes "&quot;"
    else if byte == 13 then codes "&#13;"
    else if byte == 0 then replacement
    else byte ∷ []

unfoldable pub escape : List ℕ → List ℕ
escape text = flat_map escaped text

-- ` name="value"`
abbrev pub attribute_text : Attribute → List ℕ
attribute_text attribute = codes " " ++ attribute_name attribute.name ++ codes "=\"" ++ escape attribute.value ++ codes "\""

unfoldable pub attributes_text : List Attribute → List ℕ
attributes_text attributes = flat_map attribute_text attributes

-- `<name name="value">` and `</name>`
abbrev pub start_text : List ℕ → List Attribute → List ℕ
start_text name attributes = codes "<" ++ name ++ attributes_text attributes ++ codes ">"

abbrev pub end_text : List ℕ → List ℕ
end_text name = codes "</" ++ name ++ codes ">"

abbrev pub title_text : List Attribute → List ℕ → List ℕ
title_text attributes text = start_text (codes "title") attributes ++ escape text ++ end_text (codes "title")

abbrev pub piece_text : Piece → List ℕ
piece_text Doctype = codes "<!doctype html>"
piece_text (Start tag attributes) = start_text (tag_name tag) attributes
piece_text (Meta attributes) = start_text (codes "meta") attributes
piece_text (Title attributes text) = title_text attributes text
piece_text Style = codes "<style>" ++ STYLE.now ++ codes "</style>"
piece_text (Text text) = escape text
piece_text (End tag) = end_text (tag_name tag)

unfoldable pub pieces_text : List Piece → List ℕ
pieces_text pieces = flat_map piece_text pieces
