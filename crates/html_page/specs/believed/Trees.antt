-- A page is a tree of elements, and its text is the text of the tree.
use Rattle.std.specs.Prelude.{ℕ, List, [], ◌∷◌, ◌++◌}
use Rattle.html_page.specs.believed.Pieces.{Attribute, Piece, Doctype, Start, Meta, Title, Style, Text, End, pieces_text}
use Rattle.html_page.specs.declared.tag.Tag.{Tag}

-- What stands in an element: nothing; or first a text, an element with its attributes and what stands in it, a
-- `meta` element, a `title` or the style, and then the rest.
pub data Content : Type 0 where
  nothing : Content
  text : List ℕ → Content → Content
  element : Tag → List Attribute → Content → Content → Content
  meta : List Attribute → Content → Content
  title : List Attribute → List ℕ → Content → Content
  style : Content → Content

-- the pieces of its text: those of an element are its start tag, what stands in it, and its end tag
abbrev pub pieces_of : Content → List Piece
pieces_of nothing = []
pieces_of (text t rest) = Text t ∷ pieces_of rest
pieces_of (element tag attributes inside rest) = Start tag attributes ∷ (pieces_of inside ++ End tag ∷ pieces_of rest)
pieces_of (meta attributes rest) = Meta attributes ∷ pieces_of rest
pieces_of (title attributes t rest) = Title attributes t ∷ pieces_of rest
pieces_of (style rest) = Style ∷ pieces_of rest

-- the text of a page
abbrev pub page_text : Content → List ℕ
page_text content = pieces_text (Doctype ∷ pieces_of content)

-- one after another: what stands in an element goes on with more, or is made item by item
abbrev pub followed_by : Content → Content → Content
followed_by nothing more = more
followed_by (text t rest) more = text t (followed_by rest more)
followed_by (element tag attributes inside rest) more = element tag attributes inside (followed_by rest more)
followed_by (meta attributes rest) more = meta attributes (followed_by rest more)
followed_by (title attributes t rest) more = title attributes t (followed_by rest more)
followed_by (style rest) more = style (followed_by rest more)

abbrev pub all_of : {X : Type 0} → (X → Content) → List X → Content
all_of tree [] = nothing
all_of tree (item ∷ items) = followed_by (tree item) (all_of tree items)
