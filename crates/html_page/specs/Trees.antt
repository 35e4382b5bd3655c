-- A page is a tree of elements, and its text is the text of the tree.
use Rattle.std.specs.Prelude.{ℕ, List}
use Rattle.html_page.specs.believed.Pieces.{pieces_text}
use Rattle.html_page.specs.believed.Trees.{Content, pieces_of}

abbrev pub content_text : Content → List ℕ
content_text content = pieces_text (pieces_of content)
