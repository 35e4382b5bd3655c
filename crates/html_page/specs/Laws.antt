-- The text of a page, read as HTML, is its tree again.
use Rattle.std.specs.Prelude.{◌≡◌, ℕ, List, [], ◌∷◌, ◌++◌, ◌==◌, if◌then◌else◌, map, codes}
use Rattle.std.specs.List.{flat_map}
use Rattle.html_page.specs.believed.Names.{attribute_name, tag_name}
use Rattle.html_page.specs.believed.Pieces.{Attribute, replacement}
use Rattle.html_page.specs.Tokens.{Token, Doctype, StartTag, EndTag, Character, tokens_of}
use Rattle.html_page.specs.believed.Trees.{Content, nothing, text, element, meta, title, style, page_text}
use Rattle.html_page.specs.declared.style.TheConstants.{STYLE}

-- a text with U+FFFD for each NUL
unfoldable pub shown : List ℕ → List ℕ
shown bytes = flat_map (λ byte. if byte == 0 then replacement else byte ∷ []) bytes

abbrev pub characters : List ℕ → List Token
characters bytes = map Character bytes

abbrev pub attribute_shown : Attribute → List ℕ × List ℕ
attribute_shown attribute = (attribute_name attribute.name, shown attribute.value)

-- the tags, attributes and texts of a tree, in order
unfoldable pub tree_tokens : Content → List Token
tree_tokens nothing = []
tree_tokens (text t rest) = characters (shown t) ++ tree_tokens rest
tree_tokens (element tag attributes inside rest) =
    StartTag (tag_name tag) (map attribute_shown attributes) ∷ (tree_tokens inside ++ EndTag (tag_name tag) ∷ tree_tokens rest)
tree_tokens (meta attributes rest) = StartTag (codes "meta") (map attribute_shown attributes) ∷ tree_tokens rest
tree_tokens (title attributes t rest) =
    StartTag (codes "title") (map attribute_shown attributes) ∷ (characters (shown t) ++ EndTag (codes "title") ∷ tree_tokens rest)
tree_tokens (style rest) = StartTag (codes "style") [] ∷ (characters STYLE.now ++ EndTag (codes "style") ∷ tree_tokens rest)

abbrev pub PagesReadBack : Type 0
PagesReadBack = (page : Content) → tokens_of (page_text page) ≡ Doctype ∷ tree_tokens page
