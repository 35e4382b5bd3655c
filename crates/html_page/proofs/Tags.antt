-- Each piece of a page is read back, and so is the page.
use Rattle.std.proofs.Common.{◌≡◌, ℕ, Bool, true, false, List, [], ◌∷◌, ◌++◌, ◌==◌, ◌&&◌, ◌||◌, not, codes, map, refl, sym, ap, ◌∙◌, append_assoc, append-nil}
use Rattle.std.specs.List.{list_all}
use Rattle.std.proofs.lemmas.Bool.{false≢true}
use Rattle.std.proofs.lemmas.Grind.{flat_map-append}
use Rattle.std.proofs.lemmas.List.Concat.{flat_map-cons}
use Rattle.html_page.specs.believed.Names.{attribute_name, tag_name}
use Rattle.html_page.specs.Laws.{PagesReadBack, attribute_shown, characters, shown, tree_tokens}
use Rattle.html_page.specs.believed.Pieces.{Attribute, Piece, Doctype, Start, Meta, Title, Style, Text, End, attribute_text, attributes_text, end_text, escape, piece_text, pieces_text, start_text, title_text}
use Rattle.html_page.specs.Tokens as tokens
use Rattle.html_page.specs.Tokens.{Token, StartTag, EndTag, Character, Opened, State, after_attribute_value, after_start}
use Rattle.html_page.specs.Tokens.{attribute_value, before_attribute_name, before_attribute_value, data_state, raw_text, tag_open, end_tag_open, is_changed, tokens_from}
use Rattle.html_page.specs.believed.Trees as trees
use Rattle.html_page.specs.believed.Trees.{Content, page_text, pieces_of}
use Rattle.html_page.specs.declared.attribute.AttributeName.{AttributeName}
use Rattle.html_page.specs.declared.attribute.AttributeName.TheVariants as attribute
use Rattle.html_page.specs.declared.style.TheConstants.{STYLE}
use Rattle.html_page.specs.declared.tag.Tag.{Tag}
use Rattle.html_page.specs.declared.tag.Tag.TheVariants as element
use Rattle.html_page.proofs.Reading.{text_read, value_read}

abbrev read : State → List ℕ → List Token
read = tokens_from

-- a name is read to its end
tag_read : (tag : Tag) (rest : List ℕ) → read tag_open (tag_name tag ++ rest) ≡ read (tokens.tag_name (tag_name tag)) rest
unfolding tokens_from
tag_read element.Html rest = refl
tag_read _ rest = refl

end_tag_read : (tag : Tag) (rest : List ℕ) → read end_tag_open (tag_name tag ++ rest) ≡ read (tokens.end_tag_name (tag_name tag)) rest
unfolding tokens_from
end_tag_read element.Html rest = refl
end_tag_read _ rest = refl

attribute_read : (name : AttributeName) (tag : Opened) (rest : List ℕ)
    → read (before_attribute_name tag) (attribute_name name ++ rest) ≡ read (tokens.attribute_name tag (attribute_name name)) rest
unfolding tokens_from
attribute_read attribute.Lang tag rest = refl
attribute_read _ tag rest = refl

-- no element with an end tag is the style
plain_behind : (tag : Tag) → after_start (tag_name tag) ≡ data_state
plain_behind element.Html = refl
plain_behind _ = refl

-- the attributes behind a first part of a start tag are read, and the tag ends
one_attribute : (attribute : Attribute) (tag : Opened) (rest : List ℕ)
    → read (before_attribute_name tag) (attribute_name attribute.name ++ (codes "=\"" ++ (escape attribute.value ++ (codes "\"" ++ rest))))
    ≡ read (after_attribute_value (record { name = tag.name; attributes = tag.attributes ++ attribute_shown attribute ∷ [] })) rest
unfolding tokens_from
one_attribute attribute tag rest =
    attribute_read attribute.name tag (codes "=\"" ++ (escape attribute.value ++ (codes "\"" ++ rest)))
    ∙ value_read attribute.value tag (attribute_name attribute.name) [] (codes "\"" ++ rest)

-- attributes behind another, and then behind the name of a tag
attributes_read : (attributes : List Attribute) (tag : Opened) (rest : List ℕ)
    → read (after_attribute_value tag) (attributes_text attributes ++ 62 ∷ rest)
    ≡ StartTag tag.name (tag.attributes ++ map attribute_shown attributes) ∷ read (after_start tag.name) rest
unfolding tokens_from attributes_text
attributes_read [] tag rest = ap (λ list. StartTag tag.name list ∷ read (after_start tag.name) rest) (sym (append-nil tag.attributes))
attributes_read (a ∷ attributes) tag rest =
    let behind = attributes_text attributes ++ 62 ∷ rest in
    let name = attribute_name a.name in
    let value = escape a.value in
    ap (λ bytes. read (after_attribute_value tag) (bytes ++ 62 ∷ rest)) (flat_map-cons attribute_text a attributes)
    ∙ ap (read (after_attribute_value tag)) (append_assoc (attribute_text a) (attributes_text attributes) (62 ∷ rest))
    ∙ ap (read (before_attribute_name tag))
    (append_assoc ((name ++ codes "=\"") ++ value) (codes "\"") behind ∙ append_assoc (name ++ codes "=\"") value (codes "\"" ++ behind)
    ∙ append_assoc name (codes "=\"") (value ++ (codes "\"" ++ behind)))
    ∙ one_attribute a tag behind
    ∙ attributes_read attributes (record { name = tag.name; attributes = tag.attributes ++ attribute_shown a ∷ [] }) rest
    ∙ ap (λ list. StartTag tag.name list ∷ read (after_start tag.name) rest) (append_assoc tag.attributes (attribute_shown a ∷ []) (map attribute_shown attributes))

first_attributes : (attributes : List Attribute) (name rest : List ℕ)
    → read (tokens.tag_name name) (attributes_text attributes ++ 62 ∷ rest) ≡ read (after_attribute_value (record { name = name; attributes = [] })) (attributes_text attributes ++ 62 ∷ rest)
unfolding tokens_from attributes_text
first_attributes [] name rest = refl
first_attributes (a ∷ attributes) name rest =
    let more = flat_map-cons attribute_text a attributes in
    ap (λ bytes. read (tokens.tag_name name) (bytes ++ 62 ∷ rest)) more
    ∙ ap (λ bytes. read (after_attribute_value (record { name = name; attributes = [] })) (bytes ++ 62 ∷ rest)) (sym more)

-- a start tag, an end tag
abbrev IsNamed : List ℕ → Type 0
IsNamed name = (rest : List ℕ) → read tag_open (name ++ rest) ≡ read (tokens.tag_name name) rest

start_read : (name : List ℕ) → IsNamed name → (attributes : List Attribute) (rest : List ℕ)
    → read data_state (start_text name attributes ++ rest) ≡ StartTag name (map attribute_shown attributes) ∷ read (after_start name) rest
unfolding tokens_from
start_read name named attributes rest =
    ap (read tag_open) (append_assoc (name ++ attributes_text attributes) (62 ∷ []) rest ∙ append_assoc name (attributes_text attributes) (62 ∷ rest))
    ∙ named (attributes_text attributes ++ 62 ∷ rest)
    ∙ first_attributes attributes name rest
    ∙ attributes_read attributes (record { name = name; attributes = [] }) rest

end_read : (tag : Tag) (rest : List ℕ) → read data_state (end_text (tag_name tag) ++ rest) ≡ EndTag (tag_name tag) ∷ read data_state rest
unfolding tokens_from
end_read tag rest =
    ap (read end_tag_open) (append_assoc (tag_name tag) (62 ∷ []) rest) ∙ end_tag_read tag (62 ∷ rest)

meta_named : IsNamed (codes "meta")
unfolding tokens_from
meta_named rest = refl

title_named : IsNamed (codes "title")
unfolding tokens_from
title_named rest = refl

title_ended : (rest : List ℕ) → read data_state (end_text (codes "title") ++ rest) ≡ EndTag (codes "title") ∷ read data_state rest
unfolding tokens_from
title_ended rest = refl

title_read : (attributes : List Attribute) (t rest : List ℕ) → read data_state (title_text attributes t ++ rest)
    ≡ StartTag (codes "title") (map attribute_shown attributes) ∷ (characters (shown t) ++ EndTag (codes "title") ∷ read data_state rest)
title_read attributes t rest =
    let name = codes "title" in
    ap (read data_state) (append_assoc (start_text name attributes ++ escape t) (end_text name) rest ∙ append_assoc (start_text name attributes) (escape t) (end_text name ++ rest))
    ∙ start_read name title_named attributes (escape t ++ (end_text name ++ rest))
    ∙ ap (λ ts. StartTag name (map attribute_shown attributes) ∷ ts)
    (text_read t (end_text name ++ rest) ∙ ap (λ ts. characters (shown t) ++ ts) (title_ended rest))

-- the style has no byte that means something in it
abbrev is_plain : ℕ → Bool
is_plain b = not (b == 60 || is_changed b)

raw_read : (css rest : List ℕ) → list_all is_plain css ≡ true → read raw_text (css ++ rest) ≡ characters css ++ read raw_text rest
unfolding tokens_from
raw_read [] rest plain = refl
raw_read (b ∷ css) rest plain = by_tests (raw_read css rest) (b == 60) (b == 13) (b == 0) refl refl refl plain
  where
    by_tests : (list_all is_plain css ≡ true → read raw_text (css ++ rest) ≡ characters css ++ read raw_text rest)
        → (x y z : Bool) → (b == 60) ≡ x → (b == 13) ≡ y → (b == 0) ≡ z → (not (x || (y || z)) && list_all is_plain css) ≡ true
        → read raw_text (b ∷ (css ++ rest)) ≡ Character b ∷ (characters css ++ read raw_text rest)
    by_tests next false false false less return nul others = simp (less, return, nul) (ap (λ ts. Character b ∷ ts) (next others))
    by_tests next true y z less return nul others = absurd (false≢true others)
    by_tests next false true z less return nul others = absurd (false≢true others)
    by_tests next false false true less return nul others = absurd (false≢true others)

style_is_plain : list_all is_plain STYLE.now ≡ true
style_is_plain = refl

style_read : (rest : List ℕ) → read data_state (piece_text Style ++ rest)
    ≡ StartTag (codes "style") [] ∷ (characters STYLE.now ++ EndTag (codes "style") ∷ read data_state rest)
unfolding tokens_from
style_read rest =
    ap (λ ts. StartTag (codes "style") [] ∷ ts)
    (ap (read raw_text) (append_assoc STYLE.now (codes "</style>") rest) ∙ raw_read STYLE.now (codes "</style>" ++ rest) style_is_plain)

-- what stands in an element, and what stands behind it
first_piece : (piece : Piece) (pieces : List Piece) (rest : List ℕ) → pieces_text (piece ∷ pieces) ++ rest ≡ piece_text piece ++ (pieces_text pieces ++ rest)
unfolding pieces_text
first_piece piece pieces rest = ap (λ bytes. bytes ++ rest) (flat_map-cons piece_text piece pieces) ∙ append_assoc (piece_text piece) (pieces_text pieces) rest

both_pieces : (one two : List Piece) (rest : List ℕ) → pieces_text (one ++ two) ++ rest ≡ pieces_text one ++ (pieces_text two ++ rest)
unfolding pieces_text
both_pieces one two rest = ap (λ bytes. bytes ++ rest) (flat_map-append piece_text one two) ∙ append_assoc (pieces_text one) (pieces_text two) rest

no_pieces : (rest : List ℕ) → pieces_text [] ++ rest ≡ rest
unfolding pieces_text
no_pieces rest = refl

content_read : (content : Content) (rest : List ℕ) → read data_state (pieces_text (pieces_of content) ++ rest) ≡ tree_tokens content ++ read data_state rest
unfolding tree_tokens
content_read trees.nothing rest = ap (read data_state) (no_pieces rest)
content_read (trees.text t more) rest =
    ap (read data_state) (first_piece (Text t) (pieces_of more) rest)
    ∙ text_read t (pieces_text (pieces_of more) ++ rest)
    ∙ ap (λ ts. characters (shown t) ++ ts) (content_read more rest)
    ∙ sym (append_assoc (characters (shown t)) (tree_tokens more) (read data_state rest))
content_read (trees.element tag attributes inside more) rest =
    let behind = pieces_text (pieces_of more) ++ rest in
    let name = tag_name tag in
    let start : List Token → List Token = λ ts. StartTag name (map attribute_shown attributes) ∷ ts in
    ap (read data_state) (first_piece (Start tag attributes) (pieces_of inside ++ End tag ∷ pieces_of more) rest)
    ∙ start_read name (tag_read tag) attributes (pieces_text (pieces_of inside ++ End tag ∷ pieces_of more) ++ rest)
    ∙ ap (λ state. start (read state (pieces_text (pieces_of inside ++ End tag ∷ pieces_of more) ++ rest))) (plain_behind tag)
    ∙ ap start (
    ap (read data_state) (both_pieces (pieces_of inside) (End tag ∷ pieces_of more) rest)
    ∙ content_read inside (pieces_text (End tag ∷ pieces_of more) ++ rest)
    ∙ ap (λ ts. tree_tokens inside ++ ts)
    (ap (read data_state) (first_piece (End tag) (pieces_of more) rest) ∙ end_read tag behind ∙ ap (λ ts. EndTag name ∷ ts) (content_read more rest))
    ∙ sym (append_assoc (tree_tokens inside) (EndTag name ∷ tree_tokens more) (read data_state rest))
    )
content_read (trees.meta attributes more) rest =
    ap (read data_state) (first_piece (Meta attributes) (pieces_of more) rest)
    ∙ start_read (codes "meta") meta_named attributes (pieces_text (pieces_of more) ++ rest)
    ∙ ap (λ ts. StartTag (codes "meta") (map attribute_shown attributes) ∷ ts) (content_read more rest)
content_read (trees.title attributes t more) rest =
    let start : List Token → List Token = λ ts. StartTag (codes "title") (map attribute_shown attributes) ∷ ts in
    ap (read data_state) (first_piece (Title attributes t) (pieces_of more) rest)
    ∙ title_read attributes t (pieces_text (pieces_of more) ++ rest)
    ∙ ap (λ ts. start (characters (shown t) ++ EndTag (codes "title") ∷ ts)) (content_read more rest)
    ∙ ap start (sym (append_assoc (characters (shown t)) (EndTag (codes "title") ∷ tree_tokens more) (read data_state rest)))
content_read (trees.style more) rest =
    ap (read data_state) (first_piece Style (pieces_of more) rest)
    ∙ style_read (pieces_text (pieces_of more) ++ rest)
    ∙ ap (λ ts. StartTag (codes "style") [] ∷ (characters STYLE.now ++ EndTag (codes "style") ∷ ts)) (content_read more rest)
    ∙ ap (λ ts. StartTag (codes "style") [] ∷ ts) (sym (append_assoc (characters STYLE.now) (EndTag (codes "style") ∷ tree_tokens more) (read data_state rest)))

doctype_read : (rest : List ℕ) → read data_state (piece_text Doctype ++ rest) ≡ tokens.Doctype ∷ read data_state rest
unfolding tokens_from
doctype_read rest = refl

at_the_end : read data_state [] ≡ []
unfolding tokens_from
at_the_end = refl

pub pages_read : PagesReadBack
pages_read page =
    ap (read data_state) (sym (append-nil (page_text page)))
    ∙ ap (read data_state) (first_piece Doctype (pieces_of page) [])
    ∙ doctype_read (pieces_text (pieces_of page) ++ [])
    ∙ ap (λ ts. tokens.Doctype ∷ ts) (content_read page [] ∙ ap (λ ts. tree_tokens page ++ ts) at_the_end ∙ append-nil (tree_tokens page))
