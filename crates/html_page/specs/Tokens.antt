-- HTML's tokenisation (the HTML standard, 13.2.5), of the part of its syntax that pages here are written in. Each
-- step reads one byte, in one of the standard's states. Where a text leaves this part, the token `Outside` comes,
-- and nothing behind it.
--
-- What is left out: names have lower-case letters, digits and hyphens, values stand in double quotes, one blank
-- stands before each attribute, references end with a semicolon, and of declarations there is `<!doctype html>`.
-- CR and NUL, which HTML changes, are outside. The standard reads the text of a page's `title` in a state of its own,
-- which differs at `<` alone. Each byte above 127 is part of a character that means nothing to HTML (UTF-8), so bytes
-- stand for characters here.
use Rattle.std.specs.Prelude.{ℕ, Bool, List, [], ◌∷◌, ◌++◌, ◌==◌, ◌&&◌, ◌||◌, nat_le, Option, Some, None, if◌then◌else◌, codes}
use Rattle.std.specs.Str.{bytes_eq}

pub data Token : Type 0 where
  Doctype : Token
  StartTag : List ℕ → List (List ℕ × List ℕ) → Token
  EndTag : List ℕ → Token
  Character : ℕ → Token
  Outside : Token

-- a start tag as far as it is read: its name, and its attributes with their values
pub record Opened : Type 0 where
  pub name : List ℕ
  pub attributes : List (List ℕ × List ℕ)

pub data State : Type 0 where
  data_state : State
  character_reference : List ℕ → State
  tag_open : State
  markup_declaration : List ℕ → State
  tag_name : List ℕ → State
  end_tag_open : State
  end_tag_name : List ℕ → State
  before_attribute_name : Opened → State
  attribute_name : Opened → List ℕ → State
  before_attribute_value : Opened → List ℕ → State
  attribute_value : Opened → List ℕ → List ℕ → State
  reference_in_value : Opened → List ℕ → List ℕ → List ℕ → State
  after_attribute_value : Opened → State
  raw_text : State
  raw_text_less_than : State
  raw_text_end_tag_open : State
  raw_text_end_tag_name : List ℕ → State
  outside_state : State

-- a lower-case letter; a byte of a name
abbrev pub is_lower : ℕ → Bool
is_lower byte = nat_le 97 byte && nat_le byte 122

abbrev pub is_name_byte : ℕ → Bool
is_name_byte byte = is_lower byte || ((nat_le 48 byte && nat_le byte 57) || byte == 45)

-- CR and NUL
abbrev pub is_changed : ℕ → Bool
is_changed byte = byte == 13 || byte == 0

-- the character that a reference names: `&amp;`, `&lt;`, `&gt;`, `&quot;`, `&#13;`
abbrev pub referred : List ℕ → Option ℕ
referred name =
    if bytes_eq name (codes "amp") then Some 38
    else if bytes_eq name (codes "lt") then Some 60
    else if bytes_eq name (codes "gt") then Some 62
    else if bytes_eq name (codes "quot") then Some 34
    else if bytes_eq name (codes "#13") then Some 13
    else None

-- the state behind a start tag: the content of `style` is raw text
abbrev pub after_start : List ℕ → State
after_start name = if bytes_eq name (codes "style") then raw_text else data_state

abbrev pub lost : State × List Token
lost = (outside_state, Outside ∷ [])

abbrev pub silent : State → State × List Token
silent state = (state, [])

-- a start tag ends
abbrev pub opened : Opened → State × List Token
opened tag = (after_start tag.name, StartTag tag.name tag.attributes ∷ [])

-- a reference ends, in a text and in a value
abbrev pub in_text : Option ℕ → State × List Token
in_text (Some character) = (data_state, Character character ∷ [])
in_text None = lost

abbrev pub in_value : Opened → List ℕ → List ℕ → Option ℕ → State × List Token
in_value tag name value (Some character) = silent (attribute_value tag name (value ++ character ∷ []))
in_value tag name value None = lost

-- the next state, and the tokens that come
abbrev pub step : State → ℕ → State × List Token
-- data state
step data_state b =
    if b == 60 then silent tag_open
    else if b == 38 then silent (character_reference [])
    else if is_changed b then lost
    else (data_state, Character b ∷ [])
-- character reference state, named and numeric ones, called from the data state
step (character_reference name) b = if b == 59 then in_text (referred name) else silent (character_reference (name ++ b ∷ []))
-- tag open state
step tag_open b =
    if b == 47 then silent end_tag_open
    else if b == 33 then silent (markup_declaration [])
    else if is_lower b then silent (tag_name (b ∷ []))
    else lost
-- markup declaration open state, and the states of a DOCTYPE
step (markup_declaration read) b =
    if b == 62 then (if bytes_eq read (codes "doctype html") then (data_state, Doctype ∷ []) else lost)
    else silent (markup_declaration (read ++ b ∷ []))
-- tag name state, of a start tag
step (tag_name name) b =
    if b == 62 then opened (record { name = name; attributes = [] })
    else if b == 32 then silent (before_attribute_name (record { name = name; attributes = [] }))
    else if is_name_byte b then silent (tag_name (name ++ b ∷ []))
    else lost
-- end tag open state
step end_tag_open b = if is_lower b then silent (end_tag_name (b ∷ [])) else lost
-- tag name state, of an end tag
step (end_tag_name name) b =
    if b == 62 then (data_state, EndTag name ∷ [])
    else if is_name_byte b then silent (end_tag_name (name ++ b ∷ []))
    else lost
-- before attribute name state
step (before_attribute_name tag) b = if is_lower b then silent (attribute_name tag (b ∷ [])) else lost
-- attribute name state
step (attribute_name tag name) b =
    if b == 61 then silent (before_attribute_value tag name)
    else if is_name_byte b then silent (attribute_name tag (name ++ b ∷ []))
    else lost
-- before attribute value state
step (before_attribute_value tag name) b = if b == 34 then silent (attribute_value tag name []) else lost
-- attribute value (double-quoted) state
step (attribute_value tag name value) b =
    if b == 34 then silent (after_attribute_value (record { name = tag.name; attributes = tag.attributes ++ (name, value) ∷ [] }))
    else if b == 38 then silent (reference_in_value tag name value [])
    else if is_changed b then lost
    else silent (attribute_value tag name (value ++ b ∷ []))
-- character reference state, called from that state
step (reference_in_value tag name value read) b =
    if b == 59 then in_value tag name value (referred read) else silent (reference_in_value tag name value (read ++ b ∷ []))
-- after attribute value (quoted) state
step (after_attribute_value tag) b =
    if b == 62 then opened tag
    else if b == 32 then silent (before_attribute_name tag)
    else lost
-- RAWTEXT state
step raw_text b =
    if b == 60 then silent raw_text_less_than
    else if is_changed b then lost
    else (raw_text, Character b ∷ [])
-- RAWTEXT less-than sign state
step raw_text_less_than b = if b == 47 then silent raw_text_end_tag_open else lost
-- RAWTEXT end tag open state
step raw_text_end_tag_open b = if is_lower b then silent (raw_text_end_tag_name (b ∷ [])) else lost
-- RAWTEXT end tag name state
step (raw_text_end_tag_name name) b =
    if b == 62 then (if bytes_eq name (codes "style") then (data_state, EndTag name ∷ []) else lost)
    else if is_lower b then silent (raw_text_end_tag_name (name ++ b ∷ []))
    else lost
step outside_state b = silent outside_state

-- the end of the text, which comes in the data state
abbrev pub at_end : State → List Token
at_end data_state = []
at_end outside_state = []
at_end state = Outside ∷ []

unfoldable pub tokens_from : State → List ℕ → List Token
tokens_from state [] = at_end state
tokens_from state (byte ∷ rest) = (step state byte).1 ++ tokens_from (step state byte).0 rest

-- the tokens of a text
abbrev pub tokens_of : List ℕ → List Token
tokens_of text = tokens_from data_state text
