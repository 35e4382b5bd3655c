-- A text, escaped, is read back: between tags, and as the value of an attribute.
use Rattle.std.proofs.Common.{◌≡◌, ℕ, Bool, true, false, List, [], ◌∷◌, ◌++◌, ◌==◌, refl, sym, ap, ◌∙◌, subst, append_assoc, append-nil}
use Rattle.std.proofs.lemmas.Bool.{eqb-true}
use Rattle.std.proofs.lemmas.List.{map-append}
use Rattle.std.proofs.lemmas.List.Concat.{flat_map-cons}
use Rattle.std.specs.Prelude.{if◌then◌else◌}
use Rattle.std.specs.List.{flat_map}
use Rattle.html_page.specs.Laws.{characters, shown}
use Rattle.html_page.specs.believed.Pieces.{escape, escaped, replacement}
use Rattle.html_page.specs.Tokens.{Character, Opened, attribute_value, data_state, tokens_from}

-- what a byte of a text is read as
abbrev pub shown_byte : ℕ → List ℕ
shown_byte byte = if byte == 0 then replacement else byte ∷ []

abbrev pub InText : ℕ → Type 0
InText b = (rest : List ℕ) → tokens_from data_state (escaped b ++ rest) ≡ characters (shown_byte b) ++ tokens_from data_state rest

abbrev pub InValue : ℕ → Type 0
InValue b = (tag : Opened) (name value rest : List ℕ)
    → tokens_from (attribute_value tag name value) (escaped b ++ rest) ≡ tokens_from (attribute_value tag name (value ++ shown_byte b)) rest

-- a fact of the bytes with a reference, and of each other byte
by_bytes : (P : ℕ → Type 0) → P 38 → P 60 → P 62 → P 34 → P 13 → P 0
    → ((b : ℕ) → (b == 38) ≡ false → (b == 60) ≡ false → (b == 62) ≡ false → (b == 34) ≡ false → (b == 13) ≡ false → (b == 0) ≡ false → P b)
    → (b : ℕ) → P b
by_bytes P ampersand less greater quote return nul other b = is_ampersand (b == 38) refl
  where
    at : (n : ℕ) → P n → (b == n) ≡ true → P b
    at n holds same = subst P (sym (eqb-true b n same)) holds

    is_nul : (x : Bool) → (b == 0) ≡ x → (b == 38) ≡ false → (b == 60) ≡ false → (b == 62) ≡ false → (b == 34) ≡ false → (b == 13) ≡ false → P b
    is_nul true e e1 e2 e3 e4 e5 = at 0 nul e
    is_nul false e e1 e2 e3 e4 e5 = other b e1 e2 e3 e4 e5 e

    is_return : (x : Bool) → (b == 13) ≡ x → (b == 38) ≡ false → (b == 60) ≡ false → (b == 62) ≡ false → (b == 34) ≡ false → P b
    is_return true e e1 e2 e3 e4 = at 13 return e
    is_return false e e1 e2 e3 e4 = is_nul (b == 0) refl e1 e2 e3 e4 e

    is_quote : (x : Bool) → (b == 34) ≡ x → (b == 38) ≡ false → (b == 60) ≡ false → (b == 62) ≡ false → P b
    is_quote true e e1 e2 e3 = at 34 quote e
    is_quote false e e1 e2 e3 = is_return (b == 13) refl e1 e2 e3 e

    is_greater : (x : Bool) → (b == 62) ≡ x → (b == 38) ≡ false → (b == 60) ≡ false → P b
    is_greater true e e1 e2 = at 62 greater e
    is_greater false e e1 e2 = is_quote (b == 34) refl e1 e2 e

    is_less : (x : Bool) → (b == 60) ≡ x → (b == 38) ≡ false → P b
    is_less true e e1 = at 60 less e
    is_less false e e1 = is_greater (b == 62) refl e1 e

    is_ampersand : (x : Bool) → (b == 38) ≡ x → P b
    is_ampersand true e = at 38 ampersand e
    is_ampersand false e = is_less (b == 60) refl e

pub byte_in_text : (b : ℕ) → InText b
unfolding tokens_from
byte_in_text =
    by_bytes InText (λ rest. refl) (λ rest. refl) (λ rest. refl) (λ rest. refl) (λ rest. refl) (λ rest. refl)
    (λ b e1 e2 e3 e4 e5 e6 rest. simp (e1, e2, e3, e4, e5, e6) refl)

pub byte_in_value : (b : ℕ) → InValue b
unfolding tokens_from
byte_in_value =
    by_bytes InValue (λ tag name value rest. refl) (λ tag name value rest. refl) (λ tag name value rest. refl) (λ tag name value rest. refl)
    (λ tag name value rest. refl)
    (λ tag name value rest. ap (λ v. tokens_from (attribute_value tag name v) rest)
    (append_assoc (value ++ 239 ∷ []) (191 ∷ []) (189 ∷ []) ∙ append_assoc value (239 ∷ []) (191 ∷ 189 ∷ [])))
    (λ b e1 e2 e3 e4 e5 e6 tag name value rest. simp (e1, e2, e3, e4, e5, e6) refl)

pub text_read : (text rest : List ℕ) → tokens_from data_state (escape text ++ rest) ≡ characters (shown text) ++ tokens_from data_state rest
unfolding escape shown
text_read [] rest = refl
text_read (b ∷ text) rest =
    let more = flat_map-cons escaped b text in
    let shown_more = flat_map-cons shown_byte b text in
    ap (λ bytes. tokens_from data_state (bytes ++ rest)) more
    ∙ ap (tokens_from data_state) (append_assoc (escaped b) (flat_map escaped text) rest)
    ∙ byte_in_text b (flat_map escaped text ++ rest)
    ∙ ap (λ tokens. characters (shown_byte b) ++ tokens) (text_read text rest)
    ∙ sym (append_assoc (characters (shown_byte b)) (characters (flat_map shown_byte text)) (tokens_from data_state rest))
    ∙ ap (λ tokens. tokens ++ tokens_from data_state rest) (sym (map-append Character (shown_byte b) (flat_map shown_byte text)) ∙ ap characters (sym shown_more))

pub value_read : (text : List ℕ) (tag : Opened) (name value rest : List ℕ)
    → tokens_from (attribute_value tag name value) (escape text ++ rest) ≡ tokens_from (attribute_value tag name (value ++ shown text)) rest
unfolding escape shown
value_read [] tag name value rest = ap (λ v. tokens_from (attribute_value tag name v) rest) (sym (append-nil value))
value_read (b ∷ text) tag name value rest =
    let more = flat_map-cons escaped b text in
    let shown_more = flat_map-cons shown_byte b text in
    ap (λ bytes. tokens_from (attribute_value tag name value) (bytes ++ rest)) more
    ∙ ap (tokens_from (attribute_value tag name value)) (append_assoc (escaped b) (flat_map escaped text) rest)
    ∙ byte_in_value b tag name value (flat_map escaped text ++ rest)
    ∙ value_read text tag name (value ++ shown_byte b) rest
    ∙ ap (λ v. tokens_from (attribute_value tag name v) rest) (append_assoc value (shown_byte b) (flat_map shown_byte text) ∙ ap (λ v. value ++ v) (sym shown_more))
