-- The characters of a text in lower case.
use Rattle.std.proofs.Common.{◌≡◌, ℕ, ◌<◌, ◌≤◌, Bool, true, false, if◌then◌else◌, List, [], ◌∷◌, ◌++◌, map, length, get_or}
use Rattle.std.proofs.Common.{encode_utf8, encode_utf8_all, chars, IsUtf8, refl, sym, ◌∙◌, ap, inl, inr, suc, append-nil, arith}
use Rattle.std.proofs.lemmas.Bool.Decides.{nat_tests, leb_tells}
use Rattle.std.proofs.lemmas.List.{map-append}
use Rattle.std.proofs.lemmas.Str.{chars-nil, chars-append, chars-encodes, IsUtf8-encode, encode_ascii, inside_one, cons_from_encodes}
use Rattle.std.proofs.lemmas.Bool.{and_parts}
use Rattle.std.proofs.lemmas.Str.Ascii.{lowercase_ascii}
use Rattle.std.proofs.Math.Utf8.{scalar, scalars, low_scalar}
use Rattle.std.specs.Char.{to_ascii_lowercase, IsScalar}
use Rattle.value_text.specs.believed.Texts.{folded}
use Rattle.value_text.specs.believed.Like.{folded_chars}

-- the character under the case rule
abbrev pub folded_char : Bool → ℕ → ℕ
folded_char fold c = if fold then to_ascii_lowercase c else c

lowercase_high : (b : ℕ) → 128 ≤ b → to_ascii_lowercase b ≡ b
lowercase_high b high = grind (arith, nat_tests)

-- bytes that are not ASCII
map_high : (bytes : List ℕ) → ((k : ℕ) → k < length bytes → 128 ≤ get_or bytes k 0) → map to_ascii_lowercase bytes ≡ bytes
map_high [] high = refl
map_high (b ∷ rest) high = rw (lowercase_high b (high 0 (omega arith)), map_high rest (λ k within. high (suc k) (omega arith)))

-- the bytes of a character that is not ASCII
pub high_byte : (c k : ℕ) → 128 ≤ c → k < length (encode_utf8 c) → 128 ≤ get_or (encode_utf8 c) k 0
high_byte c k high within =
    elim (leb_tells 128 (get_or (encode_utf8 c) k 0)) [
      | inl is ↦ is.1
      | inr low ↦ let same = inside_one c [] (encode_utf8 c) k (sym (append-nil (encode_utf8 c))) within low.1 in omega arith
    ]

lowercase_encoded : (c : ℕ) → map to_ascii_lowercase (encode_utf8 c) ≡ encode_utf8 (to_ascii_lowercase c)
lowercase_encoded c =
    elim (leb_tells 128 c) [
      | inl high ↦ map_high (encode_utf8 c) (λ k within. high_byte c k high.1 within) ∙ ap encode_utf8 (sym (lowercase_high c high.1))
      | inr low ↦ ap (map to_ascii_lowercase) (encode_ascii c low.1) ∙ sym (encode_ascii (to_ascii_lowercase c) (lowercase_ascii c low.1))
    ]

scalar_folded : (fold : Bool) (c : ℕ) → IsScalar c → IsScalar (folded_char fold c)
scalar_folded false c is = is
scalar_folded true c is =
    elim (leb_tells 128 c) [
      | inl high ↦ ap scalar (lowercase_high c high.1) ∙ is
      | inr low ↦ let small = lowercase_ascii c low.1 in low_scalar (to_ascii_lowercase c) (omega arith)
    ]

folded_encoded : (fold : Bool) (c : ℕ) (rest : List ℕ) → folded fold (encode_utf8 c ++ rest) ≡ encode_utf8 (folded_char fold c) ++ folded fold rest
folded_encoded false c rest = refl
folded_encoded true c rest = map-append to_ascii_lowercase (encode_utf8 c) rest ∙ ap (λ bytes. bytes ++ map to_ascii_lowercase rest) (lowercase_encoded c)

chars_of_one : (c : ℕ) → IsScalar c → chars (encode_utf8 c) ≡ c ∷ []
chars_of_one c is = ap chars (sym (append-nil (encode_utf8 c))) ∙ chars-encodes (c ∷ []) (rw is)

scalar_first : (c : ℕ) (rest text : List ℕ) → IsUtf8 text → text ≡ encode_utf8 c ++ rest → IsScalar c
scalar_first c rest text utf8 parts =
    let first = cons_from_encodes utf8.0 rest c (utf8.1.1 ∙ parts) in
    (and_parts (scalar c) (scalars first.0) (ap scalars (sym first.1) ∙ utf8.1.0)).0

pub folded_chars_step : (fold : Bool) (c : ℕ) (rest text : List ℕ) → IsUtf8 text → text ≡ encode_utf8 c ++ rest → folded_chars fold text ≡ folded_char fold c ∷ folded_chars fold rest
folded_chars_step fold c rest text utf8 parts =
    let is = scalar_folded fold c (scalar_first c rest text utf8 parts) in
    ap (folded_chars fold) parts ∙ ap chars (folded_encoded fold c rest)
    ∙ chars-append (encode_utf8 (folded_char fold c)) (folded fold rest) (IsUtf8-encode (folded_char fold c) is)
    ∙ ap (λ cs. cs ++ folded_chars fold rest) (chars_of_one (folded_char fold c) is)

-- no character is left exactly where no byte is
pub folded_chars_none : (fold : Bool) (text : List ℕ) → length text ≡ 0 → folded_chars fold text ≡ []
folded_chars_none false [] none = chars-nil
folded_chars_none true [] none = chars-nil
folded_chars_none fold (b ∷ rest) none = absurd (omega arith)

pub folded_chars_some : (fold : Bool) (text : List ℕ) → IsUtf8 text → 0 < length text → (c : ℕ) × (rest : List ℕ) × (folded_chars fold text ≡ c ∷ rest)
folded_chars_some fold text utf8 some = by utf8.0 utf8.1.1
  where
    by : (cs : List ℕ) → encode_utf8_all cs ≡ text → (c : ℕ) × (rest : List ℕ) × (folded_chars fold text ≡ c ∷ rest)
    by [] is = absurd (let none = ap length is in omega arith)
    by (c ∷ cs) is = (folded_char fold c, folded_chars fold (encode_utf8_all cs), folded_chars_step fold c (encode_utf8_all cs) text utf8 (sym is))
