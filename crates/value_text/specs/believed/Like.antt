-- Patterns: `*` is any run of characters, also none, `?` is any one character, and every other
-- character is itself under the case rule. (PICT's guide.)
use Rattle.std.specs.Prelude.{ℕ, Bool, true, false, ◌&&◌, ◌||◌, List, [], ◌∷◌, ◌==◌, if◌then◌else◌}
use Rattle.std.specs.Str.{chars}
use Rattle.value_text.specs.believed.Texts.{folded}

-- whether a pattern matches a text, both given as their characters: 42 is `*` and 63 is `?`
abbrev pub matches : List ℕ → List ℕ → Bool
matches [] [] = true
matches [] (c ∷ text) = false
matches (x ∷ pattern) [] = if x == 42 then matches pattern [] else false
matches (x ∷ pattern) (c ∷ text) =
    if x == 42 then matches pattern (c ∷ text) || matches (x ∷ pattern) text
    else ((x == 63) || (x == c)) && matches pattern text

-- the characters of a text under the case rule
abbrev pub folded_chars : Bool → List ℕ → List ℕ
folded_chars fold text = chars (folded fold text)

-- whether a pattern matches a text, both given as their bytes
abbrev pub is_like : Bool → List ℕ → List ℕ → Bool
is_like fold pattern text = matches (folded_chars fold pattern) (folded_chars fold text)
