-- How the part of a pattern before its first `*` fits the start of a text.
use Rattle.std.specs.Prelude.{◌≡◌, ℕ, ◌<◌, ◌≤◌, Bool, true, false, List, ◌∷◌, length, drop}
use Rattle.value_text.specs.believed.Like.{matches, folded_chars}
use Rattle.value_text.specs.declared.pattern.PartMatch.{PartMatch}
use Rattle.value_text.specs.declared.pattern.PartMatch.TheVariants.{Whole, TextEnds, Differs, Star}

-- the pattern matches the text exactly where what is left of it matches what is left of the text,
-- and at no later start of the text without doing so as much later in what is left
pub record Continues (pattern text pattern_rest text_rest : List ℕ) : Type 0 where
  pub same : matches pattern text ≡ matches pattern_rest text_rest
  pub later : (k : ℕ) → matches pattern (drop k text) ≡ true → matches pattern_rest (drop k text_rest) ≡ true

-- what the fit tells of the whole pattern and the whole text
abbrev pub IsPartMatch : Bool → List ℕ → List ℕ → PartMatch → Type 0
IsPartMatch fold pattern text Whole = matches (folded_chars fold pattern) (folded_chars fold text) ≡ true
IsPartMatch fold pattern text TextEnds = (k : ℕ) → matches (folded_chars fold pattern) (drop k (folded_chars fold text)) ≡ false
IsPartMatch fold pattern text Differs = matches (folded_chars fold pattern) (folded_chars fold text) ≡ false
IsPartMatch fold pattern text (Star behind rest) =
    Continues (folded_chars fold pattern) (folded_chars fold text) (42 ∷ folded_chars fold behind.now) (folded_chars fold rest.now)
    × (length behind.now < length pattern) × (length rest.now ≤ length text)
