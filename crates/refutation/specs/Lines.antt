-- The lines of a proof file, as they are written. (This project's rule.)
use Rattle.std.specs.Prelude.{ℕ, ◌-◌, ◌^◌, List, ◌∷◌, length, map, min}
use Rattle.std.specs.List.{flat_map}
use Rattle.definitions.specs.believed.Pairs.{pair_text}
use Rattle.definitions.specs.believed.ProofText.{format_line, omission_line, token_text}
use Rattle.refutation.specs.declared.omissions.Omission.{Omission}
use Rattle.refutation.specs.declared.omissions.ProofForm.{ProofForm}
use Rattle.refutation.specs.declared.token.TreeToken.{TreeToken}
use Rattle.refutation.specs.believed.Proofs.{format_of}
use Rattle.refutation.specs.Proofs.{meant, omission_meant}

-- the first line of a proof of this form
abbrev pub form_text : ProofForm → List ℕ
form_text form = format_line (format_of form)

-- the line of an omission
abbrev pub line_text : Omission → List ℕ
line_text omission = omission_line (omission_meant omission)

-- how many bytes it has, or 2^64 - 1 where that is less
abbrev pub line_len : Omission → ℕ
line_len omission = min (length (line_text omission)) (2 ^ 64 - 1)

-- pairs and tokens in a line, a space before each
abbrev pub spaced : List (List ℕ) → List ℕ
spaced words = flat_map (λ word. 32 ∷ word) words

abbrev pub pair_words : List (ℕ × ℕ) → List (List ℕ)
pair_words pairs = map pair_text pairs

abbrev pub token_words : List TreeToken → List (List ℕ)
token_words tokens = map (λ token. token_text (meant token)) tokens
