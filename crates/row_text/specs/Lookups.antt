-- Texts with their numbers, and the names of a model that are looked up so. (How this program reads a row file;
-- no public clause speaks of it.)
use Rattle.std.specs.Prelude.{◌≡◌, ℕ, ◌+◌, ◌*◌, ◌<◌, ◌==◌, Bool, List, [], ◌∷◌, length, Option, Some, position, slice_index, slice_index_or}
use Rattle.std.specs.List.{list_any}
use Rattle.std.specs.Map.{lookup}
use Rattle.std.specs.Str.{bytes_eq}
use Rattle.value_text.specs.believed.Texts.{folded}
use Rattle.cov_model.specs.declared.parameter.Param.{Param}
use Rattle.cov_model.specs.declared.parameter.Value.{Value}
use Rattle.cov_model.specs.believed.Sound.{ModelView, param_at}
use Rattle.definitions.specs.believed.Report.{printed}

-- the number of a text: that of the first pair with it
abbrev pub number_of : List (List ℕ × ℕ) → List ℕ → Option ℕ
number_of pairs text = lookup (λ known. bytes_eq known text) pairs

-- a text of bytes as a number: its bytes from the lowest eight bits on, and 1 above the last one
abbrev pub word_of : List ℕ → ℕ
word_of [] = 1
word_of (byte ∷ text) = byte + 256 * word_of text

abbrev pub AreBytes : List ℕ → Type 0
AreBytes text = (i : ℕ) → slice_index text i < 256

-- a number that is found by the word of a text is the text's
abbrev pub AreWordsOf : List (List ℕ × ℕ) → List (ℕ × ℕ) → Type 0
AreWordsOf pairs words = (text : List ℕ) (n : ℕ) → AreBytes text → lookup (λ word. word_of text == word) words ≡ Some n → number_of pairs text ≡ Some n

-- whether a parameter has a name, given as the case rule compares it
abbrev pub is_param_named : ModelView → List ℕ → Param → Bool
is_param_named m key param = bytes_eq (folded m.fold param.name) key

-- whether a name of a value is printed so
abbrev pub is_value_named : ModelView → List ℕ → Value → Bool
is_value_named m key value = list_any (λ name. bytes_eq (folded m.fold (printed m value name)) key) value.names

-- the numbers are those of the model's parameters, and for each parameter those of its values
pub record AreNamesOf (m : ModelView) (params : List (List ℕ × ℕ)) (values : List (List (List ℕ × ℕ))) : Type 0 where
  pub param_names : (key : List ℕ) → number_of params key ≡ position (is_param_named m key) m.params
  pub as_many : length values ≡ length m.params
  pub value_names : (p : ℕ) (key : List ℕ) → p < length m.params
      → number_of (slice_index_or values p []) key ≡ position (is_value_named m key) (param_at m.params p).values
