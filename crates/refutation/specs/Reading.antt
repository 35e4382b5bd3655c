-- What is read of the bytes of a proof file, and what a call that reads answers. (This project's rule.)
use Rattle.std.specs.Prelude.{◌≡◌, ℕ, ◌<◌, Bool, true, ◌&&◌, ◌||◌, not, List, [], ◌++◌, map, length, Option, Some, None, Result, Ok, Err, ◌==◌, slice_index, option_map, option_and_then}
use Rattle.std.specs.Option.{option_zip}
use Rattle.std.specs.List.{slice_split, before_first, after_first}
use Rattle.value_text.specs.believed.Numbers.{is_digits}
use Rattle.cov_model.specs.believed.Sound.{ModelView}
use Rattle.definitions.specs.believed.ProofText as texts
use Rattle.definitions.specs.believed.Refutation.{Token}
use Rattle.refutation.specs.declared.omissions.Omission.{Omission}
use Rattle.refutation.specs.declared.omissions.ProofForm.{ProofForm}
use Rattle.refutation.specs.declared.fault.ProofFault.{ProofFault}
use Rattle.refutation.specs.declared.fault.ProofFault.TheVariants.{Line, NoMemory}
use Rattle.refutation.specs.Proofs.{ProofView, omission_meant}
use Rattle.refutation.specs.believed.Proofs.{format_of}

-- the pieces of a text between the bytes that are a mark
abbrev pub pieces : ℕ → List ℕ → List (List ℕ)
pieces mark text = slice_split (λ b. b == mark) text

-- those of what is left of a text, where something is
abbrev pub pieces_left : ℕ → Option (List ℕ) → List (List ℕ)
pieces_left mark None = []
pieces_left mark (Some text) = pieces mark text

-- a text spells a number in decimal: digits without a leading zero
abbrev pub is_numeral : List ℕ → Bool
is_numeral text = is_digits text && ((length text == 1) || not (slice_index text 0 == 48))

-- what spellings are of: a model and a format
pub record SpellingView : Type 0 where
  pub model : ModelView
  pub form : ProofForm

-- a fault is at the line where reading ends, or for want of memory
abbrev pub FailsAt : {Y : Type 0} → ProofFault → Result Y ℕ → Type 0
FailsAt (Line n) read = read ≡ Err n
FailsAt NoMemory read = Unit {0}

-- a call gives what is read, seen by a view, or the first line that spells nothing, unless memory was refused
abbrev pub Gives : {X Y : Type 0} → (X → Y) → Result X ProofFault → Result Y ℕ → Type 0
Gives view (Ok value) read = read ≡ Ok (view value)
Gives view (Err fault) read = FailsAt fault read

-- omissions and a proof with the meaning of their tokens
abbrev pub omissions_meant : List Omission → List texts.Omission
omissions_meant omissions = map omission_meant omissions

abbrev pub proof_meant : ProofView → ℕ × List texts.Omission
proof_meant proof = (format_of proof.form, omissions_meant proof.omissions)

-- what is read of some items behind those that were read
abbrev pub with_front : {Y : Type 0} → List Y → Option (List Y) → Option (List Y)
with_front front read = option_map (λ items. front ++ items) read

-- the omissions of lines behind those that were read
abbrev pub with_omissions : List texts.Omission → Result (List texts.Omission) ℕ → Result (List texts.Omission) ℕ
with_omissions front (Ok omissions) = Ok (front ++ omissions)
with_omissions front (Err line) = Err line

-- the words are those of pairs, a colon and what is left, and the pairs are a tuple's
pub record ReadsTuple (m : ModelView) (words left : List (List ℕ)) (pairs : List (ℕ × ℕ)) : Type 0 where
  pub pairs_are : texts.read_each (texts.read_pair m) (before_first texts.is_colon_word words) ≡ Some pairs
  pub left_is : after_first texts.is_colon_word words ≡ left
  pub some : 0 < length pairs
  pub rising : texts.is_rising pairs ≡ true

-- they aren't, so with no tokens are they an omission's
abbrev pub LacksTuple : ModelView → List (List ℕ) → Type 0
LacksTuple m words =
    (tokens : Option (List Token)) → option_and_then texts.proper (option_zip (texts.read_each (texts.read_pair m) (before_first texts.is_colon_word words)) tokens) ≡ None

-- the words are those of tokens
pub record ReadsTree (m : ModelView) (format : ℕ) (words : List (List ℕ)) (tokens : List Token) : Type 0 where
  pub tokens_are : texts.read_each (texts.read_token m format) words ≡ Some tokens
  pub some : 0 < length tokens

-- they aren't, so with no pairs are they an omission's
abbrev pub LacksTree : ModelView → ℕ → List (List ℕ) → Type 0
LacksTree m format words =
    (pairs : Option (List (ℕ × ℕ))) → option_and_then texts.proper (option_zip pairs (texts.read_each (texts.read_token m format) words)) ≡ None
