-- Why a proof omits a combination: what the leaves of its tree say. (This project's rule.)
use Rattle.std.specs.Prelude.{ℕ, ◌-◌, ◌==◌, nat_lt, Bool, true, false, List, [], ◌∷◌, ◌++◌, length, filter, Option, Some, None, codes, decimal, slice_get, if◌then◌else◌}
use Rattle.std.specs.List.{flat_map, list_any}
use Rattle.cov_model.specs.believed.Sound.{ModelView}
use Rattle.cov_model.specs.believed.Views.{RuleView}
use Rattle.definitions.specs.believed.ProofText.{Omission}
use Rattle.definitions.specs.believed.Refutation.{Token, Branch, ByRule, ByNegative, ByOmission}
use Rattle.model_words.specs.believed.Constraints.{rule_words}
use Rattle.model_words.specs.believed.Words.{listed, pair_words}

-- a number among others that rise, each once
abbrev pub with_number : ℕ → List ℕ → List ℕ
with_number n [] = n ∷ []
with_number n (k ∷ rest) = if nat_lt n k then n ∷ k ∷ rest else if n == k then k ∷ rest else k ∷ with_number n rest

abbrev pub with_numbers : List ℕ → List ℕ → List ℕ
with_numbers rising [] = rising
with_numbers rising (n ∷ numbers) = with_numbers (with_number n rising) numbers

-- whether a token is a leaf, and whether it is the one by an invalid value
abbrev pub is_case : Token → Bool
is_case (Branch p) = false
is_case (ByRule k) = true
is_case ByNegative = true
is_case (ByOmission n) = true

abbrev pub is_by_invalid : Token → Bool
is_by_invalid (Branch p) = false
is_by_invalid (ByRule k) = false
is_by_invalid ByNegative = true
is_by_invalid (ByOmission n) = false

-- the number of the constraint, and of the omission, of a leaf
abbrev pub rule_of : Token → List ℕ
rule_of (Branch p) = []
rule_of (ByRule k) = k ∷ []
rule_of ByNegative = []
rule_of (ByOmission n) = []

abbrev pub omission_of : Token → List ℕ
omission_of (Branch p) = []
omission_of (ByRule k) = []
omission_of ByNegative = []
omission_of (ByOmission n) = n ∷ []

-- how many leaves a tree has; the numbers of the constraints and of the omissions in them, rising, each once; and whether
-- one is by an invalid value
pub record Explanation : Type 0 where
  pub cases : ℕ
  pub rules : List ℕ
  pub by_invalid : Bool
  pub cited : List ℕ

abbrev pub explained : List Token → Explanation
explained tree = record {
  cases = length (filter is_case tree);
  rules = with_numbers [] (flat_map rule_of tree);
  by_invalid = list_any is_by_invalid tree;
  cited = with_numbers [] (flat_map omission_of tree);
}

-- ---- the text

-- a constraint, with its line in the model file
abbrev pub rule_line : ModelView → Option RuleView → List ℕ
rule_line m None = []
rule_line m (Some rule) =
    codes "    constraint " ++ (decimal rule.number ++ (codes ", line " ++ (decimal rule.line ++ (codes ": " ++ (rule_words m.params rule ++ codes "\n")))))

-- the combination of an earlier line of the proof
abbrev pub cited_line : ModelView → Option Omission → List ℕ
cited_line m None = []
cited_line m (Some omission) = codes "    left out above: " ++ (listed (pair_words m) omission.tuple ++ codes "\n")

abbrev pub cases_line : ℕ → List ℕ
cases_line n = if nat_lt 1 n then codes "    " ++ (decimal n ++ codes " cases, each by one of these:\n") else []

abbrev pub invalid_line : Bool → List ℕ
invalid_line true = codes "    one invalid value at most\n"
invalid_line false = []

-- constraints and omissions are numbered from 1
abbrev pub explanation_lines : ModelView → List Omission → Explanation → List ℕ
explanation_lines m omissions e =
    cases_line e.cases ++ (flat_map (λ k. rule_line m (slice_get m.rules (k - 1))) e.rules
    ++ (invalid_line e.by_invalid ++ flat_map (λ n. cited_line m (slice_get omissions (n - 1))) e.cited))

-- a combination among those that a proof omits
abbrev pub omission_lines : ModelView → List Omission → Omission → List ℕ
omission_lines m omissions omission =
    codes "  " ++ (listed (pair_words m) omission.tuple ++ (codes "\n" ++ explanation_lines m omissions (explained omission.tree)))

-- all of them
abbrev pub left_out_words : ModelView → List Omission → List ℕ
left_out_words m [] = []
left_out_words m (omission ∷ omissions) = codes "Left out\n" ++ flat_map (omission_lines m (omission ∷ omissions)) (omission ∷ omissions)
