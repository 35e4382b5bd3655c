-- The combinations of a page that are left out, and what leaves them out. (This project's rule.)
use Rattle.std.specs.Prelude.{ℕ, ◌==◌, ◌-◌, List, [], ◌∷◌, ◌++◌, map, Option, Some, None, codes, decimal, slice_get, if◌then◌else◌}
use Rattle.std.specs.List.{flat_map}
use Rattle.cov_model.specs.believed.Sound.{ModelView}
use Rattle.cov_model.specs.believed.Views.{RuleView}
use Rattle.definitions.specs.believed.ProofText as proofs
use Rattle.model_words.specs.believed.Constraints.{rule_words}
use Rattle.model_words.specs.believed.Explanations.{Explanation, explained}
use Rattle.model_words.specs.believed.Words.{listed, pair_words}
use Rattle.suite_page.specs.believed.LeftOut.{Omission}

-- a constraint, with its line in the model file
abbrev pub rule_reason : ModelView → Option RuleView → List ℕ
rule_reason m None = []
rule_reason m (Some rule) = codes "line " ++ (decimal rule.line ++ (codes ": " ++ rule_words m.params rule))

-- a combination that is left out as well, and on which a tree rests
abbrev pub cited_words : ModelView → Option proofs.Omission → List ℕ
cited_words m None = []
cited_words m (Some omission) = codes " (also left out: " ++ (listed (pair_words m) omission.tuple ++ codes ")")

abbrev pub combination_words : ModelView → List proofs.Omission → proofs.Omission → List ℕ
combination_words m omissions omission =
    listed (pair_words m) omission.tuple ++ flat_map (λ n. cited_words m (slice_get omissions (n - 1))) (explained omission.tree).cited

-- the constraints by number, and 0 for that a test has one invalid value at most
abbrev pub causes_of : Explanation → List ℕ
causes_of e = (if e.by_invalid then 0 ∷ [] else []) ++ e.rules

abbrev pub reason_of : ModelView → ℕ → List ℕ
reason_of m cause = if cause == 0 then codes "one invalid value at most" else rule_reason m (slice_get m.rules (cause - 1))

abbrev pub omitted : ModelView → List proofs.Omission → proofs.Omission → Omission
omitted m omissions omission =
    let causes = causes_of (explained omission.tree) in
    record { combination = combination_words m omissions omission; causes = causes; reasons = map (reason_of m) causes }
