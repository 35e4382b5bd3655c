-- The text that says in words what a suite covers, whether it is accepted, why not, and why combinations are left out. (This project's rule.)
use Rattle.std.specs.Prelude.{ℕ, ◌*◌, ◌-◌, ◌/◌, ◌==◌, ◌||◌, Bool, true, false, List, [], ◌++◌, length, map, Option, Some, None, Result, Ok, Err, codes, decimal, if◌then◌else◌}
use Rattle.std.specs.List.{flat_map}
use Rattle.cov_model.specs.believed.Sound.{ModelView}
use Rattle.definitions.specs.believed.ProofText.{Omission}
use Rattle.model_words.specs.believed.Explanations.{left_out_words}
use Rattle.model_words.specs.believed.Words.{combinations, counted, listed, pair_words, param_words, tests}
use Rattle.suite_facts.specs.believed.Facts.{SetCount, largest_of, round_counts}
use Rattle.suite_facts.specs.believed.Coverages.{numbers_of, point_of}
use Rattle.suite_facts.specs.declared.coverage.SuiteNumbers.{SuiteNumbers}
use Rattle.suite_facts.specs.declared.curve.CurvePoint.{CurvePoint}
use Rattle.proof_check.specs.declared.verdict.Verdict.{Verdict}
use Rattle.proof_check.specs.declared.verdict.Verdict.TheVariants.{Accepted, BadRow, BadProof, BadOmission, Uncovered}

-- how large the suite is, and how much of the demand it covers; nothing more is left where it is accepted
abbrev pub size_words : SuiteNumbers → List ℕ
size_words n = tests n.tests ++ (codes " of " ++ (counted n.params (codes "parameter") (codes "parameters") ++ codes ". "))

abbrev pub covered_words : SuiteNumbers → List ℕ
covered_words n =
    decimal n.covered ++ (codes " of " ++ (combinations n.demanded ++ (codes " of " ++ (counted n.sets (codes "set") (codes "sets") ++ codes " are covered; "))))

abbrev pub rest_words : SuiteNumbers → Bool → List ℕ
rest_words n true = decimal (n.demanded - n.covered) ++ codes " are left out with a proof.\n"
rest_words n false = decimal (n.demanded - n.covered) ++ codes " are not covered.\n"

abbrev pub coverage_words : SuiteNumbers → Bool → List ℕ
coverage_words n accepted = size_words n ++ (covered_words n ++ rest_words n accepted)

-- the verdict, and whether it accepts
abbrev pub is_accepted : Verdict → Bool
is_accepted (Accepted rows omissions) = true
is_accepted (BadRow line) = false
is_accepted (BadProof line) = false
is_accepted (BadOmission line) = false
is_accepted (Uncovered pairs) = false

abbrev pub accepted_words : ℕ → ℕ → List ℕ
accepted_words rows omissions = codes "accepted: " ++ (decimal rows ++ (codes " rows, " ++ (decimal omissions ++ codes " omissions\n")))

abbrev pub uncovered_words : ModelView → List (ℕ × ℕ) → List ℕ
uncovered_words m pairs = codes "refused: no test covers " ++ (listed (pair_words m) pairs ++ codes "\n")

abbrev pub verdict_words : ModelView → Verdict → List ℕ
verdict_words m (Accepted rows omissions) = accepted_words rows omissions
verdict_words m (BadRow line) = codes "refused: table line " ++ (decimal line ++ codes ": not a valid row\n")
verdict_words m (BadProof line) = codes "refused: proof line " ++ (decimal line ++ codes ": not a proof line\n")
verdict_words m (BadOmission line) = codes "refused: proof line " ++ (decimal line ++ codes ": the tree does not refute the combination\n")
verdict_words m (Uncovered pairs) = uncovered_words m pairs

-- that there is no proof, where one might have changed the verdict
abbrev pub proof_words : Bool → Bool → List ℕ
proof_words is_named accepted = if is_named || accepted then [] else codes "No proof was given.\n"

-- how many tests every suite needs at least: within one set of parameters no test covers two combinations; which of them
-- some test can cover is known where the suite is accepted
abbrev pub set_words : ModelView → Option SetCount → List ℕ
set_words m None = []
set_words m (Some set) =
    codes "Rows: every suite needs at least " ++ (tests set.1 ++ (codes ", one for each possible combination of " ++ (listed (param_words m) set.0 ++ codes ".\n")))

abbrev pub least_words : ModelView → Option SetCount → Bool → List ℕ
least_words m largest true = set_words m largest
least_words m largest false = []

-- the omissions of a proof that are explained: all, where the verdict is that each tree refutes its combination
abbrev pub omissions_read : Result (ℕ × List Omission) ℕ → List Omission
omissions_read (Ok proof) = proof.1
omissions_read (Err line) = []

abbrev pub omissions_told : Verdict → Result (ℕ × List Omission) ℕ → List Omission
omissions_told (Accepted rows omissions) proof = omissions_read proof
omissions_told (Uncovered pairs) proof = omissions_read proof
omissions_told (BadRow line) proof = []
omissions_told (BadProof line) proof = []
omissions_told (BadOmission line) proof = []

-- how many combinations the first tests cover, and how many of a hundred that is
abbrev pub point_words : ℕ → CurvePoint → List ℕ
point_words demanded point =
    codes "  " ++ (tests point.tests ++ (codes ": " ++ (combinations point.covered ++ (codes ", " ++ (decimal ((100 * point.covered) / demanded) ++ codes " percent\n")))))

abbrev pub curve_words : SuiteNumbers → List CurvePoint → List ℕ
curve_words n points =
    if (n.tests == 0) || (n.demanded == 0) then [] else codes "Covered after\n" ++ flat_map (point_words n.demanded) points

-- the text of a suite with this verdict, and with the omissions that are explained
abbrev pub words_of : ModelView → SuiteNumbers → Option SetCount → List CurvePoint → Bool → List Omission → Verdict → List ℕ
words_of m numbers largest points is_named omissions given =
    coverage_words numbers (is_accepted given) ++ (verdict_words m given ++ (proof_words is_named (is_accepted given)
    ++ (least_words m largest (is_accepted given) ++ (left_out_words m omissions ++ curve_words numbers points))))

abbrev pub suite_words : ModelView → List (List (Option ℕ)) → Bool → List Omission → Verdict → List ℕ
suite_words m rows is_named omissions given =
    words_of m (numbers_of m rows) (largest_of m rows) (map (point_of m rows) (round_counts (length rows))) is_named omissions given
