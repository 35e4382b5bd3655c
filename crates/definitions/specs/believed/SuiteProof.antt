-- The proof of a suite: the omitted tuples in the order in which growth omits them, each with an eager tree.
-- (This project's rule.)
use Rattle.std.specs.Prelude.{◌≡◌, ℕ, ◌≤◌, Bool, true, false, List, [], ◌∷◌, ◌++◌, map, length, filter, Option}
use Rattle.cov_model.specs.believed.Sound.{ModelView}
use Rattle.definitions.specs.declared.effort.Effort.{Effort}
use Rattle.definitions.specs.declared.effort.Effort.TheVariants.{Within, Full}
use Rattle.definitions.specs.believed.Growth.{growth}
use Rattle.definitions.specs.believed.Pairs.{pairs_of}
use Rattle.definitions.specs.believed.ProofText.{Omission, proof_text}
use Rattle.definitions.specs.believed.Refutation.{Token, Branch, ByRule, ByNegative, ByOmission, is_eager}
use Rattle.definitions.specs.believed.Search.{question_cost}
use Rattle.definitions.specs.believed.Verdict.{as_cells}

-- the token is a branch
abbrev pub is_branching : Token → Bool
is_branching (Branch p) = true
is_branching (ByRule k) = false
is_branching ByNegative = false
is_branching (ByOmission n) = false

-- how many branches a list of tokens has
abbrev pub branch_count : List Token → ℕ
branch_count tokens = length (filter is_branching tokens)

-- within a budget a tree has no more branches than plain search visits nodes
abbrev pub HasFewBranches : Effort → List Token → ℕ → Type 0
HasFewBranches (Within budget) tokens cost = branch_count tokens ≤ cost
HasFewBranches Full tokens cost = Unit {0}

-- the tokens are an eager tree that refutes the tuple after the earlier ones, within a budget with no more branches
-- than plain search visits nodes
pub record IsEagerTree (m : ModelView) (pref : List (List ℕ)) (effort : Effort) (format : ℕ) (earlier : List (List (Option ℕ))) (tuple : List (Option ℕ)) (tokens : List Token) : Type 0 where
  pub eager : is_eager m format earlier tuple tokens ≡ true
  pub few : HasFewBranches effort tokens (question_cost m pref tuple)

-- each tuple has such a tree, after those before it
abbrev pub AreEagerTrees : ModelView → List (List ℕ) → Effort → ℕ → List (List (Option ℕ)) → List (List (Option ℕ) × List Token) → Type 0
AreEagerTrees m pref effort format earlier [] = Unit {0}
AreEagerTrees m pref effort format earlier (omission ∷ omissions) =
    IsEagerTree m pref effort format earlier omission.0 omission.1 × AreEagerTrees m pref effort format (earlier ++ omission.0 ∷ []) omissions

-- the omissions are the tuples that growth omits with these preferences and seeds, in its order, each with such a
-- tree
pub record AreOmitted (m : ModelView) (pref : List (List ℕ)) (seeds : List (ℕ × List (Option ℕ))) (effort : Effort) (format : ℕ) (omissions : List Omission) : Type 0 where
  pub tuples : map (λ omission. omission.tuple) omissions ≡ map pairs_of (growth m pref seeds).omitted
  pub trees : AreEagerTrees m pref effort format [] (as_cells m omissions)

-- the bytes are the proof of the suite in this format
pub record IsProofOfSuite (m : ModelView) (pref : List (List ℕ)) (seeds : List (ℕ × List (Option ℕ))) (effort : Effort) (format : ℕ) (bytes : List ℕ) : Type 0 where
  pub omissions : List Omission
  pub omitted : AreOmitted m pref seeds effort format omissions
  pub text : bytes ≡ proof_text format omissions
