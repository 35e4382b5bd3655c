-- When a list of tokens refutes a tuple: it is a tree in preorder whose every leaf shows that no row on
-- its path serves the tuple. (This project's rule; the trees are those of a search, after the proofs of
-- unsatisfiability that solvers write.)
-- The crate of trees has an enum of its own for its code; a token of it is meant by the one here.
use Rattle.std.specs.Prelude.{ℕ, zero, suc, ◌+◌, Bool, true, false, ◌&&◌, not, List, [], ◌∷◌, ◌++◌, map}
use Rattle.std.specs.Prelude.{length, filter, Option, Some, None, is_none, ◌==◌, nat_lt, if◌then◌else◌}
use Rattle.std.specs.List.{list_all, list_any, range_with_len, slice_get}
use Rattle.std.specs.Option.{option_map_or}
use Rattle.cov_model.specs.believed.Sound.{ModelView}
use Rattle.cov_model.specs.believed.Rows.{contains, is_assigned, with_value}
use Rattle.cov_model.specs.believed.Kleene.{body_truth}
use Rattle.cov_model.specs.believed.Valid.{negatives}
use Rattle.cov_model.specs.believed.Slices.{value_numbers}
use Rattle.definitions.specs.believed.Search.{is_no}

-- a branch on a parameter, or a leaf: by the constraint of a number, by a negative value, by the omission
-- of a number, counted from 1
pub data Token : Type 0 where
  Branch : ℕ → Token
  ByRule : ℕ → Token
  ByNegative : Token
  ByOmission : ℕ → Token

-- the constraint of the number exists and is No on the path
abbrev pub is_rule_leaf : ModelView → List (Option ℕ) → ℕ → Bool
is_rule_leaf m path k = list_any (λ rule. (rule.number == k) && is_no (body_truth m rule.body path)) m.rules

-- the path has a negative value that isn't in the tuple; it has the tuple's own values where the tuple
-- has any
abbrev pub is_negative_leaf : ModelView → List (Option ℕ) → List (Option ℕ) → Bool
is_negative_leaf m tuple path = list_any (λ p. not (is_assigned tuple p)) (negatives m path)

-- the earlier tuple of a number, counted from 1
abbrev pub earlier_tuple : List (List (Option ℕ)) → ℕ → Option (List (Option ℕ))
earlier_tuple earlier zero = None
earlier_tuple earlier (suc i) = slice_get earlier i

-- the proof is of format 2, there is an earlier tuple of the number, the path contains it, and each
-- negative value of the tuple is in it
abbrev pub is_omission_leaf : ModelView → ℕ → List (List (Option ℕ)) → List (Option ℕ) → List (Option ℕ) → ℕ → Bool
is_omission_leaf m format earlier tuple path n =
    (format == 2) && option_map_or (λ other. contains path other && list_all (is_assigned other) (negatives m tuple)) (earlier_tuple earlier n) false

-- whether a token is a leaf that is possible on the path of a tree for the tuple
abbrev pub is_leaf : ModelView → ℕ → List (List (Option ℕ)) → List (Option ℕ) → List (Option ℕ) → Token → Bool
is_leaf m format earlier tuple path (Branch p) = false
is_leaf m format earlier tuple path (ByRule k) = is_rule_leaf m path k
is_leaf m format earlier tuple path ByNegative = is_negative_leaf m tuple path
is_leaf m format earlier tuple path (ByOmission n) = is_omission_leaf m format earlier tuple path n

-- the parameter exists and has no value on the path
abbrev pub is_branch : ModelView → List (Option ℕ) → ℕ → Bool
is_branch m path p = nat_lt p (length m.params) && not (is_assigned path p)

-- the path with each value of the parameter in declared order, negative ones too
abbrev pub branches : ModelView → List (Option ℕ) → ℕ → List (List (Option ℕ))
branches m path p = map (with_value path p) (value_numbers m p)

-- the tokens are one tree for each of the paths, one behind the other, and nothing else: a leaf is the
-- tree of the first path, and a branch is followed by the trees of the first path's branches
abbrev pub refute_paths : ModelView → ℕ → List (List (Option ℕ)) → List (Option ℕ) → List (List (Option ℕ)) → List Token → Bool
refute_paths m format earlier tuple [] [] = true
refute_paths m format earlier tuple [] (token ∷ tokens) = false
refute_paths m format earlier tuple (path ∷ paths) [] = false
refute_paths m format earlier tuple (path ∷ paths) (Branch p ∷ tokens) =
    is_branch m path p && refute_paths m format earlier tuple (branches m path p ++ paths) tokens
refute_paths m format earlier tuple (path ∷ paths) (ByRule k ∷ tokens) =
    is_rule_leaf m path k && refute_paths m format earlier tuple paths tokens
refute_paths m format earlier tuple (path ∷ paths) (ByNegative ∷ tokens) =
    is_negative_leaf m tuple path && refute_paths m format earlier tuple paths tokens
refute_paths m format earlier tuple (path ∷ paths) (ByOmission n ∷ tokens) =
    is_omission_leaf m format earlier tuple path n && refute_paths m format earlier tuple paths tokens

-- the tokens refute the tuple after the earlier ones, in a proof of the format 1 or 2
abbrev pub refutes : ModelView → ℕ → List (List (Option ℕ)) → List (Option ℕ) → List Token → Bool
refutes m format earlier tuple tokens = refute_paths m format earlier tuple (tuple ∷ []) tokens

-- the leaves that are possible on a path, in the order in which they are preferred: the negative one, those
-- by constraints and those by omissions, each by rising number
abbrev pub leaves : ModelView → ℕ → List (List (Option ℕ)) → List (Option ℕ) → List (Option ℕ) → List Token
leaves m format earlier tuple path =
    filter (is_leaf m format earlier tuple path)
    (ByNegative ∷ map (λ rule. ByRule rule.number) m.rules ++ map ByOmission (range_with_len 1 (length earlier)))

-- the tokens are one and the same
abbrev pub is_same_token : Token → Token → Bool
is_same_token (Branch p) (Branch q) = p == q
is_same_token (ByRule j) (ByRule k) = j == k
is_same_token ByNegative ByNegative = true
is_same_token (ByOmission i) (ByOmission n) = i == n
is_same_token a b = false

-- the token is the first of the leaves
abbrev pub is_first_leaf : List Token → Token → Bool
is_first_leaf [] token = false
is_first_leaf (leaf ∷ rest) token = is_same_token leaf token

-- the trees are eager: a path on which a leaf is possible has the first one
abbrev pub are_eager : ModelView → ℕ → List (List (Option ℕ)) → List (Option ℕ) → List (List (Option ℕ)) → List Token → Bool
are_eager m format earlier tuple [] tokens = true
are_eager m format earlier tuple (path ∷ paths) [] = true
are_eager m format earlier tuple (path ∷ paths) (Branch p ∷ tokens) =
    (length (leaves m format earlier tuple path) == 0) && are_eager m format earlier tuple (branches m path p ++ paths) tokens
are_eager m format earlier tuple (path ∷ paths) (ByRule k ∷ tokens) =
    is_first_leaf (leaves m format earlier tuple path) (ByRule k) && are_eager m format earlier tuple paths tokens
are_eager m format earlier tuple (path ∷ paths) (ByNegative ∷ tokens) =
    is_first_leaf (leaves m format earlier tuple path) ByNegative && are_eager m format earlier tuple paths tokens
are_eager m format earlier tuple (path ∷ paths) (ByOmission n ∷ tokens) =
    is_first_leaf (leaves m format earlier tuple path) (ByOmission n) && are_eager m format earlier tuple paths tokens

-- an eager tree for the tuple, as the generator writes them
abbrev pub is_eager : ModelView → ℕ → List (List (Option ℕ)) → List (Option ℕ) → List Token → Bool
is_eager m format earlier tuple tokens = refutes m format earlier tuple tokens && are_eager m format earlier tuple (tuple ∷ []) tokens

-- the number of the first omission whose tokens don't refute its tuple after the tuples before it, the
-- omissions being numbered from n on; none where those of each do
abbrev pub first_unrefuted : ModelView → ℕ → List (List (Option ℕ)) → ℕ → List (List (Option ℕ) × List Token) → Option ℕ
first_unrefuted m format earlier n [] = None
first_unrefuted m format earlier n (omission ∷ omissions) =
    if refutes m format earlier omission.0 omission.1 then first_unrefuted m format (earlier ++ omission.0 ∷ []) (n + 1) omissions
    else Some n

-- each token list of a proof refutes its tuple after the tuples before it
abbrev pub refutes_each : ModelView → ℕ → List (List (Option ℕ) × List Token) → Bool
refutes_each m format omissions = is_none (first_unrefuted m format [] 1 omissions)
