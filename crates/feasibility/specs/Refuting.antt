-- What a refutation is given, and the trees that it makes. (This project's rule.)
use Rattle.std.specs.Prelude.{◌≡◌, ℕ, ◌<◌, ◌≤◌, ◌^◌, Bool, true, false, ◌&&◌, not, List, [], ◌∷◌, ◌++◌, length, map, nat_lt, Option, Some, None, slice_index_or, ◌⊎◌, if◌then◌else◌}
use Rattle.std.specs.List.{list_all}
use Rattle.cov_model.specs.declared.slice.Slice.{Slice}
use Rattle.cov_model.specs.declared.slice.Slice.TheVariants.{Positive, Negative}
use Rattle.cov_model.specs.believed.Sound.{ModelView, param_at}
use Rattle.cov_model.specs.Fits.{FitsModel}
use Rattle.cov_model.specs.believed.Meaning.{value_at}
use Rattle.cov_model.specs.believed.Rows.{contains, is_assigned, with_value}
use Rattle.cov_model.specs.believed.Valid.{negatives}
use Rattle.definitions.specs.believed.Demand.{is_among}
use Rattle.cov_model.specs.believed.Tuples.{cells_of}
use Rattle.definitions.specs.believed.Refutation.{Token, are_eager, is_negative_leaf, leaves, refute_paths}
use Rattle.definitions.specs.believed.Search.{visit}
use Rattle.definitions.specs.believed.SuiteProof.{branch_count}
use Rattle.refutation.specs.declared.token.TreeToken.{TreeToken}
use Rattle.refutation.specs.Proofs.{ProofView, meant}

-- the tuples of the omissions, as partial rows of the model
abbrev pub earlier_tuples : ModelView → ProofView → List (List (Option ℕ))
earlier_tuples m proof = map (λ omission. cells_of (length m.params) omission.tuple) proof.omissions

-- what a tree is made from: the model with the values to try, the format of the proof and the tuples that it lists
-- before, and the tuple
pub record RefuterView : Type 0 where
  pub model : ModelView
  pub lists : List (List ℕ)
  pub format : ℕ
  pub earlier : List (List (Option ℕ))
  pub tuple : List (Option ℕ)

-- the parameter that a slice fixes, if there is one
abbrev pub fixed_params : Slice → List ℕ
fixed_params Positive = []
fixed_params (Negative p v) = p ∷ []

-- the values to try of a parameter without a value in the tuple are those that aren't negative
abbrev pub TriesPositive : RefuterView → Type 0
TriesPositive r =
    (q w : ℕ) → q < length r.model.params → w < length (param_at r.model.params q).values → is_assigned r.tuple q ≡ false
    → is_among (slice_index_or r.lists q []) w ≡ not (value_at r.model q w).negative

-- so it is where the tuple is of a slice: it has a negative value at the slice's fixed parameter alone; and the
-- earlier tuples have numbers
pub record IsRefuter (r : RefuterView) (slice : Slice) : Type 0 where
  pub fixed : negatives r.model r.tuple ≡ fixed_params slice
  pub positive : TriesPositive r
  pub few : length r.earlier < 2 ^ 32

-- an earlier tuple is contained in a path and gives the tuple's negative values
abbrev pub is_cited : RefuterView → List (Option ℕ) → List (Option ℕ) → Bool
is_cited r path other = contains path other && list_all (is_assigned other) (negatives r.model r.tuple)

-- a number is less than another, if there is another
abbrev pub is_less : ℕ → Option ℕ → Bool
is_less n None = true
is_less n (Some k) = nat_lt n k

-- of a number, if there is one, and those of a list that pass a test the least is the new one
pub record Lowers (test : ℕ → Bool) (numbers : List ℕ) (old new : Option ℕ) : Type 0 where
  pub passes : (k : ℕ) → new ≡ Some k → (test k ≡ true) ⊎ (old ≡ Some k)
  pub kept : (j : ℕ) → is_less j old ≡ false → is_less j new ≡ false
  pub below : (j : ℕ) → is_among numbers j ≡ true → test j ≡ true → is_less j new ≡ false

-- a path of a tree for the tuple, without a negative value outside it
pub record IsPath (r : RefuterView) (path : List (Option ℕ)) : Type 0 where
  pub fits : FitsModel r.model path
  pub longer : (q : ℕ) → is_assigned r.tuple q ≡ true → is_assigned path q ≡ true
  pub positive : is_negative_leaf r.model r.tuple path ≡ false

-- no leaf is possible on the path
pub record HasNoLeaf (r : RefuterView) (path : List (Option ℕ)) : Type 0 where
  pub none : leaves r.model r.format r.earlier r.tuple path ≡ []

-- trees of these paths were added to the tokens, one behind the other: eager ones, with at most so many branches
pub record Closes (r : RefuterView) (paths : List (List (Option ℕ))) (most : ℕ) (old new : List TreeToken) : Type 0 where
  pub added : List TreeToken
  pub are : new ≡ old ++ added
  pub refute : (rest : List (List (Option ℕ))) (more : List Token)
      → refute_paths r.model r.format r.earlier r.tuple (paths ++ rest) (map meant added ++ more)
      ≡ refute_paths r.model r.format r.earlier r.tuple rest more
  pub eager : (rest : List (List (Option ℕ))) (more : List Token)
      → are_eager r.model r.format r.earlier r.tuple (paths ++ rest) (map meant added ++ more)
      ≡ are_eager r.model r.format r.earlier r.tuple rest more
  pub few : branch_count (map meant added) ≤ most

-- how many nodes a search visits that visits a path with this value of a parameter, if it is one to try
abbrev pub value_cost : RefuterView → List ℕ → List (Option ℕ) → ℕ → ℕ → ℕ
value_cost r params path p v =
    if is_among (slice_index_or r.lists p []) v then (visit r.model r.lists params (with_value path p v)).cost else 0
