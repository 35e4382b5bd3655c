-- What growth omits, and the omissions that it leaves. (This project's rules.)
use Rattle.std.specs.Prelude.{◌≡◌, ℕ, false, List, [], ◌∷◌, flat_map, length, map, Option, Some, None, All, unwrap_or}
use Rattle.cov_model.specs.declared.slice.Slice.{Slice}
use Rattle.cov_model.specs.Fits.{FitsModel}
use Rattle.cov_model.specs.believed.Sound.{ModelView}
use Rattle.definitions.specs.declared.effort.Effort.{Effort}
use Rattle.definitions.specs.believed.Completion.{column_order}
use Rattle.definitions.specs.believed.Covering.{IsUnserved}
use Rattle.definitions.specs.believed.Growth.{tuples_in_play}
use Rattle.cov_model.specs.believed.Tuples.{cells_of}
use Rattle.definitions.specs.believed.Pairs.{pairs_of}
use Rattle.definitions.specs.believed.SuiteProof.{IsEagerTree}
use Rattle.feasibility.specs.Refuting.{earlier_tuples}
use Rattle.refutation.specs.Proofs.{ProofView, meant}
use Rattle.refutation.specs.believed.Proofs.{format_of}
use Rattle.refutation.specs.declared.omissions.ProofForm.{ProofForm}
use Rattle.refutation.specs.declared.omissions.ProofForm.TheVariants.{One}
use Rattle.refutation.specs.declared.token.TreeToken.{TreeToken}
use Rattle.full_search.specs.Questions.{QuestionsView}
use Rattle.ipog_grow.specs.Asking.{Grows, extends, first_spent}
use Rattle.ipog_grow.specs.Suites.{HasTrees}

-- a tuple that is omitted in a slice: it grows there, isn't extendable, and its question costs no more than it may
pub record IsOmittedIn (context : QuestionsView) (tuple : List (Option ℕ)) : Type 0 where
  pub grows : Grows context tuple
  pub fails : extends context tuple ≡ false
  pub within : first_spent context (tuple ∷ []) ≡ None

-- the pairs of a tuple that is omitted in a slice
pub record IsOmittedTuple (context : QuestionsView) (pairs : List (ℕ × ℕ)) : Type 0 where
  pub omitted : IsOmittedIn context (cells_of (length context.model.params) pairs)
  pub own : pairs ≡ pairs_of (cells_of (length context.model.params) pairs)

-- the tree of an omitted tuple after earlier ones: an eager one in the form that is asked for, without tokens where
-- none is
abbrev pub IsTreeOf : ModelView → List (List ℕ) → Effort → Option ProofForm → List (List (Option ℕ)) → List (Option ℕ) → List TreeToken → Type 0
IsTreeOf m pref effort None earlier tuple tree = tree ≡ []
IsTreeOf m pref effort (Some form) earlier tuple tree = IsEagerTree m pref effort (format_of form) earlier tuple (map meant tree)

-- omissions of a model in the form that is asked for, or in the first where none is: they have the pairs of partial
-- rows that fit the model and that no row serves, and they have their trees
pub record AreOmissionsOf (m : ModelView) (pref : List (List ℕ)) (effort : Effort) (proof : Option ProofForm) (omissions : ProofView) : Type 0 where
  pub form : omissions.form ≡ unwrap_or proof One
  pub pairs : map (λ omission. omission.tuple) omissions.omissions ≡ map pairs_of (earlier_tuples m omissions)
  pub fit : All (FitsModel m) (earlier_tuples m omissions)
  pub unserved : All (IsUnserved m) (earlier_tuples m omissions)
  pub trees : HasTrees m pref effort proof omissions.omissions

-- how many tuples growth meets in a slice
abbrev pub met_count : ModelView → Slice → ℕ
met_count m slice = length (flat_map (tuples_in_play m slice) (column_order m slice))
