-- When a suite is the one that growth gives, and where a run of questions stopped. (This project's rules.)
use Rattle.std.specs.Prelude.{◌≡◌, ℕ, [], List, map, length, Option, Some, None, All, unwrap_or}
use Rattle.cov_model.specs.believed.Sound.{ModelView}
use Rattle.definitions.specs.declared.effort.Effort.{Effort}
use Rattle.definitions.specs.believed.Growth.{growth}
use Rattle.cov_model.specs.believed.Tuples.{cells_of}
use Rattle.definitions.specs.believed.Pairs.{pairs_of}
use Rattle.definitions.specs.believed.Seeds.{kept_seeds, dropped_lines}
use Rattle.definitions.specs.believed.SuiteProof.{AreEagerTrees}
use Rattle.definitions.specs.believed.Verdict.{as_cells}
use Rattle.refutation.specs.believed.Proofs.{format_of}
use Rattle.refutation.specs.Proofs.{omission_meant}
use Rattle.refutation.specs.declared.omissions.Omission.{Omission}
use Rattle.refutation.specs.declared.omissions.ProofForm.{ProofForm}
use Rattle.refutation.specs.declared.omissions.ProofForm.TheVariants.{One}
use Rattle.ipog_grow.specs.declared.stop.Stop.{Stop}
use Rattle.ipog_grow.specs.declared.stop.Stop.TheVariants as stops
use Rattle.ipog_grow.specs.declared.suite.Suite.{Suite}

-- the tuple of an omission, as a partial row of n parameters
abbrev pub omitted_cells : ℕ → Omission → List (Option ℕ)
omitted_cells n omission = cells_of n omission.tuple

-- an omission without a tree
abbrev pub HasNoTree : Omission → Type 0
HasNoTree omission = omission.tree ≡ []

-- without a proof there are no trees; with one, in its form, each omission has an eager tree that refutes its tuple
-- after those before it, within a budget with no more branches than the plain cost of the tuple
abbrev pub HasTrees : ModelView → List (List ℕ) → Effort → Option ProofForm → List Omission → Type 0
HasTrees m pref effort None omissions = All HasNoTree omissions
HasTrees m pref effort (Some form) omissions = AreEagerTrees m pref effort (format_of form) [] (as_cells m (map omission_meant omissions))

-- a suite is what growth gives with these preferences and seeds; its omissions have the trees that are asked for, and
-- their form is the one asked for, or the first where none was
pub record IsSuiteOf (m : ModelView) (pref : List (List ℕ)) (seeds : List (ℕ × List (Option ℕ))) (effort : Effort) (proof : Option ProofForm) (suite : Suite) : Type 0 where
  pub rows : suite.rows ≡ (growth m pref seeds).rows
  pub omitted : map (λ omission. omission.tuple) suite.omitted.omissions ≡ map pairs_of (growth m pref seeds).omitted
  pub form : suite.omitted.form ≡ unwrap_or proof One
  pub trees : HasTrees m pref effort proof suite.omitted.omissions
  pub kept : suite.kept ≡ length (kept_seeds m seeds)
  pub dropped : suite.dropped ≡ dropped_lines m seeds

-- a run stopped at this question, the first that costs more than it may, or for want of memory
abbrev pub IsStopped : Stop → List (Option ℕ) → Option (List (Option ℕ)) → Type 0
IsStopped stops.Spent question over = over ≡ Some question
IsStopped stops.NoMemory question over = Unit {0}
