-- What holds of the definitions together. (This project's rules.)
use Rattle.std.specs.Prelude.{◌≡◌, ℕ, ◌+◌, ◌^◌, ◌<◌, ◌≤◌, ◌↔◌, ◌⊎◌, slice_index_or, true, false, not, List}
use Rattle.std.specs.Prelude.{[], map, filter, length, Option, Ok, All, AllPairs, Contains}
use Rattle.std.specs.List.{Any, list_any, enumerate_from}
use Rattle.cov_model.specs.declared.slice.Slice.{Slice}
use Rattle.cov_model.specs.believed.Sound.{ModelView, IsSound, param_at}
use Rattle.cov_model.specs.believed.Rows.{contains, is_assigned, value_in}
use Rattle.cov_model.specs.Tuples.{IsRising}
use Rattle.cov_model.specs.believed.Valid.{is_row, is_valid, serves}
use Rattle.cov_model.specs.Preference.{OrdersValues}
use Rattle.cov_model.specs.believed.Slices.{slice_of, slice_values}
use Rattle.definitions.specs.Covering.{Covers}
use Rattle.definitions.specs.believed.Covering.{HasFewRows, IsUnserved}
use Rattle.definitions.specs.believed.Demand.{demanded_tuples}
use Rattle.definitions.specs.believed.Report.{report_text}
use Rattle.definitions.specs.believed.RowFile.{rows_of, suite_rows}
use Rattle.definitions.specs.believed.Limits.{Rows, most_counted}
use Rattle.definitions.specs.believed.RowReading.{RowReading, Suite, read_rows}
use Rattle.definitions.specs.RowReading.{notes_of}
use Rattle.definitions.specs.believed.Completion.{completions, meets_rules, has_slice, is_extendable}
use Rattle.definitions.specs.believed.Seeds.{is_same_row, kept_seeds}
use Rattle.definitions.specs.believed.Growth.{growth}
use Rattle.definitions.specs.believed.Refutation.{Token, Branch, ByRule, ByNegative, ByOmission, refutes_each}
use Rattle.definitions.specs.believed.ProofText.{Omission, proof_text, omissions_of}
use Rattle.definitions.specs.believed.Figures.{all_rows, is_served}
use Rattle.definitions.specs.believed.Verdict.{IsAccepted}
use Rattle.definitions.specs.believed.Laws.{IsCertified}

-- a report of any number of rows holds these rows, and there is no note on it
abbrev pub ReportsReadBack : Type 0
ReportsReadBack = (m : ModelView) (rows : List (List (Option ℕ))) → IsSound m → All (λ row. is_row m row ≡ true) rows
    → (rows_of m (report_text m rows) ≡ rows) × (notes_of m (report_text m rows) ≡ [])

-- a report of no more rows than a row file may have is read as a suite: as these rows in their order, of which
-- the first stands on line 2 and each further one on the next, without a note
abbrev pub ReportsAreRead : Type 0
ReportsAreRead = (m : ModelView) (rows : List (List (Option ℕ))) → IsSound m → All (λ row. is_row m row ≡ true) rows
    → length rows ≤ most_counted Rows
    → read_rows m Suite (report_text m rows) ≡ Ok (record { rows = enumerate_from 2 rows; notes = [] })

-- a suite that is read without a fault has the rows that its bytes hold as a suite
abbrev pub SuitesAreRead : Type 0
SuitesAreRead = (m : ModelView) (bytes : List ℕ) (reading : RowReading)
    → read_rows m Suite bytes ≡ Ok reading → map (λ row. row.1) reading.rows ≡ suite_rows m bytes

-- if each token list of a proof refutes its tuple after the tuples before it, no row serves any of them
abbrev pub RefutedAreUnserved : Type 0
RefutedAreUnserved = (m : ModelView) (format : ℕ) (omissions : List (List (Option ℕ) × List Token))
    → refutes_each m format omissions ≡ true → All (λ omission. IsUnserved m omission.0) omissions

-- a token is of a model and a format: its parameter or constraint exists, and a citation is of format 2 and
-- has a number from 1 to 2^32 - 1
abbrev pub IsTokenOf : ModelView → ℕ → Token → Type 0
IsTokenOf m format (Branch p) = p < length m.params
IsTokenOf m format (ByRule k) = (1 ≤ k) × (k ≤ length m.rules)
IsTokenOf m format ByNegative = Unit {0}
IsTokenOf m format (ByOmission n) = (format ≡ 2) × (1 ≤ n) × (n < 2 ^ 32)

-- an omission is of a model and a format: neither its tuple nor its tree is empty, its parameters rise, and
-- parameters, values and tokens are of the model
pub record IsOmissionOf (m : ModelView) (format : ℕ) (omission : Omission) : Type 0 where
  pub some_tuple : 0 < length omission.tuple
  pub some_tree : 0 < length omission.tree
  pub rising : IsRising omission.tuple
  pub exist : All (λ pair. (pair.0 < length m.params) × (pair.1 < length (param_at m.params pair.0).values)) omission.tuple
  pub tokens : All (IsTokenOf m format) omission.tree

-- reading the text of a proof gives the proof, so different proofs have different texts
abbrev pub ProofsReadBack : Type 0
ProofsReadBack = (m : ModelView) (format : ℕ) (omissions : List Omission) → IsSound m → (format ≡ 1) ⊎ (format ≡ 2)
    → All (IsOmissionOf m format) omissions → omissions_of m (proof_text format omissions) ≡ Ok (format, omissions)

-- and a file that is read as a proof is its text
abbrev pub ProofsHaveOneText : Type 0
ProofsHaveOneText = (m : ModelView) (bytes : List ℕ) (format : ℕ) (omissions : List Omission) → IsSound m
    → omissions_of m bytes ≡ Ok (format, omissions) → (bytes ≡ proof_text format omissions) × All (IsOmissionOf m format) omissions

-- the row gives each parameter one of its listed values
pub record GivesListed (lists : List (List ℕ)) (row : List (Option ℕ)) : Type 0 where
  pub as_long : length row ≡ length lists
  pub assigned : (p : ℕ) → p < length lists → is_assigned row p ≡ true
  pub listed : (p : ℕ) → p < length lists → Contains (slice_index_or lists p []) (value_in row p)

-- the completions of a partial row are the rows that contain it and give each parameter one of its values
abbrev pub CompletionsAreRows : Type 0
CompletionsAreRows = (lists : List (List ℕ)) (cells row : List (Option ℕ))
    → Contains (completions lists cells) row ↔ (GivesListed lists row × (contains row cells ≡ true))

-- what an extendable partial row contains is extendable
abbrev pub ExtendableContains : Type 0
ExtendableContains = (m : ModelView) (slice : Slice) (cells part : List (Option ℕ)) → contains cells part ≡ true
    → is_extendable m slice cells ≡ true → is_extendable m slice part ≡ true

-- a row serves a tuple with at most one negative value exactly if it is a row of the tuple's slice that
-- contains the tuple and meets every constraint
abbrev pub SlicesServe : Type 0
SlicesServe = (m : ModelView) (row tuple : List (Option ℕ)) → IsSound m → has_slice m tuple ≡ true
    → (serves m row tuple ≡ true) ↔ (Contains (completions (slice_values m (slice_of m tuple)) tuple) row × (meets_rules m row ≡ true))

-- so some row serves it exactly if it is extendable in its slice
abbrev pub ServableAreExtendable : Type 0
ServableAreExtendable = (m : ModelView) (tuple : List (Option ℕ)) → IsSound m → has_slice m tuple ≡ true
    → is_served m (all_rows m) tuple ≡ is_extendable m (slice_of m tuple) tuple

-- what growth gives: every row is valid, and no two are the same; a demanded tuple is omitted, and then
-- once, exactly if no row of the model serves it, and else a row of the suite does; each kept seed is in a
-- row; and there are no more rows than demanded tuples outside the omission list and kept seeds
pub record IsGrownSuite (m : ModelView) (pref : List (List ℕ)) (seeds : List (ℕ × List (Option ℕ))) : Type 0 where
  pub valid : All (λ row. is_valid m row ≡ true) (growth m pref seeds).rows
  pub distinct : AllPairs (λ a b. is_same_row a b ≡ false) (growth m pref seeds).rows
  pub demanded : All (Contains (demanded_tuples m)) (growth m pref seeds).omitted
  pub once : AllPairs (λ a b. is_same_row a b ≡ false) (growth m pref seeds).omitted
  pub omitted : All (λ tuple. Contains (growth m pref seeds).omitted tuple ↔ IsUnserved m tuple) (demanded_tuples m)
  pub served : All (λ tuple. Any (λ row. serves m row tuple ≡ true) (growth m pref seeds).rows ↔ (Contains (growth m pref seeds).omitted tuple → ⊥)) (demanded_tuples m)
  pub kept : All (λ seed. Any (λ row. contains row seed ≡ true) (growth m pref seeds).rows) (kept_seeds m seeds)
  pub few : length (growth m pref seeds).rows
      ≤ length (filter (λ tuple. not (list_any (is_same_row tuple) (growth m pref seeds).omitted)) (demanded_tuples m)) + length (kept_seeds m seeds)

-- of a sound model, preference orders, and any seed rows
abbrev pub GrowthCovers : Type 0
GrowthCovers = (m : ModelView) (pref : List (List ℕ)) (seeds : List (ℕ × List (Option ℕ))) → IsSound m → OrdersValues m pref → IsGrownSuite m pref seeds

-- so its suite covers what can be covered
abbrev pub SuitesCover : Type 0
SuitesCover = (m : ModelView) (pref : List (List ℕ)) (seeds : List (ℕ × List (Option ℕ))) → IsSound m → OrdersValues m pref
    → Covers m (growth m pref seeds).rows

-- and its rows are few
abbrev pub SuitesHaveFewRows : Type 0
SuitesHaveFewRows = (m : ModelView) (pref : List (List ℕ)) (seeds : List (ℕ × List (Option ℕ))) → IsSound m → OrdersValues m pref
    → HasFewRows m (length (kept_seeds m seeds)) (growth m pref seeds).rows

abbrev pub AcceptedAreCertified : Type 0
AcceptedAreCertified = (m : ModelView) (lines : List (ℕ × List (Option ℕ))) (bytes : List ℕ) → IsAccepted m lines bytes → IsCertified m lines bytes
