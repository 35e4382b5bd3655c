-- Which text a model file and a table of results call for when combinations are looked for that only failing tests have, or
-- which cause for none. (This project's rules.)
use Rattle.std.specs.Prelude.{ℕ, Bool, List, Option, Some, None, Result, Ok, nat_lt, unwrap_or, if◌then◌else◌, codes}
use Rattle.cov_model.specs.believed.Sound.{ModelView}
use Rattle.definitions.specs.believed.Limits as limits
use Rattle.definitions.specs.believed.Limits.{most_counted}
use Rattle.suspect_tuples.specs.believed.Suspects.{Suspects, candidate_count, failing_rows, suspects}
use Rattle.tuple_index.specs.believed.PlanFault.{saturated}
use Rattle.command_line.specs.declared.stop.Quantity.TheVariants.{SuspectCandidates}
use Rattle.command_line.specs.declared.stop.Stop.{Stop}
use Rattle.command_line.specs.declared.stop.Stop.TheVariants.{TooMany}
use Rattle.jeldroft_args.specs.declared.suspect.Suspect.{Suspect}
use Rattle.jeldroft_files.specs.believed.Models.{opts_of}
use Rattle.jeldroft_files.specs.believed.Tables.{is_comma}
use Rattle.jeldroft_files.specs.declared.failure.Cause.{Cause}
use Rattle.jeldroft_inputs.specs.believed.Inputs.{CallsFor, and_then, table_of, unless}
use Rattle.jeldroft_suspect.specs.believed.Results.{Results, results_in}
use Rattle.jeldroft_suspect.specs.believed.SuspectsText.{suspects_text}

-- the name of the column of results, where the words don't say it
abbrev pub result_name : Suspect → List ℕ
result_name args = unwrap_or args.result (codes ":result")

-- the tests of the table that ran, and which failed
abbrev pub results_of : Suspect → ModelView → Option (List ℕ) → Result Results Cause
results_of args m table = and_then (table_of (is_comma args.delimiter args.results) table) (λ bytes. results_in m (result_name args) bytes)

-- the stop of too many candidates for such combinations
abbrev pub candidates_stop : ℕ → Option Stop
candidates_stop count = if nat_lt (most_counted limits.SuspectCandidates) count then Some (TooMany SuspectCandidates (saturated count)) else None

-- what is told of tests with their results; nothing where they give too many candidates
abbrev pub suspects_in : ModelView → List (List (Option ℕ)) → List Bool → Result Suspects Cause
suspects_in m tests failed = unless (candidates_stop (candidate_count m (failing_rows tests failed))) (Ok (suspects m tests failed))

-- what is told of those in a table
abbrev pub suspected : Suspect → ModelView → Option (List ℕ) → Result Suspects Cause
suspected args m table = and_then (results_of args m table) (λ given. suspects_in m given.tests given.failed)

abbrev pub text_of : Suspect → ModelView → Option (List ℕ) → Result (List ℕ) Cause
text_of args m table = and_then (suspected args m table) (λ told. Ok (suspects_text m told.found))

-- the two files, the model file and the table of results, call for this text or cause
abbrev pub Due : Suspect → Option (List ℕ) → Option (List ℕ) → Result (List ℕ) Cause → Type 0
Due args model table = CallsFor (opts_of args.model args.strength) model (λ m. text_of args m table)
