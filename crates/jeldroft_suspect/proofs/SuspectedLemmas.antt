-- What a table of results calls for once it is read.
use Rattle.std.proofs.Common.{◌≡◌, ℕ, List, Option, Ok, Err, inl, inr, ap, ◌∙◌}
use Rattle.cov_model.specs.believed.Sound.{ModelView}
use Rattle.row_text.specs.RowFiles.{suite_seen}
use Rattle.suspect_tuples.specs.believed.Suspects.{Suspects}
use Rattle.suspect_tuples.specs.declared.result_file.ResultFile.{ResultFile}
use Rattle.jeldroft_args.specs.declared.suspect.Suspect.{Suspect}
use Rattle.jeldroft_files.specs.declared.failure.Cause.{Cause}
use Rattle.jeldroft_inputs.specs.Inputs.{EndsBy}
use Rattle.jeldroft_inputs.specs.believed.Inputs.{and_then}
use Rattle.jeldroft_suspect.specs.Results.{results_seen}
use Rattle.jeldroft_suspect.specs.believed.Due.{results_of, suspected, suspects_in}

module _ (args : Suspect) (m : ModelView) (table : Option (List ℕ)) (file : ResultFile) (results : results_of args m table ≡ Ok (results_seen file)) where
  behind : suspected args m table ≡ suspects_in m (suite_seen file.rows) file.failed
  behind = ap (λ found. and_then found (λ given. suspects_in m given.tests given.failed)) results

  pub suspected_is : (found : Suspects) → suspects_in m (suite_seen file.rows) file.failed ≡ Ok found → suspected args m table ≡ Ok found
  suspected_is found is = behind ∙ is

  pub suspected_ends : (cause : Cause) → EndsBy (λ other. suspects_in m (suite_seen file.rows) file.failed ≡ Err other) cause → EndsBy (λ other. suspected args m table ≡ Err other) cause
  suspected_ends cause ends = elim ends [
    | inl device ↦ inl device
    | inr is ↦ inr (behind ∙ is)
  ]
