-- What the files of `generate` call for: a model and seed tests from which a suite grows, or a cause for which there is
-- none. (The causes and their order are this project's rules.)
use Rattle.std.specs.Prelude.{◌≡◌, ℕ, List, [], Option, Some, None, Result, Ok, IfSome, option_map, unwrap_or}
use Rattle.cov_model.specs.believed.Sound.{ModelView}
use Rattle.definitions.specs.believed.RowReading.{RowReading}
use Rattle.definitions.specs.believed.SuiteProof.{IsProofOfSuite}
use Rattle.outside_io.specs.believed.Files.{Files}
use Rattle.refutation.specs.believed.Proofs.{format_of}
use Rattle.tuple_index.specs.believed.PlanFault.{limit_passed}
use Rattle.command_line.specs.believed.Stops.{stop_of_plan}
use Rattle.pict_cli.specs.believed.Runs.{spent_at}
use Rattle.jeldroft_args.specs.declared.generate.Generate.{Generate}
use Rattle.jeldroft_files.specs.believed.Models.{opts_of}
use Rattle.jeldroft_files.specs.believed.Tables.{is_comma}
use Rattle.jeldroft_files.specs.declared.failure.Cause.{Cause}
use Rattle.jeldroft_generate.specs.believed.Asked.{effort_of, orders_of, proof_form, question_over}
use Rattle.jeldroft_generate.specs.believed.Given.{GivesModel, and_then, seeds_of, unless}

-- what the files that are read hold: the model file, and the file of seeds where one is named
pub record Held : Type 0 where
  pub model : Option (List ℕ)
  pub seeds : Option (Option (List ℕ))

-- what a folder tells of the file of seeds
abbrev pub told_seeds : Option (List ℕ) → Files → Option (Option (Option (List ℕ)))
told_seeds None files = Some None
told_seeds (Some name) files = option_map Some (files name)

-- the folder tells what the files hold
pub record AreHeld (args : Generate) (files : Files) (held : Held) : Type 0 where
  pub model : files args.model.name ≡ Some held.model
  pub seeds : told_seeds args.seeds files ≡ Some held.seeds

-- a model, and the seed tests from which its suite grows
pub record Start : Type 0 where
  pub model : ModelView
  pub seeds : List (ℕ × List (Option ℕ))

-- the seed tests of a model
abbrev pub reading_of : Generate → ModelView → Option (Option (List ℕ)) → Result RowReading Cause
reading_of args m held = seeds_of m (is_comma args.delimiter (unwrap_or args.seeds [])) held

-- what a model and its file of seeds call for: none where the model demands more than it may, at seeds that have no
-- reading, and where a question of the search costs more than it may
abbrev pub start_of : Generate → Option (Option (List ℕ)) → ModelView → Result Start Cause
start_of args held m =
    unless (option_map stop_of_plan (limit_passed m)) (and_then (reading_of args m held) (λ reading.
    unless (spent_at (effort_of args.budget) (question_over args m reading.rows)) (Ok (record { model = m; seeds = reading.rows }))))

-- the files call for this
pub record CallsFor (args : Generate) (held : Held) (due : Result Start Cause) : Type 0 where
  pub given : Result ModelView Cause
  pub gives : GivesModel (opts_of args.model args.strength) held.model given
  pub is : due ≡ and_then given (start_of args held.seeds)

-- a text is the proof of a suite, where one is asked for
abbrev pub IsProof : Generate → Start → List ℕ → Type 0
IsProof args start text =
    IfSome args.proof (λ proof. IsProofOfSuite start.model (orders_of args start.model) start.seeds (effort_of args.budget) (format_of (proof_form proof.format)) text)
