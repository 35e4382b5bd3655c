-- What it means that `show` accepts a suite. (This project's rule.)
use Rattle.std.specs.Prelude.{◌≡◌, ℕ, List, None, Ok}
use Rattle.cov_model.specs.believed.Sound.{ModelView}
use Rattle.definitions.specs.believed.Laws.{IsCertified}
use Rattle.definitions.specs.believed.RowReading.{RowReading}
use Rattle.definitions.specs.believed.Verdict.{IsAccepted}
use Rattle.tuple_index.specs.believed.PlanFault.{limit_passed}
use Rattle.jeldroft_args.specs.declared.show.Show.{Show}
use Rattle.jeldroft_files.specs.believed.Models.{opts_of}
use Rattle.jeldroft_files.specs.believed.Tables.{is_comma}
use Rattle.jeldroft_inputs.specs.believed.Inputs.{GivesModel, tests_of}
use Rattle.jeldroft_show.specs.believed.Due.{HeldFiles, proof_of}

-- the files hold a model, tests of it and a proof that the checker accepts: so every test is valid, and each demanded
-- combination is covered by one of them, or the proof lists it and no test can cover it
pub record HoldsCertified (args : Show) (held : HeldFiles) : Type 0 where
  pub m : ModelView
  pub model : GivesModel (opts_of args.model args.strength) held.model (Ok m)
  pub within : limit_passed m ≡ None
  pub reading : RowReading
  pub tests : tests_of m (is_comma args.delimiter args.table) held.table ≡ Ok reading
  pub bytes : List ℕ
  pub proof : proof_of args.proof held.proof ≡ Ok bytes
  pub accepted : IsAccepted m reading.rows bytes
  pub certified : IsCertified m reading.rows bytes
