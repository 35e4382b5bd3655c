-- What a check answers. (This project's rule.)
use Rattle.std.specs.Prelude.{ℕ, List, Result}
use Rattle.cov_model.specs.believed.Sound.{ModelView}
use Rattle.model_lex.specs.declared.options.ModelOpts.{ModelOpts}
use Rattle.type_check.specs.believed.ModelOf.{IsModelOf}
use Rattle.model_lex.specs.declared.note.Note.{Note}
use Rattle.definitions.specs.believed.Pairs.{pairs_of}
use Rattle.definitions.specs.believed.RowReading as readings
use Rattle.definitions.specs.believed.Verdict as defined
use Rattle.proof_check.specs.declared.verdict.Verdict.{Verdict}
use Rattle.proof_check.specs.declared.verdict.Verdict.TheVariants.{Accepted, BadRow, BadProof, BadOmission, Uncovered}

-- a verdict as the code gives it, a tuple as its pairs
abbrev pub verdict_given : defined.Verdict → Verdict
verdict_given (defined.Accepted rows omissions) = Accepted rows omissions
verdict_given (defined.BadRow line) = BadRow line
verdict_given (defined.BadProof line) = BadProof line
verdict_given (defined.BadOmission line) = BadOmission line
verdict_given (defined.Uncovered tuple) = Uncovered (pairs_of tuple)

-- the file of the model spells the model
abbrev pub Spells : ModelOpts → List ℕ → ModelView → Type 0
Spells opts bytes m = (notes : List Note) × IsModelOf opts bytes m notes

-- the reading of a report, which holds a whole suite
abbrev pub report_of : ModelView → List ℕ → Result readings.RowReading readings.RowsFault
report_of m report = readings.read_rows m readings.Suite report
