-- What follows of a model file and a table that were read, and of those that weren't.
use Rattle.std.proofs.Common.{◌≡◌, ℕ, ◌≤◌, List, length, Option, None, Some, Ok, Err, inl, inr, refl, ap, sym, subst, ◌∙◌, arith}
use Rattle.std.proofs.lemmas.Option.{none-some, same_Some}
use Rattle.cov_model.specs.believed.Sound.{ModelView}
use Rattle.definitions.specs.believed.Limits.{ModelFile, most_bytes}
use Rattle.model_lex.specs.declared.note.Note.{Note}
use Rattle.model_lex.specs.declared.options.ModelOpts.{ModelOpts}
use Rattle.type_check.specs.believed.ModelOf.{IsAnswerOf}
use Rattle.type_check.proofs.OneAnswer.{one_answer}
use Rattle.command_line.specs.believed.Loading as reads
use Rattle.command_line.specs.believed.Loading.{IsLoaded, StopsReading}
use Rattle.command_line.specs.declared.stop.Stop.{Stop}
use Rattle.jeldroft_files.specs.believed.Failures.{status_of}
use Rattle.jeldroft_files.specs.believed.Models.{StopsModel}
use Rattle.jeldroft_files.specs.declared.failure.Cause.{Cause}
use Rattle.jeldroft_files.specs.declared.failure.Cause.TheVariants as causes
use Rattle.jeldroft_inputs.specs.Inputs.{EndsBy}
use Rattle.jeldroft_inputs.specs.believed.Inputs.{GivesModel, is_missing, is_read, is_too_long, model_or_cause}
use Rattle.jeldroft_inputs.specs.Laws.{ModelFilesGiveOneAnswer}

pub one_model : ModelFilesGiveOneAnswer
one_model opts held given other (is_missing none is) (is_missing too same) = is ∙ sym same
one_model opts held given other (is_missing none is) (is_too_long bytes some above same) = absurd (none-some bytes (sym none ∙ some))
one_model opts held given other (is_missing none is) (is_read bytes answer some within read same) = absurd (none-some bytes (sym none ∙ some))
one_model opts held given other (is_too_long bytes some above is) (is_missing none same) = absurd (none-some bytes (sym none ∙ some))
one_model opts held given other (is_too_long bytes some above is) (is_too_long bytes' some' above' same) = is ∙ sym same
one_model opts held given other (is_too_long bytes some above is) (is_read bytes' answer some' within read same) =
    let e : bytes ≡ bytes' = same_Some bytes bytes' (sym some ∙ some') in
    let short : length bytes ≤ most_bytes ModelFile = subst (λ text. length text ≤ most_bytes ModelFile) (sym e) within in
    absurd (omega arith)
one_model opts held given other (is_read bytes answer some within read is) (is_missing none same) = absurd (none-some bytes (sym none ∙ some))
one_model opts held given other (is_read bytes answer some within read is) (is_too_long bytes' some' above same) =
    let e : bytes ≡ bytes' = same_Some bytes bytes' (sym some ∙ some') in
    let short : length bytes' ≤ most_bytes ModelFile = subst (λ text. length text ≤ most_bytes ModelFile) e within in
    absurd (omega arith)
one_model opts held given other (is_read bytes answer some within read is) (is_read bytes' answer' some' within' read' same) =
    let e : bytes' ≡ bytes = same_Some bytes' bytes (sym some' ∙ some) in
    is ∙ ap model_or_cause (one_answer opts bytes answer answer' read (subst (λ text. IsAnswerOf opts text answer') e read')) ∙ sym same

-- the model of a file that is loaded
pub model_given : (opts : ModelOpts) (held : Option (List ℕ)) (m : ModelView) (notes : List Note) → IsLoaded opts held m notes → GivesModel opts held (Ok m)
model_given opts None m notes loaded = absurd loaded
model_given opts (Some bytes) m notes loaded = is_read bytes (Ok (m, notes)) refl loaded.0 loaded.1 refl

-- a model file isn't read
stop_given : (opts : ModelOpts) (held : Option (List ℕ)) (stop : Stop) → StopsReading opts held stop
    → EndsBy (λ cause. GivesModel opts held (Err cause)) (causes.Stop stop)
stop_given opts held stop (reads.out_of_memory is) = inl (ap (λ other. status_of (causes.Stop other)) is)
stop_given opts held stop (reads.cannot_read is) = inl (ap (λ other. status_of (causes.Stop other)) is)
stop_given opts None stop (reads.too_long is more) = absurd more
stop_given opts (Some bytes) stop (reads.too_long is more) = inr (is_too_long bytes refl more (ap (λ other. Err (causes.Stop other)) is))
stop_given opts None stop (reads.is_refused fault is refused) = absurd refused
stop_given opts (Some bytes) stop (reads.is_refused fault is refused) = inr (is_read bytes (Err fault) refl refused.0 refused.1 (ap (λ other. Err (causes.Stop other)) is))

pub cause_given : (opts : ModelOpts) (held : Option (List ℕ)) (cause : Cause) → StopsModel opts held cause → EndsBy (λ cause. GivesModel opts held (Err cause)) cause
cause_given opts held cause stops = subst (EndsBy (λ other. GivesModel opts held (Err other))) (sym stops.1) (stop_given opts held stops.0 stops.2)
