-- What a model file, and what is done with its model, call for.
use Rattle.std.proofs.Common.{◌≡◌, ℕ, List, Option, Ok, Err, Result, inl, inr, refl, ap, sym, ◌∙◌}
use Rattle.std.specs.Prelude.{IsErrAnd}
use Rattle.std.specs.Global.{Vec}
use Rattle.cov_model.specs.believed.Sound.{ModelView}
use Rattle.model_lex.specs.declared.note.Note.{Note}
use Rattle.model_lex.specs.declared.options.ModelOpts.{ModelOpts}
use Rattle.command_line.specs.believed.Loading.{IsLoaded}
use Rattle.jeldroft_files.specs.believed.Failures.{status_of}
use Rattle.jeldroft_files.specs.believed.Models.{StopsModel}
use Rattle.jeldroft_files.specs.Runs.{IsCalledFor, IsDueOnce, answer_seen}
use Rattle.jeldroft_files.specs.declared.failure.Cause.{Cause}
use Rattle.jeldroft_files.specs.declared.failure.Failure.{Failure}
use Rattle.jeldroft_inputs.specs.believed.Inputs.{CallsFor, and_then}
use Rattle.jeldroft_inputs.specs.Inputs.{EndsBy}
use Rattle.jeldroft_inputs.proofs.InputLemmas.{cause_given, model_given, one_model}

-- the answer of a call that passes a failure on
pub seen_failed : (result : Result (Vec ℕ) Failure) (failure : Failure) → IsErrAnd result (λ other. other ≡ failure) → answer_seen result ≡ Err (status_of failure.cause)
seen_failed (Ok text) failure none = absurd none
seen_failed (Err other) failure is = ap (λ given. Err (status_of given.cause)) is

module _ (opts : ModelOpts) (held : Option (List ℕ)) (text_of : ModelView → Result (List ℕ) Cause) where
  one : (due other : Result (List ℕ) Cause) → CallsFor opts held text_of due → CallsFor opts held text_of other → due ≡ other
  one due other is also = is.is ∙ ap (λ given. and_then given text_of) (one_model opts held is.given also.given is.gives also.gives) ∙ sym also.is

  -- they call for one thing
  pub due_once : IsDueOnce status_of (CallsFor opts held text_of)
  due_once = record {
    not_both = λ text cause is also. let same : Ok text ≡ Err cause = one (Ok text) (Err cause) is also in cc;
    one_status = λ cause other is also.
        let same : ◌≡◌ {A = Result (List ℕ) Cause} (Err cause) (Err other) = one (Err cause) (Err other) is also in
        let causes : cause ≡ other = cc in
        ap status_of causes;
  }

  -- the model was read, and this is the answer for it
  pub called_for : (m : ModelView) (notes : List Note) → IsLoaded opts held m notes → (answer : Result (List ℕ) ℕ)
      → IsCalledFor status_of (λ due. due ≡ text_of m) answer → IsCalledFor status_of (CallsFor opts held text_of) answer
  called_for m notes loaded (Ok text) is = record { given = Ok m; gives = model_given opts held m notes loaded; is = is }
  called_for m notes loaded (Err status) (inl device) = inl device
  called_for m notes loaded (Err status) (inr (cause, is, same)) = inr (cause, record { given = Ok m; gives = model_given opts held m notes loaded; is = is }, same)

  -- it wasn't
  pub called_unread : (cause : Cause) → StopsModel opts held cause → IsCalledFor status_of (CallsFor opts held text_of) (Err (status_of cause))
  called_unread cause stops = elim (cause_given opts held cause stops) [
    | inl device ↦ inl device
    | inr gives ↦ inr (cause, record { given = Err cause; gives = gives; is = refl }, refl)
  ]

-- a step whose text is written
module _ {A : Type 0} (given : Result A Cause) (text_of : A → List ℕ) where
  pub called_step : (value : A) (text : List ℕ) → given ≡ Ok value → text ≡ text_of value → Ok text ≡ and_then given (λ other. Ok (text_of other))
  called_step value text is same = ap Ok same ∙ sym (ap (λ found. and_then found (λ other. Ok (text_of other))) is)

  pub called_stopped : (cause : Cause) → EndsBy (λ other. given ≡ Err other) cause
      → IsCalledFor status_of (λ due. due ≡ and_then given (λ other. Ok (text_of other))) (Err (status_of cause))
  called_stopped cause ends = elim ends [
    | inl device ↦ inl device
    | inr is ↦ inr (cause, sym (ap (λ found. and_then found (λ other. Ok (text_of other))) is), refl)
  ]
