-- What the steps of a run give, and how they end.
use Rattle.std.proofs.Common.{◌≡◌, ℕ, ◌⊎◌, List, Option, None, Some, Result, Ok, Err, inl, inr, refl, sym}
use Rattle.std.specs.Prelude.{IfSome, option_map}
use Rattle.cov_model.specs.believed.Sound.{ModelView}
use Rattle.ipog_grow.specs.Suites.{IsSuiteOf}
use Rattle.ipog_grow.specs.declared.suite.Suite.{Suite}
use Rattle.refutation.specs.believed.Proofs.{format_of}
use Rattle.definitions.specs.believed.SuiteProof.{IsProofOfSuite}
use Rattle.definitions.specs.declared.effort.Effort.{Effort}
use Rattle.pict_cli.specs.Steps.{written}
use Rattle.pict_cli.proofs.Suites.{proof_ready}
use Rattle.jeldroft_args.specs.declared.generate.Generate.{Generate}
use Rattle.jeldroft_args.specs.declared.proof_output.ProofOutput.{ProofOutput}
use Rattle.jeldroft_files.specs.believed.Failures.{status_of}
use Rattle.jeldroft_files.specs.believed.Models.{opts_of}
use Rattle.jeldroft_files.specs.declared.failure.Cause.{Cause}
use Rattle.jeldroft_files.specs.declared.failure.Failure.{Failure}
use Rattle.jeldroft_generate.specs.believed.Asked.{proof_form}
use Rattle.jeldroft_generate.specs.Due.{Answers, IsMadeOf}
use Rattle.jeldroft_generate.specs.believed.Due.{CallsFor, Held, start_of}
use Rattle.jeldroft_generate.specs.believed.Given.{GivesModel}
use Rattle.jeldroft_generate.specs.declared.made.Made.{Made}

-- the proof of a suite
pub proof_made : (m : ModelView) (pref : List (List ℕ)) (seeds : List (ℕ × List (Option ℕ))) (effort : Effort) (asked : Option ProofOutput) (suite : Suite) (bytes : List ℕ)
    → IsSuiteOf m pref seeds effort (option_map (λ proof. proof_form proof.format) asked) suite → IfSome asked (λ _. bytes ≡ written suite.omitted.form suite.omitted.omissions)
    → IfSome asked (λ proof. IsProofOfSuite m pref seeds effort (format_of (proof_form proof.format)) bytes)
proof_made m pref seeds effort None suite bytes is text = tt
proof_made m pref seeds effort (Some proof) suite bytes is text = proof_ready m pref seeds effort (Some proof) (proof_form proof.format) suite bytes is text

-- what the files call for, once the model is read
pub calls_for : (args : Generate) (held : Held) (m : ModelView) (result : Result Made Failure) → GivesModel (opts_of args.model args.strength) held.model (Ok m)
    → Answers (λ given. start_of args held.seeds m ≡ given) (IsMadeOf args) result → Answers (CallsFor args held) (IsMadeOf args) result
calls_for args held m (Ok made) gives (start, is, made_of) = (start, record { given = Ok m; gives = gives; is = sym is }, made_of)
calls_for args held m (Err failure) gives (inl device) = inl device
calls_for args held m (Err failure) gives (inr is) = inr (record { given = Ok m; gives = gives; is = sym is })

-- and where it isn't
pub calls_for_none : (args : Generate) (held : Held) (cause : Cause) → (status_of cause ≡ 3) ⊎ GivesModel (opts_of args.model args.strength) held.model (Err cause)
    → (status_of cause ≡ 3) ⊎ CallsFor args held (Err cause)
calls_for_none args held cause (inl device) = inl device
calls_for_none args held cause (inr gives) = inr (record { given = Err cause; gives = gives; is = refl })
