-- What a suite is ready with: its statistics, and its proof.
use Rattle.std.proofs.Common.{◌≡◌, ℕ, List, [], ◌∷◌, map, length, Option, None, Some, Ok, Err, Result, refl, sym, ap, subst, ◌∙◌}
use Rattle.std.specs.Prelude.{IfSome, IfErr, IsErrAnd, option_map}
use Rattle.std.proofs.lemmas.List.{length-map}
use Rattle.cov_model.specs.believed.Sound.{ModelView}
use Rattle.definitions.specs.declared.effort.Effort.{Effort}
use Rattle.definitions.specs.believed.Growth.{growth}
use Rattle.definitions.specs.believed.Pairs.{pairs_of}
use Rattle.definitions.specs.believed.SuiteProof.{IsProofOfSuite}
use Rattle.ipog_grow.specs.Suites.{IsSuiteOf}
use Rattle.ipog_grow.specs.declared.suite.Suite.{Suite}
use Rattle.refutation.specs.believed.Proofs.{format_of}
use Rattle.refutation.specs.Proofs.{omission_meant}
use Rattle.refutation.specs.declared.omissions.Omission.{Omission}
use Rattle.refutation.specs.declared.omissions.ProofForm.{ProofForm}
use Rattle.definitions.specs.believed.Statistics.{Statistics}
use Rattle.command_line.specs.declared.stop.Stop.{Stop}
use Rattle.pict_cli.specs.Steps.{written}

-- the number of omitted tuples
pub omitted_count : (m : ModelView) (pref : List (List ℕ)) (seeds : List (ℕ × List (Option ℕ))) (effort : Effort) (asked : Option ProofForm) (suite : Suite)
    → IsSuiteOf m pref seeds effort asked suite → length suite.omitted.omissions ≡ length (growth m pref seeds).omitted
omitted_count m pref seeds effort asked suite is =
    sym (length-map suite.omitted.omissions (λ omission. omission.tuple)) ∙ ap length is.omitted ∙ length-map (growth m pref seeds).omitted pairs_of

-- the proof
tuples_meant : (omissions : List Omission) → map (λ o. o.tuple) (map omission_meant omissions) ≡ map (λ o. o.tuple) omissions
tuples_meant [] = refl
tuples_meant (omission ∷ omissions) = ap (λ rest. omission.tuple ∷ rest) (tuples_meant omissions)

pub proof_ready : {X : Type 0} (m : ModelView) (pref : List (List ℕ)) (seeds : List (ℕ × List (Option ℕ))) (effort : Effort) (proof : Option X) (form : ProofForm) (suite : Suite) (bytes : List ℕ)
    → IsSuiteOf m pref seeds effort (option_map (λ _. form) proof) suite → IfSome proof (λ _. bytes ≡ written suite.omitted.form suite.omitted.omissions)
    → IfSome proof (λ _. IsProofOfSuite m pref seeds effort (format_of form) bytes)
proof_ready m pref seeds effort None form suite bytes is text = tt
proof_ready m pref seeds effort (Some name) form suite bytes is text = record {
  omissions = map omission_meant suite.omitted.omissions;
  omitted = record { tuples = tuples_meant suite.omitted.omissions ∙ is.omitted; trees = is.trees };
  text = text ∙ ap (λ f. written f suite.omitted.omissions) is.form;
}

-- what holds of any error
pub if_err : {A E : Type 0} {P : Type 0} (result : Result A E) → P → IfErr result (λ _. P)
if_err (Ok value) holds = tt
if_err (Err fault) holds = holds

pub if_err_of : {A : Type 0} (P : Stop → Type 0) (result : Result A Stop) (stop : Stop) → IsErrAnd result (λ other. other ≡ stop) → P stop → IfErr result P
if_err_of P (Ok value) stop none holds = tt
if_err_of P (Err other) stop is holds = subst P (sym is) holds

-- the statistics
pub same_statistics : (a b : Statistics) → a.sets ≡ b.sets → a.tuples ≡ b.tuples → a.omitted ≡ b.omitted → a.kept ≡ b.kept → a.tests ≡ b.tests → a ≡ b
same_statistics a b sets tuples omitted kept tests =
    ap (λ n. record { sets = n; tuples = a.tuples; omitted = a.omitted; kept = a.kept; tests = a.tests }) sets
    ∙ ap (λ n. record { sets = b.sets; tuples = n; omitted = a.omitted; kept = a.kept; tests = a.tests }) tuples
    ∙ ap (λ n. record { sets = b.sets; tuples = b.tuples; omitted = n; kept = a.kept; tests = a.tests }) omitted
    ∙ ap (λ n. record { sets = b.sets; tuples = b.tuples; omitted = b.omitted; kept = n; tests = a.tests }) kept
    ∙ ap (λ n. record { sets = b.sets; tuples = b.tuples; omitted = b.omitted; kept = b.kept; tests = n }) tests
