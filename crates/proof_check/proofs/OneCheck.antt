-- A check has one answer: that of the one answer of its model file.
use Rattle.std.proofs.Common.{◌≡◌, ℕ, List, Option, Some, None, is_some, ◌∙◌, refl, sym, ap}
use Rattle.std.specs.Prelude.{◌≢◌, Result, Ok, Err}
use Rattle.std.proofs.lemmas.Bool.{false≢true}
use Rattle.std.proofs.lemmas.Option.{same_Some}
use Rattle.cov_model.specs.believed.Sound.{ModelView}
use Rattle.definitions.specs.believed.RowReading as readings
use Rattle.definitions.specs.believed.Verdict.{verdict}
use Rattle.model_lex.specs.declared.options.ModelOpts.{ModelOpts}
use Rattle.row_text.specs.Readings.{fault_of}
use Rattle.row_text.specs.declared.rows_fault.RowsFault.{RowsFault}
use Rattle.row_text.specs.declared.rows_fault.RowsFault.TheVariants as files
use Rattle.tuple_index.specs.believed.PlanFault.{limit_passed}
use Rattle.tuple_index.specs.declared.fault.PlanFault.{PlanFault}
use Rattle.type_check.specs.believed.ModelOf.{Answer}
use Rattle.type_check.proofs.OneAnswer.{files_have_one_answer}
use Rattle.proof_check.specs.Checks.{IsCheckOf}
use Rattle.proof_check.specs.believed.Checks.{report_of, verdict_given}
use Rattle.proof_check.specs.Laws.{ChecksHaveOneAnswer}
use Rattle.proof_check.specs.declared.verdict.Verdict.{Verdict}
use Rattle.proof_check.specs.declared.verdict.CheckFault.{CheckFault}
use Rattle.proof_check.specs.declared.verdict.CheckFault.TheVariants.{BadModel, Limits, Report, NoMemory}

-- the fault of a report as the code has it
abbrev held : readings.RowsFault → RowsFault
held readings.NoHeader = files.NoHeader
held (readings.Twice line) = files.Twice line
held (readings.Missing p) = files.Missing p
held (readings.TooManyRows count) = files.TooManyRows count
held (readings.Width line) = files.Width line

held_is : (fault : RowsFault) (given : readings.RowsFault) → fault_of fault ≡ Some given → fault ≡ held given
held_is files.NoHeader given is = ap held (same_Some readings.NoHeader given is)
held_is (files.Twice line) given is = ap held (same_Some (readings.Twice line) given is)
held_is (files.Missing p) given is = ap held (same_Some (readings.Missing p) given is)
held_is (files.TooManyRows count) given is = ap held (same_Some (readings.TooManyRows count) given is)
held_is (files.Width line) given is = ap held (same_Some (readings.Width line) given is)
held_is files.NoMemory given is = absurd (false≢true (ap is_some is))

-- the answer where memory is found, by the answer of the model file
abbrev by_report : ModelView → Result readings.RowReading readings.RowsFault → List ℕ → Result Verdict CheckFault
by_report m (Err given) proof = Err (Report (held given))
by_report m (Ok reading) proof = Ok (verdict_given (verdict m reading.rows proof))

abbrev by_limit : ModelView → Option PlanFault → List ℕ → List ℕ → Result Verdict CheckFault
by_limit m (Some fault) report proof = Err (Limits fault)
by_limit m None report proof = by_report m (report_of m report) proof

abbrev by_file : Answer → List ℕ → List ℕ → Result Verdict CheckFault
by_file (Err fault) report proof = Err (BadModel fault)
by_file (Ok read) report proof = by_limit read.0 (limit_passed read.0) report proof

one : (opts : ModelOpts) (model report proof : List ℕ) (answer : Result Verdict CheckFault) → answer ≢ Err NoMemory
    → IsCheckOf opts model report proof answer → answer ≡ by_file (files_have_one_answer opts model).answer report proof
one opts model report proof (Ok given) told_one is =
    ap Ok is.5 ∙ sym (ap (λ r. by_report is.0 r proof) is.4) ∙ sym (ap (λ limit. by_limit is.0 limit report proof) is.2)
    ∙ ap (λ (a : Answer). by_file a report proof) ((files_have_one_answer opts model).only (Ok (is.0, is.1.0)) is.1.1)
one opts model report proof (Err (BadModel fault)) told_one is =
    ap (λ (a : Answer). by_file a report proof) ((files_have_one_answer opts model).only (Err fault) is.0)
one opts model report proof (Err (Limits fault)) told_one is =
    sym (ap (λ limit. by_limit is.0 limit report proof) is.2)
    ∙ ap (λ (a : Answer). by_file a report proof) ((files_have_one_answer opts model).only (Ok (is.0, is.1.0)) is.1.1)
one opts model report proof (Err (Report fault)) told_one is =
    ap (λ f. Err (Report f)) (held_is fault is.3 is.4)
    ∙ sym (ap (λ r. by_report is.0 r proof) is.5) ∙ sym (ap (λ limit. by_limit is.0 limit report proof) is.2)
    ∙ ap (λ (a : Answer). by_file a report proof) ((files_have_one_answer opts model).only (Ok (is.0, is.1.0)) is.1.1)
one opts model report proof (Err NoMemory) told_one is = absurd (told_one refl)

pub checks_have_one_answer : ChecksHaveOneAnswer
checks_have_one_answer opts model report proof answer other told_one told_other is other_is =
    one opts model report proof answer told_one is ∙ sym (one opts model report proof other told_other other_is)
