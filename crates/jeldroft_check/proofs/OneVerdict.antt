-- Files call for one verdict, or for none by causes of one status.
use Rattle.std.proofs.Common.{◌≡◌, ℕ, List, Option, Ok, Err, ap, sym, subst, ◌∙◌}
use Rattle.std.proofs.lemmas.Option.{none-some, same_Some}
use Rattle.cov_model.specs.believed.Sound.{ModelView}
use Rattle.definitions.specs.believed.Verdict.{Verdict, verdict}
use Rattle.model_lex.specs.declared.options.ModelOpts.{ModelOpts}
use Rattle.tuple_index.specs.believed.PlanFault.{limit_passed}
use Rattle.type_check.proofs.OneAnswer.{files_have_one_model, models_are_not_refused, refusals_are_one}
use Rattle.command_line.specs.believed.Stops.{stop_of_model, stop_of_plan}
use Rattle.command_line.specs.declared.stop.Stop.{Stop}
use Rattle.proof_check.specs.believed.Checks.{Spells, report_of}
use Rattle.check_cli.specs.believed.Runs.{HeldFiles, Inputs, stop_of_report}
use Rattle.jeldroft_args.specs.declared.check.Check.{Check}
use Rattle.jeldroft_files.specs.believed.Failures.{status_of}
use Rattle.jeldroft_files.specs.believed.Models.{opts_of}
use Rattle.jeldroft_files.specs.declared.failure.Cause.{Cause}
use Rattle.jeldroft_files.specs.declared.failure.Cause.TheVariants as causes
use Rattle.jeldroft_check.specs.believed.Runs.{Due, IsJudged, IsRefused, bad_model, bad_table, inputs_of, too_many, unjudged, unread}

-- ---- bytes that are judged

module _ (opts : ModelOpts) (inputs : Inputs) where
  same_model : {m n : ModelView} → Spells opts inputs.model m → Spells opts inputs.model n → m ≡ n
  same_model {m} {n} one other = (files_have_one_model opts inputs.model m n one.0 other.0 one.1 other.1).0

  module _ {P : ModelView → List (ℕ × List (Option ℕ)) → List ℕ → Type 0} (is : IsJudged opts inputs P) where
    not_refused : {stop : Stop} → IsRefused opts inputs stop → ⊥
    not_refused (bad_model fault refusal same) = models_are_not_refused opts inputs.model is.model is.spelled.0 fault is.spelled.1 refusal
    not_refused (too_many m fault spelled passed same) =
        none-some fault (sym is.within ∙ ap limit_passed (same_model is.spelled spelled) ∙ passed)
    not_refused (bad_table m fault spelled within refused same) =
        let one = ap (λ model. report_of model inputs.report) (same_model is.spelled spelled) in
        let reported = is.reported in cc

  one_stop : {stop other : Stop} → IsRefused opts inputs stop → IsRefused opts inputs other → stop ≡ other
  one_stop (bad_model fault refusal is) (bad_model fault' refusal' is') =
      is ∙ ap stop_of_model (refusals_are_one opts inputs.model fault fault' refusal refusal') ∙ sym is'
  one_stop (bad_model fault refusal is) (too_many m fault' spelled passed is') = absurd (models_are_not_refused opts inputs.model m spelled.0 fault spelled.1 refusal)
  one_stop (bad_model fault refusal is) (bad_table m fault' spelled within refused is') =
      absurd (models_are_not_refused opts inputs.model m spelled.0 fault spelled.1 refusal)
  one_stop (too_many m fault spelled passed is) (bad_model fault' refusal is') = absurd (models_are_not_refused opts inputs.model m spelled.0 fault' spelled.1 refusal)
  one_stop (too_many m fault spelled passed is) (too_many m' fault' spelled' passed' is') =
      is ∙ ap stop_of_plan (same_Some fault fault' (sym passed ∙ ap limit_passed (same_model spelled spelled') ∙ passed')) ∙ sym is'
  one_stop (too_many m fault spelled passed is) (bad_table m' fault' spelled' within refused is') =
      absurd (none-some fault (sym within ∙ ap limit_passed (same_model spelled' spelled) ∙ passed))
  one_stop (bad_table m fault spelled within refused is) (bad_model fault' refusal is') =
      absurd (models_are_not_refused opts inputs.model m spelled.0 fault' spelled.1 refusal)
  one_stop (bad_table m fault spelled within refused is) (too_many m' fault' spelled' passed is') =
      absurd (none-some fault' (sym within ∙ ap limit_passed (same_model spelled spelled') ∙ passed))
  one_stop (bad_table m fault spelled within refused is) (bad_table m' fault' spelled' within' refused' is') =
      let one = ap (λ model. report_of model inputs.report) (same_model spelled spelled') in
      let same : fault ≡ fault' = cc in
      is ∙ ap stop_of_report same ∙ sym is'

  one_judged : {given other : Verdict} → IsJudged opts inputs (λ m lines proof. verdict m lines proof ≡ given)
      → IsJudged opts inputs (λ m lines proof. verdict m lines proof ≡ other) → given ≡ other
  one_judged one two =
      let models = same_model one.spelled two.spelled in
      let same = ap (λ model. report_of model inputs.report) models in
      let first = one.reported in
      let second = two.reported in
      let reports : one.report ≡ two.report = cc in
      sym one.holds ∙ ap (λ m. verdict m one.report.rows inputs.proof) models ∙ ap (λ r. verdict two.model r.rows inputs.proof) reports ∙ two.holds

-- ---- files

module _ (args : Check) (held : HeldFiles) where
  same_inputs : {one other : Inputs} → inputs_of args held ≡ Ok one → inputs_of args held ≡ Ok other → one ≡ other
  same_inputs e f = cc

  unread_inputs : {cause : Cause} {inputs : Inputs} → inputs_of args held ≡ Err cause → inputs_of args held ≡ Ok inputs → ⊥
  unread_inputs e f = cc

  pub one_verdict : (given other : Verdict) → Due args held (Ok given) → Due args held (Ok other) → given ≡ other
  one_verdict given other (inputs, read, is) (inputs', read', is') =
      one_judged (opts_of args.model args.strength) inputs' (subst (λ i. IsJudged (opts_of args.model args.strength) i (λ m lines proof. verdict m lines proof ≡ given)) (same_inputs read read') is) is'

  pub not_both : (given : Verdict) (cause : Cause) → Due args held (Ok given) → ¬ Due args held (Err cause)
  not_both given cause (inputs, read, is) (unread failed) = unread_inputs failed read
  not_both given cause (inputs, read, is) (unjudged inputs' stop read' refused same) =
      not_refused (opts_of args.model args.strength) inputs is (subst (λ i. IsRefused (opts_of args.model args.strength) i stop) (same_inputs read' read) refused)

  pub one_status : (cause other : Cause) → Due args held (Err cause) → Due args held (Err other) → status_of cause ≡ status_of other
  one_status cause other (unread e) (unread f) = let same : cause ≡ other = cc in ap status_of same
  one_status cause other (unread e) (unjudged inputs stop read refused is) = absurd (unread_inputs e read)
  one_status cause other (unjudged inputs stop read refused is) (unread e) = absurd (unread_inputs e read)
  one_status cause other (unjudged inputs stop read refused is) (unjudged inputs' stop' read' refused' is') =
      ap status_of
      (is ∙ ap causes.Stop (one_stop (opts_of args.model args.strength) inputs'
      (subst (λ i. IsRefused (opts_of args.model args.strength) i stop) (same_inputs read read') refused) refused') ∙ sym is')
