-- A suite that `show` accepts is accepted by the checker.
use Rattle.std.proofs.Common.{◌≡◌, ℕ, Bool, true, false, List, map, Option, None, Some, Ok, Err, Result, refl, ap, sym, subst, ◌∙◌, arith}
use Rattle.std.specs.Prelude.{option_map}
use Rattle.std.proofs.lemmas.Bool.{false≢true}
use Rattle.cov_model.specs.believed.Sound.{ModelView}
use Rattle.definitions.specs.believed.RowReading.{RowReading}
use Rattle.definitions.specs.believed.Verdict as defined
use Rattle.definitions.specs.believed.Verdict.{verdict}
use Rattle.definitions.proofs.Certified.{certified}
use Rattle.tuple_index.specs.believed.PlanFault.{limit_passed}
use Rattle.tuple_index.specs.declared.fault.PlanFault.{PlanFault}
use Rattle.proof_check.specs.believed.Checks.{verdict_given}
use Rattle.command_line.specs.believed.Stops.{stop_of_plan}
use Rattle.jeldroft_args.specs.declared.show.Show.{Show}
use Rattle.jeldroft_files.specs.believed.Models.{opts_of}
use Rattle.jeldroft_files.specs.believed.Runs.{Moment}
use Rattle.jeldroft_files.specs.believed.Tables.{is_comma}
use Rattle.jeldroft_files.specs.declared.failure.Cause.{Cause}
use Rattle.jeldroft_inputs.specs.believed.Inputs.{GivesModel, and_then, tests_of, unless}
use Rattle.jeldroft_show.specs.believed.Certified.{HoldsCertified}
use Rattle.jeldroft_show.specs.believed.Due.{Due, HeldFiles, form_of, proof_of, shown_due, shown_words, words_shown}
use Rattle.jeldroft_show.specs.believed.Shows.{Shown, ShowsAs, status_with}
use Rattle.jeldroft_show.specs.believed.Words.{is_accepted}
use Rattle.value_text.proofs.ListLemmas.{ok-err, one_ok}

-- a verdict that accepts
accepted_is : (v : defined.Verdict) → is_accepted (verdict_given v) ≡ true → (rows : ℕ) × (omissions : ℕ) × (v ≡ defined.Accepted rows omissions)
accepted_is (defined.Accepted rows omissions) is = (rows, omissions, refl)
accepted_is (defined.BadRow line) is = absurd (false≢true is)
accepted_is (defined.BadProof line) is = absurd (false≢true is)
accepted_is (defined.BadOmission line) is = absurd (false≢true is)
accepted_is (defined.Uncovered tuple) is = absurd (false≢true is)

-- words that say that a suite is accepted
words_accepted : (args : Show) (m : ModelView) (held : HeldFiles) (shown : Shown) → GivesModel (opts_of args.model args.strength) held.model (Ok m)
    → words_shown args m held ≡ Ok shown → shown.accepted ≡ true → HoldsCertified args held
words_accepted args m held shown gives is accepted =
    at (limit_passed m) refl (tests_of m (is_comma args.delimiter args.table) held.table) refl (proof_of args.proof held.proof) refl is
  where
    at : (limit : Option PlanFault) → limit_passed m ≡ limit
        → (read : Result RowReading Cause) → tests_of m (is_comma args.delimiter args.table) held.table ≡ read
        → (given : Result (List ℕ) Cause) → proof_of args.proof held.proof ≡ given
        → unless (option_map stop_of_plan limit) (and_then read (λ reading. and_then given (λ bytes.
        Ok (shown_words args m reading.rows (map (λ row. row.1) reading.rows) bytes)))) ≡ Ok shown
        → HoldsCertified args held
    at (Some fault) within read tests given proof e = absurd (ok-err _ _ e refl)
    at None within (Err cause) tests given proof e = absurd (ok-err _ _ e refl)
    at None within (Ok reading) tests (Err cause) proof e = absurd (ok-err _ _ e refl)
    at None within (Ok reading) tests (Ok bytes) proof e =
        let is_so = accepted_is (verdict m reading.rows bytes) (ap (λ (s : Shown). s.accepted) (one_ok refl e) ∙ accepted) in
        record {
          m = m;
          model = gives;
          within = within;
          reading = reading;
          tests = tests;
          bytes = bytes;
          proof = proof;
          accepted = is_so;
          certified = certified m reading.rows bytes is_so;
        }

status_zero : (accepted : Bool) → status_with accepted ≡ 0 → accepted ≡ true
status_zero true zero = refl
status_zero false zero = absurd (omega (arith, zero))

due_accepted : (args : Show) (held : HeldFiles) (shown : Shown) → Due None args held (Ok shown) → shown.accepted ≡ true → HoldsCertified args held
due_accepted args held shown due accepted = at due.given due.gives due.is
  where
    at : (given : Result ModelView Cause) → GivesModel (opts_of args.model args.strength) held.model given
        → Ok shown ≡ and_then given (λ m. shown_due None args m held) → HoldsCertified args held
    at (Ok m) gives is = words_accepted args m held shown gives (sym is) accepted
    at (Err cause) gives is = absurd (ok-err _ _ (sym is) refl)

pub certified_by : (args : Show) (held : HeldFiles) (output : Option (List ℕ)) (before after : Moment) (status : ℕ) → form_of args.format ≡ None → status ≡ 0
    → ShowsAs (Due (form_of args.format) args held) output before after status → HoldsCertified args held
certified_by args held output before after status no_form zero shows =
    let done = shows.done (omega (arith, zero)) in
    due_accepted args held done.0 (subst (λ form. Due form args held (Ok done.0)) no_form done.1) (status_zero done.0.accepted (sym done.2 ∙ zero))
