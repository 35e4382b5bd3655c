use Rattle.std.proofs.Common.{◌≡◌, Err, inl, inr, sym, ap, subst, ◌∙◌}
use Rattle.std.specs.Prelude.{◌⊎◌}
use Rattle.outside_io.specs.believed.Seen.{PutFaultsRose}
use Rattle.outside_io.specs.believed.Puts.{Puts}
use Rattle.outside_io.specs.declared.answers.WriteAnswer.TheVariants.{Failed}
use Rattle.definitions.specs.believed.Laws.{IsCertified}
use Rattle.definitions.specs.believed.Verdict.{verdict, verdict_text}
use Rattle.command_line.specs.believed.Stops.{status_of}
use Rattle.command_line.specs.declared.stop.Stop.{Stop}
use Rattle.command_line.specs.declared.stop.Stop.TheVariants.{CannotRead}
use Rattle.command_line.specs.believed.Told.{Tells, end_text}
use Rattle.command_line.specs.believed.Words.{texts}
use Rattle.check_cli.specs.RunSteps.{CountsOut}
use Rattle.check_cli.specs.believed.Runs.{AreRead, HasReadings, HasVerdict, Holds, IsRefusal, FilesAreRefused, IsRun, IsStatus, IsTold, ReadsRose, end_status, inputs_of, unread, verdict_status}
use Rattle.check_cli.specs.Words.{command_seen}
use Rattle.check_cli.proofs.RunEnds.{accepted_told, broken_told, complete_end, counts_stay, eight_is_end, for_asked, names_given, not_three, nothing_written}
use Rattle.check_cli.proofs.RunEnds.{refusal_has_cause, refused_end, seven_is_end, status_known, verdict_is_end, verdict_told}
use Rattle.check_cli.proofs.WordLemmas.{command_fits}
use Rattle.check_cli.proofs.run.run_check.Goals as goal

pub check-end-requires-after_bounds : goal.check-end-requires-after_bounds
check-end-requires-after_bounds g c = λ _ _. command_fits (texts c.args.words.now) (command_seen c.in-Ok.opts) c.in-Ok.ensures

pub returns-clause-certified : goal.returns-clause-certified
returns-clause-certified g c = λ zero s held asked.
    for_asked (texts c.args.words.now) c.in-Ok.opts (λ opts names. Holds (g.F.Folder.seen c.args.files.now).files names held → HasReadings opts IsCertified held)
    c.in-Ok.ensures asked (λ holds. accepted_told c.in-Ok.opts.opts held (g.O.Sink.seen c.args.out.now)
    (g.O.Sink.seen c.check-end.new.out) c.check-end.result c.finish.result c.finish.ensures.status zero (c.check-end.ensures.ends held holds))

pub returns-clause-verdict : goal.returns-clause-verdict
returns-clause-verdict g c = λ known s held asked.
    for_asked (texts c.args.words.now) c.in-Ok.opts
    (λ opts names. Holds (g.F.Folder.seen c.args.files.now).files names held
    → HasReadings opts (λ m lines proof. IsTold (g.O.Sink.seen c.args.out.now) (g.O.Sink.seen c.check-end.new.out) c.finish.result (verdict m lines proof)) held)
    c.in-Ok.ensures asked (λ holds. verdict_told c.in-Ok.opts.opts held (g.O.Sink.seen c.args.out.now)
    (g.O.Sink.seen c.check-end.new.out) c.check-end.result c.finish.result c.finish.ensures.status known (c.check-end.ensures.ends held holds))

pub returns-clause-broken : goal.returns-clause-broken
returns-clause-broken g c = λ eight s held asked.
    for_asked (texts c.args.words.now) c.in-Ok.opts
    (λ opts names. Holds (g.F.Folder.seen c.args.files.now).files names held
    → HasReadings opts (λ m lines proof. Puts Failed (g.O.Sink.seen c.args.out.now) (g.O.Sink.seen c.check-end.new.out) (verdict_text (verdict m lines proof))) held)
    c.in-Ok.ensures asked (λ holds. broken_told c.in-Ok.opts.opts held (g.O.Sink.seen c.args.out.now)
    (g.O.Sink.seen c.check-end.new.out) c.check-end.result c.check-end.ensures.before (sym c.finish.ensures.status ∙ eight) (c.check-end.ensures.ends held holds))

pub returns-clause-complete : goal.returns-clause-complete
returns-clause-complete g c = λ s held asked.
    for_asked (texts c.args.words.now) c.in-Ok.opts
    (λ opts names. Holds (g.F.Folder.seen c.args.files.now).files names held → AreRead opts held
    → ¬ ReadsRose names (g.F.Folder.seen c.args.files.now) (g.F.Folder.seen c.check-end.new.files)
    → ¬ PutFaultsRose (g.O.Sink.seen c.args.out.now) (g.O.Sink.seen c.check-end.new.out)
    → HasReadings opts (λ m lines proof. (c.finish.result ≡ verdict_status (verdict m lines proof)) ⊎ (c.finish.result ≡ 1)) held)
    c.in-Ok.ensures asked (λ holds read folder out.
    subst (λ n. HasReadings c.in-Ok.opts.opts (λ m lines proof. (n ≡ verdict_status (verdict m lines proof)) ⊎ (n ≡ 1)) held) (sym c.finish.ensures.status)
    (complete_end c.in-Ok.opts.opts held (g.O.Sink.seen c.args.out.now) (g.O.Sink.seen c.check-end.new.out) c.check-end.result read (λ kind e. folder (kind, c.check-end.ensures.read kind e))
    (λ e. out (subst (λ end. CountsOut end (g.O.Sink.seen c.args.out.now) (g.O.Sink.seen c.check-end.new.out)) e c.check-end.ensures.counts))
    (c.check-end.ensures.ends held holds)))

pub returns-clause-refused : goal.returns-clause-refused
returns-clause-refused g c = λ s held stop asked.
    for_asked (texts c.args.words.now) c.in-Ok.opts
    (λ opts names. Holds (g.F.Folder.seen c.args.files.now).files names held → FilesAreRefused opts held stop
    → ¬ ReadsRose names (g.F.Folder.seen c.args.files.now) (g.F.Folder.seen c.check-end.new.files)
    → (c.finish.result ≡ status_of stop) ⊎ (c.finish.result ≡ 1))
    c.in-Ok.ensures asked (λ holds why folder.
    elim (refused_end c.in-Ok.opts.opts held (g.O.Sink.seen c.args.out.now) (g.O.Sink.seen c.check-end.new.out) c.check-end.result why (c.check-end.ensures.ends held holds)) [
      | inl same ↦ inl (c.finish.ensures.status ∙ same)
      | inr rest ↦ elim rest [
        | inl one ↦ inr (c.finish.ensures.status ∙ one)
        | inr failed ↦ absurd (folder (failed.0, c.check-end.ensures.read failed.0 failed.1))
      ]
    ])

pub returns-clause-missing : goal.returns-clause-missing
returns-clause-missing g c = λ s held kind asked.
    for_asked (texts c.args.words.now) c.in-Ok.opts
    (λ opts names. Holds (g.F.Folder.seen c.args.files.now).files names held → inputs_of held ≡ Err (CannotRead kind)
    → (c.finish.result ≡ 7) ⊎ (c.finish.result ≡ 1))
    c.in-Ok.ensures asked (λ holds none.
    elim (refused_end c.in-Ok.opts.opts held (g.O.Sink.seen c.args.out.now) (g.O.Sink.seen c.check-end.new.out) c.check-end.result (unread none) (c.check-end.ensures.ends held holds)) [
      | inl same ↦ inl (c.finish.ensures.status ∙ same)
      | inr rest ↦ elim rest [
        | inl one ↦ inr (c.finish.ensures.status ∙ one)
        | inr failed ↦ inl (c.finish.ensures.status ∙ ap end_status failed.1)
      ]
    ])

pub returns-clause-refusal : goal.returns-clause-refusal
returns-clause-refusal g c = λ known s held asked.
    for_asked (texts c.args.words.now) c.in-Ok.opts
    (λ opts names. Holds (g.F.Folder.seen c.args.files.now).files names held → (stop : Stop) × FilesAreRefused opts held stop × (c.finish.result ≡ status_of stop))
    c.in-Ok.ensures asked (λ holds.
    let why = refusal_has_cause c.in-Ok.opts.opts held (g.O.Sink.seen c.args.out.now)
    (g.O.Sink.seen c.check-end.new.out) c.check-end.result (subst IsRefusal c.finish.ensures.status known) (c.check-end.ensures.ends held holds) in
    (why.0, why.1, c.finish.ensures.status ∙ why.2))

pub returns-clause-run : goal.returns-clause-run
returns-clause-run g c = λ s asked.
    for_asked (texts c.args.words.now) c.in-Ok.opts
    (λ opts names. IsRun opts names (g.F.Folder.seen c.args.files.now) (g.F.Folder.seen c.check-end.new.files)
    (g.O.Sink.seen c.args.out.now) (g.O.Sink.seen c.check-end.new.out) (g.E.Sink.seen c.args.diag.now) (g.E.Sink.seen c.finish.new.diag) c.finish.result)
    c.in-Ok.ensures asked (record {
      end = c.check-end.result;
      ends = c.check-end.ensures.ends;
      read = c.check-end.ensures.read;
      tells =
          subst
          (λ names. Tells (g.E.Sink.seen c.args.diag.now) (g.E.Sink.seen c.finish.new.diag)
          (end_text names c.check-end.result))
          c.names.ensures c.finish.ensures.tells;
      ended = c.finish.ensures.status;
    })

pub returns-clause-read_words : goal.returns-clause-read_words
returns-clause-read_words g c = λ s asked three. not_three (g.O.Sink.seen c.args.out.now)
    (g.O.Sink.seen c.check-end.new.out) c.check-end.result c.check-end.ensures.before (sym c.finish.ensures.status ∙ three)

pub returns-clause-nothing : goal.returns-clause-nothing
returns-clause-nothing g c = λ eight none.
    nothing_written (g.O.Sink.seen c.args.out.now) (g.O.Sink.seen c.check-end.new.out) c.check-end.result c.check-end.ensures.before
    (λ e. eight (c.finish.ensures.status ∙ e)) (λ known. none (subst HasVerdict (sym c.finish.ensures.status) known))

pub returns-clause-silent : goal.returns-clause-silent
returns-clause-silent g c = λ known. verdict_is_end c.check-end.result _ (subst HasVerdict c.finish.ensures.status known) c.finish.ensures.silent

pub returns-clause-read : goal.returns-clause-read
returns-clause-read g c = λ seven.
    let failed = seven_is_end c.check-end.result (sym c.finish.ensures.status ∙ seven) in
    subst (λ names. ReadsRose names (g.F.Folder.seen c.args.files.now) (g.F.Folder.seen c.check-end.new.files))
    (names_given (texts c.args.words.now) c.in-Ok.opts c.in-Ok.ensures) (failed.0, c.check-end.ensures.read failed.0 failed.1)

pub returns-clause-write : goal.returns-clause-write
returns-clause-write g c = λ eight.
    subst (λ end. CountsOut end (g.O.Sink.seen c.args.out.now) (g.O.Sink.seen c.check-end.new.out))
    (eight_is_end (g.O.Sink.seen c.args.out.now) (g.O.Sink.seen c.check-end.new.out) c.check-end.result c.check-end.ensures.before (sym c.finish.ensures.status ∙ eight))
    c.check-end.ensures.counts

pub returns-clause-no_read_fault : goal.returns-clause-no_read_fault
returns-clause-no_read_fault g c = λ seven. c.check-end.ensures.no_fault (λ kind e. seven (c.finish.ensures.status ∙ ap end_status e))

pub returns-clause-no_fault : goal.returns-clause-no_fault
returns-clause-no_fault g c = λ eight. counts_stay (g.O.Sink.seen c.args.out.now) (g.O.Sink.seen c.check-end.new.out) c.check-end.result (λ e. eight (c.finish.ensures.status ∙ e)) c.check-end.ensures.counts

pub returns-clause-statuses : goal.returns-clause-statuses
returns-clause-statuses g c = subst IsStatus (sym c.finish.ensures.status)
    (status_known (g.O.Sink.seen c.args.out.now) (g.O.Sink.seen c.check-end.new.out) c.check-end.result c.check-end.ensures.before)
