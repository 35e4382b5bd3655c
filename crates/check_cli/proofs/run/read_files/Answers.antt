use Rattle.std.proofs.Common.{◌≡◌, true, Err, Some, refl, sym, ap, subst, ◌∙◌}
use Rattle.std.specs.Prelude.{IfErr}
use Rattle.command_line.specs.Loading.{IsUnread}
use Rattle.command_line.specs.declared.files.FileKind.TheVariants as kinds
use Rattle.command_line.specs.declared.stop.Stop.TheVariants.{TooLong}
use Rattle.check_cli.specs.RunSteps.{Reads, is_before}
use Rattle.check_cli.specs.Words.{names_seen}
use Rattle.check_cli.proofs.ReadLemmas.{all_read, blames_itself, holds_after, model_first, proof_last, report_next, stops, stops_before, whole}
use Rattle.check_cli.proofs.run.read_files.Goals as goal
use Rattle.value_text.proofs.ListLemmas.{is_err, one_err, at_held}

pub returns-in_err-model-clause-reads : goal.returns-in_err-model-clause-reads
returns-in_err-model-clause-reads g c = λ held holds.
    let opts = c.args.opts.now.opts in
    subst (Reads opts held) (sym (is_err c.from_residual.ensures.1))
    (stops opts held kinds.Model held.model c.in_err-model.field-0.0 (model_first held (TooLong kinds.Model))
    (at_held (λ h. IsUnread kinds.Model h c.in_err-model.field-0.0) _ _ holds.model c.in_err-model.ensures.stops))

pub returns-in_err-report-clause-reads : goal.returns-in_err-report-clause-reads
returns-in_err-report-clause-reads g c = λ held holds.
    let opts = c.args.opts.now.opts in
    let later = holds_after (g.F.Folder.seen c.args.files.now) (g.F.Folder.seen c.read_whole.new.files) c.read_whole.ensures.files holds in
    let model = whole kinds.Model held.model c.in_ok-model.model.items
    (at_held (λ h. h ≡ Some c.in_ok-model.model.items) _ _ holds.model c.in_ok-model.ensures.whole) c.in_ok-model.ensures.within in
    subst (Reads opts held) (sym (is_err c.from_residual-in_err-report.ensures.1))
    (stops opts held kinds.Rows held.report c.in_err-report.field-0.0 (report_next held c.in_ok-model.model.items (TooLong kinds.Rows) model)
    (at_held (λ h. IsUnread kinds.Rows h c.in_err-report.field-0.0) _ _ later.report c.in_err-report.ensures.stops))

pub returns-in_err-proof-clause-reads : goal.returns-in_err-proof-clause-reads
returns-in_err-proof-clause-reads g c = λ held holds.
    let opts = c.args.opts.now.opts in
    let later = holds_after (g.F.Folder.seen c.args.files.now) (g.F.Folder.seen c.read_whole.new.files) c.read_whole.ensures.files holds in
    let last = holds_after (g.F.Folder.seen c.read_whole.new.files) (g.F.Folder.seen c.read_whole-2.new.files) c.read_whole-2.ensures.files later in
    let model = whole kinds.Model held.model c.in_ok-model.model.items
    (at_held (λ h. h ≡ Some c.in_ok-model.model.items) _ _ holds.model c.in_ok-model.ensures.whole) c.in_ok-model.ensures.within in
    let report = whole kinds.Rows held.report c.in_ok-report.report.items
    (at_held (λ h. h ≡ Some c.in_ok-report.report.items) _ _ later.report c.in_ok-report.ensures.whole) c.in_ok-report.ensures.within in
    subst (Reads opts held) (sym (is_err c.from_residual-in_err-proof.ensures.1))
    (stops opts held kinds.Proof held.proof c.in_err-proof.field-0.0
    (proof_last held c.in_ok-model.model.items c.in_ok-report.report.items (TooLong kinds.Proof) model report)
    (at_held (λ h. IsUnread kinds.Proof h c.in_err-proof.field-0.0) _ _ last.proof c.in_err-proof.ensures.stops))

pub returns-clause-reads : goal.returns-clause-reads
returns-clause-reads g c = λ held holds.
    let later = holds_after (g.F.Folder.seen c.args.files.now) (g.F.Folder.seen c.read_whole.new.files) c.read_whole.ensures.files holds in
    let last = holds_after (g.F.Folder.seen c.read_whole.new.files) (g.F.Folder.seen c.read_whole-2.new.files) c.read_whole-2.ensures.files later in
    let model = whole kinds.Model held.model c.in_ok-model.model.items
    (at_held (λ h. h ≡ Some c.in_ok-model.model.items) _ _ holds.model c.in_ok-model.ensures.whole) c.in_ok-model.ensures.within in
    let report = whole kinds.Rows held.report c.in_ok-report.report.items
    (at_held (λ h. h ≡ Some c.in_ok-report.report.items) _ _ later.report c.in_ok-report.ensures.whole) c.in_ok-report.ensures.within in
    let proof = whole kinds.Proof held.proof c.in_ok-proof.proof.items
    (at_held (λ h. h ≡ Some c.in_ok-proof.proof.items) _ _ last.proof c.in_ok-proof.ensures.whole) c.in_ok-proof.ensures.within in
    all_read held c.in_ok-model.model.items c.in_ok-report.report.items c.in_ok-proof.proof.items model report proof

pub returns-in_err-model-clause-before : goal.returns-in_err-model-clause-before
returns-in_err-model-clause-before g c =
    subst (λ end. IfErr end (λ stop. is_before stop ≡ true)) (sym (is_err c.from_residual.ensures.1)) (stops_before c.in_err-model.field-0.0 c.in_err-model.ensures.other)

pub returns-in_err-report-clause-before : goal.returns-in_err-report-clause-before
returns-in_err-report-clause-before g c =
    subst (λ end. IfErr end (λ stop. is_before stop ≡ true)) (sym (is_err c.from_residual-in_err-report.ensures.1))
    (stops_before c.in_err-report.field-0.0 c.in_err-report.ensures.other)

pub returns-in_err-proof-clause-before : goal.returns-in_err-proof-clause-before
returns-in_err-proof-clause-before g c =
    subst (λ end. IfErr end (λ stop. is_before stop ≡ true)) (sym (is_err c.from_residual-in_err-proof.ensures.1))
    (stops_before c.in_err-proof.field-0.0 c.in_err-proof.ensures.other)

pub returns-in_err-model-clause-cannot_read : goal.returns-in_err-model-clause-cannot_read
returns-in_err-model-clause-cannot_read g c = λ kind e.
    let faults = g.F.Folder.seen c.args.files.now in
    blames_itself kinds.Model c.in_err-model.field-0.0 (names_seen c.args.opts.now) faults faults (g.F.Folder.seen c.read_whole.new.files) c.in_err-model.ensures.other
    (λ name. refl) (λ is. c.in_err-model.ensures.cannot_read (ap Err is)) kind (one_err (is_err c.from_residual.ensures.1) e)

pub returns-in_err-report-clause-cannot_read : goal.returns-in_err-report-clause-cannot_read
returns-in_err-report-clause-cannot_read g c = λ kind e.
    blames_itself kinds.Rows c.in_err-report.field-0.0 (names_seen c.args.opts.now) (g.F.Folder.seen c.args.files.now)
    (g.F.Folder.seen c.read_whole.new.files) (g.F.Folder.seen c.read_whole-2.new.files) c.in_err-report.ensures.other
    (c.in_ok-model.ensures.no_fault (λ e. cc)) (λ is. c.in_err-report.ensures.cannot_read (ap Err is)) kind (one_err (is_err c.from_residual-in_err-report.ensures.1) e)

pub returns-in_err-proof-clause-cannot_read : goal.returns-in_err-proof-clause-cannot_read
returns-in_err-proof-clause-cannot_read g c = λ kind e.
    blames_itself kinds.Proof c.in_err-proof.field-0.0 (names_seen c.args.opts.now) (g.F.Folder.seen c.args.files.now)
    (g.F.Folder.seen c.read_whole-2.new.files) (g.F.Folder.seen c.read_whole-3.new.files) c.in_err-proof.ensures.other
    (λ name. c.in_ok-report.ensures.no_fault (λ e. cc) name ∙ c.in_ok-model.ensures.no_fault (λ e. cc) name)
    (λ is. c.in_err-proof.ensures.cannot_read (ap Err is)) kind (one_err (is_err c.from_residual-in_err-proof.ensures.1) e)
