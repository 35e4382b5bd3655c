use Rattle.std.proofs.Common.{ap, subst, sym, ◌∙◌}
use Rattle.value_text.proofs.ListLemmas.{is_err}
use Rattle.jeldroft_files.specs.believed.Models.{opts_of}
use Rattle.jeldroft_check.specs.Steps.{Answers}
use Rattle.jeldroft_check.proofs.Verdicts.{holds_after, judged, no_proof, same_answer, same_judged}
use Rattle.jeldroft_check.proofs.judging.verdict_of.Goals as goal

pub returns-in_err-proof-clause-answers : goal.returns-in_err-proof-clause-answers
returns-in_err-proof-clause-answers g c = λ held holds.
    let first = g.F.Folder.seen c.args.files.now in
    let next = g.F.Folder.seen c.read_file.new.files in
    let later = holds_after first next c.args.args.now held c.read_file.ensures.files holds in
    let last = holds_after next (g.F.Folder.seen c.read_rows.new.files) c.args.args.now held c.read_rows.ensures.files later in
    subst (Answers c.args.args.now held) (sym (is_err c.from_residual-in_err-proof.ensures.1))
    (no_proof c.args.args.now held c.in_ok-model.model.items c.in_ok-table.table.tabs.items c.in_err-proof.field-0.0.cause
    (c.in_ok-model.ensures.reads held.model (ap first.files c.as_str.ensures.value ∙ holds.model))
    (c.in_ok-table.ensures.reads held.report later.report) (c.in_err-proof.ensures.reads held.proof last.proof))

pub returns-clause-answers : goal.returns-clause-answers
returns-clause-answers g c = λ held holds.
    let first = g.F.Folder.seen c.args.files.now in
    let next = g.F.Folder.seen c.read_file.new.files in
    let later = holds_after first next c.args.args.now held c.read_file.ensures.files holds in
    let last = holds_after next (g.F.Folder.seen c.read_rows.new.files) c.args.args.now held c.read_rows.ensures.files later in
    same_answer c.args.args.now held c.judge-end.result c.explained.result c.explained.ensures
    (judged c.args.args.now held c.in_ok-model.model.items c.in_ok-table.table.tabs.items c.in_ok-proof.proof.items c.judge-end.result
    (c.in_ok-model.ensures.reads held.model (ap first.files c.as_str.ensures.value ∙ holds.model))
    (c.in_ok-table.ensures.reads held.report later.report) (c.in_ok-proof.ensures.reads held.proof last.proof)
    (same_judged (opts_of c.args.args.now.model c.args.args.now.strength) c.judge-end.result c.as_slice.ensures.value c.as_slice-2.ensures.value c.as_slice-3.ensures.value c.judge-end.ensures))
