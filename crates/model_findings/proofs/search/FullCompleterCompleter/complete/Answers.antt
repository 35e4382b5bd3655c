use Rattle.std.proofs.Common.{sym, ◌∙◌}
use Rattle.model_findings.proofs.FullAnswers.{full_completed, full_found}
use Rattle.model_findings.proofs.search.FullCompleterCompleter.complete.Goals as goal

pub returns-clause-found : goal.returns-clause-found
returns-clause-found c =
    c.is_yes.ensures
    ∙ full_found c.in_ok-questions.questions c.args.sought.now.model.now c.args.sought.now.prefs.now c.args.sought.now.slice c.args.cells.now c.complete.result
    c.in_ok-questions.ensures c.complete.ensures.answer

pub returns-clause-completed : goal.returns-clause-completed
returns-clause-completed c found =
    full_completed c.in_ok-questions.questions c.args.sought.now.model.now c.args.sought.now.prefs.now c.args.sought.now.slice c.args.cells.now c.complete.new.into c.complete.result
    c.in_ok-questions.ensures c.complete.ensures.completed (sym c.is_yes.ensures ∙ found)
