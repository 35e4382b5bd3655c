use Rattle.std.proofs.Common.{◌<◌, length, sym, ap, ◌∙◌, subst}
use Rattle.std.specs.Prelude.{is_some, unwrap_or}
use Rattle.std.proofs.lemmas.Bool.{false≢true}
use Rattle.cov_model.specs.believed.Sound.{param_at}
use Rattle.cov_model.proofs.RowLemmas.{FitsModel-is_row, row_is_assigned}
use Rattle.row_text.proofs.report.number_given.Goals as goal

pub unreachable-requires : goal.unreachable-requires
unreachable-requires c =
    let assigned = row_is_assigned c.args.model.now c.args.row.now c.args.place c.requires.row c.requires.place in
    absurd (false≢true (sym (ap is_some c.in_default.is) ∙ assigned))

pub returns-clause-exists : goal.returns-clause-exists
returns-clause-exists c =
    let m = c.args.model.now in
    let assigned = row_is_assigned m c.args.row.now c.args.place c.requires.row c.requires.place in
    subst (λ v. v < length (param_at m.params c.args.place).values) (ap (λ o. unwrap_or o 0) c.in-Some.is)
    ((FitsModel-is_row m c.args.row.now c.requires.row).exist c.args.place assigned)
