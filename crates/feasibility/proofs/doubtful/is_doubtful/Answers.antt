use Rattle.std.proofs.Common.{ℕ, ◌<◌, ◌∙◌, Some, None, not, get_or, set, length, is_some, sym, ap, subst}
use Rattle.std.proofs.lemmas.Bool.{false≢true}
use Rattle.std.proofs.lemmas.List.{length-replicate, length-set}
use Rattle.value_text.proofs.ListLemmas.{none_at}
use Rattle.compiled_rules.specs.Codes.{is_yes}
use Rattle.cov_model.specs.Fits.{FitsModel}
use Rattle.cov_model.specs.believed.Kleene.{body_truth}
use Rattle.cov_model.specs.believed.Sound.{ModelView}
use Rattle.cov_model.specs.Sound.{rule_at}
use Rattle.feasibility.specs.Tree.{no_values}
use Rattle.feasibility.proofs.Nodes.{FitsModel-with_value, length-none, set_clear}
use Rattle.feasibility.proofs.doubtful.is_doubtful.Goals as goal

none_fits : (m : ModelView) → FitsModel m (no_values m)
none_fits m = record {
  as_long = length-replicate (length m.params) None;
  exist = λ p given. absurd (false≢true (ap is_some (sym (none_at (length m.params) p)) ∙ given));
}

pub set_cell-requires : goal.set_cell-requires
set_cell-requires c = subst (λ (n : ℕ). c.args.q < n) (sym (length-none c.args.rules.now c.args.cells.now c.requires.none)) c.requires.parameter

pub holds-decided-requires-clause-fits : goal.holds-decided-requires-clause-fits
holds-decided-requires-clause-fits c =
    let m = c.args.rules.now in
    subst (FitsModel m) (sym (c.set_cell.ensures ∙ ap (λ cells. set cells c.args.q (Some c.args.w)) c.requires.none))
    (FitsModel-with_value m (no_values m) c.args.q c.args.w (none_fits m) c.requires.parameter c.requires.value)

pub clear_cell-requires : goal.clear_cell-requires
clear_cell-requires c = subst (λ (n : ℕ). c.args.q < n)
    (sym (ap length c.set_cell.ensures ∙ length-set c.args.cells.now c.args.q (Some c.args.w) ∙ length-none c.args.rules.now c.args.cells.now c.requires.none))
    c.requires.parameter

pub returns-clause-doubtful : goal.returns-clause-doubtful
returns-clause-doubtful c =
    let m = c.args.rules.now in
    ap not (c.holds-decided.ensures ∙ ap (λ cells. is_yes (body_truth m (rule_at m c.args.rule).body cells))
    (c.set_cell.ensures ∙ ap (λ cells. set cells c.args.q (Some c.args.w)) c.requires.none))

pub returns-clause-same : goal.returns-clause-same
returns-clause-same c = c.clear_cell.ensures ∙ ap (λ cells. set cells c.args.q None) c.set_cell.ensures
    ∙ set_clear c.args.cells.now c.args.q c.args.w (ap (λ cells. get_or cells c.args.q None) c.requires.none ∙ none_at _ c.args.q)
