use Rattle.std.proofs.Common.{◌∙◌, sym, ap, subst}
use Rattle.cov_model.specs.Preference.{OrdersValues}
use Rattle.cov_model.specs.believed.Sound.{ModelView}
use Rattle.definitions.specs.believed.Completion.{preferred_values}
use Rattle.definitions.specs.SliceRows.{IsSliceOf}
use Rattle.feasibility.specs.Tree.{TreeView}
use Rattle.feasibility.proofs.solver.Solver.new.Goals as goal

pub invariant_of-result : goal.invariant_of-result
invariant_of-result c =
    let model = ap (λ (t : TreeView). t.model) c.in_ok-tree.ensures in (
      record {
        slice = subst (λ (w : ModelView). IsSliceOf w c.args.slice) (sym model) c.requires.slice;
        orders = subst (λ (w : ModelView). OrdersValues w c.args.prefs.now) (sym model) c.requires.orders;
        tried = ap (λ (t : TreeView). t.values) c.in_ok-tree.ensures ∙ ap (λ (w : ModelView). preferred_values w c.args.prefs.now c.args.slice) (sym model);
        room = c.in_ok-room.ensures.room;
        ready = c.in_ok-room.ensures.ready;
      },
      c.in_ok-room.ensures.answered,
      c.in_ok-room.ensures.kept,
    )
