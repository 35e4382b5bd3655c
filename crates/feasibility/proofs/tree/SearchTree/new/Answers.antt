use Rattle.std.proofs.Common.{◌∙◌, ◌<◌, List, [], All, IfSome, length, get_or, sym, ap, subst}
use Rattle.feasibility.specs.SafeValues.{AreSafe}
use Rattle.feasibility.specs.Tree.{ListsValues, all_members}
use Rattle.feasibility.specs.declared.constrained.Constrained.{Constrained}
use Rattle.feasibility.proofs.Extendable.{preferred_are_values}
use Rattle.feasibility.proofs.SafeValues.{constrained_listed, undecided_listed}
use Rattle.feasibility.proofs.tree.SearchTree.new.Goals as goal

pub most_nodes-most-requires-clause-listed : goal.most_nodes-most-requires-clause-listed
most_nodes-most-requires-clause-listed c =
    subst (All (λ (named : Constrained). named.param < length c.in_ok-values.values)) (sym (c.as_slice.ensures.value ∙ c.in_ok-constrained.ensures))
    (constrained_listed c.in_ok-rules.rules c.in_ok-values.values
    (subst (λ m. ListsValues m c.in_ok-values.values) (sym c.in_ok-rules.ensures)
    (subst (ListsValues c.args.model.now) (sym c.in_ok-values.ensures)
    (preferred_are_values c.args.model.now c.args.prefs.now c.args.slice c.requires.slice))))

pub most_nodes-most-requires-clause-exist : goal.most_nodes-most-requires-clause-exist
most_nodes-most-requires-clause-exist c =
    subst (All (λ (named : Constrained). All (λ v. v < length named.undecided) (get_or c.in_ok-values.values named.param []))) (sym (c.as_slice.ensures.value ∙ c.in_ok-constrained.ensures))
    (undecided_listed c.in_ok-rules.rules c.in_ok-values.values
    (subst (λ m. ListsValues m c.in_ok-values.values) (sym c.in_ok-rules.ensures)
    (subst (ListsValues c.args.model.now) (sym c.in_ok-values.ensures)
    (preferred_are_values c.args.model.now c.args.prefs.now c.args.slice c.requires.slice))))

pub invariant_of-result : goal.invariant_of-result
invariant_of-result c = record {
  values = subst (λ m. ListsValues m c.in_ok-values.values) (sym c.in_ok-rules.ensures)
      (subst (ListsValues c.args.model.now) (sym c.in_ok-values.ensures)
      (preferred_are_values c.args.model.now c.args.prefs.now c.args.slice c.requires.slice));
  members = c.in_ok-members.ensures ∙ ap all_members (sym c.in_ok-rules.ensures);
  doubtful = c.in_ok-doubtful.ensures;
  constrained = c.in_ok-constrained.ensures;
  safe = subst (λ (entries : List Constrained). IfSome c.most_nodes-most.result (AreSafe entries c.in_ok-values.values)) c.as_slice.ensures.value
      c.most_nodes-most.ensures;
}
