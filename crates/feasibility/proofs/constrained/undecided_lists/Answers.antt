use Rattle.std.proofs.Common.{ℕ, ◌<◌, length, ◌++◌, ◌∷◌, ◌∙◌, [], Some, None, get_or, set, sym, ap, subst, map, zero-add}
use Rattle.std.specs.List.{range_with_len}
use Rattle.std.proofs.lemmas.List.{length-set}
use Rattle.std.proofs.lemmas.List.FromFn.{map-range_with_len_more}
use Rattle.value_text.proofs.ListLemmas.{none_at}
use Rattle.cov_model.specs.believed.Sound.{ModelView}
use Rattle.feasibility.specs.Live.{AreRules}
use Rattle.feasibility.specs.Tree.{naming, undecided, undecided_on}
use Rattle.feasibility.proofs.Naming.{naming_exist}
use Rattle.feasibility.proofs.Nodes.{length-none, set_clear}
use Rattle.feasibility.proofs.constrained.undecided_lists.Goals as goal

pub undecided_on-requires-clause-exist : goal.undecided_on-requires-clause-exist
undecided_on-requires-clause-exist c = subst (AreRules c.args.rules.now) (sym c.requires.named) (naming_exist c.args.rules.now c.args.p c.model.ensures.sound)

pub value_count-count-requires : goal.value_count-count-requires
value_count-count-requires c = subst (λ (m : ModelView). c.args.p < length m.params) (sym c.model.ensures.value) c.requires.parameter

pub set_cell-requires : goal.set_cell-requires
set_cell-requires c =
    subst (λ (n : ℕ). c.args.p < n) (sym (length-none c.args.rules.now c.loop-v.cells (c.loop-v.invariant.cells ∙ c.requires.none))) c.requires.parameter

pub clear_cell-requires : goal.clear_cell-requires
clear_cell-requires c = subst (λ (n : ℕ). c.args.p < n)
    (sym (ap length c.set_cell.ensures ∙ length-set c.loop-v.cells c.args.p (Some c.loop-v.v)
    ∙ length-none c.args.rules.now c.loop-v.cells (c.loop-v.invariant.cells ∙ c.requires.none)))
    c.requires.parameter

pub loop-v-preserved : goal.loop-v-preserved
loop-v-preserved c =
    let m = c.args.rules.now in
    let list = c.in_ok-list.ensures ∙ ap (λ numbers. undecided_on m numbers c.set_cell.new.self) c.requires.named
    ∙ ap (undecided_on m (naming m c.args.p)) (c.set_cell.ensures
    ∙ ap (λ cells. set cells c.args.p (Some c.loop-v.v)) (c.loop-v.invariant.cells ∙ c.requires.none)) in
    record {
      count = c.loop-v.invariant.count;
      cells = c.clear_cell.ensures ∙ ap (λ cells. set cells c.args.p None) c.set_cell.ensures
          ∙ set_clear c.loop-v.cells c.args.p c.loop-v.v (ap (λ cells. get_or cells c.args.p None) (c.loop-v.invariant.cells ∙ c.requires.none)
          ∙ none_at _ c.args.p) ∙ c.loop-v.invariant.cells;
      lists = c.in_ok-put_list.ensures ∙ ap (λ lists. lists ++ c.in_ok-list.list.items ∷ []) c.loop-v.invariant.lists
          ∙ ap (λ numbers. map (undecided m c.args.p) (range_with_len 0 c.loop-v.v) ++ numbers ∷ []) list
          ∙ sym (map-range_with_len_more (undecided m c.args.p) 0 c.loop-v.v c.loop-v.v (zero-add c.loop-v.v));
    }
