use Rattle.std.proofs.Common.{◌∷◌, ◌∙◌, [], take, get_or, sym, ap, subst}
use Rattle.std.proofs.lemmas.List.{take_all, take_more}
use Rattle.cov_model.specs.Sound.{rule_at}
use Rattle.feasibility.specs.Live.{NarrowedBy}
use Rattle.feasibility.specs.Tree.{doubtful}
use Rattle.feasibility.proofs.NarrowedSets.{doubtful_exist, narrowed_all, narrowed_more}
use Rattle.feasibility.proofs.tree.SearchTree.narrow.Goals as goal

pub narrow_value-requires-clause-value : goal.narrow_value-requires-clause-value
narrow_value-requires-clause-value c =
    let m = c.args.self.now.model in
    doubtful_exist m (rule_at m c.args.rule).body c.args.q c.loop-w.w-index c.doubtful_of-w-items.result.now
    (c.doubtful_of-w-items.ensures ∙ ap (doubtful m (rule_at m c.args.rule).body) (sym c.requires.named)) c.loop-w-test.true

pub loop-w-preserved : goal.loop-w-preserved
loop-w-preserved c =
    let m = c.args.self.now.model in
    let items = c.doubtful_of-w-items.result.now in
    let w = get_or items c.loop-w.w-index 0 in
    record {
      cells = c.narrow_value.ensures.same ∙ c.loop-w.invariant.cells;
      by = subst (λ list. NarrowedBy m c.args.rule c.args.q list c.args.cells.now c.args.sets.now c.narrow_value.new.sets)
          (sym (take_more items c.loop-w.w-index 0 c.loop-w-test.true))
          (narrowed_more m c.args.rule c.args.q (take c.loop-w.w-index items) (w ∷ []) c.args.cells.now c.args.sets.now c.loop-w.sets
          c.narrow_value.new.sets c.loop-w.invariant.by
          (subst (λ cells. NarrowedBy m c.args.rule c.args.q (w ∷ []) cells c.loop-w.sets c.narrow_value.new.sets) c.loop-w.invariant.cells
          c.narrow_value.ensures.narrowed));
    }

pub returns-clause-narrowed : goal.returns-clause-narrowed
returns-clause-narrowed c =
    let m = c.args.self.now.model in
    let items = c.doubtful_of-w-items.result.now in
    narrowed_all m c.args.rule c.args.q (take c.loop-w.w-index items) c.args.cells.now c.args.sets.now c.loop-w.sets c.requires.fits.as_long
    c.requires.parameter
    (take_all c.loop-w.w-index items c.loop-w-test.false ∙ c.doubtful_of-w-items.ensures
    ∙ ap (doubtful m (rule_at m c.args.rule).body) (sym c.requires.named)) c.loop-w.invariant.by
