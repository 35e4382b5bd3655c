use Rattle.std.proofs.Common.{◌∷◌, ◌++◌, ◌∙◌, [], ap, sym, map, filter}
use Rattle.feasibility.specs.Tree.{is_named, undecided_by}
use Rattle.feasibility.proofs.Naming.{map_filter_more}
use Rattle.feasibility.proofs.constrained.constrained_params.Goals as goal

pub loop-p-preserved : goal.loop-p-preserved
loop-p-preserved c =
    let m = c.args.rules.now in
    record {
      count = c.loop-p.invariant.count;
      cells = c.in_ok-put_named.ensures.same ∙ c.loop-p.invariant.cells;
      list = c.in_ok-put_named.ensures.list ∙ ap (λ list. list ++ map (undecided_by m) (filter (is_named m) (c.loop-p.p ∷ []))) c.loop-p.invariant.list
          ∙ sym (map_filter_more (undecided_by m) (is_named m) c.loop-p.p);
    }
