use Rattle.std.proofs.Common.{◌||◌, not, ◌∙◌, sym, ap, subst}
use Rattle.std.specs.List.{list_all}
use Rattle.cov_model.specs.believed.Meaning.{value_at}
use Rattle.cov_model.specs.Tuples.{IsRising}
use Rattle.refutation.specs.Checking.{has_param}
use Rattle.refutation.proofs.LeafLemmas.{negatives_in}
use Rattle.refutation.proofs.tree_check.TreeCheck.has_negatives.Goals as goal

pub returns : goal.returns
returns c =
    let m = c.args.self.now.model in
    c.are_in.ensures
    ∙ ap (λ pairs. list_all (λ pair. not (value_at m pair.0 pair.1).negative || has_param c.args.other.now pair.0) pairs)
    (c.as_slice.ensures.value ∙ c.tuple.ensures.value)
    ∙ sym (negatives_in m c.args.self.now.tuple c.args.other.now c.tuple.ensures.of_model c.requires (subst IsRising c.tuple.ensures.value c.as_slice.ensures.rising))
