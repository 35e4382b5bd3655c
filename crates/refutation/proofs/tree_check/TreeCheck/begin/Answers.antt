use Rattle.std.proofs.Common.{◌≡◌, length, ◌∙◌, ap, sym, subst}
use Rattle.cov_model.specs.Fits.{FitsModel}
use Rattle.cov_model.specs.believed.Rows.{contains}
use Rattle.cov_model.proofs.CellLemmas.{contains-refl}
use Rattle.cov_model.specs.believed.Tuples.{cells_of}
use Rattle.definitions.specs.believed.Refutation.{is_negative_leaf}
use Rattle.refutation.specs.Checking.{tuple_in}
use Rattle.refutation.proofs.LeafLemmas.{negative_leaf-start}
use Rattle.refutation.proofs.PairLemmas.{FitsModel-cells_of}
use Rattle.refutation.proofs.tree_check.TreeCheck.begin.Goals as goal

-- the cells are the tuple in the end
is_tuple : (c : goal.After-copy_tuple) → c.copy_tuple.new.self ≡ tuple_in c.args.self.now
is_tuple c =
    c.copy_tuple.ensures ∙ ap (λ n. cells_of n c.tuple.result.now) c.requires
    ∙ ap (cells_of (length c.args.self.now.model.params)) c.tuple.ensures.value

pub returns-clause-fits : goal.returns-clause-fits
returns-clause-fits c =
    subst (FitsModel c.args.self.now.model) (sym (is_tuple c)) (FitsModel-cells_of c.args.self.now.model c.args.self.now.tuple c.tuple.ensures.of_model)

pub returns-clause-part : goal.returns-clause-part
returns-clause-part c = ap (λ path. contains path (tuple_in c.args.self.now)) (is_tuple c) ∙ contains-refl (tuple_in c.args.self.now)

pub returns-clause-outside : goal.returns-clause-outside
returns-clause-outside c =
    ap (is_negative_leaf c.args.self.now.model (tuple_in c.args.self.now)) (is_tuple c) ∙ negative_leaf-start c.args.self.now.model (tuple_in c.args.self.now)
