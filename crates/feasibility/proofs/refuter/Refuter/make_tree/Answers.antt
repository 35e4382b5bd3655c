use Rattle.std.proofs.Common.{◌∷◌, ◌∙◌, [], true, sym, ap, subst}
use Rattle.definitions.specs.believed.Search.{constrained_params, visit}
use Rattle.refutation.specs.believed.Proofs.{format_of}
use Rattle.feasibility.specs.KeptTrees.{IsKeptTree, IsTreeFor}
use Rattle.feasibility.specs.Refuting.{Closes, IsPath}
use Rattle.feasibility.proofs.KeptTrees.{tree_is_kept, tree_made}
use Rattle.feasibility.proofs.Paths.{tuple_path}
use Rattle.feasibility.proofs.refuter.Refuter.make_tree.Goals as goal

pub close_tuple-requires-clause-path : goal.close_tuple-requires-clause-path
close_tuple-requires-clause-path c = subst (IsPath c.args.self.now) (sym c.requires.tuple) (tuple_path c.args.self.now c.requires.fits)

pub returns-in_ok-keep-in-One-clause-tree : goal.returns-in_ok-keep-in-One-clause-tree
returns-in_ok-keep-in-One-clause-tree c =
    let r = c.args.self.now in
    let closes = subst (λ cells. Closes r (cells ∷ []) (visit r.model r.lists (constrained_params r.model) cells).cost [] c.close_tuple.new.tokens)
    c.requires.tuple
    (subst (λ old. Closes r (c.args.cells.now ∷ []) (visit r.model r.lists (constrained_params r.model) c.args.cells.now).cost old c.close_tuple.new.tokens)
    c.new-tokens.ensures c.in_ok-close_tuple.ensures.closes) in
    subst (IsTreeFor r) (sym c.in_ok-tree-in-One.ensures) (tree_made r c.close_tuple.new.tokens closes)

pub returns-in_ok-keep-in-One-clause-kept : goal.returns-in_ok-keep-in-One-clause-kept
returns-in_ok-keep-in-One-clause-kept c =
    let r = c.args.self.now in
    let closes = subst (λ cells. Closes r (cells ∷ []) (visit r.model r.lists (constrained_params r.model) cells).cost [] c.close_tuple.new.tokens)
    c.requires.tuple
    (subst (λ old. Closes r (c.args.cells.now ∷ []) (visit r.model r.lists (constrained_params r.model) c.args.cells.now).cost old c.close_tuple.new.tokens)
    c.new-tokens.ensures c.in_ok-close_tuple.ensures.closes) in
    let made = subst (IsTreeFor r) (sym c.in_ok-tree-in-One.ensures) (tree_made r c.close_tuple.new.tokens closes) in
    subst (IsKeptTree r.model r.lists) (sym c.in_ok-keep-in-One.ensures.ok)
    (tree_is_kept r (record { known = true; cells = c.close_tuple.new.cells; tree = c.in_ok-tree-in-One.tree }) c.requires.fits.as_long
    (c.omissions.ensures.format ∙ ap format_of (sym c.form.ensures ∙ c.in-One.is)) made (c.close_tuple.ensures.cells ∙ c.requires.tuple))

pub returns-in-Two-clause-tree : goal.returns-in-Two-clause-tree
returns-in-Two-clause-tree c =
    let r = c.args.self.now in
    let closes = subst (λ cells. Closes r (cells ∷ []) (visit r.model r.lists (constrained_params r.model) cells).cost [] c.close_tuple.new.tokens)
    c.requires.tuple
    (subst (λ old. Closes r (c.args.cells.now ∷ []) (visit r.model r.lists (constrained_params r.model) c.args.cells.now).cost old c.close_tuple.new.tokens)
    c.new-tokens.ensures c.in_ok-close_tuple.ensures.closes) in
    tree_made r c.close_tuple.new.tokens closes
