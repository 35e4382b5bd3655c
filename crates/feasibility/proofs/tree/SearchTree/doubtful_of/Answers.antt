use Rattle.std.proofs.Common.{◌≡◌, ◌∙◌, ℕ, List, [], length, get_or, ap, arith}
use Rattle.std.proofs.lemmas.List.{get_or-map, length-map}
use Rattle.std.proofs.lemmas.List.FromFn.{length-map-range_with_len}
use Rattle.cov_model.specs.Sound.{rule_at}
use Rattle.feasibility.specs.Tree.{TreeView, all_doubtful, doubtful, doubtful_by, members}
use Rattle.feasibility.proofs.NarrowedSets.{doubts_at}
use Rattle.feasibility.proofs.tree.SearchTree.doubtful_of.Goals as goal

pub index-lists-requires : goal.index-lists-requires
index-lists-requires c =
    let m = c.args.self.now.model in
    let is : c.self.inside.doubtful.items ≡ all_doubtful m =
    c.self.invariant.doubtful ∙ ap (λ (tree : TreeView). all_doubtful tree.model) c.self.view_is in
    omega (
      arith,
      ap (λ (lists : List (List (List ℕ))). length lists) is,
      length-map-range_with_len (doubtful_by m) 1 (length m.rules),
      c.self.inside.doubtful.ok.0,
      c.requires.first,
      c.requires.last,
    )

pub list-requires : goal.list-requires
list-requires c =
    let m = c.args.self.now.model in
    let body = (rule_at m c.args.rule).body in
    let is : c.self.inside.doubtful.items ≡ all_doubtful m =
    c.self.invariant.doubtful ∙ ap (λ (tree : TreeView). all_doubtful tree.model) c.self.view_is in
    let at = doubts_at m c.args.rule c.self.inside.doubtful.items c.index-lists.result.now is c.requires.first c.requires.last c.index-lists.ensures in
    omega (arith, ap (λ (lists : List (List ℕ)). length lists) at, length-map (members (length m.params) body) (doubtful m body), c.requires.place)

pub returns : goal.returns
returns c =
    let m = c.args.self.now.model in
    let body = (rule_at m c.args.rule).body in
    let is : c.self.inside.doubtful.items ≡ all_doubtful m =
    c.self.invariant.doubtful ∙ ap (λ (tree : TreeView). all_doubtful tree.model) c.self.view_is in
    let at = doubts_at m c.args.rule c.self.inside.doubtful.items c.index-lists.result.now is c.requires.first c.requires.last c.index-lists.ensures in
    c.list.ensures ∙ ap (λ (lists : List (List ℕ)). get_or lists c.args.j []) at
    ∙ get_or-map (doubtful m body) (members (length m.params) body) c.args.j 0 [] c.requires.place
