use Rattle.std.proofs.Common.{◌≡◌, true, take}
use Rattle.std.specs.List.{list_all}
use Rattle.refutation.specs.Proofs.{meant}
use Rattle.feasibility.specs.KeptTrees.{is_free}
use Rattle.feasibility.proofs.kept_tree.KeptTree.branches_freely.Given as goal

abbrev pub invariant-loop-token : goal.invariant-loop-token
invariant-loop-token l = list_all (λ token. is_free l.cells (meant token)) (take l.token-index l.token-items) ≡ true
