use Rattle.std.proofs.Common.{◌≡◌, [], drop, map}
use Rattle.std.specs.List.{flat_map}
use Rattle.refutation.specs.Proofs.{meant}
use Rattle.model_words.specs.believed.Explanations.{omission_of, with_numbers}
use Rattle.model_words.proofs.explanation.omissions_of.Given as goal

-- the numbers of the tokens that are left, added to those so far, are those of all
abbrev pub invariant-loop-token : goal.invariant-loop-token
invariant-loop-token l = with_numbers l.rising.items (flat_map omission_of (map meant (drop l.token-index l.tree))) ≡ with_numbers [] (flat_map omission_of (map meant l.tree))
