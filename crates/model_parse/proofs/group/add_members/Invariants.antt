use Rattle.std.proofs.Common.{◌≡◌, ℕ, List, [], Bor, map, drop}
use Rattle.model_parse.specs.Steps.{and_each}
use Rattle.model_parse.specs.GroupSteps.{add_member}
use Rattle.model_parse.proofs.group.add_members.Given as goal

abbrev pub invariant-loop-piece : goal.invariant-loop-piece
invariant-loop-piece l =
    and_each (add_member l.fold l.known l.line) l.members (map (λ (n : Bor (List ℕ)). n.now) (drop l.piece-index l.pieces))
    ≡ and_each (add_member l.fold l.known l.line) [] (map (λ (n : Bor (List ℕ)). n.now) l.pieces)
