use Rattle.std.proofs.Common.{◌≡◌, ℕ, List, [], Bor, map, drop}
use Rattle.model_parse.specs.ValueSteps.{keep_names}
use Rattle.model_parse.proofs.piece.keep_names.Given as goal

abbrev pub invariant-loop-name : goal.invariant-loop-name
invariant-loop-name l =
    keep_names l.fold l.line (record { names = l.own; known = l.known; notes = l.notes }) (map (λ (n : Bor (List ℕ)). n.now) (drop l.name-index l.names))
    ≡ keep_names l.fold l.line (record { names = []; known = l.fn.known; notes = l.fn.notes }) (map (λ (n : Bor (List ℕ)). n.now) l.names)
