use Rattle.std.proofs.Common.{◌≡◌, ℕ, List, Bor, map, drop}
use Rattle.model_parse.specs.ValueSteps.{names_code}
use Rattle.model_parse.proofs.piece.names_code.Given as goal

abbrev pub invariant-loop-name : goal.invariant-loop-name
invariant-loop-name l = names_code l.prefix (map (λ (n : Bor (List ℕ)). n.now) l.names) ≡ names_code l.prefix (map (λ (n : Bor (List ℕ)). n.now) (drop l.name-index l.names))
