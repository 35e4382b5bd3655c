use Rattle.std.proofs.Common.{◌≡◌, ℕ, List, Bor, map, take}
use Rattle.model_parse.proofs.piece.borrowed.Given as goal

abbrev pub invariant-loop-text : goal.invariant-loop-text
invariant-loop-text l = map (λ (n : Bor (List ℕ)). n.now) l.names ≡ map (λ t. t) (take l.text-index l.texts)
