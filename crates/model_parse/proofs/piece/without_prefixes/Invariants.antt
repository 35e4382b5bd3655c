use Rattle.std.proofs.Common.{◌≡◌, ℕ, List, Bor, map, take}
use Rattle.model_parse.specs.believed.Values.{without_prefix}
use Rattle.model_parse.proofs.piece.without_prefixes.Given as goal

abbrev pub invariant-loop-part : goal.invariant-loop-part
invariant-loop-part l = map (λ (n : Bor (List ℕ)). n.now) l.names ≡ map (λ (part : Bor (List ℕ)). without_prefix l.prefix part.now) (take l.part-index l.parts)
