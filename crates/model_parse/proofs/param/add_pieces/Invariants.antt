use Rattle.std.proofs.Common.{◌≡◌, ℕ, List, Bor, map, drop}
use Rattle.model_parse.specs.Steps.{and_each}
use Rattle.model_parse.specs.ValueSteps.{add_piece}
use Rattle.model_parse.proofs.param.add_pieces.Given as goal

abbrev pub invariant-loop-piece : goal.invariant-loop-piece
invariant-loop-piece l =
    and_each (add_piece l.opts l.line l.params l.known) l.read (map (λ (n : Bor (List ℕ)). n.now) (drop l.piece-index l.pieces))
    ≡ and_each (add_piece l.opts l.line l.params l.known) l.initial.read (map (λ (n : Bor (List ℕ)). n.now) l.pieces)
