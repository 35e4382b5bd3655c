use Rattle.std.proofs.Common.{◌∷◌, take}
use Rattle.std.specs.List.{flat_map}
use Rattle.definitions.specs.believed.Pairs.{pair_text}
use Rattle.row_text.specs.Buffering.{Adds}
use Rattle.suspect_tuples.proofs.text.put_spaced.Given as goal

abbrev pub invariant-loop-pair : goal.invariant-loop-pair
invariant-loop-pair g l =
    let state = g.O.Sink.seen in
    Adds l.fn.lines (state l.fn.out) l.lines (state l.out) (flat_map (λ pair. 32 ∷ pair_text pair) (take l.pair-index l.pairs))
