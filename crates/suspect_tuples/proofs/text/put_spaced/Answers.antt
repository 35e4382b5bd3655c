use Rattle.std.proofs.Common.{ap, refl, get_or, ◌∷◌, arith}
use Rattle.std.specs.List.{flat_map}
use Rattle.std.proofs.lemmas.List.{take_all}
use Rattle.definitions.specs.believed.Pairs.{pair_text}
use Rattle.row_text.proofs.Sending.{Adds-then, Adds-same}
use Rattle.suspect_tuples.proofs.TextSteps.{pieces_more}
use Rattle.suspect_tuples.proofs.text.put_spaced.Goals as goal

pub loop-pair-preserved : goal.loop-pair-preserved
loop-pair-preserved g c =
    let pair = get_or c.args.pairs.now c.loop-pair.pair-index (0, 0) in
    Adds-same (pieces_more (λ pair. 32 ∷ pair_text pair) c.args.pairs.now c.loop-pair.pair-index (0, 0) (32 ∷ pair_text pair) c.loop-pair-test.true refl)
    (Adds-then c.loop-pair.invariant (Adds-then c.add.ensures c.put_pair.ensures))

pub returns : goal.returns
returns g c =
    Adds-same (ap (flat_map (λ pair. 32 ∷ pair_text pair)) (take_all c.loop-pair.pair-index c.args.pairs.now (omega arith))) c.loop-pair.invariant
