use Rattle.std.proofs.Common.{arith}
use Rattle.uncovered_table.proofs.words.set_bits.Goals as goal

pub returns-clause-outside : goal.returns-clause-outside
returns-clause-outside c =
    λ k out.
    c.loop-place.invariant.outside k
    (λ least less. (let most = c.loop-place.invariant.some (omega (arith, least, less)) in out least (omega (arith, less, most))))
