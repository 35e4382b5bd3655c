use Rattle.std.proofs.Common.{arith}
use Rattle.bit_table.proofs.FromLemmas.{across_high, across_low}
use Rattle.bit_table.proofs.table.across.Goals as goal

pub returns-clause-below : goal.returns-clause-below
returns-clause-below c = λ i small. across_low c.args.low c.args.high c.args.bit i c.requires.within small

pub returns-clause-above : goal.returns-clause-above
returns-clause-above c = λ i far small. across_high c.args.low c.args.high c.args.bit i (omega (arith, c.ranges.low.fits)) c.requires.within far small
