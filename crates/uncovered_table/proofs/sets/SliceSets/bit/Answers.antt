use Rattle.std.proofs.Common.{arith}
use Rattle.uncovered_table.proofs.PlaceLemmas.{place_exists}
use Rattle.uncovered_table.proofs.TableLemmas.{BlockBit, block_bit}
use Rattle.uncovered_table.proofs.sets.SliceSets.bit.Goals as goal

pub block-block-requires : goal.block-block-requires
block-block-requires c = place_exists c.args.self.now.model c.args.self.now.slice (c.args.set, c.args.rank) c.requires

known : (c : goal.After-struct_known-1) → BlockBit c.args.self.now.model c.args.self.now.slice c.args.set c.args.rank c.block-block.result
known c =
    block_bit c.args.self.now.model c.args.self.now.slice c.args.set c.args.rank c.block-block.result c.assert_invariant.ensures.kept
    c.assert_invariant.ensures.own c.block-block.ensures c.requires

pub overflow_sub-result : goal.overflow_sub-result
overflow_sub-result c = (known c).least

also : (c : goal.After-struct_known-2-1) → BlockBit c.args.self.now.model c.args.self.now.slice c.args.set c.args.rank c.block-block.result
also c =
    block_bit c.args.self.now.model c.args.self.now.slice c.args.set c.args.rank c.block-block.result c.assert_invariant.ensures.kept
    c.assert_invariant.ensures.own c.block-block.ensures c.requires

pub overflow_add-result : goal.overflow_add-result
overflow_add-result c = let b = also c in omega (arith, b.within, b.few)

pub returns-clause-value : goal.returns-clause-value
returns-clause-value c = (also c).value

pub returns-clause-within : goal.returns-clause-within
returns-clause-within c = (also c).within
