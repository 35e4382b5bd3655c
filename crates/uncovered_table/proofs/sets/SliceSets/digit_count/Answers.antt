use Rattle.std.proofs.Common.{◌≡◌, ◌+◌, add-one, ap, arith}
use Rattle.uncovered_table.specs.Masks.{begin_at}
use Rattle.uncovered_table.specs.Pairs.{digit_count}
use Rattle.uncovered_table.proofs.sets.SliceSets.digit_count.Goals as goal

pub overflow_sub-result : goal.overflow_sub-result
overflow_sub-result c =
    let v = c.args.self.now in
    let count = digit_count v.model v.slice in
    let begin = c.requires.begins.each c.args.p 0 (let less = c.requires.param in omega (arith, less)) in
    let end = c.requires.begins.each (c.args.p + 1) 0 (let less = c.requires.param in omega (arith, less)) in
    let next : begin_at count (c.args.p + 1) ≡ begin_at count c.args.p + count c.args.p = ap (begin_at count) (add-one c.args.p) in
    omega (arith, begin, end, next)

pub returns : goal.returns
returns c =
    let v = c.args.self.now in
    let count = digit_count v.model v.slice in
    let begin = c.requires.begins.each c.args.p 0 (let less = c.requires.param in omega (arith, less)) in
    let end = c.requires.begins.each (c.args.p + 1) 0 (let less = c.requires.param in omega (arith, less)) in
    let next : begin_at count (c.args.p + 1) ≡ begin_at count c.args.p + count c.args.p = ap (begin_at count) (add-one c.args.p) in
    omega (arith, begin, end, next)
