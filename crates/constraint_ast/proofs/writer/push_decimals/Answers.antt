use Rattle.std.proofs.Common.{arith}
use Rattle.std.specs.String.{string_bytes}
use Rattle.constraint_ast.proofs.Decimals.{decimal_written}
use Rattle.constraint_ast.proofs.writer.push_decimals.Goals as goal

pub loop-left-preserved : goal.loop-left-preserved
loop-left-preserved c =
    decimal_written (string_bytes c.args.out.now) (string_bytes c.loop-left.out)
    (string_bytes c.push_digit.new.out) c.args.fraction c.loop-left.places c.loop-left.left c.pow-unit.result c.loop-left.invariant
    (omega arith) c.pow-unit.ensures c.in_ok-push_digit.ensures
