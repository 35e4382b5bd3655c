use Rattle.std.proofs.Common.{◌+◌, ◌*◌, ◌<◌, length, ap, arith}
use Rattle.std.proofs.Math.Nat.{mul-pos}
use Rattle.definitions.specs.believed.Search.{constrained_params}
use Rattle.feasibility.proofs.Naming.{constrained_exists}
use Rattle.feasibility.proofs.workspace.kinds_of_questions.Goals as goal

pub loop-i-init : goal.loop-i-init
loop-i-init c = (c.constrained_len-count.ensures, omega arith)

pub count_of-requires : goal.count_of-requires
count_of-requires c =
    let within : c.loop-i.i < length (constrained_params c.args.tree.now.model) = omega (arith, c.loop-i.invariant.0) in
    omega (arith, constrained_exists c.args.tree.now.model c.loop-i.i within, ap (λ entry. entry.param) c.constrained_at.ensures)

pub loop-i-preserved : goal.loop-i-preserved
loop-i-preserved c =
    let more : 0 < c.count_of.result + 1 = omega arith in
    let some : 0 < c.loop-i.kinds * (c.count_of.result + 1) = mul-pos c.loop-i.invariant.1 more in
    (c.loop-i.invariant.0, omega (arith, c.saturating_mul-kinds.ensures, some))

pub returns : goal.returns
returns c = c.loop-i.invariant.1
