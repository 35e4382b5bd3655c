use Rattle.std.proofs.Common.{◌<◌, length, ap, arith}
use Rattle.definitions.specs.believed.Search.{constrained_params}
use Rattle.feasibility.proofs.Naming.{constrained_exists}
use Rattle.feasibility.proofs.Recurring.{agree_listed}
use Rattle.feasibility.proofs.tree.SearchTree.agree_on_named.Goals as goal

pub get-requires : goal.get-requires
get-requires c =
    let within : c.loop-i.i < length (constrained_params c.args.self.now.model) = omega (arith, c.loop-i.invariant.count) in
    omega (arith, constrained_exists c.args.self.now.model c.loop-i.i within, ap (λ entry. entry.param) c.constrained_at.ensures, c.requires.long)

pub get-requires-in-loop-i : goal.get-requires-in-loop-i
get-requires-in-loop-i c =
    let within : c.loop-i.i < length (constrained_params c.args.self.now.model) = omega (arith, c.loop-i.invariant.count) in
    omega (arith, constrained_exists c.args.self.now.model c.loop-i.i within, ap (λ entry. entry.param) c.constrained_at.ensures, c.requires.also)

pub returns : goal.returns
returns c e =
    agree_listed c.args.self.now.model c.args.cells.now c.args.others.now c.requires.long c.requires.also
    (λ j low. c.loop-i.invariant.same j (omega (arith, low, c.loop-i.invariant.count)))
