use Rattle.std.proofs.Common.{◌<◌, length, ap, arith}
use Rattle.definitions.specs.believed.Search.{constrained_params}
use Rattle.feasibility.proofs.Naming.{constrained_exists}
use Rattle.feasibility.proofs.tree.SearchTree.place_of.Goals as goal

pub get-requires : goal.get-requires
get-requires c =
    let within : c.loop-i.i < length (constrained_params c.args.self.now.model) = omega (arith, c.loop-i.invariant) in
    omega (arith, constrained_exists c.args.self.now.model c.loop-i.i within, ap (λ entry. entry.param) c.constrained_at-named.ensures, c.requires)
