use Rattle.std.proofs.Common.{◌∙◌, sym, ap}
use Rattle.definitions.specs.believed.Search.{is_no}
use Rattle.compiled_rules.specs.Codes.{is_yes}
use Rattle.feasibility.proofs.Looking.{broken_stops, looked_holds}
use Rattle.feasibility.proofs.tree.SearchTree.look_at.Goals as goal

pub returns-in-Yes-clause-looked : goal.returns-in-Yes-clause-looked
returns-in-Yes-clause-looked c e =
    looked_holds c.args.self.now.model c.args.rule c.args.cells.now c.args.sets.now c.requires.shape c.requires.left
    (ap is_yes (sym c.truth.ensures ∙ c.in-Yes.is))

pub returns-in-No-clause-stops : goal.returns-in-No-clause-stops
returns-in-No-clause-stops c e =
    broken_stops c.args.self.now.model c.args.rule c.args.cells.now c.args.sets.now c.requires.first c.requires.last c.requires.shape
    (ap is_no (sym c.truth.ensures ∙ c.in-No.is))
