use Rattle.std.proofs.Common.{◌∙◌, arith}
use Rattle.std.proofs.lemmas.List.{get_or_default}
use Rattle.definitions.specs.believed.Search.{constrained_params}
use Rattle.definitions.proofs.Members.{contains_member, of_among}
use Rattle.full_search.proofs.branching.place_of.Goals as goal

pub returns-clause-there : goal.returns-clause-there
returns-clause-there c =
    let params = constrained_params c.args.tree.now.model in
    let at = contains_member params c.args.p (of_among params c.args.p c.requires) in
    absurd (c.loop-i.invariant.away at.0 (omega (arith, at.1, c.loop-i.invariant.count, c.loop-i-test.false))
    (get_or_default params at.0 0 c.args.p at.1 ∙ at.2))
