use Rattle.std.proofs.Common.{◌≡◌, true, false, arith, rules, get_or}
use Rattle.std.proofs.lemmas.Grind.{common_steps}
use Rattle.model_lint.proofs.ThinMarks.{thin_marked}
use Rattle.model_lint.proofs.conflict.Gathering.thin_at.Goals as goal

pub returns-clause-thin : goal.returns-clause-thin
returns-clause-thin g c =
    let marked : get_or c.args.marks.now c.args.i false ≡ true = first_of (search rules, grind (arith, common_steps)) in
    thin_marked c.args.self.now.model.now c.args.self.now.slice c.args.self.now.cells.now c.args.marks.now c.args.i c.in_ok-needed.needed c.requires.thin marked c.in_ok-needed.ensures.found
