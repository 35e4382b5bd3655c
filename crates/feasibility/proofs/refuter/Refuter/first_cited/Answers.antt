use Rattle.std.proofs.Common.{◌∙◌, sym, ap}
use Rattle.refutation.specs.believed.Proofs.{format_of}
use Rattle.feasibility.proofs.Paths.{none_cited}
use Rattle.feasibility.proofs.refuter.Refuter.first_cited.Goals as goal

pub returns-in-One : goal.returns-in-One
returns-in-One c =
    sym (none_cited c.args.self.now c.args.cells.now (c.omissions.ensures.format ∙ ap format_of (sym c.form.ensures ∙ c.in-One.is)))
