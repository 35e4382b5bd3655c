use Rattle.std.proofs.Common.{◌<◌, ◌∙◌, length, sym, arith}
use Rattle.definitions.specs.believed.Refutation.{is_omission_leaf}
use Rattle.feasibility.proofs.Leaves.{number_found, number_passed}
use Rattle.feasibility.proofs.Paths.{cited_leaf}
use Rattle.feasibility.proofs.refuter.Refuter.first_of_all.Goals as goal

pub returns-then-is_cited : goal.returns-then-is_cited
returns-then-is_cited c =
    let r = c.args.self.now in
    let within : c.loop-i.i < length r.earlier = omega (arith, c.loop-i.invariant.0) in
    number_found (is_omission_leaf r.model r.format r.earlier r.tuple c.args.cells.now) c.loop-i.i (length r.earlier) within c.loop-i.invariant.1
    (cited_leaf r c.args.cells.now c.loop-i.i c.requires.form within ∙ sym c.is_cited.ensures ∙ c.if-is_cited.true)

pub loop-i-preserved : goal.loop-i-preserved
loop-i-preserved c =
    let r = c.args.self.now in
    let within : c.loop-i.i < length r.earlier = omega (arith, c.loop-i.invariant.0) in (
      c.loop-i.invariant.0,
      number_passed (is_omission_leaf r.model r.format r.earlier r.tuple c.args.cells.now) c.loop-i.i c.loop-i.invariant.1
          (cited_leaf r c.args.cells.now c.loop-i.i c.requires.form within ∙ sym c.is_cited.ensures ∙ c.if-is_cited.false),
    )
