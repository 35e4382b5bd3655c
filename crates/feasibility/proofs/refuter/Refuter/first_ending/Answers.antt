use Rattle.std.proofs.Common.{◌≤◌, ◌+◌, ◌∙◌, length, sym, subst, arith}
use Rattle.feasibility.proofs.Citing.{LeastBelow, least_is, least_lowered, least_passed}
use Rattle.feasibility.proofs.refuter.Refuter.first_ending.Goals as goal
use Rattle.feasibility.proofs.refuter.Refuter.first_ending.Goals.{in-Some, in_default}

pub loop-p-preserved : goal.loop-p-preserved
loop-p-preserved c =
    let r = c.args.self.now in
    let proof = c.args.omissions.now in
    let cells = c.args.cells.now in
    let p = c.loop-p.p in
    elim c.match-get.branch [
      | in-Some w ↦ record {
        count = c.loop-p.invariant.count;
        so_far = subst (LeastBelow r proof.omissions cells (p + 1)) (sym w.least-is)
            (least_lowered r proof cells p c.loop-p.least w.in-Some.v w.numbers_ending.result.now w.lesser_citation-least.result c.requires.earlier
            c.requires.within c.loop-p.invariant.so_far (sym c.get.ensures ∙ w.in-Some.is) w.numbers_ending.ensures.each w.lesser_citation-least.ensures);
      }
      | in_default w ↦ record {
        count = c.loop-p.invariant.count;
        so_far = subst (LeastBelow r proof.omissions cells (p + 1)) (sym w.least-is)
            (least_passed r proof cells p c.loop-p.least c.requires.earlier c.requires.within c.loop-p.invariant.so_far
            (sym c.get.ensures ∙ w.in_default.is));
      }
    ]

pub returns : goal.returns
returns c =
    let r = c.args.self.now in
    let past : length r.model.params ≤ c.loop-p.p = omega (arith, c.loop-p.invariant.count, c.requires.long) in
    least_is r c.args.omissions.now c.args.cells.now c.loop-p.p c.loop-p.least past c.requires.earlier c.requires.within c.loop-p.invariant.so_far
