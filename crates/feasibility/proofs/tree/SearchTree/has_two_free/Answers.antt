use Rattle.std.proofs.Common.{Option, ℕ, length, get_or, sym, subst}
use Rattle.std.specs.Prelude.{IfSome}
use Rattle.cov_model.specs.Sound.{rule_at}
use Rattle.feasibility.specs.Live.{IsFree}
use Rattle.feasibility.proofs.Naming.{member_exists}
use Rattle.feasibility.proofs.TwoFree.{two_free}
use Rattle.feasibility.proofs.tree.SearchTree.has_two_free.Goals as goal
use Rattle.feasibility.proofs.tree.SearchTree.has_two_free.Goals.{then-is_free+in_default-2, then-is_free+in_default, else-is_free}

pub is_free-requires-clause-parameter : goal.is_free-requires-clause-parameter
is_free-requires-clause-parameter c =
    let m = c.args.self.now.model in
    member_exists (length m.params) (rule_at m c.args.rule).body c.members_of-members.result.now c.loop-j.j c.members_of-members.ensures
    c.loop-j-test.true

pub returns-in-Some : goal.returns-in-Some
returns-in-Some c = λ same.
    let m = c.args.self.now.model in
    let cells = c.args.cells.now in
    let first = subst (λ (found : Option ℕ). IfSome found (IsFree m c.args.rule cells)) c.in-Some.is c.loop-j.invariant in
    two_free m c.args.rule cells c.in-Some.p (get_or c.members_of-members.result.now c.loop-j.j 0) c.requires.fits.as_long first
    (c.is_free.ensures c.if-is_free.true) c.if-p-q.true

pub loop-j-preserved : goal.loop-j-preserved
loop-j-preserved c =
    let kept = λ (found : Option ℕ). IfSome found (IsFree c.args.self.now.model c.args.rule c.args.cells.now) in
    elim c.if-is_free.branch [
      | then-is_free+in_default-2 w ↦ subst kept (sym w.found-is) (c.is_free.ensures w.if-is_free.true)
      | then-is_free+in_default w ↦ subst kept (sym w.found-is) (c.is_free.ensures w.if-is_free.true)
      | else-is_free w ↦ subst kept (sym w.found-is) c.loop-j.invariant
    ]
