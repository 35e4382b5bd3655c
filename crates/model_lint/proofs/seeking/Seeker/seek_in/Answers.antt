use Rattle.model_lint.proofs.SliceTests.{completed_test}
use Rattle.model_lint.proofs.Steps.{ok_also}
use Rattle.model_lint.proofs.seeking.Seeker.seek_in.Goals as goal

pub returns-clause-test : goal.returns-clause-test
returns-clause-test g c =
    ok_also c.complete.result (λ found means yes.
    completed_test c.args.self.now.model.now c.args.self.now.prefs.now c.args.slice c.args.cells.now c.complete.new.into c.requires.slice (means yes))
    c.complete.ensures.completed
