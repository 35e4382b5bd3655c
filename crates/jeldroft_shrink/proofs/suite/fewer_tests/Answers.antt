use Rattle.std.proofs.Common.{subst}
use Rattle.std.specs.Prelude.{IfOk}
use Rattle.shorter_suites.specs.believed.Shrinking.{IsShrunk}
use Rattle.jeldroft_shrink.proofs.suite.fewer_tests.Goals as goal

pub returns-clause-shrunk : goal.returns-clause-shrunk
returns-clause-shrunk c =
    subst (λ seeds. IfOk c.shrink.result (λ shrunk. IsShrunk c.args.model.now c.args.given.now seeds shrunk.rows)) c.in_ok-seeds.ensures
    c.shrink.ensures.shrunk
