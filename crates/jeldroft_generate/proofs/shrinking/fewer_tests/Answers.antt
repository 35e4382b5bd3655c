use Rattle.std.proofs.Common.{subst}
use Rattle.shorter_suites.specs.believed.Shrinking.{IsShrunk}
use Rattle.jeldroft_generate.proofs.shrinking.fewer_tests.Goals as goal

pub returns-clause-shrunk : goal.returns-clause-shrunk
returns-clause-shrunk c =
    subst (λ seeds. IsShrunk c.args.model.now c.args.grown.now seeds c.in_ok-shrunk.shrunk.rows) c.in_ok-seeds.ensures c.in_ok-shrunk.ensures.shrunk

pub returns-clause-fit : goal.returns-clause-fit
returns-clause-fit c = c.in_ok-shrunk.ensures.origin.fit

pub returns-clause-numbers : goal.returns-clause-numbers
returns-clause-numbers c = record { given = c.len.ensures; tests = c.len-2.ensures; least = c.in_ok-shrunk.ensures.least }
