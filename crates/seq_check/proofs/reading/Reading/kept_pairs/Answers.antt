use Rattle.std.proofs.Common.{◌≡◌, arith, rules, subst}
use Rattle.seq_check.specs.believed.Events.{AreEvents}
use Rattle.seq_check.specs.Reading.{Declared}
use Rattle.seq_check.proofs.reading.Reading.kept_pairs.Goals as goal

pub returns-clause-kept : goal.returns-clause-kept
returns-clause-kept c =
    let same : c.in_ok-pairs.pairs ≡ c.self.inside.pairs = search rules in
    subst (λ (d : Declared). AreEvents (record { names = d.names; precedences = c.in_ok-pairs.pairs; len = c.args.length })) c.self.view_is
    (record {
      few = omega arith;
      few_precedences = rw same (omega arith);
      exist = rw same c.self.invariant.1.exist;
      len = c.requires;
      enough = omega arith;
      named = c.self.invariant.1.named;
      distinct = c.self.invariant.1.distinct;
    })
