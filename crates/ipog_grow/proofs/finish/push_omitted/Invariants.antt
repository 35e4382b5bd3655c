use Rattle.std.proofs.Common.{◌≡◌, ◌++◌, length, map}
use Rattle.cov_model.specs.believed.Tuples.{cells_of}
use Rattle.feasibility.specs.Refuting.{earlier_tuples}
use Rattle.ipog_grow.specs.Omissions.{AreOmissionsOf}
use Rattle.ipog_grow.proofs.finish.push_omitted.Given as goal

-- the tuples so far are added
abbrev pub invariant-loop-tuple : goal.invariant-loop-tuple
invariant-loop-tuple l = record {
  context : l.asker.context ≡ l.fn.asker.context;
  tuples : earlier_tuples l.fn.asker.context.model l.into ≡ earlier_tuples l.fn.asker.context.model l.fn.into
      ++ map (cells_of (length l.fn.asker.context.model.params)) l.yielded;
  omissions : AreOmissionsOf l.fn.asker.context.model l.fn.asker.context.prefs l.fn.asker.context.effort l.proof l.into;
}
