use Rattle.std.proofs.Common.{None}
use Rattle.cov_model.specs.believed.Preference.{preference}
use Rattle.definitions.specs.believed.Demand.{demanded_tuples}
use Rattle.jeldroft_measure.proofs.measuring.figures_of.Goals as goal
use Rattle.feasibility.proofs.FullEffort.{ends_full}

pub stop_of_search-requires : goal.stop_of_search-requires
stop_of_search-requires g c =
    let m = c.args.model.now in
    ends_full m (preference m None) c.effort_of-effort.result (demanded_tuples m) c.in-Err.fault c.in-Err.ensures.ends
