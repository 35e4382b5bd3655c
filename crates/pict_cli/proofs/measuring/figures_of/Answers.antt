use Rattle.cov_model.specs.believed.Preference.{preference}
use Rattle.std.proofs.Common.{None}
use Rattle.definitions.specs.believed.Demand.{demanded_tuples}
use Rattle.definitions.specs.believed.Search.{first_measured_over}
use Rattle.pict_cli.proofs.measuring.figures_of.Goals as goal
use Rattle.feasibility.proofs.FullEffort.{ends_full}

pub stop_of_search-requires : goal.stop_of_search-requires
stop_of_search-requires g c =
    let m = c.args.model.now in
    ends_full m (preference m None) c.args.opts.now.effort (demanded_tuples m) c.in-Err.fault c.in-Err.ensures.ends

pub returns-in-Err-clause-stops : goal.returns-in-Err-clause-stops
returns-in-Err-clause-stops g c = c.stop_of_search.ensures (first_measured_over c.args.model.now c.args.opts.now.effort) c.in-Err.ensures.ends
