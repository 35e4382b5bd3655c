use Rattle.definitions.specs.believed.Growth.{growth}
use Rattle.row_text.specs.RowFiles.{seeds_seen}
use Rattle.jeldroft_generate.proofs.growing.grow.Goals as goal
use Rattle.feasibility.proofs.FullEffort.{ends_full}

pub stop_of_search-requires : goal.stop_of_search-requires
stop_of_search-requires g c =
    let m = c.args.model.now in
    let pref = c.in_ok-prefs.prefs in
    ends_full m pref c.effort_of-effort.result (growth m pref (seeds_seen c.args.seeds.now)).asked c.in-Err.fault c.in-Err.ensures.asked
