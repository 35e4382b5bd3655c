use Rattle.std.proofs.Common.{ap, subst, ◌∙◌}
use Rattle.cov_model.specs.believed.Preference.{preference}
use Rattle.definitions.specs.believed.Growth.{growth}
use Rattle.definitions.specs.believed.Search.{first_over}
use Rattle.feasibility.specs.Ends.{EndsBy}
use Rattle.feasibility.proofs.FullEffort.{ends_full}
use Rattle.row_text.specs.RowFiles.{seeds_seen}
use Rattle.pict_cli.specs.Options.{settings_seen}
use Rattle.pict_cli.specs.believed.Runs.{growth_over}
use Rattle.pict_cli.proofs.growing.grow.Goals as goal

pub stop_of_search-requires : goal.stop_of_search-requires
stop_of_search-requires g c =
    let m = c.args.model.now in
    let pref = c.in_ok-prefs.prefs in
    ends_full m pref c.args.opts.now.effort (growth m pref (seeds_seen c.args.seeds.now)).asked c.in-Err.fault c.in-Err.ensures.asked

pub returns-clause-stops : goal.returns-clause-stops
returns-clause-stops g c =
    let m = c.args.model.now in
    let seeds = seeds_seen c.args.seeds.now in
    c.stop_of_search.ensures (growth_over (settings_seen c.args.opts.now) c.args.seed_word m seeds)
    (subst (λ pref. EndsBy (first_over m pref c.args.opts.now.effort (growth m pref seeds).asked) c.in-Err.fault)
    (c.in_ok-prefs.ensures.orders ∙ ap (preference m) c.shuffle_number-number.ensures) c.in-Err.ensures.asked)
