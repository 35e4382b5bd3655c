use Rattle.pict_cli.specs.Options.{settings_seen}
use Rattle.pict_cli.proofs.MadeRuns.{ran_on_file}
use Rattle.pict_cli.proofs.run.run.Goals as goal

pub returns-in-None : goal.returns-in-None
returns-in-None g c = ran_on_file (settings_seen c.args.opts.now) c.args.seed_word c.args.opts.now.model.now _ _ _ _ _ c.in-None.is c.run_on_file.ensures
