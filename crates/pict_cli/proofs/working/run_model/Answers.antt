use Rattle.pict_cli.proofs.working.run_model.Goals as goal

pub returns-in-Measure-clause-runs : goal.returns-in-Measure-clause-runs
returns-in-Measure-clause-runs g c = c.run_measuring.ensures.runs c.args.seed_word

pub returns-in-Suspect-clause-runs : goal.returns-in-Suspect-clause-runs
returns-in-Suspect-clause-runs g c = c.run_suspecting.ensures.runs c.args.seed_word
