use Rattle.std.proofs.Common.{subst, sym}
use Rattle.model_parse.specs.RawModels.{AreOpts}
use Rattle.jeldroft_files.proofs.Reading.{opts_fit}
use Rattle.jeldroft_check.proofs.noting.model_opts.Goals as goal

pub returns : goal.returns
returns c = subst AreOpts (sym c.opts_of.ensures) (opts_fit c.args.args.now.model c.args.args.now.strength c.requires.marks c.requires.strength)
