use Rattle.std.proofs.Common.{subst, sym}
use Rattle.model_parse.specs.RawModels.{AreOpts}
use Rattle.jeldroft_files.specs.believed.Models.{opts_of}
use Rattle.jeldroft_files.proofs.Reading.{opts_fit, stops_read}
use Rattle.jeldroft_files.proofs.model_file.read_model_text.Goals as goal

pub model_in-requires-clause-opts : goal.model_in-requires-clause-opts
model_in-requires-clause-opts g c = subst AreOpts (sym c.opts_of-opts.ensures) (opts_fit c.args.file.now c.args.strength c.requires.marks c.requires.strength)

pub returns-in-Err-model_in-clause-stops : goal.returns-in-Err-model_in-clause-stops
returns-in-Err-model_in-clause-stops g c =
    stops_read (g.F.Folder.seen c.args.files.now).files c.args.file.now.name c.as_str-name.result.now (opts_of c.args.file.now c.args.strength) c.opts_of-opts.result
    c.in-Ok.bytes.items c.as_slice.result.now c.in-Err-model_in.stop c.as_str-name.ensures.value c.opts_of-opts.ensures c.as_slice.ensures.value
    c.in-Ok.ensures.whole c.in-Err-model_in.ensures.stops

pub new-requires-clause-opts : goal.new-requires-clause-opts
new-requires-clause-opts g c = subst AreOpts (sym c.opts_of-opts.ensures) (opts_fit c.args.file.now c.args.strength c.requires.marks c.requires.strength)
