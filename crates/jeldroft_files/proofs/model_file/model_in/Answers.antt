use Rattle.std.proofs.Common.{Some, refl}
use Rattle.command_line.proofs.Loading.{refused_whole}
use Rattle.jeldroft_files.proofs.model_file.model_in.Goals as goal

pub returns-in_err-model-clause-stops : goal.returns-in_err-model-clause-stops
returns-in_err-model-clause-stops c =
    refused_whole c.args.opts.now (Some (Some c.args.bytes.now)) c.args.bytes.now c.from_residual.result c.in_err-model.field-0.0
    c.from_residual.ensures.1 refl c.requires.within c.in_err-model.ensures.err
