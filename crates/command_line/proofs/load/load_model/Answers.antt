use Rattle.std.proofs.Common.{◌≡◌, ◌≤◌, Some, length, subst, sym}
use Rattle.std.specs.Prelude.{IfSome}
use Rattle.definitions.specs.believed.Limits.{ModelFile, most_bytes}
use Rattle.command_line.proofs.Loading.{goes_on, refused_of_reading, refused_whole, unread_whole}
use Rattle.command_line.proofs.load.load_model.Goals as goal

pub returns-in_err-bytes-clause-stops : goal.returns-in_err-bytes-clause-stops
returns-in_err-bytes-clause-stops g c =
    unread_whole c.args.opts.now ((g.F.Folder.seen c.args.files.now).files c.args.name.now) c.from_residual.result c.in_err-bytes.field-0.0
    c.from_residual.ensures.1 c.in_err-bytes.ensures.stops

pub returns-in_err-bytes-clause-other : goal.returns-in_err-bytes-clause-other
returns-in_err-bytes-clause-other g c = goes_on c.from_residual.result c.in_err-bytes.field-0.0 c.from_residual.ensures.1 c.in_err-bytes.ensures.other

pub returns-in_err-model-clause-stops : goal.returns-in_err-model-clause-stops
returns-in_err-model-clause-stops g c =
    let file = (g.F.Folder.seen c.args.files.now).files c.args.name.now in
    let whole = subst (λ bytes. IfSome file (λ held. held ≡ Some bytes)) (sym c.as_slice.ensures.value) c.in_ok-bytes.ensures.whole in
    let short = subst (λ bytes. length bytes ≤ most_bytes ModelFile) (sym c.as_slice.ensures.value) c.in_ok-bytes.ensures.within in
    refused_whole c.args.opts.now file c.as_slice.result.now c.from_residual-in_err-model.result c.in_err-model.field-0.0
    c.from_residual-in_err-model.ensures.1 whole short c.in_err-model.ensures.err

pub returns-in_err-model-clause-other : goal.returns-in_err-model-clause-other
returns-in_err-model-clause-other g c = refused_of_reading c.from_residual-in_err-model.result c.in_err-model.field-0.0 c.from_residual-in_err-model.ensures.1
