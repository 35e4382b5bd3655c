use Rattle.std.proofs.Common.{◌≡◌, Ok, Some, subst, sym}
use Rattle.suspect_tuples.specs.believed.ResultReading.{read_results}
use Rattle.pict_cli.specs.believed.Modes.{RowsHeld}
use Rattle.pict_cli.specs.Steps.{HoldsResultsOf}
use Rattle.pict_cli.proofs.Suspicions.{results_read}
use Rattle.pict_cli.proofs.results.load_results.Goals as goal
use Rattle.value_text.proofs.ListLemmas.{at_held}

pub returns-in-Ok-clause-results : goal.returns-in-Ok-clause-results
returns-in-Ok-clause-results g c = λ held told.
    let m = c.args.model.now in
    let bytes = c.in_ok-bytes.bytes.items in
    let reads = c.in-Ok.ensures.reads in
    subst (λ other. HoldsResultsOf m (RowsHeld other) c.in-Ok.file)
    (sym (at_held (λ found. found ≡ Some bytes) ((g.F.Folder.seen c.args.files.now).files c.args.name.now) held told c.in_ok-bytes.ensures.whole))
    (results_read m bytes c.in-Ok.file c.in_ok-bytes.ensures.within reads.0 (subst (λ text. read_results m text ≡ Ok reads.0) c.as_slice.ensures.value reads.1) reads.2)
