use Rattle.std.proofs.Common.{◌≡◌, [], get_or, option_map, ◌∙◌}
use Rattle.std.proofs.lemmas.Result.{IfOk-weaker}
use Rattle.definitions.specs.believed.Demand.{demanded_tuples}
use Rattle.definitions.specs.believed.Pairs.{pairs_of}
use Rattle.definitions.specs.believed.Verdict.{first_uncovered}
use Rattle.refutation.specs.Reading.{omissions_meant}
use Rattle.row_text.specs.RowFiles.{suite_seen}
use Rattle.proof_check.proofs.VerdictLemmas.{open_found}
use Rattle.proof_check.proofs.uncovered.first_uncovered.Goals as goal

pub returns : goal.returns
returns g c =
    let m = c.args.model.now in
    let rows = suite_seen c.args.file.now in
    let omissions = c.args.proof.now.omissions in
    IfOk-weaker c.tuple_if_any.result
    (λ tuple. tuple ≡ option_map (λ place. pairs_of (get_or (demanded_tuples m) place [])) c.first_place.result)
    (λ tuple. tuple ≡ option_map pairs_of (first_uncovered m rows (omissions_meant omissions)))
    (λ tuple is. is ∙ open_found m rows omissions c.in_ok-left.left c.in_ok-served.served
    (record { left_is = c.in_ok-left.ensures; served_is = c.in_ok-served.ensures; none_bad = c.requires.valid }) c.first_place.result c.first_place.ensures)
    c.tuple_if_any.ensures
