use Rattle.std.proofs.lemmas.Result.{IfErr-weaker, IfOk-weaker}
use Rattle.row_text.specs.RowFiles.{suite_seen}
use Rattle.suspect_tuples.specs.Told.{suspects_seen}
use Rattle.jeldroft_suspect.proofs.FoundLemmas.{found_pairs}
use Rattle.jeldroft_suspect.proofs.SuspectedLemmas.{suspected_ends, suspected_is}
use Rattle.jeldroft_suspect.proofs.suspecting.suspected.Goals as goal

pub returns-clause-found : goal.returns-clause-found
returns-clause-found g c =
    IfOk-weaker c.suspects_of.result _ _ (λ found is table told.
    suspected_is c.args.args.now c.args.model.now table c.in_ok-results.results (c.in_ok-results.ensures.results table told) (suspects_seen found) is)
    c.suspects_of.ensures.told

pub returns-clause-pairs : goal.returns-clause-pairs
returns-clause-pairs g c =
    let file = c.in_ok-results.results in
    IfOk-weaker c.suspects_of.result _ _ (λ found is. found_pairs c.args.model.now (suite_seen file.rows) file.failed found is) c.suspects_of.ensures.found

pub returns-clause-stops : goal.returns-clause-stops
returns-clause-stops g c =
    IfErr-weaker c.suspects_of.result _ _ (λ failure ends table told.
    suspected_ends c.args.args.now c.args.model.now table c.in_ok-results.results (c.in_ok-results.ensures.results table told) failure.cause ends)
    c.suspects_of.ensures.stops
