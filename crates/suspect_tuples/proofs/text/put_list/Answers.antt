use Rattle.std.proofs.Common.{ap, ◌∙◌, sym, arith, get_or, ◌≡◌}
use Rattle.std.specs.List.{flat_map}
use Rattle.std.proofs.lemmas.List.{take_all}
use Rattle.std.proofs.lemmas.List.Folds.{flat_map-map}
use Rattle.row_text.proofs.Sending.{Adds-then, Adds-same}
use Rattle.suspect_tuples.specs.believed.SuspectsText.{suspect_line}
use Rattle.suspect_tuples.specs.Told.{found_seen}
use Rattle.suspect_tuples.specs.declared.suspect_list.Found.{Found}
use Rattle.suspect_tuples.proofs.TextSteps.{pieces_more}
use Rattle.suspect_tuples.proofs.text.put_list.Goals as goal

pub loop-found-preserved : goal.loop-found-preserved
loop-found-preserved g c =
    let at = c.loop-found.found-index in
    let line : suspect_line (found_seen c.found-item.result) ≡ suspect_line (found_seen (get_or c.args.list.now at c.found-item.result)) =
    ap (λ (found : Found). suspect_line (found_seen found)) c.found-item.is in
    Adds-same (pieces_more (λ (found : Found). suspect_line (found_seen found)) c.args.list.now at c.found-item.result
    (suspect_line (found_seen c.found-item.result)) c.loop-found-test.true line)
    (Adds-then c.loop-found.invariant c.put_found.ensures)

pub returns : goal.returns
returns g c =
    Adds-same (ap (flat_map (λ (found : Found). suspect_line (found_seen found))) (take_all c.loop-found.found-index c.args.list.now (omega arith))
    ∙ sym (flat_map-map suspect_line found_seen c.args.list.now)) c.loop-found.invariant
