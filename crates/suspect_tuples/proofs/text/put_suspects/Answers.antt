use Rattle.std.proofs.Common.{ap, ◌++◌, ◌∙◌, length, map, sym, ◌≡◌, ℕ, List}
use Rattle.std.specs.Prelude.{codes, flat_map}
use Rattle.std.proofs.lemmas.List.{length-map}
use Rattle.definitions.specs.believed.Statistics.{number_line}
use Rattle.row_text.proofs.Sending.{Adds-then, Adds-same, Holds-all}
use Rattle.suspect_tuples.specs.believed.SuspectsText.{suspects_text, suspect_line}
use Rattle.suspect_tuples.specs.Told.{suspects_seen, found_seen}
use Rattle.suspect_tuples.specs.declared.suspect_list.Found.{Found}
use Rattle.suspect_tuples.proofs.text.put_suspects.Goals as goal

pub returns : goal.returns
returns g c =
    let state = g.O.Sink.seen in
    let seen = suspects_seen c.args.suspects.now in
    let numbers = Adds-then (Adds-then (Adds-then c.put_number.ensures c.put_number-2.ensures) c.put_number-3.ensures) c.put_number-4.ensures in
    let number : ℕ → List ℕ = number_line (codes "Suspicious tuples: ") in
    let before : List ℕ =
    (number_line (codes "Passing tests: ") seen.passing ++ number_line (codes "Failing tests: ") seen.failing) ++ number_line (codes "Incomplete tests: ") seen.incomplete in
    let text : (before ++ number (length c.as_slice-list.result.now)) ++ flat_map suspect_line (map found_seen c.as_slice-list.result.now) ≡ suspects_text seen =
    ap (λ (list : List Found). (before ++ number (length list)) ++ flat_map suspect_line (map found_seen list)) c.as_slice-list.ensures
    ∙ ap (λ n. (before ++ number n) ++ flat_map suspect_line seen.found) (sym (length-map c.args.suspects.now.found found_seen)) in
    c.answer.ensures (state c.args.out.now) (state c.put_list.new.out) (suspects_text seen)
    (Holds-all c.new-lines.ensures (Adds-same text (Adds-then numbers c.put_list.ensures)))
