use Rattle.std.proofs.Common.{ℕ, ◌≡◌, ◌<◌, ◌+◌, ◌++◌, ◌∷◌, [], List, length, get_or, take, true, if◌then◌else◌, sym, ap, ◌∙◌, subst, arith}
use Rattle.std.proofs.lemmas.List.Elements.{All-get_or}
use Rattle.cov_model.specs.believed.Meaning.{value_at}
use Rattle.cov_model.specs.believed.Rows.{value_in}
use Rattle.cov_model.specs.believed.Valid.{is_row}
use Rattle.cov_model.proofs.RowLemmas.{row_is_assigned}
use Rattle.row_text.specs.Turns.{IsFor, AreTurns, turns_at, after_turn}
use Rattle.row_text.proofs.Sending.{Adds-then, Adds-same}
use Rattle.row_text.proofs.Lines.{printed_parts}
use Rattle.row_text.proofs.Turning.{IsFor-count, IsFor-length, after_turn-IsFor, AreTurns-more, cell_shown}
use Rattle.row_text.proofs.report.put_cell.Goals as goal

pub take-shown-requires-clause-value : goal.take-shown-requires-clause-value
take-shown-requires-clause-value g c =
    omega (arith, c.number_given-number.ensures.exists, IsFor-length c.args.model.now c.args.turns.now.next c.args.place c.requires.shape c.requires.place)

pub returns-clause-text : goal.returns-clause-text
returns-clause-text g c =
    let m = c.args.model.now in
    let rows = c.args.rows.now in
    let number = c.number_given-number.result in
    let value = c.value_of-value.result.now in
    let bytes = c.as_bytes.result.now in
    let gives : number ≡ value_in (get_or rows c.args.at []) c.args.place = c.number_given-number.ensures.value ∙ ap
    (λ cells. value_in cells c.args.place) c.row.ensures in
    let name : bytes ≡ get_or value.names c.take-shown.result c.index-names-shown.result =
    c.as_bytes.ensures.value ∙ c.as_str.ensures.value ∙ c.index-names-shown.is ∙ ap
    (λ (names : List (List ℕ)). get_or names c.take-shown.result c.index-names-shown.result) c.as_slice-names.ensures in
    let cell = cell_shown m (take c.args.at rows)
    (get_or rows c.args.at []) c.args.place number c.take-shown.result value bytes c.index-names-shown.result gives c.value_of-value.ensures.value
    c.value_of-value.ensures.sound.some (c.take-shown.ensures.shown ∙ c.requires.next number c.number_given-number.ensures.exists) name in
    Adds-same (ap (λ mark. (if value.negative then mark ∷ [] else []) ++ bytes) c.prefix.ensures.value ∙ printed_parts m value bytes ∙ cell)
    (Adds-then c.put_mark.ensures c.add.ensures)

pub returns-clause-next : goal.returns-clause-next
returns-clause-next g c =
    let m = c.args.model.now in
    let rows = c.args.rows.now in
    let turns = c.args.turns.now.next in
    let number = c.number_given-number.result in
    let gives : number ≡ value_in (get_or rows c.args.at []) c.args.place = c.number_given-number.ensures.value ∙ ap
    (λ cells. value_in cells c.args.place) c.row.ensures in
    let good = All-get_or (λ row. is_row m row ≡ true) rows c.args.at [] c.requires.at c.requires.rows in
    let assigned = row_is_assigned m (get_or rows c.args.at []) c.args.place good c.requires.place in
    let count : length c.as_slice-names.result.now ≡ length (value_at m c.args.place number).names = ap length c.as_slice-names.ensures ∙ ap
    (λ v. length v.names) c.value_of-value.ensures.value in
    let there : c.args.place < length turns = omega (arith, IsFor-count m turns c.requires.shape) in
    let within : number < length (turns_at turns c.args.place) = omega
    (arith, c.number_given-number.ensures.exists, IsFor-length m turns c.args.place c.requires.shape c.requires.place) in
    subst (λ next. AreTurns m (take (c.args.at + 1) rows) c.args.place (turns_at next c.args.place))
    (sym (c.take-shown.ensures.next ∙ ap (after_turn turns c.args.place number) count))
    (AreTurns-more m rows c.args.at c.args.place number turns c.requires.at assigned gives there within c.requires.next c.number_given-number.ensures.exists)

pub returns-clause-shape : goal.returns-clause-shape
returns-clause-shape g c =
    subst (IsFor c.args.model.now) (sym c.take-shown.ensures.next)
    (after_turn-IsFor c.args.model.now c.args.turns.now.next c.args.place c.number_given-number.result (length c.as_slice-names.result.now) c.requires.shape)
