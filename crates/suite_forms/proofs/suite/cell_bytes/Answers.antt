use Rattle.std.proofs.Common.{ℕ, ◌≡◌, ◌<◌, ◌+◌, List, [], length, get_or, take, true, sym, ap, ◌∙◌, subst, arith}
use Rattle.std.specs.Prelude.{Option, Some, None, is_some, unwrap_or}
use Rattle.std.specs.List.{All}
use Rattle.std.proofs.lemmas.List.{length-map}
use Rattle.std.proofs.lemmas.List.Elements.{All-get_or}
use Rattle.cov_model.specs.Fits.{FitsModel}
use Rattle.cov_model.specs.believed.Meaning.{value_at}
use Rattle.cov_model.specs.believed.Rows.{is_assigned, value_in}
use Rattle.cov_model.specs.believed.Sound.{ModelView, param_at}
use Rattle.row_text.specs.Turns.{AreTurns, IsFor, after_turn, turns_at}
use Rattle.row_text.proofs.Turning.{AreTurns-more, IsFor-count, IsFor-length, after_turn-IsFor}
use Rattle.definitions.specs.believed.Report.{printed}
use Rattle.suite_forms.specs.Pieces.{cell_piece}
use Rattle.suite_forms.proofs.Spelling.{piece_shown}
use Rattle.suite_forms.proofs.suite.cell_bytes.Goals as goal

-- what a row that fits says of a value that it gives
record Gives (m : ModelView) (row : List (Option ℕ)) (place value : ℕ) : Type 0 where
  assigned : is_assigned row place ≡ true
  gives : value ≡ value_in row place
  exists : value < length (param_at m.params place).values

given : (m : ModelView) (rows : List (List (Option ℕ))) (cells : List (Option ℕ)) (at place value : ℕ) → at < length rows
    → All (FitsModel m) rows → cells ≡ get_or rows at [] → get_or cells place None ≡ Some value → Gives m (get_or rows at []) place value
given m rows cells at place value inside fits same is =
    let here : get_or (get_or rows at []) place None ≡ Some value = ap (λ r. get_or r place None) (sym same) ∙ is in
    let assigned : is_assigned (get_or rows at []) place ≡ true = ap is_some here in
    let gives : value_in (get_or rows at []) place ≡ value = ap (λ o. unwrap_or o 0) here in
    record {
      assigned = assigned;
      gives = sym gives;
      exists = subst (λ v. v < length (param_at m.params place).values) gives ((All-get_or (FitsModel m) rows at [] inside fits).exist place assigned);
    }

pub take-shown-requires-clause-value : goal.take-shown-requires-clause-value
take-shown-requires-clause-value c =
    let m = c.args.model.now in
    let row = given m c.args.rows.now c.row.result.now c.args.at c.args.place c.in-Some.value c.requires.at c.requires.rows c.row.ensures c.in-Some.is in
    omega (arith, row.exists, IsFor-length m c.args.turns.now c.args.place c.requires.shape c.requires.place)

pub returns-in-Some-clause-text : goal.returns-in-Some-clause-text
returns-in-Some-clause-text c =
    let m = c.args.model.now in
    let form = c.args.pieces.now.form in
    let rows = c.args.rows.now in
    let place = c.args.place in
    let value = c.in-Some.value in
    let shown = c.take-shown.result in
    let row = given m rows c.row.result.now c.args.at place value c.requires.at c.requires.rows c.row.ensures c.in-Some.is in
    c.as_slice.ensures ∙ c.index-names-shown.is
    ∙ ap (λ (xs : List (List ℕ)). get_or xs shown c.index-names-shown.result) c.names-names.ensures.names
    ∙ piece_shown form m (take c.args.at rows) (get_or rows c.args.at []) place value shown c.index-names-shown.result
    row.assigned row.gives c.names-names.ensures.sound.some (c.take-shown.ensures.shown ∙ c.requires.next value row.exists)

pub returns-in-Some-clause-next : goal.returns-in-Some-clause-next
returns-in-Some-clause-next c =
    let m = c.args.model.now in
    let rows = c.args.rows.now in
    let place = c.args.place in
    let value = c.in-Some.value in
    let turns = c.args.turns.now in
    let row = given m rows c.row.result.now c.args.at place value c.requires.at c.requires.rows c.row.ensures c.in-Some.is in
    let there : place < length turns = omega (arith, c.requires.place, IsFor-count m turns c.requires.shape) in
    let within : value < length (turns_at turns place) = omega (arith, row.exists, IsFor-length m turns place c.requires.shape c.requires.place) in
    subst (λ next. AreTurns m (take (c.args.at + 1) rows) place (turns_at next place))
    (sym (c.take-shown.ensures.next ∙ ap (after_turn turns place value) (ap length c.names-names.ensures.names ∙ length-map (value_at m place value).names (λ name. cell_piece c.args.pieces.now.form m place (Some (printed m (value_at m place value) name))))))
    (AreTurns-more m rows c.args.at place value turns c.requires.at row.assigned row.gives there within c.requires.next row.exists)

pub returns-in-Some-clause-shape : goal.returns-in-Some-clause-shape
returns-in-Some-clause-shape c =
    subst (IsFor c.args.model.now) (sym c.take-shown.ensures.next)
    (after_turn-IsFor c.args.model.now c.args.turns.now c.args.place c.in-Some.value (length c.names-names.result.now) c.requires.shape)
