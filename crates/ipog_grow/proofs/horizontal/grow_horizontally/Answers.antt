use Rattle.std.proofs.Common.{◌≡◌, ◌∙◌, ◌<◌, ◌+◌, ℕ, Err, List, ap, Option, [], length, get_or, sym, subst, All, arith}
use Rattle.std.proofs.lemmas.Result.{err_from_is_err_and}
use Rattle.cov_model.specs.believed.Sound.{param_at}
use Rattle.ipog_grow.specs.Growing.{IsInPlay, open_tuples}
use Rattle.full_search.specs.Questions.{QuestionsView}
use Rattle.ipog_grow.specs.Asking.{Grows, IsTableOf, Told, first_spent, filled, crossed}
use Rattle.ipog_grow.proofs.Asking.{told-err}
use Rattle.ipog_grow.proofs.HorizontalLemmas.{Crossing, Step, crossing-more, crossing-spent}
use Rattle.ipog_grow.proofs.horizontal.grow_horizontally.Goals as goal

pub leave_at_times-requires : goal.leave_at_times-requires
leave_at_times-requires g c =
    subst (λ model. c.args.column < length model.params) (sym (c.loop-i.invariant.crossing.keeps.model ∙ c.requires.table.0)) c.requires.column

pub fill_cell-requires-clause-table : goal.fill_cell-requires-clause-table
fill_cell-requires-clause-table g c _ _ =
    subst (λ table. IsTableOf c.loop-i.asker.context table) (sym c.leave_at_times.ensures)
    (subst (λ (w : QuestionsView). IsTableOf w c.loop-i.table) (sym c.loop-i.invariant.context)
    (c.loop-i.invariant.crossing.keeps.model ∙ c.requires.table.0, c.loop-i.invariant.crossing.keeps.slice ∙ c.requires.table.1))

pub fill_cell-requires-clause-column : goal.fill_cell-requires-clause-column
fill_cell-requires-clause-column g c _ _ =
    subst (λ (w : QuestionsView). c.args.column < length w.model.params) (sym c.loop-i.invariant.context) c.requires.column

pub fill_cell-requires-clause-order : goal.fill_cell-requires-clause-order
fill_cell-requires-clause-order g c _ _ =
    subst (λ (w : QuestionsView). c.args.order.now ≡ get_or w.prefs c.args.column []) (sym c.loop-i.invariant.context) c.requires.order

pub fill_cell-requires-clause-scores : goal.fill_cell-requires-clause-scores
fill_cell-requires-clause-scores g c _ _ =
    subst (λ (w : QuestionsView). length c.loop-i.scores ≡ length (param_at w.model.params c.args.column).values) (sym c.loop-i.invariant.context)
    (c.loop-i.invariant.scores ∙ c.requires.scores)

pub fill_cell-requires-clause-in_play : goal.fill_cell-requires-clause-in_play
fill_cell-requires-clause-in_play g c _ _ =
    subst (λ (w : QuestionsView). All (IsInPlay w.model w.slice c.args.column) (open_tuples c.leave_at_times.new.table c.args.column))
    (sym c.loop-i.invariant.context)
    (subst (λ table. All (IsInPlay c.args.asker.now.context.model c.args.asker.now.context.slice c.args.column) (open_tuples table c.args.column))
    (sym c.leave_at_times.ensures) c.loop-i.invariant.crossing.in_play)

pub fill_cell-requires-clause-place : goal.fill_cell-requires-clause-place
fill_cell-requires-clause-place g c _ _ = omega (arith, c.loop-i.invariant.crossing.long)

pub fill_cell-requires-clause-grows : goal.fill_cell-requires-clause-grows
fill_cell-requires-clause-grows g c _ _ =
    let within : c.loop-i.i < length c.loop-i.rows = omega (arith, c.loop-i.invariant.crossing.long) in
    subst (λ (w : QuestionsView). Grows w (get_or c.loop-i.rows c.loop-i.i [])) (sym c.loop-i.invariant.context)
    (c.loop-i.invariant.crossing.grows c.loop-i.i [] within)

pub fill_cell-requires-clause-room : goal.fill_cell-requires-clause-room
fill_cell-requires-clause-room g c _ _ =
    subst (λ (w : QuestionsView). length c.loop-i.room ≡ length w.model.params) (sym c.loop-i.invariant.context)
    (c.loop-i.invariant.room ∙ c.requires.room)

pub returns-in_err-fill_cell-clause-asked : goal.returns-in_err-fill_cell-clause-asked
returns-in_err-fill_cell-clause-asked g c tuples moment =
    let within : c.loop-i.i < length c.loop-i.rows = omega (arith, c.loop-i.invariant.crossing.long) in
    let p = err_from_is_err_and c.from_residual.result c.from_residual.ensures.1 in
    rw (p.1, p.2) (told-err (Unit {0}) (Unit {0}) c.in_err-fill_cell.field-0.0 c.fill_cell.new.asker.question
    (first_spent c.args.asker.now.context (filled c.args.asker.now.context c.args.column c.loop-i.rows tuples (get_or c.loop-i.rows c.loop-i.i [])).asked)
    (first_spent c.args.asker.now.context (crossed c.args.asker.now.context c.args.column tuples [] c.args.rows.now).asked)
    (λ over. crossing-spent c.args.asker.now.context c.args.column c.args.table.now c.loop-i.table c.args.rows.now c.loop-i.rows c.loop-i.i
    c.fill_cell.new.asker.question tuples within c.loop-i.invariant.crossing moment over)
    (subst (λ (w : QuestionsView). Told {A = Unit {0}} (Err c.in_err-fill_cell.field-0.0) c.fill_cell.new.asker.question
    (first_spent w (filled w c.args.column c.loop-i.rows tuples (get_or c.loop-i.rows c.loop-i.i [])).asked)) c.loop-i.invariant.context
    (c.in_err-fill_cell.ensures.asked c.loop-i.rows tuples
    (ap (λ table. open_tuples table c.args.column) c.leave_at_times.ensures ∙ c.loop-i.invariant.crossing.moment tuples moment))))

pub loop-i-preserved : goal.loop-i-preserved
loop-i-preserved g c =
    let within : c.loop-i.i < length c.loop-i.rows = omega (arith, c.loop-i.invariant.crossing.long) in
    let grown : List (Option ℕ) = get_or c.fill_cell.new.rows c.loop-i.i [] in
    let told : Step c.loop-i.asker.context c.args.column c.leave_at_times.new.table c.fill_cell.new.table (get_or c.loop-i.rows c.loop-i.i []) grown =
    record {
      asked = c.in_ok-fill_cell.ensures.asked;
      given = c.in_ok-fill_cell.ensures.row;
      closes = c.in_ok-fill_cell.ensures.closes;
      grows = c.in_ok-fill_cell.ensures.grows;
      more = c.in_ok-fill_cell.ensures.more;
    } in
    record {
      context = c.fill_cell.ensures.same ∙ c.loop-i.invariant.context;
      scores = c.fill_cell.ensures.long ∙ c.loop-i.invariant.scores;
      room = c.fill_cell.ensures.room ∙ c.loop-i.invariant.room;
      crossing =
          subst (λ rows. Crossing c.args.asker.now.context c.args.column c.args.table.now c.fill_cell.new.table c.args.rows.now rows (c.loop-i.i + 1))
          (sym c.in_ok-fill_cell.ensures.others)
          (crossing-more c.args.asker.now.context c.args.column c.args.table.now c.loop-i.table c.fill_cell.new.table c.args.rows.now c.loop-i.rows c.loop-i.i
          grown within c.loop-i.invariant.crossing
          (subst (λ (w : QuestionsView). Step w c.args.column c.loop-i.table c.fill_cell.new.table (get_or c.loop-i.rows c.loop-i.i []) grown)
          c.loop-i.invariant.context
          (subst (λ table. Step c.loop-i.asker.context c.args.column table c.fill_cell.new.table (get_or c.loop-i.rows c.loop-i.i []) grown)
          c.leave_at_times.ensures told)));
    }
