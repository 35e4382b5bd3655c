use Rattle.std.proofs.Common.{◌≡◌, ◌∙◌, ◌++◌, [], All, List, Option, ℕ, OnOk, get_or, length, map, ap, sym, subst}
use Rattle.std.proofs.lemmas.Result.{err_from_is_err_and}
use Rattle.std.proofs.lemmas.List.Elements.{All-filter}
use Rattle.cov_model.specs.believed.Sound.{ModelView, param_at}
use Rattle.cov_model.specs.declared.slice.Slice.{Slice}
use Rattle.definitions.specs.believed.Growth.{down, is_uncovered, tuples_in_play}
use Rattle.definitions.specs.believed.Pairs.{pairs_of}
use Rattle.uncovered_table.specs.Open.{OpenView}
use Rattle.ipog_grow.specs.Growing.{IsInPlay, open_tuples}
use Rattle.full_search.specs.Questions.{QuestionsView}
use Rattle.ipog_grow.specs.Asking.{IsOpen, IsReady, Told, extends, first_spent, crossed, column_grown}
use Rattle.ipog_grow.proofs.Asking.{told-err}
use Rattle.ipog_grow.proofs.Halves.{Half, order-long, ready-in_play, half, half-open, half-rows, half-omitted, half-asked, half-stops, closed-moment}
use Rattle.ipog_grow.proofs.slice_growth.SliceGrowth.grow_column.Goals as goal

-- a table of the same value is ready too
still-ready : (context : QuestionsView) (p : ℕ) (table same : OpenView) (rows : List (List (Option ℕ))) → same ≡ table → IsReady context table p rows
    → IsReady context same p rows
still-ready context p table same rows equal ready = subst (λ t. IsReady context t p rows) (sym equal) ready

pub close_contained-requires-clause-in_play : goal.close_contained-requires-clause-in_play
close_contained-requires-clause-in_play g c =
    let ready = still-ready c.args.self.now.asker.context c.args.column c.args.self.now.table c.prepare.new.self c.args.self.now.rows c.prepare.ensures c.requires.ready in
    let own = ready-in_play c.args.self.now.asker.context c.args.column c.prepare.new.self c.args.self.now.rows c.assert_invariant.ensures.context
    c.requires.column ready in
    subst (λ (m : ModelView). All (IsInPlay m c.prepare.new.self.slice c.args.column) (open_tuples c.prepare.new.self c.args.column))
    (sym ready.of.0)
    (subst (λ (s : Slice). All (IsInPlay c.args.self.now.asker.context.model s c.args.column) (open_tuples c.prepare.new.self c.args.column))
    (sym ready.of.1) own)

pub grow_horizontally-requires-clause-scores : goal.grow_horizontally-requires-clause-scores
grow_horizontally-requires-clause-scores g c _ _ =
    ap length c.deref_mut.ensures.value ∙ c.in_ok-scores.ensures ∙ ap length c.of-values.ensures
    ∙ ap (λ orders. length (get_or orders c.args.column [])) c.requires.prefs
    ∙ order-long c.args.self.now.asker.context c.args.column c.assert_invariant.ensures.context c.requires.column

pub grow_horizontally-requires-clause-in_play : goal.grow_horizontally-requires-clause-in_play
grow_horizontally-requires-clause-in_play g c _ _ =
    let ready = still-ready c.args.self.now.asker.context c.args.column c.args.self.now.table c.prepare.new.self c.args.self.now.rows c.prepare.ensures c.requires.ready in
    let own = ready-in_play c.args.self.now.asker.context c.args.column c.prepare.new.self c.args.self.now.rows c.assert_invariant.ensures.context
    c.requires.column ready in
    subst (All (IsInPlay c.args.self.now.asker.context.model c.args.self.now.asker.context.slice c.args.column)) (sym c.close_contained.ensures.moment)
    (All-filter (is_uncovered c.args.self.now.rows) (IsInPlay c.args.self.now.asker.context.model c.args.self.now.asker.context.slice c.args.column)
    (open_tuples c.prepare.new.self c.args.column) own)

pub returns-in_err-grow_horizontally-clause-asked : goal.returns-in_err-grow_horizontally-clause-asked
returns-in_err-grow_horizontally-clause-asked g c =
    let context = c.args.self.now.asker.context in
    let tuples = tuples_in_play context.model context.slice c.args.column in
    let ready = still-ready c.args.self.now.asker.context c.args.column c.args.self.now.table c.prepare.new.self c.args.self.now.rows c.prepare.ensures c.requires.ready in
    let moment = closed-moment context c.args.column c.prepare.new.self c.close_contained.new.table c.args.self.now.rows ready
    c.close_contained.ensures.moment in
    let p = err_from_is_err_and c.from_residual-in_err-grow_horizontally.result c.from_residual-in_err-grow_horizontally.ensures.1 in
    rw (p.1, p.2) (told-err (Unit {0}) (Unit {0}) c.in_err-grow_horizontally.field-0.0 c.grow_horizontally.new.asker.question
    (first_spent context (crossed context c.args.column tuples [] c.args.self.now.rows).asked)
    (first_spent context (column_grown context c.args.column c.args.self.now.rows).asked)
    (half-stops context c.args.column c.args.self.now.rows c.grow_horizontally.new.asker.question)
    (c.in_err-grow_horizontally.ensures.asked tuples moment))

pub grow_vertically-requires-clause-count : goal.grow_vertically-requires-clause-count
grow_vertically-requires-clause-count g c =
    ap length c.of-values.ensures ∙ ap (λ orders. length (get_or orders c.args.column [])) c.requires.prefs
    ∙ order-long c.args.self.now.asker.context c.args.column c.assert_invariant.ensures.context c.requires.column
    ∙ ap (λ (w : QuestionsView). length (param_at w.model.params c.args.column).values) (sym c.in_ok-grow_horizontally.ensures.same)

pub grow_vertically-requires-clause-is_open : goal.grow_vertically-requires-clause-is_open
grow_vertically-requires-clause-is_open g c =
    let ready = still-ready c.args.self.now.asker.context c.args.column c.args.self.now.table c.prepare.new.self c.args.self.now.rows c.prepare.ensures c.requires.ready in
    let crossed_over = half ready c.close_contained.ensures.moment c.close_contained.ensures.keeps
    c.in_ok-grow_horizontally.ensures.asked c.in_ok-grow_horizontally.ensures.rows c.in_ok-grow_horizontally.ensures.moment
    c.in_ok-grow_horizontally.ensures.keeps c.in_ok-grow_horizontally.ensures.in_play c.in_ok-grow_horizontally.ensures.grows in
    subst (λ (w : QuestionsView). IsOpen w c.grow_horizontally.new.table c.args.column c.grow_horizontally.new.rows)
    (sym c.in_ok-grow_horizontally.ensures.same) (half-open ready crossed_over)

halved : (g : _) (c : goal.After-drop-scores-2 g)
    → Half c.args.self.now.asker.context c.prepare.new.self c.grow_horizontally.new.table c.args.column c.args.self.now.rows c.grow_horizontally.new.rows
halved g c =
    let ready = still-ready c.args.self.now.asker.context c.args.column c.args.self.now.table c.prepare.new.self c.args.self.now.rows c.prepare.ensures c.requires.ready in
    half ready c.close_contained.ensures.moment c.close_contained.ensures.keeps c.in_ok-grow_horizontally.ensures.asked
    c.in_ok-grow_horizontally.ensures.rows c.in_ok-grow_horizontally.ensures.moment c.in_ok-grow_horizontally.ensures.keeps
    c.in_ok-grow_horizontally.ensures.in_play c.in_ok-grow_horizontally.ensures.grows

pub returns-clause-asked : goal.returns-clause-asked
returns-clause-asked g c =
    subst (Told c.grow_vertically.result c.grow_vertically.new.self.asker.question)
    (half-asked (halved g c))
    (subst (λ (w : QuestionsView). Told c.grow_vertically.result c.grow_vertically.new.self.asker.question
    (first_spent w (down (extends w) (open_tuples c.grow_horizontally.new.table c.args.column) c.grow_horizontally.new.rows).asked))
    c.in_ok-grow_horizontally.ensures.same c.grow_vertically.ensures.asked)

pub returns-clause-rows : goal.returns-clause-rows
returns-clause-rows g c =
    subst (λ (grown : List (List (Option ℕ))). OnOk c.grow_vertically.result (c.grow_vertically.new.self.rows ≡ grown))
    (half-rows (halved g c))
    (subst (λ (w : QuestionsView). OnOk c.grow_vertically.result
    (c.grow_vertically.new.self.rows ≡ (down (extends w) (open_tuples c.grow_horizontally.new.table c.args.column) c.grow_horizontally.new.rows).rows))
    c.in_ok-grow_horizontally.ensures.same c.grow_vertically.ensures.rows)

pub returns-clause-omitted : goal.returns-clause-omitted
returns-clause-omitted g c =
    subst (λ (tuples : List (List (Option ℕ))). OnOk c.grow_vertically.result
    (c.grow_vertically.new.self.omitted.items ≡ c.args.self.now.omitted.items ++ map pairs_of tuples))
    (half-omitted (halved g c))
    (subst (λ (w : QuestionsView). OnOk c.grow_vertically.result
    (c.grow_vertically.new.self.omitted.items
    ≡ c.args.self.now.omitted.items ++ map pairs_of (down (extends w) (open_tuples c.grow_horizontally.new.table c.args.column) c.grow_horizontally.new.rows).omitted))
    c.in_ok-grow_horizontally.ensures.same c.grow_vertically.ensures.omitted)
