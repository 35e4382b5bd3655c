use Rattle.std.proofs.Common.{List, ◌<◌, ◌∙◌, ◌∷◌, ◌++◌, [], ℕ, Err, Option, None, IfSome, length, get_or, ap, sym, subst, arith}
use Rattle.std.proofs.lemmas.Result.{err_from_is_err_and}
use Rattle.std.proofs.lemmas.List.{get_or-set_same}
use Rattle.cov_model.specs.believed.Sound.{ModelView, param_at}
use Rattle.cov_model.specs.declared.slice.Slice.{Slice}
use Rattle.definitions.specs.SliceRows.{IsOfSlice}
use Rattle.definitions.specs.believed.Growth.{join, settle, union}
use Rattle.uncovered_table.specs.Open.{row_closed}
use Rattle.full_search.specs.Questions.{QuestionsView}
use Rattle.ipog_grow.specs.Asking.{Grows, Told, extends, first_spent, omitted_alone, rows_alone}
use Rattle.ipog_grow.specs.UnfilledRows.{HasUnfilled}
use Rattle.ipog_grow.proofs.Asking.{told-err}
use Rattle.ipog_grow.proofs.Closing.{is_alone, joinable, next-grows, passed-union, settle-asks, settle-stops, taken_at}
use Rattle.ipog_grow.proofs.Settling.{settle-alone_omitted, settle-alone_rows}
use Rattle.ipog_grow.proofs.UnfilledLemmas.{unfilled-union, value-within}
use Rattle.ipog_grow.proofs.slice_growth.SliceGrowth.settle.Goals as goal

pub join_first-requires-clause-tuple : goal.join_first-requires-clause-tuple
join_first-requires-clause-tuple c = next-grows c.requires.next

pub candidates-requires-clause-column : goal.candidates-requires-clause-column
candidates-requires-clause-column c =
    let own = next-grows c.requires.next in
    omega (arith, c.requires.column, own.of.fits.as_long)

pub candidates-requires-clause-value : goal.candidates-requires-clause-value
candidates-requires-clause-value c =
    let own = next-grows c.requires.next in
    subst (λ (n : ℕ). IfSome (get_or c.args.self.now.tuple c.args.column None) (λ v. v < n)) (sym c.requires.unfilled.values)
    (value-within c.args.self.now.asker.context.model c.args.self.now.tuple c.args.column own.of.fits)

pub join_first-requires-clause-candidates : goal.join_first-requires-clause-candidates
join_first-requires-clause-candidates c =
    (joinable c.requires.next c.requires.columns c.requires.unfilled c.candidates.ensures).rise

pub join_first-requires-clause-others : goal.join_first-requires-clause-others
join_first-requires-clause-others c =
    (joinable c.requires.next c.requires.columns c.requires.unfilled c.candidates.ensures).others

pub returns-in_err-join_first-clause-asked : goal.returns-in_err-join_first-clause-asked
returns-in_err-join_first-clause-asked c =
    let context = c.args.self.now.asker.context in
    let p = err_from_is_err_and c.from_residual.result c.from_residual.ensures.1 in
    rw (p.1, p.2) (told-err (Option ℕ) (Unit {0}) c.in_err-join_first.field-0.0 c.join_first.new.asker.question
    (first_spent context (join (extends context) c.args.self.now.tuple c.args.self.now.rows).asked)
    (first_spent context (settle (extends context) c.args.self.now.tuple c.args.self.now.rows).asked)
    (settle-stops context c.args.self.now.tuple c.join_first.new.asker.question c.args.self.now.rows)
    c.in_err-join_first.ensures.asked)

pub close_row-requires-clause-cells : goal.close_row-requires-clause-cells
close_row-requires-clause-cells c =
    let taken = taken_at c.in-Some.is c.in_ok-join_first.ensures.place c.in_ok-join_first.ensures.room in
    let own : Grows c.args.self.now.asker.context c.join_first.new.room = subst (Grows c.args.self.now.asker.context) (sym taken.read_is)
    (c.in_ok-join_first.ensures.grows c.in-Some.field-0 [] taken.within) in
    subst (λ (m : ModelView). IsOfSlice m c.args.self.now.table.slice c.join_first.new.room) (sym c.requires.next.of.0)
    (subst (λ (s : Slice). IsOfSlice c.args.self.now.asker.context.model s c.join_first.new.room) (sym c.requires.next.of.1) own.of)

pub returns-in-Some-clause-passed : goal.returns-in-Some-clause-passed
returns-in-Some-clause-passed c =
    let rows = c.args.self.now.rows in
    let i = c.in-Some.field-0 in
    let taken = taken_at c.in-Some.is c.in_ok-join_first.ensures.place c.in_ok-join_first.ensures.room in
    passed-union c.requires.next taken.union_at
    (c.close_row.ensures ∙ ap (row_closed c.args.self.now.table c.args.column) taken.read_is)
    (ap (λ list. get_or list i []) taken.union_at.put ∙ get_or-set_same rows i (union (get_or rows i []) c.args.self.now.tuple) [] taken.union_at.within)
    c.in_ok-join_first.ensures.grows

pub returns-in-Some-clause-unfilled : goal.returns-in-Some-clause-unfilled
returns-in-Some-clause-unfilled c =
    let count = length (param_at c.args.self.now.asker.context.model.params c.args.column).values in
    let taken = taken_at c.in-Some.is c.in_ok-join_first.ensures.place c.in_ok-join_first.ensures.room in
    subst (λ (rows : List (List (Option ℕ))). HasUnfilled c.args.columns.now c.args.column count rows c.args.unfilled.now) (sym taken.union_at.put)
    (unfilled-union c.args.columns.now c.args.column count c.args.self.now.rows c.args.unfilled.now c.args.self.now.tuple c.in-Some.field-0
    taken.union_at.within c.requires.unfilled)

pub returns-in_err-settle_alone-in-None-clause-asked : goal.returns-in_err-settle_alone-in-None-clause-asked
returns-in_err-settle_alone-in-None-clause-asked c =
    let context = c.args.self.now.asker.context in
    let alone = is_alone c.args.self.now.asker.context c.args.self.now.tuple c.args.self.now.rows c.in-None.is c.in_ok-join_first.ensures.taken c.in_ok-join_first.ensures.asked in
    let p = err_from_is_err_and c.from_residual-in_err-settle_alone-in-None.result c.from_residual-in_err-settle_alone-in-None.ensures.1 in
    rw (p.1, p.2) (told-err (Unit {0}) (Unit {0}) c.in_err-settle_alone-in-None.field-0.0 c.settle_alone.new.self.asker.question
    (first_spent context (c.args.self.now.tuple ∷ []))
    (first_spent context (settle (extends context) c.args.self.now.tuple c.args.self.now.rows).asked)
    (λ over. settle-asks context c.args.self.now.tuple c.args.self.now.rows alone.alone alone.unspent ∙ over)
    (subst (λ (w : QuestionsView). Told {A = Unit {0}} (Err c.in_err-settle_alone-in-None.field-0.0) c.settle_alone.new.self.asker.question
    (first_spent w (c.args.self.now.tuple ∷ []))) c.in_ok-join_first.ensures.same
    c.in_err-settle_alone-in-None.ensures.asked))

pub returns-in_ok-settle_alone-in-None-clause-asked : goal.returns-in_ok-settle_alone-in-None-clause-asked
returns-in_ok-settle_alone-in-None-clause-asked c =
    let alone = is_alone c.args.self.now.asker.context c.args.self.now.tuple c.args.self.now.rows c.in-None.is c.in_ok-join_first.ensures.taken c.in_ok-join_first.ensures.asked in
    settle-asks c.args.self.now.asker.context c.args.self.now.tuple c.args.self.now.rows alone.alone alone.unspent
    ∙ ap (λ (w : QuestionsView). first_spent w (c.args.self.now.tuple ∷ [])) (sym c.in_ok-join_first.ensures.same) ∙ c.in_ok-settle_alone-in-None.ensures.asked

pub returns-in_ok-settle_alone-in-None-clause-rows : goal.returns-in_ok-settle_alone-in-None-clause-rows
returns-in_ok-settle_alone-in-None-clause-rows c =
    let context = c.args.self.now.asker.context in
    let rows = c.args.self.now.rows in
    let alone = is_alone c.args.self.now.asker.context c.args.self.now.tuple c.args.self.now.rows c.in-None.is c.in_ok-join_first.ensures.taken c.in_ok-join_first.ensures.asked in
    c.in_ok-settle_alone-in-None.ensures.rows
    ∙ ap (λ (w : QuestionsView). rows_alone w c.args.self.now.tuple c.join_first.new.rows) c.in_ok-join_first.ensures.same
    ∙ ap (rows_alone context c.args.self.now.tuple) (c.in_ok-join_first.ensures.unchanged c.in-None.is)
    ∙ sym (settle-alone_rows (extends context) c.args.self.now.tuple rows alone.alone)

pub returns-in_ok-settle_alone-in-None-clause-omitted : goal.returns-in_ok-settle_alone-in-None-clause-omitted
returns-in_ok-settle_alone-in-None-clause-omitted c =
    let context = c.args.self.now.asker.context in
    let rows = c.args.self.now.rows in
    let alone = is_alone context c.args.self.now.tuple rows c.in-None.is c.in_ok-join_first.ensures.taken c.in_ok-join_first.ensures.asked in
    c.in_ok-settle_alone-in-None.ensures.omitted
    ∙ ap (λ (w : QuestionsView). c.args.self.now.omitted.items ++ omitted_alone w c.args.self.now.tuple) c.in_ok-join_first.ensures.same
    ∙ ap (λ list. c.args.self.now.omitted.items ++ list) (sym (settle-alone_omitted (extends context) c.args.self.now.tuple rows alone.alone))
