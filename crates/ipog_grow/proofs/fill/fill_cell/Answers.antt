use Rattle.std.proofs.Common.{◌≡◌, ◌∙◌, [], ℕ, List, Option, Some, length, get_or, set, ap, sym, subst, false, inl, inr, refl, arith}
use Rattle.std.specs.Prelude.{IfSome}
use Rattle.std.proofs.lemmas.List.{set-get_or}
use Rattle.std.proofs.lemmas.Result.{err_from_is_err_and}
use Rattle.cov_model.proofs.CellLemmas.{contains-refl}
use Rattle.cov_model.specs.believed.Rows.{contains, is_assigned}
use Rattle.cov_model.specs.believed.Sound.{ModelView, param_at}
use Rattle.cov_model.specs.declared.slice.Slice.{Slice}
use Rattle.definitions.specs.believed.Growth.{Filled}
use Rattle.definitions.specs.SliceRows.{IsOfSlice}
use Rattle.uncovered_table.specs.Open.{row_closed}
use Rattle.ipog_grow.specs.Asking.{Grows, first_spent, filled, tried}
use Rattle.ipog_grow.proofs.Asking.{told-err}
use Rattle.ipog_grow.proofs.Filling.{IsPutBack, fills_copy, put_back, scored}
use Rattle.ipog_grow.proofs.fill.fill_cell.Goals as goal

pub returns-then-is_some-clause-others : goal.returns-then-is_some-clause-others
returns-then-is_some-clause-others g c = sym (set-get_or c.args.rows.now c.args.i [])

pub returns-then-is_some-clause-more : goal.returns-then-is_some-clause-more
returns-then-is_some-clause-more g c = contains-refl (get_or c.args.rows.now c.args.i [])

pub put_gains-requires-clause-row : goal.put_gains-requires-clause-row
put_gains-requires-clause-row g c _ _ =
    let own : Grows c.args.asker.now.context c.copy_from_slice.new.self =
    subst (Grows c.args.asker.now.context) (sym (c.copy_from_slice.ensures ∙ c.row-row.ensures)) c.requires.grows in
    subst (λ (m : ModelView). IsOfSlice m c.args.table.now.slice c.copy_from_slice.new.self) (sym c.requires.table.0)
    (subst (λ (s : Slice). IsOfSlice c.args.asker.now.context.model s c.copy_from_slice.new.self) (sym c.requires.table.1) own.of)

pub try_values-requires-clause-listed : goal.try_values-requires-clause-listed
try_values-requires-clause-listed g c =
    let own : Grows c.args.asker.now.context c.copy_from_slice.new.self =
    subst (Grows c.args.asker.now.context) (sym (c.copy_from_slice.ensures ∙ c.row-row.ensures)) c.requires.grows in
    (scored c.args.asker.now.context c.args.table.now c.args.column c.copy_from_slice.new.self (length c.args.scores.now) c.put_gains.new.scores
    (omega (arith, c.requires.column, own.of.fits.as_long)) c.requires.in_play c.put_gains.ensures).listed

pub try_values-requires-clause-grows : goal.try_values-requires-clause-grows
try_values-requires-clause-grows g c =
    subst (Grows c.args.asker.now.context) (sym (c.copy_from_slice.ensures ∙ c.row-row.ensures)) c.requires.grows

pub try_values-requires-clause-free : goal.try_values-requires-clause-free
try_values-requires-clause-free g c =
    ap (λ (row : List (Option ℕ)). is_assigned row c.args.column) c.copy_from_slice.ensures ∙ sym c.is_some.ensures ∙ c.if-is_some.false

pub returns-in_err-v-clause-asked : goal.returns-in_err-v-clause-asked
returns-in_err-v-clause-asked g c known tuples moment =
    let free : is_assigned (get_or c.args.rows.now c.args.i []) c.args.column ≡ false =
    ap (λ (row : List (Option ℕ)). is_assigned row c.args.column) (sym c.row-row.ensures) ∙ sym c.is_some.ensures ∙ c.if-is_some.false in
    let long : length c.put_gains.new.scores ≡ length (param_at c.args.asker.now.context.model.params c.args.column).values =
    omega (arith, c.requires.scores, c.put_gains.auto.scores) in
    let by = fills_copy c.args.table.now _ c.assert_invariant.ensures.context c.requires.column c.requires.order long c.requires.in_play c.requires.grows
    (c.copy_from_slice.ensures ∙ c.row-row.ensures) c.put_gains.ensures free moment in
    let p = err_from_is_err_and c.from_residual.result c.from_residual.ensures.1 in
    rw (p.1, p.2) (told-err (Option ℕ) (Unit {0}) c.in_err-v.field-0.0 c.try_values.new.asker.question
    (first_spent c.args.asker.now.context (tried c.args.asker.now.context (length tuples) c.put_gains.new.scores c.args.order.now c.args.column
    c.copy_from_slice.new.self).asked)
    (first_spent c.args.asker.now.context (filled c.args.asker.now.context c.args.column known tuples (get_or c.args.rows.now c.args.i [])).asked)
    (λ over. ap (λ (f : Filled). first_spent c.args.asker.now.context f.asked) by.same ∙ over)
    (c.in_err-v.ensures.asked (length tuples) by.most))

pub set_cell-requires-clause-parameter : goal.set_cell-requires-clause-parameter
set_cell-requires-clause-parameter g c = omega (arith, c.requires.column, c.requires.grows.of.fits.as_long)

given : (g : _) (c : goal.After-set_cell g) → IsPutBack c.args.rows.now c.set_cell.new.self c.args.i c.try_values.new.row
given g c =
    put_back c.args.column c.in-Some.v c.requires.place (c.copy_from_slice.ensures ∙ c.row-row.ensures)
    (subst (λ (o : Option ℕ). IfSome o (λ v. c.try_values.new.row ≡ set c.copy_from_slice.new.self c.args.column (Some v))) c.in-Some.is
    c.in_ok-v.ensures.given) c.set_cell.ensures

pub returns-in-Some-clause-asked : goal.returns-in-Some-clause-asked
returns-in-Some-clause-asked g c known tuples moment =
    let free : is_assigned (get_or c.args.rows.now c.args.i []) c.args.column ≡ false =
    ap (λ (row : List (Option ℕ)). is_assigned row c.args.column) (sym c.row-row.ensures) ∙ sym c.is_some.ensures ∙ c.if-is_some.false in
    let long : length c.put_gains.new.scores ≡ length (param_at c.args.asker.now.context.model.params c.args.column).values =
    omega (arith, c.requires.scores, c.put_gains.auto.scores) in
    let by = fills_copy c.args.table.now _ c.assert_invariant.ensures.context c.requires.column c.requires.order long c.requires.in_play c.requires.grows
    (c.copy_from_slice.ensures ∙ c.row-row.ensures) c.put_gains.ensures free moment in
    ap (λ (f : Filled). first_spent c.args.asker.now.context f.asked) by.same ∙ c.in_ok-v.ensures.asked (length tuples) by.most

pub returns-in-Some-clause-row : goal.returns-in-Some-clause-row
returns-in-Some-clause-row g c known tuples moment =
    let free : is_assigned (get_or c.args.rows.now c.args.i []) c.args.column ≡ false =
    ap (λ (row : List (Option ℕ)). is_assigned row c.args.column) (sym c.row-row.ensures) ∙ sym c.is_some.ensures ∙ c.if-is_some.false in
    let long : length c.put_gains.new.scores ≡ length (param_at c.args.asker.now.context.model.params c.args.column).values =
    omega (arith, c.requires.scores, c.put_gains.auto.scores) in
    let by = fills_copy c.args.table.now _ c.assert_invariant.ensures.context c.requires.column c.requires.order long c.requires.in_play c.requires.grows
    (c.copy_from_slice.ensures ∙ c.row-row.ensures) c.put_gains.ensures free moment in
    (given g c).is ∙ c.in_ok-v.ensures.row (length tuples) by.most ∙ sym (ap (λ (f : Filled). f.row) by.same)

pub returns-in-Some-clause-others : goal.returns-in-Some-clause-others
returns-in-Some-clause-others g c = (given g c).others

pub returns-in-Some-clause-closes : goal.returns-in-Some-clause-closes
returns-in-Some-clause-closes g c = inr (c.close_row.ensures ∙ ap (row_closed c.args.table.now c.args.column) (sym (given g c).is))

pub returns-in-Some-clause-grows : goal.returns-in-Some-clause-grows
returns-in-Some-clause-grows g c = subst (Grows c.args.asker.now.context) (sym (given g c).is) c.in_ok-v.ensures.grows

pub returns-in-Some-clause-more : goal.returns-in-Some-clause-more
returns-in-Some-clause-more g c =
    ap (λ (row : List (Option ℕ)). contains row (get_or c.args.rows.now c.args.i [])) (given g c).is
    ∙ ap (contains c.try_values.new.row) (sym (c.copy_from_slice.ensures ∙ c.row-row.ensures)) ∙ c.in_ok-v.ensures.more

pub returns-in_default-clause-asked : goal.returns-in_default-clause-asked
returns-in_default-clause-asked g c known tuples moment =
    let free : is_assigned (get_or c.args.rows.now c.args.i []) c.args.column ≡ false =
    ap (λ (row : List (Option ℕ)). is_assigned row c.args.column) (sym c.row-row.ensures) ∙ sym c.is_some.ensures ∙ c.if-is_some.false in
    let long : length c.put_gains.new.scores ≡ length (param_at c.args.asker.now.context.model.params c.args.column).values =
    omega (arith, c.requires.scores, c.put_gains.auto.scores) in
    let by = fills_copy c.args.table.now _ c.assert_invariant.ensures.context c.requires.column c.requires.order long c.requires.in_play c.requires.grows
    (c.copy_from_slice.ensures ∙ c.row-row.ensures) c.put_gains.ensures free moment in
    ap (λ (f : Filled). first_spent c.args.asker.now.context f.asked) by.same ∙ c.in_ok-v.ensures.asked (length tuples) by.most

pub returns-in_default-clause-row : goal.returns-in_default-clause-row
returns-in_default-clause-row g c known tuples moment =
    let free : is_assigned (get_or c.args.rows.now c.args.i []) c.args.column ≡ false =
    ap (λ (row : List (Option ℕ)). is_assigned row c.args.column) (sym c.row-row.ensures) ∙ sym c.is_some.ensures ∙ c.if-is_some.false in
    let long : length c.put_gains.new.scores ≡ length (param_at c.args.asker.now.context.model.params c.args.column).values =
    omega (arith, c.requires.scores, c.put_gains.auto.scores) in
    let by = fills_copy c.args.table.now _ c.assert_invariant.ensures.context c.requires.column c.requires.order long c.requires.in_play c.requires.grows
    (c.copy_from_slice.ensures ∙ c.row-row.ensures) c.put_gains.ensures free moment in
    sym (c.in_ok-v.ensures.kept c.in_default.is ∙ c.copy_from_slice.ensures ∙ c.row-row.ensures)
    ∙ c.in_ok-v.ensures.row (length tuples) by.most ∙ sym (ap (λ (f : Filled). f.row) by.same)

pub returns-in_default-clause-others : goal.returns-in_default-clause-others
returns-in_default-clause-others g c = sym (set-get_or c.args.rows.now c.args.i [])

pub returns-in_default-clause-closes : goal.returns-in_default-clause-closes
returns-in_default-clause-closes g c = inl (refl, refl)

pub returns-in_default-clause-more : goal.returns-in_default-clause-more
returns-in_default-clause-more g c = contains-refl (get_or c.args.rows.now c.args.i [])
