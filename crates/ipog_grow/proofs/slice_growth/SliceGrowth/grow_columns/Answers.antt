use Rattle.std.proofs.Common.{◌≡◌, ◌∙◌, ◌<◌, ◌+◌, ◌++◌, Err, None, All, IsPermutation, drop, take, get_or, ap, arith, length, map, refl, sym, subst}
use Rattle.std.specs.List.{range_with_len}
use Rattle.std.proofs.lemmas.Result.{err_from_is_err_and}
use Rattle.std.proofs.lemmas.List.Elements.{All-head}
use Rattle.cov_model.specs.believed.Sound.{ModelView}
use Rattle.definitions.specs.believed.Pairs.{pairs_of}
use Rattle.full_search.specs.Questions.{QuestionsView}
use Rattle.ipog_grow.specs.Asking.{Grows, IsReady, Told, first_spent, column_grown, columns_grown}
use Rattle.ipog_grow.proofs.Asking.{told-err}
use Rattle.cov_model.specs.declared.slice.Slice.{Slice}
use Rattle.std.proofs.lemmas.List.{get_or_default}
use Rattle.ipog_grow.specs.Growing.{columns_to, up_to}
use Rattle.ipog_grow.proofs.ColumnLemmas.{All-up_to}
use Rattle.ipog_grow.proofs.Taking.{taking-at, columns-exist, take-columns_to, taking-start, taking-next, taking-more, taking-spent}
use Rattle.ipog_grow.proofs.slice_growth.SliceGrowth.grow_columns.Goals as goal

pub loop-k-init : goal.loop-k-init
loop-k-init g c =
    let moved = subst (λ (m : ModelView). IsPermutation (range_with_len 0 (length m.params)) c.in_ok-order.order.items) (sym c.requires.model)
    c.in_ok-order.ensures.each in
    record {
      context = refl;
      tuple = refl;
      room = refl;
      order = c.in_ok-order.ensures.value;
      taking = taking-start c.args.self.now.asker.context c.in_ok-order.order.items c.args.self.now.table c.args.self.now.rows c.args.self.now.omitted.items
          c.assert_invariant.ensures.context c.requires.is_new.fresh moved c.requires.grows;
    }

pub grow_column-requires-clause-column : goal.grow_column-requires-clause-column
grow_column-requires-clause-column g c _ _ =
    let size : c.in_ok-order.order.len ≡ length c.in_ok-order.order.items = omega (arith, c.in_ok-order.order.ok.0) in
    let within : c.loop-k.k < length c.in_ok-order.order.items = omega (arith, size) in
    let column : c.index.result.now ≡ get_or c.in_ok-order.order.items c.loop-k.k 0 = c.index.ensures
    ∙ get_or_default c.in_ok-order.order.items c.loop-k.k c.index.result.now 0 within in
    let taking = taking-at c.args.self.now.asker.context c.in_ok-order.order.items c.loop-k.k c.index.result.now c.loop-k.self.table
    c.args.self.now.rows c.loop-k.self.rows c.args.self.now.omitted.items c.loop-k.self.omitted.items within column c.loop-k.invariant.taking in
    subst (λ (w : QuestionsView). c.index.result.now < length w.model.params) (sym c.loop-k.invariant.context)
    (All-head (λ p. p < length c.args.self.now.asker.context.model.params) c.index.result.now (drop (c.loop-k.k + 1) c.in_ok-order.order.items)
    taking.ready.exist)

pub grow_column-requires-clause-ready : goal.grow_column-requires-clause-ready
grow_column-requires-clause-ready g c _ _ =
    let size : c.in_ok-order.order.len ≡ length c.in_ok-order.order.items = omega (arith, c.in_ok-order.order.ok.0) in
    let within : c.loop-k.k < length c.in_ok-order.order.items = omega (arith, size) in
    let column : c.index.result.now ≡ get_or c.in_ok-order.order.items c.loop-k.k 0 = c.index.ensures
    ∙ get_or_default c.in_ok-order.order.items c.loop-k.k c.index.result.now 0 within in
    let taking = taking-at c.args.self.now.asker.context c.in_ok-order.order.items c.loop-k.k c.index.result.now c.loop-k.self.table
    c.args.self.now.rows c.loop-k.self.rows c.args.self.now.omitted.items c.loop-k.self.omitted.items within column c.loop-k.invariant.taking in
    subst (λ (w : QuestionsView). IsReady w c.loop-k.self.table c.index.result.now c.loop-k.self.rows) (sym c.loop-k.invariant.context)
    (taking-next taking.ready)

pub returns-in_err-grow_column-clause-asked : goal.returns-in_err-grow_column-clause-asked
returns-in_err-grow_column-clause-asked g c =
    let size : c.in_ok-order.order.len ≡ length c.in_ok-order.order.items = omega (arith, c.in_ok-order.order.ok.0) in
    let within : c.loop-k.k < length c.in_ok-order.order.items = omega (arith, size) in
    let column : c.index.result.now ≡ get_or c.in_ok-order.order.items c.loop-k.k 0 = c.index.ensures
    ∙ get_or_default c.in_ok-order.order.items c.loop-k.k c.index.result.now 0 within in
    let taking = taking-at c.args.self.now.asker.context c.in_ok-order.order.items c.loop-k.k c.index.result.now c.loop-k.self.table
    c.args.self.now.rows c.loop-k.self.rows c.args.self.now.omitted.items c.loop-k.self.omitted.items within column c.loop-k.invariant.taking in
    let p = err_from_is_err_and c.from_residual-in_err-grow_column.result c.from_residual-in_err-grow_column.ensures.1 in
    rw (p.1, p.2) (subst (λ order. Told {A = Unit {0}} (Err c.in_err-grow_column.field-0.0) c.grow_column.new.self.asker.question
    (first_spent c.args.self.now.asker.context (columns_grown c.args.self.now.asker.context order c.args.self.now.rows).asked))
    c.loop-k.invariant.order
    (told-err (Unit {0}) (Unit {0}) c.in_err-grow_column.field-0.0 c.grow_column.new.self.asker.question
    (first_spent c.args.self.now.asker.context (column_grown c.args.self.now.asker.context c.index.result.now c.loop-k.self.rows).asked)
    (first_spent c.args.self.now.asker.context (columns_grown c.args.self.now.asker.context c.in_ok-order.order.items c.args.self.now.rows).asked)
    (λ over. taking-spent taking over)
    (subst (λ (w : QuestionsView). Told {A = Unit {0}} (Err c.in_err-grow_column.field-0.0) c.grow_column.new.self.asker.question
    (first_spent w (column_grown w c.index.result.now c.loop-k.self.rows).asked)) c.loop-k.invariant.context c.in_err-grow_column.ensures.asked)))

pub loop-k-preserved : goal.loop-k-preserved
loop-k-preserved g c =
    let size : c.in_ok-order.order.len ≡ length c.in_ok-order.order.items = omega (arith, c.in_ok-order.order.ok.0) in
    let within : c.loop-k.k < length c.in_ok-order.order.items = omega (arith, size) in
    let column : c.index.result.now ≡ get_or c.in_ok-order.order.items c.loop-k.k 0 = c.index.ensures
    ∙ get_or_default c.in_ok-order.order.items c.loop-k.k c.index.result.now 0 within in
    let taking = taking-at c.args.self.now.asker.context c.in_ok-order.order.items c.loop-k.k c.index.result.now c.loop-k.self.table
    c.args.self.now.rows c.loop-k.self.rows c.args.self.now.omitted.items c.loop-k.self.omitted.items within column c.loop-k.invariant.taking in
    record {
      context = c.grow_column.ensures.same ∙ c.loop-k.invariant.context;
      tuple = c.grow_column.ensures.tuple ∙ c.loop-k.invariant.tuple;
      room = c.grow_column.ensures.room ∙ c.loop-k.invariant.room;
      order = c.loop-k.invariant.order;
      taking =
          taking-more taking
          (subst (λ (w : QuestionsView). first_spent w (column_grown w c.index.result.now c.loop-k.self.rows).asked ≡ None)
          c.loop-k.invariant.context c.in_ok-grow_column.ensures.asked)
          (subst (λ (w : QuestionsView). c.grow_column.new.self.rows ≡ (column_grown w c.index.result.now c.loop-k.self.rows).rows)
          c.loop-k.invariant.context c.in_ok-grow_column.ensures.rows)
          (subst (λ (w : QuestionsView). c.grow_column.new.self.omitted.items ≡ c.loop-k.self.omitted.items
          ++ map pairs_of (column_grown w c.index.result.now c.loop-k.self.rows).omitted) c.loop-k.invariant.context c.in_ok-grow_column.ensures.omitted)
          c.in_ok-grow_column.ensures.keeps
          (subst (λ (w : QuestionsView). All (Grows w) c.grow_column.new.self.rows) c.loop-k.invariant.context c.in_ok-grow_column.ensures.grows);
    }

pub grow_column-requires-clause-columns : goal.grow_column-requires-clause-columns
grow_column-requires-clause-columns g c _ _ =
    let moved = subst (λ (m : ModelView). IsPermutation (range_with_len 0 (length m.params)) c.in_ok-order.order.items)
    (sym c.requires.model) c.in_ok-order.ensures.each in
    let size : c.in_ok-order.order.len ≡ length c.in_ok-order.order.items = omega (arith, c.in_ok-order.order.ok.0) in
    let within : c.loop-k.k < length c.in_ok-order.order.items = omega (arith, size) in
    let column : c.index.result.now ≡ get_or c.in_ok-order.order.items c.loop-k.k 0 = c.index.ensures
    ∙ get_or_default c.in_ok-order.order.items c.loop-k.k c.index.result.now 0 within in
    let columns = ap (λ list. take (c.loop-k.k + 1) list) c.deref.ensures.value
    ∙ take-columns_to (length c.args.self.now.asker.context.model.params) c.in_ok-order.order.items c.loop-k.k c.index.result.now moved within column in
    columns ∙ ap (up_to c.index.result.now) c.loop-k.invariant.order ∙ ap (λ (m : ModelView). columns_to m c.args.slice c.index.result.now)
    (sym c.requires.model)
    ∙ ap (λ (s : Slice). columns_to c.args.self.now.asker.context.model s c.index.result.now) (sym c.requires.slice)
    ∙ ap (λ (w : QuestionsView). columns_to w.model w.slice c.index.result.now) (sym c.loop-k.invariant.context)

pub grow_column-requires-clause-exist : goal.grow_column-requires-clause-exist
grow_column-requires-clause-exist g c _ _ =
    let moved = subst (λ (m : ModelView). IsPermutation (range_with_len 0 (length m.params)) c.in_ok-order.order.items)
    (sym c.requires.model) c.in_ok-order.ensures.each in
    let size : c.in_ok-order.order.len ≡ length c.in_ok-order.order.items = omega (arith, c.in_ok-order.order.ok.0) in
    let within : c.loop-k.k < length c.in_ok-order.order.items = omega (arith, size) in
    let column : c.index.result.now ≡ get_or c.in_ok-order.order.items c.loop-k.k 0 = c.index.ensures
    ∙ get_or_default c.in_ok-order.order.items c.loop-k.k c.index.result.now 0 within in
    let columns = ap (λ list. take (c.loop-k.k + 1) list) c.deref.ensures.value
    ∙ take-columns_to (length c.args.self.now.asker.context.model.params) c.in_ok-order.order.items c.loop-k.k c.index.result.now moved within column in
    subst (λ (w : QuestionsView). All (λ p. p < length w.model.params) (take (c.loop-k.k + 1) c.deref.result.now)) (sym c.loop-k.invariant.context)
    (subst (All (λ p. p < length c.args.self.now.asker.context.model.params)) (sym columns)
    (All-up_to (λ p. p < length c.args.self.now.asker.context.model.params) c.index.result.now c.in_ok-order.order.items
    (columns-exist (length c.args.self.now.asker.context.model.params) c.in_ok-order.order.items moved)))
