use Rattle.std.proofs.Common.{◌≡◌, ◌∙◌, ◌++◌, [], ℕ, ◌<◌, IfSome, Err, None, true, not, get_or, length, map, ap, sym, subst}
use Rattle.std.specs.List.{list_any}
use Rattle.std.proofs.lemmas.Result.{err_from_is_err_and}
use Rattle.value_text.proofs.ListLemmas.{none_of}
use Rattle.cov_model.specs.believed.Sound.{ModelView, param_at}
use Rattle.cov_model.specs.declared.slice.Slice.{Slice}
use Rattle.definitions.specs.believed.Growth.{down, settle}
use Rattle.definitions.specs.believed.Pairs.{pairs_of}
use Rattle.tuple_index.specs.Places.{RisesFrom}
use Rattle.uncovered_table.specs.Places.{is_place, slice_places, tuple_at}
use Rattle.ipog_grow.specs.Growing.{open_tuples}
use Rattle.ipog_grow.specs.UnfilledRows.{HasUnfilled}
use Rattle.full_search.specs.Questions.{QuestionsView}
use Rattle.ipog_grow.specs.Asking.{IsNext, IsPassed, Told, extends, first_spent}
use Rattle.ipog_grow.proofs.Asking.{told-err}
use Rattle.ipog_grow.proofs.PlaceTupleLemmas.{placed}
use Rattle.ipog_grow.proofs.UnfilledLemmas.{value-within}
use Rattle.ipog_grow.proofs.VerticalLemmas.{Downed, downing-start, downing-next, downing-more, downing-spent, downing-end, downing-falls}
use Rattle.ipog_grow.proofs.slice_growth.SliceGrowth.grow_vertically.Goals as goal

-- no tuple is open from the start
ended : (c : goal.Then-is_none) → Downed c.args.self.now.asker.context c.args.column c.args.self.now.table c.args.self.now.rows c.args.self.now.rows
    c.args.self.now.omitted.items c.args.self.now.omitted.items
ended c =
    downing-end (downing-start c.args.self.now.asker.context c.args.column c.args.self.now.table c.args.self.now.rows c.args.self.now.omitted.items
    c.requires.is_open)
    (sym c.next_open.ensures.value ∙ none_of c.next_open.result (c.is_none.ensures ∙ ap not c.if-is_none.true))

pub returns-then-is_none-clause-asked : goal.returns-then-is_none-clause-asked
returns-then-is_none-clause-asked c = (ended c).asked

pub returns-then-is_none-clause-rows : goal.returns-then-is_none-clause-rows
returns-then-is_none-clause-rows c = (ended c).given

pub returns-then-is_none-clause-omitted : goal.returns-then-is_none-clause-omitted
returns-then-is_none-clause-omitted c = (ended c).left_out

pub among-requires-clause-values : goal.among-requires-clause-values
among-requires-clause-values c =
    let rows = c.args.self.now.rows in
    λ i d within.
    subst (λ n. IfSome (get_or (get_or rows i d) c.args.column None) (λ v. v < n)) (sym c.requires.count)
    (value-within c.args.self.now.asker.context.model (get_or rows i d) c.args.column (c.requires.is_open.grows i d within).of.fits)

pub put_tuple-given-requires-clause-set : goal.put_tuple-given-requires-clause-set
put_tuple-given-requires-clause-set c =
    let own = placed c.loop-place.self.table c.assert_invariant.ensures.context c.loop-place.invariant.downing.is_open.of c.requires.plan
    c.assert_invariant-2.ensures c.in-Some.ensures.own in
    own.known

pub put_tuple-given-requires-clause-rank : goal.put_tuple-given-requires-clause-rank
put_tuple-given-requires-clause-rank c =
    let own = placed c.loop-place.self.table c.assert_invariant.ensures.context c.loop-place.invariant.downing.is_open.of c.requires.plan
    c.assert_invariant-2.ensures c.in-Some.ensures.own in
    own.below

pub put_tuple-given-requires-clause-members : goal.put_tuple-given-requires-clause-members
put_tuple-given-requires-clause-members c =
    let own = placed c.loop-place.self.table c.assert_invariant.ensures.context c.loop-place.invariant.downing.is_open.of c.requires.plan
    c.assert_invariant-2.ensures c.in-Some.ensures.own in
    own.few

pub put_tuple-given-requires-clause-rise : goal.put_tuple-given-requires-clause-rise
put_tuple-given-requires-clause-rise c =
    let own = placed c.loop-place.self.table c.assert_invariant.ensures.context c.loop-place.invariant.downing.is_open.of c.requires.plan
    c.assert_invariant-2.ensures c.in-Some.ensures.own in
    subst (λ n. RisesFrom 0 n (get_or c.args.plan.now.sets c.in-Some.place.0 [])) (sym (c.loop-place.invariant.tuple ∙ c.requires.tuple)) own.rise

pub settle-requires-clause-next : goal.settle-requires-clause-next
settle-requires-clause-next c =
    let put = c.put_tuple-given.ensures.tuple c.args.self.now.asker.context.model c.requires.plan (c.loop-place.invariant.tuple ∙ c.requires.tuple) in
    let next = downing-next c.loop-place.invariant.downing (sym c.next_open-in-loop-place.ensures.value ∙ c.in-Some.is) c.in-Some.ensures.own
    (put ∙ ap (λ (m : ModelView). tuple_at m c.in-Some.place) (sym c.loop-place.invariant.downing.is_open.of.0)) in
    subst (λ (w : QuestionsView). IsNext w c.loop-place.self.table c.args.column c.in-Some.place c.put_tuple-given.new.into c.loop-place.self.rows)
    (sym c.loop-place.invariant.context) next

pub settle-requires-clause-unfilled : goal.settle-requires-clause-unfilled
settle-requires-clause-unfilled c =
    subst (λ (n : ℕ). HasUnfilled c.args.columns.now c.args.column n c.loop-place.self.rows c.loop-place.unfilled)
    (c.requires.count ∙ ap (λ (w : QuestionsView). length (param_at w.model.params c.args.column).values) (sym c.loop-place.invariant.context))
    c.loop-place.invariant.unfilled

pub returns-in_err-settle-clause-asked : goal.returns-in_err-settle-clause-asked
returns-in_err-settle-clause-asked c =
    let put = c.put_tuple-given.ensures.tuple c.args.self.now.asker.context.model c.requires.plan (c.loop-place.invariant.tuple ∙ c.requires.tuple) in
    let next = downing-next c.loop-place.invariant.downing (sym c.next_open-in-loop-place.ensures.value ∙ c.in-Some.is) c.in-Some.ensures.own
    (put ∙ ap (λ (m : ModelView). tuple_at m c.in-Some.place) (sym c.loop-place.invariant.downing.is_open.of.0)) in
    let p = err_from_is_err_and c.from_residual-in_err-settle.result c.from_residual-in_err-settle.ensures.1 in
    rw (p.1, p.2) (told-err (Unit {0}) (Unit {0}) c.in_err-settle.field-0.0 c.settle.new.self.asker.question
    (first_spent c.args.self.now.asker.context (settle (extends c.args.self.now.asker.context) c.put_tuple-given.new.into c.loop-place.self.rows).asked)
    (first_spent c.args.self.now.asker.context (down (extends c.args.self.now.asker.context) (open_tuples c.args.self.now.table c.args.column)
    c.args.self.now.rows).asked)
    (λ over. downing-spent c.loop-place.invariant.downing next over)
    (subst (λ (w : QuestionsView). Told {A = Unit {0}} (Err c.in_err-settle.field-0.0) c.settle.new.self.asker.question
    (first_spent w (settle (extends w) c.put_tuple-given.new.into c.loop-place.self.rows).asked)) c.loop-place.invariant.context
    c.in_err-settle.ensures.asked))

pub loop-place-smaller : goal.loop-place-smaller
loop-place-smaller c =
    let put = c.put_tuple-given.ensures.tuple c.args.self.now.asker.context.model c.requires.plan (c.loop-place.invariant.tuple ∙ c.requires.tuple) in
    let next = downing-next c.loop-place.invariant.downing (sym c.next_open-in-loop-place.ensures.value ∙ c.in-Some.is) c.in-Some.ensures.own
    (put ∙ ap (λ (m : ModelView). tuple_at m c.in-Some.place) (sym c.loop-place.invariant.downing.is_open.of.0)) in
    let passes = subst (λ (w : QuestionsView). IsPassed w c.loop-place.self.table c.settle.new.self.table c.args.column c.in-Some.place
    c.settle.new.self.rows) c.loop-place.invariant.context c.in_ok-settle.ensures.passed in
    downing-falls next passes

pub loop-place-preserved : goal.loop-place-preserved
loop-place-preserved c =
    let put = c.put_tuple-given.ensures.tuple c.args.self.now.asker.context.model c.requires.plan (c.loop-place.invariant.tuple ∙ c.requires.tuple) in
    let next = downing-next c.loop-place.invariant.downing (sym c.next_open-in-loop-place.ensures.value ∙ c.in-Some.is) c.in-Some.ensures.own
    (put ∙ ap (λ (m : ModelView). tuple_at m c.in-Some.place) (sym c.loop-place.invariant.downing.is_open.of.0)) in
    let passes = subst (λ (w : QuestionsView). IsPassed w c.loop-place.self.table c.settle.new.self.table c.args.column c.in-Some.place
    c.settle.new.self.rows) c.loop-place.invariant.context c.in_ok-settle.ensures.passed in
    record {
      context = c.settle.ensures.same ∙ c.loop-place.invariant.context;
      tuple = c.take_tuple.ensures.long ∙ ap length c.settle.ensures.tuple ∙ c.put_tuple-given.ensures.long ∙ c.loop-place.invariant.tuple;
      blank = c.take_tuple.ensures.none;
      room = c.settle.ensures.room ∙ c.loop-place.invariant.room;
      unfilled =
          subst (λ (n : ℕ). HasUnfilled c.args.columns.now c.args.column n c.settle.new.self.rows c.settle.new.unfilled)
          (ap (λ (w : QuestionsView). length (param_at w.model.params c.args.column).values) c.loop-place.invariant.context ∙ sym c.requires.count)
          c.in_ok-settle.ensures.unfilled;
      from =
          subst (λ (m : ModelView). list_any (is_place c.in-Some.place) (slice_places m c.settle.new.self.table.slice) ≡ true) (sym passes.keeps.model)
          (subst (λ (s : Slice). list_any (is_place c.in-Some.place) (slice_places c.loop-place.self.table.model s) ≡ true)
          (sym passes.keeps.slice) c.in-Some.ensures.own);
      downing =
          downing-more c.loop-place.invariant.downing next
          (subst (λ (w : QuestionsView). first_spent w (settle (extends w) c.put_tuple-given.new.into c.loop-place.self.rows).asked ≡ None)
          c.loop-place.invariant.context c.in_ok-settle.ensures.asked)
          (subst (λ (w : QuestionsView). c.settle.new.self.rows ≡ (settle (extends w) c.put_tuple-given.new.into c.loop-place.self.rows).rows)
          c.loop-place.invariant.context c.in_ok-settle.ensures.rows)
          (subst (λ (w : QuestionsView). c.settle.new.self.omitted.items ≡ c.loop-place.self.omitted.items
          ++ map pairs_of (settle (extends w) c.put_tuple-given.new.into c.loop-place.self.rows).omitted) c.loop-place.invariant.context c.in_ok-settle.ensures.omitted)
          passes;
    }

pub returns-clause-asked : goal.returns-clause-asked
returns-clause-asked c =
    (downing-end c.loop-place.invariant.downing (sym c.next_open-in-loop-place.ensures.value ∙ c.in_default.is)).asked

pub returns-clause-rows : goal.returns-clause-rows
returns-clause-rows c =
    (downing-end c.loop-place.invariant.downing (sym c.next_open-in-loop-place.ensures.value ∙ c.in_default.is)).given

pub returns-clause-omitted : goal.returns-clause-omitted
returns-clause-omitted c =
    (downing-end c.loop-place.invariant.downing (sym c.next_open-in-loop-place.ensures.value ∙ c.in_default.is)).left_out
