use Rattle.std.proofs.Common.{◌≡◌, ◌++◌, ℕ, Bool, List, [], Option, Err, None, All, length, filter, filter_map, map, ◌∙◌, sym, ap, subst, arith}
use Rattle.std.proofs.lemmas.List.{length-map}
use Rattle.std.proofs.lemmas.Result.{on_ok_weaker}
use Rattle.definitions.specs.believed.Completion.{column_order}
use Rattle.definitions.specs.believed.Growth.{Grown, is_of_slice}
use Rattle.cov_model.specs.believed.Tuples.{cells_of}
use Rattle.definitions.specs.believed.Pairs.{pairs_of}
use Rattle.definitions.specs.believed.Search.{exceeds, question_cost}
use Rattle.definitions.specs.believed.Seeds.{distinct}
use Rattle.definitions.specs.SliceRows.{IsSliceOf}
use Rattle.full_search.specs.Questions.{QuestionsView}
use Rattle.ipog_grow.specs.Asking.{Grows, Told, columns_grown, first_spent}
use Rattle.ipog_grow.specs.Completing.{completed}
use Rattle.ipog_grow.specs.Inputs.{context_in}
use Rattle.ipog_grow.specs.Omissions.{IsOmittedIn, IsOmittedTuple}
use Rattle.feasibility.specs.Refuting.{earlier_tuples}
use Rattle.refutation.specs.Proofs.{ProofView}
use Rattle.feasibility.specs.Ends.{Ends}
use Rattle.ipog_grow.proofs.Omitting.{omitted-again, omitted-few, omitted-in, omitted-tuples}
use Rattle.ipog_grow.proofs.Slicing.{seeds_grow, stopped-in}
use Rattle.ipog_grow.proofs.Spending.{find-later, find-earlier}
use Rattle.ipog_grow.proofs.Trees.{omissions-count}
use Rattle.ipog_grow.proofs.slice_suite.grow_slice.Goals as goal

abbrev over : QuestionsView → List (Option ℕ) → Bool
over context cells = exceeds context.effort (question_cost context.model context.prefs cells)

-- what the columns give, as they start
same_grown : (now context : QuestionsView) (order : List ℕ) (grown start : List (List (Option ℕ))) → now ≡ context → grown ≡ start
    → columns_grown now order grown ≡ columns_grown context order start
same_grown now context order grown start same starts = ap (λ w. columns_grown w order grown) same ∙ ap (columns_grown context order) starts

same_asked : (now context : QuestionsView) (order : List ℕ) (grown start : List (List (Option ℕ))) → now ≡ context → grown ≡ start
    → first_spent now (columns_grown now order grown).asked ≡ first_spent context (columns_grown context order start).asked
same_asked now context order grown start same starts =
    ap (λ w. first_spent w (columns_grown w order grown).asked) same ∙ ap (λ rows. first_spent context (columns_grown context order rows).asked) starts

-- what they omit, behind nothing
same_omitted : (now context : QuestionsView) (order : List ℕ) (grown start : List (List (Option ℕ))) (before given : List (List (ℕ × ℕ))) → now ≡ context
    → grown ≡ start → before ≡ [] → given ≡ before ++ map pairs_of (columns_grown now order grown).omitted
    → given ≡ map pairs_of (columns_grown context order start).omitted
same_omitted now context order grown start before given same starts none gives =
    gives ∙ ap (λ tuples. tuples ++ map pairs_of (columns_grown now order grown).omitted) none ∙ ap (λ (g : Grown). map pairs_of g.omitted)
    (same_grown now context order grown start same starts)

-- which gives the tuples again, once they are put
same_tuples : (now context : QuestionsView) (before after : ProofView) (given : List (List (ℕ × ℕ))) (tuples : List (List (Option ℕ))) → now ≡ context
    → All (IsOmittedIn context) tuples → given ≡ map pairs_of tuples
    → earlier_tuples now.model after ≡ earlier_tuples now.model before ++ map (cells_of (length now.model.params)) given
    → earlier_tuples context.model after ≡ earlier_tuples context.model before ++ tuples
same_tuples now context before after given tuples same omitted gives put =
    subst (λ (w : QuestionsView). earlier_tuples w.model after ≡ earlier_tuples w.model before ++ map (cells_of (length w.model.params)) given) same put
    ∙ ap (λ list. earlier_tuples context.model before ++ list)
    (ap (map (cells_of (length context.model.params))) gives ∙ omitted-again context tuples omitted)

-- what their rows put behind others
same_put : (now context : QuestionsView) (order : List ℕ) (before given after start : List (List (Option ℕ))) → now ≡ context
    → given ≡ (columns_grown context order start).rows → after ≡ before ++ distinct (filter_map (completed now) given)
    → after ≡ before ++ distinct (filter_map (completed context) (columns_grown context order start).rows)
same_put now context order before given after start same is puts =
    puts ∙ ap (λ (w : QuestionsView). before ++ distinct (filter_map (completed w) given)) same
    ∙ ap (λ rows. before ++ distinct (filter_map (completed context) rows)) is

pub grow_columns-requires-clause-grows : goal.grow_columns-requires-clause-grows
grow_columns-requires-clause-grows g c _ _ =
    subst (λ (w : QuestionsView). All (Grows w) c.in-Ok.growth.rows) (sym c.in-Ok.ensures.context)
    (subst (λ (rows : List (List (Option ℕ))). All (Grows (context_in c.args.input.now c.args.slice)) rows)
    (sym c.in-Ok.ensures.rows)
    (seeds_grow c.args.input.now.model.now c.args.slice c.args.input.now.kept.now c.requires.input.fit c.requires.input.few))

pub returns-in-Err-clause-asked : goal.returns-in-Err-clause-asked
returns-in-Err-clause-asked g c =
    let context : QuestionsView = context_in c.args.input.now c.args.slice in
    let start : List (List (Option ℕ)) = filter (is_of_slice context.model c.args.slice) c.args.input.now.kept.now in
    let order : List ℕ = column_order context.model c.args.slice in
    let grown : Grown = columns_grown context order start in
    c.fault_of.ensures (first_spent context (grown.asked ++ grown.rows))
    (stopped-in (Unit {0}) c.in-Err.stop c.question.result.now (first_spent context grown.asked) (first_spent context (grown.asked ++ grown.rows))
    (λ spent. find-earlier (over context) c.question.result.now grown.asked grown.rows spent)
    (subst (λ (question : List (Option ℕ)). Told {A = Unit {0}} (Err c.in-Err.stop) question (first_spent context grown.asked)) (sym c.question.ensures.value)
    (subst (Told {A = Unit {0}} (Err c.in-Err.stop) c.grow_columns.new.self.asker.question)
    (same_asked c.in-Ok.growth.asker.context context order c.in-Ok.growth.rows start c.in-Ok.ensures.context
    c.in-Ok.ensures.rows) c.in-Err.ensures.asked)))

-- what the columns omitted
record Omitting (context : QuestionsView) (order : List ℕ) (start : List (List (Option ℕ))) (given : List (List (ℕ × ℕ))) : Type 0 where
  all : All (IsOmittedIn context) (columns_grown context order start).omitted
  gives : given ≡ map pairs_of (columns_grown context order start).omitted

omitting : (now context : QuestionsView) (order : List ℕ) {grown start : List (List (Option ℕ))} {before given : List (List (ℕ × ℕ))} → now ≡ context
    → grown ≡ start → before ≡ [] → given ≡ before ++ map pairs_of (columns_grown now order grown).omitted → IsSliceOf context.model context.slice
    → first_spent now (columns_grown now order grown).asked ≡ None → Omitting context order start given
omitting now context order {grown} {start} {before} {given} same starts none puts is unspent = record {
  all = omitted-in context order start is (sym (same_asked now context order grown start same starts) ∙ unspent);
  gives = same_omitted now context order grown start before given same starts none puts;
}

pub finish-requires-clause-omitted : goal.finish-requires-clause-omitted
finish-requires-clause-omitted g c =
    let context : QuestionsView = context_in c.args.input.now c.args.slice in
    let omits = omitting c.in-Ok.growth.asker.context (context_in c.args.input.now c.args.slice)
    (column_order c.args.input.now.model.now c.args.slice) c.in-Ok.ensures.context c.in-Ok.ensures.rows c.in-Ok.ensures.omitted
    c.in_default-grow_columns.ensures.omitted c.requires.slice c.in_default-grow_columns.ensures.asked in
    subst (λ (w : QuestionsView). All (IsOmittedTuple w) c.grow_columns.new.self.omitted.items)
    (sym (c.in_default-grow_columns.ensures.same ∙ c.in-Ok.ensures.context))
    (subst (All (IsOmittedTuple context)) (sym omits.gives) (omitted-tuples context _ omits.all))

pub finish-requires-clause-few : goal.finish-requires-clause-few
finish-requires-clause-few g c =
    let context : QuestionsView = context_in c.args.input.now c.args.slice in
    let start : List (List (Option ℕ)) = filter (is_of_slice context.model c.args.slice) c.args.input.now.kept.now in
    let order : List ℕ = column_order context.model c.args.slice in
    let omits = omitting c.in-Ok.growth.asker.context (context_in c.args.input.now c.args.slice)
    (column_order c.args.input.now.model.now c.args.slice) c.in-Ok.ensures.context c.in-Ok.ensures.rows c.in-Ok.ensures.omitted
    c.in_default-grow_columns.ensures.omitted c.requires.slice c.in_default-grow_columns.ensures.asked in
    omega (
      arith,
      c.requires.few,
      omitted-few context order start,
      ap length omits.gives,
      length-map (columns_grown context order start).omitted pairs_of,
    )

pub returns-clause-rows : goal.returns-clause-rows
returns-clause-rows g c =
    let context : QuestionsView = context_in c.args.input.now c.args.slice in
    let start : List (List (Option ℕ)) = filter (is_of_slice context.model c.args.slice) c.args.input.now.kept.now in
    let order : List ℕ = column_order context.model c.args.slice in
    let given : List (List (Option ℕ)) = c.grow_columns.new.self.rows in
    let rows : given ≡ (columns_grown context order start).rows =
    c.in_default-grow_columns.ensures.rows
    ∙ ap (λ (g : Grown). g.rows) (same_grown c.in-Ok.growth.asker.context context order c.in-Ok.growth.rows start c.in-Ok.ensures.context
    c.in-Ok.ensures.rows) in
    on_ok_weaker c.finish.result
    (same_put c.grow_columns.new.self.asker.context context order c.args.rows.now given c.finish.new.rows start
    (c.in_default-grow_columns.ensures.same ∙ c.in-Ok.ensures.context) rows) c.finish.ensures.rows

pub returns-clause-tuples : goal.returns-clause-tuples
returns-clause-tuples g c =
    let omits = omitting c.in-Ok.growth.asker.context (context_in c.args.input.now c.args.slice)
    (column_order c.args.input.now.model.now c.args.slice) c.in-Ok.ensures.context c.in-Ok.ensures.rows c.in-Ok.ensures.omitted
    c.in_default-grow_columns.ensures.omitted c.requires.slice c.in_default-grow_columns.ensures.asked in
    on_ok_weaker c.finish.result
    (same_tuples c.grow_columns.new.self.asker.context (context_in c.args.input.now c.args.slice) c.args.omissions.now c.finish.new.omissions
    c.grow_columns.new.self.omitted.items _ (c.in_default-grow_columns.ensures.same ∙ c.in-Ok.ensures.context) omits.all omits.gives)
    c.finish.ensures.tuples

pub returns-clause-count : goal.returns-clause-count
returns-clause-count g c =
    let context : QuestionsView = context_in c.args.input.now c.args.slice in
    let start : List (List (Option ℕ)) = filter (is_of_slice context.model c.args.slice) c.args.input.now.kept.now in
    let order : List ℕ = column_order context.model c.args.slice in
    let few = omitted-few context order start in
    on_ok_weaker c.finish.result
    (λ tuples.
    let count = omissions-count context.model c.args.omissions.now c.finish.new.omissions (columns_grown context order start).omitted tuples in
    omega (arith, few, count)) (returns-clause-tuples g c)

pub returns-clause-asked : goal.returns-clause-asked
returns-clause-asked g c =
    let context : QuestionsView = context_in c.args.input.now c.args.slice in
    let start : List (List (Option ℕ)) = filter (is_of_slice context.model c.args.slice) c.args.input.now.kept.now in
    let order : List ℕ = column_order context.model c.args.slice in
    let grown : Grown = columns_grown context order start in
    let same = c.in-Ok.ensures.rows in
    let rows : c.grow_columns.new.self.rows ≡ grown.rows =
    c.in_default-grow_columns.ensures.rows
    ∙ ap (λ (g : Grown). g.rows) (same_grown c.in-Ok.growth.asker.context context order c.in-Ok.growth.rows start c.in-Ok.ensures.context
    same) in
    subst (Ends c.finish.result)
    (sym (find-later (over context) grown.asked grown.rows
    (sym (same_asked c.in-Ok.growth.asker.context context order c.in-Ok.growth.rows start c.in-Ok.ensures.context same)
    ∙ c.in_default-grow_columns.ensures.asked)))
    (subst (Ends c.finish.result)
    (ap (λ w. first_spent w c.grow_columns.new.self.rows) (c.in_default-grow_columns.ensures.same ∙ c.in-Ok.ensures.context) ∙ ap (first_spent context) rows)
    c.finish.ensures.asked)

pub finish-requires-clause-long : goal.finish-requires-clause-long
finish-requires-clause-long g c =
    subst (λ (w : QuestionsView). All (λ row. length row ≡ length w.model.params) c.args.rows.now)
    (sym (c.in_default-grow_columns.ensures.same ∙ c.in-Ok.ensures.context)) c.requires.long

pub returns-clause-long : goal.returns-clause-long
returns-clause-long g c =
    on_ok_weaker c.finish.result
    (subst (λ (w : QuestionsView). All (λ row. length row ≡ length w.model.params) c.finish.new.rows)
    (c.in_default-grow_columns.ensures.same ∙ c.in-Ok.ensures.context)) c.finish.ensures.long
