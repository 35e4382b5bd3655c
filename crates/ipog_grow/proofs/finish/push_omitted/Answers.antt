use Rattle.std.proofs.Common.{◌≡◌, ◌∙◌, ◌++◌, ◌∷◌, ◌<◌, [], List, Option, ℕ, length, map, get_or, ap, sym, subst, refl, arith}
use Rattle.std.proofs.lemmas.List.{append-nil, append_assoc, length-map, map-append, map-id}
use Rattle.std.proofs.lemmas.Iterator.Adapters.{YieldsList-from_vec}
use Rattle.std.proofs.lemmas.Iterator.Consumers.{YieldsList-end, YieldsList-turn}
use Rattle.cov_model.specs.believed.Tuples.{cells_of}
use Rattle.feasibility.specs.Refuting.{earlier_tuples}
use Rattle.full_search.specs.Questions.{QuestionsView}
use Rattle.ipog_grow.specs.Omissions.{AreOmissionsOf, IsOmittedTuple}
use Rattle.ipog_grow.proofs.Trees.{omissions-count}
use Rattle.ipog_grow.proofs.finish.push_omitted.Goals as goal

pub loop-tuple-init : goal.loop-tuple-init
loop-tuple-init c = record {
  context = refl;
  tuples = sym (append-nil (earlier_tuples c.args.asker.now.context.model c.args.into.now));
  omissions = c.requires.earlier;
}

-- the tuple is the next of them
turn : (c : goal.After-push_omission-arg-in-loop-tuple-1) → (length c.loop-tuple.yielded < length c.args.omitted.items)
    × (c.in-Some.tuple ≡ get_or c.args.omitted.items (length c.loop-tuple.yielded) c.in-Some.tuple)
turn c =
    let gives = c.into_iter-tuple-iterator.ensures.into_iter_gives in
    YieldsList-turn (YieldsList-from_vec c.args.omitted.items gives.0 (omega (arith, gives.1, c.args.omitted.ok.0))) c.loop-tuple.yielded
    c.loop-tuple.tuple-iterator c.loop-tuple.yielded_by c.next.result c.next.new.self c.in-Some.tuple c.in-Some.is c.next.ensures.steps

pub push_omission-requires-clause-omitted : goal.push_omission-requires-clause-omitted
push_omission-requires-clause-omitted c =
    let next = turn c in
    subst (λ (w : QuestionsView). IsOmittedTuple w c.in-Some.tuple) (sym c.loop-tuple.invariant.context)
    (subst (IsOmittedTuple c.args.asker.now.context) (sym next.1) (c.requires.omitted (length c.loop-tuple.yielded) c.in-Some.tuple next.0))

pub push_omission-requires-clause-earlier : goal.push_omission-requires-clause-earlier
push_omission-requires-clause-earlier c =
    subst (λ (w : QuestionsView). AreOmissionsOf w.model w.prefs w.effort c.args.proof c.loop-tuple.into) (sym c.loop-tuple.invariant.context)
    c.loop-tuple.invariant.omissions

pub push_omission-requires-clause-few : goal.push_omission-requires-clause-few
push_omission-requires-clause-few c =
    let model = c.args.asker.now.context.model in
    let cells : List (ℕ × ℕ) → List (Option ℕ) = cells_of (length model.params) in
    omega (
      arith,
      c.requires.few,
      (turn c).0,
      omissions-count model c.args.into.now c.loop-tuple.into (map cells c.loop-tuple.yielded) c.loop-tuple.invariant.tuples,
      length-map c.loop-tuple.yielded cells,
    )

pub loop-tuple-preserved : goal.loop-tuple-preserved
loop-tuple-preserved c =
    let model = c.args.asker.now.context.model in
    let cells : List (ℕ × ℕ) → List (Option ℕ) = cells_of (length model.params) in
    let before : List (List (Option ℕ)) = earlier_tuples model c.args.into.now in
    record {
      context = c.push_omission.ensures.same ∙ c.loop-tuple.invariant.context;
      tuples =
          subst (λ (w : QuestionsView). earlier_tuples w.model c.push_omission.new.into ≡ earlier_tuples w.model c.loop-tuple.into
          ++ cells_of (length w.model.params) c.in-Some.tuple ∷ []) c.loop-tuple.invariant.context c.in_ok-push_omission.ensures.tuples
          ∙ ap (λ list. list ++ cells c.in-Some.tuple ∷ []) c.loop-tuple.invariant.tuples
          ∙ append_assoc before (map cells c.loop-tuple.yielded) (cells c.in-Some.tuple ∷ [])
          ∙ ap (λ list. before ++ list) (sym (map-append cells c.loop-tuple.yielded (c.in-Some.tuple ∷ [])));
      omissions =
          subst (λ (w : QuestionsView). AreOmissionsOf w.model w.prefs w.effort c.args.proof c.push_omission.new.into)
          c.loop-tuple.invariant.context c.in_ok-push_omission.ensures.omissions;
    }

pub returns-clause-tuples : goal.returns-clause-tuples
returns-clause-tuples c =
    let model = c.args.asker.now.context.model in
    let gives = c.into_iter-tuple-iterator.ensures.into_iter_gives in
    let whole = YieldsList-end (YieldsList-from_vec c.args.omitted.items gives.0 (omega (arith, gives.1, c.args.omitted.ok.0))) c.loop-tuple.yielded
    c.loop-tuple.tuple-iterator c.loop-tuple.yielded_by c.next.result c.next.new.self c.in-None.is c.next.ensures.steps in
    c.loop-tuple.invariant.tuples
    ∙ ap (λ (list : List (List (ℕ × ℕ))). earlier_tuples model c.args.into.now ++ map (cells_of (length model.params)) list)
    (sym (map-id c.loop-tuple.yielded) ∙ whole.0)

pub returns-clause-omissions : goal.returns-clause-omissions
returns-clause-omissions c = c.loop-tuple.invariant.omissions
