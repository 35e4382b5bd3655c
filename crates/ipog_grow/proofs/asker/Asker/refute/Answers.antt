use Rattle.std.proofs.Common.{◌≡◌, ℕ, List, Option, length, map, sym, ap, subst, ◌∙◌}
use Rattle.std.specs.Prelude.{Err}
use Rattle.cov_model.specs.believed.Tuples.{cells_of}
use Rattle.definitions.specs.believed.SuiteProof.{IsEagerTree}
use Rattle.feasibility.specs.Refuting.{earlier_tuples}
use Rattle.refutation.specs.believed.Proofs.{format_of}
use Rattle.refutation.specs.Proofs.{meant}
use Rattle.ipog_grow.specs.declared.asker.Asker.TheInside.{Inside}
use Rattle.full_search.specs.Questions.{QuestionsView}
use Rattle.ipog_grow.specs.Asking.{AskerView}
use Rattle.ipog_grow.specs.Omissions.{IsOmittedIn}
use Rattle.ipog_grow.proofs.Tuples.{grows-slice}
use Rattle.ipog_grow.proofs.Refuting.{omitted-tree, omitted-unserved, omitted-within}
use Rattle.ipog_grow.proofs.asker.Asker.refute.Goals as goal
use Rattle.ipog_grow.proofs.asker.Asker.refute.Goals.{in-Ok, in-Err-NoMemory+in-Own+in-Inline-1, in-Err-NoMemory+in-Own+in-Heap-1}
use Rattle.ipog_grow.proofs.asker.Asker.refute.Goals.{in-Err-NoMemory+in-Shared-1}

-- the tuple
abbrev tuple_of : Inside → List (ℕ × ℕ) → List (Option ℕ)
tuple_of a pairs = cells_of (length a.questions.model.params) pairs

omitted_here : (a : Inside) (view : AskerView) (pairs : List (ℕ × ℕ)) → record { context = a.questions; question = a.question } ≡ view
    → IsOmittedIn view.context (cells_of (length view.context.model.params) pairs) → IsOmittedIn a.questions (tuple_of a pairs)
omitted_here a view pairs seen omitted =
    subst (λ (asker : AskerView). IsOmittedIn asker.context (cells_of (length asker.context.model.params) pairs)) (sym seen) omitted

pub refute-requires-clause-slice : goal.refute-requires-clause-slice
refute-requires-clause-slice c =
    grows-slice c.self.inside.questions.model c.self.inside.questions.slice (tuple_of c.self.inside c.args.tuple.now) c.self.invariant.context.slice
    (omitted_here c.self.inside c.args.self.now c.args.tuple.now c.self.view_is c.requires.omitted).grows

pub refute-requires-clause-unserved : goal.refute-requires-clause-unserved
refute-requires-clause-unserved c =
    omitted-unserved c.self.inside.questions (tuple_of c.self.inside c.args.tuple.now) c.self.invariant.context
    (omitted_here c.self.inside c.args.self.now c.args.tuple.now c.self.view_is c.requires.omitted)

pub unreachable-requires : goal.unreachable-requires
unreachable-requires c =
    omitted-within c.self.inside.questions (tuple_of c.self.inside c.args.tuple.now) c.self.invariant.context
    (omitted_here c.self.inside c.args.self.now c.args.tuple.now c.self.view_is c.requires.omitted)
    (c.refute.ensures.spent (c.in-Err-Spent.is ∙ ap Err c.in-Err-Spent.field-0-is))

pub returns-clause-tree : goal.returns-clause-tree
returns-clause-tree c = elim c.match-refute.branch [
  | in-Ok w ↦
      let context : QuestionsView = c.self.inside.questions in
      let format : ℕ = format_of c.args.earlier.now.form in
      rw w.result-is
      (subst (λ (asker : AskerView).
      IsEagerTree asker.context.model asker.context.prefs asker.context.effort format (earlier_tuples asker.context.model c.args.earlier.now)
      (cells_of (length asker.context.model.params) c.args.tuple.now) (map meant c.refute.new.into)) c.self.view_is
      (omitted-tree context (tuple_of c.self.inside c.args.tuple.now) format (earlier_tuples context.model c.args.earlier.now)
      (map meant c.refute.new.into) c.self.invariant.context
      (omitted_here c.self.inside c.args.self.now c.args.tuple.now c.self.view_is c.requires.omitted) w.in-Ok.ensures.eager w.in-Ok.ensures.branches))
  | in-Err-NoMemory+in-Own+in-Inline-1 w ↦ rw w.result-is tt
  | in-Err-NoMemory+in-Own+in-Heap-1 w ↦ rw w.result-is tt
  | in-Err-NoMemory+in-Shared-1 w ↦ rw w.result-is tt
]
