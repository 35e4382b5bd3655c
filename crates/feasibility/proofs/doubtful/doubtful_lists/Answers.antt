use Rattle.std.proofs.Common.{◌++◌, ◌∷◌, [], ◌∙◌, sym, ap, length, map, take, arith}
use Rattle.std.proofs.lemmas.List.{map-append, take_all, take_more}
use Rattle.cov_model.specs.Sound.{rule_at}
use Rattle.feasibility.specs.Tree.{doubtful}
use Rattle.feasibility.proofs.Naming.{member_exists}
use Rattle.feasibility.proofs.doubtful.doubtful_lists.Goals as goal

pub doubtful_values-requires-clause-parameter : goal.doubtful_values-requires-clause-parameter
doubtful_values-requires-clause-parameter c =
    member_exists (length c.args.rules.now.params) (rule_at c.args.rules.now c.args.rule).body c.args.named.now c.loop-q.q-index c.requires.named
    c.loop-q-test.true

pub loop-q-preserved : goal.loop-q-preserved
loop-q-preserved c =
    let of = doubtful c.args.rules.now (rule_at c.args.rules.now c.args.rule).body in
    let named = c.args.named.now in
    record {
      cells = c.in_ok-list.ensures.same ∙ c.loop-q.invariant.cells;
      lists = c.in_ok-put_list.ensures ∙ ap (λ lists. lists ++ c.in_ok-list.list.items ∷ []) c.loop-q.invariant.lists
          ∙ ap (λ list. map of (take c.loop-q.q-index named) ++ list ∷ []) c.in_ok-list.ensures.list
          ∙ sym (ap (map of) (take_more named c.loop-q.q-index 0 c.loop-q-test.true) ∙ map-append of (take c.loop-q.q-index named) _);
    }

pub returns-clause-lists : goal.returns-clause-lists
returns-clause-lists c =
    c.loop-q.invariant.lists ∙ ap (map (doubtful c.args.rules.now (rule_at c.args.rules.now c.args.rule).body))
    (take_all c.loop-q.q-index c.args.named.now (omega (arith, c.loop-q-test.false)) ∙ c.requires.named)

pub returns-clause-same : goal.returns-clause-same
returns-clause-same c = c.loop-q.invariant.cells ∙ sym c.requires.none
