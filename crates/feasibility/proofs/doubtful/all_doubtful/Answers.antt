use Rattle.std.proofs.Common.{◌≡◌, ◌+◌, ◌<◌, ◌++◌, ◌∷◌, ◌∙◌, ℕ, List, [], map, sym, ap, subst, arith, rules}
use Rattle.std.specs.List.{range_with_len}
use Rattle.std.proofs.lemmas.List.FromFn.{map-range_with_len_more}
use Rattle.feasibility.specs.Tree.{doubtful_by}
use Rattle.feasibility.proofs.Naming.{members_at}
use Rattle.feasibility.proofs.doubtful.all_doubtful.Goals as goal

pub doubtful_lists-requires-clause-last : goal.doubtful_lists-requires-clause-last
doubtful_lists-requires-clause-last c = omega (arith, c.loop-i-test.true, c.loop-i.invariant.count)

pub doubtful_lists-requires-clause-named : goal.doubtful_lists-requires-clause-named
doubtful_lists-requires-clause-named c =
    c.list.ensures ∙ members_at c.args.rules.now c.args.members.now c.loop-i.i c.requires (subst (λ (n : ℕ). c.loop-i.i < n) c.loop-i.invariant.count c.loop-i-test.true)

pub loop-i-preserved : goal.loop-i-preserved
loop-i-preserved c =
    let m = c.args.rules.now in
    let pushed : c.push.new.self.items ≡ c.loop-i.all.items ++ c.in_ok-lists.lists ∷ [] = search rules in
    record {
      count = c.loop-i.invariant.count;
      cells = c.in_ok-lists.ensures.same ∙ c.loop-i.invariant.cells;
      all = pushed ∙ ap (λ (list : List (List (List ℕ))). list ++ c.in_ok-lists.lists ∷ []) c.loop-i.invariant.all
          ∙ ap (λ (lists : List (List ℕ)). map (doubtful_by m) (range_with_len 1 c.loop-i.i) ++ lists ∷ []) c.in_ok-lists.ensures.lists
          ∙ sym (map-range_with_len_more (doubtful_by m) 1 c.loop-i.i (c.loop-i.i + 1) (omega arith));
    }

pub returns : goal.returns
returns c = c.loop-i.invariant.all
    ∙ ap (λ (n : ℕ). map (doubtful_by c.args.rules.now) (range_with_len 1 n)) (omega (arith, c.loop-i-test.false, c.loop-i.invariant.count))
