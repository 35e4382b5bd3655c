use Rattle.std.proofs.Common.{refl, ap, arith, ◌∙◌, length, length-append}
use Rattle.constraint_ast.specs.believed.Grammar.{most_open}
use Rattle.constraint_ast.specs.believed.Trees.{End, More, any_of}
use Rattle.constraint_ast.specs.Trees.{added, tree_of, trees_in}
use Rattle.constraint_ast.specs.Machine.{After, Need, Part, run}
use Rattle.constraint_ast.proofs.Parts.{all_is, any_is, where_none, with_more}
use Rattle.constraint_ast.proofs.parser.Parser.+parse.Goals as goal

pub conj-returns-in_default-clause-ok : goal.conj-returns-in_default-clause-ok
conj-returns-in_default-clause-ok t c = record {
  units = More (tree_of c.in_ok-one.one) End;
  same = refl;
  runs = λ anys outer. c.in_ok-one.ensures.ok (Part c.args.room anys End outer);
  no_and = where_none c.behind_and.result c.behind_and.ensures.none c.in_default.not-Some;
}

pub conj-loop-parts-preserved : goal.conj-loop-parts-preserved
conj-loop-parts-preserved t c =
    let parts = c.loop-parts.parts in
    let e = c.in_ok-push-2.ensures.ok in
    record {
      reads = λ anys outer. c.loop-parts.invariant.reads anys outer
          ∙ (c.in_ok-part.ensures.ok (Part c.args.room anys (trees_in parts) outer)
          ∙ (c.in-Some-behind_and.ensures.some c.args.self.now.last c.args.room anys (added (trees_in parts) (tree_of c.in_ok-part.part)) outer
          ∙ ap (λ alls. run most_open c.args.self.now.last c.in-Some-behind_and.next.now (Need c.args.room (Part c.args.room anys alls outer)))
          (with_more parts c.in_ok-part.part c.push-in-loop-parts.new.self e)));
      some = grind (arith, ap (λ list. length list) e, length-append);
      shorter = omega (arith, c.in_ok-part.ensures.shorter, c.in-Some-behind_and.ensures.shorter, c.loop-parts.invariant.shorter);
    }

pub conj-returns-in-None-clause-ok : goal.conj-returns-in-None-clause-ok
conj-returns-in-None-clause-ok t c =
    let parts = c.loop-parts.parts in
    let e = c.in_ok-push-2.ensures.ok in
    record {
      units = trees_in c.push-in-loop-parts.new.self;
      same = all_is parts c.in_ok-part.part c.push-in-loop-parts.new.self e c.loop-parts.invariant.some;
      runs = λ anys outer. c.loop-parts.invariant.reads anys outer
          ∙ (c.in_ok-part.ensures.ok (Part c.args.room anys (trees_in parts) outer)
          ∙ ap (λ alls. run most_open c.args.self.now.last c.in_ok-part.rest.now (After c.args.room anys alls outer))
          (with_more parts c.in_ok-part.part c.push-in-loop-parts.new.self e));
      no_and = c.in-None.ensures.none;
    }

pub pred-returns-in_default-clause-ok : goal.pred-returns-in_default-clause-ok
pred-returns-in_default-clause-ok t c =
    let read = c.in_ok-one.ensures.ok in
    record {
      front = End;
      units = read.units;
      same = read.same;
      runs = λ outer. read.runs End outer;
      no_and = read.no_and;
      no_or = where_none c.behind_or.result c.behind_or.ensures.none c.in_default.not-Some;
    }

pub pred-loop-parts-preserved : goal.pred-loop-parts-preserved
pred-loop-parts-preserved t c =
    let parts = c.loop-parts.parts in
    let read = c.in_ok-part.ensures.ok in
    let e = c.in_ok-push-2.ensures.ok in
    record {
      reads = λ outer. c.loop-parts.invariant.reads outer
          ∙ (read.runs (trees_in parts) outer
          ∙ (c.in-Some-behind_or.ensures.some c.args.self.now.last c.args.room (trees_in parts) read.units outer
          ∙ ap (λ anys. run most_open c.args.self.now.last c.in-Some-behind_or.next.now (Need c.args.room (Part c.args.room anys End outer)))
          (ap (λ tree. added (trees_in parts) tree) read.same ∙ with_more parts c.in_ok-part.part c.push-in-loop-parts.new.self e)));
      some = grind (arith, ap (λ list. length list) e, length-append);
      shorter = omega (arith, c.in_ok-part.ensures.shorter, c.in-Some-behind_or.ensures.shorter, c.loop-parts.invariant.shorter);
    }

pub pred-returns-in-None-clause-ok : goal.pred-returns-in-None-clause-ok
pred-returns-in-None-clause-ok t c =
    let parts = c.loop-parts.parts in
    let read = c.in_ok-part.ensures.ok in
    let e = c.in_ok-push-2.ensures.ok in
    record {
      front = trees_in parts;
      units = read.units;
      same = ap (λ list. any_of list) (ap (λ tree. added (trees_in parts) tree) read.same ∙ with_more parts c.in_ok-part.part c.push-in-loop-parts.new.self e)
          ∙ any_is parts c.in_ok-part.part c.push-in-loop-parts.new.self e c.loop-parts.invariant.some;
      runs = λ outer. c.loop-parts.invariant.reads outer ∙ read.runs (trees_in parts) outer;
      no_and = read.no_and;
      no_or = c.in-None.ensures.none;
    }
