use Rattle.std.proofs.Common.{◌≡◌, ◌∙◌, ◌++◌, ◌∷◌, [], ap, arith, get_or, subst, sym}
use Rattle.std.proofs.lemmas.Grind.{common_steps}
use Rattle.std.proofs.lemmas.List.{take_all, take_more}
use Rattle.uncovered_table.specs.declared.prepared.Prepared.{Prepared}
use Rattle.uncovered_table.specs.Bits.{sets_in_play}
use Rattle.uncovered_table.specs.Prepared.{AreLines, IsComplete, IsLeft}
use Rattle.uncovered_table.proofs.PreparedLemmas.{lines-next}
use Rattle.uncovered_table.proofs.ReadyLemmas.{left-all}
use Rattle.uncovered_table.proofs.sets.SliceSets.column_lines.Goals as goal

pub loop-set-preserved : goal.loop-set-preserved
loop-set-preserved c =
    let v = c.args.self.now in
    let in_play = c.in_play-in_play.result.now in
    let line : Prepared = record { first = c.block.result.first; step = c.in_ok-step.step; begin = c.len-begin.result; end = c.len.result } in
    let set_pushed : c.push.new.self.items ≡ c.loop-set.sets.items ++ get_or in_play c.loop-set.set-index 0 ∷ [] = grind (arith, common_steps) in
    let pushed : c.push-in-loop-set.new.self.items ≡ c.loop-set.lines.items ++ line ∷ [] = grind (arith, common_steps) in
    record {
      sets = set_pushed ∙ ap (λ list. list ++ get_or in_play c.loop-set.set-index 0 ∷ []) c.loop-set.invariant.sets
          ∙ sym (take_more in_play c.loop-set.set-index 0 (omega arith));
      lines =
          lines-next v.model v.slice c.args.column c.loop-set.set-index in_play line c.loop-set.lines.items c.push-in-loop-set.new.self.items c.loop-set.parts.items
          c.push_parts.new.parts.items (omega arith) c.loop-set.invariant.lines c.in_ok-step.ensures.parts (omega (arith, c.loop-set.parts.ok.0))
          (omega (arith, c.push_parts.new.parts.ok.0)) c.block.ensures.first c.in_ok-step.ensures.step pushed;
      few = omega (arith, c.loop-set.invariant.few, c.in_ok-step.ensures.parts.few);
    }

pub returns-clause-ready : goal.returns-clause-ready
returns-clause-ready c bits =
    let v = c.args.self.now in
    let whole : c.loop-set.sets.items ≡ sets_in_play v.model v.slice c.args.column = c.loop-set.invariant.sets
    ∙ take_all c.loop-set.set-index c.in_play-in_play.result.now (omega (arith, c.loop-set-test.false)) ∙ c.in_play-in_play.ensures.value in
    record {
      lines = subst (λ sets. AreLines v.model v.slice c.args.column sets c.loop-set.lines.items c.loop-set.parts.items) (sym c.loop-set.invariant.sets)
          c.loop-set.invariant.lines;
      left = subst (IsLeft (IsComplete v.model v.slice bits) (sets_in_play v.model v.slice c.args.column)) (sym whole)
          (left-all (IsComplete v.model v.slice bits) (sets_in_play v.model v.slice c.args.column));
    }
