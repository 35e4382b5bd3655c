use Rattle.std.proofs.Common.{◌≡◌, ◌∙◌, ◌++◌, ◌∷◌, [], ap, arith, length, map, sym, zero-add}
use Rattle.std.specs.List.{range_with_len}
use Rattle.std.proofs.lemmas.Grind.{common_steps}
use Rattle.std.proofs.lemmas.List.{map_push}
use Rattle.std.proofs.lemmas.List.FromFn.{map-range_with_len_more}
use Rattle.uncovered_table.specs.Bits.{sets_in_play}
use Rattle.uncovered_table.specs.Kept.{firsts_of}
use Rattle.uncovered_table.proofs.TableLemmas.{lists_long, read_list}
use Rattle.uncovered_table.proofs.part.SlicePart.firsts.Goals as goal

pub loop-p-preserved : goal.loop-p-preserved
loop-p-preserved c =
    let v = c.args.self.now in
    let firsts = c.in_ok-firsts.firsts in
    let pushed : c.push.new.self.items ≡ c.loop-p.lists.items ++ firsts ∷ [] = grind (arith, common_steps) in
    ap (map (λ list. list.items)) pushed ∙ map_push (λ list. list.items) c.loop-p.lists.items firsts
    ∙ ap (λ lists. lists ++ firsts.items ∷ []) c.loop-p.invariant
    ∙ ap (λ items. map (firsts_of v.model v.slice) (range_with_len 0 c.loop-p.p) ++ items ∷ []) (c.in_ok-firsts.ensures)
    ∙ sym (map-range_with_len_more (firsts_of v.model v.slice) 0 c.loop-p.p c.loop-p.p (zero-add c.loop-p.p))

pub bounds-plays-p : goal.bounds-plays-p
bounds-plays-p c =
    let v = c.args.self.now in
    let long = lists_long (λ list. list.items) (sets_in_play v.model v.slice) (length v.model.params) c.args.plays.now c.requires.plays in
    omega (arith, c.loop-p-test.true, c.param_count-p-end.ensures, long)

pub firsts_of-requires-clause-sets : goal.firsts_of-requires-clause-sets
firsts_of-requires-clause-sets c =
    let v = c.args.self.now in
    c.as_slice.ensures.value
    ∙ read_list (λ list. list.items) (sets_in_play v.model v.slice) (length v.model.params) c.loop-p.p c.args.plays.now c.index-plays-p.result
    c.requires.plays (omega (arith, c.loop-p-test.true, c.param_count-p-end.ensures)) c.index-plays-p.is
