use Rattle.std.proofs.Common.{◌≡◌, ◌<◌, ◌∙◌, [], ap, arith, length, map, replicate, subst, sym}
use Rattle.std.specs.Prelude.{IfSome}
use Rattle.std.proofs.lemmas.List.{length-map}
use Rattle.std.proofs.lemmas.List.FromFn.{length-map-range_with_len}
use Rattle.uncovered_table.specs.Kept.{with_set}
use Rattle.uncovered_table.proofs.TableLemmas.{first_in_play, no_sets, sets_more}
use Rattle.uncovered_table.proofs.part.SlicePart.plays.Goals as goal

pub loop-set-init : goal.loop-set-init
loop-set-init c =
    let v = c.args.self.now in
    c.in_ok-lists.ensures ∙ ap (λ n. replicate n []) c.param_count.ensures ∙ no_sets v.model v.slice 0 (length v.model.params)

pub push_set-requires : goal.push_set-requires
push_set-requires c =
    let v = c.args.self.now in
    let long : length v.model.params ≡ length c.loop-set.lists.items =
    sym (sym (length-map c.loop-set.lists.items (λ list. list.items)) ∙ ap length c.loop-set.invariant
    ∙ length-map-range_with_len (first_in_play v.model v.slice c.loop-set.set) 0 (length v.model.params)) in
    subst (λ n. IfSome c.play_column.result (λ p. p < n)) long c.play_column.ensures.own

pub loop-set-preserved : goal.loop-set-preserved
loop-set-preserved c =
    let v = c.args.self.now in
    c.in_ok-push_set.ensures ∙ ap (λ o. with_set o c.loop-set.set (map (λ list. list.items) c.loop-set.lists.items)) c.play_column.ensures.value
    ∙ ap (with_set _ c.loop-set.set) c.loop-set.invariant ∙ sets_more v.model v.slice c.loop-set.set
