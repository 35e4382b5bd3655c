use Rattle.std.proofs.Common.{List, ℕ, map, ◌≡◌, ◌∙◌, ap, arith, zero-add, sym, ◌++◌, ◌∷◌, []}
use Rattle.std.specs.List.{range_with_len}
use Rattle.std.proofs.lemmas.List.FromFn.{map-range_with_len_more}
use Rattle.std.proofs.lemmas.Grind.{common_steps}
use Rattle.tuple_index.specs.Counts.{next_entry}
use Rattle.tuple_index.proofs.count.next_row.Goals as goal

pub loop-j-preserved : goal.loop-j-preserved
loop-j-preserved c =
    let items : List ℕ = map (next_entry c.args.count c.args.row.now) (range_with_len 0 c.loop-j.j) in
    let more = map-range_with_len_more (next_entry c.args.count c.args.row.now) 0 c.loop-j.j c.loop-j.j (zero-add c.loop-j.j) in
    let pushed : c.push.new.self.items ≡ c.loop-j.next.items ++ c.entry_at.result ∷ [] = grind (arith, common_steps) in
    pushed ∙ ap (λ xs. xs ++ c.entry_at.result ∷ []) c.loop-j.invariant ∙ ap (λ x. items ++ x ∷ []) c.entry_at.ensures ∙ sym more
