use Rattle.std.proofs.Common.{◌∙◌, None, replicate, length, sym, arith}
use Rattle.std.proofs.lemmas.List.{get_or-replicate, get_or_default, length-replicate, same_lists}
use Rattle.full_search.proofs.reason.clear.Goals as goal

pub returns : goal.returns
returns c =
    let n = length c.args.why.now in
    same_lists c.loop-q.why (replicate n None) (c.loop-q.invariant.long ∙ sym (length-replicate n None)) (λ q d within.
    get_or_default c.loop-q.why q d None within ∙ c.loop-q.invariant.none q (omega (arith, within, c.loop-q.invariant.long, c.loop-q.invariant.count))
    ∙ sym (get_or-replicate n q None d (omega (arith, within, c.loop-q.invariant.long))))
