use mir.Val.{bool_byte}
use Rattle.std.proofs.Common.{◌≡◌, ◌&&◌, ◌+◌, ◌∷◌, [], ◌∙◌, Bool, true, false, cond, inl, inr, refl, ap}
use Rattle.seq_check.specs.EventSets.{in_set, is_open}
use Rattle.seq_cover.specs.Building.{open_gain}
use Rattle.seq_cover.proofs.BuildLemmas.{size_counts}
use Rattle.seq_cover.proofs.GainLemmas.{raise_three, raise_two}
use Rattle.seq_cover.proofs.row.raised.Goals as goal

as_number : (b : Bool) → bool_byte b ≡ cond b 1 0
as_number true = refl
as_number false = refl

pub returns-then-len-eq2-clause-value : goal.returns-then-len-eq2-clause-value
returns-then-len-eq2-clause-value c = λ row are once.
    ap (λ n. open_gain c.args.opened.now row c.args.last + n) (c.from.ensures ∙ as_number c.is_open.result ∙ ap (λ b. cond b 1 0) c.is_open.ensures)
    ∙ raise_two c.args.opened.now row c.args.event c.args.last (c.requires.len ∙ c.if-len-eq2.true)

pub returns-else-len-eq2-clause-value : goal.returns-else-len-eq2-clause-value
returns-else-len-eq2-clause-value c = λ row are once.
    let o = c.args.opened.now in
    let three : c.args.len ≡ 3 = elim c.requires.lens [ inl two ↦ absurd (c.if-len-eq2.false two) | inr three ↦ three ] in
    let is = size_counts c.common.result (λ first. is_open o (first ∷ c.args.event ∷ []) c.args.last) row c.args.placed
    (λ first. c.common.ensures first ∙ ap (λ b. b && in_set c.args.placed first) (c.firsts.ensures first)) are once in
    ap (λ n. open_gain o row c.args.last + n) (c.count.ensures.value ∙ is) ∙ raise_three o row c.args.event c.args.last (c.requires.len ∙ three)
