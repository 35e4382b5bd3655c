use Rattle.std.proofs.Common.{◌∙◌, [], List, Option, ℕ, get_or, sym, subst, take, arith}
use Rattle.std.proofs.lemmas.List.{take_all, take_more}
use Rattle.ipog_grow.proofs.Uniting.{UnitedAt, united-all, united-more, united-start}
use Rattle.ipog_grow.proofs.unions.unite.Goals as goal

pub loop-p-init : goal.loop-p-init
loop-p-init c =
    subst (λ (cells : List (Option ℕ)). UnitedAt c.args.row.now c.args.tuple.now cells []) (sym c.copy_from_slice.ensures)
    (united-start c.args.row.now c.args.tuple.now)

pub loop-p-preserved : goal.loop-p-preserved
loop-p-preserved c =
    subst (UnitedAt c.args.row.now c.args.tuple.now c.put_beside.new.into) (sym (take_more c.args.given.now c.loop-p.p-index 0 c.loop-p-test.true))
    (united-more c.args.row.now c.args.tuple.now c.loop-p.into c.put_beside.new.into (take c.loop-p.p-index c.args.given.now)
    (get_or c.args.given.now c.loop-p.p-index 0) c.loop-p.invariant c.put_beside.ensures.long c.put_beside.ensures.others c.put_beside.ensures.own)

pub returns : goal.returns
returns c =
    united-all c.args.row.now c.args.tuple.now c.loop-p.into c.requires.long
    (subst (UnitedAt c.args.row.now c.args.tuple.now c.loop-p.into)
    (take_all c.loop-p.p-index c.args.given.now (omega arith) ∙ c.requires.given) c.loop-p.invariant)
