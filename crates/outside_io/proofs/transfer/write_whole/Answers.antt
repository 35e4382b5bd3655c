use Rattle.std.proofs.Common.{◌≤◌, ◌++◌, length, take, drop, ap, sym, ◌∙◌, subst, arith, length-drop}
use Rattle.std.proofs.Math.Seq.{take-add}
use Rattle.std.proofs.lemmas.List.{take_rest}
use Rattle.std.proofs.KnownBytes.{Appends-trans}
use Rattle.std.specs.Io.KnownBytes.{Appends}
use Rattle.outside_io.proofs.transfer.write_whole.Goals as goal

pub loop-at-preserved : goal.loop-at-preserved
loop-at-preserved g c =
    let at = c.loop-at.at in
    let count = c.in-Ok.count in
    let bytes = c.args.bytes.now in
    let both = Appends-trans _ _ _ _ _ c.loop-at.invariant.1 c.in-Ok.ensures.bytes in
    let joined = take-add at count bytes ∙ ap (λ l. take at bytes ++ take count l) (sym (take_rest bytes at)) in
    let fits : count ≤ length (drop at bytes) = rw take_rest at c.in-Ok.ensures.bound in
    (omega (arith, fits, length-drop at bytes), subst (Appends _ _) (sym joined) both)
