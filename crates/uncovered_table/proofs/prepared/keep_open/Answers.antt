use mir.Val.{bool_byte}
use Rattle.std.proofs.Common.{Bool, true, false, refl, ◌≡◌, ◌+◌, ◌<◌, ◌∙◌, arith, length, set, subst, sym}
use Rattle.std.specs.Prelude.{if◌then◌else◌}
use Rattle.std.proofs.lemmas.List.{length-set}
use Rattle.uncovered_table.specs.Bits.{InPlay}
use Rattle.uncovered_table.proofs.ReadyLemmas.{Keeping, keeping-end, keeping-next, keeping-play}
use Rattle.uncovered_table.proofs.prepared.keep_open.Goals as goal

pub has_open-requires-clause-set : goal.has_open-requires-clause-set
has_open-requires-clause-set c =
    let v = c.args.sets.now in
    let made = c.loop-k.made in
    let inside : c.loop-k.k < length made.sets.items = omega (arith, c.loop-k-test.true, c.loop-k.invariant.long) in
    let play : InPlay v.model v.slice c.args.made.now.column c.index-set.result.now = subst (InPlay v.model v.slice c.args.made.now.column) (sym c.index-set.ensures)
    (keeping-play v.model v.slice c.args.bits.now c.args.made.now.column c.loop-k.kept c.loop-k.k c.index-set.result.now made.sets.items made.lines.items
    made.parts.items inside c.loop-k.invariant.keeping) in
    play.exists

as_number : (b : Bool) → bool_byte b ≡ (if b then 1 else 0)
as_number true = refl
as_number false = refl

pub loop-k-preserved : goal.loop-k-preserved
loop-k-preserved c =
    let v = c.args.sets.now in
    let made = c.loop-k.made in
    record {
      column = c.loop-k.invariant.column;
      long = length-set made.sets.items c.loop-k.kept c.index-set.result.now ∙ c.loop-k.invariant.long;
      keeping =
          subst (λ n. Keeping v.model v.slice c.args.bits.now c.args.made.now.column (c.loop-k.kept + n) (c.loop-k.k + 1)
          (set made.sets.items c.loop-k.kept c.index-set.result.now) (set made.lines.items c.loop-k.kept c.index.result.now) made.parts.items)
          (sym (c.from-kept.ensures ∙ as_number c.has_open.result))
          (keeping-next v.model v.slice c.args.bits.now c.args.made.now.column c.loop-k.kept c.loop-k.k c.index-set.result.now c.index.result.now made.sets.items
          made.lines.items made.parts.items c.has_open.result (omega (arith, c.loop-k-test.true, c.loop-k.invariant.long)) c.index-set.ensures
          c.index.ensures c.has_open.ensures c.loop-k.invariant.keeping);
    }

pub returns : goal.returns
returns c =
    let v = c.args.sets.now in
    let made = c.loop-k.made in
    keeping-end v.model v.slice c.args.bits.now c.args.made.now.column c.loop-k.kept c.loop-k.k (record made { sets = c.truncate.new.self; lines = c.truncate-2.new.self })
    made.sets.items made.lines.items (omega (arith, c.loop-k-test.false, c.loop-k.invariant.long)) c.loop-k.invariant.keeping c.loop-k.invariant.column
    c.truncate.ensures.items c.truncate-2.ensures.items
