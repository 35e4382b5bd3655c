use Rattle.std.proofs.Common.{◌∙◌, ap, arith}
use Rattle.seq_check.specs.EventSets.{first_of, in_set_at, set_place}
use Rattle.seq_check.proofs.SetLemmas.{in_each}
use Rattle.seq_check.proofs.OpenLemmas.{first_below, place_below}
use Rattle.seq_check.proofs.open.OpenSequences.new.Goals as goal

pub returns-in-Ok-clause-open : goal.returns-in-Ok-clause-open
returns-in-Ok-clause-open c = λ front last f below.
    ap (λ sets. in_set_at sets (set_place front last) (first_of front)) (c.in-Ok.ensures.items_if_clones_equal (λ y same. same))
    ∙ in_each c.all.result c.set_count.result (set_place front last) (first_of front) (rw c.set_count.ensures (place_below c.args.length 64 front last c.requires (omega arith) f below))
    ∙ c.all.ensures (first_of front) (first_below c.args.length 64 front c.requires f)
