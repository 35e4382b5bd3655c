use Rattle.std.proofs.Common.{◌∙◌, ap, length, replicate, subst, sym, true}
use Rattle.std.proofs.lemmas.List.{length-replicate}
use Rattle.uncovered_table.specs.Bits.{marked}
use Rattle.uncovered_table.specs.Open.{all_open}
use Rattle.uncovered_table.specs.Pairs.{AreKept}
use Rattle.uncovered_table.proofs.OpenLemmas.{all_marked}
use Rattle.uncovered_table.proofs.table.Uncovered.new.Goals as goal

pub invariant_of-result : goal.invariant_of-result
invariant_of-result c =
    let v = c.in_ok-sets.sets in
    record {
      long = ap length c.in_ok-bits.ensures ∙ length-replicate c.size.result true ∙ c.size.ensures;
      lines = tt;
      begins_are = c.in_ok-begins.ensures;
      kept =
          subst (λ bits. AreKept v.model v.slice bits (length v.model.params) c.in_ok-pairs.pairs.items)
          (sym (c.in_ok-bits.ensures ∙ ap (λ n. replicate n true) c.size.ensures)) c.in_ok-pairs.ensures;
    }

pub returns : goal.returns
returns c =
    let v = c.in_ok-sets.sets in
    ap (marked v.model v.slice) c.in_ok-bits.ensures ∙ all_marked v.model v.slice c.size.result c.size.ensures
    ∙ ap (λ w. all_open w.model w.slice) (c.in_ok-sets.ensures ∙ c.new.ensures)
