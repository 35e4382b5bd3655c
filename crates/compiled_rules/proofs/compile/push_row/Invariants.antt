use Rattle.std.proofs.Common.{◌≡◌, ◌++◌, ℕ, Some, map, set, length}
use Rattle.std.specs.List.{range_with_len}
use Rattle.cov_model.specs.Fits.{FitsModel}
use Rattle.cov_model.specs.believed.Sound.{param_at}
use Rattle.cov_model.specs.believed.Kleene.{term_truth}
use Rattle.compiled_rules.specs.Codes.{is_yes}
use Rattle.compiled_rules.proofs.compile.push_row.Given as goal

abbrev pub invariant-loop-w : goal.invariant-loop-w
invariant-loop-w l = record {
  fits : FitsModel l.model l.room;
  near : (v : ℕ) → set l.room l.q (Some v) ≡ set l.initial.room l.q (Some v);
  count : l.count ≡ length (param_at l.model.params l.q).values;
  table : l.table ≡ l.initial.table ++ map (λ v. is_yes (term_truth l.model l.term (set l.initial.room l.q (Some v)))) (range_with_len 0 l.w);
}
