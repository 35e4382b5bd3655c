use Rattle.std.proofs.Common.{arith}
use Rattle.std.proofs.lemmas.List.Sums.{suffix_len-le-length}
use Rattle.value_text.specs.believed.Texts.{is_blank}
use Rattle.acts_front.proofs.text.without_last_blanks.Goals as goal

pub slice_bounds-result-count : goal.slice_bounds-result-count
slice_bounds-result-count c = omega (arith, suffix_len-le-length is_blank c.args.text.now)
