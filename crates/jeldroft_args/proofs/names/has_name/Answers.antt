use Rattle.std.proofs.Common.{rules, []}
use Rattle.jeldroft_args.proofs.NameLemmas.{any_found, any_none, any_passed}
use Rattle.jeldroft_args.specs.believed.Names.{is_same_name}
use Rattle.jeldroft_args.proofs.names.has_name.Goals as goal

pub returns-then-is_same_name : goal.returns-then-is_same_name
returns-then-is_same_name c = any_found (is_same_name c.args.name.now) c.args.names.now c.loop-other.other-index (record { ref_ptr = (0, 0); now = [] }) _
    (search rules) c.loop-other.invariant (search rules)

pub loop-other-preserved : goal.loop-other-preserved
loop-other-preserved c = any_passed (is_same_name c.args.name.now) c.args.names.now c.loop-other.other-index (record { ref_ptr = (0, 0); now = [] }) _
    (search rules) c.loop-other.invariant (search rules)

pub returns : goal.returns
returns c = any_none (is_same_name c.args.name.now) c.args.names.now c.loop-other.other-index _ (search rules) c.loop-other.invariant
