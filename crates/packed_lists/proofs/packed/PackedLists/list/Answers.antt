use Rattle.std.proofs.Common.{◌≡◌, [], length, get_or, ◌∙◌, sym, ap, arith}
use Rattle.std.specs.Prelude.{slice_range}
use Rattle.std.proofs.lemmas.List.{get_or_read}
use Rattle.packed_lists.specs.Packed.{begin_of}
use Rattle.packed_lists.proofs.CutLemmas.{cut_at, list_within, number_within}
use Rattle.packed_lists.proofs.packed.PackedLists.list.Goals as goal

pub begin_of-begin-requires : goal.begin_of-begin-requires
begin_of-begin-requires c =
    let within = number_within c.self.inside.ends.items c.self.inside.numbers.items c.args.self.now c.args.i c.self.view_is c.requires in
    omega (arith, within, ap length c.as_slice.ensures.value)

pub index-requires : goal.index-requires
index-requires c =
    let within = number_within c.self.inside.ends.items c.self.inside.numbers.items c.args.self.now c.args.i c.self.view_is c.requires in
    omega (arith, within, ap length c.as_slice.ensures.value, c.as_slice.ensures.len)

pub between-requires-clause-order : goal.between-requires-clause-order
between-requires-clause-order c =
    let within = number_within c.self.inside.ends.items c.self.inside.numbers.items c.args.self.now c.args.i c.self.view_is c.requires in
    let begin : c.begin_of-begin.result ≡ begin_of 0 c.self.inside.ends.items c.args.i = c.begin_of-begin.ensures ∙ ap (λ ends. begin_of 0 ends c.args.i) c.as_slice.ensures.value in
    let end = get_or_read c.self.inside.ends.items c.args.i c.index.result.now within c.index.ensures 0 in
    omega (arith, begin, end, (list_within 0 c.self.inside.ends.items (length c.self.inside.numbers.items) c.args.i c.self.invariant within).0)

pub between-requires-clause-within : goal.between-requires-clause-within
between-requires-clause-within c =
    let within = number_within c.self.inside.ends.items c.self.inside.numbers.items c.args.self.now c.args.i c.self.view_is c.requires in
    let end = get_or_read c.self.inside.ends.items c.args.i c.index.result.now within c.index.ensures 0 in
    omega (arith, end, ap length c.as_slice-2.ensures.value, (list_within 0 c.self.inside.ends.items (length c.self.inside.numbers.items) c.args.i c.self.invariant within).1)

pub returns : goal.returns
returns c =
    let within = number_within c.self.inside.ends.items c.self.inside.numbers.items c.args.self.now c.args.i c.self.view_is c.requires in
    let begin : c.begin_of-begin.result ≡ begin_of 0 c.self.inside.ends.items c.args.i = c.begin_of-begin.ensures ∙ ap (λ ends. begin_of 0 ends c.args.i) c.as_slice.ensures.value in
    let end = get_or_read c.self.inside.ends.items c.args.i c.index.result.now within c.index.ensures 0 in
    c.between.ensures
    ∙ ap (λ numbers. slice_range numbers c.begin_of-begin.result c.index.result.now) c.as_slice-2.ensures.value
    ∙ ap (λ from. slice_range c.self.inside.numbers.items from c.index.result.now) begin
    ∙ ap (slice_range c.self.inside.numbers.items (begin_of 0 c.self.inside.ends.items c.args.i)) end
    ∙ sym (cut_at 0 c.self.inside.ends.items c.self.inside.numbers.items c.args.i within)
    ∙ ap (λ lists. get_or lists c.args.i []) c.self.view_is
