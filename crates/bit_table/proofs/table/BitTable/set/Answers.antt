use Rattle.std.proofs.Common.{◌/◌, true, set, ◌∙◌, ap, arith}
use Rattle.std.proofs.lemmas.List.{get_or_read}
use Rattle.bit_table.proofs.MarkLemmas.{viewed_below, word_listed}
use Rattle.bit_table.proofs.SetLemmas.{sets}
use Rattle.bit_table.proofs.table.BitTable.set.Goals as goal

pub index-word-requires : goal.index-word-requires
index-word-requires c =
    let below = viewed_below c.self.inside.words.items c.self.inside.size c.args.place c.args.self.now c.self.view_is c.requires in
    omega (arith, word_listed c.self.inside.words.items c.self.inside.size c.args.place c.self.invariant.0 below, c.self.inside.words.ok.0)

pub index_mut-requires : goal.index_mut-requires
index_mut-requires c =
    let below = viewed_below c.self.inside.words.items c.self.inside.size c.args.place c.args.self.now c.self.view_is c.requires in
    omega (arith, word_listed c.self.inside.words.items c.self.inside.size c.args.place c.self.invariant.0 below, c.self.inside.words.ok.0)

pub invariant_of-self : goal.invariant_of-self
invariant_of-self c =
    let words = c.self.inside.words.items in
    let below = viewed_below words c.self.inside.size c.args.place c.args.self.now c.self.view_is c.requires in
    let listed = word_listed words c.self.inside.size c.args.place c.self.invariant.0 below in
    let read = get_or_read words (c.args.place / 64) c.index-word.result.now listed c.index-word.ensures 0 in
    let done = sets words c.self.inside.size c.self.inside.set_count c.args.place c.index-word.result.now c.self.invariant.0 c.self.invariant.1 below read in
    (done.covered, done.counted)

pub returns : goal.returns
returns c =
    let words = c.self.inside.words.items in
    let below = viewed_below words c.self.inside.size c.args.place c.args.self.now c.self.view_is c.requires in
    let listed = word_listed words c.self.inside.size c.args.place c.self.invariant.0 below in
    let read = get_or_read words (c.args.place / 64) c.index-word.result.now listed c.index-word.ensures 0 in
    (sets words c.self.inside.size c.self.inside.set_count c.args.place c.index-word.result.now c.self.invariant.0 c.self.invariant.1 below read).seen
    ∙ ap (λ marks. set marks c.args.place true) c.self.view_is

pub overflow_add-self : goal.overflow_add-self
overflow_add-self c =
    let words = c.self.inside.words.items in
    let below = viewed_below words c.self.inside.size c.args.place c.args.self.now c.self.view_is c.requires in
    let listed = word_listed words c.self.inside.size c.args.place c.self.invariant.0 below in
    let read = get_or_read words (c.args.place / 64) c.index-word.result.now listed c.index-word.ensures 0 in
    let few = (sets words c.self.inside.size c.self.inside.set_count c.args.place c.index-word.result.now c.self.invariant.0 c.self.invariant.1 below read).few in
    omega (arith, few)
