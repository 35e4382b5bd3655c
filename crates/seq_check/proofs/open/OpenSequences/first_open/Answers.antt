use Rattle.std.proofs.Common.{◌≡◌, ◌+◌, ◌-◌, ◌∙◌, ◌∷◌, ◌++◌, [], ap, sym, Some, true, arith, inl, inr}
use Rattle.seq_check.specs.EventSets.{OpenView}
use Rattle.seq_check.proofs.FindLemmas.{list_is, none_more, none_open, some_open}
use Rattle.seq_check.proofs.open.OpenSequences.first_open.Goals as goal

pub first_behind-requires-clause-front : goal.first_behind-requires-clause-front
first_behind-requires-clause-front c =
    let m = c.self.inside.length - 1 in
    let same = ap (λ (v : OpenView). v.len) c.self.view_is in
    let one_less : m + 1 ≡ c.args.self.now.len = elim c.self.invariant.0 [ inl e ↦ omega arith | inr e ↦ omega arith ] in
    list_is (λ s. true) c.args.count m c.args.self.now.len c.as_slice-front-items.result.now (c.as_slice-front-items.ensures ∙ c.in_ok-fronts.ensures) one_less
    c.loop-front.front-index c.front-item.result c.as_slice.result.now c.loop-front-test.true (c.as_slice.ensures ∙ c.front-item.is)

pub returns-in-Some : goal.returns-in-Some
returns-in-Some c = λ test tells.
    let m = c.self.inside.length - 1 in
    let same = ap (λ (v : OpenView). v.len) c.self.view_is in
    let one_less : m + 1 ≡ c.args.self.now.len = elim c.self.invariant.0 [ inl e ↦ omega arith | inr e ↦ omega arith ] in
    let found : c.in_ok-with_event.field-0 ≡ c.as_slice.result.now ++ c.in-Some.last ∷ [] =
    c.in_ok-with_event.ensures ∙ ap (λ l. l ++ c.in-Some.last ∷ []) (c.as_slice-in-Some.ensures ∙ sym c.as_slice.ensures) in
    some_open test c.args.count m c.args.self.now.len c.as_slice-front-items.result.now (c.as_slice-front-items.ensures ∙ c.in_ok-fronts.ensures) one_less
    c.loop-front.front-index c.front-item.result c.as_slice.result.now c.in_ok-with_event.field-0 c.loop-front-test.true (c.as_slice.ensures ∙ c.front-item.is)
    (c.loop-front.invariant test tells) (ap Some found ∙ c.in-Some.ensures test tells)

pub loop-front-preserved : goal.loop-front-preserved
loop-front-preserved c = λ test tells.
    let m = c.self.inside.length - 1 in
    let same = ap (λ (v : OpenView). v.len) c.self.view_is in
    let one_less : m + 1 ≡ c.args.self.now.len = elim c.self.invariant.0 [ inl e ↦ omega arith | inr e ↦ omega arith ] in
    none_more test c.args.count m c.args.self.now.len c.as_slice-front-items.result.now (c.as_slice-front-items.ensures ∙ c.in_ok-fronts.ensures) one_less
    c.loop-front.front-index c.front-item.result c.as_slice.result.now c.loop-front-test.true (c.as_slice.ensures ∙ c.front-item.is)
    (c.loop-front.invariant test tells) (sym (c.in_default.ensures test tells))

pub returns : goal.returns
returns c = λ test tells.
    let m = c.self.inside.length - 1 in
    let same = ap (λ (v : OpenView). v.len) c.self.view_is in
    let one_less : m + 1 ≡ c.args.self.now.len = elim c.self.invariant.0 [ inl e ↦ omega arith | inr e ↦ omega arith ] in
    none_open test c.args.count m c.args.self.now.len c.as_slice-front-items.result.now (c.as_slice-front-items.ensures ∙ c.in_ok-fronts.ensures) one_less
    c.loop-front.front-index (omega arith) (omega arith) (c.loop-front.invariant test tells)
