use Rattle.std.proofs.Common.{◌≡◌, ◌&&◌, ◌∙◌, true, not, nat_lt, Some, None, inl, inr, refl, sym, ap, arith}
use Rattle.std.proofs.lemmas.Bool.{and_from, and_left, and_right, cases_lt, le-ltb, lt-ltb}
use Rattle.seq_check.specs.EventSets.{is_open}
use Rattle.seq_check.specs.believed.Orders.{is_among}
use Rattle.seq_check.proofs.FindLemmas.{first_lengthened}
use Rattle.seq_check.proofs.open.OpenSequences.first_behind.Goals as goal

pub returns-then-is_open : goal.returns-then-is_open
returns-then-is_open c = λ test tells.
    let o = c.args.self.now in
    let front = c.args.front.now in
    let n = c.args.count in
    let last = c.loop-last.last-counter in
    let few = c.requires.count in
    let found : (is_open o front last && (nat_lt last n && not (is_among front last))) ≡ true =
    and_from (is_open o front last) (nat_lt last n && not (is_among front last)) (sym c.is_open.ensures ∙ c.if-is_open.true)
    (and_from (nat_lt last n) (not (is_among front last)) (lt-ltb last n c.loop-last-test.true) (ap not (sym c.contains.ensures.value ∙ c.if-contains.false))) in
    first_lengthened o n front c.requires.count c.requires.front (λ event. is_open o front event && (nat_lt event n && not (is_among front event))) (λ event. refl) test tells
    (Some last) tt (omega arith, found, c.loop-last.invariant)

pub returns : goal.returns
returns c = λ test tells.
    let o = c.args.self.now in
    let front = c.args.front.now in
    let n = c.args.count in
    first_lengthened o n front c.requires.count c.requires.front (λ event. is_open o front event && (nat_lt event n && not (is_among front event))) (λ event. refl) test tells
    None
    (λ event low. elim (cases_lt event n) [
      | inl within ↦ c.loop-last.invariant event (omega arith)
      | inr past ↦ and_right (is_open o front event) (nat_lt event n && not (is_among front event)) (and_left (nat_lt event n) (not (is_among front event)) (le-ltb event n past))
    ]) tt
