-- Shares that add up to 1 at a common power of two.
use Rattle.std.proofs.Common.{◌≡◌, ℕ, ◌+◌, ◌*◌, ◌-◌, ◌^◌, ◌<◌, ◌≤◌, List, [], ◌∷◌, ◌++◌, get_or, set, ◌∙◌, sym, ap, subst, arith}
use Rattle.std.specs.Prelude.{All, sum_by}
use Rattle.std.proofs.Math.Nat.{mul_assoc}
use Rattle.std.proofs.lemmas.Nat.{pow-add, pow_pos}
use Rattle.atomic_table.proofs.Lists.{set_else}
use Rattle.std.proofs.lemmas.List.Elements.{All-from_get_or, All-get_or, All-head, All-push, All-set, All-tail, All-weaker}
use Rattle.std.proofs.lemmas.List.Sums.{get_or-le-sum_by, sum_by-cons, sum_by-set, sum_by_push}
use mathlib.Core.Option.{some}
use lib.ListN.{get_elem?}
use Rattle.shared_marks.specs.declared.holding.Holding.{Holding}
use Rattle.shared_marks.specs.Facts.{AddUp, parts_at}
use Rattle.shared_marks.specs.Seats.{IsWhole, halved, joined, other_half, spent}
use Rattle.shared_marks.proofs.SeatLemmas.{at_place}

-- a share at a higher power
power_more : (depth more halvings : ℕ) → halvings ≤ depth → 2 ^ (depth + more - halvings) ≡ 2 ^ (depth - halvings) * 2 ^ more
power_more depth more halvings enough =
    let same : depth + more - halvings ≡ (depth - halvings) + more = omega arith in
    ap (λ n. 2 ^ n) same ∙ pow-add 2 (depth - halvings) more

parts_more : (depth more : ℕ) (held : Holding) → held.halvings ≤ depth → parts_at (depth + more) held ≡ parts_at depth held * 2 ^ more
parts_more depth more held enough =
    let power = power_more depth more held.halvings enough in
    ap (λ n. held.parts * n) power ∙ sym (mul_assoc held.parts (2 ^ (depth - held.halvings)) (2 ^ more))

sum_more : (depth more : ℕ) (seats : List Holding) → All (λ held. held.halvings ≤ depth) seats
    → sum_by (parts_at (depth + more)) seats ≡ sum_by (parts_at depth) seats * 2 ^ more
sum_more depth more [] enough = omega arith
sum_more depth more (held ∷ seats) enough =
    sum_by-cons (parts_at (depth + more)) held seats
    ∙ added (parts_at (depth + more) held) (sum_by (parts_at (depth + more)) seats) (parts_at depth held) (sum_by (parts_at depth) seats) (2 ^ more)
    (parts_more depth more held (All-head (λ (h : Holding). h.halvings ≤ depth) held seats enough))
    (sum_more depth more seats (All-tail (λ (h : Holding). h.halvings ≤ depth) held seats enough))
    ∙ ap (λ n. n * 2 ^ more) (sym (sum_by-cons (parts_at depth) held seats))
  where
    added : (a b c d e : ℕ) → a ≡ c * e → b ≡ d * e → a + b ≡ (c + d) * e
    added a b c d e first second = grind arith

-- the whole at a higher power
whole_more : (depth more : ℕ) (seats : List Holding) → All (λ held. held.halvings ≤ depth) seats → sum_by (parts_at depth) seats ≡ 2 ^ depth
    → sum_by (parts_at (depth + more)) seats ≡ 2 ^ (depth + more)
whole_more depth more seats enough whole = sum_more depth more seats enough ∙ ap (λ n. n * 2 ^ more) whole ∙ sym (pow-add 2 depth more)

-- the share of a seat, and the sum with another seat in its place
enough_at : (depth : ℕ) (seats : List Holding) (by : ℕ) (held : Holding) → All (λ h. h.halvings ≤ depth) seats → get_elem? seats by ≡ some held
    → held.halvings ≤ depth
enough_at depth seats by held enough here =
    let there = at_place seats by held held here in
    subst (λ (h : Holding). h.halvings ≤ depth) there.1 (All-get_or (λ (h : Holding). h.halvings ≤ depth) seats by held there.0 enough)

replaced : (depth : ℕ) (seats : List Holding) (by : ℕ) (held other : Holding) → get_elem? seats by ≡ some held
    → sum_by (parts_at depth) (set seats by other) + parts_at depth held ≡ sum_by (parts_at depth) seats + parts_at depth other
replaced depth seats by held other here =
    let there = at_place seats by held held here in
    sym (ap (λ h. sum_by (parts_at depth) (set seats by other) + parts_at depth h) there.1)
    ∙ sum_by-set (parts_at depth) seats by other held there.0

-- a seat whose share stays
pub shares_kept : (seats : List Holding) (by : ℕ) (held other : Holding) → AddUp seats → get_elem? seats by ≡ some held
    → other.parts ≡ held.parts → other.halvings ≡ held.halvings → AddUp (set seats by other)
shares_kept seats by held other sum here parts halvings =
    let same : parts_at sum.depth other ≡ parts_at sum.depth held =
    ap (λ n. n * 2 ^ (sum.depth - other.halvings)) parts ∙ ap (λ n. held.parts * 2 ^ (sum.depth - n)) halvings in
    let put = replaced sum.depth seats by held other here in
    record {
      depth = sum.depth;
      enough = All-set (λ (h : Holding). h.halvings ≤ sum.depth) seats by other
          (subst (λ n. n ≤ sum.depth) (sym halvings) (enough_at sum.depth seats by held sum.enough here)) sum.enough;
      whole = omega (arith, put, same, sum.whole);
    }

-- a share in halves
pub shares_split : (seats : List Holding) (by : ℕ) (held : Holding) → AddUp seats → get_elem? seats by ≡ some held
    → AddUp (set seats by (halved held) ++ other_half held ∷ [])
shares_split seats by held sum here =
    let d = sum.depth in
    let own = enough_at d seats by held sum.enough here in
    let deeper = All-weaker (λ (h : Holding). h.halvings ≤ d) (λ (h : Holding). h.halvings ≤ d + 1) (λ h least. omega (arith, least)) seats sum.enough in
    let put = replaced (d + 1) seats by held (halved held) here in
    let pushed = sum_by_push (parts_at (d + 1)) (set seats by (halved held)) (other_half held) in
    let twice = parts_more d 1 held own in
    let half : parts_at (d + 1) (halved held) ≡ parts_at d held = ap (λ n. held.parts * 2 ^ n) (omega (arith, own)) in
    let whole = whole_more d 1 seats sum.enough sum.whole in
    record {
      depth = d + 1;
      enough = All-push (λ (h : Holding). h.halvings ≤ d + 1) (set seats by (halved held)) (other_half held)
          (All-set (λ (h : Holding). h.halvings ≤ d + 1) seats by (halved held) (omega (arith, own)) deeper) (omega (arith, own));
      whole = omega (arith, put, pushed, twice, half, whole);
    }

-- two shares added up
both_parts : (depth : ℕ) (held other : Holding) → held.halvings ≤ depth → other.halvings ≤ depth
    → parts_at (depth + depth) (joined held other) ≡ parts_at (depth + depth) held + parts_at (depth + depth) other
both_parts depth held other first second =
    let rest = depth + depth - (held.halvings + other.halvings) in
    let one : 2 ^ (depth + depth - held.halvings) ≡ 2 ^ other.halvings * 2 ^ rest = ap (λ n. 2 ^ n) (omega arith) ∙ pow-add 2 other.halvings rest in
    let two : 2 ^ (depth + depth - other.halvings) ≡ 2 ^ held.halvings * 2 ^ rest = ap (λ n. 2 ^ n) (omega arith) ∙ pow-add 2 held.halvings rest in
    added held.parts other.parts (2 ^ other.halvings) (2 ^ held.halvings) (2 ^ rest) (2 ^ (depth + depth - held.halvings)) (2 ^ (depth + depth - other.halvings)) one two
  where
    added : (a b x y z p q : ℕ) → p ≡ x * z → q ≡ y * z → (a * x + b * y) * z ≡ a * p + b * q
    added a b x y z p q first second = grind arith

pub shares_joined : (seats : List Holding) (by from : ℕ) (held other : Holding) → AddUp seats → get_elem? seats by ≡ some held
    → ¬ (from ≡ by) → get_elem? (set seats by (joined held other)) from ≡ some other → AddUp (set (set seats by (joined held other)) from spent)
shares_joined seats by from held other sum here apart there =
    let d = sum.depth in
    let both = joined held other in
    let first = enough_at d seats by held sum.enough here in
    let second = enough_at d seats from other sum.enough (sym (set_else seats by from both apart) ∙ there) in
    let put = replaced (d + d) seats by held both here in
    let taken = replaced (d + d) (set seats by both) from other spent there in
    let parts = both_parts d held other first second in
    let whole = whole_more d d seats sum.enough sum.whole in
    let deeper = All-weaker (λ (h : Holding). h.halvings ≤ d) (λ (h : Holding). h.halvings ≤ d + d) (λ h least. omega (arith, least)) seats sum.enough in
    record {
      depth = d + d;
      enough = All-set (λ (h : Holding). h.halvings ≤ d + d) (set seats by both) from spent (omega arith)
          (All-set (λ (h : Holding). h.halvings ≤ d + d) seats by both (omega (arith, first, second)) deeper);
      whole = omega (arith, put, taken, parts, whole);
    }

-- a seat of share 1 leaves nothing to the others
pub others_spent : (seats : List Holding) (by : ℕ) (held : Holding) → AddUp seats → get_elem? seats by ≡ some held → IsWhole held
    → All (λ other. other.parts ≡ 0) (set seats by spent)
others_spent seats by held sum here whole =
    All-from_get_or (λ (other : Holding). other.parts ≡ 0) (set seats by spent) spent (λ i within.
    let part = get_or-le-sum_by (parts_at d) (set seats by spent) i spent within in
    none (get_or (set seats by spent) i spent) (omega (arith, part, put, all, sum.whole)))
  where
    d : ℕ
    d = sum.depth

    own : held.halvings ≤ d
    own = enough_at d seats by held sum.enough here

    put : sum_by (parts_at d) (set seats by spent) + parts_at d held ≡ sum_by (parts_at d) seats + parts_at d spent
    put = replaced d seats by held spent here

    all : parts_at d held ≡ 2 ^ d
    all = ap (λ n. n * 2 ^ (d - held.halvings)) whole ∙ sym (pow-add 2 held.halvings (d - held.halvings)) ∙ ap (λ n. 2 ^ n) (omega (arith, own))

    none : (other : Holding) → parts_at d other ≡ 0 → other.parts ≡ 0
    none other nothing = factor other.parts (2 ^ (d - other.halvings)) (pow_pos (d - other.halvings)) nothing
      where
        factor : (a b : ℕ) → 0 < b → a * b ≡ 0 → a ≡ 0
        factor a b share product = grind arith
