-- A constraint that names a parameter before the one at hand, and this has a value, was looked at or holds.
use Rattle.std.proofs.Common.{◌≡◌, ℕ, zero, suc, ◌+◌, ◌-◌, ◌<◌, Bool, true, false, not, ◌&&◌, cond, if◌then◌else◌, List, [], ◌∷◌, length, take, ◌≤◌, ◌⊎◌}
use Rattle.std.proofs.Common.{Option, None, get_or, ◌∙◌, sym, subst, arith, inl, inr, refl}
use Rattle.std.specs.List.{filter, range_with_len}
use Rattle.std.proofs.lemmas.Bool.{false≢true, cases_Bool, false_from_ne_true}
use Rattle.std.proofs.lemmas.List.Folds.{list_any_at}
use Rattle.value_text.proofs.ListLemmas.{Some-unwrap_or}
use Rattle.cov_model.specs.believed.Sound.{ModelView, IsSound}
use Rattle.cov_model.specs.Sound.{no_rule, rule_at}
use Rattle.cov_model.specs.believed.Kleene.{body_truth}
use Rattle.cov_model.specs.believed.Rows.{is_assigned, value_in, with_value}
use Rattle.compiled_rules.specs.Codes.{is_yes}
use Rattle.cov_model.specs.believed.Valid.{param_numbers}
use Rattle.cov_model.proofs.CellLemmas.{assigned_within}
use Rattle.definitions.specs.believed.Demand.{is_among}
use Rattle.definitions.specs.believed.Search.{body_params, constrained_params}
use Rattle.definitions.proofs.Contained.{left}
use Rattle.definitions.proofs.Members.{Has, any_member, has_filter, has_flat, of_among, of_filter, of_range}
use Rattle.definitions.proofs.SliceLemmas.{has_params}
use Rattle.live_sets.specs.Trail.{LiveView, mark_at}
use Rattle.feasibility.specs.Live.{AreSeen, BreaksNoMark, IsUnbrokenBefore, LookedAt, NamesEarlier, breaks_one, no_on, undecided_of}
use Rattle.feasibility.specs.Tree.{is_named, undecided}
use Rattle.feasibility.proofs.Broken.{decided}
use Rattle.feasibility.proofs.Growing.{not_no}
use Rattle.feasibility.proofs.Looking.{holds_seen}

-- of the numbers of a range that pass a test, one below that at a place stands before it
pub stands_before : (f : ℕ → Bool) (a n i q : ℕ) → i < length (filter f (range_with_len a n)) → Has (filter f (range_with_len a n)) q
    → q < get_or (filter f (range_with_len a n)) i 0 → Has (take i (filter f (range_with_len a n))) q
stands_before f a zero i q within has below = absurd has
stands_before f a (suc n) i q within has below =
    of_first (f a) i (λ j within has below. stands_before f (a + 1) n j q within has below) within has below
  where
    of_first : (b : Bool) (i : ℕ)
        → ((j : ℕ) → j < length (filter f (range_with_len (a + 1) n)) → Has (filter f (range_with_len (a + 1) n)) q
        → q < get_or (filter f (range_with_len (a + 1) n)) j 0 → Has (take j (filter f (range_with_len (a + 1) n))) q)
        → i < length (cond b (a ∷ filter f (range_with_len (a + 1) n)) (filter f (range_with_len (a + 1) n)))
        → Has (cond b (a ∷ filter f (range_with_len (a + 1) n)) (filter f (range_with_len (a + 1) n))) q
        → q < get_or (cond b (a ∷ filter f (range_with_len (a + 1) n)) (filter f (range_with_len (a + 1) n))) i 0
        → Has (take i (cond b (a ∷ filter f (range_with_len (a + 1) n)) (filter f (range_with_len (a + 1) n)))) q
    of_first false i rest within has below = rest i within has below
    of_first true zero rest within (inl same) below = absurd (omega (arith, same, below))
    of_first true zero rest within (inr has) below =
        absurd (omega (arith, below, (of_range (a + 1) n q (of_filter f (range_with_len (a + 1) n) q has).0).0))
    of_first true (suc j) rest within (inl same) below = inl same
    of_first true (suc j) rest within (inr has) below = inr (rest j (omega (arith, within)) has below)

-- one of those looked at
seen_among : (m : ModelView) (numbers : List ℕ) (k : ℕ) (cells : List (Option ℕ)) (old now : LiveView) → Has numbers k
    → LookedAt m numbers cells old now → BreaksNoMark m k cells now
seen_among m numbers k cells old now has to = record {
  unbroken = never cells to.unbroken;
  kept = λ q w low inside free marked.
      never (with_value cells q w)
      (no_more (mark_at old.live q w) (breaks_one m numbers (with_value cells q w)) (sym (to.marks q w low inside free) ∙ marked));
}
  where
    never : (row : List (Option ℕ)) → breaks_one m numbers row ≡ false → no_on m row k ≡ false
    never row none = false_from_ne_true (no_on m row k) (λ is. false≢true (sym none ∙ any_member (no_on m row) numbers k has is))

    no_more : (a b : Bool) → (a && not b) ≡ true → b ≡ false
    no_more a false h = refl
    no_more true true h = absurd (false≢true h)
    no_more false true h = absurd (false≢true h)

-- one that does so is left undecided by a parameter before the place at hand, or holds
pub left_or_holds : (m : ModelView) (cells : List (Option ℕ)) (i k : ℕ) → IsSound m → length cells ≡ length m.params → i < length (constrained_params m)
    → 0 < k → k ≤ length m.rules → NamesEarlier m k (get_or (constrained_params m) i 0) cells
    → Has (undecided_of m cells (take i (constrained_params m))) k ⊎ (is_yes (body_truth m (rule_at m k).body cells) ≡ true)
left_or_holds m cells i k sound long within some most earlier =
    elim (cases_Bool (is_among (undecided m q (value_in cells q)) k)) [
      | inl left ↦
          inl (has_flat (λ p. if is_assigned cells p then undecided m p (value_in cells p) else []) (take i (constrained_params m)) q k stands
          (subst (λ (b : Bool). Has (if b then undecided m q (value_in cells q) else []) k) (sym earlier.given)
          (of_among (undecided m q (value_in cells q)) k left)))
      | inr away ↦
          inr (decided m cells q (value_in cells q) k sound long (Some-unwrap_or (get_or cells q None) 0 earlier.given) some most earlier.named away)
    ]
  where
    q : ℕ
    q = earlier.param

    stands : Has (take i (constrained_params m)) q
    stands =
        stands_before (is_named m) 0 (length m.params) i q within
        (has_filter (is_named m) (param_numbers m) q (has_params m q (omega (arith, assigned_within cells q earlier.given, long)))
        (list_any_at (λ rule. is_among (body_params rule.body) q) m.rules (k - 1) no_rule (omega (arith, some, most)) earlier.named))
        earlier.below

-- where the constraints were looked at that the parameters before a place leave undecided
pub seen_before : (m : ModelView) (cells : List (Option ℕ)) (i : ℕ) (old now : LiveView) → IsSound m → length cells ≡ length m.params
    → i < length (constrained_params m) → LookedAt m (undecided_of m cells (take i (constrained_params m))) cells old now
    → AreSeen m (get_or (constrained_params m) i 0) cells now
seen_before m cells i old now sound long within to k some most earlier =
    elim (left_or_holds m cells i k sound long within some most earlier) [
      | inl left ↦ seen_among m (undecided_of m cells (take i (constrained_params m))) k cells old now left to
      | inr holds ↦ holds_seen m k cells now holds
    ]

-- where none of those is No
pub unbroken_before : (m : ModelView) (cells : List (Option ℕ)) (i : ℕ) → IsSound m → length cells ≡ length m.params → i < length (constrained_params m)
    → breaks_one m (undecided_of m cells (take i (constrained_params m))) cells ≡ false
    → IsUnbrokenBefore m (get_or (constrained_params m) i 0) cells
unbroken_before m cells i sound long within whole k some most earlier =
    elim (left_or_holds m cells i k sound long within some most earlier) [
      | inl left ↦
          false_from_ne_true (no_on m cells k) (λ is.
          false≢true (sym whole ∙ any_member (no_on m cells) (undecided_of m cells (take i (constrained_params m))) k left is))
      | inr holds ↦ not_no (body_truth m (rule_at m k).body cells) holds
    ]

-- what isn't made No by a value that is marked isn't where fewer are
pub seen_after : (m : ModelView) (numbers : List ℕ) (k : ℕ) (cells : List (Option ℕ)) (old now : LiveView) → LookedAt m numbers cells old now
    → BreaksNoMark m k cells old → BreaksNoMark m k cells now
seen_after m numbers k cells old now to seen = record {
  unbroken = seen.unbroken;
  kept = λ q w low inside free marked.
      seen.kept q w low inside free
      (left (mark_at old.live q w) (not (breaks_one m numbers (with_value cells q w))) (sym (to.marks q w low inside free) ∙ marked));
}
