-- Sums of digits by their weights.
use Rattle.std.proofs.Common.{◌≡◌, ℕ, zero, suc, ◌+◌, ◌*◌, ◌^◌, ◌<◌, ◌≤◌, Bool, true, false, cond, List, [], ◌∷◌, ◌++◌, Option, Some, None, drop, length}
use Rattle.std.proofs.Common.{get_or, set, nat_eq, All, inl, inr, ◌∙◌, sym, ap, subst, refl, arith, add-one, drop-cons}
use Rattle.std.specs.Prelude.{option_map}
use Rattle.std.proofs.Math.Nat.{mul-le-mul}
use Rattle.std.proofs.lemmas.List.{drop_all, get_or_past, get_or-set_same, get_or-set_other, length-set}
use Rattle.std.proofs.lemmas.Bool.{cases_eq, cases_lt}
use Rattle.std.proofs.lemmas.Bool.Decides.{nat_tests}
use Rattle.std.specs.Prelude.{slice_range}
use Rattle.std.proofs.lemmas.List.{length-take, drop_more, take_all, take-append-le, drop-append-le, take-append-drop, take_more, get_or_append_left}
use Rattle.std.proofs.Math.Seq.{get_or-append_seam}
use Rattle.std.proofs.Common.{length-drop, ◌-◌, take, length-append}
use Rattle.std.proofs.lemmas.List.Elements.{All-take, All-drop, All-append, All-cons, All-nil}
use Rattle.cov_model.specs.believed.Sound.{ModelView}
use Rattle.cov_model.specs.declared.slice.Slice.{Slice}
use Rattle.definitions.specs.SliceRows.{IsSliceOf}
use Rattle.tuple_index.specs.Kept.{IsKept}
use Rattle.tuple_index.specs.Places.{ways}
use Rattle.uncovered_table.proofs.DigitLemmas.{cell_digits, fewer_ways, joined-None, number_below, with_digits}
use Rattle.tuple_index.specs.Plan.{plan_of}
use Rattle.uncovered_table.specs.Bits.{InPlay, first_bit}
use Rattle.uncovered_table.specs.Places.{set_at}
use Rattle.uncovered_table.proofs.LineLemmas.{LineKnown, line_known}
use Rattle.uncovered_table.specs.declared.prepared.Part.{Part}
use Rattle.uncovered_table.specs.declared.prepared.Prepared.{Prepared}
use Rattle.uncovered_table.specs.Digits.{cell_digit, joined, number_of, own_values, step_of, with_digit}
use Rattle.uncovered_table.specs.Prepared.{AreLines, ArePushed, with_part, IsLineOf, coded, digit_in, sum_of}
use Rattle.value_text.proofs.ListLemmas.{add_zero}

-- the parts that are left decide
pub record Summing (digits : ℕ → Option ℕ) (parts : List Part) (k n : ℕ) : Type 0 where
  pub value : sum_of digits parts ≡ option_map (λ r. n + r) (sum_of digits (drop k parts))
  pub few : n ≤ k * 2 ^ 48

pub summing-start : (digits : ℕ → Option ℕ) (parts : List Part) → Summing digits parts 0 0
summing-start digits parts = record { value = add_zero (sum_of digits parts); few = omega arith }

next : (digits : ℕ → Option ℕ) (parts : List Part) (k : ℕ) (d : Part) → k < length parts
    → sum_of digits (drop k parts) ≡ joined (digits (get_or parts k d).param) (get_or parts k d).weight (sum_of digits (drop (k + 1) parts))
next digits parts k d within = ap (sum_of digits) (drop-cons parts k d within ∙ ap (λ i. get_or parts k d ∷ drop i parts) (sym (add-one k)))

pub summing-more : (digits : ℕ → Option ℕ) (parts : List Part) (k n digit : ℕ) (d : Part) → k < length parts → Summing digits parts k n
    → digits (get_or parts k d).param ≡ Some digit → digit < 2 ^ 16 → (get_or parts k d).weight < 2 ^ 32
    → Summing digits parts (k + 1) (n + digit * (get_or parts k d).weight)
summing-more digits parts k n digit d within summing here low light = record {
  value =
      summing.value ∙ ap (option_map (λ r. n + r)) (next digits parts k d within ∙ ap (λ o. joined o (get_or parts k d).weight (sum_of digits (drop (k + 1) parts))) here)
      ∙ at (get_or parts k d).weight (sum_of digits (drop (k + 1) parts));
  few = let less : digit * (get_or parts k d).weight ≤ 2 ^ 48 = product digit (get_or parts k d).weight low light in omega (arith, summing.few, less);
}
  where
    at : (w : ℕ) (o : Option ℕ) → option_map (λ r. n + r) (joined (Some digit) w o) ≡ option_map (λ r. n + digit * w + r) o
    at w None = refl
    at w (Some r) = ap (λ (x : ℕ). Some x) (let e : n + (digit * w + r) ≡ n + digit * w + r = omega arith in e)

    product : (a b : ℕ) → a < 2 ^ 16 → b < 2 ^ 32 → a * b ≤ 2 ^ 48
    product a b la lb = let less : a * b ≤ 2 ^ 16 * 2 ^ 32 = mul-le-mul {n₂ = 2 ^ 16} {m₂ = 2 ^ 32} (omega arith) (omega arith) in less

pub summing-none : (digits : ℕ → Option ℕ) (parts : List Part) (k n : ℕ) (d : Part) → k < length parts → Summing digits parts k n
    → digits (get_or parts k d).param ≡ None → None ≡ sum_of digits parts
summing-none digits parts k n d within summing none =
    sym (summing.value ∙ ap (option_map (λ r. n + r)) (next digits parts k d within ∙ ap (λ o. joined o (get_or parts k d).weight (sum_of digits (drop (k + 1) parts))) none))

pub summing-end : (digits : ℕ → Option ℕ) (parts : List Part) (k n : ℕ) → length parts ≤ k → Summing digits parts k n → Some n ≡ sum_of digits parts
summing-end digits parts k n past summing =
    sym (summing.value ∙ ap (λ list. option_map (λ r. n + r) (sum_of digits list)) (drop_all k parts past) ∙ ap (λ (x : ℕ). Some x) (let e : n + 0 ≡ n = omega arith in e))

-- one part more at the end
pub sum-push : (digits : ℕ → Option ℕ) (parts : List Part) (part : Part) → sum_of digits (parts ++ part ∷ []) ≡ joined (digits part.param) part.weight (sum_of digits parts)
sum-push digits [] part = refl
sum-push digits (first ∷ parts) part =
    ap (joined (digits first.param) first.weight) (sum-push digits parts part) ∙ swap (digits first.param) first.weight (digits part.param) part.weight (sum_of digits parts)
  where
    swap : (a : Option ℕ) (v : ℕ) (b : Option ℕ) (w : ℕ) (o : Option ℕ) → joined a v (joined b w o) ≡ joined b w (joined a v o)
    swap None v None w o = refl
    swap None v (Some b) w None = refl
    swap None v (Some b) w (Some n) = refl
    swap (Some a) v None w None = refl
    swap (Some a) v None w (Some n) = refl
    swap (Some a) v (Some b) w None = refl
    swap (Some a) v (Some b) w (Some n) = ap (λ (x : ℕ). Some x) (let e : a * v + (b * w + n) ≡ b * w + (a * v + n) = omega arith in e)

-- digits that are put one after another
pub record PutTo (digits : ℕ → Option ℕ) (start into : List ℕ) (p : ℕ) : Type 0 where
  pub long : length into ≡ length start
  pub done : (q : ℕ) → q < p → digit_in into q ≡ digits q
  pub rest : (q : ℕ) → p ≤ q → get_or into q 65535 ≡ 65535

pub put-start : (digits : ℕ → Option ℕ) (start : List ℕ) → All (λ digit. digit ≡ 65535) start → PutTo digits start start 0
put-start digits start none = record {
  long = refl;
  done = λ q below. absurd (omega arith);
  rest =
      λ q least.
      elim (cases_lt q (length start)) [
        | inl within ↦ none q 65535 within
        | inr past ↦ get_or_past start q 65535 past
      ];
}

pub put-some : (digits : ℕ → Option ℕ) (start into : List ℕ) (p d : ℕ) → p < length start → PutTo digits start into p → digits p ≡ Some d → d < 65535
    → PutTo digits start (set into p d) (p + 1)
put-some digits start into p d within to is low = record {
  long = length-set into p d ∙ to.long;
  done =
      λ q below.
      elim (cases_eq q p) [
        | inl same ↦
            let other : nat_eq d 65535 ≡ false = grind (arith, nat_tests) in
            ap (λ k. coded (get_or (set into p d) k 65535)) same ∙ ap coded (get_or-set_same into p d 65535 (omega (arith, to.long)))
            ∙ ap (λ (b : Bool). cond b None (Some d)) other ∙ sym is ∙ ap digits (sym same)
        | inr apart ↦ ap coded (get_or-set_other into p q d 65535 apart) ∙ to.done q (omega (arith, apart))
      ];
  rest = λ q least. get_or-set_other into p q d 65535 (λ same. omega (arith, same, least)) ∙ to.rest q (omega arith);
}

pub put-none : (digits : ℕ → Option ℕ) (start into : List ℕ) (p : ℕ) → PutTo digits start into p → digits p ≡ None → PutTo digits start into (p + 1)
put-none digits start into p to is = record {
  long = to.long;
  done =
      λ q below.
      elim (cases_eq q p) [
        | inl same ↦ ap coded (to.rest q (omega (arith, same))) ∙ sym is ∙ ap digits (sym same)
        | inr apart ↦ to.done q (omega (arith, apart))
      ];
  rest = λ q least. to.rest q (omega arith);
}

pub put-all : (digits : ℕ → Option ℕ) (start into : List ℕ) (p : ℕ) → PutTo digits start into p → ((q : ℕ) → p ≤ q → digits q ≡ None) → digit_in into ≡ digits
put-all digits start into p to none = λ i q. each q i
  where
    each : (q : ℕ) → digit_in into q ≡ digits q
    each q =
        elim (cases_lt q p) [
          | inl below ↦ to.done q below
          | inr past ↦ ap coded (to.rest q past) ∙ sym (none q past)
        ]

-- what a prepared line and the digits of a row make
pub prepared-number : (m : ModelView) (slice : Slice) (cells : List (Option ℕ)) (column set : ℕ) (line : Prepared) (parts : List Part) (codes : List ℕ) (o : Option ℕ)
    → IsLineOf m slice column set line parts → digit_in codes ≡ cell_digit (own_values m slice) cells → o ≡ sum_of (digit_in codes) (slice_range parts line.begin line.end)
    → o ≡ number_of (own_values m slice) (with_digit (cell_digit (own_values m slice) cells) column 0) (set_at m set)
prepared-number m slice cells column set line parts codes o own same is =
    is ∙ ap (λ (f : ℕ → Option ℕ). sum_of f (slice_range parts line.begin line.end)) same ∙ own.sums (cell_digit (own_values m slice) cells)

pub prepared-known : (m : ModelView) (slice : Slice) (cells : List (Option ℕ)) (column set : ℕ) (line : Prepared) (parts : List Part) (codes : List ℕ) (sum : ℕ)
    → IsKept (plan_of m) → IsSliceOf m slice → InPlay m slice column set
    → IsLineOf m slice column set line parts → digit_in codes ≡ cell_digit (own_values m slice) cells → Some sum ≡ sum_of (digit_in codes) (slice_range parts line.begin line.end)
    → LineKnown m slice (cell_digit (own_values m slice) cells) column set (line.first + sum) line.step
prepared-known m slice cells column set line parts codes sum kept is play own same summed =
    line_known m slice cells column set (set_at m set) line.first sum line.step kept is play refl own.first
    (prepared-number m slice cells column set line parts codes (Some sum) own same summed) own.step

-- the line of a place
pub line-of : (m : ModelView) (slice : Slice) (column set k : ℕ) (sets : List ℕ) (line : Prepared) (lines : List Prepared) (parts : List Part) → AreLines m slice column sets lines parts
    → k < length sets → set ≡ get_or sets k 0 → line ≡ get_or lines k line → IsLineOf m slice column set line parts
line-of m slice column set k sets line lines parts are within own read =
    subst (λ l. IsLineOf m slice column set l parts) (sym read) (subst (λ s. IsLineOf m slice column s (get_or lines k line) parts) (sym own) (are.each k 0 line within))

pub parts-few : (parts : List Part) (begin end : ℕ) → begin ≤ end → end ≤ length parts → end ≤ begin + 256 → length (slice_range parts begin end) ≤ 256
parts-few parts begin end order within few = omega (arith, length-take (end - begin) (drop begin parts), length-drop begin parts)

pub parts-exist : (P : Part → Type 0) (parts : List Part) (begin end : ℕ) → All P parts → All P (slice_range parts begin end)
parts-exist P parts begin end all = All-take P (end - begin) (drop begin parts) (All-drop P begin parts all)

-- the weight and the step of the last members
pub record Weighing (m : ModelView) (slice : Slice) (column : ℕ) (members : List ℕ) (left weight step : ℕ) : Type 0 where
  pub within : left ≤ length members
  pub weight_is : weight ≡ ways (own_values m slice) (drop left members)
  pub step_is : step ≡ step_of (own_values m slice) column (drop left members)

weighing-start : (m : ModelView) (slice : Slice) (column : ℕ) (members : List ℕ) (n : ℕ) → n ≡ length members → Weighing m slice column members n 1 0
weighing-start m slice column members n whole =
    let none : drop n members ≡ [] = drop_all n members (omega (arith, whole)) in
    record {
      within = omega (arith, whole);
      weight_is = sym (ap (ways (own_values m slice)) none);
      step_is = sym (ap (step_of (own_values m slice) column) none);
    }

-- the members from one more on
opened : (members : List ℕ) (left p : ℕ) → 0 < left → left ≤ length members → p ≡ get_or members (left - 1) 0 → drop (left - 1) members ≡ p ∷ drop left members
opened members left p some within is =
    drop_more members (left - 1) 0 (omega (arith, within, some)) ∙ ap (λ q. q ∷ drop (left - 1 + 1) members) (sym is)
    ∙ ap (λ k. p ∷ drop k members) (let e : left - 1 + 1 ≡ left = omega (arith, some) in e)

turned : (a b : ℕ) → a * b ≡ b * a
turned a b = grind arith

pub weighing-more : (m : ModelView) (slice : Slice) (column : ℕ) (members : List ℕ) (left p weight step more stepped : ℕ) → 0 < left
    → Weighing m slice column members left weight step → p ≡ get_or members (left - 1) 0
    → stepped ≡ cond (nat_eq p column) weight step → more ≡ weight * length (own_values m slice p)
    → Weighing m slice column members (left - 1) more stepped
weighing-more m slice column members left p weight step more stepped some weighing is at_step at_more =
    let open_members = opened members left p some weighing.within is in
    record {
      within = omega (arith, weighing.within);
      weight_is = at_more ∙ turned weight (length (own_values m slice p)) ∙ ap (λ w. length (own_values m slice p) * w) weighing.weight_is
          ∙ sym (ap (ways (own_values m slice)) open_members);
      step_is = at_step ∙ ap (λ w. cond (nat_eq p column) w step) weighing.weight_is
          ∙ ap (cond (nat_eq p column) (ways (own_values m slice) (drop left members))) weighing.step_is
          ∙ sym (ap (step_of (own_values m slice) column) open_members);
    }

-- the number with one more member
number-more : (m : ModelView) (slice : Slice) (column : ℕ) (members : List ℕ) (left p weight step : ℕ) (digits : ℕ → Option ℕ) → 0 < left
    → Weighing m slice column members left weight step → p ≡ get_or members (left - 1) 0
    → number_of (own_values m slice) (with_digit digits column 0) (drop (left - 1) members)
    ≡ joined (with_digit digits column 0 p) weight (number_of (own_values m slice) (with_digit digits column 0) (drop left members))
number-more m slice column members left p weight step digits some weighing is =
    ap (number_of (own_values m slice) (with_digit digits column 0)) (opened members left p some weighing.within is)
    ∙ ap (λ w. joined (with_digit digits column 0 p) w (number_of (own_values m slice) (with_digit digits column 0) (drop left members))) (sym weighing.weight_is)

pub weight-most : (m : ModelView) (slice : Slice) (column : ℕ) (members : List ℕ) (left weight step : ℕ) → Weighing m slice column members left weight step
    → 0 < ways (own_values m slice) members → ways (own_values m slice) members ≤ 2 ^ 26 → weight ≤ 2 ^ 26
weight-most m slice column members left weight step weighing own few =
    let least = fewer_ways (own_values m slice) left members own in
    omega (arith, least, weighing.weight_is, few)

-- the parts of the last members
pub record Pushing (m : ModelView) (slice : Slice) (column : ℕ) (members : List ℕ) (before parts : List Part) (left weight step : ℕ) : Type 0 where
  pub weighing : Weighing m slice column members left weight step
  pub kept : take (length before) parts ≡ before
  pub least : length before ≤ length parts
  pub few : length parts + left ≤ length before + length members
  pub exist : All (λ part. part.param < length m.params) before → All (λ part. part.param < length m.params) parts
  pub sums : (digits : ℕ → Option ℕ) → sum_of digits (drop (length before) parts) ≡ number_of (own_values m slice) (with_digit digits column 0) (drop left members)

pub pushing-start : (m : ModelView) (slice : Slice) (column : ℕ) (members : List ℕ) (before : List Part) (n : ℕ) → n ≡ length members → Pushing m slice column members before before n 1 0
pushing-start m slice column members before n whole =
    let none : drop n members ≡ [] = drop_all n members (omega (arith, whole)) in
    record {
      weighing = weighing-start m slice column members n whole;
      kept = take_all (length before) before (omega arith);
      least = omega arith;
      few = omega (arith, whole);
      exist = λ all. all;
      sums = λ digits. ap (sum_of digits) (drop_all (length before) before (omega arith)) ∙ sym (ap (number_of (own_values m slice) (with_digit digits column 0)) none);
    }

pub pushing-more : (m : ModelView) (slice : Slice) (column : ℕ) (members : List ℕ) (before parts next : List Part) (left p weight step more stepped : ℕ) → 0 < left
    → Pushing m slice column members before parts left weight step → p ≡ get_or members (left - 1) 0 → p < length m.params → next ≡ with_part p column weight parts
    → stepped ≡ cond (nat_eq p column) weight step → more ≡ weight * length (own_values m slice p)
    → Pushing m slice column members before next (left - 1) more stepped
pushing-more m slice column members before parts next left p weight step more stepped some pushing is own put at_step at_more =
    by_column (nat_eq p column) refl
  where
    weighed : Weighing m slice column members (left - 1) more stepped
    weighed = weighing-more m slice column members left p weight step more stepped some pushing.weighing is at_step at_more

    nothing : (w : ℕ) (o : Option ℕ) → joined (Some 0) w o ≡ o
    nothing w None = refl
    nothing w (Some n) = ap (λ (k : ℕ). Some k) (let e : 0 * w + n ≡ n = grind arith in e)

    numbered : (digits : ℕ → Option ℕ) → number_of (own_values m slice) (with_digit digits column 0) (drop (left - 1) members)
        ≡ joined (with_digit digits column 0 p) weight (number_of (own_values m slice) (with_digit digits column 0) (drop left members))
    numbered digits = number-more m slice column members left p weight step digits some pushing.weighing is

    by_column : (b : Bool) → nat_eq p column ≡ b → Pushing m slice column members before next (left - 1) more stepped
    by_column true here =
        let same : next ≡ parts = put ∙ ap (λ (b : Bool). cond b parts (parts ++ (record { param = p; weight = weight }) ∷ [])) here in
        record {
          weighing = weighed;
          kept = ap (take (length before)) same ∙ pushing.kept;
          least = omega (arith, pushing.least, ap length same);
          few = omega (arith, pushing.few, ap length same, some);
          exist = λ all. subst (All (λ part. part.param < length m.params)) (sym same) (pushing.exist all);
          sums =
              λ digits.
              ap (λ list. sum_of digits (drop (length before) list)) same ∙ pushing.sums digits
              ∙ sym (numbered digits ∙ ap (λ (b : Bool). joined (cond b (Some 0) (digits p))
              weight (number_of (own_values m slice) (with_digit digits column 0) (drop left members))) here
              ∙ nothing weight (number_of (own_values m slice) (with_digit digits column 0) (drop left members)));
        }
    by_column false apart =
        let longer : next ≡ parts ++ (record { param = p; weight = weight }) ∷ [] = put ∙ ap (λ (b : Bool). cond b parts (parts ++ (record { param = p; weight = weight }) ∷ [])) apart in
        let size : length next ≡ length parts + 1 = ap length longer ∙ length-append parts ((record { param = p; weight = weight }) ∷ []) in
        record {
          weighing = weighed;
          kept = ap (take (length before)) longer ∙ take-append-le (length before) parts ((record { param = p; weight = weight }) ∷ []) pushing.least ∙ pushing.kept;
          least = omega (arith, pushing.least, size);
          few = omega (arith, pushing.few, size, some);
          exist = λ all. subst (All (λ part. part.param < length m.params)) (sym longer) (All-append (λ part. part.param < length m.params) parts ((record { param = p; weight = weight })
              ∷ []) (pushing.exist all) (All-cons (λ part. part.param < length m.params) (record { param = p; weight = weight }) [] own (All-nil (λ part. part.param < length m.params))));
          sums =
              λ digits.
              ap (λ list. sum_of digits (drop (length before) list)) longer
              ∙ ap (sum_of digits) (drop-append-le (length before) parts ((record { param = p; weight = weight }) ∷ []) pushing.least)
              ∙ sum-push digits (drop (length before) parts) (record { param = p; weight = weight })
              ∙ ap (joined (digits p) weight) (pushing.sums digits)
              ∙ sym (numbered digits ∙ ap (λ (b : Bool). joined (cond b (Some 0) (digits p))
              weight (number_of (own_values m slice) (with_digit digits column 0) (drop left members))) apart);
        }

pub pushing-end : (m : ModelView) (slice : Slice) (column set : ℕ) (members : List ℕ) (before parts : List Part) (left weight step : ℕ) → left ≤ 0 → members ≡ set_at m set → length members ≤ 256
    → Pushing m slice column members before parts left weight step → (step ≡ step_of (own_values m slice) column (set_at m set)) × ArePushed m slice column set before parts
pushing-end m slice column set members before parts left weight step done is short pushing =
    let none : left ≡ 0 = omega arith in
    let whole : drop left members ≡ set_at m set = ap (λ k. drop k members) none ∙ is in (
      pushing.weighing.step_is ∙ ap (step_of (own_values m slice) column) whole,
      record {
        kept = pushing.kept;
        least = pushing.least;
        few = omega (arith, pushing.few, short);
        exist = pushing.exist;
        sums = λ digits. pushing.sums digits ∙ ap (number_of (own_values m slice) (with_digit digits column 0)) whole;
      },
    )

-- the number of the last members
pub record Numbering (m : ModelView) (slice : Slice) (column : ℕ) (members : List ℕ) (digits : ℕ → Option ℕ) (left weight step number : ℕ) : Type 0 where
  pub weighing : Weighing m slice column members left weight step
  pub number_is : Some number ≡ number_of (own_values m slice) (with_digit digits column 0) (drop left members)

pub numbering-start : (m : ModelView) (slice : Slice) (column : ℕ) (members : List ℕ) (digits : ℕ → Option ℕ) (n : ℕ) → n ≡ length members
    → Numbering m slice column members digits n 1 0 0
numbering-start m slice column members digits n whole = record {
  weighing = weighing-start m slice column members n whole;
  number_is = sym (ap (number_of (own_values m slice) (with_digit digits column 0)) (drop_all n members (omega (arith, whole))));
}

-- one member more makes this of it
numbering-next : (m : ModelView) (slice : Slice) (column : ℕ) (members : List ℕ) (digits : ℕ → Option ℕ) (left p weight step number : ℕ) (o : Option ℕ) → 0 < left
    → Numbering m slice column members digits left weight step number → p ≡ get_or members (left - 1) 0
    → o ≡ joined (with_digit digits column 0 p) weight (Some number)
    → o ≡ number_of (own_values m slice) (with_digit digits column 0) (drop (left - 1) members)
numbering-next m slice column members digits left p weight step number o some numbering is made =
    made ∙ ap (joined (with_digit digits column 0 p) weight) numbering.number_is
    ∙ sym (number-more m slice column members left p weight step digits some numbering.weighing is)

pub numbering-more : (m : ModelView) (slice : Slice) (column : ℕ) (members : List ℕ) (digits : ℕ → Option ℕ) (left p weight step number more stepped longer : ℕ) → 0 < left
    → Numbering m slice column members digits left weight step number → p ≡ get_or members (left - 1) 0
    → Some longer ≡ joined (with_digit digits column 0 p) weight (Some number)
    → stepped ≡ cond (nat_eq p column) weight step → more ≡ weight * length (own_values m slice p)
    → Numbering m slice column members digits (left - 1) more stepped longer
numbering-more m slice column members digits left p weight step number more stepped longer some numbering is made at_step at_more = record {
  weighing = weighing-more m slice column members left p weight step more stepped some numbering.weighing is at_step at_more;
  number_is = numbering-next m slice column members digits left p weight step number (Some longer) some numbering is made;
}

pub numbering-none : (m : ModelView) (slice : Slice) (column : ℕ) (members : List ℕ) (digits : ℕ → Option ℕ) (left p weight step number : ℕ) → 0 < left
    → Numbering m slice column members digits left weight step number → p ≡ get_or members (left - 1) 0
    → None ≡ joined (with_digit digits column 0 p) weight (Some number)
    → None ≡ number_of (own_values m slice) (with_digit digits column 0) members
numbering-none m slice column members digits left p weight step number some numbering is made =
    sym (each (left - 1) members (sym (numbering-next m slice column members digits left p weight step number None some numbering is made)))
  where
    each : (k : ℕ) (set : List ℕ) → number_of (own_values m slice) (with_digit digits column 0) (drop k set) ≡ None
        → number_of (own_values m slice) (with_digit digits column 0) set ≡ None
    each zero set none = none
    each (suc k) [] none = none
    each (suc k) (q ∷ set) none =
        ap (joined (with_digit digits column 0 q) (ways (own_values m slice) set)) (each k set none)
        ∙ joined-None (with_digit digits column 0 q) (ways (own_values m slice) set)

pub number-few : (m : ModelView) (slice : Slice) (cells : List (Option ℕ)) (column : ℕ) (members : List ℕ) (left weight step number : ℕ)
    → Numbering m slice column members (cell_digit (own_values m slice) cells) left weight step number
    → 0 < length (own_values m slice column) → 0 < ways (own_values m slice) members → ways (own_values m slice) members ≤ 2 ^ 26 → number < 2 ^ 26
number-few m slice cells column members left weight step number numbering own some few =
    let values = own_values m slice in
    let digits = cell_digit values cells in
    let below = number_below values (with_digit digits column 0) (drop left members) number (with_digits values digits column 0 (cell_digits values cells) own)
    (sym numbering.number_is) in
    let most = weight-most m slice column members left weight step numbering.weighing some few in
    omega (arith, below, most, numbering.weighing.weight_is)

pub member-known : (m : ModelView) (slice : Slice) (cells : List (Option ℕ)) (column set : ℕ) (members : List ℕ) (first left weight step number : ℕ) → IsKept (plan_of m)
    → IsSliceOf m slice → InPlay m slice column set → members ≡ set_at m set → first ≡ first_bit m slice set → left ≤ 0
    → Numbering m slice column members (cell_digit (own_values m slice) cells) left weight step number
    → LineKnown m slice (cell_digit (own_values m slice) cells) column set (first + number) step
member-known m slice cells column set members first left weight step number kept is play same begin done numbering =
    let whole : drop left members ≡ members = ap (λ k. drop k members) (let none : left ≡ 0 = omega arith in none) in
    line_known m slice cells column set members first number step kept is play same begin
    (numbering.number_is ∙ ap (number_of (own_values m slice) (with_digit (cell_digit (own_values m slice) cells) column 0)) whole)
    (numbering.weighing.step_is ∙ ap (step_of (own_values m slice) column) whole)

-- more parts behind keep a line
range-before : (parts more : List Part) (begin end : ℕ) → begin ≤ end → end ≤ length parts → slice_range (parts ++ more) begin end ≡ slice_range parts begin end
range-before parts more begin end order within =
    ap (take (end - begin)) (drop-append-le begin parts more (omega (arith, order, within)))
    ∙ take-append-le (end - begin) (drop begin parts) more (omega (arith, order, within, length-drop begin parts))

line-kept : (m : ModelView) (slice : Slice) (column set other : ℕ) (line : Prepared) (before parts : List Part) → IsLineOf m slice column set line before → ArePushed m slice column other before parts
    → IsLineOf m slice column set line parts
line-kept m slice column set other line before parts own pushed =
    let whole : parts ≡ before ++ drop (length before) parts = sym (take-append-drop (length before) parts) ∙ ap (λ list. list ++ drop (length before) parts) pushed.kept in
    record {
      order = own.order;
      within = omega (arith, own.within, pushed.least);
      few = own.few;
      first = own.first;
      step = own.step;
      sums =
          λ digits.
          ap (λ list. sum_of digits (slice_range list line.begin line.end)) whole
          ∙ ap (sum_of digits) (range-before before (drop (length before) parts) line.begin line.end own.order own.within) ∙ own.sums digits;
    }

pub lines-push : (m : ModelView) (slice : Slice) (column set : ℕ) (sets : List ℕ) (line : Prepared) (lines : List Prepared) (before parts : List Part)
    → AreLines m slice column sets lines before → ArePushed m slice column set before parts → line.begin ≡ length before → line.end ≡ length parts
    → line.first ≡ first_bit m slice set → line.step ≡ step_of (own_values m slice) column (set_at m set)
    → AreLines m slice column (sets ++ set ∷ []) (lines ++ line ∷ []) parts
lines-push m slice column set sets line lines before parts are pushed begins ends first step = record {
  many = length-append lines (line ∷ []) ∙ ap (λ n. n + 1) are.many ∙ sym (length-append sets (set ∷ []));
  exist = pushed.exist are.exist;
  each =
      λ k d other within.
      elim (cases_lt k (length sets)) [
        | inl below ↦
            subst (λ s. IsLineOf m slice column s (get_or (lines ++ line ∷ []) k other) parts) (sym (get_or_append_left sets (set ∷ []) d k below))
            (subst (λ l. IsLineOf m slice column (get_or sets k d) l parts) (sym (get_or_append_left lines (line ∷ []) other k (omega (arith, below, are.many))))
            (line-kept m slice column (get_or sets k d) set (get_or lines k other) before parts (are.each k d other below) pushed))
        | inr past ↦
            let last : k ≡ length sets = omega (arith, past, within, length-append sets (set ∷ [])) in
            let here : get_or (sets ++ set ∷ []) k d ≡ set = ap (λ n. get_or (sets ++ set ∷ []) n d) last ∙ get_or-append_seam sets set [] d in
            let there : get_or (lines ++ line ∷ []) k other ≡ line = ap (λ n. get_or (lines ++ line ∷ []) n other) (last ∙ sym are.many) ∙ get_or-append_seam lines line [] other in
            subst (λ s. IsLineOf m slice column s (get_or (lines ++ line ∷ []) k other) parts) (sym here)
            (subst (λ l. IsLineOf m slice column set l parts) (sym there) own)
      ];
}
  where
    own : IsLineOf m slice column set line parts
    own = record {
      order = omega (arith, begins, ends, pushed.least);
      within = omega (arith, ends);
      few = omega (arith, begins, ends, pushed.few);
      first = first;
      step = step;
      sums =
          λ digits.
          ap (sum_of digits) (ap (λ n. take (line.end - n) (drop n parts)) begins
          ∙ take_all (line.end - length before) (drop (length before) parts) (omega (arith, ends, length-drop (length before) parts)))
          ∙ pushed.sums digits;
    }

pub lines-next : (m : ModelView) (slice : Slice) (column i : ℕ) (sets : List ℕ) (line : Prepared) (lines next : List Prepared) (before parts : List Part) → i < length sets
    → AreLines m slice column (take i sets) lines before → ArePushed m slice column (get_or sets i 0) before parts → line.begin ≡ length before → line.end ≡ length parts
    → line.first ≡ first_bit m slice (get_or sets i 0) → line.step ≡ step_of (own_values m slice) column (set_at m (get_or sets i 0)) → next ≡ lines ++ line ∷ []
    → AreLines m slice column (take (i + 1) sets) next parts
lines-next m slice column i sets line lines next before parts within are pushed begins ends first step put =
    subst (λ list. AreLines m slice column (take (i + 1) sets) list parts) (sym put)
    (subst (λ list. AreLines m slice column list (lines ++ line ∷ []) parts) (sym (take_more sets i 0 within))
    (lines-push m slice column (get_or sets i 0) (take i sets) line lines before parts are pushed begins ends first step))
