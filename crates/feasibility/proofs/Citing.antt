-- The least omission that is a leaf, among those whose tuples end with a pair of the path.
use Rattle.std.proofs.Common.{◌≡◌, ℕ, zero, suc, ◌+◌, ◌-◌, ◌<◌, ◌≤◌, Bool, true, false, ◌&&◌, ◌==◌, List, [], ◌∷◌, find, take, length, Option}
use Rattle.std.proofs.Common.{Some, None, is_some, cond, get_or, All, ◌∙◌, sym, ap, subst, refl, arith, inl, inr}
use Rattle.std.specs.Prelude.{nat_lt}
use Rattle.std.specs.List.{list_all, range_with_len}
use Rattle.std.specs.Option.{option_map_or}
use Rattle.std.proofs.Math.Bool.{and-false}
use Rattle.std.proofs.lemmas.Bool.{false≢true, cases_eq, cases_lt, eqb-true, and_parts, ltb-true, lt-ltb, false_from_ne_true}
use Rattle.std.proofs.lemmas.Option.{none-some, same_Some, slice_get_past}
use Rattle.std.proofs.lemmas.List.{get_or-map, length-map}
use Rattle.std.proofs.lemmas.List.Elements.{All-get_or}
use Rattle.cov_model.specs.believed.Rows.{contains, is_assigned}
use Rattle.cov_model.specs.believed.Valid.{negatives}
use Rattle.cov_model.proofs.CellLemmas.{contains-get_or}
use Rattle.cov_model.specs.believed.Tuples.{cells_of}
use Rattle.definitions.specs.believed.Refutation.{earlier_tuple, is_omission_leaf}
use Rattle.definitions.proofs.Members.{Has, among_has, find_some, has_range, of_among, of_find, of_range, has_place}
use Rattle.definitions.proofs.NamedPairs.{pair_stands}
use Rattle.refutation.specs.declared.omissions.Omission.{Omission}
use Rattle.refutation.specs.Holders.{EndsWithin, ListsEnding, NeverFalls, last_pair}
use Rattle.refutation.specs.Proofs.{ProofView}
use Rattle.feasibility.specs.Refuting.{Lowers, RefuterView, earlier_tuples, is_cited, is_less}
use Rattle.feasibility.proofs.Paths.{cited_leaf}

-- what is found in numbers that never fall isn't greater than another that passes
least_found : (test : ℕ → Bool) (ns : List ℕ) (k j : ℕ) → NeverFalls ns → find test ns ≡ Some k → Has ns j → test j ≡ true → k ≤ j
least_found test [] k j rising found has passes = absurd has
least_found test (n ∷ ns) k j rising found has passes =
    at (test n) refl found (λ later among. least_found test ns k j rising.1 later among passes)
  where
    at : (b : Bool) → test n ≡ b → cond b (Some n) (find test ns) ≡ Some k → (find test ns ≡ Some k → Has ns j → k ≤ j) → k ≤ j
    at true is found below =
        let same : n ≡ k = same_Some n k found in
        elim has [
          | inl here ↦ omega (arith, same, here)
          | inr later ↦ let most = rising.0 j (among_has ns j later) in omega (arith, same, most)
        ]
    at false is found below =
        elim has [
          | inl here ↦ absurd (false≢true (sym is ∙ ap test here ∙ passes))
          | inr later ↦ below found later
        ]

range_rises : (a n : ℕ) → NeverFalls (range_with_len a n)
range_rises a zero = tt
range_rises a (suc n) = (
  λ later among. let range = of_range (a + 1) n later (of_among (range_with_len (a + 1) n) later among) in omega (arith, range.0),
  range_rises (a + 1) n,
)

-- a leaf by an omission is that of one of them
pub no_number : (r : RefuterView) (path : List (Option ℕ)) → is_omission_leaf r.model r.format r.earlier r.tuple path 0 ≡ false
no_number r path = and-false (r.format == 2)

pub number_past : (r : RefuterView) (path : List (Option ℕ)) (k : ℕ) → length r.earlier < k → is_omission_leaf r.model r.format r.earlier r.tuple path k ≡ false
number_past r path zero past = no_number r path
number_past r path (suc i) past =
    ap (λ (o : Option (List (Option ℕ))). (r.format == 2) && option_map_or (is_cited r path) o false) (slice_get_past r.earlier i (omega (arith, past)))
    ∙ and-false (r.format == 2)

pub number_within : (r : RefuterView) (path : List (Option ℕ)) (k : ℕ) → r.format ≡ 2 → 0 < k → k ≤ length r.earlier
    → is_omission_leaf r.model r.format r.earlier r.tuple path k ≡ is_cited r path (get_or r.earlier (k - 1) [])
number_within r path k two least most =
    let next : k ≡ (k - 1) + 1 = omega (arith, least) in
    ap (is_omission_leaf r.model r.format r.earlier r.tuple path) next ∙ cited_leaf r path (k - 1) two (omega (arith, least, most))

record IsCitation (r : RefuterView) (path : List (Option ℕ)) (k : ℕ) : Type 0 where
  least : 0 < k
  most : k ≤ length r.earlier
  two : r.format ≡ 2
  cited : is_cited r path (get_or r.earlier (k - 1) []) ≡ true

citation_of : (r : RefuterView) (path : List (Option ℕ)) (k : ℕ) → is_omission_leaf r.model r.format r.earlier r.tuple path k ≡ true → IsCitation r path k
citation_of r path k leaf =
    elim (cases_lt 0 k) [
      | inl least ↦
          elim (cases_lt (length r.earlier) k) [
            | inl past ↦ absurd (false≢true (sym (number_past r path k past) ∙ leaf))
            | inr most ↦ record { least = least; most = most; two = two; cited = sym (number_within r path k two least most) ∙ leaf }
          ]
      | inr none ↦
          let is : k ≡ 0 = omega (arith, none) in
          absurd (false≢true (sym (no_number r path) ∙ ap (is_omission_leaf r.model r.format r.earlier r.tuple path) (sym is) ∙ leaf))
    ]
  where
    two : r.format ≡ 2
    two =
        eqb-true r.format 2
        (and_parts (r.format == 2) (option_map_or (is_cited r path) (earlier_tuple r.earlier k) false) leaf).0

-- ---- the least of a list

-- a number that passes, of numbers that never fall, isn't less than one before which none does
not_before : (test : ℕ → Bool) (ns : List ℕ) (i j : ℕ) → i < length ns → NeverFalls ns → find test (take i ns) ≡ None → Has ns j → test j ≡ true
    → get_or ns i 0 ≤ j
not_before test [] i j within rising none has passes = absurd has
not_before test (n ∷ ns) zero j within rising none (inl same) passes = omega (arith, same)
not_before test (n ∷ ns) zero j within rising none (inr has) passes = rising.0 j (among_has ns j has)
not_before test (n ∷ ns) (suc i) j within rising none has passes =
    at (test n) refl none (λ found later. not_before test ns i j (omega (arith, within)) rising.1 found later passes)
  where
    at : (b : Bool) → test n ≡ b → cond b (Some n) (find test (take i ns)) ≡ None → (find test (take i ns) ≡ None → Has ns j → get_or ns i 0 ≤ j)
        → get_or ns i 0 ≤ j
    at true is found from = absurd (none-some n (sym found))
    at false is found from = elim has [
      | inl same ↦ absurd (false≢true (sym is ∙ ap test same ∙ passes))
      | inr later ↦ from found later
    ]

-- a number is less than no lesser one
not_less : (j k : ℕ) (other : Option ℕ) → k ≤ j → is_less k other ≡ false → is_less j other ≡ false
not_less j k None most not = absurd (false≢true (sym not))
not_less j k (Some n) most not =
    false_from_ne_true (nat_lt j n) (λ less. false≢true (sym not ∙ lt-ltb k n (omega (arith, ltb-true j n less, most))))

-- the rest of the list has none that is less than the old one
pub lowers_none : (test : ℕ → Bool) (numbers : List ℕ) (i : ℕ) (least : Option ℕ) → i < length numbers → NeverFalls numbers
    → find test (take i numbers) ≡ None → is_less (get_or numbers i 0) least ≡ false → Lowers test numbers least least
lowers_none test numbers i least within rising none not = record {
  passes = λ k is. inr is;
  kept = λ j at. at;
  below = λ j among passes.
      not_less j (get_or numbers i 0) least (not_before test numbers i j within rising none (of_among numbers j among) passes) not;
}

-- the first that passes is less than the old one
pub lowers_to : (test : ℕ → Bool) (numbers : List ℕ) (i : ℕ) (least : Option ℕ) → i < length numbers → NeverFalls numbers
    → find test (take i numbers) ≡ None → is_less (get_or numbers i 0) least ≡ true → test (get_or numbers i 0) ≡ true
    → Lowers test numbers least (Some (get_or numbers i 0))
lowers_to test numbers i least within rising none less passes = record {
  passes = λ k is. inl (ap test (sym (same_Some n k is)) ∙ passes);
  kept = at least less;
  below = λ j among also. from j (not_before test numbers i j within rising none (of_among numbers j among) also);
}
  where
    n : ℕ
    n = get_or numbers i 0

    from : (j : ℕ) → n ≤ j → nat_lt j n ≡ false
    from j most = false_from_ne_true (nat_lt j n) (λ below. omega (arith, ltb-true j n below, most))

    at : (other : Option ℕ) → is_less n other ≡ true → (j : ℕ) → is_less j other ≡ false → nat_lt j n ≡ false
    at None before j not = absurd (false≢true (sym not))
    at (Some k) before j not = elim (cases_lt j k) [
      | inl below ↦ absurd (false≢true (sym not ∙ lt-ltb j k below))
      | inr above ↦ from j (omega (arith, above, ltb-true n k before))
    ]

-- none passes
pub lowers_end : (test : ℕ → Bool) (numbers : List ℕ) (least : Option ℕ) → find test numbers ≡ None → Lowers test numbers least least
lowers_end test numbers least none = record {
  passes = λ k is. inr is;
  kept = λ j at. at;
  below = λ j among passes.
      let found = find_some test numbers j (of_among numbers j among) passes in
      absurd (none-some found.0 (sym none ∙ found.1));
}

-- ---- the least of those whose tuples end with a parameter below a number

abbrev leaf : RefuterView → List (Option ℕ) → ℕ → Bool
leaf r path k = is_omission_leaf r.model r.format r.earlier r.tuple path k

-- the path gives the last pair of a tuple that it contains
path_gives : (r : RefuterView) (proof : ProofView) (path : List (Option ℕ)) (i : ℕ) (d : Omission) → r.earlier ≡ earlier_tuples r.model proof
    → i < length proof.omissions → (ends : EndsWithin (length r.model.params) (get_or proof.omissions i d).tuple) → leaf r path (i + 1) ≡ true
    → get_or path ends.last.0 None ≡ Some ends.last.1
path_gives r proof path i d are within ends cites =
    contains-get_or path row ends.last.0 contained (ap (λ (cell : Option ℕ). is_some cell) stands) ∙ stands
  where
    pairs : List (ℕ × ℕ)
    pairs = (get_or proof.omissions i d).tuple

    row : List (Option ℕ)
    row = cells_of (length r.model.params) pairs

    stands : get_or row ends.last.0 None ≡ Some ends.last.1
    stands = pair_stands (length r.model.params) pairs ends.last ends.rising ends.below (has_place pairs (length pairs - 1) ends.last ends.is_last)

    is_row : get_or r.earlier i [] ≡ row
    is_row =
        ap (λ (rows : List (List (Option ℕ))). get_or rows i []) are
        ∙ get_or-map (λ (omission : Omission). cells_of (length r.model.params) omission.tuple) proof.omissions i d [] within

    contained : contains path row ≡ true
    contained =
        let cited = (citation_of r path (i + 1) cites).cited in
        let at : get_or r.earlier ((i + 1) - 1) [] ≡ row = ap (λ (k : ℕ). get_or r.earlier k []) (omega arith) ∙ is_row in
        (and_parts (contains path row) (list_all (is_assigned row) (negatives r.model r.tuple))
        (ap (is_cited r path) (sym at) ∙ cited)).0

pub record LeastBelow (r : RefuterView) (omissions : List Omission) (path : List (Option ℕ)) (p : ℕ) (least : Option ℕ) : Type 0 where
  pub passes : (k : ℕ) → least ≡ Some k → leaf r path k ≡ true
  pub below : (i : ℕ) (d : Omission) (pair : ℕ × ℕ) → i < length omissions → last_pair (get_or omissions i d).tuple ≡ Some pair → pair.0 < p
      → leaf r path (i + 1) ≡ true → is_less (i + 1) least ≡ false

pub least_none : (r : RefuterView) (omissions : List Omission) (path : List (Option ℕ)) → LeastBelow r omissions path 0 None
least_none r omissions path = record {
  passes = λ k is. absurd (none-some k is);
  below = λ i d pair within is low cites. absurd (omega (arith, low));
}

module _ (r : RefuterView) (proof : ProofView) (path : List (Option ℕ)) (p : ℕ) (least : Option ℕ) where
  abbrev AreEarlier : Type 0
  AreEarlier = r.earlier ≡ earlier_tuples r.model proof

  abbrev AreWithin : Type 0
  AreWithin = All (λ (omission : Omission). EndsWithin (length r.model.params) omission.tuple) proof.omissions

  given : AreEarlier → AreWithin → (i : ℕ) (d : Omission) (pair : ℕ × ℕ) → i < length proof.omissions
      → last_pair (get_or proof.omissions i d).tuple ≡ Some pair → leaf r path (i + 1) ≡ true → get_or path pair.0 None ≡ Some pair.1
  given are ends i d pair within is cites =
      let own = All-get_or (λ (omission : Omission). EndsWithin (length r.model.params) omission.tuple) proof.omissions i d within ends in
      subst (λ (last : ℕ × ℕ). get_or path last.0 None ≡ Some last.1) (same_Some own.last pair (sym own.is_last ∙ is))
      (path_gives r proof path i d are within own cites)

  -- the path gives the next parameter no value
  pub least_passed : AreEarlier → AreWithin → LeastBelow r proof.omissions path p least → get_or path p None ≡ None
      → LeastBelow r proof.omissions path (p + 1) least
  least_passed are ends so_far free = record {
    passes = so_far.passes;
    below = λ i d pair within is low cites. elim (cases_eq pair.0 p) [
      | inl same ↦
          absurd (none-some pair.1 (sym free ∙ ap (λ (q : ℕ). get_or path q None) (sym same) ∙ given are ends i d pair within is cites))
      | inr apart ↦ so_far.below i d pair within is (omega (arith, low, apart)) cites
    ];
  }

  -- it gives it one
  pub least_lowered : (v : ℕ) (numbers : List ℕ) (new : Option ℕ) → AreEarlier → AreWithin → LeastBelow r proof.omissions path p least
      → get_or path p None ≡ Some v → ListsEnding proof.omissions p v numbers → Lowers (leaf r path) numbers least new
      → LeastBelow r proof.omissions path (p + 1) new
  least_lowered v numbers new are ends so_far gives lists lowers = record {
    passes = λ k is. elim (lowers.passes k is) [ inl passes ↦ passes | inr before ↦ so_far.passes k before ];
    below = λ i d pair within is low cites. elim (cases_eq pair.0 p) [
      | inl same ↦
          let value : v ≡ pair.1 = same_Some v pair.1
          (sym gives ∙ ap (λ (q : ℕ). get_or path q None) (sym same) ∙ given are ends i d pair within is cites) in
          lowers.below (i + 1) (lists i d within (is ∙ ap (λ (q : ℕ). Some (q, pair.1)) same ∙ ap (λ (w : ℕ). Some (p, w)) (sym value))) cites
      | inr apart ↦ lowers.kept (i + 1) (so_far.below i d pair within is (omega (arith, low, apart)) cites)
    ];
  }

-- a number that passes, and none less than which does, is the first
is_first : (test : ℕ → Bool) (n : ℕ) (least : Option ℕ) → ((k : ℕ) → least ≡ Some k → test k ≡ true) → ((k : ℕ) → test k ≡ true → (0 < k) × (k ≤ n))
    → ((k : ℕ) → test k ≡ true → is_less k least ≡ false) → least ≡ find test (range_with_len 1 n)
is_first test n least passes within none_less = at least (find test (range_with_len 1 n)) refl refl
  where
    numbers : List ℕ
    numbers = range_with_len 1 n

    at : (a b : Option ℕ) → least ≡ a → find test numbers ≡ b → a ≡ b
    at None None is_a is_b = refl
    at None (Some j) is_a is_b =
        absurd (false≢true (sym (none_less j (of_find test numbers j is_b).1) ∙ ap (is_less j) is_a))
    at (Some k) b is_a is_b =
        let own = passes k is_a in
        let range = within k own in
        let has = has_range 1 n k (omega (arith, range.0)) (omega (arith, range.1)) in
        let found = find_some test numbers k has own in
        let least_one = least_found test numbers found.0 k (range_rises 1 n) found.1 has own in
        let also = none_less found.0 (of_find test numbers found.0 found.1).1 in
        let not : nat_lt found.0 k ≡ false = ap (is_less found.0) (sym is_a) ∙ also in
        elim (cases_lt found.0 k) [
          | inl less ↦ absurd (false≢true (sym not ∙ lt-ltb found.0 k less))
          | inr from ↦ ap (λ (i : ℕ). Some i) (omega (arith, from, least_one)) ∙ sym found.1 ∙ is_b
        ]

-- each of them ends with one of the parameters
pub least_is : (r : RefuterView) (proof : ProofView) (path : List (Option ℕ)) (p : ℕ) (least : Option ℕ) → length r.model.params ≤ p
    → r.earlier ≡ earlier_tuples r.model proof → All (λ (omission : Omission). EndsWithin (length r.model.params) omission.tuple) proof.omissions
    → LeastBelow r proof.omissions path p least → least ≡ find (leaf r path) (range_with_len 1 (length r.earlier))
least_is r proof path p least past are ends so_far =
    is_first (leaf r path) (length r.earlier) least so_far.passes
    (λ k cites. let is = citation_of r path k cites in (is.least, is.most))
    (λ k cites.
    let is = citation_of r path k cites in
    let next : (k - 1) + 1 ≡ k = omega (arith, is.least) in
    let none : Omission = record { tuple = []; tree = [] } in
    let inside : k - 1 < length proof.omissions =
    omega (
      arith,
      is.least,
      is.most,
      ap (λ (rows : List (List (Option ℕ))). length rows) are,
      length-map proof.omissions (λ (omission : Omission). cells_of (length r.model.params) omission.tuple),
    ) in
    let own = All-get_or (λ (omission : Omission). EndsWithin (length r.model.params) omission.tuple) proof.omissions (k - 1) none inside ends in
    subst (λ (j : ℕ). is_less j least ≡ false) next
    (so_far.below (k - 1) none own.last inside own.is_last (omega (arith, own.below, past)) (ap (leaf r path) next ∙ cites)))
