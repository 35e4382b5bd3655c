-- Parts of partial rows, and what no row completes.
use Rattle.std.proofs.Common.{◌≡◌, ℕ, ◌-◌, ◌<◌, ◌≤◌, true, false, List, [], length, find, take, Option, Some, None, is_some, get_or, set, replicate}
use Rattle.std.proofs.Common.{◌∙◌, sym, ap, subst, refl, arith, inl, inr}
use Rattle.std.specs.List.{range_with_len}
use Rattle.std.proofs.lemmas.Bool.{false≢true, cases_eq}
use Rattle.std.proofs.lemmas.List.{get_or-set_other, get_or-set_same, length-replicate, length-set, set-get_or, set-set, take_all}
use Rattle.std.proofs.lemmas.Option.{none-some}
use Rattle.value_text.proofs.ListLemmas.{Some-unwrap_or}
use Rattle.cov_model.specs.believed.Rows.{contains, is_assigned, value_in, with_value}
use Rattle.cov_model.specs.believed.Sound.{IsSound, ModelView}
use Rattle.cov_model.specs.Sound.{rule_at}
use Rattle.cov_model.proofs.CellLemmas.{contains-from, contains-get_or}
use Rattle.definitions.specs.believed.Demand.{is_among}
use Rattle.definitions.specs.believed.Search.{body_params, breaks_a_rule, is_no}
use Rattle.definitions.proofs.Members.{among_has, has_contained}
use Rattle.feasibility.specs.Live.{no_on}
use Rattle.feasibility.specs.Tree.{TreeView, undecided}
use Rattle.feasibility.proofs.Broken.{breaks_by, longer_none, longer_set, longer_with}
use Rattle.feasibility.proofs.Leaves.{some_no}
use Rattle.feasibility.proofs.LeastRules.{undecided_least}
use Rattle.feasibility.proofs.Local.{agree_each, local_body}
use Rattle.feasibility.proofs.Searching.{broken_fails, contains-with_value}
use Rattle.full_search.specs.Reasons.{HasMembers, HasNoRow, IsPart, IsRowFor, RefutesEach}

-- a partial row is part of itself, and part of what a row that it is part of is part of
pub part_self : (cells : List (Option ℕ)) → IsPart cells cells
part_self cells = record { long = refl; same = λ q assigned. refl }

pub part_then : (a b c : List (Option ℕ)) → IsPart a b → IsPart b c → IsPart a c
part_then a b c first second = record {
  long = first.long ∙ second.long;
  same = λ q assigned. second.same q (ap is_some (first.same q assigned) ∙ assigned) ∙ first.same q assigned;
}

-- the one without values is part of each
pub part_none : (n : ℕ) (cells : List (Option ℕ)) → n ≡ length cells → IsPart (replicate n None) cells
part_none n cells long = record { long = length-replicate n None ∙ long; same = longer_none n cells }

-- with a value more
pub part_with : (a b : List (Option ℕ)) (p v : ℕ) → IsPart a b → IsPart (with_value a p v) (with_value b p v)
part_with a b p v part = record {
  long = length-set a p (Some v) ∙ part.long ∙ sym (length-set b p (Some v));
  same = longer_with a b p v part.long part.same;
}

pub part_set : (cells : List (Option ℕ)) (p v : ℕ) → is_assigned cells p ≡ false → IsPart cells (with_value cells p v)
part_set cells p v free = record { long = sym (length-set cells p (Some v)); same = longer_set cells p v free }

-- a part without a value of the parameter is one of the row without it
pub part_without : (a b : List (Option ℕ)) (p v : ℕ) → is_assigned a p ≡ false → IsPart a (with_value b p v) → IsPart a b
part_without a b p v free part = record {
  long = part.long ∙ length-set b p (Some v);
  same = λ q assigned.
      sym (get_or-set_other b p q (Some v) None (λ same. false≢true (sym free ∙ ap (is_assigned a) (sym same) ∙ assigned))) ∙ part.same q assigned;
}

-- a row that contains a partial row contains its parts
pub contains_part : (row a b : List (Option ℕ)) → contains row b ≡ true → IsPart a b → contains row a ≡ true
contains_part row a b contained part =
    contains-from row a (λ q assigned.
    contains-get_or row b q contained (ap is_some (part.same q assigned) ∙ assigned) ∙ part.same q assigned)

-- so what no row completes is part of nothing that one completes
pub no_row_of : (tree : TreeView) (a b : List (Option ℕ)) → HasNoRow tree a → IsPart a b → HasNoRow tree b
no_row_of tree a b none part row listed contained = none row listed (contains_part row a b contained part)

pub row_of : (tree : TreeView) (a b row : List (Option ℕ)) → IsRowFor tree b row → IsPart a b → IsRowFor tree a row
row_of tree a b row is part = record { listed = is.listed; contained = contains_part row a b is.contained part; meets = is.meets }

-- a row gives each parameter a listed value: if no row has one of them, there is none
pub no_row_each : (tree : TreeView) (why : List (Option ℕ)) (p : ℕ) → p < length tree.values → RefutesEach tree why p (get_or tree.values p [])
    → HasNoRow tree why
no_row_each tree why p within each row listed contained =
    each (value_in row p) (among_has (get_or tree.values p []) (value_in row p) (has_contained (get_or tree.values p []) (value_in row p) (listed.listed p within)))
    row listed (contains-with_value row why p (value_in row p) contained (Some-unwrap_or (get_or row p None) 0 (listed.assigned p within)))

-- a row that contains a partial row on which a constraint is No breaks it
pub no_row_broken : (tree : TreeView) (cells : List (Option ℕ)) (k : ℕ) → 0 < k → k ≤ length tree.model.rules → no_on tree.model cells k ≡ true
    → HasNoRow tree cells
no_row_broken tree cells k some most is row listed contained =
    broken_fails tree.model tree.model.rules cells row contained (breaks_by tree.model cells k some most is)

-- whether it is depends on the parameters that it names
pub no_row_members : (tree : TreeView) (path why : List (Option ℕ)) (k p v : ℕ) → 0 < k → k ≤ length tree.model.rules → p < length path
    → length why ≡ length path → no_on tree.model (with_value path p v) k ≡ true → HasMembers tree.model k p path why → HasNoRow tree (with_value why p v)
no_row_members tree path why k p v some most within long is has =
    no_row_broken tree (with_value why p v) k some most
    (ap is_no (local_body tree.model (rule_at tree.model k).body (with_value why p v) (with_value path p v)
    (agree_each (body_params (rule_at tree.model k).body) (with_value why p v) (with_value path p v) same)).0 ∙ is)
  where
    same : (q : ℕ) → is_among (body_params (rule_at tree.model k).body) q ≡ true → get_or (with_value why p v) q None ≡ get_or (with_value path p v) q None
    same q named =
        elim (cases_eq q p) [
          | inl here ↦
              ap (λ (r : ℕ). get_or (with_value why p v) r None) here ∙ get_or-set_same why p (Some v) None (omega (arith, within, long))
              ∙ sym (ap (λ (r : ℕ). get_or (with_value path p v) r None) here ∙ get_or-set_same path p (Some v) None within)
          | inr differs ↦
              get_or-set_other why p q (Some v) None differs ∙ has q differs named ∙ sym (get_or-set_other path p q (Some v) None differs)
        ]

-- a constraint that is No only with a value of a parameter is one that the value leaves undecided
pub some_undecided : (m : ModelView) (cells : List (Option ℕ)) (p v : ℕ) (rules : List ℕ) (i : ℕ) → IsSound m → length cells ≡ length m.params
    → p < length m.params → get_or cells p None ≡ Some v → breaks_a_rule m (set cells p None) ≡ false → breaks_a_rule m cells ≡ true
    → rules ≡ undecided m p v → length rules ≤ i → find (no_on m cells) (take i rules) ≡ None → ⊥
some_undecided m cells p v rules i sound long within given before broken is whole none =
    let found = some_no m cells broken in
    let again : with_value (set cells p None) p v ≡ cells =
    set-set cells p None (Some v) ∙ ap (λ (cell : Option ℕ). set cells p cell) (sym given) ∙ set-get_or cells p None in
    none-some found.0 (sym none ∙ ap (find (no_on m cells)) (take_all i rules whole ∙ is)
    ∙ subst (λ (row : List (Option ℕ)). find (no_on m row) (undecided m p v) ≡ find (no_on m row) (range_with_len 1 (length m.rules))) again
    (undecided_least m (set cells p None) p v sound (length-set cells p None ∙ long) within before) ∙ found.1)
