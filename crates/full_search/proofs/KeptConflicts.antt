-- Conflicts that are made from reasons.
use Rattle.std.proofs.Common.{◌≡◌, ℕ, ◌+◌, ◌<◌, ◌≤◌, true, false, List, Option, Some, None, is_some, get_or, ◌⊎◌, inl, inr, ◌∙◌, sym, ap, arith}
use Rattle.std.specs.Prelude.{MatchOption}
use Rattle.std.proofs.lemmas.Bool.{false≢true, cases_lt, cases_eq}
use Rattle.cov_model.specs.believed.Rows.{is_assigned}
use Rattle.cov_model.proofs.CellLemmas.{contains-from, contains-get_or}
use Rattle.feasibility.specs.Tree.{TreeView}
use Rattle.full_search.specs.Conflicts.{Gives, GivesNone, IsConflict, IsNext}
use Rattle.full_search.specs.Reasons.{HasNoRow}
use Rattle.full_search.specs.declared.conflict.Conflict.{Conflict}
use Rattle.full_search.specs.declared.conflict.Pair.{Pair}

-- a value from a number on is that of the next pair, or behind it
next_or : (cells : List (Option ℕ)) (from q : ℕ) (pair : Pair) → IsNext cells from pair → from ≤ q → is_assigned cells q ≡ true
    → (q ≡ pair.param) ⊎ (pair.param + 1 ≤ q)
next_or cells from q pair is behind assigned =
    elim (cases_lt q pair.param) [
      | inl before ↦ absurd (false≢true (sym (is.first q behind before) ∙ assigned))
      | inr after ↦ elim (cases_eq q pair.param) [
        | inl same ↦ inl same
        | inr differs ↦ inr (omega (arith, after, differs))
      ]
    ]

-- a row with the value has it where a partial row with the value has it
same_at : (row why : List (Option ℕ)) (q : ℕ) (pair : Pair) → q ≡ pair.param → Gives row pair → Gives why pair → get_or row q None ≡ get_or why q None
same_at row why q pair same has given =
    ap (λ (k : ℕ). get_or row k None) same ∙ has ∙ sym given ∙ sym (ap (λ (k : ℕ). get_or why k None) same)

-- a reason has these values and no others
pub record HasThese (why : List (Option ℕ)) (conflict : Conflict) : Type 0 where
  pub first : Gives why conflict.first
  pub second : Gives why conflict.second
  pub third : Gives why conflict.third
  pub all : (q : ℕ) → is_assigned why q ≡ true → (q ≡ conflict.first.param) ⊎ ((q ≡ conflict.second.param) ⊎ (q ≡ conflict.third.param))

pub is_conflict : (tree : TreeView) (why : List (Option ℕ)) (conflict : Conflict) → HasNoRow tree why → HasThese why conflict → IsConflict tree conflict
is_conflict tree why conflict none these row listed first second third =
    none row listed (contains-from row why (λ q assigned.
    elim (these.all q assigned) [
      | inl same ↦ same_at row why q conflict.first same first these.first
      | inr (inl same) ↦ same_at row why q conflict.second same second these.second
      | inr (inr same) ↦ same_at row why q conflict.third same third these.third
    ]))

-- of one, two and three values
pub one_value : (tree : TreeView) (why : List (Option ℕ)) (a : Pair) → HasNoRow tree why → IsNext why 0 a → GivesNone why (a.param + 1)
    → IsConflict tree (record { first = a; second = a; third = a })
one_value tree why a none first end =
    is_conflict tree why (record { first = a; second = a; third = a }) none (record {
      first = first.gives;
      second = first.gives;
      third = first.gives;
      all = λ q assigned. elim (next_or why 0 q a first (omega arith) assigned) [
        | inl same ↦ inl same
        | inr behind ↦ absurd (false≢true (sym (end q behind) ∙ assigned))
      ];
    })

pub two_values : (tree : TreeView) (why : List (Option ℕ)) (a b : Pair) → HasNoRow tree why → IsNext why 0 a → IsNext why (a.param + 1) b
    → GivesNone why (b.param + 1) → IsConflict tree (record { first = a; second = b; third = b })
two_values tree why a b none first second end =
    is_conflict tree why (record { first = a; second = b; third = b }) none (record {
      first = first.gives;
      second = second.gives;
      third = second.gives;
      all = λ q assigned. elim (next_or why 0 q a first (omega arith) assigned) [
        | inl same ↦ inl same
        | inr behind ↦ elim (next_or why (a.param + 1) q b second behind assigned) [
          | inl same ↦ inr (inl same)
          | inr past ↦ absurd (false≢true (sym (end q past) ∙ assigned))
        ]
      ];
    })

pub three_values : (tree : TreeView) (why : List (Option ℕ)) (a b c : Pair) → HasNoRow tree why → IsNext why 0 a → IsNext why (a.param + 1) b
    → IsNext why (b.param + 1) c → GivesNone why (c.param + 1) → IsConflict tree (record { first = a; second = b; third = c })
three_values tree why a b c none first second third end =
    is_conflict tree why (record { first = a; second = b; third = c }) none (record {
      first = first.gives;
      second = second.gives;
      third = third.gives;
      all = λ q assigned. elim (next_or why 0 q a first (omega arith) assigned) [
        | inl same ↦ inl same
        | inr behind ↦ elim (next_or why (a.param + 1) q b second behind assigned) [
          | inl same ↦ inr (inl same)
          | inr past ↦ elim (next_or why (b.param + 1) q c third past assigned) [
            | inl same ↦ inr (inr same)
            | inr last ↦ absurd (false≢true (sym (end q last) ∙ assigned))
          ]
        ]
      ];
    })

-- the first value from a number on
pub next_is : (cells : List (Option ℕ)) (from p v : ℕ) → from ≤ p → get_or cells p None ≡ Some v
    → ((q : ℕ) → from ≤ q → q < p → is_assigned cells q ≡ false) → IsNext cells from (record { param = p; value = v })
next_is cells from p v behind is before = record { behind = behind; gives = is; first = before }

-- there is none
pub none_next : (cells : List (Option ℕ)) (from : ℕ) (next : Option Pair) → MatchOption next (GivesNone cells from) (IsNext cells from) → next ≡ None
    → GivesNone cells from
none_next cells from None told is = told
none_next cells from (Some pair) told is = absurd (some_none pair is)
  where
    some_none : (x : Pair) → Some x ≡ None → ⊥
    some_none x e = cc

-- no row contains cells that have the values of a conflict
pub excluded : (tree : TreeView) (conflict : Conflict) (cells : List (Option ℕ)) → IsConflict tree conflict → Gives cells conflict.first
    → Gives cells conflict.second → Gives cells conflict.third → HasNoRow tree cells
excluded tree conflict cells is first second third row listed contained =
    is row listed (kept conflict.first first) (kept conflict.second second) (kept conflict.third third)
  where
    kept : (pair : Pair) → Gives cells pair → Gives row pair
    kept pair given = contains-get_or row cells pair.param contained (ap is_some given) ∙ given
