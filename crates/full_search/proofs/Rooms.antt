-- Room for the reasons of a path, of which the first is its own and the others are those of the paths below it.
use Rattle.std.proofs.Common.{◌≡◌, ℕ, ◌+◌, ◌<◌, false, cond, List, [], ◌++◌, length, replicate, All, Option, Some, None, get_or, set, ◌∙◌, sym, ap, subst, arith}
use Rattle.std.specs.Prelude.{is_none}
use Rattle.std.proofs.lemmas.List.{get_or_append_left, get_or-append-add, get_or-set_same, length-append, length-replicate, length-set}
use Rattle.std.proofs.lemmas.List.Elements.{All-append, All-set}
use Rattle.std.proofs.lemmas.List.Sums.{sum_by-set}
use Rattle.cov_model.specs.believed.Rows.{is_assigned, with_value}
use Rattle.feasibility.proofs.Nodes.{none_of}
use Rattle.full_search.specs.Searching.{HasRoom, free_count}

-- a partial row with a value more has fewer parameters without one
pub free_less : (cells : List (Option ℕ)) (p v : ℕ) → p < length cells → is_assigned cells p ≡ false → free_count (with_value cells p v) < free_count cells
free_less cells p v within free =
    let none : ◌≡◌ {A = ℕ} (cond (is_none (get_or cells p None)) 1 0) 1 =
    ap (λ (cell : Option ℕ). cond (is_none cell) 1 0) (none_of (get_or cells p None) free) in
    omega (arith, sum_by-set (λ (cell : Option ℕ). cond (is_none cell) 1 0) cells p (Some v) None within, none)

-- reasons of a path that are split into its own and those below it
pub record IsSplit (cells : List (Option ℕ)) (whys own below : List (List (Option ℕ))) : Type 0 where
  pub one : length own ≡ 1
  pub each_own : All (λ why. length why ≡ length cells) own
  pub each_below : All (λ why. length why ≡ length cells) below
  pub as_many : length below + 1 ≡ length whys

pub split_room : (cells : List (Option ℕ)) (whys own below : List (List (Option ℕ))) → HasRoom cells whys → whys ≡ own ++ below → length own ≡ 1
    → IsSplit cells whys own below
split_room cells whys own below room is one = record {
  one = one;
  each_own = λ k d within. subst IsLong (get_or_append_left own below d k within) (both k d (omega (arith, within, length-append own below)));
  each_below = λ k d within. subst IsLong (get_or-append-add own below k d) (both (length own + k) d (omega (arith, within, length-append own below)));
  as_many = omega (arith, ap length is, length-append own below, one);
}
  where
    IsLong : List (Option ℕ) → Type 0
    IsLong why = length why ≡ length cells

    both : All IsLong (own ++ below)
    both = subst (All IsLong) is room.long

-- its own, once it is cleared
pub cleared_long : (cells why first : List (Option ℕ)) (whys own below : List (List (Option ℕ))) → IsSplit cells whys own below
    → why ≡ replicate (length (get_or own 0 first)) None → length why ≡ length cells
cleared_long cells why first whys own below split is =
    ap length is ∙ length-replicate (length (get_or own 0 first)) None ∙ split.each_own 0 first (omega (arith, split.one))

-- there is room for a path with a value more
pub room_with : (cells : List (Option ℕ)) (whys below : List (List (Option ℕ))) (p v : ℕ) → p < length cells → is_assigned cells p ≡ false → HasRoom cells whys
    → length below + 1 ≡ length whys → All (λ why. length why ≡ length cells) below → HasRoom (with_value cells p v) below
room_with cells whys below p v within free room as_many long = record {
  enough = omega (arith, free_less cells p v within free, room.enough, as_many);
  long = subst (λ (n : ℕ). All (λ why. length why ≡ n) below) (sym (length-set cells p (Some v))) long;
}

-- the reasons once they are joined again
pub record IsJoined (cells why : List (Option ℕ)) (whys joined : List (List (Option ℕ))) : Type 0 where
  pub first : get_or joined 0 [] ≡ why
  pub as_many : length joined ≡ length whys
  pub long : All (λ why. length why ≡ length cells) joined

pub joined_room : (cells why : List (Option ℕ)) (whys own old below : List (List (Option ℕ))) → IsSplit cells whys own old → length why ≡ length cells
    → length below + 1 ≡ length whys → All (λ why. length why ≡ length cells) below → IsJoined cells why whys (set own 0 why ++ below)
joined_room cells why whys own old below split is as_many long = record {
  first = get_or_append_left (set own 0 why) below [] 0 (omega (arith, length-set own 0 why, split.one)) ∙ get_or-set_same own 0 why [] (omega (arith, split.one));
  as_many = omega (arith, length-append (set own 0 why) below, length-set own 0 why, split.one, as_many);
  long = All-append (λ why. length why ≡ length cells) (set own 0 why) below (All-set (λ why. length why ≡ length cells) own 0 why is split.each_own) long;
}
