-- Edges, and how they are looked for set by set. An edge is a tuple that no passing row contains, while each proper
-- part of it is in some passing row. The smallest suspicious tuples are the edges that a failing row contains. (How
-- this program finds them; no public clause speaks of it.)
use Rattle.std.specs.Prelude.{ℕ, Bool, ◌&&◌, not, List, ◌++◌, map, filter, flat_map, count_by, Option}
use Rattle.std.specs.List.{list_all, list_any}
use Rattle.cov_model.specs.believed.Sound.{ModelView}
use Rattle.suspect_tuples.specs.believed.Suspects.{has_tuple, proper_parts, tuples_on}

-- one of the rows contains the tuple
abbrev pub is_had : List (List (Option ℕ)) → List (ℕ × ℕ) → Bool
is_had rows tuple = list_any (has_tuple tuple) rows

-- no passing row contains the tuple, and each proper part of it is in some passing row
abbrev pub is_edge : List (List (Option ℕ)) → List (ℕ × ℕ) → Bool
is_edge passing tuple = not (is_had passing tuple) && list_all (is_had passing) (proper_parts tuple)

-- of the tuples that begin with these pairs and go on with one of these lists, the edges of which one of the rows has
-- what follows, each with the number of such rows
abbrev pub edges_behind : List (List (Option ℕ)) → List (List (Option ℕ)) → List (ℕ × ℕ) → List (List (ℕ × ℕ)) → List (List (ℕ × ℕ) × ℕ)
edges_behind passing rows before tuples =
    map (λ rest. (before ++ rest, count_by (has_tuple rest) rows)) (filter (λ rest. is_had rows rest && is_edge passing (before ++ rest)) tuples)

-- the tuples on the sets that begin with these parameters and go on with one of these lists
abbrev pub tuples_behind : ModelView → List ℕ → List (List ℕ) → List (List (ℕ × ℕ))
tuples_behind m set lists = flat_map (λ rest. tuples_on m (set ++ rest)) lists
