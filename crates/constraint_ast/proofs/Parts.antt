-- The parts of a conjunction and of a disjunction, as the code gathers them.
use Rattle.std.proofs.Common.{◌≡◌, ◌<◌, List, [], ◌∷◌, ◌++◌, length, refl, ap, sym, subst, arith, ◌∙◌}
use Rattle.std.specs.Prelude.{Option, Some, None, IfNone}
use mathlib.Core.Former.{Count}
use Rattle.constraint_ast.specs.believed.Trees.{Each, Either, More, all_of, any_of}
use Rattle.constraint_ast.specs.Trees.{added, tree_of, trees_of, trees_in}
use Rattle.constraint_ast.specs.declared.tree.RawPred.{RawPred, All, Any, All', Any', Row_of-RawPred, end_of-RawPred, more_of-RawPred, items-the_row-RawPred, items_hidden-the_row-RawPred-0}

abbrev row_of : RawPred → (n : Count) × Row_of-RawPred n
row_of (All' _ parts) = (_, parts)
row_of (Any' _ parts) = (_, parts)
row_of _ = (_, end_of-RawPred)

rows_in : {n : _} (parts : Row_of-RawPred n) → trees_of parts ≡ trees_in (items-the_row-RawPred n parts)
rows_in end_of-RawPred = refl
rows_in (more_of-RawPred part rest) = ap (λ behind. More (tree_of part) behind) (rows_in rest)

pub each_is : (parts : List RawPred) → tree_of (All parts) ≡ Each (trees_in parts)
each_is parts = ap Each (rows_in (row_of (All parts)).1 ∙ ap (λ list. trees_in list) (items_hidden-the_row-RawPred-0 parts))

pub either_is : (parts : List RawPred) → tree_of (Any parts) ≡ Either (trees_in parts)
either_is parts = ap Either (rows_in (row_of (Any parts)).1 ∙ ap (λ list. trees_in list) (items_hidden-the_row-RawPred-0 parts))

-- one more part
pub one_more : (parts : List RawPred) (part : RawPred) → trees_in (parts ++ part ∷ []) ≡ added (trees_in parts) (tree_of part)
one_more [] part = refl
one_more (first ∷ parts) part = ap (λ behind. More (tree_of first) behind) (one_more parts part)

-- two or more parts
pub many_all : (parts : List RawPred) (part : RawPred) → 0 < length parts → all_of (trees_in (parts ++ part ∷ [])) ≡ Each (trees_in (parts ++ part ∷ []))
many_all [] part some = absurd (omega arith)
many_all (first ∷ []) part some = refl
many_all (first ∷ next ∷ parts) part some = refl

pub many_any : (parts : List RawPred) (part : RawPred) → 0 < length parts → any_of (trees_in (parts ++ part ∷ [])) ≡ Either (trees_in (parts ++ part ∷ []))
many_any [] part some = absurd (omega arith)
many_any (first ∷ []) part some = refl
many_any (first ∷ next ∷ parts) part some = refl

-- the parts with one more, as a list
pub with_more : (parts : List RawPred) (part : RawPred) (list : List RawPred) → list ≡ parts ++ part ∷ [] → added (trees_in parts) (tree_of part) ≡ trees_in list
with_more parts part list e = sym (ap (λ list. trees_in list) e ∙ one_more parts part)

pub all_is : (parts : List RawPred) (part : RawPred) (list : List RawPred) → list ≡ parts ++ part ∷ [] → 0 < length parts → all_of (trees_in list) ≡ tree_of (All list)
all_is parts part list e some = subst (λ list. all_of (trees_in list) ≡ tree_of (All list)) (sym e) (many_all parts part some ∙ sym (each_is (parts ++ part ∷ [])))

pub any_is : (parts : List RawPred) (part : RawPred) (list : List RawPred) → list ≡ parts ++ part ∷ [] → 0 < length parts → any_of (trees_in list) ≡ tree_of (Any list)
any_is parts part list e some = subst (λ list. any_of (trees_in list) ≡ tree_of (Any list)) (sym e) (many_any parts part some ∙ sym (either_is (parts ++ part ∷ [])))

-- what no option holds
pub where_none : {A : Type 0} {P : Type 0} (found : Option A) → IfNone found P → ((x : A) → found ≡ Some x → ⊥) → P
where_none None fact none = fact
where_none (Some x) fact none = absurd (none x refl)
