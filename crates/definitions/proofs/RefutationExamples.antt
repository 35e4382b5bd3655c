-- Trees that refute a tuple, and lists of tokens that don't, computed on small models.
use Rattle.std.specs.Prelude.{◌≡◌, ℕ, Bool, true, false, List, [], ◌∷◌, ◌++◌, Option, codes, refl}
use Rattle.cov_model.specs.believed.Sound.{ModelView}
use Rattle.definitions.specs.believed.Refutation.{Token, Branch, ByRule, ByNegative, ByOmission, refutes, refutes_each, leaves, is_eager}
use Rattle.definitions.proofs.Models.{row, table, bound, negative, barred, mixed, impossible, twin, twin_and_one}

-- a tree of format 1, which cites nothing
abbrev accepts : ModelView → List (Option ℕ) → List Token → Bool
accepts m tuple tokens = refutes m 1 [] tuple tokens

bound-tree : accepts bound (row (codes "01")) (ByRule 1 ∷ []) ≡ true
bound-tree = refl

-- a constraint that isn't No, one that doesn't exist, and one without a number
bound-unknown : accepts bound (row (codes "0_")) (ByRule 1 ∷ []) ≡ false
bound-unknown = refl

bound-missing : accepts bound (row (codes "01")) (ByRule 2 ∷ []) ≡ false
bound-missing = refl

bound-zero : accepts bound (row (codes "01")) (ByRule 0 ∷ []) ≡ false
bound-zero = refl

barred-tree : accepts barred (row (codes "00_")) (Branch 2 ∷ ByRule 1 ∷ ByRule 2 ∷ ByRule 3 ∷ []) ≡ true
barred-tree = refl

barred-eager : is_eager barred 1 [] (row (codes "00_")) (Branch 2 ∷ ByRule 1 ∷ ByRule 2 ∷ ByRule 3 ∷ []) ≡ true
barred-eager = refl

barred-leaf : accepts barred (row (codes "00_")) (ByRule 1 ∷ []) ≡ false
barred-leaf = refl

barred-short : accepts barred (row (codes "00_")) (Branch 2 ∷ ByRule 1 ∷ ByRule 2 ∷ []) ≡ false
barred-short = refl

barred-other : accepts barred (row (codes "00_")) (Branch 2 ∷ ByRule 1 ∷ ByRule 3 ∷ ByRule 3 ∷ []) ≡ false
barred-other = refl

barred-long : accepts barred (row (codes "00_")) (Branch 2 ∷ ByRule 1 ∷ ByRule 2 ∷ ByRule 3 ∷ ByRule 1 ∷ []) ≡ false
barred-long = refl

barred-assigned : accepts barred (row (codes "00_")) (Branch 0 ∷ ByRule 1 ∷ ByRule 1 ∷ []) ≡ false
barred-assigned = refl

-- a parameter that doesn't exist has no values, and is no branch
barred-outside : accepts barred (row (codes "00_")) (Branch 3 ∷ []) ≡ false
barred-outside = refl

barred-nothing : accepts barred (row (codes "00_")) [] ≡ false
barred-nothing = refl

-- the values of a branch stand in declared order, and branches in preorder
twin-first : is_eager twin 1 [] (row (codes "0__")) (Branch 1 ∷ Branch 2 ∷ ByRule 2 ∷ ByRule 1 ∷ Branch 2 ∷ ByRule 1 ∷ ByRule 2 ∷ []) ≡ true
twin-first = refl

twin-second : is_eager twin 1 [] (row (codes "0__")) (Branch 2 ∷ Branch 1 ∷ ByRule 2 ∷ ByRule 1 ∷ Branch 1 ∷ ByRule 1 ∷ ByRule 2 ∷ []) ≡ true
twin-second = refl

twin-wrong : accepts twin (row (codes "0__")) (Branch 1 ∷ Branch 2 ∷ ByRule 2 ∷ ByRule 1 ∷ Branch 2 ∷ ByRule 2 ∷ ByRule 1 ∷ []) ≡ false
twin-wrong = refl

-- a branch where a leaf is possible refutes, and isn't eager
bound-branch : accepts barred (row (codes "0_0")) (Branch 1 ∷ ByRule 1 ∷ ByRule 1 ∷ []) ≡ true
bound-branch = refl

bound-lazy : is_eager barred 1 [] (row (codes "0_0")) (Branch 1 ∷ ByRule 1 ∷ ByRule 1 ∷ []) ≡ false
bound-lazy = refl

-- each value of A is negative and isn't in the tuple; on a tuple that has it, it is no leaf
negative-tree : is_eager negative 1 [] (row (codes "_00")) (Branch 0 ∷ ByNegative ∷ ByNegative ∷ []) ≡ true
negative-tree = refl

negative-own : accepts negative (row (codes "000")) (ByNegative ∷ []) ≡ false
negative-own = refl

-- a branch has the children of negative values too, and there a negative leaf comes before others
mixed-tree : accepts mixed (row (codes "1_1")) (Branch 1 ∷ ByRule 1 ∷ ByRule 1 ∷ []) ≡ true
mixed-tree = refl

mixed-positive : accepts mixed (row (codes "1_1")) (Branch 1 ∷ ByRule 1 ∷ []) ≡ false
mixed-positive = refl

mixed-negative : accepts mixed (row (codes "111")) (ByNegative ∷ []) ≡ false
mixed-negative = refl

mixed-eager : is_eager mixed 1 [] (row (codes "1_1")) (ByRule 1 ∷ []) ≡ true
mixed-eager = refl

mixed-before : is_eager mixed 1 [] (row (codes "1_1")) (Branch 1 ∷ ByRule 1 ∷ ByNegative ∷ []) ≡ false
mixed-before = refl

-- the twin constraints with a fourth parameter, in format 2: later tuples cite earlier ones
abbrev tuples : List (List (Option ℕ))
tuples = table (codes "00__ 01__ 0_0_ 0_1_")

abbrev trees : List (List (Option ℕ) × List Token)
trees =
    (row (codes "00__"), Branch 2 ∷ ByRule 2 ∷ ByRule 1 ∷ []) ∷ (row (codes "01__"), Branch 2 ∷ ByRule 1 ∷ ByRule 2 ∷ [])
    ∷ (row (codes "0_0_"), Branch 1 ∷ ByRule 2 ∷ ByRule 1 ∷ []) ∷ (row (codes "0_1_"), Branch 1 ∷ ByRule 1 ∷ ByRule 2 ∷ [])
    ∷ (row (codes "0__0"), Branch 1 ∷ ByOmission 1 ∷ ByOmission 2 ∷ []) ∷ []

abbrev citing : ℕ → List (List (Option ℕ) × List Token)
citing n = trees ++ (row (codes "0__1"), Branch 1 ∷ ByOmission n ∷ ByOmission 2 ∷ []) ∷ []

twin_and_one-proof : refutes_each twin_and_one 2 (citing 1) ≡ true
twin_and_one-proof = refl

twin_and_one-other : refutes_each twin_and_one 2 (citing 5) ≡ false
twin_and_one-other = refl

-- a line that cites itself, a later one, or none
twin_and_one-itself : refutes_each twin_and_one 2 (citing 6) ≡ false
twin_and_one-itself = refl

twin_and_one-later : refutes_each twin_and_one 2 (citing 7) ≡ false
twin_and_one-later = refl

twin_and_one-none : refutes_each twin_and_one 2 (citing 0) ≡ false
twin_and_one-none = refl

-- format 1 cites nothing
twin_and_one-plain : refutes_each twin_and_one 1 (citing 1) ≡ false
twin_and_one-plain = refl

-- the least number is cited, and a constraint before an omission
twin_and_one-eager : is_eager twin_and_one 2 tuples (row (codes "0__0")) (Branch 1 ∷ ByOmission 1 ∷ ByOmission 2 ∷ []) ≡ true
twin_and_one-eager = refl

twin_and_one-least : is_eager twin_and_one 2 (row (codes "0___") ∷ tuples) (row (codes "00__")) (ByOmission 2 ∷ []) ≡ false
twin_and_one-least = refl

twin_and_one-rule : is_eager twin_and_one 2 tuples (row (codes "001_")) (ByOmission 1 ∷ []) ≡ false
twin_and_one-rule = refl

-- an earlier tuple without the negative value of this one may be served where this one may not: it isn't cited
negative-cites : refutes negative 2 (row (codes "_00") ∷ []) (row (codes "000")) (ByOmission 1 ∷ []) ≡ false
negative-cites = refl

negative-contains : refutes negative 2 (row (codes "0_0") ∷ []) (row (codes "000")) (ByOmission 1 ∷ []) ≡ true
negative-contains = refl

-- what counts is the tuple's negative values, and not those of the path
negative-foreign : refutes negative 2 (row (codes "__0") ∷ []) (row (codes "_00")) (Branch 0 ∷ ByOmission 1 ∷ ByOmission 1 ∷ []) ≡ true
negative-foreign = refl

-- no row is valid; but a parameter of the path is no branch
impossible-tree : is_eager impossible 1 [] (row (codes "0")) (ByRule 1 ∷ []) ≡ true
impossible-tree = refl

impossible-branch : accepts impossible (row (codes "0")) (Branch 0 ∷ ByRule 1 ∷ ByRule 1 ∷ []) ≡ false
impossible-branch = refl

-- where a negative value and a constraint both make a leaf, the negative one comes first
mixed-leaves : leaves mixed 1 [] (row (codes "1_1")) (row (codes "111")) ≡ ByNegative ∷ ByRule 1 ∷ []
mixed-leaves = refl
