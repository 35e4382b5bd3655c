-- How names are looked up by their texts.
use Rattle.std.proofs.Common.{◌≡◌, ℕ, suc, ◌+◌, ◌<◌, Bool, true, false, cond, ◌||◌, List, [], ◌∷◌, ◌++◌, map, length, get_or, take, All}
use Rattle.std.proofs.Common.{Option, Some, None, Vec, is_some, position, refl, sym, ◌∙◌, ap, ap₂, subst, arith, add-zero}
use Rattle.std.proofs.lemmas.Bool.{cond-false, false≢true}
use Rattle.std.proofs.lemmas.Iterator.Adapters.{position_from-zero}
use Rattle.std.proofs.lemmas.List.{length-take-le, map-append, take_more}
use Rattle.std.proofs.lemmas.List.Elements.{All-head, All-tail}
use Rattle.std.proofs.lemmas.Slice.Eq.{bytes_eq-Decides}
use Rattle.std.specs.declared.alloc.Global.{Global}
use Rattle.std.specs.List.{position_from}
use Rattle.std.specs.Map.{lookup}
use Rattle.std.specs.Option.{option_or}
use Rattle.std.specs.Str.{bytes_eq}
use Rattle.indexmap.specs.IndexMap.{IndexMap, get, insert_entry}
use Rattle.indexmap.proofs.CallerLemmas.{insert_entry-new}
use Rattle.definitions.proofs.Members.{same_answer}
use Rattle.row_text.specs.Lookups.{number_of}

-- ---- the first place that passes

position_from_push : {X : Type 0} (test : X → Bool) (i : ℕ) (xs : List X) (x : X)
    → position_from test i (xs ++ x ∷ []) ≡ option_or (position_from test i xs) (cond (test x) (Some (i + length xs)) None)
position_from_push test i [] x = ap (λ n. cond (test x) (Some n) None) (sym (add-zero i))
position_from_push test i (y ∷ xs) x = at (test y) (position_from_push test (i + 1) xs x)
  where
    at : (b : Bool) → position_from test (i + 1) (xs ++ x ∷ []) ≡ option_or (position_from test (i + 1) xs) (cond (test x) (Some (i + 1 + length xs)) None)
        → cond b (Some i) (position_from test (i + 1) (xs ++ x ∷ [])) ≡ option_or (cond b (Some i) (position_from test (i + 1) xs)) (cond (test x) (Some (i + suc (length xs))) None)
    at true later = refl
    at false later =
        let same : i + 1 + length xs ≡ i + suc (length xs) = omega arith in
        later ∙ ap (λ n. option_or (position_from test (i + 1) xs) (cond (test x) (Some n) None)) same

-- one more item
pub position_more : {X : Type 0} (test : X → Bool) (xs : List X) (i : ℕ) (d : X) → i < length xs
    → position test (take (i + 1) xs) ≡ option_or (position test (take i xs)) (cond (test (get_or xs i d)) (Some i) None)
position_more test xs i d within =
    ap (position test) (take_more xs i d within)
    ∙ position_from-zero test (take i xs ++ get_or xs i d ∷ []) ∙ position_from_push test 0 (take i xs) (get_or xs i d)
    ∙ ap (λ o. option_or o (cond (test (get_or xs i d)) (Some (0 + length (take i xs))) None)) (sym (position_from-zero test (take i xs)))
    ∙ ap (λ n. option_or (position test (take i xs)) (cond (test (get_or xs i d)) (Some n) None)) (omega (arith, length-take-le i xs (omega arith)))

-- where no item passes
position_from_none : {X : Type 0} (test : X → Bool) (i : ℕ) (xs : List X) → All (λ x. test x ≡ false) xs → position_from test i xs ≡ None
position_from_none test i [] fail = refl
position_from_none test i (x ∷ xs) fail =
    cond-false (test x) _ _ (All-head (λ y. test y ≡ false) x xs fail) ∙ position_from_none test (i + 1) xs (All-tail (λ y. test y ≡ false) x xs fail)

pub position_none : {X : Type 0} (test : X → Bool) (xs : List X) → All (λ x. test x ≡ false) xs → position test xs ≡ None
position_none test xs fail = position_from-zero test xs ∙ position_from_none test 0 xs fail

-- of items that a function gave
position_from-map : {X Y : Type 0} (test : Y → Bool) (f : X → Y) (i : ℕ) (xs : List X) → position_from test i (map f xs) ≡ position_from (λ x. test (f x)) i xs
position_from-map test f i [] = refl
position_from-map test f i (x ∷ xs) = ap (cond (test (f x)) (Some i)) (position_from-map test f (i + 1) xs)

pub position-map : {X Y : Type 0} (test : Y → Bool) (f : X → Y) (xs : List X) → position test (map f xs) ≡ position (λ x. test (f x)) xs
position-map test f xs = position_from-zero test (map f xs) ∙ position_from-map test f 0 xs ∙ sym (position_from-zero (λ x. test (f x)) xs)

-- ---- texts with numbers

pub bytes_eq_comm : (a b : List ℕ) → bytes_eq a b ≡ bytes_eq b a
bytes_eq_comm a b = same_answer (bytes_eq a b) (bytes_eq b a)
    (λ e. (bytes_eq-Decides b a).1 (sym ((bytes_eq-Decides a b).0 e)))
    (λ e. (bytes_eq-Decides a b).1 (sym ((bytes_eq-Decides b a).0 e)))

-- a look-up among keys that have texts
pub looked_up : {K : Type 0} (text : K → List ℕ) (query : List ℕ) (entries : List (K × ℕ))
    → lookup (λ key. bytes_eq query (text key)) entries ≡ number_of (map (λ entry. (text entry.0, entry.1)) entries) query
looked_up text query [] = refl
looked_up text query (e ∷ entries) = ap₂ (λ b rest. cond b (Some e.1) rest) (bytes_eq_comm query (text e.0)) (looked_up text query entries)

pub number_of-append : (pairs more : List (List ℕ × ℕ)) (key : List ℕ) → number_of (pairs ++ more) key ≡ option_or (number_of pairs key) (number_of more key)
number_of-append [] more key = refl
number_of-append (p ∷ pairs) more key = at (bytes_eq p.0 key) (number_of-append pairs more key)
  where
    at : (b : Bool) → number_of (pairs ++ more) key ≡ option_or (number_of pairs key) (number_of more key)
        → cond b (Some p.1) (number_of (pairs ++ more) key) ≡ option_or (cond b (Some p.1) (number_of pairs key)) (number_of more key)
    at true later = refl
    at false later = later

-- a text that is added behind the others
pub added : (pairs more : List (List ℕ × ℕ)) (text : List ℕ) (n : ℕ) → more ≡ pairs ++ (text, n) ∷ []
    → (key : List ℕ) → number_of more key ≡ option_or (number_of pairs key) (cond (bytes_eq text key) (Some n) None)
added pairs more text n is key = ap (λ ps. number_of ps key) is ∙ number_of-append pairs ((text, n) ∷ []) key

-- an entry of a map as a text with its number
abbrev pub seen : Vec ℕ Global × ℕ → List ℕ × ℕ
seen entry = (entry.0.items, entry.1)

-- the texts of a map that has a new one
pub texts_more : {S : Type 0} (numbers : IndexMap (Vec ℕ Global) ℕ S) (more : List (Vec ℕ Global × ℕ)) (text : Vec ℕ Global) (n : ℕ)
    → more ≡ insert_entry (λ (a b : Vec ℕ Global). bytes_eq a.items b.items) numbers.entries text n
    → get (λ (a b : Vec ℕ Global). bytes_eq a.items b.items) numbers text ≡ None → map seen more ≡ map seen numbers.entries ++ (text.items, n) ∷ []
texts_more numbers more text n is absent =
    ap (map seen) (is ∙ insert_entry-new (λ (a b : Vec ℕ Global). bytes_eq a.items b.items) numbers text n absent)
    ∙ map-append seen numbers.entries ((text, n) ∷ [])

-- and one that has a number
has_first : {X : Type 0} (o other : Option X) → is_some o ≡ true → o ≡ option_or o other
has_first (Some x) other some = refl
has_first None other some = absurd (false≢true some)

or_nothing : {X : Type 0} (o : Option X) → o ≡ option_or o None
or_nothing (Some x) = refl
or_nothing None = refl

pub known : (pairs : List (List ℕ × ℕ)) (text : List ℕ) (n : ℕ) → is_some (number_of pairs text) ≡ true
    → (key : List ℕ) → number_of pairs key ≡ option_or (number_of pairs key) (cond (bytes_eq text key) (Some n) None)
known pairs text n some key = at (bytes_eq text key) refl
  where
    at : (b : Bool) → bytes_eq text key ≡ b → number_of pairs key ≡ option_or (number_of pairs key) (cond b (Some n) None)
    at true e = has_first (number_of pairs key) (Some n) (subst (λ k. is_some (number_of pairs k) ≡ true) ((bytes_eq-Decides text key).0 e) some)
    at false e = or_nothing (number_of pairs key)

-- two texts of one number, one after the other
pub or_either : (o : Option ℕ) (a b : Bool) (n : ℕ) → option_or (option_or o (cond a (Some n) None)) (cond b (Some n) None) ≡ option_or o (cond (a || b) (Some n) None)
or_either (Some x) a b n = refl
or_either None true b n = refl
or_either None false b n = refl
