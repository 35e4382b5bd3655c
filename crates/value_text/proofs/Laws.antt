-- What the definitions say of plain cases, worked out from the definitions alone.
use Rattle.std.proofs.Common.{◌≡◌, ℕ, ◌*◌, ◌^◌, pos, negsuc, Bool, true, false, List, [], ◌∷◌, codes, Some, None, replicate, refl}
use Rattle.std.specs.Str.{chars}
use Rattle.std.specs.Cmp.Lexicographic.{texts_ties}
use Rattle.std.specs.Ordering.{eq_by_cmp}
use Rattle.std.specs.declared.cmp.Ordering.TheVariants.{Less, Greater}
use Rattle.value_text.specs.believed.Texts.{folded, is_same_text, text_order}
use Rattle.value_text.specs.believed.Numbers.{number_of, is_number, count_of}
use Rattle.value_text.specs.believed.Like.{matches, is_like}
use Rattle.value_text.specs.declared.fixed.FixedAnswer.TheVariants.{Number, NotNumber, TooWide}

-- ---- numbers

one_and_a_half : number_of (codes "1.50") ≡ Number (pos 1500000000)
one_and_a_half = refl

trailing_zero : number_of (codes "1.50") ≡ number_of (codes "1.5")
trailing_zero = refl

minus_zero : number_of (codes "-0") ≡ number_of (codes "0")
minus_zero = refl

plus_seven : number_of (codes "+7") ≡ Number (pos 7000000000)
plus_seven = refl

minus_small : number_of (codes "-0.000000001") ≡ Number (negsuc 0)
minus_small = refl

leading_zeros : number_of (codes "007") ≡ number_of (codes "7")
leading_zeros = refl

widest : number_of (replicate 28 57) ≡ Number (pos (9999999999999999999999999999 * 10 ^ 9))
widest = refl

too_many_digits : number_of (replicate 29 57) ≡ TooWide
too_many_digits = refl

too_many_decimals : number_of (codes "1.1234567890") ≡ TooWide
too_many_decimals = refl

no_decimals : number_of (codes "1.") ≡ NotNumber
no_decimals = refl

no_whole : number_of (codes ".5") ≡ NotNumber
no_whole = refl

exponent : number_of (codes "1e3") ≡ NotNumber
exponent = refl

empty : number_of [] ≡ NotNumber
empty = refl

sign_alone : number_of (codes "-") ≡ NotNumber
sign_alone = refl

two_points : number_of (codes "1.2.3") ≡ NotNumber
two_points = refl

too_wide_is_none : is_number (replicate 29 57) ≡ false
too_wide_is_none = refl

-- ---- counts

count_by_value : count_of (codes "007") 7 7 ≡ Some 7
count_by_value = refl

widest_count : count_of (codes "18446744073709551615") 0 (2 ^ 64) ≡ Some 18446744073709551615
widest_count = refl

twenty_digits : count_of (replicate 20 57) 0 (2 ^ 64) ≡ None
twenty_digits = refl

twenty_one_digits : count_of (replicate 21 48) 0 0 ≡ None
twenty_one_digits = refl

signed_count : count_of (codes "+7") 0 9 ≡ None
signed_count = refl

-- ---- texts

-- two texts are one exactly where neither comes first
order_ties : (fold : Bool) (a b : List ℕ) → is_same_text fold a b ≡ eq_by_cmp (text_order fold) a b
order_ties fold a b = texts_ties (folded fold a) (folded fold b)

-- upper case comes first where case counts, and is the same where it doesn't
upper_first : text_order false (codes "B") (codes "a") ≡ Less
upper_first = refl

upper_folded : text_order true (codes "B") (codes "a") ≡ Greater
upper_folded = refl

prefix_first : text_order true (codes "AB") (codes "abc") ≡ Less
prefix_first = refl

-- letters past ASCII are not folded
accents_differ : is_same_text true (195 ∷ 137 ∷ []) (195 ∷ 169 ∷ []) ≡ false
accents_differ = refl

-- ---- patterns

star_takes_all : (t : List ℕ) → matches (42 ∷ []) t ≡ true
star_takes_all [] = refl
star_takes_all (c ∷ t) = star_takes_all t

empty_takes_empty : matches [] [] ≡ true
empty_takes_empty = refl

empty_takes_nothing_else : (c : ℕ) (t : List ℕ) → matches [] (c ∷ t) ≡ false
empty_takes_nothing_else c t = refl

star_takes_empty : is_like true (codes "*") [] ≡ true
unfolding chars
star_takes_empty = refl

stars_fold : is_like true (codes "a*b*") (codes "AB") ≡ true
unfolding chars
stars_fold = refl

stars_keep_case : is_like false (codes "a*b*") (codes "AB") ≡ false
unfolding chars
stars_keep_case = refl

-- the two bytes of `é` are one character
mark_takes_character : is_like false (codes "?") (195 ∷ 169 ∷ []) ≡ true
unfolding chars
mark_takes_character = refl

marks_take_two : is_like false (codes "??") (195 ∷ 169 ∷ []) ≡ false
unfolding chars
marks_take_two = refl

not_a_prefix : is_like false (codes "ab") (codes "abc") ≡ false
unfolding chars
not_a_prefix = refl

last_b : is_like false (codes "*b") (codes "abab") ≡ true
unfolding chars
last_b = refl

text_too_short : is_like false (codes "?b") (codes "b") ≡ false
unfolding chars
text_too_short = refl
