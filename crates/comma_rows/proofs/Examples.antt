-- Texts of comma-separated values and how they read: the examples of RFC 4180, section 2, and each fault.
use Rattle.std.proofs.Common.{◌≡◌, ℕ, List, ◌∷◌, [], Ok, Err, codes, refl}
use Rattle.comma_rows.specs.declared.comma_fault.CommaCause.TheVariants.{OpenQuote, TextAfterQuote, QuoteInText, LoneReturn}
use Rattle.comma_rows.specs.Reading.{comma_texts}
use Rattle.comma_rows.specs.believed.Reading.{read}

abbrev rows : List (List (List ℕ))
rows = (codes "aaa" ∷ codes "bbb" ∷ codes "ccc" ∷ []) ∷ (codes "zzz" ∷ codes "yyy" ∷ codes "xxx" ∷ []) ∷ []

-- 1: a record to a line
pub each-line : comma_texts (codes "aaa,bbb,ccc\r\nzzz,yyy,xxx\r\n") ≡ Ok rows
unfolding read
each-line = refl

-- 2: the last line break may be left out
pub last-line : comma_texts (codes "aaa,bbb,ccc\r\nzzz,yyy,xxx") ≡ Ok rows
unfolding read
last-line = refl

-- 4: spaces are part of a field
pub spaces : comma_texts (codes " a , b ") ≡ Ok ((codes " a " ∷ codes " b " ∷ []) ∷ [])
unfolding read
spaces = refl

-- 5: quotes around a field are no part of it
pub quoted : comma_texts (codes "\"aaa\",\"bbb\",\"ccc\"\r\nzzz,yyy,xxx") ≡ Ok rows
unfolding read
quoted = refl

-- 6: a quoted field may hold a line break and a comma
pub line-break : comma_texts (codes "\"aaa\",\"b\r\nbb\",\"c,c\"\r\n")
    ≡ Ok ((codes "aaa" ∷ codes "b\r\nbb" ∷ codes "c,c" ∷ []) ∷ [])
unfolding read
line-break = refl

-- 7: two quotes in a quoted field stand for one
pub doubled : comma_texts (codes "\"aaa\",\"b\"\"bb\",\"ccc\"") ≡ Ok ((codes "aaa" ∷ codes "b\"bb" ∷ codes "ccc" ∷ []) ∷ [])
unfolding read
doubled = refl

-- lines without a byte are no rows, an empty cell in quotes is one, and a line feed alone ends a line
pub empty-lines : comma_texts (codes "\r\n\n\"\"\n,\n") ≡ Ok (([] ∷ []) ∷ ([] ∷ [] ∷ []) ∷ [])
unfolding read
empty-lines = refl

pub open-quote : comma_texts (codes "a,b\n1,\"x\n") ≡ Err (record { at = record { line = 2; column = 3 }; cause = OpenQuote })
unfolding read
open-quote = refl

pub text-after-quote : comma_texts (codes "a\n\"x\" ,y") ≡ Err (record { at = record { line = 2; column = 4 }; cause = TextAfterQuote })
unfolding read
text-after-quote = refl

pub quote-in-text : comma_texts (codes "5\" screen") ≡ Err (record { at = record { line = 1; column = 2 }; cause = QuoteInText })
unfolding read
quote-in-text = refl

pub lone-return : comma_texts (codes "a\rb") ≡ Err (record { at = record { line = 1; column = 2 }; cause = LoneReturn })
unfolding read
lone-return = refl
