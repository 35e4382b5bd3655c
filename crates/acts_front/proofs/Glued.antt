-- The parts of a list of tokens, joined again.
use Rattle.std.proofs.Common.{◌≡◌, ℕ, ◌<◌, Bool, true, ◌&&◌, List, [], ◌∷◌, ◌++◌, length, map, Some, None, Option, refl, sym, ap, ◌∙◌, arith}
use Rattle.std.proofs.lemmas.Option.{same_Some}
use Rattle.std.proofs.lemmas.Bool.{and_parts, cond_both}
use Rattle.std.specs.Prelude.{◌==◌, option_map}
use Rattle.acts_front.specs.believed.Tokens.{Token, Name, Whole, Words, Truth, Relation, Arrow, Or, And, Not, Open, Close}
use Rattle.acts_front.specs.believed.Constraints.{Pred, Preds, More, is_and, is_or, more_preds, open_behind, parts, parts_behind, preds_of, put_first}

-- parts with a mark between two
abbrev pub glue : Token → List (List Token) → List Token
glue mark [] = []
glue mark (part ∷ []) = part
glue mark (part ∷ next ∷ others) = part ++ mark ∷ glue mark (next ∷ others)

some_parts : (marks : Token → Bool) (opened : ℕ) (tokens : List Token) → 0 < length (parts_behind marks opened tokens)
some_parts marks opened [] = omega arith
some_parts marks opened (token ∷ tokens) =
    cond_both ((opened == 0) && marks token) ([] ∷ parts_behind marks 0 tokens) (put_first token (parts_behind marks (open_behind token opened) tokens)) (λ list. 0 < length list)
    (λ e. omega arith) (λ e. first (parts_behind marks (open_behind token opened) tokens))
  where
    first : (list : List (List Token)) → 0 < length (put_first token list)
    first [] = omega arith
    first (part ∷ list) = omega arith

module _ (marks : Token → Bool) (mark : Token) (one : (token : Token) → marks token ≡ true → token ≡ mark) where
  behind_mark : (list : List (List Token)) → 0 < length list → glue mark ([] ∷ list) ≡ mark ∷ glue mark list
  behind_mark [] some = absurd (omega (arith, some))
  behind_mark (part ∷ list) some = refl

  onto_first : (token : Token) (list : List (List Token)) → 0 < length list → glue mark (put_first token list) ≡ token ∷ glue mark list
  onto_first token [] some = absurd (omega (arith, some))
  onto_first token (part ∷ []) some = refl
  onto_first token (part ∷ next ∷ list) some = refl

  glued_behind : (opened : ℕ) (tokens : List Token) → glue mark (parts_behind marks opened tokens) ≡ tokens
  glued_behind opened [] = refl
  glued_behind opened (token ∷ tokens) =
      cond_both ((opened == 0) && marks token) ([] ∷ parts_behind marks 0 tokens)
      (put_first token (parts_behind marks (open_behind token opened) tokens)) (λ list. glue mark list ≡ token ∷ tokens)
      (λ e.
      behind_mark (parts_behind marks 0 tokens) (some_parts marks 0 tokens)
      ∙ (ap (λ rest. mark ∷ rest) (glued_behind 0 tokens) ∙ ap (λ first. first ∷ tokens) (sym (one token (and_parts (opened == 0) (marks token) e).1))))
      (λ e.
      onto_first token (parts_behind marks (open_behind token opened) tokens) (some_parts marks (open_behind token opened) tokens)
      ∙ ap (λ rest. token ∷ rest) (glued_behind (open_behind token opened) tokens))

one_and : (token : Token) → is_and token ≡ true → token ≡ And
one_and And is = refl
one_and (Name name) is = absurd (cc)
one_and (Whole text) is = absurd (cc)
one_and (Words text) is = absurd (cc)
one_and (Truth truth) is = absurd (cc)
one_and (Relation rel) is = absurd (cc)
one_and Arrow is = absurd (cc)
one_and Or is = absurd (cc)
one_and Not is = absurd (cc)
one_and Open is = absurd (cc)
one_and Close is = absurd (cc)

one_or : (token : Token) → is_or token ≡ true → token ≡ Or
one_or Or is = refl
one_or (Name name) is = absurd (cc)
one_or (Whole text) is = absurd (cc)
one_or (Words text) is = absurd (cc)
one_or (Truth truth) is = absurd (cc)
one_or (Relation rel) is = absurd (cc)
one_or Arrow is = absurd (cc)
one_or And is = absurd (cc)
one_or Not is = absurd (cc)
one_or Open is = absurd (cc)
one_or Close is = absurd (cc)

pub and_glued : (tokens : List Token) → glue And (parts is_and tokens) ≡ tokens
and_glued tokens = glued_behind is_and And one_and 0 tokens

pub or_glued : (tokens : List Token) → glue Or (parts is_or tokens) ≡ tokens
or_glued tokens = glued_behind is_or Or one_or 0 tokens

pub and_some : (tokens : List Token) → 0 < length (parts is_and tokens)
and_some tokens = some_parts is_and 0 tokens

pub or_some : (tokens : List Token) → 0 < length (parts is_or tokens)
or_some tokens = some_parts is_or 0 tokens

-- what a mapped answer came from
pub mapped_some : {A B : Type 0} (f : A → B) (found : Option A) (y : B) → option_map f found ≡ Some y → (x : A) × (found ≡ Some x) × (f x ≡ y)
mapped_some f (Some x) y is = (x, refl, same_Some _ _ is)
mapped_some f None y is = absurd (cc)

-- what several parts spell, the first of them spells first
pub record SpellsFirst (read : List Token → Option Pred) (part : List Token) (others : List (List Token)) (preds : Preds) : Type 0 where
  pub pred : Pred
  pub rest : Preds
  pub first : read part ≡ Some pred
  pub later : preds_of (map read others) ≡ Some rest
  pub are : More pred rest ≡ preds

pub spells_first : (read : List Token → Option Pred) (part : List Token) (others : List (List Token)) (preds : Preds) → preds_of (map read (part ∷ others)) ≡ Some preds
    → SpellsFirst read part others preds
spells_first read part others preds is = by (read part) refl (preds_of (map read others)) refl is
  where
    by : (found : Option Pred) → read part ≡ found → (later : Option Preds) → preds_of (map read others) ≡ later
        → more_preds found later ≡ Some preds → SpellsFirst read part others preds
    by None a later b e = absurd (cc)
    by (Some pred) a None b e = absurd (cc)
    by (Some pred) a (Some rest) b e = record { pred = pred; rest = rest; first = a; later = b; are = same_Some _ _ e }
