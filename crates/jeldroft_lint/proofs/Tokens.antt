-- Tokens that are written one after another.
use Rattle.std.proofs.Common.{◌≡◌, ◌∙◌, ◌++◌, ◌∷◌, ◌+◌, ◌<◌, [], ℕ, List, ap, append-nil, append_assoc, flat_map, get_or, length, subst, sym, take}
use Rattle.std.proofs.lemmas.Grind.{flat_map-append}
use Rattle.std.proofs.lemmas.List.{take_more}
use Rattle.std.specs.Prelude.{OnOk, Result, Ok, Err}
use Rattle.json.specs.Token.{Token}
use Rattle.json.specs.Written.{Written, Writes}
use Rattle.jeldroft_lint.specs.Texts.{Adds}
use Rattle.jeldroft_lint.specs.believed.Texts.{object_tokens, objects_tokens}
use Rattle.jeldroft_lint.specs.declared.remark.Remark.{Remark}

pub adds_both : (a b c : Written) (ts us : List Token) → Adds a b ts → Adds b c us → Adds a c (ts ++ us)
adds_both a b c ts us one two = record {
  before = two.before ∙ one.before;
  tokens = two.tokens ∙ ap (λ (l : List Token). l ++ us) one.tokens ∙ append_assoc a.tokens ts us;
}

-- the same where the last step may fail
pub adds_last : {E : Type 0} (r : Result (Unit {0}) E) (a b c : Written) (ts us : List Token) → Adds a b ts → OnOk r (Adds b c us) → OnOk r (Adds a c (ts ++ us))
adds_last (Ok done) a b c ts us one two = adds_both a b c ts us one two
adds_last (Err error) a b c ts us one two = tt

-- a token by itself
pub adds_token : {E : Type 0} (r : Result (Unit {0}) E) (a b : Written) (t : Token) → Writes r a b t → OnOk r (Adds a b (t ∷ []))
adds_token (Ok done) a b t writes = record { before = writes.room.0; tokens = writes.ok }
adds_token (Err error) a b t writes = tt

-- and one object more
objects_more : (file : List ℕ) (told : List Remark) (i : ℕ) (remark : Remark) → i < length told → get_or told i remark ≡ remark
    → objects_tokens file (take i told) ++ object_tokens file remark ≡ objects_tokens file (take (i + 1) told)
objects_more file told i remark within is =
    ap (λ (r : Remark). objects_tokens file (take i told) ++ object_tokens file r) (sym is)
    ∙ sym (ap (flat_map (object_tokens file)) (take_more told i remark within) ∙ flat_map-append (object_tokens file) (take i told) (get_or told i remark ∷ [])
    ∙ ap (λ last. objects_tokens file (take i told) ++ last) (append-nil (object_tokens file (get_or told i remark))))

pub adds_object : (a b c : Written) (file : List ℕ) (told : List Remark) (i : ℕ) (remark : Remark) → i < length told → get_or told i remark ≡ remark
    → Adds a b (objects_tokens file (take i told)) → Adds b c (object_tokens file remark) → Adds a c (objects_tokens file (take (i + 1) told))
adds_object a b c file told i remark within is before here =
    subst (Adds a c) (objects_more file told i remark within is) (adds_both a b c (objects_tokens file (take i told)) (object_tokens file remark) before here)
