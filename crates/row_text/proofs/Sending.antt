-- How texts through a buffer compose: one behind another, and the buffer's steps.
use Rattle.std.proofs.Common.{◌≡◌, ℕ, true, false, Option, Some, None, List, [], ◌++◌, refl, ap, sym, ◌∙◌, subst, append_assoc}
use Rattle.std.proofs.lemmas.List.{append-nil}
use Rattle.outside_io.specs.declared.answers.WriteAnswer.{WriteAnswer}
use Rattle.outside_io.specs.declared.answers.WriteAnswer.TheVariants.{Done, Failed}
use Rattle.outside_io.specs.Faults.{is_failed_write}
use Rattle.outside_io.specs.believed.Seen.{SinkSeen}
use Rattle.outside_io.specs.believed.Puts.{Puts}
use Rattle.outside_io.proofs.PutsLaws.{Puts-then, Puts-stopped, Puts-nothing}
use Rattle.row_text.specs.Buffering.{Buffered, HoldsRest, Holds, Adds, empty_buffer}

-- one text behind another, through the buffer
pub Adds-then : {b m a : Buffered} {s t u : SinkSeen} {x y : List ℕ} → Adds b s m t x → Adds m t a u y → Adds b s a u (x ++ y)
Adds-then {b} {m} {a} {s} {t} {u} {x} {y} first second = record {
  goes_on = λ start before h. subst (Holds start a u) (append_assoc before x y) (second.goes_on start (before ++ x) (first.goes_on start before h));
}

-- the text by another name
pub Adds-same : {b a : Buffered} {s t : SinkSeen} {x y : List ℕ} → x ≡ y → Adds b s a t x → Adds b s a t y
Adds-same {b} {a} {s} {t} e adds = subst (Adds b s a t) e adds

-- no text
pub Adds-nothing : (b : Buffered) (s : SinkSeen) → Adds b s b s []
Adds-nothing b s = record { goes_on = λ start before h. subst (Holds start b s) (sym (append-nil before)) h }

-- after a fault nothing more is put
pub Adds-failed : (b : Buffered) (s : SinkSeen) (x : List ℕ) → b.failed ≡ true → Adds b s b s x
Adds-failed b s x e = record {
  goes_on = λ start before h.
      subst (λ failed. HoldsRest failed b.held start s (before ++ x)) (sym e)
      (Puts-stopped start s before x (subst (λ failed. HoldsRest failed b.held start s before) e h));
}

-- what was held is put, and more bytes with it
pub Adds-put : (r : WriteAnswer) (b a : Buffered) (s t : SinkSeen) (x : List ℕ) → b.failed ≡ false → a.failed ≡ is_failed_write r → a.held ≡ []
    → Puts r s t (b.held ++ x) → Adds b s a t x
Adds-put r b a s t x whole answer empty put = record { goes_on = λ start before h. gives r start before answer put (subst (λ failed. HoldsRest failed b.held start s before) whole h) }
  where
    gives : (r : WriteAnswer) (start : SinkSeen) (before : List ℕ) → a.failed ≡ is_failed_write r → Puts r s t (b.held ++ x)
        → HoldsRest false b.held start s before → Holds start a t (before ++ x)
    gives Done start before answer put h =
        let joined : before ++ x ≡ h.0 ++ (b.held ++ x) = ap (λ text. text ++ x) h.1 ∙ append_assoc h.0 b.held x in
        let all : before ++ x ≡ (before ++ x) ++ a.held = sym (append-nil (before ++ x)) ∙ ap (λ held. (before ++ x) ++ held) (sym empty) in
        subst (λ failed. HoldsRest failed a.held start t (before ++ x)) (sym answer)
        (before ++ x, all, subst (Puts Done start t) (sym joined) (Puts-then Done start s t h.0 (b.held ++ x) h.2 put))
    gives Failed start before answer put h =
        let joined : before ++ x ≡ h.0 ++ (b.held ++ x) = ap (λ text. text ++ x) h.1 ∙ append_assoc h.0 b.held x in
        subst (λ failed. HoldsRest failed a.held start t (before ++ x)) (sym answer)
        (subst (Puts Failed start t) (sym joined) (Puts-then Failed start s t h.0 (b.held ++ x) h.2 put))

-- the last bytes that are held are put
pub Holds-finished : (r : WriteAnswer) (b : Buffered) (start s t : SinkSeen) (text : List ℕ) → b.failed ≡ false → Puts r s t b.held
    → Holds start b s text → Puts r start t text
Holds-finished r b start s t text whole put h =
    let held = subst (λ failed. HoldsRest failed b.held start s text) whole h in
    subst (Puts r start t) (sym held.1) (Puts-then r start s t held.0 b.held held.2 put)

-- a fault that came before
pub Holds-failed : (b : Buffered) (start s : SinkSeen) (text : List ℕ) → b.failed ≡ true → Holds start b s text → Puts Failed start s text
Holds-failed b start s text e h = subst (λ failed. HoldsRest failed b.held start s text) e h

-- what was written to an empty buffer
pub Holds-all : {b a : Buffered} {s t : SinkSeen} {x : List ℕ} → b ≡ empty_buffer → Adds b s a t x → Holds s a t x
Holds-all {b} {a} {s} {t} {x} e adds = adds.goes_on s [] (subst (λ buffer. Holds s buffer s []) (sym e) ([], refl, Puts-nothing s))

-- nothing is held, and no fault came
pub Holds-empty : (b : Buffered) (start s : SinkSeen) (text : List ℕ) → b.failed ≡ false → b.held ≡ [] → Holds start b s text → Puts Done start s text
Holds-empty b start s text whole empty h =
    let held = subst (λ failed. HoldsRest failed b.held start s text) whole h in
    subst (Puts Done start s) (sym (held.1 ∙ ap (λ rest. held.0 ++ rest) empty ∙ append-nil held.0)) held.2
