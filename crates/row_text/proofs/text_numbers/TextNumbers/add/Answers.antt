use Rattle.std.proofs.Common.{◌≡◌, ℕ, ◌∷◌, [], ◌++◌, cond, map, Some, None, Vec, is_some, sym, ◌∙◌, ap, subst}
use Rattle.std.specs.declared.alloc.Global.{Global}
use Rattle.std.specs.Map.{lookup}
use Rattle.std.specs.Prelude.{◌==◌}
use Rattle.value_text.proofs.ListLemmas.{none_of}
use Rattle.row_text.specs.Lookups.{AreBytes, AreWordsOf, number_of, word_of}
use Rattle.row_text.proofs.LookingUp.{added, known, looked_up, seen, texts_more}
use Rattle.row_text.proofs.Words.{words_keep, words_put}
use Rattle.row_text.proofs.text_numbers.TextNumbers.add.Goals as goal

pub returns-then-contains_key : goal.returns-then-contains_key
returns-then-contains_key c =
    let same = looked_up (λ (key : Vec ℕ Global). key.items) c.args.text.items c.self.inside.numbers.entries ∙ ap (λ pairs. number_of pairs c.args.text.items) c.self.view_is in
    known c.args.self.now c.args.text.items c.args.number (ap is_some (sym same) ∙ sym c.contains_key.ensures ∙ c.if-contains_key.true)

pub invariant_of-self-in_err-insert-in-Some : goal.invariant_of-self-in_err-insert-in-Some
invariant_of-self-in_err-insert-in-Some c =
    let absent = none_of _ (sym c.contains_key.ensures ∙ c.if-contains_key.false) in
    let more = texts_more c.self.inside.numbers c.insert.new.self.entries c.args.text c.args.number c.in_ok-insert.ensures.entries absent in
    let kept = words_keep (map seen c.self.inside.numbers.entries) (map seen c.insert.new.self.entries) c.self.inside.words.entries c.args.text.items c.args.number c.self.invariant more in
    subst (AreWordsOf (map seen c.insert.new.self.entries)) (sym c.in_err-insert-in-Some.ensures.err) kept

pub invariant_of-self-in-Some : goal.invariant_of-self-in-Some
invariant_of-self-in-Some c =
    let absent = none_of _ (sym c.contains_key.ensures ∙ c.if-contains_key.false) in
    let more = texts_more c.self.inside.numbers c.insert.new.self.entries c.args.text c.args.number c.in_ok-insert.ensures.entries absent in
    let text = c.args.text.items in
    let entries = c.self.inside.numbers.entries in
    let words = c.self.inside.words.entries in
    let none : number_of (map seen entries) text ≡ None = sym (looked_up (λ (key : Vec ℕ Global). key.items) text entries) ∙ absent in
    let word : c.in-Some.word ≡ word_of text = c.in-Some.ensures.word ∙ ap word_of c.as_slice.ensures.value in
    words_put (map seen entries) (map seen c.insert.new.self.entries) words c.insert-in-Some.new.self.entries text c.args.number c.self.invariant more
    (subst AreBytes c.as_slice.ensures.value c.in-Some.ensures.bytes) none
    (λ q. c.in_ok-insert-in-Some.ensures.updates.0 q ∙ ap (λ (own : ℕ). cond (own == q) (Some c.args.number) (lookup (λ known. q == known) words)) word)

pub invariant_of-self-in-None : goal.invariant_of-self-in-None
invariant_of-self-in-None c =
    let absent = none_of _ (sym c.contains_key.ensures ∙ c.if-contains_key.false) in
    let more = texts_more c.self.inside.numbers c.insert.new.self.entries c.args.text c.args.number c.in_ok-insert.ensures.entries absent in
    words_keep (map seen c.self.inside.numbers.entries) (map seen c.insert.new.self.entries) c.self.inside.words.entries c.args.text.items c.args.number c.self.invariant more

pub returns-in_ok-insert-in-Some : goal.returns-in_ok-insert-in-Some
returns-in_ok-insert-in-Some c =
    let absent = none_of _ (sym c.contains_key.ensures ∙ c.if-contains_key.false) in
    let more = texts_more c.self.inside.numbers c.insert.new.self.entries c.args.text c.args.number c.in_ok-insert.ensures.entries absent in
    added c.args.self.now (map seen c.insert.new.self.entries) c.args.text.items c.args.number
    (more ∙ ap (λ pairs. pairs ++ (c.args.text.items, c.args.number) ∷ []) c.self.view_is)

pub returns-in-None : goal.returns-in-None
returns-in-None c =
    let absent = none_of _ (sym c.contains_key.ensures ∙ c.if-contains_key.false) in
    let more = texts_more c.self.inside.numbers c.insert.new.self.entries c.args.text c.args.number c.in_ok-insert.ensures.entries absent in
    added c.args.self.now (map seen c.insert.new.self.entries) c.args.text.items c.args.number
    (more ∙ ap (λ pairs. pairs ++ (c.args.text.items, c.args.number) ∷ []) c.self.view_is)
