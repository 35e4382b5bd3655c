-- How the words on a sink compose: one text after another, a stop at the first fault, and no text.
use Rattle.std.proofs.Common.{◌≡◌, ℕ, ◌+◌, ◌-◌, ◌≤◌, min, Option, Some, None, List, [], ◌++◌, length, take, IsSome, is_some, refl, ap, sym, ◌∙◌, subst, arith, length-append, append_assoc}
use Rattle.std.proofs.Math.Seq.{take-append-add}
use Rattle.std.proofs.lemmas.List.{append-nil, take-append-le, take_min}
use Rattle.outside_io.specs.declared.answers.WriteAnswer.{WriteAnswer}
use Rattle.outside_io.specs.declared.answers.WriteAnswer.TheVariants.{Done, Failed}
use Rattle.outside_io.specs.believed.Seen.{SinkSeen}
use Rattle.outside_io.specs.believed.Puts.{Puts, PutsBytes, CountsFaults, Leaves, Balances}

-- some of the first text is some of the joined text
take-within : (x y : List ℕ) (count : ℕ) → take (min count (length x)) (x ++ y) ≡ take count x
take-within x y count =
    let short : min count (length x) ≤ length x = omega arith in
    take-append-le (min count (length x)) x y short ∙ take_min count x

-- the bytes: what was appended in two steps is the joined text
PutsBytes-then : (r : WriteAnswer) (b m a : Option (List ℕ)) (x y : List ℕ)
    → PutsBytes Done b m x → PutsBytes r m a y → PutsBytes r b a (x ++ y)
PutsBytes-then Done None m a x y first second = tt
PutsBytes-then Failed None m a x y first second = tt
PutsBytes-then Done (Some w) m a x y first second =
    let put = subst (λ (o : Option (List ℕ)). PutsBytes Done o a y) first second in
    put ∙ ap Some (append_assoc w x y)
PutsBytes-then Failed (Some w) m a x y first second =
    let put = subst (λ (o : Option (List ℕ)). PutsBytes Failed o a y) first second in
    let joined = append_assoc w x (take put.0 y) ∙ ap (λ t. w ++ t) (sym (take-append-add x y put.0)) in
    (length x + put.0, put.1 ∙ ap Some joined)

-- a fault in the first step is one of the joined text
PutsBytes-stopped : (b a : Option (List ℕ)) (x y : List ℕ)
    → PutsBytes Failed b a x → PutsBytes Failed b a (x ++ y)
PutsBytes-stopped None a x y put = tt
PutsBytes-stopped (Some w) a x y put =
    (min put.0 (length x), put.1 ∙ ap (λ t. Some (w ++ t)) (sym (take-within x y put.0)))

-- no text
PutsBytes-nothing : (b : Option (List ℕ)) → PutsBytes Done b b []
PutsBytes-nothing None = tt
PutsBytes-nothing (Some w) = ap Some (sym (append-nil w))

-- bytes that are told stay told
PutsBytes-told : (r : WriteAnswer) (b a : Option (List ℕ)) (x : List ℕ)
    → PutsBytes r b a x → IsSome b → IsSome a
PutsBytes-told Done None a x put told = absurd (cc)
PutsBytes-told Failed None a x put told = absurd (cc)
PutsBytes-told Done (Some w) a x put told = ap is_some put
PutsBytes-told Failed (Some w) a x put told = ap is_some put.1

-- the room: two texts take what the joined text does
Leaves-then : (r : WriteAnswer) (b m a : Option ℕ) (x y : List ℕ)
    → Leaves Done b m x → Leaves r m a y → Leaves r b a (x ++ y)
Leaves-then Done None m a x y first second = tt
Leaves-then Failed None m a x y first second = tt
Leaves-then Done (Some room) m a x y first second =
    let put = subst (λ (o : Option ℕ). Leaves Done o a y) first.1 second in
    let less : room - length x - length y ≡ room - length (x ++ y) = omega (arith, length-append x y) in
    (omega (arith, length-append x y), put.1 ∙ ap Some less)
Leaves-then Failed (Some room) m a x y first second =
    let put = subst (λ (o : Option ℕ). Leaves Failed o a y) first.1 second in
    let less : room - length x - put.1.0 ≡ room - (length x + put.1.0) = omega arith in
    (omega (arith, length-append x y), (length x + put.1.0, omega arith, put.1.2 ∙ ap Some less))

-- a fault in the first step is one of the joined text
Leaves-stopped : (b a : Option ℕ) (x y : List ℕ)
    → Leaves Failed b a x → Leaves Failed b a (x ++ y)
Leaves-stopped None a x y put = tt
Leaves-stopped (Some room) a x y put = (omega (arith, length-append x y), put.1)

-- no text
Leaves-nothing : (b : Option ℕ) → Leaves Done b b []
Leaves-nothing None = tt
Leaves-nothing (Some room) = (omega arith, ap Some (omega arith))

-- a room that is told stays told
Leaves-told : (r : WriteAnswer) (b a : Option ℕ) (x : List ℕ)
    → Leaves r b a x → IsSome b → IsSome a
Leaves-told Done None a x put told = absurd (cc)
Leaves-told Failed None a x put told = absurd (cc)
Leaves-told Done (Some room) a x put told = ap is_some put.1
Leaves-told Failed (Some room) a x put told = ap is_some put.1.2

-- a told room that is enough: no fault comes
pub Leaves-enough : (r : WriteAnswer) (room : ℕ) (a : Option ℕ) (x : List ℕ)
    → Leaves r (Some room) a x → length x ≤ room → r ≡ Done
Leaves-enough Done room a x put enough = refl
Leaves-enough Failed room a x put enough = absurd (omega arith)

-- bytes and room stay in balance over two steps, where both are told in between
Balances-then : (b c d : Option (List ℕ)) (q r s : Option ℕ)
    → IsSome c → IsSome r → Balances b c q r → Balances c d r s → Balances b d q s
Balances-then None c d q r s told left first second = tt
Balances-then (Some w) c None q r s told left first second = tt
Balances-then (Some w) c (Some v) None r s told left first second = tt
Balances-then (Some w) c (Some v) (Some m) r None told left first second = tt
Balances-then (Some w) None (Some v) (Some m) r (Some n) told left first second = absurd (cc)
Balances-then (Some w) (Some u) (Some v) (Some m) None (Some n) told left first second = absurd (cc)
Balances-then (Some w) (Some u) (Some v) (Some m) (Some k) (Some n) told left first second = omega arith

-- no step
Balances-nothing : (b : Option (List ℕ)) (q : Option ℕ) → Balances b b q q
Balances-nothing None q = tt
Balances-nothing (Some w) None = tt
Balances-nothing (Some w) (Some m) = refl

-- the count of faults over two steps
CountsFaults-then : (r : WriteAnswer) (b m a : ℕ)
    → CountsFaults Done b m → CountsFaults r m a → CountsFaults r b a
CountsFaults-then Done b m a first second = second ∙ first
CountsFaults-then Failed b m a first second = subst (λ (k : ℕ). CountsFaults Failed k a) first second

-- bytes and room stay in balance over two steps, of which the first came without a fault
Balances-after : (b c d : Option (List ℕ)) (q r s : Option ℕ) (x : List ℕ) → PutsBytes Done b c x → Leaves Done q r x → Balances b c q r → Balances c d r s
    → Balances b d q s
Balances-after None c d q r s x put left first second = tt
Balances-after (Some w) c None q r s x put left first second = tt
Balances-after (Some w) c (Some v) None r s x put left first second = tt
Balances-after (Some w) c (Some v) (Some m) r s x put left first second =
    Balances-then (Some w) c (Some v) (Some m) r s (PutsBytes-told Done (Some w) c x put refl) (Leaves-told Done (Some m) r x left refl) first second

-- one text behind another
pub Puts-then : (r : WriteAnswer) (b m a : SinkSeen) (x y : List ℕ) → Puts Done b m x → Puts r m a y → Puts r b a (x ++ y)
Puts-then r b m a x y first second = record {
  puts = PutsBytes-then r b.written m.written a.written x y first.puts second.puts;
  leaves = Leaves-then r b.room m.room a.room x y first.leaves second.leaves;
  balances = Balances-after b.written m.written a.written b.room m.room a.room x first.puts first.leaves first.balances second.balances;
  counts = CountsFaults-then r b.faults m.faults a.faults first.counts second.counts;
}

-- a fault in a text is one in every longer text
pub Puts-stopped : (b a : SinkSeen) (x y : List ℕ) → Puts Failed b a x → Puts Failed b a (x ++ y)
Puts-stopped b a x y put = record {
  puts = PutsBytes-stopped b.written a.written x y put.puts;
  leaves = Leaves-stopped b.room a.room x y put.leaves;
  balances = put.balances;
  counts = put.counts;
}

-- no text
pub Puts-nothing : (b : SinkSeen) → Puts Done b b []
Puts-nothing b = record {
  puts = PutsBytes-nothing b.written;
  leaves = Leaves-nothing b.room;
  balances = Balances-nothing b.written b.room;
  counts = refl;
}
