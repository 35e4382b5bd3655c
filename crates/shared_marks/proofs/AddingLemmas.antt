-- Places that are added to the marked ones of a seat, one after another.
use Rattle.std.proofs.Common.{◌≡◌, ℕ, ◌+◌, ◌*◌, ◌^◌, ◌/◌, Bool, true, false, ◌||◌, ◌++◌, ◌<◌, inl, inr, ◌∙◌, refl, sym, ap, arith}
use Rattle.std.specs.Prelude.{◌==◌}
use Rattle.std.proofs.Math.Bool.{or_assoc, or_comm, or-false}
use Rattle.std.proofs.Math.Nat.{mul-div_cancel}
use Rattle.std.proofs.lemmas.Bool.{or_cases, or_left, or_right}
use Rattle.std.proofs.lemmas.List.Folds.{list_any-append}
use Rattle.std.proofs.lemmas.Nat.{pow-add, pow_pos}
use Rattle.definitions.specs.believed.Demand.{is_among}
use Rattle.shared_marks.specs.declared.holding.Holding.{Holding}
use Rattle.shared_marks.specs.Adding.{Adds, IsSameShare, Marks, is_of_word}
use Rattle.shared_marks.specs.Seats.{IsWhole, SeatView, first_holding, halved, is_held, with_holding, joined, marking, other_half}
use Rattle.shared_marks.specs.Steps.{marking_all, places_of}
use Rattle.shared_marks.proofs.BitLemmas.{places_among}

-- none
pub marks_none : (adds : ℕ → Bool) (seat : SeatView) → ((place : ℕ) → adds place ≡ false) → Marks adds seat seat
marks_none adds seat none = record {
  table = refl;
  marked = λ place. sym (ap (λ t. is_among seat.holds.marked place || t) (none place) ∙ or-false (is_among seat.holds.marked place));
  seen = refl;
  parts = refl;
  halvings = refl;
}

-- one
pub marks_one : (adds : ℕ → Bool) (seat : SeatView) (own : ℕ) → ((place : ℕ) → adds place ≡ (own == place))
    → Marks adds seat (with_holding seat (marking own seat.holds))
marks_one adds seat own is = record {
  table = refl;
  marked = λ place. or_comm (own == place) (is_among seat.holds.marked place) ∙ ap (λ t. is_among seat.holds.marked place || t) (sym (is place));
  seen = refl;
  parts = refl;
  halvings = refl;
}

-- those of a word
pub marks_word : (word bits : ℕ) (seat : SeatView) → Marks (is_of_word word bits) seat (with_holding seat (marking_all (places_of word bits) seat.holds))
marks_word word bits seat = record {
  table = refl;
  marked = λ place.
      list_any-append (λ k. k == place) (places_of word bits) seat.holds.marked
      ∙ ap (λ t. t || is_among seat.holds.marked place) (places_among word bits place)
      ∙ or_comm (is_of_word word bits place) (is_among seat.holds.marked place);
  seen = refl;
  parts = refl;
  halvings = refl;
}

-- some, and then more
pub marks_then : (first second both : ℕ → Bool) (before between after : SeatView) → Marks first before between → Marks second between after
    → ((place : ℕ) → (first place || second place) ≡ both place) → Marks both before after
marks_then first second both before between after one two is = record {
  table = two.table ∙ one.table;
  marked = λ place.
      two.marked place ∙ ap (λ t. t || second place) (one.marked place)
      ∙ or_assoc (is_among before.holds.marked place) (first place) (second place)
      ∙ ap (λ t. is_among before.holds.marked place || t) (is place);
  seen = two.seen ∙ one.seen;
  parts = two.parts ∙ one.parts;
  halvings = two.halvings ∙ one.halvings;
}

-- places told in another way
pub marks_same : (adds same : ℕ → Bool) (before after : SeatView) → Marks adds before after → ((place : ℕ) → adds place ≡ same place)
    → Marks same before after
marks_same adds same before after is told = record {
  table = is.table;
  marked = λ place. is.marked place ∙ ap (λ t. is_among before.holds.marked place || t) (told place);
  seen = is.seen;
  parts = is.parts;
  halvings = is.halvings;
}

-- places that join the marked ones of a seat join those that it holds
or_swapped : (a b c : Bool) → ((a || c) || b) ≡ ((a || b) || c)
or_swapped a b c = or_assoc a c b ∙ ap (λ t. a || t) (or_comm c b) ∙ sym (or_assoc a b c)

pub marks_hold : (adds : ℕ → Bool) (before after : SeatView) → Marks adds before after → (place : ℕ) → (is_held before.holds place || adds place) ≡ true
    → is_held after.holds place ≡ true
marks_hold adds before after is place given =
    ap (λ t. t || is_among after.holds.seen place) (is.marked place)
    ∙ ap (λ seen. (is_among before.holds.marked place || adds place) || is_among seen place) is.seen
    ∙ or_swapped (is_among before.holds.marked place) (is_among before.holds.seen place) (adds place) ∙ given

pub marks_add : (adds : ℕ → Bool) (before after : SeatView) → Marks adds before after → Adds adds before after
marks_add adds before after is = record {
  table = is.table;
  held = marks_hold adds before after is;
  marked = λ place among. sym (is.marked place) ∙ among;
  share = ap (λ n. before.holds.parts * 2 ^ n) is.halvings ∙ ap (λ n. n * 2 ^ before.holds.halvings) (sym is.parts);
}

-- places that a seat holds add nothing
pub adds_held : (adds : ℕ → Bool) (seat : SeatView) → ((place : ℕ) → adds place ≡ true → is_held seat.holds place ≡ true) → Adds adds seat seat
adds_held adds seat known = record {
  table = refl;
  held = λ place given. elim (or_cases (is_held seat.holds place) (adds place) given) [
    | inl before ↦ before
    | inr added ↦ known place added
  ];
  marked = λ place among. or_left (is_among seat.holds.marked place) (adds place) among;
  share = refl;
}

-- a share that stays, twice
same_share : (one two three : Holding) → IsSameShare one two → IsSameShare two three → IsSameShare one three
same_share one two three first second =
    cancel (one.parts * 2 ^ three.halvings) (three.parts * 2 ^ one.halvings) (2 ^ two.halvings) (pow_pos two.halvings)
    (chain one.parts two.parts three.parts (2 ^ one.halvings) (2 ^ two.halvings) (2 ^ three.halvings) first second)
  where
    cancel : (x y k : ℕ) → 0 < k → x * k ≡ y * k → x ≡ y
    cancel x y k some same = sym (mul-div_cancel x some) ∙ ap (λ n. n / k) same ∙ mul-div_cancel y some

    turned : (a b c : ℕ) → a * b * c ≡ a * c * b
    turned a b c = grind arith

    chain : (p q r a b c : ℕ) → p * b ≡ q * a → q * c ≡ r * b → p * c * b ≡ r * a * b
    chain p q r a b c one two = turned p c b ∙ ap (λ n. n * c) one ∙ turned q a c ∙ ap (λ n. n * a) two ∙ turned r b a

-- places, and then more; of all these places the seat may hold some already
pub adds_both : (first second both : ℕ → Bool) (before between after : SeatView) → Adds first before between → Adds second between after
    → ((place : ℕ) → both place ≡ true → (is_held before.holds place || (first place || second place)) ≡ true)
    → ((place : ℕ) → (first place || second place) ≡ true → both place ≡ true) → Adds both before after
adds_both first second both before between after one two covers within = record {
  table = two.table ∙ one.table;
  held = λ place given.
      let h = is_held before.holds place in
      let all : (h || (first place || second place)) ≡ true =
      elim (or_cases h (both place) given) [
        | inl early ↦ or_left h (first place || second place) early
        | inr added ↦ covers place added
      ] in
      elim (or_cases (h || first place) (second place) (or_assoc h (first place) (second place) ∙ all)) [
        | inl early ↦ two.held place (or_left (is_held between.holds place) (second place) (one.held place early))
        | inr late ↦ two.held place (or_right (is_held between.holds place) (second place) late)
      ];
  marked = λ place among.
      let k = is_among before.holds.marked place in
      let added : (first place || second place) ≡ true → (k || both place) ≡ true = λ is. or_right k (both place) (within place is) in
      elim (or_cases (is_among between.holds.marked place) (second place) (two.marked place among)) [
        | inl early ↦ elim (or_cases k (first place) (one.marked place early)) [
          | inl before_all ↦ or_left k (both place) before_all
          | inr is ↦ added (or_left (first place) (second place) is)
        ]
        | inr late ↦ added (or_right (first place) (second place) late)
      ];
  share = same_share before.holds between.holds after.holds one.share two.share;
}

pub adds_then : (first second both : ℕ → Bool) (before between after : SeatView) → Adds first before between → Adds second between after
    → ((place : ℕ) → (first place || second place) ≡ both place) → Adds both before after
adds_then first second both before between after one two is =
    adds_both first second both before between after one two
    (λ place added. or_right (is_held before.holds place) (first place || second place) (is place ∙ added)) (λ place either. sym (is place) ∙ either)

-- places told in another way
pub adds_same : (adds same : ℕ → Bool) (before after : SeatView) → Adds adds before after → ((place : ℕ) → adds place ≡ same place)
    → Adds same before after
adds_same adds same before after is told = record {
  table = is.table;
  held = λ place given. is.held place (ap (λ t. is_held before.holds place || t) (told place) ∙ given);
  marked = λ place among. sym (ap (λ t. is_among before.holds.marked place || t) (told place)) ∙ is.marked place among;
  share = is.share;
}

-- a seat that was split and joined again, and what was added by both halves
either_list : (a b c d : Bool) → ((a || c) || (b || d)) ≡ true → ((a || b) || (c || d)) ≡ true
either_list true b c d given = refl
either_list false true c d given = refl
either_list false false c d given = given

joined_hold : (held other : Holding) (place : ℕ) → (is_held held place || is_held other place) ≡ true → is_held (joined held other) place ≡ true
joined_hold held other place given =
    ap (λ t. t || is_among (held.seen ++ other.seen) place) (list_any-append (λ k. k == place) held.marked other.marked)
    ∙ ap (λ t. (is_among held.marked place || is_among other.marked place) || t) (list_any-append (λ k. k == place) held.seen other.seen)
    ∙ either_list (is_among held.marked place) (is_among other.marked place) (is_among held.seen place) (is_among other.seen place) given

pub halves_add : (first second both : ℕ → Bool) (seat one other : SeatView) → Adds first (with_holding seat (halved seat.holds)) one
    → Adds second (with_holding seat (other_half seat.holds)) other → ((place : ℕ) → (first place || second place) ≡ both place)
    → Adds both seat (with_holding one (joined one.holds other.holds))
halves_add first second both seat one other left right is = record {
  table = left.table;
  held = λ place given.
      let h = is_held seat.holds place in
      elim (or_cases (h || first place) (second place) (or_assoc h (first place) (second place) ∙ ap (λ t. h || t) (is place) ∙ given)) [
        | inl early ↦
            joined_hold one.holds other.holds place
            (or_left (is_held one.holds place) (is_held other.holds place) (left.held place early))
        | inr late ↦
            joined_hold one.holds other.holds place
            (or_right (is_held one.holds place) (is_held other.holds place)
            (right.held place (or_right (is_held (other_half seat.holds) place) (second place) late)))
      ];
  marked = λ place among.
      let k = is_among seat.holds.marked place in
      let added : ((k || first place) || second place) ≡ true =
      elim (or_cases (is_among one.holds.marked place) (is_among other.holds.marked place)
      (sym (list_any-append (λ n. n == place) one.holds.marked other.holds.marked) ∙ among)) [
        | inl early ↦ or_left (k || first place) (second place) (left.marked place early)
        | inr late ↦ or_right (k || first place) (second place) (right.marked place late)
      ] in
      sym (or_assoc k (first place) (second place) ∙ ap (λ t. k || t) (is place)) ∙ added;
  share =
      let a = one.holds in
      let b = other.holds in
      let p = seat.holds.parts in
      let next = pow-add 2 seat.holds.halvings 1 in
      ap (λ n. p * n) (pow-add 2 a.halvings b.halvings)
      ∙ halves p a.parts b.parts (2 ^ a.halvings) (2 ^ b.halvings) (2 ^ seat.holds.halvings) (2 ^ (seat.holds.halvings + 1)) next left.share right.share;
}
  where
    halves : (p a b x y z w : ℕ) → w ≡ z * 2 → p * x ≡ a * w → p * y ≡ b * w → p * (x * y) ≡ (a * y + b * x) * z
    halves p a b x y z w next first second =
        once (p * (x * y)) ((a * y + b * x) * z)
        (opened p x y ∙ ap (λ n. n * y + p * y * x) first ∙ ap (λ n. a * w * y + n * x) second ∙ ap (λ n. a * n * y + b * n * x) next ∙ closed a b x y z)
      where
        once : (m n : ℕ) → 2 * m ≡ 2 * n → m ≡ n
        once m n same = omega (arith, same)

        opened : (p x y : ℕ) → 2 * (p * (x * y)) ≡ p * x * y + p * y * x
        opened p x y = grind arith

        closed : (a b x y z : ℕ) → a * (z * 2) * y + b * (z * 2) * x ≡ 2 * ((a * y + b * x) * z)
        closed a b x y z = grind arith

-- a share that is 1 and a share that is the same
pub same_is_whole : (held : Holding) → IsSameShare first_holding held → IsWhole held
same_is_whole held same = omega (arith, same)
