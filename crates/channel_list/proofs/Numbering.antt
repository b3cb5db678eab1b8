-- A number that is added is the only one.
use Rattle.std.proofs.Common.{◌≡◌, ℕ, ◌+◌, ◌<◌, ◌≤◌, ◌==◌, Bool, true, false, cond, ◌&&◌, ◌||◌, nat_le, [], ◌∷◌, ◌++◌, Option, Some, None, refl, sym, ap, ◌∙◌, arith, eqb-true, eq-eqb, ne_eqb, leb-false, leb-true, le-leb}
use Rattle.std.specs.List.{list_any}
use Rattle.std.proofs.lemmas.Bool.{eqb-false, lt-leb}
use Rattle.std.proofs.lemmas.List.Folds.{list_any-append}
use Rattle.channel_list.specs.Numbers.{has_number, is_within, is_within_latest, lengthened, only, with_number}
use Rattle.channel_list.specs.NumbersValue.{NumbersValue}
use Rattle.channel_list.specs.declared.numbers.Span.{Span}

-- a span begins where it ends, or before
abbrev pub IsOrdered : Option Span → Type 0
IsOrdered None = Unit {0}
IsOrdered (Some span) = span.first ≤ span.last

one_within : (k j : ℕ) → (nat_le k j && nat_le j k) ≡ (k == j)
one_within k j = by_flags (nat_le k j) (nat_le j k) refl refl
  where
    by_flags : (low high : Bool) → nat_le k j ≡ low → nat_le j k ≡ high → (low && high) ≡ (k == j)
    by_flags true true low high =
        let first : k ≤ j = leb-true k j low in
        let second : j ≤ k = leb-true j k high in
        sym (eq-eqb k j (omega arith))
    by_flags true false low high = let over : k < j = leb-false j k high in sym (ne_eqb k j (λ is. omega arith))
    by_flags false high low is = let under : j < k = leb-false k j low in sym (ne_eqb k j (λ same. omega arith))

longer_within : (first last k j : ℕ) → first ≤ last → last + 1 ≡ k → (nat_le first j && nat_le j k) ≡ ((nat_le first j && nat_le j last) || (k == j))
longer_within first last k j order next = by_flag (nat_le first j) refl (nat_le j last) refl (k == j) refl
  where
    by_flag : (low : Bool) → nat_le first j ≡ low → (high : Bool) → nat_le j last ≡ high → (same : Bool) → (k == j) ≡ same → (low && nat_le j k) ≡ ((low && high) || same)
    by_flag true low true high same is = let under : j ≤ last = leb-true j last high in le-leb j k (omega arith)
    by_flag true low false high true is = let equal : k ≡ j = eqb-true k j is in le-leb j k (omega arith)
    by_flag true low false high false is =
        let over : last < j = leb-false j last high in
        let apart : k ≡ j → ⊥ = eqb-false k j is in
        lt-leb j k (above over apart)
      where
        above : last < j → (k ≡ j → ⊥) → k < j
        above over apart = by_order (nat_le j k) refl
          where
            by_order : (flag : Bool) → nat_le j k ≡ flag → k < j
            by_order true is = let under : j ≤ k = leb-true j k is in let equal : k ≡ j = omega arith in absurd (apart equal)
            by_order false is = leb-false j k is
    by_flag false low high is true same = let equal : k ≡ j = eqb-true k j same in let under : j < first = leb-false first j low in absurd (omega arith)
    by_flag false low high is false same = refl

or_swap : (a b : Bool) → (a || b) ≡ (b || a)
or_swap true true = refl
or_swap true false = refl
or_swap false true = refl
or_swap false false = refl

or_turn : (a b c : Bool) → ((a || c) || b) ≡ ((a || b) || c)
or_turn true b c = refl
or_turn false b c = or_swap c b

or_three : (c e w : Bool) → (c || (e || (w || false))) ≡ ((w || e) || c)
or_three true true true = refl
or_three true true false = refl
or_three true false true = refl
or_three true false false = refl
or_three false true true = refl
or_three false true false = refl
or_three false false true = refl
or_three false false false = refl

lengthened_has : (k j : ℕ) (latest : Option Span) (n : NumbersValue) → IsOrdered latest → has_number j (lengthened k latest n) ≡ ((is_within_latest j latest || list_any (is_within j) n.earlier) || (k == j))
lengthened_has k j None n order = ap (λ b. b || list_any (is_within j) n.earlier) (one_within k j) ∙ or_swap (k == j) (list_any (is_within j) n.earlier)
lengthened_has k j (Some span) n order = by_flag (span.last + 1 == k) refl
  where
    earlier : Bool
    earlier = list_any (is_within j) n.earlier

    by_flag : (flag : Bool) → (span.last + 1 == k) ≡ flag
        → has_number j (cond flag (record n { latest = Some (record span { last = k }) }) (record { earlier = n.earlier ++ span ∷ []; latest = Some (only k) })) ≡ ((is_within j span || list_any (is_within j) n.earlier) || (k == j))
    by_flag true is =
        ap (λ b. b || list_any (is_within j) n.earlier) (longer_within span.first span.last k j order (eqb-true (span.last + 1) k is)) ∙ or_turn (is_within j span) (list_any (is_within j) n.earlier) (k == j)
    by_flag false is =
        ap (λ b. b || list_any (is_within j) (n.earlier ++ span ∷ [])) (one_within k j) ∙ ap (λ b. (k == j) || b) (list_any-append (is_within j) n.earlier (span ∷ []))
        ∙ or_three (k == j) (list_any (is_within j) n.earlier) (is_within j span)

pub with_number_has : (k j : ℕ) (n : NumbersValue) → IsOrdered n.latest → has_number j (with_number k n) ≡ (has_number j n || (k == j))
with_number_has k j n order = lengthened_has k j n.latest n order

lengthened_ordered : (k : ℕ) (latest : Option Span) (n : NumbersValue) → IsOrdered latest → IsOrdered (lengthened k latest n).latest
lengthened_ordered k None n order = omega arith
lengthened_ordered k (Some span) n order = by_flag (span.last + 1 == k) refl
  where
    by_flag : (flag : Bool) → (span.last + 1 == k) ≡ flag → IsOrdered (cond flag (record n { latest = Some (record span { last = k }) }) (record { earlier = n.earlier ++ span ∷ []; latest = Some (only k) })).latest
    by_flag true is = let next : span.last + 1 ≡ k = eqb-true (span.last + 1) k is in omega arith
    by_flag false is = omega arith

pub with_number_ordered : (k : ℕ) (n : NumbersValue) → IsOrdered n.latest → IsOrdered (with_number k n).latest
with_number_ordered k n order = lengthened_ordered k n.latest n order
