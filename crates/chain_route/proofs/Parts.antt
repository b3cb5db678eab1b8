-- The next part of what is in flight, and what arrives behind it.
use Rattle.std.proofs.Common.{◌≡◌, ℕ, zero, suc, ◌+◌, ◌-◌, ◌<◌, ◌≤◌, Bool, true, false, List, [], ◌∷◌, length, take, Option, Some, None, refl, sym, subst, arith, ne_eqb}
use Rattle.std.specs.Prelude.{nat_le, ◌==◌}
use Rattle.std.proofs.lemmas.Bool.{leb-true, leb-false}
use Rattle.std.proofs.lemmas.List.{length-take-le}
use Rattle.channel_core.specs.declared.held.Outgoing.{Outgoing}
use Rattle.chain_route.specs.Lane.{arriving, next_part, staying}
use Rattle.list_laws.proofs.Numbers.{above_zero}

-- what the next part, and what stays behind it, are to so many bytes
pub record IsNext (left : ℕ) (outs : List Outgoing) (part : Outgoing) (next : List Outgoing) : Type 0 where
  pub within : length part.bytes ≤ left
  pub arrives : arriving left outs ≡ part ∷ arriving (left - length part.bytes) next
  pub stays : staying left outs ≡ staying (left - length part.bytes) next
  pub fewer : (left - length part.bytes) + length next < left + length outs

abbrev IsNextOf : ℕ → List Outgoing → Option Outgoing × List Outgoing → Type 0
IsNextOf left outs (None, next) = (arriving left outs ≡ []) × (staying left outs ≡ next)
IsNextOf left outs (Some part, next) = IsNext left outs part next

by_size : (left : ℕ) (out : Outgoing) (outs : List Outgoing) (fits : Bool) → (left == 0) ≡ false → nat_le (length out.bytes) left ≡ fits → IsNextOf left (out ∷ outs) (next_part left (out ∷ outs))
by_size left out outs true some fits = rw fits (record { within = leb-true (length out.bytes) left fits; arrives = rw (some, fits) refl; stays = rw (some, fits) refl; fewer = omega arith })
by_size left out outs false some fits =
    let short : left ≤ length out.bytes = omega (arith, leb-false (length out.bytes) left fits) in
    let size : length (take left out.bytes) ≡ left = length-take-le left out.bytes short in
    let none : left - left ≡ 0 = omega arith in
    let more : 0 < left = above_zero left some in
    rw fits (record { within = omega (arith, size); arrives = rw (some, fits, size, none) refl; stays = rw (some, fits, size, none) refl; fewer = rw (size, none) (omega (arith, more)) })

pub next_is : (left : ℕ) (outs : List Outgoing) → (left == 0) ≡ false → IsNextOf left outs (next_part left outs)
next_is left [] some = (refl, refl)
next_is left (out ∷ outs) some = by_size left out outs (nat_le (length out.bytes) left) some refl

not_zero : (n : ℕ) → 0 < n → (n == 0) ≡ false
not_zero n more = ne_eqb n 0 (λ is. absurd (omega (arith, more, is)))

-- no byte
pub none_arrives : (left : ℕ) (outs : List Outgoing) → left ≤ 0 → (arriving left outs ≡ []) × (staying left outs ≡ outs)
none_arrives zero [] none = (refl, refl)
none_arrives zero (out ∷ outs) none = (refl, refl)
none_arrives (suc n) outs none = absurd (omega (arith, none))

-- where it is this part
pub next_part_is : (left : ℕ) (outs next : List Outgoing) (part : Outgoing) → 0 < left → (Some part, next) ≡ next_part left outs → IsNext left outs part next
next_part_is left outs next part more is =
    let some : (left == 0) ≡ false = not_zero left more in
    subst (λ p. IsNextOf left outs p) (sym is) (next_is left outs some)

-- where there is none, nothing arrives
pub no_part_is : (left : ℕ) (outs next : List Outgoing) → 0 < left → (None, next) ≡ next_part left outs → (arriving left outs ≡ []) × (staying left outs ≡ next)
no_part_is left outs next more is =
    subst (λ p. IsNextOf left outs p) (sym is) (next_is left outs (not_zero left more))
