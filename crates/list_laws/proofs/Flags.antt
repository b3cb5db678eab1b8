-- Flags.
use Rattle.std.proofs.Common.{Bool, ap, false, not, refl, sym, true, ◌&&◌, ◌||◌, ◌∙◌, ◌≡◌}

pub and_first : (a b : Bool) → (a && b) ≡ true → a ≡ true
and_first true b is = refl
and_first false b is = cc

pub not_both : {b : Bool} → b ≡ true → b ≡ false → ⊥
not_both is isnt = let no : true ≡ false = sym is ∙ isnt in cc

pub not_false : (b : Bool) → not b ≡ false → b ≡ true
not_false true e = refl
not_false false e = cc

pub not_true : (b : Bool) → not b ≡ true → b ≡ false
not_true true e = cc
not_true false e = refl

pub or_assoc : (a b c : Bool) → (a || (b || c)) ≡ ((a || b) || c)
or_assoc true b c = refl
or_assoc false b c = refl

pub or_false : (flag : Bool) → (flag || false) ≡ flag
or_false true = refl
or_false false = refl

pub or_or_false : (a b : Bool) → (a || (b || false)) ≡ (a || b)
or_or_false true b = refl
or_or_false false true = refl
or_or_false false false = refl

pub or_then : (a b c d : Bool) → (a ≡ true → c ≡ true) → (b ≡ true → d ≡ true) → (a || b) ≡ true → (c || d) ≡ true
or_then true b c d one two is = ap (λ e. e || d) (one refl)
or_then false b true d one two is = refl
or_then false b false d one two is = two is

pub or_true : (a : Bool) → (a || true) ≡ true
or_true true = refl
or_true false = refl

pub same_flag : (one other : Bool) → (one ≡ true → other ≡ true) → (other ≡ true → one ≡ true) → one ≡ other
same_flag true other there back = sym (there refl)
same_flag false true there back = absurd (let is : false ≡ true = back refl in cc)
same_flag false false there back = refl

pub second_false : (a b : Bool) → (a || b) ≡ false → b ≡ false
second_false true b neither = absurd cc
second_false false b neither = neither
