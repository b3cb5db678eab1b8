-- Commands whose tokens count from 1 have tokens that differ.
use Rattle.std.proofs.Common.{◌≡◌, ℕ, zero, suc, ◌+◌, ◌≤◌, List, [], ◌∷◌, ◌++◌, length, refl, sym, ◌∙◌, subst, arith}
use Rattle.std.specs.Prelude.{Contains, decimal}
use Rattle.std.specs.List.{AllByRecursion, flat_map}
use Rattle.channel_core.specs.Sending.{last_token}
use Rattle.channel_core.proofs.Rows.{decimal_one}
use Rattle.channel_laws.specs.Numbering.{AreNumbered, tokens_from}
use Rattle.value_node.specs.Asked.{Asked}
use Rattle.list_laws.proofs.AllLists.{all_left, all_then}

abbrev pub AreApart : List (List ℕ) → Type 0
AreApart [] = Unit {0}
AreApart (token ∷ tokens) = AllByRecursion (λ other. token ≡ other → ⊥) tokens × AreApart tokens

pub apart_left : (front back : List (List ℕ)) → AreApart (front ++ back) → AreApart front
apart_left [] back apart = tt
apart_left (token ∷ front) back apart = (all_left (λ other. token ≡ other → ⊥) front back apart.0, apart_left front back apart.1)

-- ---- tokens from a number on

abbrev IsAbove : ℕ → List ℕ → Type 0
IsAbove low token = (n : ℕ) × (low ≤ n) × (n ≤ last_token) × (token ≡ decimal n)

raised : (low : ℕ) (token : List ℕ) → IsAbove (low + 1) token → IsAbove low token
raised low token is = (is.0, omega (arith, is.1), is.2, is.3)

tokens_above : (low count : ℕ) → low + count ≤ last_token + 1 → AllByRecursion (IsAbove low) (tokens_from low count)
tokens_above low zero fits = tt
tokens_above low (suc count) fits = ((low, omega arith, omega arith, refl), all_then (IsAbove (low + 1)) (IsAbove low) (raised low) (tokens_from (low + 1) count) (tokens_above (low + 1) count (omega arith)))

above_differs : (low : ℕ) → low ≤ last_token → (other : List ℕ) → IsAbove (low + 1) other → decimal low ≡ other → ⊥
above_differs low fits other is same = let n = is.0 in let high = is.1 in let equal = decimal_one low n fits is.2 (same ∙ is.3) in omega arith

counted_apart : (low count : ℕ) → low + count ≤ last_token + 1 → AreApart (tokens_from low count)
counted_apart low zero fits = tt
counted_apart low (suc count) fits =
    (all_then (IsAbove (low + 1)) (λ other. decimal low ≡ other → ⊥) (above_differs low (omega arith)) (tokens_from (low + 1) count) (tokens_above (low + 1) count (omega arith)), counted_apart (low + 1) count (omega arith))

-- ---- numbered tokens

numbered_few : (tokens : List (List ℕ)) → AreNumbered tokens → length tokens ≤ last_token
numbered_few tokens is = is.1

pub numbered_apart : (tokens : List (List ℕ)) → AreNumbered tokens → AreApart tokens
numbered_apart tokens is = let few = numbered_few tokens is in subst AreApart (sym is.0) (counted_apart 1 (length tokens) (omega arith))

-- ---- commands with such tokens: a token is that of one of them alone

abbrev pub tokens_of : List Asked → List (List ℕ)
tokens_of commands = flat_map (λ c. c.token ∷ []) commands

abbrev IsOnly : Asked → Asked → Type 0
IsOnly c d = c.token ≡ d.token → c ≡ d

only_behind : (c : Asked) (commands : List Asked) → AllByRecursion (λ other. c.token ≡ other → ⊥) (tokens_of commands) → AllByRecursion (IsOnly c) commands
only_behind c [] all = tt
only_behind c (d ∷ commands) all = ((λ same. absurd (all.0 same)), only_behind c commands all.1)

pub at_behind : (c : Asked) (front back : List Asked) → AllByRecursion (λ other. c.token ≡ other → ⊥) (tokens_of (front ++ back)) → AllByRecursion (λ other. c.token ≡ other → ⊥) (tokens_of back)
at_behind c [] back all = all
at_behind c (d ∷ front) back all = at_behind c front back all.1

pub only_one : (front : List Asked) (c : Asked) (back : List Asked) → AreApart (tokens_of (front ++ c ∷ back)) → AllByRecursion (IsOnly c) (front ++ c ∷ back)
only_one [] c back apart = ((λ same. refl), only_behind c back apart.0)
only_one (d ∷ front) c back apart = ((λ same. absurd ((at_behind d front (c ∷ back) apart.0).0 (sym same))), only_one front c back apart.1)

all_contained : {A : Type 0} → (P : A → Type 0) (xs : List A) (x : A) → Contains xs x → AllByRecursion P xs → P x
all_contained P [] x has all = let less = has.1 in absurd (omega arith)
all_contained P (y ∷ xs) x (zero, less, is) all = subst P is all.0
all_contained P (y ∷ xs) x (suc k, less, is) all = all_contained P xs x (k, omega arith, is) all.1

-- commands of which one stands there and another has its token are the same
pub same_asked : (commands front : List Asked) (c : Asked) (back : List Asked) (other : Asked) → AreApart (tokens_of commands) → commands ≡ front ++ c ∷ back → Contains commands other
    → c.token ≡ other.token → c ≡ other
same_asked commands front c back other apart whole has same =
    all_contained (IsOnly c) commands other has (subst (λ cs. AllByRecursion (IsOnly c) cs) (sym whole) (only_one front c back (subst (λ cs. AreApart (tokens_of cs)) whole apart))) same
