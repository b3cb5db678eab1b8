-- The tokens of numbered commands differ, and each command is found under its own.
use Rattle.std.proofs.Common.{◌≡◌, ℕ, ◌+◌, ◌^◌, ◌<◌, ◌≤◌, Bool, true, false, true≢false, cond, List, [], ◌∷◌, ◌++◌, length, map, Some, refl, ap, ap₂, sym, ◌∙◌, subst, arith}
use Rattle.std.specs.Prelude.{bytes_eq, decimal}
use Rattle.std.specs.List.{AllByRecursion}
use Rattle.std.proofs.lemmas.Slice.Eq.{bytes_eq-Decides}
use Rattle.chain_told.specs.Told.{command_under, numbered}
use Rattle.chain_told.proofs.Decimals.{decimal_one}
use Rattle.value_node.specs.Asked.{Asked}
use Rattle.chain_told.specs.Sent.{read_as}
use Rattle.list_laws.proofs.AllLists.{all_at}
use Rattle.list_laws.proofs.Lists.{equal_itself}

unlike : (m n : ℕ) → (m ≡ n → ⊥) → m < 10 ^ 64 → n < 10 ^ 64 → bytes_eq (decimal m) (decimal n) ≡ false
unlike m n other small less = by_flag (bytes_eq (decimal m) (decimal n)) refl
  where
    by_flag : (flag : Bool) → bytes_eq (decimal m) (decimal n) ≡ flag → flag ≡ false
    by_flag true is = absurd (other (decimal_one m n small less ((bytes_eq-Decides (decimal m) (decimal n)).0 is)))
    by_flag false is = refl

-- ---- no two tokens are the same

abbrev pub IsApart : Asked → Asked → Type 0
IsApart c d = (bytes_eq c.token d.token ≡ false) × (bytes_eq d.token c.token ≡ false)

abbrev pub AreApart : List Asked → Type 0
AreApart [] = Unit {0}
AreApart (c ∷ commands) = AllByRecursion (IsApart c) commands × AreApart commands

later_apart : (m n : ℕ) (c : Asked) (commands : List Asked) → m < n → n + length commands ≤ 10 ^ 64 → AllByRecursion (IsApart (record c { token = decimal m })) (numbered n commands)
later_apart m n c [] less few = tt
later_apart m n c (d ∷ commands) less few =
    let small : m < 10 ^ 64 = omega arith in
    let other : n < 10 ^ 64 = omega arith in
    let next : m < n + 1 = omega arith in
    let rest : (n + 1) + length commands ≤ 10 ^ 64 = omega arith in
    ((unlike m n (λ same. omega arith) small other, unlike n m (λ same. omega arith) other small), later_apart m (n + 1) c commands next rest)

pub numbered_apart : (n : ℕ) (commands : List Asked) → n + length commands ≤ 10 ^ 64 → AreApart (numbered n commands)
numbered_apart n [] few = tt
numbered_apart n (c ∷ commands) few =
    let next : n < n + 1 = omega arith in
    let rest : (n + 1) + length commands ≤ 10 ^ 64 = omega arith in
    (later_apart n (n + 1) c commands next rest, numbered_apart (n + 1) commands rest)

-- ---- each is found

abbrev pub IsFound : List Asked → Asked → Type 0
IsFound all c = command_under c.token all ≡ Some c

found_behind : (c : Asked) (all commands : List Asked) → AllByRecursion (IsApart c) commands → AllByRecursion (IsFound all) commands → AllByRecursion (IsFound (c ∷ all)) commands
found_behind c all [] apart found = tt
found_behind c all (d ∷ commands) apart found =
    (ap (λ b. cond b (Some c) (command_under d.token all)) apart.0.1 ∙ found.0, found_behind c all commands apart.1 found.1)

pub found_all : (commands : List Asked) → AreApart commands → AllByRecursion (IsFound commands) commands
found_all [] apart = tt
found_all (c ∷ commands) apart =
    (ap (λ b. cond b (Some c) (command_under c.token commands)) (equal_itself c.token), found_behind c commands commands apart.0 (found_all commands apart.1))

-- ---- a place among them

not_apart : (c d : Asked) → c.token ≡ d.token → bytes_eq c.token d.token ≡ false → ⊥
not_apart c d same apart = true≢false (sym (subst (λ token. bytes_eq c.token token ≡ true) same (equal_itself c.token)) ∙ apart)

-- what stands before the one with this token
pub one_place : (earlier done later left : List Asked) (c d : Asked) → AreApart (done ++ d ∷ left) → earlier ++ c ∷ later ≡ done ++ d ∷ left → c.token ≡ d.token → earlier ≡ done
one_place [] [] later left c d apart split same = refl
one_place [] (x ∷ done) later left c d apart split same =
    let head : x ≡ c = cc in
    absurd (not_apart x d (ap (λ (a : Asked). a.token) head ∙ same) (all_at (IsApart x) done left d apart.0).0)
one_place (x ∷ earlier) [] later left c d apart split same =
    let tail : left ≡ earlier ++ c ∷ later = cc in
    absurd (not_apart c d same (all_at (IsApart d) earlier later c (subst (AllByRecursion (IsApart d)) tail apart.0)).1)
one_place (x ∷ earlier) (y ∷ done) later left c d apart split same =
    let head : x ≡ y = cc in
    let tail : earlier ++ c ∷ later ≡ done ++ d ∷ left = cc in
    ap₂ (λ a l. a ∷ l) head (one_place earlier done later left c d apart.1 tail same)

-- ---- they are read as they were without their numbers

pub read_numbered : (n : ℕ) (commands : List Asked) → map read_as (numbered n commands) ≡ map read_as commands
read_numbered n [] = refl
read_numbered n (c ∷ commands) = ap (λ l. read_as c ∷ l) (read_numbered (n + 1) commands)
