-- The command of a number, and of a token.
use Rattle.std.proofs.Common.{◌≡◌, ℕ, ◌+◌, ◌<◌, ◌≤◌, ◌==◌, ◌^◌, zero, suc, Bool, true, false, not, ◌||◌, cond, List, [], ◌∷◌, ◌++◌, length, map, Some, refl, ap, ap₂, sym, ◌∙◌, subst, arith, eq-eqb, ne_eqb}
use Rattle.std.specs.Prelude.{bytes_eq, decimal}
use Rattle.std.specs.List.{AllByRecursion, range_with_len}
use Rattle.std.proofs.lemmas.Fmt.{decimal_injective}
use Rattle.std.proofs.lemmas.Slice.Eq.{bytes_eq-Decides}
use Rattle.command_tables.specs.Reading.{reading_of}
use Rattle.command_tables.specs.declared.reading.Reading.{Reading}
use Rattle.command_tables.specs.declared.reading.Reading.TheVariants as readings
use Rattle.target_hub.specs.Received.{goes_through, is_through_number}
use Rattle.target_hub.specs.Sent.{is_through}
use Rattle.tcf_text.specs.Lines.{Accepted}
use Rattle.tcf_text.specs.Once.{numbers}
use Rattle.value_node.specs.Asked.{Asked}
use Rattle.chain_heard.specs.Heard.{asked_as}
use Rattle.chain_told.specs.Told as told
use Rattle.chain_told.specs.Told.{command_under, is_stored}
use Rattle.value_node.specs.Barriers.{command_in}
use Rattle.chain_heard.proofs.Lines.{AreFew}
use Rattle.chain_heard.proofs.Numbers.{commands_few, numbers_from}
use Rattle.chain_heard.proofs.Elements.{SameCut, same_cut}
use Rattle.list_laws.proofs.Flags.{or_false as or_none}
use Rattle.list_laws.proofs.AllLists.{all_at}

-- ---- numbered commands

-- they have the numbers from 1 on, so few that each has a token of its own
pub record Counted (all : List Accepted) : Type 0 where
  pub counted : numbers all ≡ range_with_len 1 (length all)
  pub few : length all < 2 ^ 64

pub counted_few : (all : List Accepted) → Counted all → AreFew all
counted_few all c = commands_few all c.counted c.few

pub number_at : (done left : List Accepted) (c : Accepted) (low count : ℕ) → numbers (done ++ c ∷ left) ≡ range_with_len low count → c.number ≡ low + length done
number_at [] left c low zero are = absurd cc
number_at [] left c low (suc count) are = let same : c.number ≡ low = cc in omega arith
number_at (d ∷ done) left c low zero are = absurd cc
number_at (d ∷ done) left c low (suc count) are =
    let tail : numbers (done ++ c ∷ left) ≡ range_with_len (low + 1) count = cc in
    let rest : c.number ≡ (low + 1) + length done = number_at done left c (low + 1) count tail in omega arith

-- a number stands at one place alone
pub one_place : (all done left others more : List Accepted) (c d : Accepted) → Counted all → all ≡ done ++ c ∷ left → all ≡ others ++ d ∷ more → c.number ≡ d.number
    → SameCut done left others more c d
one_place all done left others more c d counted split also same =
    let here : c.number ≡ 1 + length done = number_at done left c 1 (length all) (subst (λ cs. numbers cs ≡ range_with_len 1 (length all)) split counted.counted) in
    let there : d.number ≡ 1 + length others = number_at others more d 1 (length all) (subst (λ cs. numbers cs ≡ range_with_len 1 (length all)) also counted.counted) in
    same_cut done left others more c d (sym split ∙ also) (omega arith)

-- ---- by the token

pub record Place (all : List Accepted) (c : Asked) (token : List ℕ) : Type 0 where
  pub done : List Accepted
  pub command : Accepted
  pub left : List Accepted
  pub split : all ≡ done ++ command ∷ left
  pub same : asked_as command ≡ c
  pub token_is : token ≡ decimal command.number

further : (d : Accepted) (all : List Accepted) (c : Asked) (token : List ℕ) → Place all c token → Place (d ∷ all) c token
further d all c token p = record { done = d ∷ p.done; command = p.command; left = p.left; split = ap (λ l. d ∷ l) p.split; same = p.same; token_is = p.token_is }

pub under : (all : List Accepted) (c : Asked) (token : List ℕ) → command_under token (map asked_as all) ≡ Some c → Place all c token
under [] c token is = absurd cc
under (d ∷ all) c token is = by_flag (bytes_eq token (decimal d.number)) refl is (under all c token)
  where
    by_flag : (flag : Bool) → bytes_eq token (decimal d.number) ≡ flag → cond flag (Some (asked_as d)) (command_under token (map asked_as all)) ≡ Some c
        → (command_under token (map asked_as all) ≡ Some c → Place all c token) → Place (d ∷ all) c token
    by_flag true same here rest =
        let one : asked_as d ≡ c = cc in
        record { done = []; command = d; left = all; split = refl; same = one; token_is = (bytes_eq-Decides token (decimal d.number)).0 same }
    by_flag false other here rest = further d all c token (rest here)

pub few_at : (done left : List Accepted) (c : Accepted) → AreFew (done ++ c ∷ left) → c.number < 2 ^ 64
few_at [] left c few = few.0
few_at (d ∷ done) left c few = few_at done left c few.1

pub few_there : (all done left : List Accepted) (c : Accepted) → Counted all → all ≡ done ++ c ∷ left → c.number < 2 ^ 64
few_there all done left c counted split = few_at done left c (subst AreFew split (counted_few all counted))

-- the command of a token is that of its number
pub number_is : (all : List Accepted) (c : Asked) (number : ℕ) → Counted all → number < 2 ^ 64 → (p : Place all c (decimal number)) → number ≡ p.command.number
number_is all c number counted bound p = decimal_injective number p.command.number bound (few_there all p.done p.left p.command counted p.split) p.token_is

-- ---- whether it goes through

through_by : (reading : Reading) → not (is_stored (command_in reading)) ≡ is_through reading
through_by (readings.Known command) = refl
through_by readings.Unknown = refl
through_by (readings.Bad index code) = refl

pub through_same : (c : Accepted) → told.goes_through (asked_as c) ≡ goes_through c
through_same c = through_by (reading_of c.service c.name c.body)

-- of these commands the number is its own alone
abbrev pub IsKnown : List Accepted → Accepted → Type 0
IsKnown all c = is_through_number c.number all ≡ goes_through c

abbrev pub AreKnown : List Accepted → List Accepted → Type 0
AreKnown all commands = AllByRecursion (IsKnown all) commands

unnamed : (number : ℕ) (commands : List Accepted) → AllByRecursion (λ c. number + 1 ≤ c.number) commands → is_through_number number commands ≡ false
unnamed number [] above = refl
unnamed number (c ∷ commands) above =
    let over : number + 1 ≤ c.number = above.0 in
    let other : (c.number == number) ≡ false = ne_eqb c.number number (λ same. omega arith) in
    ap₂ (λ b rest. cond b (goes_through c) false || rest) other (unnamed number commands above.1)

known_behind : (all commands : List Accepted) (c : Accepted) → AllByRecursion (λ d. c.number + 1 ≤ d.number) commands → AreKnown all commands → AreKnown (c ∷ all) commands
known_behind all [] c above known = tt
known_behind all (d ∷ commands) c above known =
    let over : c.number + 1 ≤ d.number = above.0 in
    let other : (c.number == d.number) ≡ false = ne_eqb c.number d.number (λ same. omega arith) in
    (ap (λ b. cond b (goes_through c) false || is_through_number d.number all) other ∙ known.0, known_behind all commands c above.1 known.1)

known_all : (commands : List Accepted) (low count : ℕ) → numbers commands ≡ range_with_len low count → AreKnown commands commands
known_all [] low count are = tt
known_all (c ∷ commands) low zero are = absurd cc
known_all (c ∷ commands) low (suc count) are =
    let head : c.number ≡ low = cc in
    let tail : numbers commands ≡ range_with_len (low + 1) count = cc in
    let above : AllByRecursion (λ d. c.number + 1 ≤ d.number) commands =
    subst (λ n. AllByRecursion (λ d. n + 1 ≤ d.number) commands) (sym head) (numbers_from commands (low + 1) count tail) in
    let own : (c.number == c.number) ≡ true = eq-eqb c.number c.number refl in (
      ap₂ (λ b rest. cond b (goes_through c) false || rest) own (unnamed c.number commands above) ∙ or_none (goes_through c),
      known_behind commands commands c above (known_all commands (low + 1) count tail),
    )

pub known_at : (all done left : List Accepted) (c : Accepted) → Counted all → all ≡ done ++ c ∷ left → is_through_number c.number all ≡ goes_through c
known_at all done left c counted split =
    all_at (IsKnown all) done left c (subst (AllByRecursion (IsKnown all)) split (known_all all 1 (length all) counted.counted))

-- the number of a token of one of them
pub known_number : (all : List Accepted) (c : Asked) (number : ℕ) → Counted all → number < 2 ^ 64 → command_under (decimal number) (map asked_as all) ≡ Some c
    → is_through_number number all ≡ told.goes_through c
known_number all c number counted bound is =
    let p = under all c (decimal number) is in
    ap (λ n. is_through_number n all) (number_is all c number counted bound p) ∙ known_at all p.done p.left p.command counted p.split
    ∙ sym (through_same p.command) ∙ ap told.goes_through p.same
