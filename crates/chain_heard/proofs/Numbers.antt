-- The numbers of a client's commands, and the lines that bear them.
use Rattle.std.proofs.Common.{◌≡◌, ℕ, ◌+◌, ◌<◌, ◌≤◌, ◌==◌, ◌^◌, zero, suc, Bool, true, false, not, ◌&&◌, ◌||◌, List, [], ◌∷◌, ◌++◌, length, filter, refl, ap, ap₂, sym, ◌∙◌, subst, arith, eq-eqb, ne_eqb}
use Rattle.std.specs.List.{AllByRecursion, Contains, list_any, range_with_len}
use Rattle.std.proofs.lemmas.List.{append_assoc, map-append}
use Rattle.std.proofs.lemmas.List.Concat.{flat_map-append}
use Rattle.std.proofs.lemmas.List.Elements.{Contains-append_left, filter-append}
use Rattle.client_node.specs.Runs.{tells}
use Rattle.target_hub.specs.Received.{goes_through}
use Rattle.tcf_text.specs.Each.{Each}
use Rattle.tcf_text.specs.Lines.{Accepted, accepted, accepted_by}
use Rattle.tcf_text.specs.Once.{AnswersPending, IsPending, numbers}
use Rattle.tcf_text.specs.declared.log.LogLine.{LogLine}
use Rattle.tcf_text.specs.declared.log.LogLine.TheVariants as lines
use Rattle.chain_heard.proofs.Lines.{AreFew, IsFew}
use Rattle.list_laws.proofs.Splits.{filter_each, filter_nothing}
use Rattle.list_laws.proofs.AllLists.{all_filter, all_weaker}
use Rattle.list_laws.proofs.Flags.{or_true}

-- ---- the numbers of commands

pub numbers_from : (commands : List Accepted) (low count : ℕ) → numbers commands ≡ range_with_len low count → AllByRecursion (λ c. low ≤ c.number) commands
numbers_from [] low count are = tt
numbers_from (c ∷ commands) low zero are = absurd cc
numbers_from (c ∷ commands) low (suc count) are =
    let head : c.number ≡ low = cc in
    let tail : numbers commands ≡ range_with_len (low + 1) count = cc in
    (omega arith, all_weaker (λ d. low + 1 ≤ d.number) (λ d. low ≤ d.number) commands (λ d above. omega arith) (numbers_from commands (low + 1) count tail))

pub numbers_below : (commands : List Accepted) (low count : ℕ) → numbers commands ≡ range_with_len low count → AllByRecursion (λ c. c.number < low + count) commands
numbers_below [] low count are = tt
numbers_below (c ∷ commands) low zero are = absurd cc
numbers_below (c ∷ commands) low (suc count) are =
    let head : c.number ≡ low = cc in
    let tail : numbers commands ≡ range_with_len (low + 1) count = cc in
    (omega arith, all_weaker (λ d. d.number < (low + 1) + count) (λ d. d.number < low + suc count) commands (λ d below. omega arith) (numbers_below commands (low + 1) count tail))

pub commands_few : (commands : List Accepted) → numbers commands ≡ range_with_len 1 (length commands) → length commands < 2 ^ 64 → AreFew commands
commands_few commands are few =
    all_weaker (λ c. c.number < 1 + length commands) (λ c. c.number < 2 ^ 64) commands (λ c below. omega arith) (numbers_below commands 1 (length commands) are)

in_range : (low count number : ℕ) → Contains (range_with_len low count) number → number < low + count
in_range low zero number (k, within, is) = absurd (omega arith)
in_range low (suc count) number (zero, within, is) = let same : low ≡ number = is in omega arith
in_range low (suc count) number (suc k, within, is) =
    let less : k < length (range_with_len (low + 1) count) = omega arith in
    let below : number < (low + 1) + count = in_range (low + 1) count number (k, less, is) in omega arith

-- ---- each line answers a command that was accepted

all_parts : {A : Type 0} → (P : List A → A → Type 0) (Q : A → Type 0) (whole before rest : List A) → whole ≡ before ++ rest → Each P whole
    → ((front back : List A) (x : A) → whole ≡ front ++ x ∷ back → P front x → Q x) → AllByRecursion Q rest
all_parts P Q whole before [] split each gives = tt
all_parts P Q whole before (x ∷ rest) split each gives = (
  gives before rest x split (each before rest x split),
  all_parts P Q whole (before ++ x ∷ []) rest (split ∙ sym (append_assoc before (x ∷ []) rest)) each gives,
)

pending_few : (log before after : List LogLine) (x : LogLine) (count number : ℕ) → numbers (accepted log) ≡ range_with_len 1 count → count < 2 ^ 64
    → log ≡ before ++ x ∷ after → IsPending before number → number < 2 ^ 64
pending_few log before after x count number are few split waits =
    let parts : numbers (accepted log) ≡ numbers (accepted before) ++ numbers (accepted (x ∷ after)) =
    ap (λ ls. numbers (accepted ls)) split ∙ ap numbers (flat_map-append accepted_by before (x ∷ after))
    ∙ map-append (λ (c : Accepted). c.number) (accepted before) (accepted (x ∷ after)) in
    let there : Contains (range_with_len 1 count) number =
    subst (λ ns. Contains ns number) (sym parts ∙ are) (Contains-append_left (numbers (accepted before)) (numbers (accepted (x ∷ after))) number waits.accepted) in
    let below : number < 1 + count = in_range 1 count number there in omega arith

line_few : (log before after : List LogLine) (x : LogLine) (count : ℕ) → numbers (accepted log) ≡ range_with_len 1 count → count < 2 ^ 64
    → log ≡ before ++ x ∷ after → AnswersPending before x → IsFew x
line_few log before after (lines.Progress number mark body) count are few split waits = pending_few log before after (lines.Progress number mark body) count number are few split waits
line_few log before after (lines.Final number mark body) count are few split waits = pending_few log before after (lines.Final number mark body) count number are few split waits
line_few log before after (lines.Unknown number mark) count are few split waits = pending_few log before after (lines.Unknown number mark) count number are few split waits
line_few log before after x count are few split waits = tt

pub lines_few : (log : List LogLine) (count : ℕ) → numbers (accepted log) ≡ range_with_len 1 count → count < 2 ^ 64 → Each AnswersPending log → AllByRecursion IsFew (filter tells log)
lines_few log count are few each =
    all_filter IsFew tells log (all_parts AnswersPending IsFew log [] log refl each (λ before after x split waits. line_few log before after x count are few split waits))

-- ---- commands in two parts

pub record InParts (xs ys : List Accepted) (low : ℕ) : Type 0 where
  pub first : numbers xs ≡ range_with_len low (length xs)
  pub second : numbers ys ≡ range_with_len (low + length xs) (length ys)

pub in_parts : (xs ys : List Accepted) (low : ℕ) → numbers (xs ++ ys) ≡ range_with_len low (length (xs ++ ys)) → InParts xs ys low
in_parts [] ys low are =
    let same : low ≡ low + 0 = omega arith in
    record { first = refl; second = subst (λ n. numbers ys ≡ range_with_len n (length ys)) same are }
in_parts (x ∷ xs) ys low are =
    let head : x.number ≡ low = cc in
    let tail : numbers (xs ++ ys) ≡ range_with_len (low + 1) (length (xs ++ ys)) = cc in
    let more : InParts xs ys (low + 1) = in_parts xs ys (low + 1) tail in
    let same : (low + 1) + length xs ≡ low + length (x ∷ xs) = omega arith in
    record {
      first = ap₂ (λ n ns. n ∷ ns) head more.first;
      second = subst (λ n. numbers ys ≡ range_with_len n (length ys)) same more.second;
    }

-- the number of the command is one of these
abbrev IsNamed : List ℕ → Accepted → Type 0
IsNamed named c = list_any (λ number. number == c.number) named ≡ true

all_named : (commands : List Accepted) → AllByRecursion (IsNamed (numbers commands)) commands
all_named [] = tt
all_named (c ∷ commands) =
    let more = numbers commands in (
      ap (λ b. b || list_any (λ number. number == c.number) more) (eq-eqb c.number c.number refl),
      all_weaker (IsNamed more) (IsNamed (c.number ∷ more)) commands (λ d is. ap (λ b. (c.number == d.number) || b) is ∙ or_true (c.number == d.number)) (all_named commands),
    )

not_named : (number : ℕ) (commands : List Accepted) → AllByRecursion (λ c. c.number < number) commands → list_any (λ n. n == number) (numbers commands) ≡ false
not_named number [] below = refl
not_named number (c ∷ commands) below =
    let under : c.number < number = below.0 in
    let other : (c.number == number) ≡ false = ne_eqb c.number number (λ same. omega arith) in
    ap (λ b. b || list_any (λ n. n == number) (numbers commands)) other ∙ not_named number commands below.1

none_named : (before after : List Accepted) (bound : ℕ) → AllByRecursion (λ c. c.number < bound) before → AllByRecursion (λ c. bound ≤ c.number) after
    → AllByRecursion (λ c. list_any (λ number. number == c.number) (numbers before) ≡ false) after
none_named before after bound below above =
    all_weaker (λ c. bound ≤ c.number) (λ c. list_any (λ number. number == c.number) (numbers before) ≡ false) after
    (λ c over. not_named c.number before (all_weaker (λ d. d.number < bound) (λ d. d.number < c.number) before (λ d under. omega arith) below)) above

and_not : (a b : Bool) → b ≡ true → (a && not b) ≡ false
and_not true b is = ap not is
and_not false b is = refl

and_so : (a b : Bool) → b ≡ false → (a && not b) ≡ a
and_so true b is = ap not is
and_so false b is = refl

-- of the commands but for the first ones, by their numbers
pub left_through : (before after : List Accepted) → InParts before after 1
    → filter (λ c. goes_through c && not (list_any (λ number. number == c.number) (numbers before))) (before ++ after) ≡ filter goes_through after
left_through before after parts =
    let is_left : Accepted → Bool = λ c. goes_through c && not (list_any (λ number. number == c.number) (numbers before)) in
    let gone : filter is_left before ≡ [] =
    filter_nothing is_left before
    (all_weaker (IsNamed (numbers before)) (λ c. is_left c ≡ false) before
    (λ c is. and_not (goes_through c) (list_any (λ number. number == c.number) (numbers before)) is) (all_named before)) in
    let others =
    none_named before after (1 + length before) (numbers_below before 1 (length before) parts.first) (numbers_from after (1 + length before) (length after) parts.second) in
    let same : filter is_left after ≡ filter goes_through after =
    filter_each is_left goes_through after
    (all_weaker (λ c. list_any (λ number. number == c.number) (numbers before) ≡ false) (λ c. is_left c ≡ goes_through c) after
    (λ c is. and_so (goes_through c) (list_any (λ number. number == c.number) (numbers before)) is) others) in
    filter-append is_left before after ∙ ap₂ (λ xs ys. xs ++ ys) gone same
