-- Where the tokens of the commands count from 1, that of another command is no redirect's.
use Rattle.std.proofs.Common.{◌≡◌, ℕ, ◌+◌, ◌^◌, ◌<◌, ◌≤◌, Bool, true, false, cond, List, [], ◌∷◌, ◌++◌, length, refl, sym, ap, ◌∙◌, subst, arith, append_assoc}
use Rattle.std.specs.Prelude.{bytes_eq, decimal}
use Rattle.std.specs.List.{AllByRecursion, flat_map, list_any}
use Rattle.std.proofs.lemmas.List.Folds.{list_any-append}
use Rattle.std.proofs.lemmas.Bool.{or_from}
use Rattle.agent_node.specs.AgentLaws.{Asked, tokens}
use Rattle.channel_core.specs.Wire.{is_redirect}
use Rattle.channel_laws.specs.Numbering.{tokens_from}
use Rattle.list_laws.proofs.Numbers.{other_decimals}

-- the token of a redirect
abbrev pub redirect_of : Asked → List (List ℕ)
redirect_of c = cond (is_redirect c.service c.name) (c.token ∷ []) []

abbrev pub is_among : List ℕ → List (List ℕ) → Bool
is_among token names = list_any (λ text. bytes_eq token text) names

-- it is a redirect, or has no token of one
abbrev pub IsApart : List (List ℕ) → Asked → Type 0
IsApart redirects c = is_redirect c.service c.name ≡ false → is_among c.token redirects ≡ false

among_first : (token : List ℕ) (c : Asked) (names : List (List ℕ)) → bytes_eq token c.token ≡ false → is_among token names ≡ false → is_among token (redirect_of c ++ names) ≡ false
among_first token c names other none = by_flag (is_redirect c.service c.name)
  where
    by_flag : (flag : Bool) → is_among token (cond flag (c.token ∷ []) [] ++ names) ≡ false
    by_flag true = or_from (bytes_eq token c.token) (is_among token names) other none
    by_flag false = none

less_differs : (m n : ℕ) → m < n → m ≡ n → ⊥
less_differs m n less same = omega arith

-- a token before those of these commands
later_apart : (n next : ℕ) (commands : List Asked) → tokens commands ≡ tokens_from next (length commands) → n < next → next + length commands ≤ 2 ^ 64 → is_among (decimal n) (flat_map redirect_of commands) ≡ false
later_apart n next [] are less few = refl
later_apart n next (c ∷ commands) are less few =
    let first : c.token ≡ decimal next = cc in
    let rest : tokens commands ≡ tokens_from (next + 1) (length commands) = cc in
    let small : n < 2 ^ 64 = omega arith in
    let high : next < 2 ^ 64 = omega arith in
    let more : n < next + 1 = omega arith in
    let fits : next + 1 + length commands ≤ 2 ^ 64 = omega arith in
    among_first (decimal n) c (flat_map redirect_of commands) (ap (bytes_eq (decimal n)) first ∙ other_decimals n next small high (less_differs n next less))
    (later_apart n (next + 1) commands rest more fits)

-- these tokens are before the number
abbrev AreBefore : ℕ → List (List ℕ) → Type 0
AreBefore next names = (n : ℕ) → next ≤ n → n < 2 ^ 64 → is_among (decimal n) names ≡ false

before_more : (next : ℕ) (names : List (List ℕ)) (c : Asked) → c.token ≡ decimal next → next < 2 ^ 64 → AreBefore next names → AreBefore (next + 1) (names ++ redirect_of c)
before_more next names c is high before n low small =
    let less : next < n = omega arith in
    let there : next ≤ n = omega arith in
    let other : bytes_eq (decimal n) c.token ≡ false = ap (bytes_eq (decimal n)) is ∙ other_decimals n next small high (λ same. less_differs next n less (sym same)) in
    list_any-append (λ text. bytes_eq (decimal n) text) names (redirect_of c)
    ∙ or_from (is_among (decimal n) names) (is_among (decimal n) (redirect_of c)) (before n there small) (by_flag (is_redirect c.service c.name) other)
  where
    by_flag : (flag : Bool) → bytes_eq (decimal n) c.token ≡ false → is_among (decimal n) (cond flag (c.token ∷ []) []) ≡ false
    by_flag true other = or_from (bytes_eq (decimal n) c.token) false other refl
    by_flag false other = refl

none_first : (token : List ℕ) (c : Asked) (names : List (List ℕ)) → is_redirect c.service c.name ≡ false → is_among token names ≡ false → is_among token (redirect_of c ++ names) ≡ false
none_first token c names plain none = ap (λ b. is_among token (cond b (c.token ∷ []) [] ++ names)) plain ∙ none

each_apart : (earlier : List (List ℕ)) (next : ℕ) (commands : List Asked) → AreBefore next earlier → tokens commands ≡ tokens_from next (length commands) → next + length commands ≤ 2 ^ 64
    → AllByRecursion (IsApart (earlier ++ flat_map redirect_of commands)) commands
each_apart earlier next [] before are few = tt
each_apart earlier next (c ∷ commands) before are few =
    let first : c.token ≡ decimal next = cc in
    let rest : tokens commands ≡ tokens_from (next + 1) (length commands) = cc in
    let high : next < 2 ^ 64 = omega arith in
    let more : next < next + 1 = omega arith in
    let same : next ≤ next = omega arith in
    let fits : next + 1 + length commands ≤ 2 ^ 64 = omega arith in
    let names = flat_map redirect_of commands in
    let is_apart : is_redirect c.service c.name ≡ false → is_among (decimal next) (earlier ++ (redirect_of c ++ names)) ≡ false =
    λ plain. list_any-append (λ text. bytes_eq (decimal next) text) earlier (redirect_of c ++ names)
    ∙ or_from (is_among (decimal next) earlier) (is_among (decimal next) (redirect_of c ++ names)) (before next same high)
    (none_first (decimal next) c names plain (later_apart next (next + 1) commands rest more fits)) in (
      (λ plain. ap (λ token. is_among token (earlier ++ (redirect_of c ++ names))) first ∙ is_apart plain),
      subst (λ all. AllByRecursion (IsApart all) commands) (append_assoc earlier (redirect_of c) names)
          (each_apart (earlier ++ redirect_of c) (next + 1) commands (before_more next earlier c first high before) rest fits),
    )

pub all_apart : (commands : List Asked) → tokens commands ≡ tokens_from 1 (length commands) → length commands < 2 ^ 64 → AllByRecursion (IsApart (flat_map redirect_of commands)) commands
all_apart commands are few = let fits : 1 + length commands ≤ 2 ^ 64 = omega arith in each_apart [] 1 commands (λ n low small. refl) are fits
