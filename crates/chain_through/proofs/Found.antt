-- Commands found under their tokens, where these count up.
use Rattle.std.proofs.Common.{◌≡◌, ℕ, suc, ◌+◌, ◌^◌, ◌<◌, ◌≤◌, Bool, true, false, cond, List, [], ◌∷◌, ◌++◌, length, Some, refl, sym, ap, ◌∙◌, arith, length-append}
use Rattle.std.specs.Prelude.{bytes_eq, decimal, option_and_then}
use Rattle.std.proofs.lemmas.Slice.Eq.{bytes_eq-Decides}
use Rattle.value_node.specs.Asked.{Asked}
use Rattle.value_node.specs.Deeds.{command_asked, sent_under}
use Rattle.value_node.specs.RelayLaws.{token_below}
use Rattle.chain_told.specs.Told.{command_under, numbered}
use Rattle.chain_told.proofs.Decimals.{decimal_one}
use Rattle.chain_told.proofs.Numbered.{length_numbered, numbered_first, numbered_parts, under}

-- ---- The command that is found

pub found_more : (token : List ℕ) (commands more : List Asked) (c : Asked) → command_under token commands ≡ Some c → command_under token (commands ++ more) ≡ Some c
found_more token [] more c is = absurd cc
found_more token (d ∷ commands) more c is = by_flag (bytes_eq token d.token) is (found_more token commands more c)
  where
    by_flag : (flag : Bool) → cond flag (Some d) (command_under token commands) ≡ Some c → (command_under token commands ≡ Some c → command_under token (commands ++ more) ≡ Some c)
        → cond flag (Some d) (command_under token (commands ++ more)) ≡ Some c
    by_flag true is rest = is
    by_flag false is rest = rest is

pub found_token : (token : List ℕ) (commands : List Asked) (c : Asked) → command_under token commands ≡ Some c → token ≡ c.token
found_token token [] c is = absurd cc
found_token token (d ∷ commands) c is = by_flag (bytes_eq token d.token) refl is (found_token token commands c)
  where
    by_flag : (flag : Bool) → bytes_eq token d.token ≡ flag → cond flag (Some d) (command_under token commands) ≡ Some c → (command_under token commands ≡ Some c → token ≡ c.token) → token ≡ c.token
    by_flag true same is rest = let one : d ≡ c = cc in (bytes_eq-Decides token d.token).0 same ∙ ap (λ x. x.token) one
    by_flag false same is rest = rest is

-- its number
pub record IsNumbered (low count : ℕ) (token : List ℕ) : Type 0 where
  pub number : ℕ
  pub is : token ≡ decimal number
  pub from : low ≤ number
  pub below : number < low + count

pub found_number : (low : ℕ) (token : List ℕ) (commands : List Asked) (c : Asked) → command_under token (numbered low commands) ≡ Some c → IsNumbered low (length commands) token
found_number low token [] c is = absurd cc
found_number low token (d ∷ commands) c is = by_flag (bytes_eq token (decimal low)) refl is (found_number (low + 1) token commands c)
  where
    by_flag : (flag : Bool) → bytes_eq token (decimal low) ≡ flag → cond flag (Some (under low d)) (command_under token (numbered (low + 1) commands)) ≡ Some c
        → (command_under token (numbered (low + 1) commands) ≡ Some c → IsNumbered (low + 1) (length commands) token) → IsNumbered low (suc (length commands)) token
    by_flag true same is rest = record { number = low; is = (bytes_eq-Decides token (decimal low)).0 same; from = omega arith; below = omega arith }
    by_flag false same is rest =
        let r = rest is in
        let from : low + 1 ≤ r.number = r.from in
        let below : r.number < (low + 1) + length commands = r.below in
        record { number = r.number; is = r.is; from = omega arith; below = omega arith }

-- the one in a place is found under its number
pub found_at : (low : ℕ) (before after : List Asked) (c : Asked) → low + length before < 10 ^ 64
    → command_under (decimal (low + length before)) (numbered low (before ++ c ∷ after)) ≡ Some (under (low + length before) c)
found_at low [] after c small =
    let none : low + 0 ≡ low = omega arith in
    let same : bytes_eq (decimal (low + 0)) (decimal low) ≡ true = (bytes_eq-Decides (decimal (low + 0)) (decimal low)).1 (ap (λ n. decimal n) none) in
    ap (λ b. cond b (Some (under low c)) (command_under (decimal (low + 0)) (numbered (low + 1) after))) same ∙ ap (λ n. Some (under n c)) (sym none)
found_at low (d ∷ before) after c small =
    let moved : low + suc (length before) ≡ (low + 1) + length before = omega arith in
    let small_rest : (low + 1) + length before < 10 ^ 64 = omega arith in
    ap (λ b. cond b (Some (under low d)) (command_under (decimal (low + suc (length before))) (numbered (low + 1) (before ++ c ∷ after))))
    (differs (bytes_eq (decimal (low + suc (length before))) (decimal low)) refl)
    ∙ ap (λ n. command_under (decimal n) (numbered (low + 1) (before ++ c ∷ after))) moved
    ∙ found_at (low + 1) before after c small_rest ∙ ap (λ n. Some (under n c)) (sym moved)
  where
    differs : (flag : Bool) → bytes_eq (decimal (low + suc (length before))) (decimal low) ≡ flag → flag ≡ false
    differs true is =
        let same : low + suc (length before) ≡ low = decimal_one (low + suc (length before)) low small (omega arith) ((bytes_eq-Decides (decimal (low + suc (length before))) (decimal low)).0 is) in
        absurd (omega arith)
    differs false is = refl

-- ---- A number of so many is no other token

pub not_first : (token : List ℕ) (low k : ℕ) → token ≡ decimal k → bytes_eq token (decimal low) ≡ false → k ≡ low → ⊥
not_first token low k is differs same =
    let yes : bytes_eq token (decimal low) ≡ true = (bytes_eq-Decides token (decimal low)).1 (is ∙ ap (λ n. decimal n) same) in
    absurd cc

-- the token below is found among the first commands
pub below_more : (next k : ℕ) (token : List ℕ) (commands more : List Asked) → token ≡ decimal k → next ≤ k → k < next + length commands
    → token_below next token (commands ++ more) ≡ token_below next token commands
below_more next k token [] more is from within = absurd (omega arith)
below_more next k token (c ∷ commands) more is from within = by_flag (bytes_eq token (decimal next)) refl (below_more (next + 1) k token commands more is)
  where
    by_flag : (flag : Bool) → bytes_eq token (decimal next) ≡ flag
        → (next + 1 ≤ k → k < (next + 1) + length commands → token_below (next + 1) token (commands ++ more) ≡ token_below (next + 1) token commands)
        → cond flag c.token (token_below (next + 1) token (commands ++ more)) ≡ cond flag c.token (token_below (next + 1) token commands)
    by_flag true same rest = refl
    by_flag false same rest = let other : k ≡ next → ⊥ = not_first token next k is same in rest (omega arith) (omega arith)

-- and so is the command that was sent under the token
pub asked_same : (next k : ℕ) (token : List ℕ) (commands more : List Asked) → token ≡ decimal k → next ≤ k → k < next + length commands
    → option_and_then command_asked (sent_under next token commands) ≡ option_and_then command_asked (command_under token (numbered next (commands ++ more)))
asked_same next k token [] more is from within = absurd (omega arith)
asked_same next k token (c ∷ commands) more is from within = by_flag (bytes_eq token (decimal next)) refl (asked_same (next + 1) k token commands more is)
  where
    by_flag : (flag : Bool) → bytes_eq token (decimal next) ≡ flag
        → (next + 1 ≤ k → k < (next + 1) + length commands
        → option_and_then command_asked (sent_under (next + 1) token commands) ≡ option_and_then command_asked (command_under token (numbered (next + 1) (commands ++ more))))
        → option_and_then command_asked (cond flag (Some c) (sent_under (next + 1) token commands))
        ≡ option_and_then command_asked (cond flag (Some (under next c)) (command_under token (numbered (next + 1) (commands ++ more))))
    by_flag true same rest = refl
    by_flag false same rest = let other : k ≡ next → ⊥ = not_first token next k is same in rest (omega arith) (omega arith)

-- ---- Places

pub split_within : {A : Type 0} → (xs ys earlier : List A) (x : A) (later : List A) → xs ++ ys ≡ earlier ++ x ∷ later → length earlier < length xs → (rest : List A) × (xs ≡ earlier ++ x ∷ rest)
split_within [] ys earlier x later same within = absurd (omega arith)
split_within (a ∷ xs) ys [] x later same within =
    let whole : a ∷ (xs ++ ys) ≡ x ∷ later = same in
    let one : a ≡ x = cc in
    (xs, ap (λ z. z ∷ xs) one)
split_within (a ∷ xs) ys (b ∷ earlier) x later same within =
    let whole : a ∷ (xs ++ ys) ≡ b ∷ (earlier ++ x ∷ later) = same in
    let one : a ≡ b = cc in
    let tails : xs ++ ys ≡ earlier ++ x ∷ later = cc in
    let rest = split_within xs ys earlier x later tails (omega arith) in
    (rest.0, ap (λ z. z ∷ xs) one ∙ ap (λ zs. b ∷ zs) rest.1)

-- the number of commands before the one with this token
pub place_of : (k : ℕ) (commands earlier later : List Asked) (c : Asked) → length commands < 10 ^ 64 → k < 10 ^ 64 → numbered 1 commands ≡ earlier ++ c ∷ later → c.token ≡ decimal k → 1 + length earlier ≡ k
place_of k commands earlier later c few small same token =
    let p = numbered_parts 1 earlier (c ∷ later) commands same in
    let f = numbered_first (1 + length p.front) p.behind c later (sym p.others) in
    let many : length earlier ≡ length p.front = ap length p.first ∙ length_numbered 1 p.front in
    let whole : length commands ≡ length p.front + length p.behind = ap length p.are ∙ length-append p.front p.behind in
    let some : length p.behind ≡ suc (length f.rest) = ap length f.are in
    let one : decimal (1 + length p.front) ≡ decimal k = sym (ap (λ x. x.token) f.is) ∙ token in
    let little : 1 + length p.front < 10 ^ 64 = omega arith in
    let number : 1 + length p.front ≡ k = decimal_one (1 + length p.front) k little (omega arith) one in
    omega arith
