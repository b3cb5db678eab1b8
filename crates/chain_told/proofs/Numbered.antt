-- Commands under the tokens from a number on, and the tokens that they have below.
use Rattle.std.proofs.Common.{◌≡◌, ℕ, zero, suc, ◌+◌, ◌-◌, ◌^◌, ◌<◌, ◌≤◌, Bool, true, false, cond, List, [], ◌∷◌, ◌++◌, length, refl, sym, ap, ◌∙◌, arith}
use Rattle.std.specs.Prelude.{bytes_eq, decimal}
use Rattle.std.proofs.lemmas.Slice.Eq.{bytes_eq-Decides}
use Rattle.value_node.specs.Asked.{Asked}
use Rattle.value_node.specs.RelayLaws.{token_below}
use Rattle.chain_told.specs.Told.{numbered}
use Rattle.chain_told.proofs.Decimals.{decimal_one}

abbrev pub under : ℕ → Asked → Asked
under token c = record c { token = decimal token }

pub length_numbered : (n : ℕ) (commands : List Asked) → length (numbered n commands) ≡ length commands
length_numbered n [] = refl
length_numbered n (c ∷ commands) = ap suc (length_numbered (n + 1) commands)

pub numbered_again : (n k : ℕ) (commands : List Asked) → numbered n (numbered k commands) ≡ numbered n commands
numbered_again n k [] = refl
numbered_again n k (c ∷ commands) = ap (λ xs. under n c ∷ xs) (numbered_again (n + 1) (k + 1) commands)

pub numbered_append : (n : ℕ) (commands more : List Asked) → numbered n (commands ++ more) ≡ numbered n commands ++ numbered (n + length commands) more
numbered_append n [] more = let same : n ≡ n + 0 = omega arith in ap (λ k. numbered k more) same
numbered_append n (c ∷ commands) more =
    let same : (n + 1) + length commands ≡ n + suc (length commands) = omega arith in
    ap (λ xs. under n c ∷ xs) (numbered_append (n + 1) commands more ∙ ap (λ k. numbered (n + 1) commands ++ numbered k more) same)

-- the first command, and those behind it
pub record IsFirst (n : ℕ) (commands : List Asked) (c : Asked) (next : List Asked) : Type 0 where
  pub first : Asked
  pub rest : List Asked
  pub are : commands ≡ first ∷ rest
  pub is : c ≡ under n first
  pub others : next ≡ numbered (n + 1) rest

pub numbered_first : (n : ℕ) (commands : List Asked) (c : Asked) (next : List Asked) → numbered n commands ≡ c ∷ next → IsFirst n commands c next
numbered_first n [] c next same = absurd cc
numbered_first n (d ∷ commands) c next same =
    let whole : under n d ∷ numbered (n + 1) commands ≡ c ∷ next = same in
    let one : c ≡ under n d = cc in
    let tails : next ≡ numbered (n + 1) commands = cc in
    record { first = d; rest = commands; are = refl; is = one; others = tails }

-- the first of them, and the others
pub record AreParts (n : ℕ) (xs ys commands : List Asked) : Type 0 where
  pub front : List Asked
  pub behind : List Asked
  pub are : commands ≡ front ++ behind
  pub first : xs ≡ numbered n front
  pub others : ys ≡ numbered (n + length front) behind

pub numbered_parts : (n : ℕ) (xs ys commands : List Asked) → numbered n commands ≡ xs ++ ys → AreParts n xs ys commands
numbered_parts n [] ys commands same =
    let none : n ≡ n + 0 = omega arith in record { front = []; behind = commands; are = refl; first = refl; others = sym same ∙ ap (λ k. numbered k commands) none }
numbered_parts n (x ∷ xs) ys commands same =
    let f = numbered_first n commands x (xs ++ ys) same in
    let rest = numbered_parts (n + 1) xs ys f.rest (sym f.others) in
    let next : (n + 1) + length rest.front ≡ n + suc (length rest.front) = omega arith in
    record {
      front = f.first ∷ rest.front;
      behind = rest.behind;
      are = f.are ∙ ap (λ zs. f.first ∷ zs) rest.are;
      first = ap (λ z. z ∷ xs) f.is ∙ ap (λ zs. under n f.first ∷ zs) rest.first;
      others = rest.others ∙ ap (λ k. numbered k rest.behind) next;
    }

-- two of them, one behind the other
pub record AreNext (c d : Asked) : Type 0 where
  pub number : ℕ
  pub first : c.token ≡ decimal number
  pub second : d.token ≡ decimal (number + 1)

pub numbered_next : (n : ℕ) (commands before : List Asked) (c d : Asked) → numbered n commands ≡ before ++ c ∷ d ∷ [] → AreNext c d
numbered_next n commands before c d same =
    let p = numbered_parts n before (c ∷ d ∷ []) commands same in
    let one = numbered_first (n + length p.front) p.behind c (d ∷ []) (sym p.others) in
    let two = numbered_first ((n + length p.front) + 1) one.rest d [] (sym one.others) in
    record { number = n + length p.front; first = ap (λ x. x.token) one.is; second = ap (λ x. x.token) two.is }

-- ---- The tokens that they have below

-- the command in this place has its own
token_numbered : (next from n : ℕ) (commands : List Asked) → n < length commands → next + n < 10 ^ 64 → token_below next (decimal (next + n)) (numbered from commands) ≡ decimal (from + n)
token_numbered next from n [] within small = absurd (omega arith)
token_numbered next from zero (c ∷ commands) within small =
    let here : next + 0 ≡ next = omega arith in
    let place : from ≡ from + 0 = omega arith in
    let same : bytes_eq (decimal (next + 0)) (decimal next) ≡ true = (bytes_eq-Decides (decimal (next + 0)) (decimal next)).1 (ap (λ k. decimal k) here) in
    ap (λ b. cond b (decimal from) (token_below (next + 1) (decimal (next + 0)) (numbered (from + 1) commands))) same ∙ ap (λ k. decimal k) place
token_numbered next from (suc n) (c ∷ commands) within small =
    let moved : next + suc n ≡ (next + 1) + n = omega arith in
    let place : (from + 1) + n ≡ from + suc n = omega arith in
    let within_rest : n < length commands = omega arith in
    let small_rest : (next + 1) + n < 10 ^ 64 = omega arith in
    ap (λ b. cond b (decimal from) (token_below (next + 1) (decimal (next + suc n)) (numbered (from + 1) commands))) (differs (bytes_eq (decimal (next + suc n)) (decimal next)) refl)
    ∙ ap (λ k. token_below (next + 1) (decimal k) (numbered (from + 1) commands)) moved ∙ token_numbered (next + 1) (from + 1) n commands within_rest small_rest ∙ ap (λ k. decimal k) place
  where
    differs : (flag : Bool) → bytes_eq (decimal (next + suc n)) (decimal next) ≡ flag → flag ≡ false
    differs true is =
        let same : next + suc n ≡ next = decimal_one (next + suc n) next small (omega arith) ((bytes_eq-Decides (decimal (next + suc n)) (decimal next)).0 is) in
        absurd (omega arith)
    differs false is = refl

pub token_at : (shift k : ℕ) (commands : List Asked) → 0 < k → k ≤ length commands → k < 10 ^ 64 → token_below 1 (decimal k) (numbered (shift + 1) commands) ≡ decimal (shift + k)
token_at shift k commands some within small =
    let here : k ≡ 1 + (k - 1) = omega arith in
    let place : (shift + 1) + (k - 1) ≡ shift + k = omega arith in
    let within_it : k - 1 < length commands = omega arith in
    let small_it : 1 + (k - 1) < 10 ^ 64 = omega arith in
    ap (λ n. token_below 1 (decimal n) (numbered (shift + 1) commands)) here ∙ token_numbered 1 (shift + 1) (k - 1) commands within_it small_it ∙ ap (λ n. decimal n) place

-- where they are numbered below as above, each token stays
pub token_same : (next : ℕ) (token : List ℕ) (commands : List Asked) → token_below next token (numbered next commands) ≡ token
token_same next token [] = refl
token_same next token (c ∷ commands) = by_flag (bytes_eq token (decimal next)) refl (token_same (next + 1) token commands)
  where
    by_flag : (flag : Bool) → bytes_eq token (decimal next) ≡ flag → token_below (next + 1) token (numbered (next + 1) commands) ≡ token
        → cond flag (decimal next) (token_below (next + 1) token (numbered (next + 1) commands)) ≡ token
    by_flag true is rest = sym ((bytes_eq-Decides token (decimal next)).0 is)
    by_flag false is rest = rest
