-- Commands under the tokens from a number on: which is under a token, and that no two have one.
use Rattle.std.proofs.Common.{◌≡◌, ℕ, suc, ◌+◌, ◌^◌, ◌<◌, ◌≤◌, Bool, true, false, cond, List, [], ◌∷◌, ◌++◌, length, Some, refl, sym, ap, ◌∙◌, arith, append_assoc, length-append}
use Rattle.std.specs.Prelude.{bytes_eq, decimal}
use Rattle.std.specs.List.{Contains}
use Rattle.std.proofs.lemmas.Slice.Eq.{bytes_eq-Decides}
use Rattle.value_node.specs.Asked.{Asked}
use Rattle.value_node.specs.Deeds.{sent_under}
use Rattle.value_node.specs.RelayLaws.{token_below}
use Rattle.chain_told.specs.Told.{command_under, numbered}
use Rattle.chain_told.proofs.Decimals.{decimal_one}
use Rattle.chain_told.proofs.Numbered.{length_numbered, numbered_first, numbered_parts, under}
use Rattle.chain_told.proofs.Splits.{found, same_front}
use Rattle.list_laws.proofs.Lists.{equal_bytes}

pub unlike : (xs ys : List ℕ) → (xs ≡ ys → ⊥) → bytes_eq xs ys ≡ false
unlike xs ys apart = by_flag (bytes_eq xs ys) refl
  where
    by_flag : (flag : Bool) → bytes_eq xs ys ≡ flag → flag ≡ false
    by_flag true is = absurd (apart ((bytes_eq-Decides xs ys).0 is))
    by_flag false is = refl

pub differ : (m n : ℕ) → m < 10 ^ 64 → n < 10 ^ 64 → (m ≡ n → ⊥) → bytes_eq (decimal m) (decimal n) ≡ false
differ m n small other apart = unlike (decimal m) (decimal n) (λ same. apart (decimal_one m n small other same))

-- ---- The command in a place

pub below_at : (next : ℕ) (xs : List Asked) (c : Asked) (ys : List Asked) → next + length xs < 10 ^ 64 → token_below next (decimal (next + length xs)) (xs ++ c ∷ ys) ≡ c.token
below_at next [] c ys small =
    let here : next + 0 ≡ next = omega arith in
    ap (λ b. cond b c.token (token_below (next + 1) (decimal (next + 0)) ys)) (equal_bytes (decimal (next + 0)) (decimal next) (ap (λ k. decimal k) here))
below_at next (d ∷ xs) c ys small =
    let moved : next + suc (length xs) ≡ (next + 1) + length xs = omega arith in
    ap (λ b. cond b d.token (token_below (next + 1) (decimal (next + suc (length xs))) (xs ++ c ∷ ys))) (differ (next + suc (length xs)) next small (omega arith) (λ is. omega arith))
    ∙ ap (λ k. token_below (next + 1) (decimal k) (xs ++ c ∷ ys)) moved ∙ below_at (next + 1) xs c ys (omega arith)

pub sent_at : (next : ℕ) (xs : List Asked) (c : Asked) (ys : List Asked) → next + length xs < 10 ^ 64 → sent_under next (decimal (next + length xs)) (xs ++ c ∷ ys) ≡ Some c
sent_at next [] c ys small =
    let here : next + 0 ≡ next = omega arith in
    ap (λ b. cond b (Some c) (sent_under (next + 1) (decimal (next + 0)) ys)) (equal_bytes (decimal (next + 0)) (decimal next) (ap (λ k. decimal k) here))
sent_at next (d ∷ xs) c ys small =
    let moved : next + suc (length xs) ≡ (next + 1) + length xs = omega arith in
    ap (λ b. cond b (Some d) (sent_under (next + 1) (decimal (next + suc (length xs))) (xs ++ c ∷ ys))) (differ (next + suc (length xs)) next small (omega arith) (λ is. omega arith))
    ∙ ap (λ k. sent_under (next + 1) (decimal k) (xs ++ c ∷ ys)) moved ∙ sent_at (next + 1) xs c ys (omega arith)

pub under_at : (next : ℕ) (xs : List Asked) (c : Asked) (ys : List Asked) → next + length xs < 10 ^ 64
    → command_under (decimal (next + length xs)) (numbered next (xs ++ c ∷ ys)) ≡ Some (under (next + length xs) c)
under_at next [] c ys small =
    let here : next + 0 ≡ next = omega arith in
    ap (λ b. cond b (Some (under next c)) (command_under (decimal (next + 0)) (numbered (next + 1) ys))) (equal_bytes (decimal (next + 0)) (decimal next) (ap (λ k. decimal k) here))
    ∙ ap (λ k. Some (under k c)) (sym here)
under_at next (d ∷ xs) c ys small =
    let moved : next + suc (length xs) ≡ (next + 1) + length xs = omega arith in
    ap (λ b. cond b (Some (under next d)) (command_under (decimal (next + suc (length xs))) (numbered (next + 1) (xs ++ c ∷ ys)))) (differ (next + suc (length xs)) next small (omega arith) (λ is. omega arith))
    ∙ ap (λ k. command_under (decimal k) (numbered (next + 1) (xs ++ c ∷ ys))) moved ∙ under_at (next + 1) xs c ys (omega arith) ∙ ap (λ k. Some (under k c)) (sym moved)

-- ---- One of all commands

pub record IsPlaced (commands xs : List Asked) (c : Asked) : Type 0 where
  pub token : c.token ≡ decimal (1 + length xs)
  pub within : 1 + length xs ≤ length commands
  pub found : command_under c.token (numbered 1 commands) ≡ Some c

pub placed : (commands xs : List Asked) (c : Asked) (ys : List Asked) → length commands < 10 ^ 64 → numbered 1 commands ≡ xs ++ c ∷ ys → IsPlaced commands xs c
placed commands xs c ys few are =
    let p = numbered_parts 1 xs (c ∷ ys) commands are in
    let one = numbered_first (1 + length p.front) p.behind c ys (sym p.others) in
    let long : length xs ≡ length p.front = ap length p.first ∙ length_numbered 1 p.front in
    let many : length commands ≡ length p.front + suc (length one.rest) = ap length (p.are ∙ ap (λ zs. p.front ++ zs) one.are) ∙ length-append p.front (one.first ∷ one.rest) in
    let token : c.token ≡ decimal (1 + length p.front) = ap (λ x. x.token) one.is in
    let small : 1 + length p.front < 10 ^ 64 = omega arith in
    let whole : numbered 1 commands ≡ numbered 1 (p.front ++ one.first ∷ one.rest) = ap (λ zs. numbered 1 zs) (p.are ∙ ap (λ zs. p.front ++ zs) one.are) in
    record {
      token = token ∙ ap (λ n. decimal (1 + n)) (sym long);
      within = omega arith;
      found = ap (λ t. command_under t (numbered 1 commands)) token ∙ ap (λ zs. command_under (decimal (1 + length p.front)) zs) whole ∙ under_at 1 p.front one.first one.rest small ∙ ap (λ z. Some z) (sym one.is);
    }

-- two of one token are in one place
pub same_place : (commands xs : List Asked) (c : Asked) (ys xs' : List Asked) (c' : Asked) (ys' : List Asked) → length commands < 10 ^ 64
    → numbered 1 commands ≡ xs ++ c ∷ ys → numbered 1 commands ≡ xs' ++ c' ∷ ys' → c.token ≡ c'.token → xs ≡ xs'
same_place commands xs c ys xs' c' ys' few are are' same =
    let p = placed commands xs c ys few are in
    let p' = placed commands xs' c' ys' few are' in
    let within : 1 + length xs ≤ length commands = p.within in
    let within' : 1 + length xs' ≤ length commands = p'.within in
    let one : 1 + length xs ≡ 1 + length xs' = decimal_one (1 + length xs) (1 + length xs') (omega arith) (omega arith) (sym p.token ∙ same ∙ p'.token) in
    same_front xs (c ∷ ys) xs' (c' ∷ ys') (sym are ∙ are') (omega arith)

-- one of the first and one of the others have different tokens
pub apart : (commands xs ys : List Asked) (c d : Asked) → length commands < 10 ^ 64 → numbered 1 commands ≡ xs ++ ys → Contains xs c → Contains ys d → c.token ≡ d.token → ⊥
apart commands xs ys c d few are first other same =
    let s = found xs c first in
    let t = found ys d other in
    let one : numbered 1 commands ≡ s.front ++ c ∷ (s.back ++ ys) = are ∙ ap (λ zs. zs ++ ys) s.are ∙ append_assoc s.front (c ∷ s.back) ys in
    let two : numbered 1 commands ≡ (xs ++ t.front) ++ d ∷ t.back = are ∙ ap (λ zs. xs ++ zs) t.are ∙ sym (append_assoc xs t.front (d ∷ t.back)) in
    let front : s.front ≡ xs ++ t.front = same_place commands s.front c (s.back ++ ys) (xs ++ t.front) d t.back few one two same in
    let long : length xs ≡ length s.front + suc (length s.back) = ap length s.are ∙ length-append s.front (c ∷ s.back) in
    let short : length s.front ≡ length xs + length t.front = ap length front ∙ length-append xs t.front in
    omega arith
