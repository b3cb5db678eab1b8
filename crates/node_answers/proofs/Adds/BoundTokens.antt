-- Commands under the tokens from a number on: which one a token names.
use Rattle.std.proofs.Common.{◌≡◌, ℕ, zero, suc, ◌+◌, ◌-◌, ◌^◌, ◌<◌, ◌≤◌, true, cond, ◌&&◌, List, [], ◌∷◌, ◌++◌, length, refl, sym, ap, ◌∙◌, arith, append_assoc}
use Rattle.std.specs.Prelude.{bytes_eq, decimal}
use Rattle.std.specs.List.{AllByRecursion, list_any}
use Rattle.std.proofs.lemmas.Bool.{or_left, or_right}
use Rattle.channel_core.specs.Wire.{is_redirect}
use Rattle.value_node.specs.Asked.{Asked}
use Rattle.value_node.specs.RelayLaws.{token_below}
use Rattle.value_node.proofs.Holding.{issued_from}
use Rattle.node_answers.proofs.Adds.Apart.{AreApart, same_asked, tokens_of}
use Rattle.node_answers.proofs.Adds.Taken.{redirects_of}
use Rattle.node_answers.proofs.Adds.WhileUnbound.{redirect_found}
use Rattle.list_laws.proofs.Numbers.{other_decimals}
use Rattle.list_laws.proofs.Lists.{equal_bytes}

-- ---- A token of a redirect names that redirect

-- where its token is one of these, it is a redirect
abbrev pub RedirectsWhereNamed : List (List ℕ) → Asked → Type 0
RedirectsWhereNamed tokens c = list_any (λ text. bytes_eq c.token text) tokens ≡ true → is_redirect c.service c.name ≡ true

each_from : (commands front rest : List Asked) → AreApart (tokens_of commands) → commands ≡ front ++ rest → AllByRecursion (RedirectsWhereNamed (redirects_of commands)) rest
each_from commands front [] apart are = tt
each_from commands front (c ∷ rest) apart are = (
  λ named.
      let found = redirect_found c.token commands named in
      let one : c ≡ found.command = same_asked commands front c rest found.command apart are found.has found.same in
      ap (λ (x : Asked). is_redirect x.service x.name) one ∙ found.asks,
  each_from commands (front ++ c ∷ []) rest apart (are ∙ sym (append_assoc front (c ∷ []) rest)),
)

pub each_redirects : (commands : List Asked) → AreApart (tokens_of commands) → AllByRecursion (RedirectsWhereNamed (redirects_of commands)) commands
each_redirects commands apart = each_from commands [] commands apart refl

-- ---- The command of a number

pub record IsAt (first : ℕ) (commands : List Asked) (number : ℕ) : Type 0 where
  pub front : List Asked
  pub command : Asked
  pub back : List Asked
  pub are : commands ≡ front ++ command ∷ back
  pub place : number ≡ first + length front

record IsSplit (commands : List Asked) (count : ℕ) : Type 0 where
  front : List Asked
  command : Asked
  back : List Asked
  are : commands ≡ front ++ command ∷ back
  place : length front ≡ count

split_at : (count : ℕ) (commands : List Asked) → count < length commands → IsSplit commands count
split_at count [] within = absurd (omega arith)
split_at zero (c ∷ commands) within = record { front = []; command = c; back = commands; are = refl; place = refl }
split_at (suc count) (c ∷ commands) within =
    let most : suc count < suc (length commands) = within in
    let rest = split_at count commands (omega arith) in
    record { front = c ∷ rest.front; command = rest.command; back = rest.back; are = ap (λ cs. c ∷ cs) rest.are; place = ap suc rest.place }

pub is_at : (first : ℕ) (commands : List Asked) (number : ℕ) → first ≤ number → number < first + length commands → IsAt first commands number
is_at first commands number low high =
    let s = split_at (number - first) commands (omega arith) in
    let place : length s.front ≡ number - first = s.place in
    record { front = s.front; command = s.command; back = s.back; are = s.are; place = omega arith }

-- two of one place are one
pub one_place : (front : List Asked) (c : Asked) (back front' : List Asked) (c' : Asked) (back' : List Asked) → front ++ c ∷ back ≡ front' ++ c' ∷ back' → length front ≡ length front' → c ≡ c'
one_place [] c back [] c' back' same long = cc
one_place [] c back (d ∷ front') c' back' same long = absurd (omega arith)
one_place (d ∷ front) c back [] c' back' same long = absurd (omega arith)
one_place (d ∷ front) c back (d' ∷ front') c' back' same long =
    let whole : d ∷ (front ++ c ∷ back) ≡ d' ∷ (front' ++ c' ∷ back') = same in
    let tails : front ++ c ∷ back ≡ front' ++ c' ∷ back' = cc in
    let most : suc (length front) ≡ suc (length front') = long in
    one_place front c back front' c' back' tails (omega arith)

-- it has its own token below
pub below_at : (first : ℕ) (front : List Asked) (c : Asked) (back : List Asked) → first + length front < 2 ^ 64 → token_below first (decimal (first + length front)) (front ++ c ∷ back) ≡ c.token
below_at first [] c back small =
    let here : first + 0 ≡ first = omega arith in
    ap (λ b. cond b c.token (token_below (first + 1) (decimal (first + 0)) back)) (equal_bytes (decimal (first + 0)) (decimal first) (ap (λ k. decimal k) here))
below_at first (d ∷ front) c back small =
    let few : first + suc (length front) < 2 ^ 64 = small in
    let moved : first + suc (length front) ≡ (first + 1) + length front = omega arith in
    ap (λ b. cond b d.token (token_below (first + 1) (decimal (first + suc (length front))) (front ++ c ∷ back))) (other_decimals (first + suc (length front)) first few (omega arith) (λ is. omega arith))
    ∙ ap (λ k. token_below (first + 1) (decimal k) (front ++ c ∷ back)) moved ∙ below_at (first + 1) front c back (omega arith)

-- and where it is a redirect it was sent above as one
pub issued_at : (first : ℕ) (front : List Asked) (c : Asked) (back : List Asked) (token : List ℕ) → token ≡ decimal (first + length front) → is_redirect c.service c.name ≡ true
    → list_any (λ i. i.command.is_redirect && bytes_eq token (decimal i.command.token)) (issued_from first (front ++ c ∷ back)) ≡ true
issued_at first [] c back token is redirects =
    let here : first + 0 ≡ first = omega arith in
    let same : bytes_eq token (decimal first) ≡ true = equal_bytes token (decimal first) (is ∙ ap (λ k. decimal k) here) in
    or_left (is_redirect c.service c.name && bytes_eq token (decimal first)) _ (ap (λ b. b && bytes_eq token (decimal first)) redirects ∙ same)
issued_at first (d ∷ front) c back token is redirects =
    let moved : first + suc (length front) ≡ (first + 1) + length front = omega arith in
    or_right (is_redirect d.service d.name && bytes_eq token (decimal first)) _ (issued_at (first + 1) front c back token (is ∙ ap (λ k. decimal k) moved) redirects)
