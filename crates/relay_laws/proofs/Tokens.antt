-- Commands by their tokens, and what messages teach of them when more commands are there.
use Rattle.std.proofs.Common.{◌≡◌, ℕ, zero, suc, Bool, true, false, true≢false, cond, List, [], ◌∷◌, ◌++◌, slice_get, Some, is_some, refl, sym, ap, ap₂, ◌∙◌, arith}
use Rattle.std.specs.Prelude.{bytes_eq, option_and_then}
use Rattle.std.specs.List.{AllByRecursion}
use Rattle.channel_core.specs.Arrivals.{Spoken}
use Rattle.tcf_message.specs.Message.{MessageValue, command, event, final, flow, not_known, progress}
use Rattle.value_node.specs.Asked.{Asked}
use Rattle.value_node.specs.Deeds.{command_asked}
use Rattle.value_node.specs.Store.{lesson_of}
use Rattle.chain_told.specs.Told.{command_under, lesson, lessons}
use Rattle.relay_laws.specs.Relay.{HaveOwnTokens}
use Rattle.list_laws.proofs.Lists.{equal_by, equal_bytes}

pub get_more : {A : Type 0} → (xs ys : List A) (i : ℕ) (x : A) → slice_get xs i ≡ Some x → slice_get (xs ++ ys) i ≡ Some x
get_more [] ys i x is = absurd cc
get_more (y ∷ xs) ys zero x is = is
get_more (y ∷ xs) ys (suc i) x is = get_more xs ys i x is

-- ---- The command of a token

pub tokens_front : (commands more : List Asked) → HaveOwnTokens (commands ++ more) → HaveOwnTokens commands
tokens_front commands more own i k c d one other same = own i k c d (get_more commands more i c one) (get_more commands more k d other) same

under_at : (commands : List Asked) (i : ℕ) (c : Asked) → slice_get commands i ≡ Some c → ((k : ℕ) (d : Asked) → slice_get commands k ≡ Some d → c.token ≡ d.token → i ≡ k)
    → command_under c.token commands ≡ Some c
under_at [] i c is only = absurd cc
under_at (d ∷ commands) zero c is only =
    let one : d ≡ c = cc in
    ap (λ b. cond b (Some d) (command_under c.token commands)) (equal_bytes c.token d.token (sym (ap (λ (x : Asked). x.token) one))) ∙ ap (λ x. Some x) one
under_at (d ∷ commands) (suc i) c is only =
    by_flag (bytes_eq c.token d.token) refl (under_at commands i c is (λ k e there token_is. let next : suc i ≡ suc k = only (suc k) e there token_is in omega arith))
  where
    by_flag : (flag : Bool) → bytes_eq c.token d.token ≡ flag → command_under c.token commands ≡ Some c → cond flag (Some d) (command_under c.token commands) ≡ Some c
    by_flag true same rest = let none : suc i ≡ 0 = only 0 d refl (equal_by c.token d.token same) in absurd (omega arith)
    by_flag false same rest = rest

pub own_under : (commands : List Asked) (i : ℕ) (c : Asked) → HaveOwnTokens commands → slice_get commands i ≡ Some c → command_under c.token commands ≡ Some c
own_under commands i c own is = under_at commands i c is (λ k d there same. own i k c d is there same)

under_more : (token : List ℕ) (commands more : List Asked) → is_some (command_under token commands) ≡ true → command_under token (commands ++ more) ≡ command_under token commands
under_more token [] more is = absurd (true≢false (sym is))
under_more token (c ∷ commands) more is = by_flag (bytes_eq token c.token) (under_more token commands more) is
  where
    by_flag : (flag : Bool) → (is_some (command_under token commands) ≡ true → command_under token (commands ++ more) ≡ command_under token commands)
        → is_some (cond flag (Some c) (command_under token commands)) ≡ true
        → cond flag (Some c) (command_under token (commands ++ more)) ≡ cond flag (Some c) (command_under token commands)
    by_flag true rest is = refl
    by_flag false rest is = rest is

-- ---- Answers to commands that are there

abbrev pub IsFound : List Asked → MessageValue → Type 0
IsFound commands (final token body) = is_some (command_under token commands) ≡ true
IsFound commands _ = Unit {0}

abbrev pub AreFound : List Asked → List Spoken → Type 0
AreFound commands told = AllByRecursion (λ s. IsFound commands s.message) told

lesson_more : (commands more : List Asked) (message : MessageValue) → IsFound commands message → lesson (commands ++ more) message ≡ lesson commands message
lesson_more commands more (command token service name body) found = refl
lesson_more commands more (final token body) found = ap (λ o. lesson_of (option_and_then command_asked o) body ∷ []) (under_more token commands more found)
lesson_more commands more (progress token body) found = refl
lesson_more commands more (not_known token) found = refl
lesson_more commands more (event service name body) found = refl
lesson_more commands more (flow level) found = refl

pub lessons_more : (commands more : List Asked) (told : List Spoken) → AreFound commands told → lessons (commands ++ more) told ≡ lessons commands told
lessons_more commands more [] found = refl
lessons_more commands more (s ∷ told) found = ap₂ (λ xs ys. xs ++ ys) (lesson_more commands more s.message found.0) (lessons_more commands more told found.1)

found_more : (commands more : List Asked) (message : MessageValue) → IsFound commands message → IsFound (commands ++ more) message
found_more commands more (command token service name body) found = tt
found_more commands more (final token body) found = ap is_some (under_more token commands more found) ∙ found
found_more commands more (progress token body) found = tt
found_more commands more (not_known token) found = tt
found_more commands more (event service name body) found = tt
found_more commands more (flow level) found = tt

pub are_found_more : (commands more : List Asked) (told : List Spoken) → AreFound commands told → AreFound (commands ++ more) told
are_found_more commands more [] found = tt
are_found_more commands more (s ∷ told) found = (found_more commands more s.message found.0, are_found_more commands more told found.1)
