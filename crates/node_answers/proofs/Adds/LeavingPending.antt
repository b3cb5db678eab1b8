-- The commands that are pending above, by their tokens below.
use Rattle.std.proofs.Common.{◌≡◌, ℕ, zero, suc, ◌+◌, ◌<◌, Bool, true, false, cond, not, List, [], ◌∷◌, ◌++◌, length, map, refl, ap, ◌∙◌, arith}
use Rattle.std.specs.Prelude.{Contains}
use Rattle.std.specs.List.{filter}
use Rattle.channel_core.specs.RunLaws.{is_answered, row_of}
use Rattle.channel_core.specs.declared.taking.Taken.{Taken}
use Rattle.value_node.specs.Asked.{Asked}
use Rattle.value_node.specs.Deeds.{command_asked}
use Rattle.value_node.specs.ForwardedValue.{ForwardedValue, tagged}
use Rattle.value_node.proofs.Holding.{issued_from}

abbrev row_at : ℕ → Asked → ℕ × ForwardedValue
row_at next c = (next, tagged c.token (command_asked c))

-- those that were sent above, under the tokens from this one on, and have no answer
abbrev rows_from : List (Taken ForwardedValue) → ℕ → List Asked → List (ℕ × ForwardedValue)
rows_from taken next commands = filter (λ row. not (is_answered taken row.0)) (map row_of (issued_from next commands))

abbrev pub tokens_pending : List (Taken ForwardedValue) → ℕ → List Asked → List (List ℕ)
tokens_pending taken next commands = map (λ row. row.1.token) (rows_from taken next commands)

-- the token is that of one of them
pub record IsPending (taken : List (Taken ForwardedValue)) (token : List ℕ) (next : ℕ) (commands : List Asked) : Type 0 where
  pub front : List Asked
  pub command : Asked
  pub back : List Asked
  pub are : commands ≡ front ++ command ∷ back
  pub same : command.token ≡ token
  pub unanswered : is_answered taken (next + length front) ≡ false

pub is_pending : (taken : List (Taken ForwardedValue)) (token : List ℕ) (next : ℕ) (commands : List Asked) → Contains (tokens_pending taken next commands) token → IsPending taken token next commands
is_pending taken token next [] (k, less, is) = absurd (omega arith)
is_pending taken token next (c ∷ commands) has = by_flag (is_answered taken next) refl has (λ later. behind (is_pending taken token (next + 1) commands later))
  where
    behind : IsPending taken token (next + 1) commands → IsPending taken token next (c ∷ commands)
    behind one =
        let moved : next + suc (length one.front) ≡ (next + 1) + length one.front = omega arith in
        record { front = c ∷ one.front; command = one.command; back = one.back; are = ap (λ cs. c ∷ cs) one.are; same = one.same; unanswered = ap (is_answered taken) moved ∙ one.unanswered }

    by_flag : (flag : Bool) → is_answered taken next ≡ flag → Contains (map (λ x. x.1.token) (cond (not flag) (row_at next c ∷ rows_from taken (next + 1) commands) (rows_from taken (next + 1) commands))) token
        → (Contains (tokens_pending taken (next + 1) commands) token → IsPending taken token next (c ∷ commands)) → IsPending taken token next (c ∷ commands)
    by_flag true is has later = later has
    by_flag false is (zero, less, same) later =
        let here : next + 0 ≡ next = omega arith in record { front = []; command = c; back = commands; are = refl; same = same; unanswered = ap (is_answered taken) here ∙ is }
    by_flag false is (suc k, less, same) later =
        let most : suc k < suc (length (tokens_pending taken (next + 1) commands)) = less in later (k, omega arith, same)

-- and one of them without an answer is pending
pub pends_still : (taken : List (Taken ForwardedValue)) (next : ℕ) (front : List Asked) (c : Asked) (back : List Asked) → is_answered taken (next + length front) ≡ false
    → Contains (tokens_pending taken next (front ++ c ∷ back)) c.token
pends_still taken next [] c back none = let here : next ≡ next + 0 = omega arith in by_flag (is_answered taken next) (ap (is_answered taken) here ∙ none)
  where
    by_flag : (flag : Bool) → flag ≡ false → Contains (map (λ x. x.1.token) (cond (not flag) (row_at next c ∷ rows_from taken (next + 1) back) (rows_from taken (next + 1) back))) c.token
    by_flag true is = absurd cc
    by_flag false is = (0, omega arith, refl)
pends_still taken next (d ∷ front) c back none =
    let moved : (next + 1) + length front ≡ next + suc (length front) = omega arith in by_flag (is_answered taken next) (pends_still taken (next + 1) front c back (ap (is_answered taken) moved ∙ none))
  where
    by_flag : (flag : Bool) → Contains (tokens_pending taken (next + 1) (front ++ c ∷ back)) c.token
        → Contains (map (λ x. x.1.token) (cond (not flag) (row_at next d ∷ rows_from taken (next + 1) (front ++ c ∷ back)) (rows_from taken (next + 1) (front ++ c ∷ back)))) c.token
    by_flag true has = has
    by_flag false has = let less : has.0 < length (tokens_pending taken (next + 1) (front ++ c ∷ back)) = has.1 in (suc has.0, omega arith, has.2)
