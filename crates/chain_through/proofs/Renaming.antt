-- Messages as they are passed on: each answer under the token that its command has below.
use Rattle.std.proofs.Common.{◌≡◌, ℕ, ◌+◌, Bool, true, false, cond, List, [], ◌∷◌, ◌++◌, map, Option, Ok}
use Rattle.std.specs.Prelude.{IsSome, bytes_eq, decimal}
use Rattle.std.specs.List.{AllByRecursion, flat_map}
use Rattle.std.proofs.lemmas.List.Concat.{flat_map-append}
use Rattle.tcf_message.specs.Message.{HasNoZero, IsToken, IsWellFormed, MessageValue, command, event, final, flow, not_known, progress}
use Rattle.channel_core.specs.Arrivals.{AreSpoken, Spoken}
use Rattle.value_node.specs.Asked.{Asked}
use Rattle.value_node.specs.RelayLaws.{passed_in, token_below}
use Rattle.chain_through.specs.Through.{IsMarked}
use Rattle.chain_through.proofs.Spelling.{AreSpelled}
use Rattle.chain_through.proofs.Taking.{IsWritten}
use Rattle.list_laws.proofs.AllLists.{all_append}

abbrev pub say : MessageValue → Option ℕ → Spoken
say message mark = record { message = message; mark = mark }

-- one message as it is passed on
abbrev pub renamed : List Asked → MessageValue → Option ℕ → List Spoken
renamed commands message mark = map (λ m. say m mark) (passed_in commands (Ok message))

-- messages as they are passed on to one that sent these commands
abbrev pub passed : List Asked → List Spoken → List Spoken
passed commands said = flat_map (λ s. renamed commands s.message s.mark) said

pub each_marked : (messages : List MessageValue) (mark : Option ℕ) → IsSome mark → AllByRecursion IsMarked (map (λ m. say m mark) messages)
each_marked [] mark some = tt
each_marked (m ∷ messages) mark some = (some, each_marked messages mark some)

pub passed_more : (commands : List Asked) (said more : List Spoken) → passed commands (said ++ more) ≡ passed commands said ++ passed commands more
passed_more commands said more = flat_map-append (λ s. renamed commands s.message s.mark) said more

-- it has the same marks
pub passed_marked : (commands : List Asked) (said : List Spoken) → AllByRecursion IsMarked said → AllByRecursion IsMarked (passed commands said)
passed_marked commands [] marked = tt
passed_marked commands (s ∷ said) marked = all_append IsMarked (renamed commands s.message s.mark) (passed commands said) (each_marked (passed_in commands (Ok s.message)) s.mark marked.0) (passed_marked commands said marked.1)

-- ---- What is passed on is spelled so

below_plain : (next : ℕ) (token : List ℕ) (commands : List Asked) → HasNoZero token → AllByRecursion IsWritten commands → HasNoZero (token_below next token commands)
below_plain next token [] none written = none
below_plain next token (c ∷ commands) none written = by_flag (bytes_eq token (decimal next)) (below_plain (next + 1) token commands none written.1)
  where
    by_flag : (flag : Bool) → HasNoZero (token_below (next + 1) token commands) → HasNoZero (cond flag c.token (token_below (next + 1) token commands))
    by_flag true rest = written.0.0.0.0
    by_flag false rest = rest

pub passed_spelled : (commands : List Asked) (said : List Spoken) → AllByRecursion IsWritten commands → AreSpoken said → AreSpelled (passed commands said)
passed_spelled commands [] written formed = tt
passed_spelled commands (s ∷ said) written formed = by_message s.message s.mark formed.0 (passed_spelled commands said written formed.1)
  where
    by_message : (m : MessageValue) (mark : Option ℕ) → IsWellFormed m → AreSpelled (passed commands said) → AreSpelled (passed commands (say m mark ∷ said))
    by_message (command token service name body) mark formed rest = rest
    by_message (final token body) mark formed rest = (below_plain 1 token commands formed.0.0 written, rest)
    by_message (progress token body) mark formed rest = (below_plain 1 token commands formed.0.0 written, rest)
    by_message (not_known token) mark formed rest = (below_plain 1 token commands formed.0.0 written, rest)
    by_message (event service name body) mark formed rest = ((formed.0.0, formed.0.1), rest)
    by_message (flow level) mark formed rest = rest

-- ---- And it can be read

below_token : (next : ℕ) (token : List ℕ) (commands : List Asked) → IsToken token → AllByRecursion IsWritten commands → IsToken (token_below next token commands)
below_token next token [] is written = is
below_token next token (c ∷ commands) is written = by_flag (bytes_eq token (decimal next)) (below_token (next + 1) token commands is written.1)
  where
    by_flag : (flag : Bool) → IsToken (token_below (next + 1) token commands) → IsToken (cond flag c.token (token_below (next + 1) token commands))
    by_flag true rest = written.0.0.0
    by_flag false rest = rest

pub passed_formed : (commands : List Asked) (said : List Spoken) → AllByRecursion IsWritten commands → AreSpoken said → AreSpoken (passed commands said)
passed_formed commands [] written formed = tt
passed_formed commands (s ∷ said) written formed = by_message s.message s.mark formed.0 (passed_formed commands said written formed.1)
  where
    by_message : (m : MessageValue) (mark : Option ℕ) → IsWellFormed m → AreSpoken (passed commands said) → AreSpoken (passed commands (say m mark ∷ said))
    by_message (command token service name body) mark formed rest = rest
    by_message (final token body) mark formed rest = ((below_token 1 token commands formed.0 written, formed.1), rest)
    by_message (progress token body) mark formed rest = ((below_token 1 token commands formed.0 written, formed.1), rest)
    by_message (not_known token) mark formed rest = ((below_token 1 token commands formed.0 written, formed.1), rest)
    by_message (event service name body) mark formed rest = (formed, rest)
    by_message (flow level) mark formed rest = rest
