-- What a bound value-add tells below since it was bound, as messages.
use Rattle.std.proofs.Common.{◌≡◌, ℕ, ◌+◌, Bool, true, false, cond, ◌||◌, List, [], ◌∷◌, ◌++◌, map, Option, Result, Ok, Err, refl, sym, ap, ap₂, ◌∙◌}
use Rattle.std.specs.Prelude.{bytes_eq, decimal}
use Rattle.std.specs.List.{AllByRecursion, list_any}
use Rattle.std.proofs.lemmas.Bool.{or_left, or_right}
use Rattle.std.proofs.lemmas.List.{map-append}
use Rattle.std.proofs.lemmas.List.Folds.{list_any-append}
use Rattle.tcf_message.specs.Message.{HasNoZero, MessageValue, command, event, final, flow, not_known, progress, reading}
use Rattle.tcf_message.specs.declared.message.MessageFault.{MessageFault}
use Rattle.channel_core.specs.Arrivals.{Spoken, all_said}
use Rattle.channel_core.specs.RunLaws.{token_in}
use Rattle.channel_core.specs.Wire.{said, said_by, said_of}
use Rattle.channel_laws.specs.Meeting.{answers_among, hello_behind}
use Rattle.channel_laws.specs.Rest.{hello_among, is_hello}
use Rattle.channel_laws.proofs.Rest.Spelling.{AreSpelled, IsSpelled}
use Rattle.value_node.specs.Asked.{Asked}
use Rattle.value_node.specs.Deeds.{Deed, answers, asked_in, forwards, heard_in, hears}
use Rattle.value_node.specs.RelayLaws.{passed_in, token_below, told_from}
use Rattle.value_node.proofs.OwnReadable.{well_read}
use Rattle.node_answers.proofs.Adds.BoundAsked.{IsWritten}
use Rattle.list_laws.proofs.AllLists.{all_append}

abbrev pub passed_as : List Asked → Option ℕ → Result MessageValue MessageFault → List Spoken
passed_as commands mark m = map (λ x. record { message = x; mark = mark }) (passed_in commands m)

abbrev pub tells_from : List Asked → List Deed → List Spoken
tells_from commands [] = []
tells_from commands (forwards c ∷ deeds) = tells_from (commands ++ c ∷ []) deeds
tells_from commands (answers c reply mark ∷ deeds) = record { message = final c.token reply; mark = mark } ∷ tells_from commands deeds
tells_from commands (hears incoming ∷ deeds) = passed_as commands incoming.mark (reading incoming.raw) ++ tells_from commands deeds

-- ---- It is said so

said_each : (mark : Option ℕ) (messages : List MessageValue) → map (λ m. said m mark) messages ≡ all_said (map (λ x. record { message = x; mark = mark }) messages)
said_each mark [] = refl
said_each mark (m ∷ messages) = ap (λ os. said m mark ∷ os) (said_each mark messages)

pub told_so : (commands : List Asked) (deeds : List Deed) → told_from commands deeds ≡ all_said (tells_from commands deeds)
told_so commands [] = refl
told_so commands (forwards c ∷ deeds) = told_so (commands ++ c ∷ []) deeds
told_so commands (answers c reply mark ∷ deeds) = ap (λ os. said (final c.token reply) mark ∷ os) (told_so commands deeds)
told_so commands (hears incoming ∷ deeds) =
    ap₂ (λ xs ys. xs ++ ys) (said_each incoming.mark (passed_in commands (reading incoming.raw))) (told_so commands deeds)
    ∙ sym (map-append (λ (s : Spoken). said s.message s.mark) (passed_as commands incoming.mark (reading incoming.raw)) (tells_from commands deeds))

-- ---- It is spelled so

below_plain : (next : ℕ) (token : List ℕ) (commands : List Asked) → HasNoZero token → AllByRecursion IsWritten commands → HasNoZero (token_below next token commands)
below_plain next token [] plain written = plain
below_plain next token (c ∷ commands) plain written = by_flag (bytes_eq token (decimal next)) (below_plain (next + 1) token commands plain written.1)
  where
    by_flag : (flag : Bool) → HasNoZero (token_below (next + 1) token commands) → HasNoZero (cond flag c.token (token_below (next + 1) token commands))
    by_flag true rest = written.0.0.0.0
    by_flag false rest = rest

passed_spelled : (commands : List Asked) (raw : List ℕ) (mark : Option ℕ) (m : Result MessageValue MessageFault) → reading raw ≡ m → AllByRecursion IsWritten commands → AreSpelled (passed_as commands mark m)
passed_spelled commands raw mark (Ok (command token service name body)) is written = tt
passed_spelled commands raw mark (Ok (final token body)) is written = (below_plain 1 token commands (well_read raw (final token body) is).0.0 written, tt)
passed_spelled commands raw mark (Ok (progress token body)) is written = (below_plain 1 token commands (well_read raw (progress token body) is).0.0 written, tt)
passed_spelled commands raw mark (Ok (not_known token)) is written = (below_plain 1 token commands (well_read raw (not_known token) is).0.0 written, tt)
passed_spelled commands raw mark (Ok (event service name body)) is written = ((well_read raw (event service name body) is).0, tt)
passed_spelled commands raw mark (Ok (flow level)) is written = tt
passed_spelled commands raw mark (Err fault) is written = tt

pub tells_spelled : (commands : List Asked) (deeds : List Deed) → AllByRecursion IsWritten commands → AllByRecursion IsWritten (asked_in deeds) → AreSpelled (tells_from commands deeds)
tells_spelled commands [] written all = tt
tells_spelled commands (forwards c ∷ deeds) written all = tells_spelled (commands ++ c ∷ []) deeds (all_append IsWritten commands (c ∷ []) written (all.0, tt)) all.1
tells_spelled commands (answers c reply mark ∷ deeds) written all = (all.0.0.0.0, tells_spelled commands deeds written all.1)
tells_spelled commands (hears incoming ∷ deeds) written all =
    all_append (λ (s : Spoken). IsSpelled s.message) (passed_as commands incoming.mark (reading incoming.raw)) (tells_from commands deeds)
    (passed_spelled commands incoming.raw incoming.mark (reading incoming.raw) refl written) (tells_spelled commands deeds written all)

-- ---- A Hello that is heard is told

pub any_behind : (test : Spoken → Bool) (xs ys : List Spoken) → list_any test ys ≡ true → list_any test (xs ++ ys) ≡ true
any_behind test xs ys is = list_any-append test xs ys ∙ or_right (list_any test xs) (list_any test ys) is

hello_passed : (commands : List Asked) (mark : Option ℕ) (m : Result MessageValue MessageFault) (told : List Spoken) (heard : Bool) → (is_hello (said_of m) || heard) ≡ true → (heard ≡ true → hello_behind told ≡ true)
    → hello_behind (passed_as commands mark m ++ told) ≡ true
hello_passed commands mark (Ok (command token service name body)) told heard is rest = rest is
hello_passed commands mark (Ok (final token body)) told heard is rest = rest is
hello_passed commands mark (Ok (progress token body)) told heard is rest = rest is
hello_passed commands mark (Ok (not_known token)) told heard is rest = rest is
hello_passed commands mark (Ok (event service name body)) told heard is rest = by_flag (is_hello (said_by (event service name body))) is
  where
    by_flag : (flag : Bool) → (flag || heard) ≡ true → (flag || hello_behind told) ≡ true
    by_flag true is = refl
    by_flag false is = rest is
hello_passed commands mark (Ok (flow level)) told heard is rest = rest is
hello_passed commands mark (Err fault) told heard is rest = rest is

pub hello_told : (commands : List Asked) (deeds : List Deed) → hello_among (heard_in deeds) ≡ true → hello_behind (tells_from commands deeds) ≡ true
hello_told commands [] is = absurd cc
hello_told commands (forwards c ∷ deeds) is = hello_told (commands ++ c ∷ []) deeds is
hello_told commands (answers c reply mark ∷ deeds) is = hello_told commands deeds is
hello_told commands (hears incoming ∷ deeds) is =
    hello_passed commands incoming.mark (reading incoming.raw) (tells_from commands deeds) (hello_among (heard_in deeds)) is (λ more. hello_told commands deeds more)

-- ---- An answer is there with more before it or behind it

pub answered_later : (xs ys : List Spoken) (token : List ℕ) → answers_among token ys ≡ true → answers_among token (xs ++ ys) ≡ true
answered_later xs ys token is = any_behind (λ s. list_any (λ text. bytes_eq text token) (token_in (said_by s.message))) xs ys is

pub answered_before : (xs ys : List Spoken) (token : List ℕ) → answers_among token xs ≡ true → answers_among token (xs ++ ys) ≡ true
answered_before xs ys token is =
    list_any-append (λ s. list_any (λ text. bytes_eq text token) (token_in (said_by s.message))) xs ys ∙ or_left (answers_among token xs) (answers_among token ys) is
