-- The messages of a queue that can be read, by what they are.
use Rattle.std.proofs.Common.{◌≡◌, ℕ, ◌&&◌, Bool, true, false, cond, not, List, [], ◌∷◌, ◌++◌, map, Option, refl, sym, ap, ◌∙◌, append-nil}
use Rattle.std.specs.List.{filter}
use Rattle.std.proofs.lemmas.List.Elements.{filter-append}
use Rattle.tcf_message.specs.Message.{MessageValue, command, event, final, flow, not_known, progress}
use Rattle.channel_core.specs.Arrivals.{AreSpoken, Spoken, enters, queue_of}
use Rattle.channel_core.specs.Farewell.{leaving_behind}
use Rattle.channel_core.specs.QueueLaws.{is_message, is_plain}
use Rattle.channel_core.specs.RunLaws.{is_command}
use Rattle.channel_core.specs.Wire.{said}
use Rattle.channel_core.specs.declared.held.Outgoing.{Outgoing}
use Rattle.chain_through.specs.Calling.{AskNothing, asks, entering, greeting}
use Rattle.chain_through.proofs.Spelling.{said_so}

-- ---- What enters the inbox can be read too

pub entering_formed : (spoken : List Spoken) → AreSpoken spoken → AreSpoken (entering spoken)
entering_formed [] formed = tt
entering_formed (s ∷ spoken) formed = by_flag (enters s.message) (entering_formed spoken formed.1)
  where
    by_flag : (flag : Bool) → AreSpoken (entering spoken) → AreSpoken (cond flag (s ∷ entering spoken) (entering spoken))
    by_flag true rest = (formed.0, rest)
    by_flag false rest = rest

-- ---- What a queue says, by what it is

abbrev pub plain : MessageValue → Bool
plain m = enters m && not (asks m)

abbrev pub plains : List Spoken → List Spoken
plains spoken = filter (λ s. plain s.message) spoken

abbrev pub commanding : List Spoken → List Spoken
commanding spoken = filter (λ s. asks s.message) spoken

command_letter : (m : MessageValue) (mark : Option ℕ) → is_command (said m mark) ≡ asks m
command_letter (command token service name body) mark = refl
command_letter (final token body) mark = refl
command_letter (progress token body) mark = refl
command_letter (not_known token) mark = refl
command_letter (event service name body) mark = refl
command_letter (flow level) mark = refl

message_letter : (m : MessageValue) (mark : Option ℕ) → is_message (said m mark) ≡ enters m
message_letter (command token service name body) mark = refl
message_letter (final token body) mark = refl
message_letter (progress token body) mark = refl
message_letter (not_known token) mark = refl
message_letter (event service name body) mark = refl
message_letter (flow level) mark = refl

plain_letter : (m : MessageValue) (mark : Option ℕ) → is_plain (said m mark) ≡ plain m
plain_letter (command token service name body) mark = refl
plain_letter (final token body) mark = refl
plain_letter (progress token body) mark = refl
plain_letter (not_known token) mark = refl
plain_letter (event service name body) mark = refl
plain_letter (flow level) mark = refl

filtered : (test : Outgoing → Bool) (kind : MessageValue → Bool) → ((m : MessageValue) (mark : Option ℕ) → test (said m mark) ≡ kind m) → (spoken : List Spoken)
    → filter test (map said_so spoken) ≡ map said_so (filter (λ s. kind s.message) spoken)
filtered test kind letter [] = refl
filtered test kind letter (s ∷ spoken) =
    ap (λ b. cond b (said_so s ∷ filter test (map said_so spoken)) (filter test (map said_so spoken))) (letter s.message s.mark)
    ∙ by_flag (kind s.message) (filtered test kind letter spoken)
  where
    by_flag : (flag : Bool) → filter test (map said_so spoken) ≡ map said_so (filter (λ x. kind x.message) spoken)
        → cond flag (said_so s ∷ filter test (map said_so spoken)) (filter test (map said_so spoken)) ≡ map said_so (cond flag (s ∷ filter (λ x. kind x.message) spoken) (filter (λ x. kind x.message) spoken))
    by_flag true rest = ap (λ os. said_so s ∷ os) rest
    by_flag false rest = rest

queue_filtered : (test : Outgoing → Bool) (kind : MessageValue → Bool) → ((m : MessageValue) (mark : Option ℕ) → test (said m mark) ≡ kind m) → ((is_ended : Bool) → filter test (leaving_behind is_ended) ≡ []) → (spoken : List Spoken) (is_ended : Bool)
    → filter test (queue_of spoken is_ended) ≡ map said_so (filter (λ s. kind s.message) spoken)
queue_filtered test kind letter none spoken is_ended =
    filter-append test (map said_so spoken) (leaving_behind is_ended) ∙ ap (λ os. filter test (map said_so spoken) ++ os) (none is_ended) ∙ append-nil (filter test (map said_so spoken)) ∙ filtered test kind letter spoken

no_end_command : (is_ended : Bool) → filter is_command (leaving_behind is_ended) ≡ []
no_end_command true = refl
no_end_command false = refl

no_end_message : (is_ended : Bool) → filter is_message (leaving_behind is_ended) ≡ []
no_end_message true = refl
no_end_message false = refl

no_end_plain : (is_ended : Bool) → filter is_plain (leaving_behind is_ended) ≡ []
no_end_plain true = refl
no_end_plain false = refl

pub queue_commands : (spoken : List Spoken) (is_ended : Bool) → filter is_command (queue_of spoken is_ended) ≡ map said_so (commanding spoken)
queue_commands spoken is_ended = queue_filtered is_command asks command_letter no_end_command spoken is_ended

pub queue_messages : (spoken : List Spoken) (is_ended : Bool) → filter is_message (queue_of spoken is_ended) ≡ map said_so (entering spoken)
queue_messages spoken is_ended = queue_filtered is_message enters message_letter no_end_message spoken is_ended

pub queue_plain : (spoken : List Spoken) (is_ended : Bool) → filter is_plain (queue_of spoken is_ended) ≡ map said_so (plains spoken)
queue_plain spoken is_ended = queue_filtered is_plain plain plain_letter no_end_plain spoken is_ended

-- ---- Where it has no command, nothing is asked

pub nothing_asked : (spoken : List Spoken) → commanding spoken ≡ [] → AskNothing (entering spoken)
nothing_asked [] none = tt
nothing_asked (s ∷ spoken) none = by_flags (asks s.message) (enters s.message) refl none (λ more. nothing_asked spoken more)
  where
    by_flags : (a b : Bool) → asks s.message ≡ a → cond a (s ∷ commanding spoken) (commanding spoken) ≡ [] → (commanding spoken ≡ [] → AskNothing (entering spoken))
        → AskNothing (cond b (s ∷ entering spoken) (entering spoken))
    by_flags true b is some rest = absurd cc
    by_flags false true is some rest = (is, rest some)
    by_flags false false is some rest = rest some

-- ---- Where it has one plain message, which comes first, the others are commands

only_commands : (spoken : List Spoken) → map said_so (plains spoken) ≡ [] → entering spoken ≡ commanding spoken
only_commands [] none = refl
only_commands (s ∷ spoken) none = by_message s.message none (λ more. only_commands spoken more)
  where
    by_message : (m : MessageValue) → map said_so (cond (plain m) (s ∷ plains spoken) (plains spoken)) ≡ []
        → (map said_so (plains spoken) ≡ [] → entering spoken ≡ commanding spoken)
        → cond (enters m) (s ∷ entering spoken) (entering spoken) ≡ cond (asks m) (s ∷ commanding spoken) (commanding spoken)
    by_message (command token service name body) some rest = ap (λ xs. s ∷ xs) (rest some)
    by_message (final token body) some rest = absurd cc
    by_message (progress token body) some rest = absurd cc
    by_message (not_known token) some rest = absurd cc
    by_message (event service name body) some rest = absurd cc
    by_message (flow level) some rest = rest some

-- a message, and behind it commands
pub record GreetsFirst (spoken : List Spoken) (first : Outgoing) : Type 0 where
  pub greets : Spoken
  pub are : entering spoken ≡ greets ∷ commanding spoken
  pub said_is : said_so greets ≡ first

pub greets_first : (spoken : List Spoken) (services : List ℕ) (more : List Outgoing) → map said_so (entering spoken) ≡ said_so (greeting services) ∷ more
    → map said_so (plains spoken) ≡ said_so (greeting services) ∷ [] → GreetsFirst spoken (said_so (greeting services))
greets_first [] services more all alone = absurd cc
greets_first (s ∷ spoken) services more all alone = by_message s.message refl all alone (λ a p. greets_first spoken services more a p)
  where
    kept : (flag : Bool) → enters s.message ≡ flag → entering (s ∷ spoken) ≡ cond flag (s ∷ entering spoken) (entering spoken)
    kept flag is = ap (λ b. cond b (s ∷ entering spoken) (entering spoken)) is

    dropped : asks s.message ≡ false → commanding (s ∷ spoken) ≡ commanding spoken
    dropped is = ap (λ b. cond b (s ∷ commanding spoken) (commanding spoken)) is

    is_first : entering (s ∷ spoken) ≡ s ∷ entering spoken → commanding (s ∷ spoken) ≡ commanding spoken → map said_so (s ∷ entering spoken) ≡ said_so (greeting services) ∷ more → map said_so (s ∷ plains spoken) ≡ said_so (greeting services) ∷ []
        → GreetsFirst (s ∷ spoken) (said_so (greeting services))
    is_first one two first alone =
        let whole : said_so s ∷ map said_so (entering spoken) ≡ said_so (greeting services) ∷ more = first in
        let same : said_so s ≡ said_so (greeting services) = cc in
        let left : said_so s ∷ map said_so (plains spoken) ≡ said_so (greeting services) ∷ [] = alone in
        let none : map said_so (plains spoken) ≡ [] = cc in
        record { greets = s; are = one ∙ ap (λ xs. s ∷ xs) (only_commands spoken none ∙ sym two); said_is = same }

    by_message : (m : MessageValue) → s.message ≡ m → map said_so (cond (enters m) (s ∷ entering spoken) (entering spoken)) ≡ said_so (greeting services) ∷ more
        → map said_so (cond (plain m) (s ∷ plains spoken) (plains spoken)) ≡ said_so (greeting services) ∷ []
        → (map said_so (entering spoken) ≡ said_so (greeting services) ∷ more → map said_so (plains spoken) ≡ said_so (greeting services) ∷ [] → GreetsFirst spoken (said_so (greeting services)))
        → GreetsFirst (s ∷ spoken) (said_so (greeting services))
    by_message (command token service name body) is first alone rest =
        let whole : said_so s ∷ map said_so (entering spoken) ≡ said_so (greeting services) ∷ more = first in
        let same : said_so s ≡ said_so (greeting services) = cc in
        let letter : is_command (said_so s) ≡ true = command_letter s.message s.mark ∙ ap asks is in
        let other : is_command (said_so s) ≡ false = ap is_command same in
        absurd cc
    by_message (final token body) is first alone rest = is_first (kept true (ap enters is)) (dropped (ap asks is)) first alone
    by_message (progress token body) is first alone rest = is_first (kept true (ap enters is)) (dropped (ap asks is)) first alone
    by_message (not_known token) is first alone rest = is_first (kept true (ap enters is)) (dropped (ap asks is)) first alone
    by_message (event service name body) is first alone rest = is_first (kept true (ap enters is)) (dropped (ap asks is)) first alone
    by_message (flow level) is first alone rest =
        let found = rest first alone in
        record { greets = found.greets; are = kept false (ap enters is) ∙ found.are ∙ ap (λ xs. found.greets ∷ xs) (sym (dropped (ap asks is))); said_is = found.said_is }
