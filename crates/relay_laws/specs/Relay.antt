-- What a relay takes from each side and sends to each, in one order of time, and what it keeps to, whatever
-- it is made of.
use Rattle.std.specs.Prelude.{ℕ, ◌≡◌, ◌≤◌, ◌<◌, ◌+◌, Bool, true, false, List, [], ◌∷◌, ◌++◌, filter, map, slice_get, Some}
use Rattle.std.specs.List.{AllByRecursion, Contains, flat_map}
use Rattle.channel_core.specs.Arrivals.{Spoken}
use Rattle.knowledge.specs.Changes.{Change, bytes_read, context_told, properties_told, register_read, state_told, status_told, threads_told}
use Rattle.knowledge.specs.Facts.{Fact, Knows, byte_is, context_is, properties_are, register_is, state_is, status_is, threads_are}
use Rattle.knowledge.specs.Learning.{Message, changes_of, learned}
use Rattle.list_laws.specs.Fronts.{IsFront}
use Rattle.tcf_message.specs.Message.{MessageValue, command, event, final, flow, not_known, progress}
use Rattle.value_node.specs.Asked.{Asked}
use Rattle.value_node.specs.Deeds.{command_asked}
use Rattle.value_node.specs.Store.{lesson_of}
use Rattle.chain_told.specs.Told.{bars, goes_through, is_ended, is_storable, lessons, mark_of}

-- ---- what crosses a relay

-- Beside a command that is sent above, and beside an answer that didn't come from there, stands the number of
-- the command below that it is of, where those that were taken count from 0: two commands may bear one token.
pub data Crossing : Type 0 where
  asks : Asked → Crossing  -- a command was taken from below
  forwards : (number : ℕ) → Asked → Crossing  -- a command was sent above
  hears : Spoken → Crossing  -- a message was taken from above: an event, progress or an answer
  passes : Spoken → Crossing  -- a message was sent below that came from above
  answers : (number : ℕ) → Spoken → Crossing  -- a message was sent below that did not: a stored answer
  ends : Crossing  -- the end from above was taken

-- ---- what went over which side

abbrev pub asked_by : Crossing → List Asked
asked_by (asks c) = c ∷ []
asked_by _ = []

abbrev pub forwarded_by : Crossing → List (ℕ × Asked)
forwarded_by (forwards number c) = (number, c) ∷ []
forwarded_by _ = []

abbrev pub heard_by : Crossing → List Spoken
heard_by (hears s) = s ∷ []
heard_by _ = []

abbrev pub passed_by : Crossing → List Spoken
passed_by (passes s) = s ∷ []
passed_by _ = []

abbrev pub answered_by : Crossing → List ℕ
answered_by (answers number s) = number ∷ []
answered_by _ = []

abbrev pub told_by : Crossing → List Spoken
told_by (passes s) = s ∷ []
told_by (answers number s) = s ∷ []
told_by _ = []

-- the commands that were taken from below
abbrev pub asked_in : List Crossing → List Asked
asked_in traffic = flat_map asked_by traffic

-- those that were sent above, each with its number, and without
abbrev pub forwarded_in : List Crossing → List (ℕ × Asked)
forwarded_in traffic = flat_map forwarded_by traffic

abbrev pub sent_in : List Crossing → List Asked
sent_in traffic = map (λ row. row.1) (forwarded_in traffic)

-- the messages that were taken from above
abbrev pub heard_in : List Crossing → List Spoken
heard_in traffic = flat_map heard_by traffic

-- those that were sent below without the stored answers, and the numbers of the commands that got these
abbrev pub passed_in : List Crossing → List Spoken
passed_in traffic = flat_map passed_by traffic

abbrev pub answered_in : List Crossing → List ℕ
answered_in traffic = flat_map answered_by traffic

-- all messages that were sent below
abbrev pub told_in : List Crossing → List Spoken
told_in traffic = flat_map told_by traffic

-- something is taken, from either side
abbrev pub takes : Crossing → Bool
takes (asks c) = true
takes (hears s) = true
takes ends = true
takes _ = false

-- a message is sent below
abbrev pub tells : Crossing → Bool
tells (passes s) = true
tells (answers number s) = true
tells _ = false

-- ---- what the messages teach: those below whoever is there, and those from above the relay

abbrev pub taught_below : List Crossing → List Message
taught_below traffic = lessons (asked_in traffic) (told_in traffic)

abbrev pub taught_above : List Crossing → List Message
taught_above traffic = lessons (sent_in traffic) (heard_in traffic)

-- the facts that an answer tells
abbrev pub bytes_from : ℕ → ℕ → List ℕ → List Fact
bytes_from process addr [] = []
bytes_from process addr (byte ∷ bytes) = byte_is process addr byte ∷ bytes_from process (addr + 1) bytes

abbrev pub facts_of : Change → List Fact
facts_of (context_told id context) = context_is id context ∷ []
facts_of (threads_told process ids) = threads_are process ids ∷ []
facts_of (state_told process thread state) = state_is process thread state ∷ []
facts_of (register_read process thread index value) = register_is process thread index value ∷ []
facts_of (bytes_read process addr bytes) = bytes_from process addr bytes
facts_of (properties_told id properties) = properties_are id properties ∷ []
facts_of (status_told id status) = status_is id status ∷ []
facts_of _ = []

abbrev pub facts_told : Message → List Fact
facts_told message = flat_map facts_of (changes_of message)

-- ---- 1. the commands that are sent above

abbrev pub IsAscendingFrom : ℕ → List ℕ → Type 0
IsAscendingFrom low [] = Unit {0}
IsAscendingFrom low (number ∷ numbers) = (low ≤ number) × IsAscendingFrom (number + 1) numbers

-- a command but for its token
abbrev pub bare : Asked → Asked
bare c = record c { token = [] }

abbrev pub IsCommandOf : List Asked → ℕ × Asked → Type 0
IsCommandOf commands row = (c : Asked) × (slice_get commands row.0 ≡ Some c) × (bare row.1 ≡ bare c)

-- no two of them have one token
abbrev pub HaveOwnTokens : List Asked → Type 0
HaveOwnTokens commands =
    (i k : ℕ) (c d : Asked) → slice_get commands i ≡ Some c → slice_get commands k ≡ Some d →
    c.token ≡ d.token → i ≡ k

-- In order and each once, they are some of those that were taken from below by then: each with its own
-- service, name, data and mark, under a token of its own. Those that aren't storable are a front of all such
-- ones.
pub record ForwardsInOrder (done : List Crossing) : Type 0 where
  pub order : IsAscendingFrom 0 (map (λ row. row.0) (forwarded_in done))
  pub own : AllByRecursion (IsCommandOf (asked_in done)) (forwarded_in done)
  pub tokens : HaveOwnTokens (sent_in done)
  pub through : IsFront (map bare (filter goes_through (sent_in done)))
      (map bare (filter goes_through (asked_in done)))

-- ---- 2. the messages that are passed on below

-- the command below is that which was sent above under this token
pub record IsUnder (done : List Crossing) (token : List ℕ) (c : Asked) : Type 0 where
  pub number : ℕ
  pub above : Asked
  pub sent : Contains (forwarded_in done) (number, above)
  pub under : above.token ≡ token
  pub asked : slice_get (asked_in done) number ≡ Some c

-- an event as it came, and progress and an answer under the token of its own command; nothing else comes
abbrev pub IsPassedAs : List Crossing → MessageValue → MessageValue → Type 0
IsPassedAs done (command token service name body) below = ⊥
IsPassedAs done (final token body) below =
    (c : Asked) × IsUnder done token c × (below ≡ final c.token body)
IsPassedAs done (progress token body) below =
    (c : Asked) × IsUnder done token c × (below ≡ progress c.token body)
IsPassedAs done (not_known token) below =
    (c : Asked) × IsUnder done token c × (below ≡ not_known c.token)
IsPassedAs done (event service name body) below = below ≡ event service name body
IsPassedAs done (flow level) below = ⊥

-- with their marks, all of them
abbrev pub ArePassedAs : List Crossing → List Spoken → List Spoken → Type 0
ArePassedAs done [] [] = Unit {0}
ArePassedAs done [] (s ∷ below) = ⊥
ArePassedAs done (h ∷ above) [] = ⊥
ArePassedAs done (h ∷ above) (s ∷ below) =
    IsPassedAs done h.message s.message × (s.mark ≡ h.mark) × ArePassedAs done above below

abbrev pub PassesAllOn : List Crossing → Type 0
PassesAllOn done = ArePassedAs done (heard_in done) (passed_in done)

-- ---- 3. a stored answer

-- the final answer to the command of this number was taken from above
pub record IsFinished (done : List Crossing) (number : ℕ) : Type 0 where
  pub above : Asked
  pub sent : Contains (forwarded_in done) (number, above)
  pub ended : is_ended above.token (heard_in done) ≡ true

-- It goes to a storable command that is never sent above in all this traffic, once, and behind the answers to
-- all barriers that were taken from below before that. Its mark is the last one since the Hello, and each
-- fact that it tells is learned of what was taken from above.
pub record IsStoredAnswer (traffic done : List Crossing) (number : ℕ) (s : Spoken) : Type 0 where
  pub command : Asked
  pub asked : slice_get (asked_in done) number ≡ Some command
  pub storable : is_storable command ≡ true
  pub body : List ℕ
  pub answer : s.message ≡ final command.token body
  pub unsent : Contains (map (λ row. row.0) (forwarded_in traffic)) number → ⊥
  pub once : Contains (answered_in done) number → ⊥
  pub settled : (earlier : ℕ) (barrier : Asked) → earlier < number →
      slice_get (asked_in done) earlier ≡ Some barrier → bars barrier ≡ true → IsFinished done earlier
  pub marked : s.mark ≡ mark_of (heard_in done)
  pub known : AllByRecursion (Knows (learned (taught_above done)))
      (facts_told (lesson_of (command_asked command) body))

-- ---- a relay, of all that it took and sent since the Hello that made it bound

pub record IsRelay (traffic : List Crossing) : Type 0 where
  -- at each moment
  pub forwards_in_order : (done rest : List Crossing) → traffic ≡ done ++ rest → ForwardsInOrder done
  -- before it takes anything, and when it has sent a message below
  pub passes_all : (done rest : List Crossing) (next : Crossing) → traffic ≡ done ++ next ∷ rest →
      takes next ≡ true → PassesAllOn done
  pub passes_now : (done rest : List Crossing) (last : Crossing) → traffic ≡ done ++ last ∷ rest →
      tells last ≡ true → PassesAllOn (done ++ last ∷ [])
  pub answers_rightly : (done rest : List Crossing) (number : ℕ) (s : Spoken) →
      traffic ≡ done ++ answers number s ∷ rest → IsStoredAnswer traffic done number s
  -- after the end from above no message is sent below; the end of the stream is none
  pub stops : (done rest : List Crossing) → traffic ≡ done ++ ends ∷ rest → told_in rest ≡ []
