-- What a stream of bytes means, as the TCF specification says it, protocol page, sections on framing and on escape
-- sequences: the byte 3 is the escape, 3 0 is one byte 3 of a message, 3 1 ends a message and 3 2 ends the stream.
use Rattle.std.specs.Prelude.{◌≡◌, ◌≢◌, ℕ, ◌≤◌, List, [], ◌∷◌, ◌++◌, length, Bool, true, false, ◌==◌, if◌then◌else◌}
use Rattle.stream_escape.specs.declared.stream.Item.{Item}
use Rattle.stream_escape.specs.declared.stream.Item.TheVariants.{Message, End}
use Rattle.stream_escape.specs.declared.stream.StreamFault.{StreamFault}
use Rattle.stream_escape.specs.declared.stream.StreamFault.TheVariants.{BadEscape, TooLong, AfterEnd}

-- the most bytes that a message has, before they are escaped
abbrev pub most_message : ℕ
most_message = 1049600

-- a message's bytes on the stream: behind each 3 stands a 0
abbrev pub escaped : List ℕ → List ℕ
escaped [] = []
escaped (byte ∷ bytes) = if byte == 3 then 3 ∷ 0 ∷ escaped bytes else byte ∷ escaped bytes

-- a whole message on the stream
abbrev pub framed : List ℕ → List ℕ
framed message = escaped message ++ 3 ∷ 1 ∷ []

-- how a list of bytes ends: in a message that has begun, possibly with nothing yet, with or without one further
-- byte 3; or with the end of the stream
pub data Ending : Type 0 where
  partly : (part : List ℕ) (escape : Bool) → Ending
  ended : Ending

-- the further byte 3, or none
abbrev pub further : Bool → List ℕ
further true = 3 ∷ []
further false = []

-- The bytes are these items and this ending, where each message, part and dropped part has at most so many bytes.
pub data ReadsWithin (limit : ℕ) : List ℕ → List Item → Ending → Type 0 where
  -- no item, and a message that has begun
  begun : {bytes part : List ℕ} {escape : Bool}
      → length part ≤ limit → bytes ≡ escaped part ++ further escape
      → ReadsWithin limit bytes [] (partly part escape)
  -- a message, and then the rest
  message : {bytes : List ℕ} {items : List Item} {ending : Ending} (first rest : List ℕ)
      → length first ≤ limit → bytes ≡ framed first ++ rest → ReadsWithin limit rest items ending
      → ReadsWithin limit bytes (Message first ∷ items) ending
  -- a part that is dropped, and the end of the stream, behind which is nothing
  end : {bytes : List ℕ} (dropped : List ℕ)
      → length dropped ≤ limit → bytes ≡ escaped dropped ++ 3 ∷ 2 ∷ []
      → ReadsWithin limit bytes (End ∷ []) ended

-- the bytes are these items and this ending
abbrev pub Reads : List ℕ → List Item → Ending → Type 0
Reads bytes items ending = ReadsWithin most_message bytes items ending

-- the bytes are some items and some ending
pub record IsReadable (limit : ℕ) (bytes : List ℕ) : Type 0 where
  pub items : List Item
  pub ending : Ending
  pub reads : ReadsWithin limit bytes items ending

-- why a byte isn't read
pub data Cause : Type 0 where
  bad_escape : (byte : ℕ) → Cause
  too_long : Cause
  after_end : Cause

-- The cause for which these bytes aren't read any more, which they were up to their last byte, with this ending:
-- the end of the stream has come, the length alone, or else that byte.
abbrev pub IsCause : List ℕ → ℕ → Ending → Cause → Type 0
IsCause bytes last ending after_end = ending ≡ ended
IsCause bytes last ending too_long = (limit : ℕ) × IsReadable limit bytes
IsCause bytes last ending (bad_escape byte) = (byte ≡ last) × (ending ≢ ended) × ((limit : ℕ) → ¬ IsReadable limit bytes)

-- The bytes are read as these items and this ending up to a place, and the byte there isn't.
-- So no longer front of them is read either.
pub record Refuses (bytes : List ℕ) (items : List Item) (ending : Ending) (place : ℕ) (cause : Cause) : Type 0 where
  pub front : List ℕ
  pub byte : ℕ
  pub more : List ℕ
  pub split : bytes ≡ front ++ byte ∷ more
  pub at_place : length front ≡ place
  pub reads : Reads front items ending
  pub refused : ¬ IsReadable most_message (front ++ byte ∷ [])
  pub for_cause : IsCause (front ++ byte ∷ []) byte ending cause

-- the fault that tells of the cause
abbrev pub fault_at : ℕ → Cause → StreamFault
fault_at offset (bad_escape byte) = BadEscape offset byte
fault_at offset too_long = TooLong offset
fault_at offset after_end = AfterEnd offset
