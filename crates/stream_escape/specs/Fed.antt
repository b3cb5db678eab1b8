-- What a reader makes of the next piece of a stream: the rules of Stream, byte by byte, as a function.
use Rattle.std.specs.Prelude.{ℕ, zero, suc, ◌+◌, nat_lt, ◌==◌, if◌then◌else◌, List, [], ◌∷◌, ◌++◌, length, true, false, Option, None, Some, Result, Ok, Err}
use Rattle.stream_escape.specs.declared.stream.Item.{Item}
use Rattle.stream_escape.specs.declared.stream.Item.TheVariants.{Message, End}
use Rattle.stream_escape.specs.declared.stream.StreamFault.{StreamFault}
use Rattle.stream_escape.specs.declared.stream.StreamFault.TheVariants.{BadEscape, TooLong, AfterEnd}
use Rattle.stream_escape.specs.Stream.{most_message, Ending, partly, ended}
use Rattle.stream_escape.specs.Value.{UnescapeValue, capped}

-- ---- one byte

-- it is read, and an item may end with it; or it isn't
pub data ByteRead : Type 0 where
  taken : (items : List Item) (ending : Ending) → ByteRead
  refused : (fault : StreamFault) → ByteRead

-- a byte more of the message, where there is room for it
abbrev pub put : ℕ → ℕ → List ℕ → ByteRead
put offset byte part =
    if nat_lt (length part) most_message then taken [] (partly (part ++ byte ∷ []) false) else refused (TooLong offset)

-- the byte behind an escape
abbrev pub escape_read : ℕ → ℕ → List ℕ → ByteRead
escape_read offset zero part = put offset 3 part
escape_read offset (suc zero) part = taken (Message part ∷ []) (partly [] false)
escape_read offset (suc (suc zero)) part = taken (End ∷ []) ended
escape_read offset (suc (suc (suc more))) part = refused (BadEscape offset (suc (suc (suc more))))

-- the byte at this offset, behind bytes that end like this
abbrev pub byte_read : ℕ → ℕ → Ending → ByteRead
byte_read offset byte (partly part false) = if byte == 3 then taken [] (partly part true) else put offset byte part
byte_read offset byte (partly part true) = escape_read offset byte part
byte_read offset byte ended = refused (AfterEnd offset)

-- ---- many bytes

-- the items that end in them, how those that are read end, and the fault of the first one that isn't
pub record Course : Type 0 where
  pub items : List Item
  pub ending : Ending
  pub fault : Option StreamFault

-- a byte, and what stands behind it
abbrev pub followed : Ending → ByteRead → (Ending → Course) → Course
followed ending (refused fault) rest = record { items = []; ending = ending; fault = Some fault }
followed ending (taken items next) rest =
    record { items = items ++ (rest next).items; ending = (rest next).ending; fault = (rest next).fault }

-- the bytes from this offset on, behind bytes that end like this
abbrev pub course : ℕ → List ℕ → Ending → Course
course offset [] ending = record { items = []; ending = ending; fault = None }
course offset (byte ∷ bytes) ending = followed ending (byte_read (capped offset) byte ending) (course (offset + 1) bytes)

-- ---- one piece

-- the items that end in it, the answer, and the reader behind it
pub record Given : Type 0 where
  pub items : List Item
  pub answer : Result Unit StreamFault
  pub reader : UnescapeValue

abbrev pub answer_of : Option StreamFault → Result Unit StreamFault
answer_of None = Ok tt
answer_of (Some fault) = Err fault

-- after a fault nothing more is read
abbrev pub course_of : Option StreamFault → List ℕ → UnescapeValue → Course
course_of None piece reader = course reader.offset piece reader.ending
course_of (Some fault) piece reader = record { items = []; ending = reader.ending; fault = Some fault }

abbrev pub given : ℕ → Course → Given
given offset c = record { items = c.items; answer = answer_of c.fault; reader = record { ending = c.ending; fault = c.fault; offset = offset } }

-- each byte of the piece is counted
unfoldable pub fed : List ℕ → UnescapeValue → Given
fed piece reader = given (capped (reader.offset + length piece)) (course_of reader.fault piece reader)
