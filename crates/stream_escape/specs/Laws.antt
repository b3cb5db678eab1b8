-- What holds of every stream.
use Rattle.std.specs.Prelude.{◌≡◌, ◌≢◌, ℕ, ◌+◌, ◌≤◌, ◌↔◌, List, [], ◌∷◌, ◌++◌, length, Bool, Option, None, Some, false, ◌⊎◌, Ok, Err}
use Rattle.std.specs.List.{concat}
use Rattle.stream_escape.specs.declared.stream.Item.{Item}
use Rattle.stream_escape.specs.declared.stream.Item.TheVariants.{Message, End}
use Rattle.stream_escape.specs.declared.stream.StreamFault.{StreamFault}
use Rattle.stream_escape.specs.declared.stream.StreamFault.TheVariants.{NoMemory}
use Rattle.stream_escape.specs.Stream.{most_message, framed, Ending, partly, ended, Reads, Cause, Refuses, fault_at}
use Rattle.stream_escape.specs.Value.{UnescapeValue, IsBetween, capped}
use Rattle.stream_escape.specs.Feeding.{Continues, Feeds, Fed}
use Rattle.stream_escape.specs.Fed.{Given, fed}

pub record AreSame (items others : List Item) (ending other : Ending) : Type 0 where
  pub items_same : items ≡ others
  pub ending_same : ending ≡ other

-- a list of bytes has one reading at most
abbrev pub OneReading : Type 0
OneReading = (bytes : List ℕ) (items others : List Item) (ending other : Ending)
    → Reads bytes items ending → Reads bytes others other → AreSame items others ending other

-- two refusals are one
pub record AreOne (items others : List Item) (ending other : Ending) (place elsewhere : ℕ) (cause reason : Cause) : Type 0 where
  pub items_same : items ≡ others
  pub ending_same : ending ≡ other
  pub place_same : place ≡ elsewhere
  pub cause_same : cause ≡ reason

-- a list of bytes has one refusal at most
abbrev pub OneFault : Type 0
OneFault = (bytes : List ℕ) (items others : List Item) (ending other : Ending) (place elsewhere : ℕ) (cause reason : Cause)
    → Refuses bytes items ending place cause → Refuses bytes others other elsewhere reason
    → AreOne items others ending other place elsewhere cause reason

-- no list of bytes is both read and refused
abbrev pub NotBoth : Type 0
NotBoth = (bytes : List ℕ) (items others : List Item) (ending other : Ending) (place : ℕ) (cause : Cause)
    → Reads bytes items ending → Refuses bytes others other place cause → ⊥

-- behind each list that ends like this, the bytes are read
pub record AreRead (old : Ending) (bytes : List ℕ) : Type 0 where
  pub items : List Item
  pub new : Ending
  pub continues : Continues old bytes items new

-- behind each list that ends like this, the bytes are refused at one of them, which has this index
pub record AreRefused (old : Ending) (bytes : List ℕ) : Type 0 where
  pub items : List Item
  pub new : Ending
  pub index : ℕ
  pub cause : Cause
  pub refuses : (before : List ℕ) (its : List Item) → Reads before its old
      → Refuses (before ++ bytes) (its ++ items) new (length before + index) cause

-- Any bytes behind a list that is read are read or refused. So each list of bytes has a reading or a refusal, since
-- the empty one is read.
abbrev pub EachGoesOn : Type 0
EachGoesOn = (old : Ending) (bytes : List ℕ) → AreRead old bytes ⊎ AreRefused old bytes

-- the bytes are refused, and the fault tells where and why
pub record IsFaultOf (bytes : List ℕ) (items : List Item) (ending : Ending) (fault : StreamFault) : Type 0 where
  pub place : ℕ
  pub cause : Cause
  pub told : fault ≡ fault_at (capped place) cause
  pub refuses : Refuses bytes items ending place cause

-- some front of the bytes is read
pub record IsFrontOf (bytes : List ℕ) (items : List Item) (ending : Ending) : Type 0 where
  pub front : List ℕ
  pub more : List ℕ
  pub split : bytes ≡ front ++ more
  pub reads : Reads front items ending

-- How the bytes are read: to their end where there is no fault, up to some place at want of memory, and else up to
-- the place of the fault.
abbrev pub IsReadingOf : List ℕ → List Item → Ending → Option StreamFault → Type 0
IsReadingOf bytes items ending None = Reads bytes items ending
IsReadingOf bytes items ending (Some NoMemory) = IsFrontOf bytes items ending
IsReadingOf bytes items ending (Some fault) = IsFaultOf bytes items ending fault

-- nothing was fed
abbrev pub fresh : UnescapeValue
fresh = record { ending = partly [] false; fault = None; offset = 0 }

-- Fed in any pieces, a stream gives the items and the fault that it has as a whole.
abbrev pub AnyPieces : Type 0
AnyPieces = (pieces : List (List ℕ)) (items : List Item) (new : UnescapeValue)
    → Fed fresh pieces [] items new → IsReadingOf (concat pieces) items new.ending new.fault

-- Unless memory was wanting, the same comes of a stream, and the same state, however it is cut.
abbrev pub AnyCuts : Type 0
AnyCuts = (pieces others : List (List ℕ)) (items its : List Item) (new later : UnescapeValue)
    → concat pieces ≡ concat others → Fed fresh pieces [] items new → Fed fresh others [] its later
    → new.fault ≢ Some NoMemory → later.fault ≢ Some NoMemory → (items ≡ its) × (new ≡ later)

-- no message ends in the bytes, and one has begun, possibly with nothing yet
pub record IsBegun (bytes : List ℕ) : Type 0 where
  pub part : List ℕ
  pub escape : Bool
  pub reads : Reads bytes [] (partly part escape)

-- a front of a whole message's bytes, short of the whole, has no message that ends
abbrev pub FrontOfFrame : Type 0
FrontOfFrame = (message front more : List ℕ) → length message ≤ most_message → framed message ≡ front ++ more → more ≢ [] → IsBegun front

-- ---- What a piece is fed as, as a function

-- `fed` is a call of `feed`
abbrev pub IsFeeding : Type 0
IsFeeding = (reader : UnescapeValue) (piece : List ℕ) (before : List Item)
    → Feeds reader piece before (before ++ (fed piece reader).items) (fed piece reader).answer (fed piece reader).reader

-- in which memory isn't wanting
abbrev pub NeverWants : Type 0
NeverWants = (reader : UnescapeValue) (piece : List ℕ) → reader.fault ≢ Some NoMemory → (fed piece reader).answer ≢ Err NoMemory

-- these items were given, and the bytes are read with this ending
pub record IsReadAs (items : List Item) (ending : Ending) (given : Given) : Type 0 where
  pub items_are : given.items ≡ items
  pub answer_is : given.answer ≡ Ok tt
  pub ending_is : given.reader.ending ≡ ending
  pub fault_is : given.reader.fault ≡ None

-- what is read behind the bytes that were read is what is given
abbrev pub ReadsAreFed : Type 0
ReadsAreFed = (reader : UnescapeValue) (before piece : List ℕ) (its items : List Item) (ending : Ending)
    → reader.fault ≡ None → Reads before its reader.ending → Reads (before ++ piece) (its ++ items) ending
    → IsReadAs items ending (fed piece reader)

-- a second piece behind what a first one gave
abbrev pub and_fed : List ℕ → Given → Given
and_fed piece first = record {
  items = first.items ++ (fed piece first.reader).items;
  answer = (fed piece first.reader).answer;
  reader = (fed piece first.reader).reader;
}

-- two pieces, fed one after the other, give what they give as one
abbrev pub ArePiecesOne : Type 0
ArePiecesOne = (reader : UnescapeValue) (first second : List ℕ) → fed (first ++ second) reader ≡ and_fed second (fed first reader)

-- ---- A frame that comes in parts

-- the reader stood between messages, and has read these bytes since, in which nothing ends
pub record HasRead (front : List ℕ) (reader : UnescapeValue) : Type 0 where
  pub fault : reader.fault ≡ None
  pub reads : Reads front [] reader.ending

-- one that stands between messages has read nothing
abbrev pub BeginsBetween : Type 0
BeginsBetween = (reader : UnescapeValue) → IsBetween reader ↔ HasRead [] reader

-- the part is read behind the front, and nothing ends in it
pub record IsPartRead (front part : List ℕ) (given : Given) : Type 0 where
  pub items_are : given.items ≡ []
  pub answer_is : given.answer ≡ Ok tt
  pub reader_at : HasRead (front ++ part) given.reader

-- this one message ends in the part, with its last byte
pub record IsFrameRead (message : List ℕ) (given : Given) : Type 0 where
  pub items_are : given.items ≡ Message message ∷ []
  pub answer_is : given.answer ≡ Ok tt
  pub reader_at : IsBetween given.reader

-- a part of a frame that ends short of the frame's end brings nothing
abbrev pub PartsBringNothing : Type 0
PartsBringNothing = (reader : UnescapeValue) (message front part more : List ℕ)
    → length message ≤ most_message → HasRead front reader → framed message ≡ front ++ part ++ more → more ≢ []
    → IsPartRead front part (fed part reader)

-- the part that ends it brings its message alone
abbrev pub LastPartsBringMessages : Type 0
LastPartsBringMessages = (reader : UnescapeValue) (message front part : List ℕ)
    → length message ≤ most_message → HasRead front reader → framed message ≡ front ++ part
    → IsFrameRead message (fed part reader)

-- the same of the end of the stream: its first byte brings nothing
abbrev pub EscapesBringNothing : Type 0
EscapesBringNothing = (reader : UnescapeValue) (front part more : List ℕ)
    → HasRead front reader → 3 ∷ 2 ∷ [] ≡ front ++ part ++ more → more ≢ []
    → IsPartRead front part (fed part reader)

-- and its last one brings the end
abbrev pub LastBytesBringTheEnd : Type 0
LastBytesBringTheEnd = (reader : UnescapeValue) (front part : List ℕ)
    → HasRead front reader → 3 ∷ 2 ∷ [] ≡ front ++ part
    → IsReadAs (End ∷ []) ended (fed part reader)
