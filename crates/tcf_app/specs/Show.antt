-- What `show` makes of a file: the lines of its messages, and the place where it is bad, if it is.
use Rattle.std.specs.Prelude.{◌≡◌, ℕ, ◌+◌, List, [], ◌∷◌, ◌++◌, length, codes, Option, Some, None, Result, Ok, Err, if◌then◌else◌}
use Rattle.tcf_outside.specs.Sink.{SinkSeen, Took, TookFront}
use Rattle.stream_escape.specs.declared.stream.Item.{Item}
use Rattle.stream_escape.specs.declared.stream.Item.TheVariants.{Message, End}
use Rattle.stream_escape.specs.Stream.{Ending, framed, Reads, Cause, bad_escape, too_long, after_end, Refuses}
use Rattle.stream_escape.specs.Value.{capped, is_inside}
use Rattle.tcf_message.specs.declared.message.MessageFault.{MessageFault}
use Rattle.tcf_message.specs.declared.message.MessageFault.TheVariants as faults
use Rattle.tcf_message.specs.Message.{MessageValue, reading}
use Rattle.tcf_text.specs.Shown.{message_line}
use Rattle.tcf_app.specs.declared.exit.BadPlace.{BadPlace}
use Rattle.tcf_app.specs.declared.exit.StreamWhat.{StreamWhat}
use Rattle.tcf_app.specs.declared.exit.StreamWhat.TheVariants as whats

-- the lines that are printed, and then the bad place, at most one
pub record Shown : Type 0 where
  pub text : List ℕ
  pub bad : Option BadPlace

-- a place of the file, as far as a u64 counts, and what is bad there
abbrev pub bad_at : ℕ → StreamWhat → BadPlace
bad_at offset what = record { offset = capped offset; what = what }

-- what is bad of a message that doesn't read
abbrev pub what_of : MessageFault → StreamWhat
what_of faults.Empty = whats.Empty
what_of (faults.Unended place) = whats.Field
what_of (faults.Kind byte) = whats.Kind
what_of (faults.Token size) = whats.Token
what_of faults.Level = whats.Level
what_of (faults.Trailing place) = whats.Trailing
what_of (faults.Body size) = whats.Body

-- what is bad of a byte that isn't read
abbrev pub what_for : Cause → StreamWhat
what_for (bad_escape byte) = whats.Escape
what_for too_long = whats.Long
what_for after_end = whats.AfterEnd

unfoldable pub eos_line : List ℕ
eos_line = codes "EOS\n"

-- nothing is shown, and nothing is bad
abbrev pub nothing : Shown
nothing = record { text = []; bad = None }

-- a line, and then what is shown behind it
abbrev pub onto : List ℕ → Shown → Shown
onto line later = record { text = line ++ later.text; bad = later.bad }

-- a message that begins at this place, with what is shown behind it; one that doesn't read is the bad place
abbrev pub shown_message : ℕ → Result MessageValue MessageFault → Shown → Shown
shown_message place (Ok message) later = onto (message_line message) later
shown_message place (Err fault) later = record { text = []; bad = Some (bad_at place (what_of fault)) }

-- Items of which the first begins at this place, and what is bad behind the last one. Nothing follows an end.
abbrev pub shown_items : ℕ → List Item → Option BadPlace → Shown
shown_items place [] behind = record { text = []; bad = behind }
shown_items place (Message bytes ∷ items) behind = shown_message place (reading bytes) (shown_items (place + length (framed bytes)) items behind)
shown_items place (End ∷ items) behind = onto eos_line (shown_items place items behind)

-- a file of so many bytes that ends within a message or an escape is bad there
abbrev pub unended : ℕ → Ending → Option BadPlace
unended size ending = if is_inside ending then Some (bad_at size whats.Unended) else None

-- The file is shown so: it is read to its end, or up to a byte that isn't read. A message that doesn't read stands
-- before that byte, so it is the bad place then.
pub data IsShown (file : List ℕ) (shown : Shown) : Type 0 where
  whole : (items : List Item) (ending : Ending)
      → Reads file items ending → shown ≡ shown_items 0 items (unended (length file) ending)
      → IsShown file shown
  broken : (items : List Item) (ending : Ending) (place : ℕ) (cause : Cause)
      → Refuses file items ending place cause → shown ≡ shown_items 0 items (Some (bad_at place (what_for cause)))
      → IsShown file shown

-- the file is shown with this bad place, or with none, and exactly its lines were put
abbrev pub PutsLines : List ℕ → Option BadPlace → SinkSeen → SinkSeen → Type 0
PutsLines file bad before after = (text : List ℕ) × IsShown file (record { text = text; bad = bad }) × Took text before after

-- a front of the lines that the file is shown as was put
abbrev pub PutsPart : List ℕ → SinkSeen → SinkSeen → Type 0
PutsPart file before after = (shown : Shown) × IsShown file shown × TookFront shown.text before after

-- the law: each file is shown in one way,
abbrev pub IsShownOnce : Type 0
IsShownOnce = (file : List ℕ) (shown other : Shown) → IsShown file shown → IsShown file other → shown ≡ other

-- and in some way
abbrev pub EachIsShown : Type 0
EachIsShown = (file : List ℕ) → (shown : Shown) × IsShown file shown
