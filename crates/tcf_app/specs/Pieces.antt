-- How a file is shown that is read in pieces.
use Rattle.std.specs.Prelude.{◌≡◌, ◌≢◌, ℕ, ◌+◌, List, [], ◌∷◌, length, Option, Some, None, Result, Ok, Err}
use Rattle.std.specs.Result.{result_err}
use Rattle.stream_escape.specs.declared.stream.Item.{Item}
use Rattle.stream_escape.specs.declared.stream.Item.TheVariants.{Message, End}
use Rattle.stream_escape.specs.declared.stream.StreamFault.{StreamFault}
use Rattle.stream_escape.specs.declared.stream.StreamFault.TheVariants as faults
use Rattle.stream_escape.specs.Stream.{framed}
use Rattle.stream_escape.specs.Value.{UnescapeValue, capped}
use Rattle.stream_escape.specs.Feeding.{Tells}
use Rattle.tcf_app.specs.declared.exit.BadPlace.{BadPlace}
use Rattle.tcf_app.specs.declared.exit.StreamWhat.TheVariants.{Escape, Long, AfterEnd}
use Rattle.tcf_app.specs.Show.{shown_items}

-- the bytes of an item on the stream
abbrev pub frame_length : Item → ℕ
frame_length (Message bytes) = length (framed bytes)
frame_length End = 0

abbrev pub frames_length : List Item → ℕ
frames_length [] = 0
frames_length (item ∷ items) = frame_length item + frames_length items

-- what is bad behind the items of a piece
abbrev pub bad_behind : Result Unit StreamFault → Option BadPlace
bad_behind (Ok done) = None
bad_behind (Err (faults.BadEscape offset byte)) = Some (record { offset = offset; what = Escape })
bad_behind (Err (faults.TooLong offset)) = Some (record { offset = offset; what = Long })
bad_behind (Err (faults.AfterEnd offset)) = Some (record { offset = offset; what = AfterEnd })
bad_behind (Err faults.NoMemory) = None

-- A piece is read behind what was read before, its items are shown, and the place of the next message is known
-- unless the stream is bad.
pub record ShowsPiece (old : UnescapeValue) (place : ℕ) (piece : List ℕ) (bad : Option BadPlace) (text : List ℕ) (new : UnescapeValue) (next : ℕ) : Type 0 where
  pub items : List Item
  pub answer : Result Unit StreamFault
  pub tells : Tells old.offset old.ending piece items answer new.ending
  pub remembered : answer ≢ Err faults.NoMemory
  pub fault : new.fault ≡ result_err answer
  pub offset : new.offset ≡ capped (old.offset + length piece)
  pub text_is : text ≡ (shown_items place items (bad_behind answer)).text
  pub bad_is : bad ≡ (shown_items place items (bad_behind answer)).bad
  pub next_is : bad ≡ None → next ≡ capped (place + frames_length items)
