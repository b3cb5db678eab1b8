-- What one call of `feed` does, and many of them.
use Rattle.std.specs.Prelude.{◌≡◌, ℕ, ◌+◌, List, [], ◌∷◌, ◌++◌, length, Result, Ok, Err, IfSome, IfNone}
use Rattle.std.specs.Result.{result_err}
use Rattle.stream_escape.specs.declared.stream.Item.{Item}
use Rattle.stream_escape.specs.declared.stream.StreamFault.{StreamFault}
use Rattle.stream_escape.specs.declared.stream.StreamFault.TheVariants.{NoMemory}
use Rattle.stream_escape.specs.Stream.{Ending, Reads, Cause, Refuses, fault_at}
use Rattle.stream_escape.specs.Value.{UnescapeValue, capped}

-- Whatever list ends like the first ending, with these bytes behind it it has these further items and ends like the
-- second one.
pub record Continues (old : Ending) (bytes : List ℕ) (items : List Item) (new : Ending) : Type 0 where
  pub reads : (before : List ℕ) (its : List Item) → Reads before its old → Reads (before ++ bytes) (its ++ items) new

-- Whatever list ends like the first ending, with the piece behind it it is refused at this index of the piece, and
-- its further items before that are these. The piece starts at this offset.
pub record Stops (start : ℕ) (old : Ending) (piece : List ℕ) (items : List Item) (new : Ending) (fault : StreamFault) : Type 0 where
  pub index : ℕ
  pub cause : Cause
  pub told : fault ≡ fault_at (capped (start + index)) cause
  pub refuses : (before : List ℕ) (its : List Item) → Reads before its old
      → Refuses (before ++ piece) (its ++ items) new (length before + index) cause

-- the piece is read up to some place of it
pub record Breaks (old : Ending) (piece : List ℕ) (items : List Item) (new : Ending) : Type 0 where
  pub front : List ℕ
  pub more : List ℕ
  pub split : piece ≡ front ++ more
  pub continues : Continues old front items new

-- what an answer tells of a piece: it is read to its end, or memory was wanting within it, or it is refused
abbrev pub Tells : ℕ → Ending → List ℕ → List Item → Result Unit StreamFault → Ending → Type 0
Tells start old piece items (Ok done) new = Continues old piece items new
Tells start old piece items (Err NoMemory) new = Breaks old piece items new
Tells start old piece items (Err fault) new = Stops start old piece items new fault

-- the items that end in the piece are appended, and the answer tells how it is read
pub record Takes (start : ℕ) (old : Ending) (piece : List ℕ) (before after : List Item) (answer : Result Unit StreamFault) (new : Ending) : Type 0 where
  pub items : List Item
  pub appended : after ≡ before ++ items
  pub tells : Tells start old piece items answer new

-- a fault that was answered is answered again, and nothing changes
pub record Repeats (fault : StreamFault) (old : Ending) (before after : List Item) (answer : Result Unit StreamFault) (new : Ending) : Type 0 where
  pub again : answer ≡ Err fault
  pub nothing : after ≡ before
  pub ending : new ≡ old

-- one call of `feed`
pub record Feeds (old : UnescapeValue) (piece : List ℕ) (before after : List Item) (answer : Result Unit StreamFault) (new : UnescapeValue) : Type 0 where
  -- each byte of the piece is counted, whatever the answer
  pub offset : new.offset ≡ capped (old.offset + length piece)
  -- the fault that is answered is kept
  pub fault : new.fault ≡ result_err answer
  -- where no fault was answered before, the piece is read
  pub first : IfNone old.fault (Takes old.offset old.ending piece before after answer new.ending)
  -- where one was, it is answered again
  pub again : IfSome old.fault (λ fault. Repeats fault old.ending before after answer new.ending)

-- the pieces were fed one after another
abbrev pub Fed : UnescapeValue → List (List ℕ) → List Item → List Item → UnescapeValue → Type 0
Fed old [] before after new = (after ≡ before) × (new ≡ old)
Fed old (piece ∷ pieces) before after new =
    (between : List Item) × (middle : UnescapeValue) × (answer : Result Unit StreamFault)
    × Feeds old piece before between answer middle × Fed middle pieces between after new
