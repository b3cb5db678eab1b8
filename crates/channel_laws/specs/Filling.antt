-- How the inbox of an end fills, a piece at a time.
use Rattle.std.specs.Prelude.{ℕ, ◌≡◌, ◌+◌, ◌≤◌, true, List, [], ◌∷◌, ◌++◌, length, map, Option}
use Rattle.std.specs.List.{AllByRecursion}
use Rattle.stream_escape.specs.Fed.{fed}
use Rattle.stream_escape.specs.Value.{UnescapeValue}
use Rattle.stream_escape.specs.declared.stream.Item.{Item}
use Rattle.stream_escape.specs.declared.stream.Item.TheVariants.{Message, End}
use Rattle.channel_core.specs.EndValue.{EndValue}
use Rattle.channel_core.specs.Receiving.{delivered, is_over, waiting_in}
use Rattle.channel_core.specs.declared.held.Arrived.{Arrived}
use Rattle.list_laws.specs.Fronts.{IsSubsequenceOf}

-- the messages among the items, in order
abbrev pub messages_of : List Item → List (List ℕ)
messages_of [] = []
messages_of (Message raw ∷ items) = raw ∷ messages_of items
messages_of (End ∷ items) = messages_of items

-- the messages that end in the piece
abbrev pub ending_in : List ℕ → UnescapeValue → List (List ℕ)
ending_in piece reader = messages_of (fed piece reader).items

-- By a piece with this mark the inbox gets entries behind those that it has: some of the messages that end in the
-- piece, in order, each at most once. There is at most one last entry, and behind one, or where the end is closed,
-- nothing comes.
pub record FillsBy {T : Type 0} (piece : List ℕ) (mark : Option ℕ) (before after : EndValue T) : Type 0 where
  pub more : List Arrived
  pub inbox : after.inbox ≡ before.inbox ++ more
  pub messages : IsSubsequenceOf (map (λ a. a.incoming.raw) more) (ending_in piece before.stream)
  pub marks : AllByRecursion (λ a. a.incoming.mark ≡ mark) more
  pub waiting : waiting_in after ≤ waiting_in before + (length (ending_in piece before.stream) + 1)
  pub over : is_over before ≡ true → (more ≡ []) × (after.stop ≡ before.stop)

-- whatever the end and the piece
abbrev pub EachPieceFillsSo : Type 0 → Type 0
EachPieceFillsSo T =
    (piece : List ℕ) (mark : Option ℕ) (e : EndValue T) → FillsBy piece mark e (delivered piece mark e)
