-- An end begins with its Hello to be sent, and waits for that of the other side.
use Rattle.std.specs.Prelude.{ℕ, pos, false, List, [], ◌∷◌, None, Option, option_map, find, ◌==◌}
use Rattle.stream_escape.specs.Laws.{fresh}
use Rattle.tcf_message.specs.Message.{event}
use Rattle.channel_core.specs.EndValue.{EndValue}
use Rattle.channel_core.specs.Wire.{hello, locator, said}
use Rattle.channel_core.specs.declared.states.EndState.TheVariants.{Opening}

-- with a Hello of this data and this mark
abbrev pub new_end : {T : Type 0} → List ℕ → Option ℕ → EndValue T
new_end body mark = record {
  state = Opening;
  redirect = None;
  stream = fresh;
  inbox = [];
  stop = None;
  came = 0;
  pending = [];
  last = 0;
  held = [];
  queued = said (event locator hello body) mark ∷ [];
  told = pos 0;
  is_loud = false;
  is_spent = false;
}

-- the tag of the pending command with this token
abbrev pub tag_of : {T : Type 0} → ℕ → List (ℕ × T) → Option T
tag_of token pending = option_map (λ row. row.1) (find (λ row. row.0 == token) pending)
