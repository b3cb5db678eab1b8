-- Wire by wire, what is queued is put, and wires are shut.
use Rattle.std.specs.Prelude.{ℕ, ◌≡◌, Bool, false, not, List, [], ◌∷◌, ◌++◌, filter, Option, None, Some}
use Rattle.tcf_wires.specs.declared.call.WireCall.{WireCall}
use Rattle.serving_wires.specs.Outbox.{Flushes, IsGivenUp}
use Rattle.serving_wires.specs.OutboxValue.{OutboxValue}
use Rattle.serving_wires.specs.Row.{Row}
use Rattle.serving_wires.specs.Rows.{item_at, with_item}

-- an item has the outbox of its wire
pub record HasOutbox (T : Type 0) : Type 0 where
  pub outbox : T → OutboxValue
  pub with_outbox : OutboxValue → T → T

-- it is nothing else
abbrev pub its_own : HasOutbox OutboxValue
its_own = record { outbox = λ outbox. outbox; with_outbox = λ outbox old. outbox }

-- the calls for each wire, in order
pub data FlushesAll {T : Type 0} (has : HasOutbox T) : List (Row T) → List (Row T) → List WireCall → Type 0 where
  no_rows : FlushesAll has [] [] []
  one_more : (row : Row T) (outbox : OutboxValue) (olds news : List (Row T)) (first rest : List WireCall)
      → Flushes (has.outbox row.item) outbox first → FlushesAll has olds news rest
      → FlushesAll has (row ∷ olds) (with_item (has.with_outbox outbox row.item) row ∷ news) (first ++ rest)

-- those of the first wires, and then memory was wanting
pub record GivesUpAll {T : Type 0} (has : HasOutbox T) (olds : List (Row T)) (calls : List WireCall) : Type 0 where
  pub before : List (Row T)
  pub row : Row T
  pub behind : List (Row T)
  pub split : olds ≡ before ++ row ∷ behind
  pub news : List (Row T)
  pub first : List WireCall
  pub flushes : FlushesAll has before news first
  pub rest : List WireCall
  pub given_up : IsGivenUp (has.outbox row.item) rest
  pub called : calls ≡ first ++ rest

-- a row is kept until its wire was shut
abbrev pub is_kept : {T : Type 0} → HasOutbox T → Row T → Bool
is_kept has row = not (has.outbox row.item).is_shut

abbrev pub shut_in : {T : Type 0} → HasOutbox T → Option T → Bool
shut_in has None = false
shut_in has (Some item) = (has.outbox item).is_shut

abbrev pub is_shut_at : {T : Type 0} → HasOutbox T → ℕ → List (Row T) → Bool
is_shut_at has place rows = shut_in has (item_at place rows)

-- those of wires that were shut are forgotten
pub record FlushesKept {T : Type 0} (has : HasOutbox T) (olds news : List (Row T)) (calls : List WireCall) : Type 0 where
  pub flushed : List (Row T)
  pub flushes : FlushesAll has olds flushed calls
  pub kept : news ≡ filter (is_kept has) flushed
