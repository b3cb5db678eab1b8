-- The steps that are drawn.
use Rattle.std.specs.Prelude.{ℕ, zero, suc, ◌+◌, ◌*◌, ◌==◌, List, [], ◌∷◌, if◌then◌else◌, codes, decimal}
use Rattle.tcf_schedules.specs.declared.schedule.ChainHead.{ChainHead}
use Rattle.tcf_schedules.specs.Plan.{Plan, send, deliver, tick, rounds, adds_at}
use Rattle.tcf_schedules.specs.Schedule.{head_of}
use Rattle.tcf_schedules.specs.Words.{data_of}
use Rattle.tcf_values.specs.declared.ids.ContextId.TheVariants.{Thread}
use Rattle.load_schedules.specs.Draws.{after_draws, draw}

-- the chains A, B and C, with no value-add, one and two; a step names them by their places, from 0
abbrev pub chain_heads : List ChainHead
chain_heads = head_of (codes "A") 0 ∷ head_of (codes "B") 1 ∷ head_of (codes "C") 2 ∷ []

-- a chain has a hop more than value-adds
abbrev pub hops_of : ℕ → ℕ
hops_of chain = adds_at chain_heads chain + 1

-- the client of a chain sends a command: its service, its name, and its parts as the words of a line say them
abbrev pub sends : ℕ → List ℕ → List ℕ → List (List ℕ) → Plan
sends chain service name args = send chain service name (data_of args)

-- ---- What a draw below 8 gives on a chain

abbrev pub resume : ℕ → Plan
resume chain = sends chain (codes "RunControl") (codes "resume") (codes "\"P1.1\"" ∷ codes "0" ∷ codes "1" ∷ [])

abbrev pub suspend : ℕ → Plan
suspend chain = sends chain (codes "RunControl") (codes "suspend") (codes "\"P1.1\"" ∷ [])

abbrev pub get_state : ℕ → Plan
get_state chain = sends chain (codes "RunControl") (codes "getState") (codes "\"P1.1\"" ∷ [])

-- 16 bytes from an address on
abbrev pub get_memory : ℕ → ℕ → Plan
get_memory chain address =
    sends chain (codes "Memory") (codes "get") (codes "\"P1\"" ∷ decimal address ∷ codes "1" ∷ codes "16" ∷ codes "0" ∷ [])

-- 4 bytes from an address on
abbrev pub set_memory : ℕ → ℕ → Plan
set_memory chain address =
    sends chain (codes "Memory") (codes "set")
    (codes "\"P1\"" ∷ decimal address ∷ codes "1" ∷ codes "4" ∷ codes "0" ∷ codes "\"BQAAAA==\"" ∷ [])

abbrev pub ticked : Plan
ticked = tick (Thread 1 1)

-- some bytes arrive: at a hop that is drawn below their number, up where a draw below 2 answers 0, and 1 to 200 of them
abbrev pub delivery : ℕ → ℕ → Plan
delivery chain state = deliver chain (draw 1 (hops_of chain) state) (draw 2 2 state == 0) (1 + draw 3 200 state)

-- what else is drawn for it is drawn from this state on
abbrev pub given : ℕ → ℕ → ℕ → Plan
given kind chain state =
    if kind == 0 then resume chain
    else if kind == 1 then suspend chain
    else if kind == 2 then get_state chain
    else if kind == 3 then get_memory chain (4 * draw 1 64 state)
    else if kind == 4 then set_memory chain (1024 + 4 * draw 1 64 state)
    else if kind == 5 then ticked
    else if kind == 6 then delivery chain state
    else rounds 1

-- how many draws that is
abbrev pub draws_of : ℕ → ℕ
draws_of kind = if kind == 3 then 1 else if kind == 4 then 1 else if kind == 6 then 3 else 0

-- ---- A step, and a number of them

-- the chain is drawn below 3, then what it is given is drawn below 8, and then what else that needs
unfoldable pub drawn_step : ℕ → Plan
drawn_step state = given (draw 2 8 state) (draw 1 3 state) (after_draws 2 state)

-- the state that all these draws lead to
unfoldable pub after_step : ℕ → ℕ
after_step state = after_draws (draws_of (draw 2 8 state)) (after_draws 2 state)

-- so many steps, each drawn from the state that the one before it leads to
unfoldable pub drawn_steps : ℕ → ℕ → List Plan
drawn_steps zero state = []
drawn_steps (suc count) state = drawn_step state ∷ drawn_steps count (after_step state)
