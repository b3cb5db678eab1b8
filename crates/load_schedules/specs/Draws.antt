-- Numbers that are drawn one behind another, from a state of 64 bits.
use Rattle.std.specs.Prelude.{ℕ, zero, suc, ◌+◌, ◌*◌, ◌/◌, ◌%◌, ◌^◌}

-- the state behind this one
unfoldable pub next_state : ℕ → ℕ
next_state state = (state * 6364136223846793005 + 1442695040888963407) % 2 ^ 64

-- what a state answers below a limit
unfoldable pub answer : ℕ → ℕ → ℕ
answer limit state = state / 2 ^ 33 % limit

-- the state that so many draws lead to
abbrev pub after_draws : ℕ → ℕ → ℕ
after_draws zero state = state
after_draws (suc draws) state = after_draws draws (next_state state)

-- what the draw of this number from a state on, counted from 1, answers below a limit
abbrev pub draw : ℕ → ℕ → ℕ → ℕ
draw number limit state = answer limit (after_draws number state)
