-- Where a way has reached the agent its client has joined it.
use Rattle.std.proofs.Common.{◌≡◌, ℕ, ◌||◌, Bool, true, false, cond, List, [], ◌∷◌, refl}
use Rattle.chain_route.specs.Route.{connected, reached}
use Rattle.chain_route.specs.RouteValue.{RouteValue}
use Rattle.chain_route.specs.Runs.{Call, RouteRun, after_all, after_call, arrives_down, arrives_up, cuts, delivers, is_waiting, joined_by, joins, no_calls, reached_past, reaches, sends_down, sends_up, turns}

abbrev JoinsFirst : RouteRun → Type 0
JoinsFirst r = r.past.is_reached ≡ true → r.past.is_joined ≡ true

by_flag : (flag : Bool) (one other : RouteRun) → JoinsFirst one → JoinsFirst other → JoinsFirst (cond flag one other)
by_flag true one other first second = first
by_flag false one other first second = second

joined_first : (p : Bool × RouteValue) (r : RouteRun) → JoinsFirst r → JoinsFirst (joined_by p r.past)
joined_first (true, route) r first = first
joined_first (false, route) r first = λ reached. refl

call_first : (call : Call) (r : RouteRun) → JoinsFirst r → JoinsFirst (after_call call r)
call_first joins r first = by_flag (r.past.is_wanted || r.past.is_joined) r (joined_by (connected 0 r.route) r.past) first (joined_first (connected 0 r.route) r first)
call_first (reaches did) r first = by_flag (is_waiting r) (record { route = reached did r.route; past = reached_past did r.past }) r (λ reached. refl) first
call_first (sends_up outs) r first = by_flag r.past.is_joined _ r first first
call_first (sends_down outs) r first = by_flag r.past.is_reached _ r first first
call_first (arrives_up count) r first = first
call_first (arrives_down count) r first = first
call_first (delivers side at count) r first = first
call_first (turns side at) r first = first
call_first (cuts hop) r first = first

all_first : (calls : List Call) (r : RouteRun) → JoinsFirst r → JoinsFirst (after_all calls r)
all_first [] r first = first
all_first (call ∷ calls) r first = all_first calls (after_call call r) (call_first call r first)

pub joined_where_reached : (adds : ℕ) (calls : List Call) → JoinsFirst (after_all calls (no_calls adds))
joined_where_reached adds calls = all_first calls (no_calls adds) (λ reached. cc)
