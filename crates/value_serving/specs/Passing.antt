-- What came for a value-add passes through it.
use Rattle.std.specs.Prelude.{ℕ, zero, suc, ◌+◌, Bool, true, false, [], length, Option, None, Some, Ok, Err, if◌then◌else◌}
use Rattle.serving_wires.specs.declared.intake.Came.{Came}
use Rattle.value_node.specs.Value.{connect_failed, connected}
use Rattle.value_node.specs.ValueValue.{ValueValue}
use Rattle.value_node.specs.declared.states.Side.{Side}
use Rattle.value_node.specs.declared.states.Side.TheVariants.{Below, Above}
use Rattle.value_node.specs.declared.states.ValueTurn.{ValueTurn}
use Rattle.value_node.specs.declared.states.ValueTurn.TheVariants.{Nothing, Took, Connect}
use Rattle.value_serving.specs.Adds.{bytes_for, can_give, emptied, is_over, next_given, one_taken, waiting_on, waits, with_node}
use Rattle.serving_wires.specs.Order.{closes, leaves, queues}
use Rattle.serving_wires.specs.Process.{Answer, Process, asks, done, tells, and_then}
use Rattle.value_serving.specs.declared.add.Add.{Add}

-- ---- the answer of a connect: where there is a connection it is the value-add's wire above, and an earlier one is left, with
-- what came on it and waits

abbrev pub leaving : {A : Type 0} → Option ℕ → Process A → Process A
leaving None p = p
leaving (Some earlier) p = tells (leaves earlier) p

abbrev pub connected_on : ℕ → Add → Add
connected_on channel a = record a { node = connected a.node; above = Some channel; upper = [] }

abbrev pub answered : Answer → Add → Process Add
answered (Ok channel) a = leaving a.above (done (connected_on channel a))
answered (Err refusal) a = done (with_node (connect_failed a.node) a)

-- a connection is asked for
abbrev pub connecting : Add → Process Add
connecting a = asks (λ answer. answered answer a)

-- ---- messages are taken

abbrev pub after_turn : ValueTurn × ValueValue → Add → (Add → Process Add) → Process Add
after_turn (Nothing, v) a later = done (with_node v a)
after_turn (Took, v) a later = later (with_node v a)
after_turn (Connect, v) a later = asks (λ answer. and_then (answered answer (with_node v a)) later)

-- so many, as far as there are so many, and only while nothing that waits can be given
abbrev pub taken : ℕ → Add → Process Add
taken zero a = done a
taken (suc count) a = if can_give a then done a else after_turn (one_taken a.node) a (λ next. taken count next)

-- until something that waits can be given, and else all that can be taken
unfoldable pub room_made : Add → Process Add
room_made a = and_then (taken (waiting_on Above a) a) (λ next. taken (waiting_on Below a) next)

-- ---- what waits is given as soon as there is room for it, before the next message is taken; behind the last that can be given
-- all messages are taken that can be

abbrev pub after_giving : Bool × Add → (Add → Process Add) → Process Add
after_giving (false, a) later = done a
after_giving (true, a) later = later a

abbrev pub given_so_many : ℕ → Add → Process Add
given_so_many zero a = done a
given_so_many (suc count) a = after_giving (next_given a) (λ next. and_then (room_made next) (λ last. given_so_many count last))

abbrev pub count_of : Add → ℕ
count_of a = length a.lower + length a.upper

unfoldable pub passed_on : Add → Process Add
passed_on a = given_so_many (count_of a) a

-- ---- what the value-add has to send is queued; behind a side on which nothing more is said nothing more will be queued

abbrev pub closing : {A : Type 0} → Bool → ℕ → Process A → Process A
closing true channel p = tells (closes channel) p
closing false channel p = p

abbrev pub sent_on : Side → ℕ → Add → Process Add
sent_on side channel a =
    tells (queues channel (bytes_for side a.node)) (closing (is_over side a.node.relay.bind) channel (done (with_node (emptied side a.node) a)))

abbrev pub sent_above : Option ℕ → Add → Process Add
sent_above None a = done a
sent_above (Some channel) a = sent_on Above channel a

unfoldable pub gathered : Add → Process Add
gathered a = and_then (sent_on Below a.below a) (λ next. sent_above next.above next)

-- ---- something comes on a side

unfoldable pub heard : Side → Came → Add → Process Add
heard side what a = and_then (passed_on (waits side what a)) gathered
