-- What a process comes to, whatever connects are answered; and what a program keeps, whatever is heard.
use Rattle.std.proofs.Common.{List, [], ◌∷◌}
use Rattle.std.specs.Prelude.{fold}
use Rattle.std.specs.List.{AllByRecursion}
use Rattle.tcf_wires.specs.declared.event.WireEvent.{WireEvent}
use Rattle.serving_wires.specs.Process.{Answer, Process, and_then, asks, done, tells}
use Rattle.serving_wires.specs.Program.{Program}
use Rattle.serving_wires.specs.Row.{Row}
use Rattle.serving_wires.specs.Standing.{Heard, State, Wire, after, after_one, answered, at_first, came, landed, rests, sent_with, standing_in, waits, wires_after, wires_with}

abbrev pub ComesTo : {A : Type 0} → (A → Type 0) → Process A → Type 0
ComesTo Q (done a) = Q a
ComesTo Q (tells order p) = ComesTo Q p
ComesTo Q (asks next) = (answer : Answer) → ComesTo Q (next answer)

pub comes_then : {A B : Type 0} → (Q : A → Type 0) (R : B → Type 0) (p : Process A) (later : A → Process B) → ComesTo Q p → ((a : A) → Q a → ComesTo R (later a)) → ComesTo R (and_then p later)
comes_then Q R (done a) later comes so = so a comes
comes_then Q R (tells order p) later comes so = comes_then Q R p later comes so
comes_then Q R (asks next) later comes so = λ answer. comes_then Q R (next answer) later (comes answer) so

pub comes_weaker : {A : Type 0} → (Q R : A → Type 0) (p : Process A) → ((a : A) → Q a → R a) → ComesTo Q p → ComesTo R p
comes_weaker Q R (done a) so comes = so a comes
comes_weaker Q R (tells order p) so comes = comes_weaker Q R p so comes
comes_weaker Q R (asks next) so comes = λ answer. comes_weaker Q R (next answer) so (comes answer)

-- ---- a program keeps what it comes to again with each event

abbrev Keeps : {A : Type 0} → (A → Type 0) → State A → Type 0
Keeps Q (rests s) = Q s.served
Keeps Q (waits s next) = Q s.served × ((answer : Answer) → ComesTo Q (next answer))

landed_keeps : {A : Type 0} → (Q : A → Type 0) (a : A) (sent : List (Row Wire)) (p : Process A) → Q a → ComesTo Q p → Keeps Q (landed a sent p)
landed_keeps Q a sent (done new) keeps comes = comes
landed_keeps Q a sent (tells order p) keeps comes = landed_keeps Q a (sent_with order sent) p keeps comes
landed_keeps Q a sent (asks next) keeps comes = (keeps, comes)

abbrev pub KeepsEach : {A : Type 0} → Program A → (A → Type 0) → (Heard → Type 0) → Type 0
KeepsEach {A} program Q Can = (event : WireEvent) (a : A) → Can (came event) → Q a → ComesTo Q (program.behaviour.handled event a)

one_keeps : {A : Type 0} → (program : Program A) (Q : A → Type 0) (Can : Heard → Type 0) → KeepsEach program Q Can → (state : State A) (heard : Heard) → Can heard → Keeps Q state
    → Keeps Q (after_one program state heard)
one_keeps program Q Can each (rests s) (came event) can keeps =
    landed_keeps Q s.served (wires_with event s.sent) (program.behaviour.handled event s.served) keeps (each event s.served can keeps)
one_keeps program Q Can each (rests s) (answered answer) can keeps = keeps
one_keeps program Q Can each (waits s next) (came event) can keeps = keeps
one_keeps program Q Can each (waits s next) (answered answer) can keeps = landed_keeps Q s.served (wires_after answer s.sent) (next answer) keeps.0 (keeps.1 answer)

all_keep : {A : Type 0} → (program : Program A) (Q : A → Type 0) (Can : Heard → Type 0) → KeepsEach program Q Can → (heard : List Heard) (state : State A) → AllByRecursion Can heard → Keeps Q state
    → Keeps Q (fold (after_one program) state heard)
all_keep program Q Can each [] state can keeps = keeps
all_keep program Q Can each (h ∷ heard) state can keeps = all_keep program Q Can each heard (after_one program state h) can.1 (one_keeps program Q Can each state h can.0 keeps)

stands : {A : Type 0} → (Q : A → Type 0) (state : State A) → Keeps Q state → Q (standing_in state).served
stands Q (rests s) keeps = keeps
stands Q (waits s next) keeps = keeps.0

pub stands_so : {A : Type 0} → (program : Program A) (Q : A → Type 0) (Can : Heard → Type 0) → KeepsEach program Q Can → Q program.first → ComesTo Q program.begins
    → (heard : List Heard) → AllByRecursion Can heard → Q (standing_in (after program heard)).served
stands_so program Q Can each first begins heard can =
    stands Q (after program heard) (all_keep program Q Can each heard (at_first program) can (landed_keeps Q program.first [] program.begins first begins))
