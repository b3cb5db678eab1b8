-- What is served over wires: a program that does something first, and then something with each event.
use Rattle.std.specs.Prelude.{ℕ, List}
use Rattle.tcf_wires.specs.declared.event.WireEvent.{WireEvent}
use Rattle.serving_wires.specs.Process.{Process}

-- whom it connects to, where it asks for a connection, and what it does with each event
pub record Behaviour (A : Type 0) : Type 0 where
  pub peer : A → List ℕ
  pub handled : WireEvent → A → Process A

-- how it stands before all else, and what it does before the first event
pub record Program (A : Type 0) : Type 0 where
  pub behaviour : Behaviour A
  pub first : A
  pub begins : Process A

-- it connects to one peer, the same from first to last
abbrev pub peer_of : {A : Type 0} → Program A → List ℕ
peer_of program = program.behaviour.peer program.first

-- a program that behaves so, however it begins
abbrev pub program_of : {A : Type 0} → Behaviour A → A → Process A → Program A
program_of behaviour first begins = record { behaviour = behaviour; first = first; begins = begins }
