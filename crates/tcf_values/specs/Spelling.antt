-- How processes, threads and registers are spelled (TCF services RunControl and Registers: the agent chooses).
use Rattle.std.specs.Prelude.{ℕ, ◌≡◌, ◌≤◌, ◌<◌, ◌^◌, ◌==◌, List, ◌++◌, if◌then◌else◌, codes, decimal}
use Rattle.tcf_values.specs.declared.ids.ContextId.{ContextId}
use Rattle.tcf_values.specs.declared.ids.ContextId.TheVariants.{Process, Thread}
use Rattle.tcf_values.specs.declared.ids.RegisterId.{RegisterId}

-- the number of a process or of a thread
abbrev pub IsNumber : ℕ → Type 0
IsNumber n = (1 ≤ n) × (n < 2 ^ 32)

abbrev pub IsContext : ContextId → Type 0
IsContext (Process process) = IsNumber process
IsContext (Thread process thread) = IsNumber process × IsNumber thread

abbrev pub IsRegister : RegisterId → Type 0
IsRegister id = IsNumber id.process × IsNumber id.thread × (id.index ≤ 32)

-- P1, and P1.1
abbrev pub context_spelling : ContextId → List ℕ
context_spelling (Process process) = codes "P" ++ decimal process
context_spelling (Thread process thread) = codes "P" ++ (decimal process ++ (codes "." ++ decimal thread))

-- x0 to x31, and pc for 32
abbrev pub register_name : ℕ → List ℕ
register_name index = if index == 32 then codes "pc" else codes "x" ++ decimal index

-- P1.1.x0
abbrev pub register_spelling : RegisterId → List ℕ
register_spelling id =
    codes "P" ++ (decimal id.process ++ (codes "." ++ (decimal id.thread ++ (codes "." ++ register_name id.index))))

-- the text is the spelling of this ID
abbrev pub SpellsContext : List ℕ → ContextId → Type 0
SpellsContext text id = IsContext id × (text ≡ context_spelling id)

abbrev pub SpellsRegister : List ℕ → RegisterId → Type 0
SpellsRegister text id = IsRegister id × (text ≡ register_spelling id)
