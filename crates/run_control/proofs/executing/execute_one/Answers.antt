use Rattle.std.proofs.Common.{refl, sym, ap}
use Rattle.rv32i_core.specs.Machine.{ends, excepts}
use Rattle.rv32i_core.specs.PageKind.{MemoryValue}
use Rattle.target_contexts.specs.KeptProcess.{KeptProcess}
use Rattle.target_contexts.specs.ProcessValue.{ProcessValue}
use Rattle.run_control.proofs.Executed.{spawn_halted, spawn_stepped, stays_stepped}
use Rattle.run_control.proofs.executing.execute_one.Goals as goal

-- an exit leaves all as it was
pub returns-in-Exit-clause-after : goal.returns-in-Exit-clause-after
returns-in-Exit-clause-after c =
    let p : ProcessValue = record { name = c.process.inside.name; attached = c.process.inside.attached; threads = c.process.inside.threads; memory = c.process.inside.memory.bytes } in
    stays_stepped c.args.n p c.args.process.now.seen c.in-Some.thread.now c.execute.new.cpu c.ready.new.self.bytes c.execute.new.memory.bytes (ends c.in-Exit.code)
    (sym c.in-Some.ensures.value) c.in_ok-ready.ensures.bytes (ap (λ (k : KeptProcess). k.seen) c.process.view_is)
    c.in-Exit.ensures.step (c.in-Exit.ensures.cpu_kept (λ same. cc)) (ap (λ (m : MemoryValue). m.bytes) (c.in-Exit.ensures.memory_kept (λ same. cc))) refl

-- and so does an exception
pub returns-in-Exception-clause-after : goal.returns-in-Exception-clause-after
returns-in-Exception-clause-after c =
    let p : ProcessValue = record { name = c.process.inside.name; attached = c.process.inside.attached; threads = c.process.inside.threads; memory = c.process.inside.memory.bytes } in
    stays_stepped c.args.n p c.args.process.now.seen c.in-Some.thread.now c.execute.new.cpu c.ready.new.self.bytes c.execute.new.memory.bytes excepts
    (sym c.in-Some.ensures.value) c.in_ok-ready.ensures.bytes (ap (λ (k : KeptProcess). k.seen) c.process.view_is)
    c.in-Exception.ensures.step (c.in-Exception.ensures.cpu_kept (λ same. cc)) (ap (λ (m : MemoryValue). m.bytes) (c.in-Exception.ensures.memory_kept (λ same. cc))) refl

-- a thread that is asked for begins, where it can
pub returns-in_ok-spawn-in-Spawn-clause-executed : goal.returns-in_ok-spawn-in-Spawn-clause-executed
returns-in_ok-spawn-in-Spawn-clause-executed c =
    let p : ProcessValue = record { name = c.process.inside.name; attached = c.process.inside.attached; threads = c.process.inside.threads; memory = c.process.inside.memory.bytes } in
    spawn_halted c.args.n c.in-Spawn.entry c.in-Spawn.argument p c.args.process.now.seen c.in-Some.thread.now c.ready.new.self.bytes
    (sym c.in-Some.ensures.value) c.in_ok-ready.ensures.bytes (ap (λ (k : KeptProcess). k.seen) c.process.view_is) c.in-Spawn.ensures.step

pub returns-in_ok-spawn-in-Spawn-clause-after : goal.returns-in_ok-spawn-in-Spawn-clause-after
returns-in_ok-spawn-in-Spawn-clause-after c =
    let p : ProcessValue = record { name = c.process.inside.name; attached = c.process.inside.attached; threads = c.process.inside.threads; memory = c.process.inside.memory.bytes } in
    spawn_stepped c.args.n c.in-Spawn.entry c.in-Spawn.argument p c.args.process.now.seen c.spawn.new.process.seen c.in-Some.thread.now c.execute.new.cpu c.ready.new.self.bytes c.execute.new.memory.bytes
    (sym c.in-Some.ensures.value) c.in_ok-ready.ensures.bytes (ap (λ (k : KeptProcess). k.seen) c.process.view_is)
    c.in-Spawn.ensures.step (c.in-Spawn.ensures.cpu_kept (λ same. cc)) (ap (λ (m : MemoryValue). m.bytes) (c.in-Spawn.ensures.memory_kept (λ same. cc))) c.in_ok-spawn-in-Spawn.ensures
