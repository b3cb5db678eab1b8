use Rattle.std.proofs.Common.{nat_eq, ◌&&◌, cond, [], Some, is_some, ap, sym, ◌∙◌}
use Rattle.std.specs.Prelude.{option_and_then}
use Rattle.knowledge.specs.Keyed.{of_number, of_thread}
use Rattle.knowledge.proofs.Keys.{no_process, within_process}
use Rattle.knowledge.proofs.thread_map.ThreadMap.put.Goals as goal

-- the process has a row
pub returns-in-Some : goal.returns-in-Some
returns-in-Some g c = λ p t.
    within_process c.args.process c.args.thread (Some c.args.value) c.self.inside.processes.entries (c.get_mut.follows.lender c.put.new.self).entries
    c.in-Some.threads.now c.put.new.self
    ((c.get_mut.follows.holds c.put.new.self).3 (ap is_some (sym c.in-Some.ensures.value))).0
    (λ u. ap (option_and_then (of_number u)) (sym c.in-Some.ensures.value)) c.in_ok-put.ensures p t
    ∙ ap (λ rows. cond (nat_eq c.args.process p && nat_eq c.args.thread t) (Some c.args.value) (of_thread p t rows)) c.self.view_is

-- it gets its first one
pub returns : goal.returns
returns g c = λ p t.
    within_process c.args.process c.args.thread (Some c.args.value) c.self.inside.processes.entries c.insert.new.self.entries [] c.put-2.new.self
    (λ q. c.in_ok-insert.ensures.updates.0 q
    ∙ ap (λ m. cond (nat_eq c.args.process q) (Some c.put-2.new.self) (of_number q m.entries)) c.get_mut.follows.holds-at-none)
    (no_process c.args.process c.self.inside.processes.entries (sym c.in_default.ensures.value))
    (λ u. c.in_ok-put-2.ensures u ∙ ap (λ rows. cond (nat_eq c.args.thread u) (Some c.args.value) (of_number u rows)) c.new-threads.ensures) p t
    ∙ ap (λ rows. cond (nat_eq c.args.process p && nat_eq c.args.thread t) (Some c.args.value) (of_thread p t rows)) c.self.view_is
