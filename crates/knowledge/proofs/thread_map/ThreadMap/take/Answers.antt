use Rattle.std.proofs.Common.{nat_eq, ◌&&◌, cond, None, is_some, ap, sym, ◌∙◌}
use Rattle.std.specs.Prelude.{option_and_then}
use Rattle.knowledge.specs.Keyed.{of_number, of_thread}
use Rattle.knowledge.proofs.Keys.{none_within, within_process}
use Rattle.knowledge.proofs.thread_map.ThreadMap.take.Goals as goal

-- the process has a row
pub returns-in-Some-clause-left : goal.returns-in-Some-clause-left
returns-in-Some-clause-left g c = λ p t.
    within_process c.args.process c.args.thread None c.self.inside.processes.entries (c.get_mut.follows.lender c.take.new.self).entries
    c.in-Some.threads.now c.take.new.self
    ((c.get_mut.follows.holds c.take.new.self).3 (ap is_some (sym c.in-Some.ensures.value))).0
    (λ u. ap (option_and_then (of_number u)) (sym c.in-Some.ensures.value)) c.take.ensures.left p t
    ∙ ap (λ rows. cond (nat_eq c.args.process p && nat_eq c.args.thread t) None (of_thread p t rows)) c.self.view_is

-- it has none
pub returns-clause-left : goal.returns-clause-left
returns-clause-left g c = λ p t.
    ap (λ m. of_thread p t m.entries) c.get_mut.follows.holds-at-none
    ∙ none_within c.args.process c.args.thread c.self.inside.processes.entries (sym c.in_default.ensures.value) p t
    ∙ ap (λ rows. cond (nat_eq c.args.process p && nat_eq c.args.thread t) None (of_thread p t rows)) c.self.view_is
