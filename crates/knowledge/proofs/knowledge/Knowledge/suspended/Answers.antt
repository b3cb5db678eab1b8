use Rattle.std.proofs.Common.{List, ℕ, subst}
use Rattle.std.proofs.lemmas.Result.{on_ok_weaker}
use Rattle.knowledge.specs.Changes.{of_each}
use Rattle.knowledge.specs.KnowledgeValue.{IsAfter}
use Rattle.knowledge.specs.Rows.{hit_breakpoint}
use Rattle.knowledge.proofs.Steps.{then_after}
use Rattle.knowledge.proofs.knowledge.Knowledge.suspended.Goals as goal

pub returns : goal.returns
returns c =
    let dropped : IsAfter (of_each hit_breakpoint c.args.hits.now) c.args.self.now c.drop_hits.new.self =
    subst (λ (hits : List (List ℕ)). IsAfter (of_each hit_breakpoint hits) c.args.self.now c.drop_hits.new.self) c.as_slice.ensures c.drop_hits.ensures
    in
    on_ok_weaker c.stop_context.result (then_after dropped) c.stop_context.ensures
