use Rattle.std.proofs.Common.{◌+◌, ◌/◌, ◌∙◌, ap, slice_get}
use Rattle.rv32i_core.specs.PageKind.{to_own}
use Rattle.rv32i_core.proofs.Owned.{one_becomes}
use Rattle.rv32i_core.proofs.ram.Memory.set_word_of_page.Goals as goal

pub returns-clause-pages : goal.returns-clause-pages
returns-clause-pages c =
    one_becomes _ _ _ (c.put_own_word.ensures.kinds ∙ c.make_own.ensures.kinds)
    (ap (λ n. n + to_own (slice_get c.args.self.now.kinds (c.args.place / 256))) c.put_own_word.ensures.spare ∙ c.make_own.ensures.spare)
