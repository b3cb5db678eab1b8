use Rattle.std.proofs.Common.{◌==◌, not, rules, ap, ◌∙◌}
use Rattle.std.proofs.lemmas.Fn.{filter_same}
use Rattle.breakpoints.specs.Counts.{without}
use Rattle.breakpoints.proofs.counts.Counts.forget.Goals as goal

pub returns : goal.returns
returns c =
    filter_same _ (λ entry. not (entry.0 == c.args.process)) _ (λ x b f' k. search rules) _ _ c.retain.ensures.filtered
    ∙ ap (without c.args.process) c.self.view_is
