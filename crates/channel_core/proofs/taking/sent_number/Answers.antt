use Rattle.std.proofs.Common.{◌≡◌, ap, sym, ◌∙◌, arith}
use Rattle.channel_core.specs.Taking.{is_held}
use Rattle.channel_core.proofs.Rows.{decimal_one}
use Rattle.channel_core.proofs.taking.sent_number.Goals as goal
use Rattle.channel_core.proofs.taking.sent_number.Goals.{then-token-last-via-then-token-last, then-token-last-via-else-token-last+then-is_held}

pub returns-then-token-last-clause-none : goal.returns-then-token-last-clause-none
returns-then-token-last-clause-none c = λ n low is.
    let token = c.in_ok-token.token in
    let same : token ≡ n = decimal_one token n (omega arith) (omega arith) (sym c.in_ok-token.ensures.found ∙ is) in
    elim c.then-token-last.branch [
      | then-token-last-via-then-token-last w ↦ let above = w.if-token-last in absurd (omega arith)
      | then-token-last-via-else-token-last+then-is_held w ↦ ap (λ k. is_held k c.args.held.now.items) (sym same) ∙ (let is_there = w.if-is_held in let says = w.is_held in cc)
    ]
