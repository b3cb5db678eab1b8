use Rattle.std.proofs.Common.{◌≡◌, subst, true, false, arith}
use Rattle.channel_core.specs.Naming.{AreIssued}
use Rattle.channel_core.specs.Taking.{is_held}
use Rattle.channel_core.proofs.Naming.{as_answer, as_unsent}
use Rattle.channel_core.proofs.end.End.judge_answer.Goals as goal

pub returns-in-Some : goal.returns-in-Some
returns-in-Some g c = λ number incoming distinct.
    let e = c.args.self.now in
    let token = c.in-Some.token in
    let found = c.in-Some.ensures.found in
    let issued = subst (λ e. AreIssued e.last e.pending) c.self.view_is c.self.invariant.issued in
    let sent = subst (λ e. is_held token e.held ≡ false) c.self.view_is found.1 in
    as_answer number incoming c.args.digits.now token c.args.done e distinct found.0 (omega arith) (omega (arith, c.last.ensures)) issued sent

pub returns-in-None : goal.returns-in-None
returns-in-None g c = λ number incoming.
    let e = c.args.self.now in
    let issued = subst (λ e. AreIssued e.last e.pending) c.self.view_is c.self.invariant.issued in
    as_unsent number incoming c.args.digits.now c.args.done e issued
    (λ n low is. subst (λ e. is_held n e.held ≡ true) c.self.view_is (c.in-None.ensures.none n (omega (arith, low, c.last.ensures)) is))
