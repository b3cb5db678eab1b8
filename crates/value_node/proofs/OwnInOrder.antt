-- Messages that answer commands, one list behind another.
use Rattle.std.proofs.Common.{◌≡◌, List, [], ◌∷◌, ◌++◌, ap, sym, ◌∙◌, subst}
use Rattle.channel_core.specs.Arrivals.{Spoken}
use Rattle.tcf_message.specs.Message.{MessageValue}
use Rattle.value_node.specs.Asked.{Asked}
use Rattle.value_node.specs.OwnMessages.{IsOwn, OwnStep, a_hello, a_result, an_unknown}

-- further commands are left
pub step_behind : (commands : List Asked) (m : MessageValue) (left more : List Asked) → OwnStep commands m left → OwnStep (commands ++ more) m (left ++ more)
step_behind commands m left more (a_hello body is same) = a_hello body is (ap (λ cs. cs ++ more) same)
step_behind commands m left more (a_result c body is at own) = a_result c body is at (ap (λ cs. cs ++ more) own)
step_behind commands m left more (an_unknown c is own) = an_unknown c is (ap (λ cs. cs ++ more) own)

pub own_behind : (commands left more : List Asked) (own : List Spoken) → IsOwn commands own left → IsOwn (commands ++ more) own (left ++ more)
own_behind commands left more [] is = ap (λ cs. cs ++ more) is
own_behind commands left more (s ∷ own) is = (is.0, (is.1.0 ++ more, step_behind commands s.message is.1.0 more is.1.1, own_behind is.1.0 left more own is.1.2))

pub own_then : (commands middle left : List Asked) (own later : List Spoken) → IsOwn commands own middle → IsOwn middle later left → IsOwn commands (own ++ later) left
own_then commands middle left [] later is more = subst (λ cs. IsOwn cs later left) (sym is) more
own_then commands middle left (s ∷ own) later is more = (is.0, (is.1.0, is.1.1, own_then is.1.0 middle left own later is.1.2 more))

-- further messages answer those that were left, and further commands
pub own_more : (commands left more last : List Asked) (own later : List Spoken) → IsOwn commands own left → IsOwn (left ++ more) later last → IsOwn (commands ++ more) (own ++ later) last
own_more commands left more last own later is on = own_then (commands ++ more) (left ++ more) last own later (own_behind commands left more own is) on

-- those that are left are the last
pub record AreLast (commands left : List Asked) : Type 0 where
  pub answered : List Asked
  pub whole : commands ≡ answered ++ left

step_last : (commands : List Asked) (m : MessageValue) (next left : List Asked) → OwnStep commands m next → AreLast next left → AreLast commands left
step_last commands m next left (a_hello body is same) rest = record { answered = rest.answered; whole = sym same ∙ rest.whole }
step_last commands m next left (a_result c body is at own) rest = record { answered = c ∷ rest.answered; whole = own ∙ ap (λ cs. c ∷ cs) rest.whole }
step_last commands m next left (an_unknown c is own) rest = record { answered = c ∷ rest.answered; whole = own ∙ ap (λ cs. c ∷ cs) rest.whole }

pub own_last : (commands left : List Asked) (own : List Spoken) → IsOwn commands own left → AreLast commands left
own_last commands left [] is = record { answered = []; whole = is }
own_last commands left (s ∷ own) is = step_last commands s.message is.1.0 left is.1.1 (own_last is.1.0 left own is.1.2)
