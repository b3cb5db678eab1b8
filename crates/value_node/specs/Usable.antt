-- What always holds of a value-add for which memory was never wanting: neither was it for its ends, and the redirect that it
-- does can be answered.
use Rattle.std.specs.Prelude.{◌≡◌, false, IfSome}
use Rattle.tcf_message.specs.Message.{IsToken}
use Rattle.value_node.specs.declared.relay.Relay.{Relay}

pub record IsUsable (v : Relay) : Type 0 where
  pub lower : v.lower.is_spent ≡ false
  pub upper : IfSome v.upper (λ e. e.is_spent ≡ false)
  pub redirect : IfSome v.redirect IsToken
