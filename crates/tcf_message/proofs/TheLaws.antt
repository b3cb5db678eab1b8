-- The laws of messages, as terms.
use Rattle.tcf_message.specs.Fault.{IsDecimalToken, IsReadBack}
use Rattle.tcf_message.proofs.LevelLaws.{is_decimal_token}
use Rattle.tcf_message.proofs.WholeLaws.{is_read_back}

pub read_back : IsReadBack
read_back = is_read_back

pub decimal_token : IsDecimalToken
decimal_token = is_decimal_token
