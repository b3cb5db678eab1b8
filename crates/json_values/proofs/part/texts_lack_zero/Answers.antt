use Rattle.json_values.specs.TextLaws.{text_lacks_zero}
use Rattle.json_values.proofs.part.texts_lack_zero.Goals as goal

pub returns : goal.returns
returns c = text_lacks_zero
