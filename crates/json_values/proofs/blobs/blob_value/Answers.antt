use Rattle.std.proofs.Common.{rules, ◌∙◌, sym, ap}
use Rattle.base64.specs.Engines.{standard}
use Rattle.base64.specs.GeneralPurpose.{decode_of, IsConsistent}
use Rattle.json_values.proofs.Texts.{decoded_back}
use Rattle.json_values.proofs.blobs.blob_value.Goals as goal

pub returns-clause-reads_back : goal.returns-clause-reads_back
returns-clause-reads_back c =
    let consistent : IsConsistent standard = search rules in
    decoded_back _ _ (ap (decode_of standard) (sym c.in_ok-text.ensures.text) ∙ c.in_ok-text.ensures.round_trip consistent)
