use Rattle.std.proofs.Common.{rules, ◌∙◌, sym, ap}
use Rattle.std.specs.Prelude.{Ok, Err, OnOk, Result}
use Rattle.base64.specs.Engines.{standard}
use Rattle.base64.specs.GeneralPurpose.{decode_of, IsConsistent}
use Rattle.json_values.proofs.Texts.{decoded_back}
use Rattle.json_values.proofs.part.put_blob.Goals as goal

on_ok : {T E : Type 0} (r : Result T E) (P : Type 0) → P → OnOk r P
on_ok (Ok x) P holds = holds
on_ok (Err e) P holds = tt

pub returns-clause-decodes : goal.returns-clause-decodes
returns-clause-decodes c =
    let consistent : IsConsistent standard = search rules in
    on_ok c.put_json.result _ (decoded_back _ _ (ap (decode_of standard) (sym c.in_ok-text.ensures.text) ∙ c.in_ok-text.ensures.round_trip consistent))
