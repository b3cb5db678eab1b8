-- What a canonical text is read as.
use Rattle.std.proofs.Common.{◌≡◌, ℕ, List, [], ◌∷◌, refl, sym, ◌∙◌, ap}
use Rattle.std.specs.Prelude.{Option, Some, None, Ok, IsUtf8}
use Rattle.std.specs.Result.{result_ok}
use Rattle.std.proofs.lemmas.Bool.{cond-true}
use Rattle.std.proofs.lemmas.Str.{is_utf8-from_IsUtf8}
use Rattle.base64.specs.Engines.{standard}
use Rattle.base64.specs.GeneralPurpose.{decode_of, decoded_of}
use Rattle.serde_json.specs.Data.{Data}
use Rattle.serde_json.specs.Read.{read}
use Rattle.serde_json.proofs.OnLiterals.{serde_json_on_literals}
use Rattle.json_args.specs.Kinds.{json_of}

nothing_read : read [] ≡ None
unfolding serde_json_on_literals
nothing_read = refl

none_is : (d : Data) → ◌≡◌ {A = Option Data} None (Some d) → ⊥
none_is d same = cc

-- a text that is read is a part's value
pub text_reads : (text : List ℕ) (d : Data) → IsUtf8 text → read text ≡ Some d → json_of text ≡ Some d
unfolding json_of
text_reads [] d utf8 is = absurd (none_is d (sym nothing_read ∙ is))
text_reads (b ∷ bs) d utf8 is = cond-true _ _ _ (is_utf8-from_IsUtf8 (b ∷ bs) utf8) ∙ is

-- what the decoder gives
pub decoded_back : (text bytes : List ℕ) → decode_of standard text ≡ Ok bytes → decoded_of standard text ≡ Some bytes
unfolding decoded_of
decoded_back text bytes is = ap result_ok is
