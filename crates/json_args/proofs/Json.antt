-- The JSON value of a part.
use Rattle.std.proofs.Common.{◌≡◌, ℕ, List, [], ◌∷◌, ◌++◌, length, drop, get_or, ◌+◌, ◌<◌, refl, sym, ◌∙◌, ap, inl, inr, arith, append_assoc, rules}
use Rattle.std.specs.Prelude.{Option, Some, None, Ok, Err, option_map, option_and_then, IsUtf8}
use Rattle.std.specs.Result.{result_ok}
use Rattle.std.specs.Str.{is_utf8}
use Rattle.std.proofs.lemmas.Bool.{cases_Bool, cond-true, cond-false}
use Rattle.std.proofs.lemmas.Str.{IsUtf8-from_is_utf8, is_utf8-from_IsUtf8}
use Rattle.serde_json.specs.Data.{Data, null}
use Rattle.serde_json.specs.Read.{read}
use Rattle.serde_json.specs.Find.{as_str}
use Rattle.serde_json.specs.View.{view, items_view}
use Rattle.serde_json.specs.declared.value.Value.{Value, Null, the_lemmas}
use Rattle.base64.specs.Engines.{standard}
use Rattle.base64.specs.GeneralPurpose.{decode_of, decoded_of}
use Rattle.base64.specs.declared.decode.DecodeError.{DecodeError}
use Rattle.std.proofs.lemmas.List.{drop_more}
use Rattle.json_args.specs.Kinds.{json_of, strings_in}

null_view : view Null ≡ null
null_view = search (rules, the_lemmas)

-- an empty part is null
pub json_empty : (part : List ℕ) → length part ≡ 0 → Some (view Null) ≡ json_of part
unfolding json_of
json_empty [] is = ap (λ d. Some d) null_view
json_empty (b ∷ bs) is = absurd (omega arith)

-- what the reader reads
pub json_read : (part : List ℕ) (d : Data) → 0 < length part → IsUtf8 part → read part ≡ Some d → json_of part ≡ Some d
unfolding json_of
json_read [] d some utf8 is = absurd (omega arith)
json_read (b ∷ bs) d some utf8 is = cond-true _ _ _ (is_utf8-from_IsUtf8 (b ∷ bs) utf8) ∙ is

-- what it refuses
pub json_refused : (part : List ℕ) → 0 < length part → (IsUtf8 part → read part ≡ None) → json_of part ≡ None
unfolding json_of
json_refused [] some none = absurd (omega arith)
json_refused (b ∷ bs) some none =
    elim (cases_Bool (is_utf8 (b ∷ bs))) [
      | inl e ↦ cond-true _ _ _ e ∙ none (IsUtf8-from_is_utf8 (b ∷ bs) e)
      | inr e ↦ cond-false _ _ _ e
    ]

fronts : (front : List (List ℕ)) (text : List ℕ) (rest : Option (List (List ℕ)))
    → option_map (λ texts. front ++ texts) (option_map (λ texts. text ∷ texts) rest) ≡ option_map (λ texts. (front ++ text ∷ []) ++ texts) rest
fronts front text None = refl
fronts front text (Some texts) = ap (λ t. Some t) (sym (append_assoc front (text ∷ []) texts))

item_here : (items : List Value) (i : ℕ) (v : Value) → v ≡ get_or items i v → i < length items → drop i items ≡ v ∷ drop (i + 1) items
item_here items i v is below = drop_more items i v below ∙ ap (λ x. x ∷ drop (i + 1) items) (sym is)

-- a string moves to the front
pub string_next : (items : List Value) (front : List (List ℕ)) (i : ℕ) (v : Value) (text : List ℕ) → v ≡ get_or items i v → i < length items → as_str (view v) ≡ Some text
    → option_map (λ texts. front ++ texts) (strings_in (items_view (drop i items)))
    ≡ option_map (λ texts. (front ++ text ∷ []) ++ texts) (strings_in (items_view (drop (i + 1) items)))
string_next items front i v text is below string =
    ap (λ vs. option_map (λ texts. front ++ texts) (strings_in (items_view vs))) (item_here items i v is below)
    ∙ (ap (λ found. option_map (λ texts. front ++ texts) (option_and_then (λ t. option_map (λ texts. t ∷ texts) (strings_in (items_view (drop (i + 1) items)))) found)) string
    ∙ fronts front text (strings_in (items_view (drop (i + 1) items))))

-- an item that is no string ends the array
pub string_bad : (items : List Value) (front : List (List ℕ)) (i : ℕ) (v : Value) → v ≡ get_or items i v → i < length items → as_str (view v) ≡ None
    → option_map (λ texts. front ++ texts) (strings_in (items_view (drop i items))) ≡ None
string_bad items front i v is below string =
    ap (λ vs. option_map (λ texts. front ++ texts) (strings_in (items_view vs))) (item_here items i v is below)
    ∙ ap (λ found. option_map (λ texts. front ++ texts) (option_and_then (λ t. option_map (λ texts. t ∷ texts) (strings_in (items_view (drop (i + 1) items)))) found)) string

-- what the decoder gives, and what it refuses
pub decoded_ok : (text bytes : List ℕ) → decode_of standard text ≡ Ok bytes → decoded_of standard text ≡ Some bytes
unfolding decoded_of
decoded_ok text bytes is = ap result_ok is

pub decoded_err : (text : List ℕ) (error : DecodeError) → decode_of standard text ≡ Err error → decoded_of standard text ≡ None
unfolding decoded_of
decoded_err text error is = ap result_ok is
