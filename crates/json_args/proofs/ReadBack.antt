-- A canonical text that is UTF-8 is read as its value, and another as none.
use Rattle.std.proofs.Common.{◌≡◌, ℕ, ◌≤◌, suc, List, [], ◌∷◌, true, false, cond, Option, Some, None, option_and_then, refl, sym, ◌∙◌, ap, ap₂, append-nil, arith}
use Rattle.std.specs.Prelude.{max}
use Rattle.std.specs.Str.{is_utf8}
use Rattle.std.proofs.lemmas.Bool.{cond-true, cond-false}
use Rattle.json.specs.Lex.{tokens}
use Rattle.json.specs.Json as json
use Rattle.json.specs.Tree as tree
use Rattle.json.proofs.Printed.Tokens.{tokens-print}
use Rattle.json.proofs.Printed.Trees.{ArePrintable-json_tokens, value-json_tokens}
use Rattle.serde_json.specs.Data.{Data, null, boolean, number, string, array, object, Items, no_items, item, Members, no_members, member, depth, items_depth, members_depth}
use Rattle.serde_json.specs.Read.{max_depth, of_json, read}
use Rattle.serde_json.specs.Written.{compact_text, items_outline, members_outline, outline}
use Rattle.serde_json.proofs.OnLiterals.{serde_json_on_literals}
use Rattle.serde_json.proofs.Texts.{print-outline}
use Rattle.json_args.specs.Kinds.{json_of}

mutual
  same_depth : (d : Data) → tree.depth (outline d) ≡ depth d
  same_depth null = refl
  same_depth (boolean b) = refl
  same_depth (number n) = refl
  same_depth (string s) = refl
  same_depth (array ds) = ap suc (items_same ds)
  same_depth (object ms) = ap suc (members_same ms)

  items_same : (ds : Items) → tree.items_depth (items_outline ds) ≡ items_depth ds
  items_same no_items = refl
  items_same (item d ds) = ap₂ max (same_depth d) (items_same ds)

  members_same : (ms : Members) → tree.members_depth (members_outline ms) ≡ members_depth ms
  members_same no_members = refl
  members_same (member k d ms) = ap₂ max (same_depth d) (members_same ms)

-- a value whose numbers fit, and whose keys are in order
pub record IsClean (d : Data) : Type 0 where
  pub numbers : tree.HasNumbers (outline d)
  pub reads : of_json (outline d) ≡ Some d

-- the text of such a value stands for it
pub clean_reads : (d : Data) → IsClean d → depth d ≤ 127 → read (compact_text d) ≡ Some d
clean_reads d clean shallow =
    let low : tree.depth (outline d) ≤ max_depth = omega (arith, same_depth d, shallow) in
    let same : tokens (compact_text d) ≡ tree.json_tokens (outline d) =
    ap tokens (sym (print-outline d)) ∙ tokens-print (tree.json_tokens (outline d)) (ArePrintable-json_tokens (outline d) clean.numbers) in
    ap (λ v. option_and_then of_json (option_and_then (λ p. json.if_last p.0 p.1) v))
    (ap (json.value max_depth) (same ∙ sym (append-nil (tree.json_tokens (outline d)))) ∙ value-json_tokens (outline d) max_depth [] low)
    ∙ clean.reads

nothing_read : read [] ≡ None
unfolding serde_json_on_literals
nothing_read = refl

none_is : (d : Data) → ◌≡◌ {A = Option Data} None (Some d) → ⊥
none_is d same = cc

text_is : (text : List ℕ) (d : Data) → read text ≡ Some d → json_of text ≡ cond (is_utf8 text) (Some d) None
unfolding json_of
text_is [] d is = absurd (none_is d (sym nothing_read ∙ is))
text_is (b ∷ bs) d is = ap (λ r. cond (is_utf8 (b ∷ bs)) r None) is

pub read_there : (d : Data) → read (compact_text d) ≡ Some d → is_utf8 (compact_text d) ≡ true → json_of (compact_text d) ≡ Some d
read_there d is utf8 = text_is (compact_text d) d is ∙ cond-true _ _ _ utf8

pub read_none : (d : Data) → read (compact_text d) ≡ Some d → is_utf8 (compact_text d) ≡ false → json_of (compact_text d) ≡ None
read_none d is other = text_is (compact_text d) d is ∙ cond-false _ _ _ other
