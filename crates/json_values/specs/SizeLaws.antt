-- How long canonical texts are at most. A byte of a string takes at most six, as `\u001f` does, and one from 32 on at most
-- two; a whole number takes at most 64 digits and a sign.
use Rattle.std.proofs.Common.{◌≡◌, ◌≤◌, ℕ, zero, suc, ℤ, pos, negsuc, ◌+◌, ◌*◌, ◌/◌, ◌%◌, ◌==◌, nat_lt, nat_le, Bool, true, false, cond, ◌&&◌, List, [], ◌∷◌, ◌++◌, filter, length, map, replicate, Option, Some, None, option_map, IfSome, refl, lit≤, arith, leb-true, ltb-true, length-append}
use Rattle.std.specs.Prelude.{codes, decimal, is_some}
use Rattle.std.specs.Fmt.{digits, digits_onto, digit_glyph}
use Rattle.std.specs.List.{AllByRecursion, list_all}
use Rattle.std.proofs.Math.Nat.{mul-suc}
use Rattle.std.proofs.lemmas.Bool.{and_parts, cond_both}
use Rattle.std.proofs.lemmas.List.{length-replicate}
use Rattle.base64.specs.Engines.{standard}
use Rattle.base64.specs.GeneralPurpose.{encode_of}
use Rattle.base64.specs.Rfc4648.{encode_symbols, padding_len}
use Rattle.json.specs.Print.{escape, escape_byte, escape_letter, quoted}
use Rattle.serde_json.specs.Data.{Data, Members, boolean, string, object, no_members, member}
use Rattle.serde_json.specs.View.{items_of}
use Rattle.serde_json.specs.Written.{comma_if, compact_text, items_text, members_text}
use Rattle.json_values.specs.Contexts.{context_json}
use Rattle.json_values.specs.Lists.{list_json}
use Rattle.json_values.specs.Members.{member_if}
use Rattle.json_values.specs.Peers.{peer_json, peers_json}
use Rattle.json_values.specs.Plain.{blob_json, text_json, texts_json, whole_json}
use Rattle.json_values.specs.Processes.{process_json}
use Rattle.json_values.specs.Props.{are_contexts, bp_json, is_bp, is_ignore_count, is_location, is_short}
use Rattle.json_values.specs.Ranges.{range_json}
use Rattle.json_values.specs.Reports.{report_json}
use Rattle.json_values.specs.Sizes.{AreSmallContexts, AreWords, IsName, IsSmallContext, IsSmallInstance, IsSmallPlace, IsSmallProcess, IsSmallReport, IsSmallStatus, IsWord, has_name, size_of}
use Rattle.json_values.specs.States.{hits_json}
use Rattle.json_values.specs.Statuses.{instance_at, instance_json, status_json}
use Rattle.json_values.specs.Words.{word_json}
use Rattle.tcf_values.specs.declared.errors.ErrorReport.{ErrorReport}
use Rattle.tcf_values.specs.declared.values.BpProps.{BpProps}
use Rattle.tcf_values.specs.declared.values.BpStatus.{BpStatus}
use Rattle.tcf_values.specs.declared.values.ContextData.{ContextData}
use Rattle.tcf_values.specs.declared.values.Instance.{Instance}
use Rattle.tcf_values.specs.declared.values.Place.{Place}
use Rattle.tcf_values.specs.declared.values.Place.TheVariants.{Address, Error}
use Rattle.tcf_values.specs.declared.values.ProcessData.{ProcessData}
use Rattle.tcf_values.specs.declared.values.Range.{Range}

-- ---- strings

byte_size : (b : ℕ) → length (escape_byte b) ≤ 6
unfolding escape_byte
byte_size b =
    cond_both (nat_lt 0 (escape_letter b)) _ _ (λ (bs : List ℕ). length bs ≤ 6) (λ _. lit≤ tt)
    (λ _. cond_both (nat_lt b 32) _ _ (λ (bs : List ℕ). length bs ≤ 6) (λ _. lit≤ tt) (λ _. lit≤ tt))

-- a byte from 32 on has no long escape
plain_byte : (b : ℕ) → 32 ≤ b → length (escape_byte b) ≤ 2
unfolding escape_byte
plain_byte b high =
    cond_both (nat_lt 0 (escape_letter b)) _ _ (λ (bs : List ℕ). length bs ≤ 2) (λ _. lit≤ tt)
    (λ _. cond_both (nat_lt b 32) _ _ (λ (bs : List ℕ). length bs ≤ 2) (λ low. absurd (omega (arith, ltb-true b 32 low))) (λ _. lit≤ tt))

escape_size : (text : List ℕ) → length (escape text) ≤ 6 * length text
escape_size [] = omega arith
escape_size (b ∷ bs) = omega (arith, length-append (escape_byte b) (escape bs), byte_size b, escape_size bs)

plain_escape : (text : List ℕ) → list_all (λ b. nat_le 32 b) text ≡ true → length (escape text) ≤ 2 * length text
plain_escape [] all = omega arith
plain_escape (b ∷ bs) all =
    let parts = and_parts (nat_le 32 b) (list_all (λ c. nat_le 32 c) bs) all in
    omega (arith, length-append (escape_byte b) (escape bs), plain_byte b (leb-true 32 b parts.0), plain_escape bs parts.1)

pub text_size : (most : ℕ) (text : List ℕ) → length text ≤ most → size_of (string text) ≤ 6 * most + 2
text_size most text few = omega (arith, length-append (escape text) (34 ∷ []), escape_size text)

plain_size : (most : ℕ) (text : List ℕ) → is_short most text ≡ true → size_of (string text) ≤ 2 * most + 2
plain_size most text short =
    let parts = and_parts (nat_le (length text) most) (list_all (λ b. nat_le 32 b) text) short in
    omega (arith, length-append (escape text) (34 ∷ []), leb-true (length text) most parts.0, plain_escape text parts.1)

-- ---- numbers and flags

digits_size : (k n : ℕ) (acc : List ℕ) → length (digits_onto k 10 false n acc) ≤ k + length acc
digits_size zero n acc = omega arith
digits_size (suc k) n acc =
    let more = digits_size k (n / 10) (digit_glyph false (n % 10) ∷ acc) in
    cond_both (n / 10 == 0) _ _ (λ (bs : List ℕ). length bs ≤ suc k + length acc) (λ _. omega arith) (λ _. omega arith)

pub decimal_size : (n : ℕ) → length (decimal n) ≤ 64
unfolding digits
decimal_size n = omega (arith, digits_size 64 n [])

pub word_size : (n : ℕ) → size_of (word_json n) ≤ 64
word_size n = decimal_size n

pub whole_size : (z : ℤ) → size_of (whole_json z) ≤ 65
whole_size (pos n) = omega (arith, decimal_size n)
whole_size (negsuc n) = omega (arith, decimal_size (suc n))

pub flag_size : (b : Bool) → size_of (boolean b) ≤ 5
flag_size true = lit≤ tt
flag_size false = lit≤ tt

-- ---- bytes: four letters for three of them

symbols_size : (t m : List ℕ) → 3 * length (encode_symbols t m) ≤ 4 * length m + 2
unfolding encode_symbols
symbols_size t [] = omega arith
symbols_size t (a ∷ []) = omega arith
symbols_size t (a ∷ b ∷ []) = omega arith
symbols_size t (a ∷ b ∷ c ∷ rest) = omega (arith, symbols_size t rest)

-- at most two letters fill it up
padding_size : (padding : Bool) (n pad : ℕ) → length (cond padding (replicate (padding_len n) pad) []) ≤ 2
padding_size true n pad = omega (arith, length-replicate (padding_len n) pad)
padding_size false n pad = omega arith

encoded_size : (m : List ℕ) → 3 * length (encode_of standard m) ≤ 4 * length m + 8
encoded_size m =
    omega (
      arith,
      length-append (encode_symbols standard.encode_table m) (cond standard.config.encode_padding (replicate (padding_len (length m)) standard.padding.value) []),
      symbols_size standard.encode_table m,
      padding_size standard.config.encode_padding (length m) standard.padding.value,
    )

pub blob_size : (m : List ℕ) → size_of (blob_json m) ≤ 8 * length m + 18
blob_size m = omega (arith, text_size (length (encode_of standard m)) (encode_of standard m) (omega arith), encoded_size m)

-- ---- arrays

comma_size : (later : Bool) → length (comma_if later) ≤ 1
comma_size true = lit≤ tt
comma_size false = lit≤ tt

items_size : {A : Type 0} (json : A → Data) (most : ℕ) (later : Bool) (xs : List A) → AllByRecursion (λ x. size_of (json x) ≤ most) xs
    → length (items_text later (items_of (map json xs))) ≤ (most + 1) * length xs + 1
items_size json most later [] all = omega arith
items_size json most later (x ∷ xs) all =
    let rest = items_text true (items_of (map json xs)) in
    omega (
      arith,
      length-append (comma_if later) (compact_text (json x) ++ rest),
      length-append (compact_text (json x)) rest,
      comma_size later,
      all.0,
      items_size json most true xs all.1,
      mul-suc (most + 1) (length xs),
    )

-- each element has at most so many bytes, and its comma
pub list_size : {A : Type 0} (json : A → Data) (most : ℕ) (xs : List A) → AllByRecursion (λ x. size_of (json x) ≤ most) xs → size_of (list_json json xs) ≤ (most + 1) * length xs + 2
list_size json most xs all = omega (arith, items_size json most false xs all)

-- one element more, which is longer or not
longer_by : {A : Type 0} (json : A → Data) (few more : ℕ) (flag later : Bool) (x : A) (xs longer : List A) → size_of (json x) ≤ few + cond flag more 0
    → length (items_text true (items_of (map json xs))) ≤ (few + 1) * length xs + more * length longer + 1
    → length (items_text later (items_of (map json (x ∷ xs)))) ≤ (few + 1) * length (x ∷ xs) + more * length (cond flag (x ∷ longer) longer) + 1
longer_by json few more true later x xs longer small rest =
    let behind = items_text true (items_of (map json xs)) in
    omega (
      arith,
      length-append (comma_if later) (compact_text (json x) ++ behind),
      length-append (compact_text (json x)) behind,
      comma_size later,
      small,
      rest,
      mul-suc (few + 1) (length xs),
      mul-suc more (length longer),
    )
longer_by json few more false later x xs longer small rest =
    let behind = items_text true (items_of (map json xs)) in
    omega (
      arith,
      length-append (comma_if later) (compact_text (json x) ++ behind),
      length-append (compact_text (json x)) behind,
      comma_size later,
      small,
      rest,
      mul-suc (few + 1) (length xs),
    )

items_longer : {A : Type 0} (json : A → Data) (is_long : A → Bool) (few more : ℕ) (later : Bool) (xs : List A)
    → AllByRecursion (λ x. size_of (json x) ≤ few + cond (is_long x) more 0) xs
    → length (items_text later (items_of (map json xs))) ≤ (few + 1) * length xs + more * length (filter is_long xs) + 1
items_longer json is_long few more later [] all = omega arith
items_longer json is_long few more later (x ∷ xs) all =
    longer_by json few more (is_long x) later x xs (filter is_long xs) all.0 (items_longer json is_long few more true xs all.1)

-- each element has at most so many bytes, and its comma, and those that are longer have so many more
longer_size : {A : Type 0} (json : A → Data) (is_long : A → Bool) (few more : ℕ) (xs : List A) → AllByRecursion (λ x. size_of (json x) ≤ few + cond (is_long x) more 0) xs
    → size_of (list_json json xs) ≤ (few + 1) * length xs + more * length (filter is_long xs) + 2
longer_size json is_long few more xs all = omega (arith, items_longer json is_long few more false xs all)

-- what follows from what holds of each element
all_follow : {A : Type 0} (P Q : A → Type 0) (xs : List A) → ((x : A) → P x → Q x) → AllByRecursion P xs → AllByRecursion Q xs
all_follow P Q [] follows all = tt
all_follow P Q (x ∷ xs) follows all = (follows x all.0, all_follow P Q xs follows all.1)

pub words_size : (texts : List (List ℕ)) → AreWords texts → size_of (texts_json texts) ≤ 392450
words_size texts words =
    omega (arith, words.0, list_size text_json 1532 texts (all_follow IsWord (λ text. size_of (text_json text) ≤ 1532) texts (text_size 255) words.1))

-- ---- objects

-- the text has at most so many bytes
record Fits (most : ℕ) (d : Data) : Type 0 where
  size : size_of d ≤ most

abbrev IfFits : ℕ → Option Data → Type 0
IfFits most found = IfSome found (Fits most)

word_fits : (n : ℕ) → Fits 64 (word_json n)
word_fits n = record { size = word_size n }

whole_fits : (z : ℤ) → Fits 65 (whole_json z)
whole_fits z = record { size = whole_size z }

flag_fits : (b : Bool) → Fits 5 (boolean b)
flag_fits b = record { size = flag_size b }

text_fits : (text : List ℕ) → IsWord text → Fits 1532 (string text)
text_fits text word = record { size = text_size 255 text word }

name_fits : (text : List ℕ) → IsName text → Fits 393218 (string text)
name_fits text name = record { size = text_size 65536 text name }

if_text : (found : Option (List ℕ)) → IfSome found IsWord → IfFits 1532 (option_map string found)
if_text None word = tt
if_text (Some text) word = text_fits text word

if_name : (found : Option (List ℕ)) → IfSome found IsName → IfFits 393218 (option_map string found)
if_name None name = tt
if_name (Some text) name = name_fits text name

-- the members, with or without a comma before them, and the closing bracket
record Within (most : ℕ) (ms : Members) : Type 0 where
  size : (later : Bool) → length (members_text later ms) ≤ most

no_more : Within 1 no_members
no_more = record { size = λ later. lit≤ tt }

-- one with a short name
one_more : (most rest : ℕ) (k : List ℕ) (d : Data) (ms : Members) → length k ≤ 16 → Fits most d → Within rest ms → Within (100 + most + rest) (member k d ms)
one_more most rest k d ms short fits within = record {
  size = λ later.
      let behind = compact_text d ++ members_text true ms in
      omega (
        arith,
        length-append (comma_if later) (quoted k ++ 58 ∷ behind),
        length-append (quoted k) (58 ∷ behind),
        length-append (compact_text d) (members_text true ms),
        comma_size later,
        text_size 16 k short,
        fits.size,
        within.size true,
      );
}

if_one : (most rest : ℕ) (k : List ℕ) (found : Option Data) (ms : Members) → length k ≤ 16 → IfFits most found → Within rest ms → Within (100 + most + rest) (member_if k found ms)
if_one most rest k None ms short fits within = record { size = λ later. omega (arith, within.size later) }
if_one most rest k (Some d) ms short fits within = one_more most rest k d ms short fits within

object_size : (most : ℕ) (ms : Members) → Within most ms → size_of (object ms) ≤ most + 1
object_size most ms within = omega (arith, within.size false)

-- an object of three flags
pub flags_size : (k l m : List ℕ) (a b c : Bool) → length k ≤ 16 → length l ≤ 16 → length m ≤ 16
    → size_of (object (member k (boolean a) (member l (boolean b) (member m (boolean c) no_members)))) ≤ 317
flags_size k l m a b c short brief small =
    object_size 316 _ (one_more 5 211 k _ _ short (flag_fits a)
    (one_more 5 106 l _ _ brief (flag_fits b)
    (one_more 5 1 m _ _ small (flag_fits c) no_more)))

-- ---- the values of the services

pub report_size : (report : ErrorReport) → IsSmallReport report → size_of (report_json report) ≤ 1799
report_size report small =
    object_size 1798 _ (one_more 65 1633 (codes "Code") _ _ (lit≤ tt) (whole_fits report.code)
    (one_more 1532 1 (codes "Format") _ _ (lit≤ tt) (text_fits report.format small) no_more))

pub range_size : (range : Range) → size_of (range_json range) ≤ 332
range_size range =
    object_size 331 _ (one_more 65 166 (codes "addr") _ _ (lit≤ tt) (whole_fits range.addr)
    (one_more 65 1 (codes "size") _ _ (lit≤ tt) (whole_fits range.size) no_more))

pub context_size : (context : ContextData) → IsSmallContext context → size_of (context_json context) ≤ 398964
context_size context small =
    object_size 398963 _ (one_more 64 398799 (codes "CanCount") _ _ (lit≤ tt) (word_fits context.can_count)
    (one_more 64 398635 (codes "CanResume") _ _ (lit≤ tt) (word_fits context.can_resume)
    (one_more 5 398530 (codes "CanSuspend") _ _ (lit≤ tt) (flag_fits context.can_suspend)
    (one_more 5 398425 (codes "CanTerminate") _ _ (lit≤ tt) (flag_fits context.can_terminate)
    (one_more 5 398320 (codes "HasState") _ _ (lit≤ tt) (flag_fits context.has_state)
    (one_more 1532 396688 (codes "ID") _ _ (lit≤ tt) (text_fits context.id small.id)
    (one_more 5 396583 (codes "IsContainer") _ _ (lit≤ tt) (flag_fits context.container)
    (if_one 393218 3265 (codes "Name") (option_map string context.name) _ (lit≤ tt) (if_name context.name small.name)
    (if_one 1532 1633 (codes "ParentID") (option_map string context.parent) _ (lit≤ tt) (if_text context.parent small.parent)
    (one_more 1532 1 (codes "ProcessID") _ _ (lit≤ tt) (text_fits context.process small.process) no_more))))))))))

-- where there is none, nothing is written
no_name : (most : ℕ) (found : Option (List ℕ)) (ms : Members) → is_some found ≡ false → Within most ms → Within most (member_if (codes "Name") (option_map string found) ms)
no_name most None ms none within = within
no_name most (Some name) ms none within = absurd cc

-- one without a name is far shorter
unnamed_size : (context : ContextData) → IsSmallContext context → has_name context ≡ false → size_of (context_json context) ≤ 5646
unnamed_size context small none =
    object_size 5645 _ (one_more 64 5481 (codes "CanCount") _ _ (lit≤ tt) (word_fits context.can_count)
    (one_more 64 5317 (codes "CanResume") _ _ (lit≤ tt) (word_fits context.can_resume)
    (one_more 5 5212 (codes "CanSuspend") _ _ (lit≤ tt) (flag_fits context.can_suspend)
    (one_more 5 5107 (codes "CanTerminate") _ _ (lit≤ tt) (flag_fits context.can_terminate)
    (one_more 5 5002 (codes "HasState") _ _ (lit≤ tt) (flag_fits context.has_state)
    (one_more 1532 3370 (codes "ID") _ _ (lit≤ tt) (text_fits context.id small.id)
    (one_more 5 3265 (codes "IsContainer") _ _ (lit≤ tt) (flag_fits context.container)
    (no_name 3265 context.name _ none
    (if_one 1532 1633 (codes "ParentID") (option_map string context.parent) _ (lit≤ tt) (if_text context.parent small.parent)
    (one_more 1532 1 (codes "ProcessID") _ _ (lit≤ tt) (text_fits context.process small.process) no_more))))))))))

pub process_size : (process : ProcessData) → IsSmallProcess process → size_of (process_json process) ≤ 395162
process_size process small =
    object_size 395161 _ (one_more 5 395056 (codes "Attached") _ _ (lit≤ tt) (flag_fits process.attached)
    (one_more 5 394951 (codes "CanTerminate") _ _ (lit≤ tt) (flag_fits process.can_terminate)
    (one_more 1532 393319 (codes "ID") _ _ (lit≤ tt) (text_fits process.id small.id)
    (one_more 393218 1 (codes "Name") _ _ (lit≤ tt) (name_fits process.name small.name) no_more))))

short_all : (texts : List (List ℕ)) → list_all (is_short 64) texts ≡ true → AllByRecursion (λ text. size_of (text_json text) ≤ 130) texts
short_all [] all = tt
short_all (text ∷ texts) all =
    let parts = and_parts (is_short 64 text) (list_all (is_short 64) texts) all in (plain_size 64 text parts.0, short_all texts parts.1)

if_contexts : (found : Option (List (List ℕ))) → are_contexts found ≡ true → IfFits 2098 (option_map texts_json found)
if_contexts None within = tt
if_contexts (Some texts) within =
    let parts = and_parts (nat_le (length texts) 16) (list_all (is_short 64) texts) within in
    record { size = omega (arith, leb-true (length texts) 16 parts.0, list_size text_json 130 texts (short_all texts parts.1)) }

if_location : (found : Option (List ℕ)) → is_location found ≡ true → IfFits 512 (option_map string found)
if_location None within = tt
if_location (Some text) within = record { size = plain_size 255 text within }

if_word : (found : Option ℕ) → IfFits 64 (option_map word_json found)
if_word None = tt
if_word (Some n) = word_fits n

pub bp_size : (props : BpProps) → is_bp props ≡ true → size_of (bp_json props) ≤ 3693
bp_size props within =
    let named = nat_le 1 (length props.id) && is_short 255 props.id in
    let texts = and_parts (named && is_location props.location && are_contexts props.contexts) (is_ignore_count props.ignore) within in
    let last = and_parts (named && is_location props.location) (are_contexts props.contexts) texts.0 in
    let front = and_parts named (is_location props.location) last.0 in
    let id = and_parts (nat_le 1 (length props.id)) (is_short 255 props.id) front.0 in
    let id_fits : Fits 512 (string props.id) = record { size = plain_size 255 props.id id.1 } in
    object_size 3692 _ (if_one 2098 1494 (codes "ContextIds") (option_map texts_json props.contexts) _ (lit≤ tt) (if_contexts props.contexts last.1)
    (one_more 5 1389 (codes "Enabled") _ _ (lit≤ tt) (flag_fits props.enabled)
    (one_more 512 777 (codes "ID") _ _ (lit≤ tt) id_fits
    (if_one 64 613 (codes "IgnoreCount") (option_map word_json props.ignore) _ (lit≤ tt) (if_word props.ignore)
    (if_one 512 1 (codes "Location") (option_map string props.location) _ (lit≤ tt) (if_location props.location front.1) no_more)))))

place_size : (place : Place) (count : ℕ) (context : List ℕ) → IsWord context → IsSmallPlace place → size_of (instance_at place count context) ≤ 3266
place_size (Address address) count context word small =
    let few : size_of (instance_at (Address address) count context) ≤ 1962 =
    object_size 1961 _ (one_more 64 1797 (codes "Address") _ _ (lit≤ tt) (word_fits address)
    (one_more 64 1633 (codes "HitCount") _ _ (lit≤ tt) (word_fits count)
    (one_more 1532 1 (codes "LocationContext") _ _ (lit≤ tt) (text_fits context word) no_more))) in
    omega arith
place_size (Error error) count context word small =
    object_size 3265 _ (one_more 1532 1633 (codes "Error") _ _ (lit≤ tt) (text_fits error small)
    (one_more 1532 1 (codes "LocationContext") _ _ (lit≤ tt) (text_fits context word) no_more))

instance_size : (instance : Instance) → IsSmallInstance instance → size_of (instance_json instance) ≤ 3266
instance_size instance small = place_size instance.place instance.count instance.context small.0 small.1

pub status_size : (status : BpStatus) → IsSmallStatus status → size_of (status_json status) ≤ 209192
status_size status small =
    let all = all_follow IsSmallInstance (λ (i : Instance). size_of (instance_json i) ≤ 3266) status.instances instance_size small.1 in
    let list : Fits 209090 (list_json instance_json status.instances) = record { size = omega (arith, small.0, list_size instance_json 3266 status.instances all) } in
    object_size 209191 _ (one_more 209090 1 (codes "Instances") _ _ (lit≤ tt) list no_more)

pub hits_size : (hits : List (List ℕ)) → AreWords hits → size_of (hits_json hits) ≤ 392552
hits_size [] words = lit≤ tt
hits_size (hit ∷ hits) words =
    let list : Fits 392450 (texts_json (hit ∷ hits)) = record { size = words_size (hit ∷ hits) words } in
    object_size 392551 _ (one_more 392450 1 (codes "BPs") _ _ (lit≤ tt) list no_more)

peer_size : (id : List ℕ) → IsWord id → size_of (peer_json id) ≤ 1634
peer_size id word = object_size 1633 _ (one_more 1532 1 (codes "ID") _ _ (lit≤ tt) (text_fits id word) no_more)

pub peers_size : (ids : List (List ℕ)) → AreWords ids → size_of (peers_json ids) ≤ 418562
peers_size ids words =
    omega (arith, words.0, list_size peer_json 1634 ids (all_follow IsWord (λ (id : List ℕ). size_of (peer_json id) ≤ 1634) ids peer_size words.1))

-- with a name or without
context_room : (flag : Bool) (context : ContextData) → has_name context ≡ flag → IsSmallContext context → size_of (context_json context) ≤ 5646 + cond flag 393318 0
context_room true context named small = context_size context small
context_room false context unnamed small = unnamed_size context small unnamed

pub contexts_size : (list : List ContextData) → AreSmallContexts list → size_of (list_json context_json list) ≤ 837461
contexts_size list are =
    let all = all_follow IsSmallContext (λ (c : ContextData). size_of (context_json c) ≤ 5646 + cond (has_name c) 393318 0) list (λ c. context_room (has_name c) c refl) are.small in
    omega (arith, are.few, are.named, longer_size context_json has_name 5646 393318 list all)

pub bps_size : (list : List BpProps) → length list ≤ 256 → AllByRecursion (λ props. is_bp props ≡ true) list → size_of (list_json bp_json list) ≤ 945666
bps_size list few all =
    omega (arith, few, list_size bp_json 3693 list (all_follow (λ (props : BpProps). is_bp props ≡ true) (λ (props : BpProps). size_of (bp_json props) ≤ 3693) list bp_size all))

ranges_all : (list : List Range) → AllByRecursion (λ range. size_of (range_json range) ≤ 332) list
ranges_all [] = tt
ranges_all (range ∷ list) = (range_size range, ranges_all list)

pub ranges_size : (list : List Range) → length list ≤ 256 → size_of (list_json range_json list) ≤ 85250
ranges_size list few = omega (arith, few, list_size range_json 332 list (ranges_all list))
