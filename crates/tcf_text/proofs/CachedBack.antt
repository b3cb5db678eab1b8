-- A line that tells what a cache had is read as it was written.
use Rattle.std.proofs.Common.{◌≡◌, ℕ, zero, suc, ◌<◌, ◌≤◌, ◌^◌, ◌==◌, ◌||◌, Bool, true, false, cond, List, [], ◌∷◌, ◌++◌, length, get_or, refl, sym, ◌∙◌, ap, arith, subst, append-nil, append_assoc}
use Rattle.std.specs.Prelude.{Option, Some, None, IfSome, option_map, option_and_then, bytes_eq, decimal, flat_map, nat_le}
use Rattle.std.specs.Char.{is_ascii_alphanumeric}
use Rattle.std.specs.List.{AllByRecursion, join_with_byte, list_all, slice_split}
use Rattle.std.proofs.lemmas.Bool.{and_parts, cond-false, cond-true, false_from_ne_true, leb-true, ne_eqb}
use Rattle.std.proofs.lemmas.Fmt.{decimal_is_IsNumeral}
use Rattle.std.proofs.lemmas.List.Splits.{length-slice_split, join_with_byte-slice_split}
use Rattle.std.proofs.lemmas.Slice.Eq.{bytes_eq-Decides}
use Rattle.std.proofs.lemmas.Str.Parse.{digit_at}
use Rattle.tcf_values.specs.Cut.{Lacks}
use Rattle.tcf_values.specs.Number.{number_of}
use Rattle.line_words.specs.Exact.{all_lack, digits_lack, number_exact, word_words}
use Rattle.line_words.specs.Words.{is_word, words_of}
use Rattle.cached_lines.specs.Asked.{IsProcess, bytes_word, context_word, properties_word, register_word, state_word, status_word}
use Rattle.cached_lines.specs.Reading.{process_of}
use Rattle.cached_lines.specs.declared.what.CachedWhat.{CachedWhat}
use Rattle.cached_lines.specs.declared.what.CachedWhat.TheVariants as asked
use Rattle.cached_lines.proofs.Grammar.{process_exact}
use Rattle.tcf_text.specs.declared.log.LogLine.{LogLine}
use Rattle.tcf_text.specs.declared.log.LogLine.TheVariants.{Cached}
use Rattle.tcf_text.specs.declared.log.Showing.TheVariants.{Readable}
use Rattle.tcf_text.specs.Log.{asked_text, cached_front, event_word, front_byte, hello_word, is_hidden, line_words, none_word, readable, sent_word, shown_byte, value_text, word_text}
use Rattle.tcf_text.specs.Reading.{CanBeAsked, IsValue, asked_said, bytes_said, cached_said, cached_word, end_word, kind_said, line_behind, line_of, none_value, range_said, refused_word, value_said}
use Rattle.tcf_text.specs.Said.{AreShown}
use Rattle.tcf_text.proofs.Behind.{LackBlanks, behind}
use Rattle.tcf_text.proofs.Plain.{word_plain}
use Rattle.tcf_text.proofs.ReadBack.{read_by, word_then}

-- ---- The value

abbrev value_words : Option (List ℕ) → List (List ℕ)
value_words None = none_value ∷ []
value_words (Some value) = words_of value

join_behind : (word : List ℕ) (words : List (List ℕ)) → 32 ∷ join_with_byte 32 (word ∷ words) ≡ behind (word ∷ words)
join_behind word [] = sym (append-nil (32 ∷ word))
join_behind word (next ∷ words) = ap (λ t. (32 ∷ word) ++ t) (join_behind next words)

some_behind : (value : List ℕ) (words : List (List ℕ)) → 0 < length words → join_with_byte 32 words ≡ value → 32 ∷ value ≡ behind words
some_behind value [] some is = absurd (omega arith)
some_behind value (word ∷ words) some is = ap (λ t. 32 ∷ t) (sym is) ∙ join_behind word words

value_behind : (value : Option (List ℕ)) → value_text value ≡ behind (value_words value)
unfolding none_word none_value
value_behind None = refl
value_behind (Some value) =
    some_behind value (words_of value) (omega (arith, length-slice_split (λ b. b == 32) value)) (join_with_byte-slice_split 32 value)

some_said : (value : List ℕ) (words : List (List ℕ)) → 0 < length words → join_with_byte 32 words ≡ value → list_all is_word words ≡ true → (value ≡ none_value → ⊥)
    → value_said words ≡ Some (Some value)
unfolding value_said
some_said value [] some is all other = absurd (omega arith)
some_said value (word ∷ words) some is all other =
    cond-false (bytes_eq (join_with_byte 32 (word ∷ words)) none_value) _ _ (false_from_ne_true _ (λ e. other (sym is ∙ (bytes_eq-Decides (join_with_byte 32 (word ∷ words)) none_value).0 e)))
    ∙ (cond-true (list_all is_word (word ∷ words)) _ _ all ∙ ap (λ v. Some (Some v)) is)

value_there : (value : Option (List ℕ)) → IfSome value IsValue → value_said (value_words value) ≡ Some value
unfolding value_said none_value
value_there None good = refl
value_there (Some value) good =
    some_said value (words_of value) (omega (arith, length-slice_split (λ b. b == 32) value)) (join_with_byte-slice_split 32 value) good.0 good.1

words_plain : (words : List (List ℕ)) → list_all is_word words ≡ true → LackBlanks words
words_plain [] all = tt
words_plain (word ∷ words) all = let parts = and_parts (is_word word) (list_all is_word words) all in (word_words word parts.0, words_plain words parts.1)

value_plain : (value : Option (List ℕ)) → IfSome value IsValue → LackBlanks (value_words value)
unfolding none_value
value_plain None good = (all_lack is_ascii_alphanumeric refl none_value refl, tt)
value_plain (Some value) good = words_plain (words_of value) good.0

-- ---- What was asked by an ID of any kind

kind_text : (kind id : List ℕ) (value : Option (List ℕ)) → (kind ++ word_text Readable id) ++ value_text value ≡ kind ++ behind (readable id ∷ value_words value)
kind_text kind id value = ap (λ t. (kind ++ word_text Readable id) ++ t) (value_behind value) ∙ append_assoc kind (word_text Readable id) (behind (value_words value))

asked_there : (kind id : List ℕ) (value : Option (List ℕ)) (what : CachedWhat) → AreShown id → IfSome value IsValue → kind_said kind id ≡ Some what
    → asked_said kind (readable id ∷ value_words value) ≡ Some (Cached what value)
asked_there kind id value what are good is =
    word_then id _ are
    ∙ (ap (option_and_then (λ w. option_map (Cached w) (value_said (value_words value)))) is ∙ ap (option_map (Cached what)) (value_there value good))

kind_back : (kind id : List ℕ) (value : Option (List ℕ)) (what : CachedWhat) → AreShown id → IfSome value IsValue → Lacks 32 kind → bytes_eq kind bytes_word ≡ false
    → kind_said kind id ≡ Some what → asked_text Readable what ≡ kind ++ word_text Readable id → line_of (line_words Readable (Cached what value)) ≡ Some (Cached what value)
unfolding line_behind cached_word cached_front sent_word refused_word hello_word event_word end_word
kind_back kind id value what are good lacks other is asks =
    read_by _ cached_word (kind ∷ readable id ∷ value_words value) _
    (ap (λ t. cached_front ++ (t ++ value_text value)) asks ∙ ap (λ t. cached_front ++ t) (kind_text kind id value))
    (all_lack is_ascii_alphanumeric refl cached_word refl) (lacks, (word_plain id, value_plain value good))
    (cond-false (bytes_eq kind bytes_word) (bytes_said (readable id ∷ value_words value)) (asked_said kind (readable id ∷ value_words value)) other
    ∙ asked_there kind id value what are good is)

-- ---- A process

none_of : (x y z : Bool) → x ≡ false → y ≡ false → z ≡ false → (x || y || z) ≡ false
none_of false false false a b c = refl
none_of true y z a b c = absurd cc
none_of false true z a b c = absurd cc
none_of false false true a b c = absurd cc

not_hidden : (b : ℕ) → 48 ≤ b → b ≤ 57 → is_hidden b ≡ false
not_hidden b low high =
    none_of (nat_le b 32) (b == 37) (b == 127) (false_from_ne_true _ (λ e. let most = leb-true b 32 e in omega (arith, most))) (ne_eqb b 37 (λ is. omega (arith, is))) (ne_eqb b 127 (λ is. omega (arith, is)))

digits_shown : (text : List ℕ) → ((k : ℕ) → k < length text → (48 ≤ get_or text k 0) × (get_or text k 0 ≤ 57)) → flat_map shown_byte text ≡ text
digits_shown [] all = refl
digits_shown (b ∷ bs) all =
    let here = all zero (omega arith) in
    ap (λ t. t ++ flat_map shown_byte bs) (cond-false (is_hidden b) _ (b ∷ []) (not_hidden b here.0 here.1))
    ∙ ap (λ t. b ∷ t) (digits_shown bs (λ k below. all (suc k) (omega (arith, below))))

front_process : (bytes : List ℕ) → front_byte 80 bytes ≡ 80 ∷ []
front_process [] = refl
front_process (b ∷ bytes) = refl

number_shown : (n : ℕ) → n < 2 ^ 64 → flat_map shown_byte (decimal n) ≡ decimal n
number_shown n wide =
    let numeral = (decimal_is_IsNumeral n wide).0 in
    digits_shown (decimal n) (λ k below. let within = digit_at (decimal n) k numeral.1 below in (omega (arith, within), omega (arith, within)))

-- a process's spelling is shown as it is
process_shown : (id : List ℕ) → IsProcess id → readable id ≡ id
process_shown id process =
    ap readable process.1.1
    ∙ (ap (λ t. t ++ flat_map shown_byte (decimal process.0)) (front_process (decimal process.0))
    ∙ (ap (λ t. 80 ∷ t) (number_shown process.0 (omega (arith, process.1.0.1))) ∙ sym process.1.1))

range_there : (id : List ℕ) (addr size : ℕ) (words : List (List ℕ)) → IsProcess id → addr ≤ 65535 → 1 ≤ size → size ≤ 65536
    → range_said (readable id ∷ decimal addr ∷ decimal size ∷ words) ≡ Some ((id, (addr, size)), words)
range_there id addr size words process below some most =
    ap (λ i. range_said (i ∷ decimal addr ∷ decimal size ∷ words)) (process_shown id process)
    ∙ (ap (option_and_then (λ i. option_and_then (λ a. option_map (λ s. ((i, (a, s)), words)) (number_of 1 65536 (decimal size))) (number_of 0 65535 (decimal addr)))) (process_exact.there id process)
    ∙ (ap (option_and_then (λ a. option_map (λ s. ((id, (a, s)), words)) (number_of 1 65536 (decimal size)))) ((number_exact 0 65535 (omega arith)).there addr (omega arith, below))
    ∙ ap (option_map (λ s. ((id, (addr, s)), words))) ((number_exact 1 65536 (omega arith)).there size (some, most))))

range_text : (id : List ℕ) (addr size : ℕ) (value : Option (List ℕ))
    → asked_text Readable (asked.Bytes id addr size) ++ value_text value ≡ bytes_word ++ behind (readable id ∷ decimal addr ∷ decimal size ∷ value_words value)
range_text id addr size value =
    ap (λ t. asked_text Readable (asked.Bytes id addr size) ++ t) (value_behind value)
    ∙ (append_assoc (bytes_word ++ word_text Readable id ++ 32 ∷ decimal addr) (32 ∷ decimal size) (behind (value_words value))
    ∙ (append_assoc (bytes_word ++ word_text Readable id) (32 ∷ decimal addr) (32 ∷ decimal size ++ behind (value_words value))
    ∙ append_assoc bytes_word (word_text Readable id) (32 ∷ decimal addr ++ (32 ∷ decimal size ++ behind (value_words value)))))

bytes_back : (id : List ℕ) (addr size : ℕ) (value : Option (List ℕ)) → IsProcess id → addr ≤ 65535 → 1 ≤ size → size ≤ 65536 → IfSome value IsValue
    → line_of (line_words Readable (Cached (asked.Bytes id addr size) value)) ≡ Some (Cached (asked.Bytes id addr size) value)
unfolding line_behind cached_word cached_front sent_word refused_word hello_word event_word end_word bytes_word
bytes_back id addr size value process below some most good =
    read_by _ cached_word (bytes_word ∷ readable id ∷ decimal addr ∷ decimal size ∷ value_words value) _
    (ap (λ t. cached_front ++ t) (range_text id addr size value))
    (all_lack is_ascii_alphanumeric refl cached_word refl)
    (all_lack is_ascii_alphanumeric refl bytes_word refl, (word_plain id, (digits_lack addr (omega arith), (digits_lack size (omega arith), value_plain value good))))
    (ap (option_and_then (λ r. option_map (Cached (asked.Bytes r.0.0 r.0.1.0 r.0.1.1)) (value_said r.1))) (range_there id addr size (value_words value) process below some most)
    ∙ ap (option_map (Cached (asked.Bytes id addr size))) (value_there value good))

pub cached_back : (what : CachedWhat) (value : Option (List ℕ)) → CanBeAsked what → IfSome value IsValue → line_of (line_words Readable (Cached what value)) ≡ Some (Cached what value)
unfolding kind_said context_word state_word register_word properties_word status_word bytes_word
cached_back (asked.Context id) value can good = kind_back context_word id value _ can good (all_lack is_ascii_alphanumeric refl context_word refl) refl refl refl
cached_back (asked.State id) value can good = kind_back state_word id value _ can good (all_lack is_ascii_alphanumeric refl state_word refl) refl refl refl
cached_back (asked.Register id) value can good = kind_back register_word id value _ can good (all_lack is_ascii_alphanumeric refl register_word refl) refl refl refl
cached_back (asked.Properties id) value can good = kind_back properties_word id value _ can good (all_lack is_ascii_alphanumeric refl properties_word refl) refl refl refl
cached_back (asked.Status id) value can good = kind_back status_word id value _ can good (all_lack is_ascii_alphanumeric refl status_word refl) refl refl refl
cached_back (asked.Bytes id addr size) value can good = bytes_back id addr size value can.0 can.1 can.2 can.3 good
