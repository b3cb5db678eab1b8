-- A line that is written so that it can be read back is read.
use Rattle.std.proofs.Common.{◌≡◌, ℕ, ◌<◌, ◌≤◌, ◌^◌, ◌==◌, Bool, true, false, cond, List, [], ◌∷◌, ◌++◌, length, refl, sym, ◌∙◌, ap, arith, subst, append-nil, append_assoc}
use Rattle.std.specs.Prelude.{Option, Some, None, IfSome, option_map, option_and_then, bytes_eq, decimal, flat_map}
use Rattle.std.specs.Char.{is_ascii_alphanumeric}
use Rattle.std.specs.List.{AllByRecursion, join_with_byte, list_all, slice_split}
use Rattle.std.proofs.lemmas.Bool.{cases_Bool, cond-false, cond-true, ne_eqb, false_from_ne_true}
use Rattle.std.proofs.lemmas.Fmt.{decimal_is_IsNumeral}
use Rattle.std.proofs.lemmas.List.Splits.{length-slice_split, join_with_byte-slice_split}
use Rattle.std.proofs.lemmas.Slice.Eq.{bytes_eq-Decides}
use Rattle.std.proofs.lemmas.Str.Parse.{digit_at}
use Rattle.tcf_values.specs.Cut.{Lacks}
use Rattle.tcf_values.specs.CutLaws.{lacks_by_index}
use Rattle.line_words.specs.Exact.{all_lack, digits_lack}
use Rattle.line_words.specs.Words.{words_of}
use Rattle.tcf_text.specs.declared.log.EndWhy.{EndWhy}
use Rattle.tcf_text.specs.declared.log.EndWhy.TheVariants.{Own, Eos, Ended as ConnectionEnded, Protocol, Stream}
use Rattle.tcf_text.specs.declared.log.LogLine.{LogLine}
use Rattle.tcf_text.specs.declared.log.LogLine.TheVariants.{Sent, Refused, Hello, Event, Progress, Final, Unknown, Closed, Ended, Cached}
use Rattle.tcf_text.specs.declared.log.RefusedWhy.{RefusedWhy}
use Rattle.tcf_text.specs.declared.log.RefusedWhy.TheVariants.{Full, NotOpen, TooLong, Spent}
use Rattle.tcf_text.specs.declared.log.Showing.TheVariants.{Readable}
use Rattle.tcf_text.specs.declared.said.Named.{Named}
use Rattle.tcf_text.specs.Log.{args_text, end_cause, end_front, event_word, hello_word, line_words, mark_text, named_text, numbered, progress_word, readable, refused_front, refused_reason, result_word, sent_word, unknown_word, closed_word, word_text}
use Rattle.tcf_text.specs.Reading.{IsLong, cached_word, cause_said, end_word, hello_said, line_behind, line_in, line_of, answer_behind, reason_said, refused_word, sent_said}
use Rattle.tcf_text.specs.Said.{AreShown, IsByte, data_said, data_words, long_number_of, mark_said, named_as, named_said, word_said}
use Rattle.tcf_text.proofs.Behind.{LackBlanks, args_behind, behind, words_behind}
use Rattle.tcf_text.proofs.Data.{data_are_read_back}
use Rattle.tcf_text.proofs.Numbers.{number_said}
use Rattle.tcf_text.proofs.Plain.{data_plain, word_plain}
use Rattle.tcf_text.proofs.Read.{words_are_read_back}

-- ---- What is read of one word, and what follows

pub number_then : {B : Type 0} (n : ℕ) (f : ℕ → Option B) → IsLong n → option_and_then f (long_number_of (decimal n)) ≡ f n
number_then n f small = ap (option_and_then f) (number_said (decimal n) n small refl)

pub word_then : {B : Type 0} (word : List ℕ) (f : List ℕ → Option B) → AreShown word → option_and_then f (word_said (readable word)) ≡ f word
word_then word f are = ap (option_and_then f) (words_are_read_back word are)

pub data_then : {B : Type 0} (body : List ℕ) (f : List ℕ → B) → AllByRecursion IsByte body → option_map f (data_said (data_words body)) ≡ Some (f body)
data_then body f all = ap (option_map f) (data_are_read_back body all)

pub named_there : (service name body : List ℕ) → AreShown service → AreShown name → AllByRecursion IsByte body
    → named_said (readable service ∷ readable name ∷ data_words body) ≡ Some (named_as service name body)
named_there service name body s n all = word_then service _ s ∙ (word_then name _ n ∙ data_then body (named_as service name) all)

-- ---- Marks

abbrev pub mark_word : Option ℕ → List ℕ
mark_word None = 45 ∷ []
mark_word (Some mark) = decimal mark

digits_lack_dash : (n : ℕ) → n < 2 ^ 64 → Lacks 45 (decimal n)
digits_lack_dash n wide =
    let numeral = (decimal_is_IsNumeral n wide).0 in
    lacks_by_index 45 (decimal n) (λ k below is. let within = digit_at (decimal n) k numeral.1 below in omega (arith, within.0))

no_dash : (n : ℕ) → n < 2 ^ 64 → decimal n ≡ 45 ∷ [] → ⊥
no_dash n wide is = (subst (Lacks 45) is (digits_lack_dash n wide)).0 refl

pub mark_there : (mark : Option ℕ) → IfSome mark IsLong → mark_said (mark_word mark) ≡ Some mark
unfolding mark_said
mark_there None long = refl
mark_there (Some n) long =
    cond-false (bytes_eq (decimal n) (45 ∷ [])) (Some None) _ (false_from_ne_true _ (λ e. no_dash n long ((bytes_eq-Decides (decimal n) (45 ∷ [])).0 e)))
    ∙ ap (option_map (λ k. Some k)) (number_said (decimal n) n long refl)

pub mark_then : {B : Type 0} (mark : Option ℕ) (f : Option ℕ → Option B) → IfSome mark IsLong → option_and_then f (mark_said (mark_word mark)) ≡ f mark
mark_then mark f long = ap (option_and_then f) (mark_there mark long)

mark_plain : (mark : Option ℕ) → IfSome mark IsLong → Lacks 32 (mark_word mark)
mark_plain None long = ((λ is. omega arith), tt)
mark_plain (Some n) long = digits_lack n long

-- ---- How a line is written, word by word

mark_behind : (mark : Option ℕ) (words : List (List ℕ)) → mark_text mark ++ behind words ≡ behind (mark_word mark ∷ words)
mark_behind None words = refl
mark_behind (Some n) words = refl

pub numbered_behind : (word : List ℕ) (n : ℕ) (words : List (List ℕ)) → numbered word n ++ behind words ≡ word ++ behind (decimal n ∷ words)
numbered_behind word n words = append_assoc word (32 ∷ decimal n) (behind words)

pub named_behind : (service name body : List ℕ) → named_text Readable service name body ≡ behind (readable service ∷ readable name ∷ data_words body)
named_behind service name body =
    append_assoc (word_text Readable service) (word_text Readable name) (args_text Readable body)
    ∙ ap (λ t. word_text Readable service ++ (word_text Readable name ++ t)) (args_behind body)

pub named_plain : (service name body : List ℕ) → LackBlanks (readable service ∷ readable name ∷ data_words body)
named_plain service name body = (word_plain service, (word_plain name, data_plain body))

-- a line of these words is read as what they say
pub read_by : (text word : List ℕ) (words : List (List ℕ)) (line : LogLine) → text ≡ word ++ behind words → Lacks 32 word → LackBlanks words → line_behind word words ≡ Some line
    → line_of text ≡ Some line
read_by text word words line is lacks all said = ap line_of is ∙ (ap line_in (words_behind word words lacks all) ∙ said)

-- ---- The lines

pub sent_back : (n : ℕ) (service name body : List ℕ) → IsLong n → AreShown service → AreShown name → AllByRecursion IsByte body
    → line_of (line_words Readable (Sent n service name body)) ≡ Some (Sent n service name body)
unfolding line_behind sent_word
sent_back n service name body long s m all =
    read_by _ sent_word (decimal n ∷ readable service ∷ readable name ∷ data_words body) _
    (ap (λ t. numbered sent_word n ++ t) (named_behind service name body) ∙ numbered_behind sent_word n (readable service ∷ readable name ∷ data_words body))
    (all_lack is_ascii_alphanumeric refl sent_word refl) (digits_lack n long, named_plain service name body)
    (number_then n _ long ∙ ap (option_map (λ (c : Named). Sent n c.service c.name c.body)) (named_there service name body s m all))

pub hello_back : (mark : Option ℕ) (body : List ℕ) → IfSome mark IsLong → AllByRecursion IsByte body
    → line_of (line_words Readable (Hello mark body)) ≡ Some (Hello mark body)
unfolding line_behind hello_word sent_word refused_word
hello_back mark body long all =
    read_by _ hello_word (mark_word mark ∷ data_words body) _
    (ap (λ t. hello_word ++ (mark_text mark ++ t)) (args_behind body) ∙ ap (λ t. hello_word ++ t) (mark_behind mark (data_words body)))
    (all_lack is_ascii_alphanumeric refl hello_word refl) (mark_plain mark long, data_plain body)
    (mark_then mark _ long ∙ data_then body (Hello mark) all)

pub event_back : (mark : Option ℕ) (service name body : List ℕ) → IfSome mark IsLong → AreShown service → AreShown name → AllByRecursion IsByte body
    → line_of (line_words Readable (Event mark service name body)) ≡ Some (Event mark service name body)
unfolding line_behind event_word hello_word sent_word refused_word
event_back mark service name body long s m all =
    read_by _ event_word (mark_word mark ∷ readable service ∷ readable name ∷ data_words body) _
    (ap (λ t. event_word ++ (mark_text mark ++ t)) (named_behind service name body) ∙ ap (λ t. event_word ++ t) (mark_behind mark (readable service ∷ readable name ∷ data_words body)))
    (all_lack is_ascii_alphanumeric refl event_word refl) (mark_plain mark long, named_plain service name body)
    (mark_then mark _ long ∙ ap (option_map (λ (e : Named). Event mark e.service e.name e.body)) (named_there service name body s m all))

-- an answer's number, mark and data
answer_text : (word : List ℕ) (n : ℕ) (mark : Option ℕ) (body : List ℕ)
    → numbered word n ++ mark_text mark ++ args_text Readable body ≡ word ++ behind (decimal n ∷ mark_word mark ∷ data_words body)
answer_text word n mark body =
    append_assoc (numbered word n) (mark_text mark) (args_text Readable body)
    ∙ (ap (λ t. numbered word n ++ (mark_text mark ++ t)) (args_behind body)
    ∙ (ap (λ t. numbered word n ++ t) (mark_behind mark (data_words body)) ∙ numbered_behind word n (mark_word mark ∷ data_words body)))

pub progress_back : (n : ℕ) (mark : Option ℕ) (body : List ℕ) → IsLong n → IfSome mark IsLong → AllByRecursion IsByte body
    → line_of (line_words Readable (Progress n mark body)) ≡ Some (Progress n mark body)
unfolding line_behind answer_behind progress_word event_word hello_word sent_word refused_word end_word cached_word
progress_back n mark body long marked all =
    read_by _ progress_word (decimal n ∷ mark_word mark ∷ data_words body) _ (answer_text progress_word n mark body)
    (all_lack is_ascii_alphanumeric refl progress_word refl) (digits_lack n long, (mark_plain mark marked, data_plain body))
    (number_then n _ long ∙ (mark_then mark _ marked ∙ data_then body (Progress n mark) all))

pub final_back : (n : ℕ) (mark : Option ℕ) (body : List ℕ) → IsLong n → IfSome mark IsLong → AllByRecursion IsByte body
    → line_of (line_words Readable (Final n mark body)) ≡ Some (Final n mark body)
unfolding line_behind answer_behind result_word progress_word event_word hello_word sent_word refused_word end_word cached_word
final_back n mark body long marked all =
    read_by _ result_word (decimal n ∷ mark_word mark ∷ data_words body) _ (answer_text result_word n mark body)
    (all_lack is_ascii_alphanumeric refl result_word refl) (digits_lack n long, (mark_plain mark marked, data_plain body))
    (number_then n _ long ∙ (mark_then mark _ marked ∙ data_then body (Final n mark) all))

pub unknown_back : (n : ℕ) (mark : Option ℕ) → IsLong n → IfSome mark IsLong → line_of (line_words Readable (Unknown n mark)) ≡ Some (Unknown n mark)
unfolding line_behind answer_behind unknown_word result_word progress_word event_word hello_word sent_word refused_word end_word cached_word
unknown_back n mark long marked =
    read_by _ unknown_word (decimal n ∷ mark_word mark ∷ []) _
    (ap (λ t. numbered unknown_word n ++ t) (sym (append-nil (mark_text mark)) ∙ mark_behind mark []) ∙ numbered_behind unknown_word n (mark_word mark ∷ []))
    (all_lack is_ascii_alphanumeric refl unknown_word refl) (digits_lack n long, (mark_plain mark marked, tt))
    (number_then n _ long ∙ ap (option_map (Unknown n)) (mark_there mark marked))

pub closed_back : (n : ℕ) → IsLong n → line_of (line_words Readable (Closed n)) ≡ Some (Closed n)
unfolding line_behind answer_behind closed_word unknown_word result_word progress_word event_word hello_word sent_word refused_word end_word cached_word
closed_back n long =
    read_by _ closed_word (decimal n ∷ []) _ (sym (append-nil (numbered closed_word n)) ∙ numbered_behind closed_word n [])
    (all_lack is_ascii_alphanumeric refl closed_word refl) (digits_lack n long, tt) (ap (option_map Closed) (number_said (decimal n) n long refl))

letters : (word : List ℕ) → list_all is_ascii_alphanumeric word ≡ true → Lacks 32 word
letters word all = all_lack is_ascii_alphanumeric refl word all

pub refused_back : (why : RefusedWhy) → line_of (line_words Readable (Refused why)) ≡ Some (Refused why)
unfolding line_behind reason_said refused_word refused_front refused_reason sent_word
refused_back Full = read_by _ refused_word (refused_reason Full ∷ []) _ refl (letters refused_word refl) (letters (refused_reason Full) refl, tt) refl
refused_back NotOpen = read_by _ refused_word (refused_reason NotOpen ∷ []) _ refl (letters refused_word refl) (letters (refused_reason NotOpen) refl, tt) refl
refused_back TooLong = read_by _ refused_word (refused_reason TooLong ∷ []) _ refl (letters refused_word refl) (letters (refused_reason TooLong) refl, tt) refl
refused_back Spent = read_by _ refused_word (refused_reason Spent ∷ []) _ refl (letters refused_word refl) (letters (refused_reason Spent) refl, tt) refl

pub end_back : (why : EndWhy) → line_of (line_words Readable (Ended why)) ≡ Some (Ended why)
unfolding line_behind cause_said end_word end_front end_cause event_word hello_word sent_word refused_word
end_back Own = read_by _ end_word (end_cause Own ∷ []) _ refl (letters end_word refl) (letters (end_cause Own) refl, tt) refl
end_back Eos = read_by _ end_word (end_cause Eos ∷ []) _ refl (letters end_word refl) (letters (end_cause Eos) refl, tt) refl
end_back ConnectionEnded = read_by _ end_word (end_cause ConnectionEnded ∷ []) _ refl (letters end_word refl) (letters (end_cause ConnectionEnded) refl, tt) refl
end_back Protocol = read_by _ end_word (end_cause Protocol ∷ []) _ refl (letters end_word refl) (letters (end_cause Protocol) refl, tt) refl
end_back Stream = read_by _ end_word (end_cause Stream ∷ []) _ refl (letters end_word refl) (letters (end_cause Stream) refl, tt) refl
