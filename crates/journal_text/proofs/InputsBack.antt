-- An input that is written is read.
use Rattle.std.proofs.Common.{◌≡◌, ℕ, List, [], ◌∷◌, ◌++◌, refl, sym, ◌∙◌, ap, append-nil, append_assoc, arith}
use Rattle.std.specs.Prelude.{Option, Some, None, IsSome, option_map, option_and_then, decimal, codes}
use Rattle.std.specs.Char.{is_ascii_alphanumeric}
use Rattle.std.specs.List.{AllByRecursion}
use Rattle.std.proofs.lemmas.Bool.{false≢true}
use Rattle.tcf_values.specs.Cut.{Lacks}
use Rattle.tcf_values.specs.Spelling.{context_spelling}
use Rattle.tcf_values.specs.declared.ids.ContextId.{ContextId}
use Rattle.tcf_values.specs.declared.ids.ContextId.TheVariants.{Process, Thread}
use Rattle.tcf_schedules.specs.Plan.{IsThread}
use Rattle.tcf_schedules.proofs.Grammar.{thread_exact}
use Rattle.line_words.specs.Exact.{all_lack, digits_lack}
use Rattle.command_tables.specs.Reading.{IsReading, reading_in, reading_of}
use Rattle.command_tables.specs.ReadingLaws.{KnownAreReadable}
use Rattle.command_tables.specs.declared.reading.Reading.TheVariants as readings
use Rattle.service_names.specs.Commands.{name_in}
use Rattle.service_names.specs.declared.commands.CommandName.{CommandName}
use Rattle.target_hub.specs.declared.input.Input.{Input}
use Rattle.target_hub.specs.declared.input.Input.TheVariants.{Opened, Executed, Ticked, Closed}
use Rattle.tcf_values.specs.declared.command.Command.{Command}
use Rattle.command_tables.specs.Canonical.{body_of}
use Rattle.tcf_text.specs.Log.{numbered, readable, word_text}
use Rattle.tcf_text.specs.Said.{AreShown, IsByte, data_words}
use Rattle.tcf_text.specs.declared.log.Showing.TheVariants.{Readable}
use Rattle.tcf_text.specs.declared.said.Named.{Named}
use Rattle.tcf_text.proofs.Behind.{LackBlanks, behind, words_behind}
use Rattle.tcf_text.proofs.Numbers.{number_said}
use Rattle.tcf_text.proofs.Plain.{lacks_both, word_plain}
use Rattle.tcf_text.proofs.Read.{words_are_read_back}
use Rattle.tcf_text.proofs.ReadBack.{named_behind, named_plain, named_there, number_then, numbered_behind, word_then}
use Rattle.journal_text.specs.Inputs.{bad_by, bad_with, bad_word, closed_word, input_behind, input_in, input_of, known_by, known_word, names_said, opened_word, ticked_word, unknown_by, unknown_word}
use Rattle.journal_text.specs.Written.{IsInputBack, executed_text, names_text}
use Rattle.journal_text.proofs.Codes.{code_back, code_small}

-- a line of these words is read as what they say
read_by : (text word : List ℕ) (words : List (List ℕ)) (input : Input) → text ≡ word ++ behind words → Lacks 32 word → LackBlanks words → input_behind word words ≡ Some input
    → input_of text ≡ Some input
read_by text word words input is lacks all said = ap input_of is ∙ (ap input_in (words_behind word words lacks all) ∙ said)

pub opened_back : (k : ℕ) → IsInputBack (Opened k)
unfolding input_behind opened_word
opened_back k long =
    read_by _ opened_word (decimal k ∷ []) _ (sym (append-nil (numbered opened_word k)) ∙ numbered_behind opened_word k [])
    (all_lack is_ascii_alphanumeric refl opened_word refl) (digits_lack k long, tt) (ap (option_map Opened) (number_said (decimal k) k long refl))

pub closed_back : (k : ℕ) → IsInputBack (Closed k)
unfolding input_behind closed_word ticked_word bad_word unknown_word known_word opened_word
closed_back k long =
    read_by _ closed_word (decimal k ∷ []) _ (sym (append-nil (numbered closed_word k)) ∙ numbered_behind closed_word k [])
    (all_lack is_ascii_alphanumeric refl closed_word refl) (digits_lack k long, tt) (ap (option_map Closed) (number_said (decimal k) k long refl))

-- the names of a command
names_behind : (service name : List ℕ) → names_text service name ≡ behind (readable service ∷ readable name ∷ [])
names_behind service name = ap (λ t. word_text Readable service ++ t) (sym (append-nil (word_text Readable name)))

names_there : (service name : List ℕ) → AreShown service → AreShown name → names_said (readable service ∷ readable name ∷ []) ≡ Some (service, name)
names_there service name s n = word_then service _ s ∙ ap (option_map (λ x. (service, x))) (words_are_read_back name n)

pub known_back : (k : ℕ) (service name : List ℕ) (command : Command) → AllByRecursion IsByte (body_of command) → reading_of service name (body_of command) ≡ readings.Known command
    → IsInputBack (Executed k (readings.Known command) service name)
unfolding input_behind known_word opened_word
known_back k service name command all reads is =
    read_by _ known_word (decimal k ∷ readable service ∷ readable name ∷ data_words (body_of command)) _
    (ap (λ t. numbered known_word k ++ t) (named_behind service name (body_of command)) ∙ numbered_behind known_word k (readable service ∷ readable name ∷ data_words (body_of command)))
    (all_lack is_ascii_alphanumeric refl known_word refl) (digits_lack k is.0, named_plain service name (body_of command))
    (number_then k _ is.0
    ∙ (ap (option_and_then (λ (c : Named). known_by k c.service c.name (reading_of c.service c.name c.body))) (named_there service name (body_of command) is.2 is.3 all) ∙ ap (known_by k service name) reads))

-- the data that a command is written as is read as it under each name that it is read under
pub known_by_name : KnownAreReadable → (service name own_service own_name body : List ℕ) (command : Command) → IsReading service name (readings.Known command)
    → reading_of own_service own_name body ≡ readings.Known command → reading_of service name body ≡ readings.Known command
known_by_name law service name own_service own_name body command given reads =
    ap (reading_in body) ((law service name command given).0 ∙ sym (law own_service own_name command (body, reads)).0) ∙ reads

pub unknown_back : (k : ℕ) (service name : List ℕ) → IsReading service name readings.Unknown → IsInputBack (Executed k readings.Unknown service name)
unfolding input_behind unknown_word known_word opened_word
unknown_back k service name none is =
    read_by _ unknown_word (decimal k ∷ readable service ∷ readable name ∷ []) _
    (ap (λ t. numbered unknown_word k ++ t) (names_behind service name) ∙ numbered_behind unknown_word k (readable service ∷ readable name ∷ []))
    (all_lack is_ascii_alphanumeric refl unknown_word refl) (digits_lack k is.0, (word_plain service, (word_plain name, tt)))
    (number_then k _ is.0
    ∙ (ap (option_and_then (λ names. unknown_by k names.0 names.1 (name_in names.0 names.1))) (names_there service name is.2 is.3) ∙ ap (unknown_by k service name) none))

bad_there : (k index code : ℕ) (service name : List ℕ) (o : Option CommandName) → IsSome o → bad_by k index code service name o ≡ Some (Executed k (readings.Bad index code) service name)
bad_there k index code service name None some = absurd (false≢true some)
bad_there k index code service name (Some command) some = refl

bad_text : (k index code : ℕ) (service name : List ℕ)
    → executed_text k (readings.Bad index code) service name ≡ bad_word ++ behind (decimal k ∷ decimal index ∷ decimal code ∷ readable service ∷ readable name ∷ [])
bad_text k index code service name =
    append_assoc (numbered bad_word k ++ 32 ∷ decimal index) (32 ∷ decimal code) (names_text service name)
    ∙ (append_assoc (numbered bad_word k) (32 ∷ decimal index) (32 ∷ decimal code ++ names_text service name)
    ∙ (append_assoc bad_word (32 ∷ decimal k) (32 ∷ decimal index ++ (32 ∷ decimal code ++ names_text service name))
    ∙ ap (λ t. bad_word ++ (32 ∷ decimal k ++ (32 ∷ decimal index ++ (32 ∷ decimal code ++ t)))) (names_behind service name)))

pub bad_back : (k index code : ℕ) (service name : List ℕ) → IsReading service name (readings.Bad index code) → IsInputBack (Executed k (readings.Bad index code) service name)
unfolding input_behind bad_word unknown_word known_word opened_word
bad_back k index code service name reads is =
    read_by _ bad_word (decimal k ∷ decimal index ∷ decimal code ∷ readable service ∷ readable name ∷ []) _ (bad_text k index code service name)
    (all_lack is_ascii_alphanumeric refl bad_word refl)
    (digits_lack k is.0, (digits_lack index is.1, (digits_lack code (code_small reads.1.0 index code reads.1.1), (word_plain service, (word_plain name, tt)))))
    (number_then k _ is.0
    ∙ (number_then index _ is.1
    ∙ (ap (option_and_then (λ c. option_and_then (bad_with k index c) (names_said (readable service ∷ readable name ∷ [])))) (code_back reads.1.0 index code reads.1.1)
    ∙ (ap (option_and_then (bad_with k index code)) (names_there service name is.2 is.3) ∙ bad_there k index code service name (name_in service name) reads.0))))

-- a thread's spelling has no blank
thread_plain : (thread : ContextId) → IsThread thread → Lacks 32 (context_spelling thread)
thread_plain (Process p) is = absurd is
thread_plain (Thread p q) is =
    lacks_both (codes "P") (decimal p ++ (codes "." ++ decimal q)) ((λ same. omega (arith, same)), tt)
    (lacks_both (decimal p) (codes "." ++ decimal q) (digits_lack p (omega (arith, is.0.1)))
    (lacks_both (codes ".") (decimal q) ((λ same. omega (arith, same)), tt) (digits_lack q (omega (arith, is.1.1)))))

pub ticked_back : (thread : ContextId) → IsInputBack (Ticked thread)
unfolding input_behind ticked_word bad_word unknown_word known_word opened_word
ticked_back thread is =
    read_by _ ticked_word (context_spelling thread ∷ []) _ (ap (λ t. ticked_word ++ t) (sym (append-nil (32 ∷ context_spelling thread))))
    (all_lack is_ascii_alphanumeric refl ticked_word refl) (thread_plain thread is, tt) (ap (option_map Ticked) (thread_exact.there thread is))
