-- What value-adds say themselves answers their commands, each once and in order.
use Rattle.std.proofs.Common.{◌≡◌, ℕ, ◌<◌, ◌^◌, true, false, ◌||◌, List, [], ◌∷◌, ◌++◌, map, Option, Some, None, refl, ap, ap₂, sym, ◌∙◌, subst}
use Rattle.std.specs.Prelude.{bytes_eq, decimal}
use Rattle.std.specs.List.{AllByRecursion, flat_map}
use Rattle.std.proofs.lemmas.Fmt.{decimal_injective}
use Rattle.channel_core.specs.Arrivals.{Spoken}
use Rattle.tcf_message.specs.Message.{MessageValue, final, not_known}
use Rattle.tcf_text.specs.Lines.{Accepted, bare_answer_of}
use Rattle.tcf_text.specs.Once.{numbers}
use Rattle.tcf_text.specs.declared.log.LogLine.{LogLine}
use Rattle.tcf_text.specs.declared.log.LogLine.TheVariants as lines
use Rattle.target_hub.specs.Received.{answer_of}
use Rattle.value_node.specs.Asked.{Asked}
use Rattle.value_node.specs.OwnMessages.{IsOwn, OwnStep, a_hello, a_result, an_unknown}
use Rattle.chain_heard.specs.Heard.{asked_as}
use Rattle.chain_told.specs.Told.{ends, is_ended}
use Rattle.chain_heard.proofs.Lines.{AreFew, AreLinesOf, IsLineOf, says_event, says_final, says_hello, says_progress, says_unknown}
use Rattle.chain_heard.proofs.Placed.{IsBare, hello_line_is}
use Rattle.list_laws.proofs.Lists.{equal_itself as same_token}
use Rattle.list_laws.proofs.AllLists.{all_weaker}
use Rattle.list_laws.proofs.Flags.{or_true}

-- ---- which commands have their answer

step_ended : (s : Spoken) (own : List Spoken) (commands next : List Asked) → OwnStep commands s.message next → AllByRecursion (λ c. is_ended c.token own ≡ true) next
    → AllByRecursion (λ c. is_ended c.token (s ∷ own) ≡ true) commands
step_ended s own commands next (a_hello body is left) all =
    all_weaker (λ c. is_ended c.token own ≡ true) (λ c. is_ended c.token (s ∷ own) ≡ true) commands
    (λ c ended. ap (λ b. ends c.token s.message || b) ended ∙ or_true (ends c.token s.message))
    (subst (AllByRecursion (λ c. is_ended c.token own ≡ true)) left all)
step_ended s own commands next (a_result c body is at split) all =
    subst (AllByRecursion (λ c. is_ended c.token (s ∷ own) ≡ true)) (sym split) (
      ap (λ m. ends c.token m || is_ended c.token own) is ∙ ap (λ b. b || is_ended c.token own) (same_token c.token),
      all_weaker (λ c. is_ended c.token own ≡ true) (λ c. is_ended c.token (s ∷ own) ≡ true) next
          (λ d ended. ap (λ b. ends d.token s.message || b) ended ∙ or_true (ends d.token s.message)) all,
    )
step_ended s own commands next (an_unknown c is split) all =
    subst (AllByRecursion (λ c. is_ended c.token (s ∷ own) ≡ true)) (sym split) (
      ap (λ m. ends c.token m || is_ended c.token own) is ∙ ap (λ b. b || is_ended c.token own) (same_token c.token),
      all_weaker (λ c. is_ended c.token own ≡ true) (λ c. is_ended c.token (s ∷ own) ≡ true) next
          (λ d ended. ap (λ b. ends d.token s.message || b) ended ∙ or_true (ends d.token s.message)) all,
    )

pub own_ended : (own : List Spoken) (commands : List Asked) → IsOwn commands own [] → AllByRecursion (λ c. is_ended c.token own ≡ true) commands
own_ended [] commands is = subst (AllByRecursion (λ c. is_ended c.token [] ≡ true)) (sym is) tt
own_ended (s ∷ own) commands is = step_ended s own commands is.1.0 is.1.1 (own_ended own is.1.0 is.1.2)

abbrev IsOther : List ℕ → Asked → Type 0
IsOther token c = bytes_eq c.token token ≡ false

step_open : (s : Spoken) (own : List Spoken) (commands next : List Asked) (token : List ℕ) → OwnStep commands s.message next → AllByRecursion (IsOther token) commands
    → (AllByRecursion (IsOther token) next → is_ended token own ≡ false) → is_ended token (s ∷ own) ≡ false
step_open s own commands next token (a_hello body is left) others further =
    ap (λ m. ends token m || is_ended token own) is ∙ further (subst (AllByRecursion (IsOther token)) (sym left) others)
step_open s own commands next token (a_result c body is at split) others further =
    let parts : AllByRecursion (IsOther token) (c ∷ next) = subst (AllByRecursion (IsOther token)) split others in
    ap (λ m. ends token m || is_ended token own) is ∙ ap (λ b. b || is_ended token own) parts.0 ∙ further parts.1
step_open s own commands next token (an_unknown c is split) others further =
    let parts : AllByRecursion (IsOther token) (c ∷ next) = subst (AllByRecursion (IsOther token)) split others in
    ap (λ m. ends token m || is_ended token own) is ∙ ap (λ b. b || is_ended token own) parts.0 ∙ further parts.1

pub own_open : (own : List Spoken) (commands left : List Asked) (token : List ℕ) → IsOwn commands own left → AllByRecursion (IsOther token) commands → is_ended token own ≡ false
own_open [] commands left token is others = refl
own_open (s ∷ own) commands left token is others = step_open s own commands is.1.0 token is.1.1 others (own_open own is.1.0 left token is.1.2)

-- ---- the lines of answers

abbrev bare_of : Option ℕ → ℕ → List ℕ
bare_of None number = number ∷ []
bare_of (Some position) number = []

bare_of_final : (mark : Option ℕ) (number : ℕ) (body : List ℕ) → bare_answer_of (lines.Final number mark body) ≡ bare_of mark number
bare_of_final None number body = refl
bare_of_final (Some position) number body = refl

bare_of_unknown : (mark : Option ℕ) (number : ℕ) → bare_answer_of (lines.Unknown number mark) ≡ bare_of mark number
bare_of_unknown None number = refl
bare_of_unknown (Some position) number = refl

record AnswerLine (token : List ℕ) (mark : Option ℕ) (line : LogLine) : Type 0 where
  pub number : ℕ
  pub few : number < 2 ^ 64
  pub token_is : decimal number ≡ token
  pub bare : bare_answer_of line ≡ bare_of mark number

final_answers : (m : MessageValue) (mark : Option ℕ) (line : LogLine) (token body : List ℕ) → IsLineOf m mark line → m ≡ final token body → AnswerLine token mark line
final_answers m mark line token body (says_final number text few is says) also =
    let whole : final (decimal number) text ≡ final token body = sym is ∙ also in
    let same : decimal number ≡ token = cc in
    record { number = number; few = few; token_is = same; bare = ap bare_answer_of says ∙ bare_of_final mark number text }
final_answers m mark line token body (says_hello text is says) also = absurd cc
final_answers m mark line token body (says_event service name text is plain says) also = absurd cc
final_answers m mark line token body (says_progress number text few is says) also = absurd cc
final_answers m mark line token body (says_unknown number few is says) also = absurd cc

unknown_answers : (m : MessageValue) (mark : Option ℕ) (line : LogLine) (token : List ℕ) → IsLineOf m mark line → m ≡ not_known token → AnswerLine token mark line
unknown_answers m mark line token (says_unknown number few is says) also =
    let whole : not_known (decimal number) ≡ not_known token = sym is ∙ also in
    let same : decimal number ≡ token = cc in
    record { number = number; few = few; token_is = same; bare = ap bare_answer_of says ∙ bare_of_unknown mark number }
unknown_answers m mark line token (says_hello text is says) also = absurd cc
unknown_answers m mark line token (says_event service name text is plain says) also = absurd cc
unknown_answers m mark line token (says_progress number text few is says) also = absurd cc
unknown_answers m mark line token (says_final number text few is says) also = absurd cc

-- ---- they have the numbers of the commands

pub record First (commands : List Accepted) (c : Asked) (next : List Asked) : Type 0 where
  pub command : Accepted
  pub rest : List Accepted
  pub split : commands ≡ command ∷ rest
  pub same : asked_as command ≡ c
  pub behind : map asked_as rest ≡ next

pub first_of : (commands : List Accepted) (c : Asked) (next : List Asked) → map asked_as commands ≡ c ∷ next → First commands c next
first_of [] c next is = absurd cc
first_of (d ∷ commands) c next is =
    let same : asked_as d ≡ c = cc in
    let behind : map asked_as commands ≡ next = cc in
    record { command = d; rest = commands; split = refl; same = same; behind = behind }

abbrev AnswerAll : List Spoken → List LogLine → List Asked → Type 0
AnswerAll own xs next = (commands : List Accepted) → map asked_as commands ≡ next → AreFew commands → flat_map bare_answer_of xs ≡ numbers commands

answer_one : (commands : List Accepted) (c : Asked) (next : List Asked) (mark : Option ℕ) (x : LogLine) (own : List Spoken) (xs : List LogLine) → mark ≡ None → AnswerLine c.token mark x
    → AreFew commands → map asked_as commands ≡ c ∷ next → AnswerAll own xs next → flat_map bare_answer_of (x ∷ xs) ≡ numbers commands
answer_one commands c next mark x own xs none line few split further =
    let first : First commands c next = first_of commands c next split in
    let fits : AreFew (first.command ∷ first.rest) = subst AreFew first.split few in
    let named : decimal line.number ≡ decimal first.command.number = line.token_is ∙ ap (λ (a : Asked). a.token) (sym first.same) in
    let same : line.number ≡ first.command.number = decimal_injective line.number first.command.number line.few fits.0 named in
    let here : bare_answer_of x ≡ first.command.number ∷ [] = line.bare ∙ ap (λ m. bare_of m line.number) none ∙ ap (λ n. n ∷ []) same in
    ap₂ (λ one more. one ++ more) here (further first.rest first.behind fits.1) ∙ ap numbers (sym first.split)

step_answers : (s : Spoken) (own : List Spoken) (x : LogLine) (xs : List LogLine) (next : List Asked) (commands : List Accepted) → s.mark ≡ None → OwnStep (map asked_as commands) s.message next
    → IsLineOf s.message s.mark x → AreFew commands → AnswerAll own xs next → flat_map bare_answer_of (x ∷ xs) ≡ numbers commands
step_answers s own x xs next commands none (a_hello body is left) line few further =
    ap (λ l. bare_answer_of l ++ flat_map bare_answer_of xs) (hello_line_is s.message s.mark x body line is) ∙ further commands (sym left) few
step_answers s own x xs next commands none (a_result c body is at split) line few further =
    answer_one commands c next s.mark x own xs none (final_answers s.message s.mark x c.token body line is) few split further
step_answers s own x xs next commands none (an_unknown c is split) line few further =
    answer_one commands c next s.mark x own xs none (unknown_answers s.message s.mark x c.token line is) few split further

pub own_answers : (own : List Spoken) (xs : List LogLine) (all : List Asked) → IsOwn all own [] → AreLinesOf own xs → AnswerAll own xs all
own_answers [] [] all is are [] same few = refl
own_answers [] [] all is are (c ∷ commands) same few = let none : map asked_as (c ∷ commands) ≡ [] = same ∙ is in absurd cc
own_answers [] (x ∷ xs) all is are commands same few = absurd are
own_answers (s ∷ own) [] all is are commands same few = absurd are
own_answers (s ∷ own) (x ∷ xs) all is are commands same few =
    step_answers s own x xs is.1.0 commands is.0 (subst (λ cs. OwnStep cs s.message is.1.0) (sym same) is.1.1) are.0 few
    (own_answers own xs is.1.0 is.1.2 are.1)

-- ---- none of them is the target's

no_answer_bare : (all : List Accepted) (line : LogLine) → IsBare line → answer_of all line ≡ []
no_answer_bare all (lines.Final number None body) bare = refl
no_answer_bare all (lines.Final number (Some place) body) bare = absurd cc
no_answer_bare all (lines.Unknown number None) bare = refl
no_answer_bare all (lines.Unknown number (Some place)) bare = absurd cc
no_answer_bare all line bare = refl

pub no_answers_bare : (all : List Accepted) (xs : List LogLine) → AllByRecursion IsBare xs → flat_map (answer_of all) xs ≡ []
no_answers_bare all [] bare = refl
no_answers_bare all (x ∷ xs) bare = ap₂ (λ here more. here ++ more) (no_answer_bare all x bare.0) (no_answers_bare all xs bare.1)
