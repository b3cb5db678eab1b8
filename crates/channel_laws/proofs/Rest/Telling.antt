-- What more that is taken, and what more is sent, makes of the redirects that lack an answer, or a Hello behind it.
use Rattle.std.proofs.Common.{◌≡◌, ◌≢◌, ℕ, ◌≤◌, Bool, true, false, not, ◌&&◌, ◌||◌, List, [], ◌∷◌, ◌++◌, refl, sym, ap, ◌∙◌}
use Rattle.std.specs.Prelude.{bytes_eq, decimal}
use Rattle.std.specs.List.{list_any}
use Rattle.std.proofs.lemmas.Bool.{or_left, or_parts, or_right}
use Rattle.std.proofs.lemmas.List.Folds.{list_any-append}
use Rattle.std.proofs.lemmas.Slice.Eq.{bytes_eq-Decides}
use Rattle.channel_core.specs.Greeting.{is_greeting}
use Rattle.channel_core.specs.RunLaws.{answered_in, is_answered, token_in}
use Rattle.channel_core.specs.Runs.{Issued}
use Rattle.channel_core.specs.Sending.{last_token}
use Rattle.channel_core.specs.Wire.{Said, answers, asks, goes_on, greets, said_in, tells}
use Rattle.channel_core.specs.declared.held.Incoming.{Incoming}
use Rattle.channel_core.specs.declared.taking.Taken.{Taken}
use Rattle.channel_core.specs.declared.taking.Taken.TheVariants.{Closed, Command, Event, Final, Hello, Progress}
use Rattle.channel_core.proofs.Rows.{not_named}
use Rattle.channel_laws.specs.Rest.{does_redirect, is_done_for, lacks_answer, lacks_hello}
use Rattle.list_laws.proofs.Flags.{or_false, or_assoc}

-- ---- Flags

and_none : (flag : Bool) → (flag && false) ≡ false
and_none true = refl
and_none false = refl

and_all : (flag : Bool) → (flag && true) ≡ flag
and_all true = refl
and_all false = refl

-- ---- Answers

-- the entry is the final answer under this token
abbrev pub is_hit : {T : Type 0} → Taken T → ℕ → Bool
is_hit t n = list_any (λ text. bytes_eq text (decimal n)) (answered_in t)

pub answered_more : {T : Type 0} → (taken : List (Taken T)) (t : Taken T) (n : ℕ) → is_answered (taken ++ t ∷ []) n ≡ (is_answered taken n || is_hit t n)
answered_more taken t n = list_any-append (λ x. is_hit x n) taken (t ∷ []) ∙ ap (λ b. is_answered taken n || b) (or_false (is_hit t n))

pub unanswered_more : {T : Type 0} → (taken : List (Taken T)) (t : Taken T) (n : ℕ) → is_answered taken n ≡ false → is_hit t n ≡ false → is_answered (taken ++ t ∷ []) n ≡ false
unanswered_more taken t n none other = answered_more taken t n ∙ ap (λ b. b || is_hit t n) none ∙ other

pub hits : {T : Type 0} → (tag : T) (incoming : Incoming) (token n : ℕ) (done : Bool) → said_in incoming.raw ≡ answers (decimal token) done → is_hit (Final tag incoming) n ≡ bytes_eq (decimal token) (decimal n)
hits tag incoming token n done answer =
    ap (λ (m : Said). list_any (λ text. bytes_eq text (decimal n)) (token_in m)) answer ∙ or_false (bytes_eq (decimal token) (decimal n))

pub hits_other : {T : Type 0} → (tag : T) (incoming : Incoming) (token n : ℕ) (done : Bool) → said_in incoming.raw ≡ answers (decimal token) done → token ≤ last_token → n ≤ last_token → token ≢ n
    → is_hit (Final tag incoming) n ≡ false
hits_other tag incoming token n done answer within fits other = hits tag incoming token n done answer ∙ not_named token n within fits other

-- ---- A redirect without an answer

and_less : (a b c : Bool) → (a && not b) ≡ false → (b ≡ true → c ≡ true) → (a && not c) ≡ false
and_less false b c none more = refl
and_less true true c none more = ap not (more refl)
and_less true false c none more = absurd cc

-- what was answered stays answered
pub none_lacks : {T : Type 0} → (taken more : List (Taken T)) (sent : List (Issued T)) → lacks_answer sent taken ≡ false → lacks_answer sent (taken ++ more) ≡ false
none_lacks taken more [] none = refl
none_lacks {T = T} taken more (i ∷ sent) none =
    let n = i.command.token in
    let parts = or_parts (i.command.is_redirect && not (is_answered taken n)) (lacks_answer sent taken) none in
    let still : is_answered taken n ≡ true → is_answered (taken ++ more) n ≡ true = λ is. list_any-append (λ (x : Taken T). is_hit x n) taken more ∙ or_left (is_answered taken n) (is_answered more n) is in
    ap (λ b. b || lacks_answer sent (taken ++ more)) (and_less i.command.is_redirect (is_answered taken n) (is_answered (taken ++ more) n) parts.0 still)
    ∙ none_lacks taken more sent parts.1

-- of two parts
pub lacks_append : {T : Type 0} → (taken : List (Taken T)) (front : List (Issued T)) (i : Issued T)
    → lacks_answer (front ++ i ∷ []) taken ≡ (lacks_answer front taken || (i.command.is_redirect && not (is_answered taken i.command.token)))
lacks_append {T = T} taken front i =
    let lone = i.command.is_redirect && not (is_answered taken i.command.token) in
    list_any-append (λ (x : Issued T). x.command.is_redirect && not (is_answered taken x.command.token)) front (i ∷ []) ∙ ap (λ b. lacks_answer front taken || b) (or_false lone)

-- another command than a redirect
pub lacks_other : {T : Type 0} → (taken : List (Taken T)) (sent : List (Issued T)) (i : Issued T) → i.command.is_redirect ≡ false → lacks_answer sent taken ≡ false → lacks_answer (sent ++ i ∷ []) taken ≡ false
lacks_other taken sent i isnt none =
    lacks_append taken sent i ∙ ap (λ b. lacks_answer sent taken || (b && not (is_answered taken i.command.token))) isnt ∙ or_false (lacks_answer sent taken) ∙ none

-- a redirect that is answered
pub lacks_answered : {T : Type 0} → (taken : List (Taken T)) (front : List (Issued T)) (i : Issued T) → lacks_answer front taken ≡ false → is_answered taken i.command.token ≡ true
    → lacks_answer (front ++ i ∷ []) taken ≡ false
lacks_answered taken front i none is =
    lacks_append taken front i ∙ ap (λ b. lacks_answer front taken || (i.command.is_redirect && not b)) is ∙ ap (λ b. lacks_answer front taken || b) (and_none i.command.is_redirect)
    ∙ or_false (lacks_answer front taken) ∙ none

-- and one that isn't
pub lacks_one : {T : Type 0} → (taken : List (Taken T)) (front : List (Issued T)) (i : Issued T) → i.command.is_redirect ≡ true → is_answered taken i.command.token ≡ false
    → lacks_answer (front ++ i ∷ []) taken ≡ true
lacks_one taken front i redirects none =
    lacks_append taken front i ∙ ap (λ b. lacks_answer front taken || (b && not (is_answered taken i.command.token))) redirects
    ∙ ap (λ b. lacks_answer front taken || not b) none ∙ or_right (lacks_answer front taken) true refl

-- ---- A redirect without a Hello behind its answer

-- another entry than a Hello
pub hello_more : {T : Type 0} → (sent : List (Issued T)) (taken : List (Taken T)) (t : Taken T) → is_greeting t ≡ false → lacks_hello sent (taken ++ t ∷ []) ≡ (lacks_hello sent taken || does_redirect sent t)
hello_more sent [] t none = or_false (does_redirect sent t && true) ∙ and_all (does_redirect sent t)
hello_more sent (x ∷ taken) t none =
    let greets = list_any is_greeting taken in
    let same : list_any is_greeting (taken ++ t ∷ []) ≡ greets = list_any-append is_greeting taken (t ∷ []) ∙ ap (λ b. greets || (b || false)) none ∙ or_false greets in
    ap (λ g. (does_redirect sent x && not g) || lacks_hello sent (taken ++ t ∷ [])) same
    ∙ ap (λ b. (does_redirect sent x && not greets) || b) (hello_more sent taken t none)
    ∙ or_assoc (does_redirect sent x && not greets) (lacks_hello sent taken) (does_redirect sent t)

-- an entry that does no redirect
pub hello_other : {T : Type 0} → (sent : List (Issued T)) (taken : List (Taken T)) (t : Taken T) → is_greeting t ≡ false → does_redirect sent t ≡ false → lacks_hello sent (taken ++ t ∷ []) ≡ lacks_hello sent taken
hello_other sent taken t none other = hello_more sent taken t none ∙ ap (λ b. lacks_hello sent taken || b) other ∙ or_false (lacks_hello sent taken)

-- a Hello
pub hello_came : {T : Type 0} → (sent : List (Issued T)) (taken : List (Taken T)) (incoming : Incoming) → lacks_hello sent (taken ++ Hello incoming ∷ []) ≡ false
hello_came sent [] incoming = refl
hello_came sent (x ∷ taken) incoming =
    let last = Hello incoming ∷ [] in
    let greets : list_any is_greeting (taken ++ last) ≡ true = list_any-append is_greeting taken last ∙ or_right (list_any is_greeting taken) true refl in
    ap (λ g. (does_redirect sent x && not g) || lacks_hello sent (taken ++ last)) greets
    ∙ ap (λ b. b || lacks_hello sent (taken ++ last)) (and_none (does_redirect sent x))
    ∙ hello_came sent taken incoming

-- a command that is sent without an answer yet
said_more : {T : Type 0} → (sent : List (Issued T)) (i : Issued T) (message : Said) → list_any (λ text. bytes_eq text (decimal i.command.token)) (token_in message) ≡ false
    → is_done_for (sent ++ i ∷ []) message ≡ is_done_for sent message
said_more sent i greets none = refl
said_more sent i tells none = refl
said_more sent i asks none = refl
said_more sent i (goes_on token) none = refl
said_more {T = T} sent i (answers token done) none =
    let other = or_parts (bytes_eq token (decimal i.command.token)) false none in
    let names : Issued T → Bool = λ x. x.command.is_redirect && bytes_eq token (decimal x.command.token) in
    ap (λ b. done && b)
    (list_any-append names sent (i ∷ [])
    ∙ ap (λ b. list_any names sent || ((i.command.is_redirect && b) || false)) other.0
    ∙ ap (λ b. list_any names sent || (b || false)) (and_none i.command.is_redirect)
    ∙ or_false (list_any names sent))

does_more : {T : Type 0} → (sent : List (Issued T)) (i : Issued T) (t : Taken T) → is_hit t i.command.token ≡ false → does_redirect (sent ++ i ∷ []) t ≡ does_redirect sent t
does_more sent i (Hello incoming) none = refl
does_more sent i (Command incoming) none = refl
does_more sent i (Event incoming) none = refl
does_more sent i (Progress token incoming) none = refl
does_more sent i (Final tag incoming) none = said_more sent i (said_in incoming.raw) none
does_more sent i (Closed cause) none = refl

pub hello_sent : {T : Type 0} → (sent : List (Issued T)) (i : Issued T) (taken : List (Taken T)) → is_answered taken i.command.token ≡ false → lacks_hello (sent ++ i ∷ []) taken ≡ lacks_hello sent taken
hello_sent sent i [] none = refl
hello_sent sent i (t ∷ taken) none =
    let parts = or_parts (is_hit t i.command.token) (is_answered taken i.command.token) none in
    ap (λ b. (b && not (list_any is_greeting taken)) || lacks_hello (sent ++ i ∷ []) taken) (does_more sent i t parts.0)
    ∙ ap (λ b. (does_redirect sent t && not (list_any is_greeting taken)) || b) (hello_sent sent i taken parts.1)

-- ---- Which redirect an answer does

-- the commands that it may name
abbrev names : {T : Type 0} → ℕ → Issued T → Bool
names n i = i.command.is_redirect && bytes_eq (decimal n) (decimal i.command.token)

-- it is a first answer, and all redirects are answered: it names none
pub none_named : {T : Type 0} → (n : ℕ) (taken : List (Taken T)) (sent : List (Issued T)) → lacks_answer sent taken ≡ false → is_answered taken n ≡ false → list_any (names n) sent ≡ false
none_named n taken [] none first = refl
none_named {T = T} n taken (i ∷ sent) none first = by_flag (bytes_eq (decimal n) (decimal i.command.token)) refl (none_named n taken sent parts.1 first)
  where
    parts : ((i.command.is_redirect && not (is_answered taken i.command.token)) ≡ false) × (lacks_answer sent taken ≡ false)
    parts = or_parts (i.command.is_redirect && not (is_answered taken i.command.token)) (lacks_answer sent taken) none

    by_flag : (flag : Bool) → bytes_eq (decimal n) (decimal i.command.token) ≡ flag → list_any (names n) sent ≡ false → ((i.command.is_redirect && flag) || list_any (names n) sent) ≡ false
    by_flag true is rest =
        let same : decimal n ≡ decimal i.command.token = (bytes_eq-Decides (decimal n) (decimal i.command.token)).0 is in
        let unanswered : is_answered taken i.command.token ≡ false = ap (λ text. list_any (λ (t : Taken T). list_any (λ x. bytes_eq x text) (answered_in t)) taken) (sym same) ∙ first in
        ap (λ b. b || list_any (names n) sent) (sym (ap (λ b. i.command.is_redirect && not b) unanswered) ∙ parts.0) ∙ rest
    by_flag false is rest = ap (λ b. b || list_any (names n) sent) (and_none i.command.is_redirect) ∙ rest

pub does_none : {T : Type 0} → (sent : List (Issued T)) (tag : T) (incoming : Incoming) (n : ℕ) (done : Bool) → said_in incoming.raw ≡ answers (decimal n) done → list_any (names n) sent ≡ false
    → does_redirect sent (Final tag incoming) ≡ false
does_none sent tag incoming n done answer none = ap (is_done_for sent) answer ∙ ap (λ b. done && b) none ∙ and_none done

-- nor the last one, which has another token
pub last_unnamed : {T : Type 0} → (n : ℕ) (front : List (Issued T)) (last : Issued T) → n ≤ last_token → last.command.token ≤ last_token → n ≢ last.command.token → list_any (names n) front ≡ false
    → list_any (names n) (front ++ last ∷ []) ≡ false
last_unnamed {T = T} n front last within fits other none =
    list_any-append (names n) front (last ∷ [])
    ∙ ap (λ b. list_any (names n) front || ((last.command.is_redirect && b) || false)) (not_named n last.command.token within fits other)
    ∙ ap (λ b. list_any (names n) front || (b || false)) (and_none last.command.is_redirect)
    ∙ or_false (list_any (names n) front) ∙ none

-- an answer without an error under the token of the last one does that
pub does_last : {T : Type 0} → (front : List (Issued T)) (last : Issued T) (tag : T) (incoming : Incoming) → last.command.is_redirect ≡ true → said_in incoming.raw ≡ answers (decimal last.command.token) true
    → does_redirect (front ++ last ∷ []) (Final tag incoming) ≡ true
does_last front last tag incoming redirects answer =
    let n = last.command.token in
    let here : names n last ≡ true = ap (λ b. b && bytes_eq (decimal n) (decimal n)) redirects ∙ (bytes_eq-Decides (decimal n) (decimal n)).1 refl in
    ap (is_done_for (front ++ last ∷ [])) answer ∙ list_any-append (names n) front (last ∷ []) ∙ or_right (list_any (names n) front) (names n last || false) (or_left (names n last) false here)

-- one with an error does none
pub does_failed : {T : Type 0} → (sent : List (Issued T)) (tag : T) (incoming : Incoming) (n : ℕ) → said_in incoming.raw ≡ answers (decimal n) false → does_redirect sent (Final tag incoming) ≡ false
does_failed sent tag incoming n answer = ap (is_done_for sent) answer
