-- Where an end stands, by the redirects that it sent and what it took.
use Rattle.std.proofs.Common.{◌≡◌, ◌≢◌, ℕ, ◌≤◌, Bool, true, false, ◌||◌, List, [], ◌∷◌, ◌++◌, Option, Some, None, refl, sym, ap, ◌∙◌}
use Rattle.std.specs.Prelude.{bytes_eq, decimal}
use Rattle.std.specs.List.{list_any}
use Rattle.std.proofs.lemmas.Bool.{eqb-false, or_left, or_right}
use Rattle.std.proofs.lemmas.List.Folds.{list_any-append}
use Rattle.std.proofs.lemmas.Slice.Eq.{bytes_eq-Decides}
use Rattle.channel_core.specs.Closing.{is_closed}
use Rattle.channel_core.specs.Greeting.{is_greeting}
use Rattle.channel_core.specs.RunLaws.{is_answered, sent_of}
use Rattle.channel_core.specs.Runs.{Issued, Run}
use Rattle.channel_core.specs.Sending.{last_token}
use Rattle.channel_core.specs.Taking.{is_of, state_greeted}
use Rattle.channel_core.specs.Wire.{answers, said_in}
use Rattle.channel_core.specs.declared.held.Incoming.{Incoming}
use Rattle.channel_core.specs.declared.states.EndState.{EndState}
use Rattle.channel_core.specs.declared.states.EndState.TheVariants.{Closed, Live, Opening, Reopening}
use Rattle.channel_core.specs.declared.taking.Taken.{Taken}
use Rattle.channel_core.specs.declared.taking.Taken.TheVariants.{Final, Hello}
use Rattle.channel_laws.specs.Rest.{StandsAs, does_redirect, lacks_answer, lacks_hello}
use Rattle.channel_laws.proofs.Rest.Telling.{answered_more, does_failed, does_last, does_none, hello_came, hello_more, hello_other, hello_sent, hits, hits_other, is_hit, lacks_answered, lacks_one, lacks_other, last_unnamed, none_lacks, none_named, unanswered_more}

-- no redirect waits for anything
pub record IsQuiet {T : Type 0} (taken : List (Taken T)) (sent : List (Issued T)) : Type 0 where
  pub answered : lacks_answer sent taken ≡ false
  pub greeted : lacks_hello sent taken ≡ false

-- the command that was sent last is a redirect with this token, and waits for its answer; no other one waits for anything
pub record IsAsking {T : Type 0} (token : ℕ) (taken : List (Taken T)) (sent : List (Issued T)) : Type 0 where
  pub front : List (Issued T)
  pub last : Issued T
  pub parts : sent ≡ front ++ last ∷ []
  pub redirects : last.command.is_redirect ≡ true
  pub token_is : last.command.token ≡ token
  pub fits : last.command.token ≤ last_token
  pub unanswered : is_answered taken last.command.token ≡ false
  pub others : lacks_answer front taken ≡ false
  pub greeted : lacks_hello sent taken ≡ false

-- all redirects are answered, and a Hello is to come
pub record IsAwaiting {T : Type 0} (taken : List (Taken T)) (sent : List (Issued T)) : Type 0 where
  pub answered : lacks_answer sent taken ≡ false
  pub lacks : lacks_hello sent taken ≡ true

abbrev pub Reopens : {T : Type 0} → Option ℕ → List (Taken T) → List (Issued T) → Type 0
Reopens None taken sent = IsAwaiting taken sent
Reopens (Some token) taken sent = IsAsking token taken sent

abbrev pub Stands : {T : Type 0} → EndState → Option ℕ → List (Taken T) → List (Issued T) → Type 0
Stands Opening redirect taken sent = (redirect ≡ None) × (taken ≡ []) × (sent ≡ [])
Stands Live redirect taken sent = (redirect ≡ None) × IsQuiet taken sent
Stands Reopening redirect taken sent = Reopens redirect taken sent
Stands (Closed cause) redirect taken sent = Unit {0}

-- one that has greeted took a Hello
abbrev pub HasGreeted : {T : Type 0} → EndState → List (Taken T) → Type 0
HasGreeted Opening taken = Unit {0}
HasGreeted Live taken = list_any is_greeting taken ≡ true
HasGreeted Reopening taken = list_any is_greeting taken ≡ true
HasGreeted (Closed cause) taken = Unit {0}

-- ---- What it tells

reopening_as : {T : Type 0} → (redirect : Option ℕ) (r : Run T) → Reopens redirect r.past.taken (sent_of r) → (lacks_answer (sent_of r) r.past.taken || lacks_hello (sent_of r) r.past.taken) ≡ true
reopening_as None r s = or_right (lacks_answer (sent_of r) r.past.taken) (lacks_hello (sent_of r) r.past.taken) s.lacks
reopening_as {T = T} (Some token) r s =
    let lacks : lacks_answer (sent_of r) r.past.taken ≡ true = ap (λ (xs : List (Issued T)). lacks_answer xs r.past.taken) s.parts ∙ lacks_one r.past.taken s.front s.last s.redirects s.unanswered in
    ap (λ b. b || lacks_hello (sent_of r) r.past.taken) lacks

pub stands_as : {T : Type 0} → (state : EndState) (redirect : Option ℕ) (r : Run T) → HasGreeted state r.past.taken → Stands state redirect r.past.taken (sent_of r) → StandsAs state r
stands_as Opening redirect r g s = s.1
stands_as Live redirect r g s = (g, s.1.answered, s.1.greeted)
stands_as Reopening redirect r g s = (g, reopening_as redirect r s)
stands_as (Closed cause) redirect r g s = tt

-- ---- A Hello was taken

pub greeted_more : {T : Type 0} → (state : EndState) (taken more : List (Taken T)) → HasGreeted state taken → HasGreeted state (taken ++ more)
greeted_more Opening taken more g = tt
greeted_more Live taken more g = list_any-append is_greeting taken more ∙ or_left (list_any is_greeting taken) (list_any is_greeting more) g
greeted_more Reopening taken more g = list_any-append is_greeting taken more ∙ or_left (list_any is_greeting taken) (list_any is_greeting more) g
greeted_more (Closed cause) taken more g = tt

came_now : {T : Type 0} → (taken : List (Taken T)) (incoming : Incoming) → list_any is_greeting (taken ++ Hello incoming ∷ []) ≡ true
came_now taken incoming = list_any-append is_greeting taken (Hello incoming ∷ []) ∙ or_right (list_any is_greeting taken) true refl

pub greeted_now : {T : Type 0} → (state : EndState) (redirect : Option ℕ) (taken : List (Taken T)) (incoming : Incoming) → HasGreeted (state_greeted state redirect) (taken ++ Hello incoming ∷ [])
greeted_now Opening redirect taken incoming = came_now taken incoming
greeted_now Live redirect taken incoming = came_now taken incoming
greeted_now Reopening None taken incoming = came_now taken incoming
greeted_now Reopening (Some token) taken incoming = came_now taken incoming
greeted_now (Closed cause) redirect taken incoming = tt

pub greeted_open : {T : Type 0} → (state : EndState) (taken : List (Taken T)) → is_closed state ≡ false → state ≢ Opening → HasGreeted state taken → list_any is_greeting taken ≡ true
greeted_open Opening taken opened begun g = absurd (begun refl)
greeted_open Live taken opened begun g = g
greeted_open Reopening taken opened begun g = g
greeted_open (Closed cause) taken opened begun g = absurd cc

-- ---- An entry that is neither a Hello nor a final answer

quiet_other : {T : Type 0} → (taken : List (Taken T)) (sent : List (Issued T)) (t : Taken T) → is_greeting t ≡ false → does_redirect sent t ≡ false → IsQuiet taken sent → IsQuiet (taken ++ t ∷ []) sent
quiet_other taken sent t none other q = record { answered = none_lacks taken (t ∷ []) sent q.answered; greeted = hello_other sent taken t none other ∙ q.greeted }

asking_other : {T : Type 0} → (token : ℕ) (taken : List (Taken T)) (sent : List (Issued T)) (t : Taken T) → is_greeting t ≡ false → does_redirect sent t ≡ false → (a : IsAsking token taken sent)
    → is_hit t a.last.command.token ≡ false → IsAsking token (taken ++ t ∷ []) sent
asking_other token taken sent t none other a apart = record {
  front = a.front;
  last = a.last;
  parts = a.parts;
  redirects = a.redirects;
  token_is = a.token_is;
  fits = a.fits;
  unanswered = unanswered_more taken t a.last.command.token a.unanswered apart;
  others = none_lacks taken (t ∷ []) a.front a.others;
  greeted = hello_other sent taken t none other ∙ a.greeted;
}

awaiting_other : {T : Type 0} → (taken : List (Taken T)) (sent : List (Issued T)) (t : Taken T) → is_greeting t ≡ false → IsAwaiting taken sent → IsAwaiting (taken ++ t ∷ []) sent
awaiting_other taken sent t none a = record {
  answered = none_lacks taken (t ∷ []) sent a.answered;
  lacks = hello_more sent taken t none ∙ ap (λ b. b || does_redirect sent t) a.lacks;
}

reopens_other : {T : Type 0} → (redirect : Option ℕ) (taken : List (Taken T)) (sent : List (Issued T)) (t : Taken T) → is_greeting t ≡ false → does_redirect sent t ≡ false → ((n : ℕ) → is_hit t n ≡ false)
    → Reopens redirect taken sent → Reopens redirect (taken ++ t ∷ []) sent
reopens_other None taken sent t none other apart a = awaiting_other taken sent t none a
reopens_other (Some token) taken sent t none other apart a = asking_other token taken sent t none other a (apart a.last.command.token)

pub stands_other : {T : Type 0} → (state : EndState) (redirect : Option ℕ) (taken : List (Taken T)) (sent : List (Issued T)) (t : Taken T) → state ≢ Opening → is_greeting t ≡ false → does_redirect sent t ≡ false
    → ((n : ℕ) → is_hit t n ≡ false) → Stands state redirect taken sent → Stands state redirect (taken ++ t ∷ []) sent
stands_other Opening redirect taken sent t begun none other apart s = absurd (begun refl)
stands_other Live redirect taken sent t begun none other apart s = (s.0, quiet_other taken sent t none other s.1)
stands_other Reopening redirect taken sent t begun none other apart s = reopens_other redirect taken sent t none other apart s
stands_other (Closed cause) redirect taken sent t begun none other apart s = tt

-- ---- A Hello

greeted_quiet : {T : Type 0} → (taken : List (Taken T)) (sent : List (Issued T)) (incoming : Incoming) → lacks_answer sent taken ≡ false → IsQuiet (taken ++ Hello incoming ∷ []) sent
greeted_quiet taken sent incoming none = record { answered = none_lacks taken (Hello incoming ∷ []) sent none; greeted = hello_came sent taken incoming }

pub stands_greeted : {T : Type 0} → (state : EndState) (redirect : Option ℕ) (taken : List (Taken T)) (sent : List (Issued T)) (incoming : Incoming) → Stands state redirect taken sent
    → Stands (state_greeted state redirect) redirect (taken ++ Hello incoming ∷ []) sent
stands_greeted {T = T} Opening redirect taken sent incoming s = (s.0, greeted_quiet taken sent incoming (ap (λ (xs : List (Issued T)). lacks_answer xs taken) s.2))
stands_greeted Live redirect taken sent incoming s = (s.0, greeted_quiet taken sent incoming s.1.answered)
stands_greeted Reopening None taken sent incoming s = (refl, greeted_quiet taken sent incoming s.answered)
stands_greeted Reopening (Some token) taken sent incoming s = record {
  front = s.front;
  last = s.last;
  parts = s.parts;
  redirects = s.redirects;
  token_is = s.token_is;
  fits = s.fits;
  unanswered = unanswered_more taken (Hello incoming) s.last.command.token s.unanswered refl;
  others = none_lacks taken (Hello incoming ∷ []) s.front s.others;
  greeted = hello_came sent taken incoming;
}
stands_greeted (Closed cause) redirect taken sent incoming s = tt

-- ---- A final answer

-- the first one to a command, which isn't the redirect that waits
reopens_answered : {T : Type 0} → (redirect : Option ℕ) (taken : List (Taken T)) (sent : List (Issued T)) (tag : T) (incoming : Incoming) (n : ℕ) (done : Bool) → is_of n redirect ≡ false
    → said_in incoming.raw ≡ answers (decimal n) done → n ≤ last_token → is_answered taken n ≡ false → Reopens redirect taken sent → Reopens redirect (taken ++ Final tag incoming ∷ []) sent
reopens_answered None taken sent tag incoming n done other answer within first a = awaiting_other taken sent (Final tag incoming) refl a
reopens_answered {T = T} (Some token) taken sent tag incoming n done other answer within first a =
    let isnt : token ≢ n = eqb-false token n other in
    let apart : n ≢ a.last.command.token = λ is. isnt (sym (is ∙ a.token_is)) in
    let unnamed = last_unnamed n a.front a.last within a.fits apart (none_named n taken a.front a.others first) in
    let none : does_redirect sent (Final tag incoming) ≡ false = ap (λ (xs : List (Issued T)). does_redirect xs (Final tag incoming)) a.parts ∙ does_none (a.front ++ a.last ∷ []) tag incoming n done answer unnamed in
    asking_other token taken sent (Final tag incoming) refl none a (hits_other tag incoming n a.last.command.token done answer within a.fits apart)

pub stands_answered : {T : Type 0} → (state : EndState) (redirect : Option ℕ) (taken : List (Taken T)) (sent : List (Issued T)) (tag : T) (incoming : Incoming) (n : ℕ) (done : Bool) → state ≢ Opening
    → is_of n redirect ≡ false → said_in incoming.raw ≡ answers (decimal n) done → n ≤ last_token → is_answered taken n ≡ false → Stands state redirect taken sent
    → Stands state redirect (taken ++ Final tag incoming ∷ []) sent
stands_answered Opening redirect taken sent tag incoming n done begun other answer within first s = absurd (begun refl)
stands_answered Live redirect taken sent tag incoming n done begun other answer within first s =
    (s.0, quiet_other taken sent (Final tag incoming) refl (does_none sent tag incoming n done answer (none_named n taken sent s.1.answered first)) s.1)
stands_answered Reopening redirect taken sent tag incoming n done begun other answer within first s = reopens_answered redirect taken sent tag incoming n done other answer within first s
stands_answered (Closed cause) redirect taken sent tag incoming n done begun other answer within first s = tt

-- the redirect that waits is asked for
asking_of : {T : Type 0} → (state : EndState) (token : ℕ) (taken : List (Taken T)) (sent : List (Issued T)) → is_closed state ≡ false → Stands state (Some token) taken sent → IsAsking token taken sent
asking_of Opening token taken sent opened s = let none = s.0 in absurd cc
asking_of Live token taken sent opened s = let none = s.0 in absurd cc
asking_of Reopening token taken sent opened s = s
asking_of (Closed cause) token taken sent opened s = absurd cc

all_answered : {T : Type 0} → (token : ℕ) (done : Bool) (taken : List (Taken T)) (sent : List (Issued T)) (tag : T) (incoming : Incoming) → said_in incoming.raw ≡ answers (decimal token) done → IsAsking token taken sent
    → lacks_answer sent (taken ++ Final tag incoming ∷ []) ≡ false
all_answered {T = T} token done taken sent tag incoming answer a =
    let t = Final tag incoming in
    let n = a.last.command.token in
    let hit : is_hit t n ≡ true = hits tag incoming token n done answer ∙ ap (λ m. bytes_eq (decimal m) (decimal n)) (sym a.token_is) ∙ (bytes_eq-Decides (decimal n) (decimal n)).1 refl in
    let now : is_answered (taken ++ t ∷ []) n ≡ true = answered_more taken t n ∙ or_right (is_answered taken n) (is_hit t n) hit in
    ap (λ (xs : List (Issued T)). lacks_answer xs (taken ++ t ∷ [])) a.parts ∙ lacks_answered (taken ++ t ∷ []) a.front a.last (none_lacks taken (t ∷ []) a.front a.others) now

-- without an error: a Hello is to come
reopens_done : {T : Type 0} → (token : ℕ) (taken : List (Taken T)) (sent : List (Issued T)) (tag : T) (incoming : Incoming) → said_in incoming.raw ≡ answers (decimal token) true → IsAsking token taken sent
    → IsAwaiting (taken ++ Final tag incoming ∷ []) sent
reopens_done {T = T} token taken sent tag incoming answer a =
    let t = Final tag incoming in
    let own : said_in incoming.raw ≡ answers (decimal a.last.command.token) true = answer ∙ ap (λ n. answers (decimal n) true) (sym a.token_is) in
    let does : does_redirect sent t ≡ true = ap (λ (xs : List (Issued T)). does_redirect xs t) a.parts ∙ does_last a.front a.last tag incoming a.redirects own in
    record {
      answered = all_answered token true taken sent tag incoming answer a;
      lacks = hello_more sent taken t refl ∙ or_right (lacks_hello sent taken) (does_redirect sent t) does;
    }

pub stands_done : {T : Type 0} → (state : EndState) (token : ℕ) (taken : List (Taken T)) (sent : List (Issued T)) (tag : T) (incoming : Incoming) → is_closed state ≡ false
    → said_in incoming.raw ≡ answers (decimal token) true → Stands state (Some token) taken sent → Stands state None (taken ++ Final tag incoming ∷ []) sent
stands_done Opening token taken sent tag incoming opened answer s = let none = s.0 in absurd cc
stands_done Live token taken sent tag incoming opened answer s = let none = s.0 in absurd cc
stands_done Reopening token taken sent tag incoming opened answer s = reopens_done token taken sent tag incoming answer s
stands_done (Closed cause) token taken sent tag incoming opened answer s = absurd cc

-- with an error
pub stands_failed : {T : Type 0} → (state : EndState) (token : ℕ) (taken : List (Taken T)) (sent : List (Issued T)) (tag : T) (incoming : Incoming) → is_closed state ≡ false
    → said_in incoming.raw ≡ answers (decimal token) false → Stands state (Some token) taken sent → IsQuiet (taken ++ Final tag incoming ∷ []) sent
stands_failed state token taken sent tag incoming opened answer s =
    let a = asking_of state token taken sent opened s in
    record {
      answered = all_answered token false taken sent tag incoming answer a;
      greeted = hello_other sent taken (Final tag incoming) refl (does_failed sent tag incoming token answer) ∙ a.greeted;
    }

-- ---- What is sent

pub redirect_sent : {T : Type 0} → (taken : List (Taken T)) (sent : List (Issued T)) (i : Issued T) → i.command.is_redirect ≡ true → is_answered taken i.command.token ≡ false → i.command.token ≤ last_token
    → IsQuiet taken sent → IsAsking i.command.token taken (sent ++ i ∷ [])
redirect_sent taken sent i redirects first fits q = record {
  front = sent;
  last = i;
  parts = refl;
  redirects = redirects;
  token_is = refl;
  fits = fits;
  unanswered = first;
  others = q.answered;
  greeted = hello_sent sent i taken first ∙ q.greeted;
}

pub other_sent : {T : Type 0} → (taken : List (Taken T)) (sent : List (Issued T)) (i : Issued T) → i.command.is_redirect ≡ false → is_answered taken i.command.token ≡ false → IsQuiet taken sent → IsQuiet taken (sent ++ i ∷ [])
other_sent taken sent i isnt first q = record { answered = lacks_other taken sent i isnt q.answered; greeted = hello_sent sent i taken first ∙ q.greeted }
