-- The redirects among the commands that were sent, by the state of the end.
use Rattle.std.proofs.Common.{◌≡◌, ℕ, Bool, true, false, List, [], ◌∷◌, ◌++◌, decimal, Option, Some, None, refl, sym, ap, ◌∙◌, subst, append_assoc}
use Rattle.std.specs.List.{list_any}
use Rattle.std.proofs.lemmas.Bool.{or_left, or_right}
use Rattle.std.proofs.lemmas.List.Folds.{list_any-append}
use Rattle.channel_core.specs.Closing.{is_closed}
use Rattle.channel_core.specs.Greeting.{is_greeting}
use Rattle.channel_core.specs.Runs.{Issued}
use Rattle.channel_core.specs.Taking.{state_greeted}
use Rattle.channel_core.specs.Wire.{answers, said_in}
use Rattle.channel_core.specs.declared.held.Incoming.{Incoming}
use Rattle.channel_core.specs.declared.states.EndState.{EndState}
use Rattle.channel_core.specs.declared.states.EndState.TheVariants.{Closed, Live, Opening, Reopening}
use Rattle.channel_core.specs.declared.taking.Taken.{Taken}
use Rattle.channel_core.specs.declared.taking.Taken.TheVariants.{Final, Hello}
use Rattle.channel_laws.specs.Redirects.{IsReleased}

-- ---- What was taken

-- the command with this token has its final answer among these entries
pub record IsAnswered {T : Type 0} (token : ℕ) (taken : List (Taken T)) : Type 0 where
  pub earlier : List (Taken T)
  pub tag : T
  pub incoming : Incoming
  pub later : List (Taken T)
  pub split : taken ≡ earlier ++ Final tag incoming ∷ later
  pub done : Bool
  pub answer : said_in incoming.raw ≡ answers (decimal token) done

-- more entries keep it
split_more : {T : Type 0} → (taken more earlier later : List (Taken T)) (t : Taken T) → taken ≡ earlier ++ t ∷ later → taken ++ more ≡ earlier ++ t ∷ (later ++ more)
split_more taken more earlier later t split = ap (λ ts. ts ++ more) split ∙ append_assoc earlier (t ∷ later) more

answered_more : {T : Type 0} → (token : ℕ) (taken more : List (Taken T)) → IsAnswered token taken → IsAnswered token (taken ++ more)
answered_more token taken more a = record {
  earlier = a.earlier;
  tag = a.tag;
  incoming = a.incoming;
  later = a.later ++ more;
  split = split_more taken more a.earlier a.later (Final a.tag a.incoming) a.split;
  done = a.done;
  answer = a.answer;
}

released_more : {T : Type 0} → (token : ℕ) (taken more : List (Taken T)) → IsReleased token taken → IsReleased token (taken ++ more)
released_more token taken more r = record {
  earlier = r.earlier;
  tag = r.tag;
  incoming = r.incoming;
  later = r.later ++ more;
  split = split_more taken more r.earlier r.later (Final r.tag r.incoming) r.split;
  done = r.done;
  answer = r.answer;
  greeted = λ is. list_any-append is_greeting r.later more ∙ or_left (list_any is_greeting r.later) (list_any is_greeting more) (r.greeted is);
}

-- the answer
answered_by : {T : Type 0} → (token : ℕ) (done : Bool) (taken : List (Taken T)) (tag : T) (incoming : Incoming) → said_in incoming.raw ≡ answers (decimal token) done
    → IsAnswered token (taken ++ Final tag incoming ∷ [])
answered_by token done taken tag incoming answer = record { earlier = taken; tag = tag; incoming = incoming; later = []; split = refl; done = done; answer = answer }

-- an answer with an error releases it
released_by_error : {T : Type 0} → (token : ℕ) (taken : List (Taken T)) (tag : T) (incoming : Incoming) → said_in incoming.raw ≡ answers (decimal token) false
    → IsReleased token (taken ++ Final tag incoming ∷ [])
released_by_error token taken tag incoming answer = record {
  earlier = taken;
  tag = tag;
  incoming = incoming;
  later = [];
  split = refl;
  done = false;
  answer = answer;
  greeted = λ is. absurd cc;
}

-- and so does a Hello behind the answer
released_by_hello : {T : Type 0} → (token : ℕ) (taken : List (Taken T)) (incoming : Incoming) → IsAnswered token taken → IsReleased token (taken ++ Hello incoming ∷ [])
released_by_hello token taken incoming a = record {
  earlier = a.earlier;
  tag = a.tag;
  incoming = a.incoming;
  later = a.later ++ Hello incoming ∷ [];
  split = split_more taken (Hello incoming ∷ []) a.earlier a.later (Final a.tag a.incoming) a.split;
  done = a.done;
  answer = a.answer;
  greeted = λ is. list_any-append is_greeting a.later (Hello incoming ∷ []) ∙ or_right (list_any is_greeting a.later) true refl;
}

-- ---- The commands that were sent

-- each redirect among them is released
abbrev pub AreReleased : {T : Type 0} → List (Taken T) → List (Issued T) → Type 0
AreReleased taken [] = Unit {0}
AreReleased taken (i ∷ sent) = (i.command.is_redirect ≡ true → IsReleased i.command.token taken) × AreReleased taken sent

-- each redirect but a last one is
abbrev pub HoldsBehind : {T : Type 0} → List (Taken T) → List (Issued T) → Type 0
HoldsBehind {T} taken sent = (before behind : List (Issued T)) (redirect next : Issued T)
    → sent ≡ before ++ redirect ∷ next ∷ behind → redirect.command.is_redirect ≡ true → IsReleased redirect.command.token taken

all_more : {T : Type 0} → (taken more : List (Taken T)) (sent : List (Issued T)) → AreReleased taken sent → AreReleased (taken ++ more) sent
all_more taken more [] a = tt
all_more taken more (i ∷ sent) a = (λ is. released_more i.command.token taken more (a.0 is), all_more taken more sent a.1)

all_push : {T : Type 0} → (taken : List (Taken T)) (sent : List (Issued T)) (i : Issued T) → (i.command.is_redirect ≡ true → IsReleased i.command.token taken) → AreReleased taken sent
    → AreReleased taken (sent ++ i ∷ [])
all_push taken [] i last a = (last, tt)
all_push taken (first ∷ sent) i last a = (a.0, all_push taken sent i last a.1)

all_behind : {T : Type 0} → (taken : List (Taken T)) (sent : List (Issued T)) → AreReleased taken sent → HoldsBehind taken sent
all_behind taken [] a [] behind redirect next is redirects = absurd cc
all_behind taken [] a (first ∷ before) behind redirect next is redirects = absurd cc
all_behind {T = T} taken (i ∷ sent) a [] behind redirect next is redirects =
    let same : i ≡ redirect = cc in
    let P : Issued T → Type 0 = λ x. x.command.is_redirect ≡ true → IsReleased x.command.token taken in
    subst P same a.0 redirects
all_behind taken (i ∷ sent) a (first ∷ before) behind redirect next is redirects =
    let rest : sent ≡ before ++ redirect ∷ next ∷ behind = cc in all_behind taken sent a.1 before behind redirect next rest redirects

-- a last one doesn't matter
front_behind : {T : Type 0} → (taken : List (Taken T)) (front : List (Issued T)) (last : Issued T) → AreReleased taken front → HoldsBehind taken (front ++ last ∷ [])
front_behind taken [] last a [] behind redirect next is redirects = absurd cc
front_behind taken [] last a (first ∷ []) behind redirect next is redirects = absurd cc
front_behind taken [] last a (first ∷ second ∷ before) behind redirect next is redirects = absurd cc
front_behind {T = T} taken (i ∷ front) last a [] behind redirect next is redirects =
    let same : i ≡ redirect = cc in
    let P : Issued T → Type 0 = λ x. x.command.is_redirect ≡ true → IsReleased x.command.token taken in
    subst P same a.0 redirects
front_behind taken (i ∷ front) last a (first ∷ before) behind redirect next is redirects =
    let rest : front ++ last ∷ [] ≡ before ++ redirect ∷ next ∷ behind = cc in front_behind taken front last a.1 before behind redirect next rest redirects

-- ---- By the state

-- the last command is the redirect that waits for its answer, or has it
abbrev pub IsAwaited : {T : Type 0} → Option ℕ → ℕ → List (Taken T) → Type 0
IsAwaited None token taken = IsAnswered token taken
IsAwaited (Some redirect) token taken = token ≡ redirect

pub record Awaits {T : Type 0} (redirect : Option ℕ) (taken : List (Taken T)) (sent : List (Issued T)) : Type 0 where
  pub front : List (Issued T)
  pub last : Issued T
  pub parts : sent ≡ front ++ last ∷ []
  pub released : AreReleased taken front
  pub awaited : IsAwaited redirect last.command.token taken

abbrev pub Stands : {T : Type 0} → EndState → Option ℕ → List (Taken T) → List (Issued T) → Type 0
Stands Opening redirect taken sent = AreReleased taken sent
Stands Live redirect taken sent = AreReleased taken sent
Stands Reopening redirect taken sent = Awaits redirect taken sent
Stands (Closed cause) redirect taken sent = HoldsBehind taken sent

awaited_more : {T : Type 0} → (redirect : Option ℕ) (token : ℕ) (taken more : List (Taken T)) → IsAwaited redirect token taken → IsAwaited redirect token (taken ++ more)
awaited_more None token taken more a = answered_more token taken more a
awaited_more (Some redirect) token taken more a = a

-- whatever more is taken
pub stands_more : {T : Type 0} → (state : EndState) (redirect : Option ℕ) (taken more : List (Taken T)) (sent : List (Issued T)) → Stands state redirect taken sent
    → Stands state redirect (taken ++ more) sent
stands_more Opening redirect taken more sent s = all_more taken more sent s
stands_more Live redirect taken more sent s = all_more taken more sent s
stands_more Reopening redirect taken more sent s = record {
  front = s.front;
  last = s.last;
  parts = s.parts;
  released = all_more taken more s.front s.released;
  awaited = awaited_more redirect s.last.command.token taken more s.awaited;
}
stands_more (Closed cause) redirect taken more sent s = λ before behind redirect next is redirects.
    released_more redirect.command.token taken more (s before behind redirect next is redirects)

-- whatever the state
pub stands_behind : {T : Type 0} → (state : EndState) (redirect : Option ℕ) (taken : List (Taken T)) (sent : List (Issued T)) → Stands state redirect taken sent → HoldsBehind taken sent
stands_behind Opening redirect taken sent s = all_behind taken sent s
stands_behind Live redirect taken sent s = all_behind taken sent s
stands_behind Reopening redirect taken sent s = subst (HoldsBehind taken) (sym s.parts) (front_behind taken s.front s.last s.released)
stands_behind (Closed cause) redirect taken sent s = s

-- the awaited one is released too
all_released : {T : Type 0} → (redirect : Option ℕ) (taken more : List (Taken T)) (sent : List (Issued T)) → (a : Awaits redirect taken sent)
    → IsReleased a.last.command.token (taken ++ more) → AreReleased (taken ++ more) sent
all_released redirect taken more sent a last =
    subst (AreReleased (taken ++ more)) (sym a.parts) (all_push (taken ++ more) a.front a.last (λ is. last) (all_more taken more a.front a.released))

-- a Hello was taken
pub stands_greeted : {T : Type 0} → (state : EndState) (redirect : Option ℕ) (taken : List (Taken T)) (sent : List (Issued T)) (incoming : Incoming) → Stands state redirect taken sent
    → Stands (state_greeted state redirect) redirect (taken ++ Hello incoming ∷ []) sent
stands_greeted Opening redirect taken sent incoming s = all_more taken (Hello incoming ∷ []) sent s
stands_greeted Live redirect taken sent incoming s = all_more taken (Hello incoming ∷ []) sent s
stands_greeted Reopening None taken sent incoming s =
    all_released None taken (Hello incoming ∷ []) sent s (released_by_hello s.last.command.token taken incoming s.awaited)
stands_greeted Reopening (Some redirect) taken sent incoming s = stands_more Reopening (Some redirect) taken (Hello incoming ∷ []) sent s
stands_greeted (Closed cause) redirect taken sent incoming s = stands_more (Closed cause) redirect taken (Hello incoming ∷ []) sent s

-- the redirect was answered without an error
pub stands_done : {T : Type 0} → (state : EndState) (redirect : ℕ) (taken : List (Taken T)) (sent : List (Issued T)) (tag : T) (incoming : Incoming)
    → said_in incoming.raw ≡ answers (decimal redirect) true → Stands state (Some redirect) taken sent → Stands state None (taken ++ Final tag incoming ∷ []) sent
stands_done Opening redirect taken sent tag incoming answer s = all_more taken (Final tag incoming ∷ []) sent s
stands_done Live redirect taken sent tag incoming answer s = all_more taken (Final tag incoming ∷ []) sent s
stands_done Reopening redirect taken sent tag incoming answer s = record {
  front = s.front;
  last = s.last;
  parts = s.parts;
  released = all_more taken (Final tag incoming ∷ []) s.front s.released;
  awaited = answered_by s.last.command.token true taken tag incoming (answer ∙ ap (λ n. answers (decimal n) true) (sym s.awaited));
}
stands_done (Closed cause) redirect taken sent tag incoming answer s = stands_more (Closed cause) (Some redirect) taken (Final tag incoming ∷ []) sent s

-- it was answered with an error
pub stands_failed : {T : Type 0} → (state : EndState) (redirect : ℕ) (taken : List (Taken T)) (sent : List (Issued T)) (tag : T) (incoming : Incoming) → is_closed state ≡ false
    → said_in incoming.raw ≡ answers (decimal redirect) false → Stands state (Some redirect) taken sent → AreReleased (taken ++ Final tag incoming ∷ []) sent
stands_failed Opening redirect taken sent tag incoming opened answer s = all_more taken (Final tag incoming ∷ []) sent s
stands_failed Live redirect taken sent tag incoming opened answer s = all_more taken (Final tag incoming ∷ []) sent s
stands_failed Reopening redirect taken sent tag incoming opened answer s =
    all_released (Some redirect) taken (Final tag incoming ∷ []) sent s
    (released_by_error s.last.command.token taken tag incoming (answer ∙ ap (λ n. answers (decimal n) false) (sym s.awaited)))
stands_failed (Closed cause) redirect taken sent tag incoming opened answer s = absurd cc

-- a redirect was sent
pub redirect_sent : {T : Type 0} → (token : ℕ) (taken : List (Taken T)) (sent : List (Issued T)) (i : Issued T) → i.command.token ≡ token → AreReleased taken sent
    → Awaits (Some token) taken (sent ++ i ∷ [])
redirect_sent token taken sent i is a = record { front = sent; last = i; parts = refl; released = a; awaited = is }

-- another command was
pub other_sent : {T : Type 0} → (taken : List (Taken T)) (sent : List (Issued T)) (i : Issued T) → i.command.is_redirect ≡ false → AreReleased taken sent → AreReleased taken (sent ++ i ∷ [])
other_sent taken sent i isnt a = all_push taken sent i (λ is. absurd cc) a
