-- What value-adds say themselves: it answers, in order, the commands that they took, also as others pass it on.
use Rattle.std.proofs.Common.{◌≡◌, ℕ, suc, ◌+◌, ◌^◌, ◌<◌, ◌≤◌, List, [], ◌∷◌, ◌++◌, length, map, Option, Some, None, refl, sym, ap, ◌∙◌, subst, arith, append_assoc, length-append}
use Rattle.std.specs.Prelude.{decimal, option_to_list}
use Rattle.std.specs.List.{AllByRecursion}
use Rattle.tcf_message.specs.Message.{MessageValue, event, final, not_known}
use Rattle.channel_core.specs.Arrivals.{Spoken}
use Rattle.channel_core.specs.Wire.{hello, is_redirect, locator}
use Rattle.value_node.specs.Asked.{Asked}
use Rattle.value_node.specs.Own.{redirect_done}
use Rattle.value_node.specs.OwnLaws.{IsBoundBy}
use Rattle.value_node.specs.OwnMessages.{IsOwn, OwnStep, a_hello, a_result, an_unknown}
use Rattle.value_node.specs.RelayLaws.{token_below}
use Rattle.chain_told.specs.Told.{numbered}
use Rattle.chain_told.proofs.Decimals.{decimal_next, last_same}
use Rattle.chain_told.proofs.Numbered.{AreNext, numbered_append, numbered_first, numbered_next, numbered_parts, token_at, under}
use Rattle.chain_through.proofs.Renaming.{passed, passed_more, renamed, say}
use Rattle.chain_through.proofs.Spelling.{AreSpelled, IsSpelled}
use Rattle.chain_through.proofs.Taking.{IsWritten}

-- ---- One list behind another

-- ---- It is spelled so

hello_spelled : (body : List ℕ) → IsSpelled (event locator hello body)
unfolding locator hello
hello_spelled body = (refl, refl)

step_spelled : (commands : List Asked) (m : MessageValue) (left : List Asked) → AllByRecursion IsWritten commands → OwnStep commands m left → IsSpelled m × AllByRecursion IsWritten left
step_spelled commands m left written (a_hello body is same) = (subst IsSpelled (sym is) (hello_spelled body), subst (AllByRecursion IsWritten) (sym same) written)
step_spelled commands m left written (a_result c body is at own) = let all = subst (AllByRecursion IsWritten) own written in (subst IsSpelled (sym is) all.0.0.0.0, all.1)
step_spelled commands m left written (an_unknown c is own) = let all = subst (AllByRecursion IsWritten) own written in (subst IsSpelled (sym is) all.0.0.0.0, all.1)

pub own_spelled : (commands left : List Asked) (own : List Spoken) → AllByRecursion IsWritten commands → IsOwn commands own left → AreSpelled own
own_spelled commands left [] written is = tt
own_spelled commands left (s ∷ own) written is =
    let step = step_spelled commands s.message is.1.0 written is.1.1 in (step.0, own_spelled is.1.0 left own step.1 is.1.2)

-- ---- It is passed on as what is said to the same commands, under the tokens that they have below

pub record IsPassed (n : ℕ) (commands : List Asked) (said : List Spoken) (left : List Asked) : Type 0 where
  pub left_now : List Asked
  pub is_own : IsOwn (numbered n commands) said left_now
  pub all : left ≡ [] → left_now ≡ []

none_left : (n k : ℕ) (commands : List Asked) → numbered n commands ≡ [] → numbered k commands ≡ []
none_left n k [] same = refl
none_left n k (c ∷ commands) same = absurd cc

module _ (shift : ℕ) (all : List Asked) where
  step_passed : (n : ℕ) (commands left next : List Asked) (m : MessageValue) (mark : Option ℕ) (own : List Spoken) → 0 < n → n + length commands ≤ length all + 1 → n + length commands ≤ 10 ^ 64
      → mark ≡ None → OwnStep (numbered n commands) m next
      → ((k : ℕ) (rest : List Asked) → 0 < k → k + length rest ≤ n + length commands → next ≡ numbered k rest → IsPassed (shift + k) rest (passed (numbered (shift + 1) all) own) left)
      → IsPassed (shift + n) commands (renamed (numbered (shift + 1) all) m mark ++ passed (numbered (shift + 1) all) own) left
  step_passed n commands left next m mark own some within small unmarked (a_hello body is same) rest =
      let more : n + length commands ≤ n + length commands = omega arith in
      let p = rest n commands some more same in
      subst (λ x. IsPassed (shift + n) commands (renamed (numbered (shift + 1) all) x mark ++ passed (numbered (shift + 1) all) own) left) (sym is) (record {
        left_now = p.left_now;
        is_own = (unmarked, (numbered (shift + n) commands, a_hello body refl refl, p.is_own));
        all = p.all;
      })
  step_passed n commands left next m mark own some within small unmarked (a_result c body is at owned) rest =
      let f = numbered_first n commands c next owned in
      let many : length commands ≡ suc (length f.rest) = ap length f.are in
      let above : 0 < n + 1 = omega arith in
      let more : (n + 1) + length f.rest ≤ n + length commands = omega arith in
      let p = rest (n + 1) f.rest above more f.others in
      let inside : n ≤ length all = omega arith in
      let little : n < 10 ^ 64 = omega arith in
      let moved : shift + (n + 1) ≡ (shift + n) + 1 = omega arith in
      let token : token_below 1 c.token (numbered (shift + 1) all) ≡ decimal (shift + n) = ap (λ x. token_below 1 x.token (numbered (shift + 1) all)) f.is ∙ token_at shift n all some inside little in
      let service : f.first.service ≡ locator = sym (ap (λ x. x.service) f.is) ∙ at in
      subst (λ x. IsPassed (shift + n) commands (renamed (numbered (shift + 1) all) x mark ++ passed (numbered (shift + 1) all) own) left) (sym is) (record {
        left_now = p.left_now;
        is_own = (
          unmarked,
          (
            numbered (shift + (n + 1)) f.rest,
            a_result (under (shift + n) f.first) body (ap (λ t. final t body) token) service (ap (λ cs. numbered (shift + n) cs) f.are ∙ ap (λ k. under (shift + n) f.first ∷ numbered k f.rest) (sym moved)),
            p.is_own,
          ),
        );
        all = p.all;
      })
  step_passed n commands left next m mark own some within small unmarked (an_unknown c is owned) rest =
      let f = numbered_first n commands c next owned in
      let many : length commands ≡ suc (length f.rest) = ap length f.are in
      let above : 0 < n + 1 = omega arith in
      let more : (n + 1) + length f.rest ≤ n + length commands = omega arith in
      let p = rest (n + 1) f.rest above more f.others in
      let inside : n ≤ length all = omega arith in
      let little : n < 10 ^ 64 = omega arith in
      let moved : shift + (n + 1) ≡ (shift + n) + 1 = omega arith in
      let token : token_below 1 c.token (numbered (shift + 1) all) ≡ decimal (shift + n) = ap (λ x. token_below 1 x.token (numbered (shift + 1) all)) f.is ∙ token_at shift n all some inside little in
      subst (λ x. IsPassed (shift + n) commands (renamed (numbered (shift + 1) all) x mark ++ passed (numbered (shift + 1) all) own) left) (sym is) (record {
        left_now = p.left_now;
        is_own = (
          unmarked,
          (
            numbered (shift + (n + 1)) f.rest,
            an_unknown (under (shift + n) f.first) (ap not_known token) (ap (λ cs. numbered (shift + n) cs) f.are ∙ ap (λ k. under (shift + n) f.first ∷ numbered k f.rest) (sym moved)),
            p.is_own,
          ),
        );
        all = p.all;
      })

  own_passed_from : (n : ℕ) (commands left : List Asked) (own : List Spoken) → 0 < n → n + length commands ≤ length all + 1 → n + length commands ≤ 10 ^ 64 → IsOwn (numbered n commands) own left
      → IsPassed (shift + n) commands (passed (numbered (shift + 1) all) own) left
  own_passed_from n commands left [] some within small is =
      record { left_now = numbered (shift + n) commands; is_own = refl; all = λ none. none_left n (shift + n) commands (is ∙ none) }
  own_passed_from n commands left (s ∷ own) some within small is =
      step_passed n commands left is.1.0 s.message s.mark own some within small is.0 is.1.1
      (λ k rest above more same. own_passed_from k rest left own above (omega arith) (omega arith) (subst (λ cs. IsOwn cs own left) same is.1.2))

pub own_passed : (shift : ℕ) (all commands left : List Asked) (own : List Spoken) → length commands ≤ length all → length commands < 10 ^ 64 → IsOwn (numbered 1 commands) own left
    → IsPassed (shift + 1) commands (passed (numbered (shift + 1) all) own) left
own_passed shift all commands left own within small is = own_passed_from shift all 1 commands left own (omega arith) (omega arith) (omega arith) is

-- ---- Where the last that it says answers the last command, none is left

record AnswersLast (commands left : List Asked) (token : List ℕ) : Type 0 where
  before : List Asked
  last : Asked
  are : commands ≡ before ++ last ∷ left
  token_is : last.token ≡ token

step_last : (commands next left : List Asked) (m : MessageValue) (token : List ℕ) → OwnStep commands m next → AnswersLast next left token → AnswersLast commands left token
step_last commands next left m token (a_hello body is same) l = record { before = l.before; last = l.last; are = sym same ∙ l.are; token_is = l.token_is }
step_last commands next left m token (a_result c body is at own) l = record { before = c ∷ l.before; last = l.last; are = own ∙ ap (λ cs. c ∷ cs) l.are; token_is = l.token_is }
step_last commands next left m token (an_unknown c is own) l = record { before = c ∷ l.before; last = l.last; are = own ∙ ap (λ cs. c ∷ cs) l.are; token_is = l.token_is }

step_answered : (commands next left : List Asked) (m : MessageValue) (token body : List ℕ) → m ≡ final token body → next ≡ left → OwnStep commands m next → AnswersLast commands left token
step_answered commands next left m token body said ends (a_hello data_ is same) = let other : final token body ≡ event locator hello data_ = sym said ∙ is in absurd cc
step_answered commands next left m token body said ends (a_result c data_ is at own) =
    let both : final token body ≡ final c.token data_ = sym said ∙ is in
    let one : c.token ≡ token = cc in
    record { before = []; last = c; are = own ∙ ap (λ cs. c ∷ cs) ends; token_is = one }
step_answered commands next left m token body said ends (an_unknown c is own) = let other : final token body ≡ not_known c.token = sym said ∙ is in absurd cc

own_last : (commands left : List Asked) (before : List Spoken) (s : Spoken) (token body : List ℕ) → s.message ≡ final token body → IsOwn commands (before ++ s ∷ []) left → AnswersLast commands left token
own_last commands left [] s token body said is = step_answered commands is.1.0 left s.message token body said is.1.2 is.1.1
own_last commands left (x ∷ before) s token body said is = step_last commands is.1.0 left x.message token is.1.1 (own_last is.1.0 left before s token body said is.1.2)

pub all_answered : (n : ℕ) (commands left : List Asked) (own : List Spoken) (waiting : Option (List ℕ)) → IsBoundBy own (numbered n commands) → map (λ c. c.token) left ≡ option_to_list waiting
    → IsOwn (numbered n commands) own left → left ≡ []
all_answered n commands left own waiting b few is =
    let l = own_last (numbered n commands) left b.said_before (say (final b.redirect.token redirect_done) None) b.redirect.token redirect_done refl (subst (λ xs. IsOwn (numbered n commands) xs left) b.said_are is) in
    by_left left waiting few l.before l.last l.are l.token_is
  where
    by_left : (left : List Asked) (waiting : Option (List ℕ)) → map (λ c. c.token) left ≡ option_to_list waiting → (before : List Asked) (last : Asked) → numbered n commands ≡ before ++ last ∷ left → last.token ≡ b.redirect.token → left ≡ []
    by_left [] waiting few before last are token = refl
    by_left (x ∷ []) waiting few before last are token =
        let two : (before ++ last ∷ []) ++ x ∷ [] ≡ b.earlier ++ b.redirect ∷ [] = append_assoc before (last ∷ []) (x ∷ []) ∙ sym are ∙ b.commands_are in
        let one : x ≡ b.redirect = last_same (before ++ last ∷ []) b.earlier x b.redirect two in
        let next : AreNext last x = numbered_next n commands before last x are in
        absurd (decimal_next next.number (sym next.first ∙ token ∙ sym (ap (λ c. c.token) one) ∙ next.second))
    by_left (x ∷ y ∷ left) None few before last are token = absurd cc
    by_left (x ∷ y ∷ left) (Some t) few before last are token = absurd cc

-- ---- A redirect that binds one value-add binds it as another passes its answer on

pub bound_further : (shift : ℕ) (until commands all : List Asked) (first own : List Spoken) → shift ≡ length until → length commands ≤ length all → length commands < 10 ^ 64 → IsBoundBy own (numbered 1 commands)
    → IsBoundBy (first ++ passed (numbered (shift + 1) all) own) (numbered 1 (until ++ commands))
bound_further shift until commands all first own is within small b =
    let p = numbered_parts 1 b.earlier (b.redirect ∷ []) commands b.commands_are in
    let f = numbered_first (1 + length p.front) p.behind b.redirect [] (sym p.others) in
    let rest_none : f.rest ≡ [] = nothing (1 + length p.front + 1) f.rest (sym f.others) in
    let place : 1 + length until ≡ shift + 1 = omega arith in
    let k = 1 + length p.front in
    let last = under (shift + 1 + length p.front) f.first in
    let behind_is : p.behind ≡ f.first ∷ [] = f.are ∙ ap (λ cs. f.first ∷ cs) rest_none in
    let many : length commands ≡ length p.front + 1 = ap length p.are ∙ length-append p.front p.behind ∙ ap (λ cs. length p.front + length cs) behind_is in
    let some : 0 < k = omega arith in
    let inside : k ≤ length all = omega arith in
    let little : k < 10 ^ 64 = omega arith in
    let number : shift + k ≡ shift + 1 + length p.front = omega arith in
    let token : token_below 1 b.redirect.token (numbered (shift + 1) all) ≡ last.token =
    ap (λ x. token_below 1 x.token (numbered (shift + 1) all)) f.is ∙ token_at shift k all some inside little ∙ ap (λ n. decimal n) number in
    record {
      earlier = numbered 1 until ++ numbered (shift + 1) p.front;
      redirect = last;
      commands_are =
          numbered_append 1 until commands ∙ ap (λ n. numbered 1 until ++ numbered n commands) place
          ∙ ap (λ cs. numbered 1 until ++ numbered (shift + 1) cs) (p.are ∙ ap (λ cs. p.front ++ cs) behind_is)
          ∙ ap (λ cs. numbered 1 until ++ cs) (numbered_append (shift + 1) p.front (f.first ∷ []))
          ∙ sym (append_assoc (numbered 1 until) (numbered (shift + 1) p.front) (last ∷ []));
      asks = ap (λ x. is_redirect x.service x.name) (sym f.is) ∙ b.asks;
      said_before = first ++ passed (numbered (shift + 1) all) b.said_before;
      said_are =
          ap (λ xs. first ++ passed (numbered (shift + 1) all) xs) b.said_are
          ∙ ap (λ xs. first ++ xs) (passed_more (numbered (shift + 1) all) b.said_before (say (final b.redirect.token redirect_done) None ∷ []))
          ∙ ap (λ t. first ++ (passed (numbered (shift + 1) all) b.said_before ++ say (final t redirect_done) None ∷ [])) token
          ∙ sym (append_assoc first (passed (numbered (shift + 1) all) b.said_before) (say (final last.token redirect_done) None ∷ []));
    }
  where
    nothing : (n : ℕ) (rest : List Asked) → numbered n rest ≡ [] → rest ≡ []
    nothing n [] same = refl
    nothing n (c ∷ rest) same = absurd cc
