-- The tokens that the commands which were sent above have below: each is found by the token that it was sent under.
use Rattle.std.proofs.Common.{◌≡◌, ◌≤◌, ◌<◌, ℕ, suc, ◌+◌, ◌-◌, ◌^◌, Bool, true, false, not, cond, List, [], ◌∷◌, ◌++◌, length, map, Option, Some, None, Result, Ok, refl, ap, sym, ◌∙◌, subst, arith, eqb-true}
use Rattle.std.specs.Prelude.{◌==◌, IfSome, bytes_eq, decimal, if◌then◌else◌, option_and_then, option_map, unwrap_or}
use Rattle.std.specs.List.{AllByRecursion, find, flat_map}
use Rattle.channel_core.specs.Beginning.{tag_of}
use Rattle.channel_core.specs.Runs.{Issued, Run}
use Rattle.channel_core.specs.RunLaws.{CountsAnswers, is_answered, row_of}
use Rattle.channel_core.specs.Sending.{last_token}
use Rattle.channel_core.specs.declared.taking.Taken.{Taken}
use Rattle.channel_core.specs.declared.taking.Taken.TheVariants as taken
use Rattle.tcf_message.specs.Message.{IsToken, MessageValue, command, reading}
use Rattle.tcf_message.specs.declared.message.MessageFault.{MessageFault}
use Rattle.tcf_values.specs.declared.command.Command.{Command}
use Rattle.value_node.specs.Asked.{Asked}
use Rattle.value_node.specs.Deeds.{command_asked, sent_under}
use Rattle.value_node.specs.ForwardedValue.{ForwardedValue}
use Rattle.value_node.specs.Passing.{Upper}
use Rattle.value_node.specs.RelayLaws.{asked_by, asked_in, token_below}
use Rattle.value_node.specs.Runs.{UpperCall, upper_after}
use Rattle.value_node.specs.declared.states.Bind.{Bind}
use Rattle.value_node.proofs.Holding.{AreAccepted, issued_from, issued_length}
use Rattle.value_node.proofs.OwnReadable.{well_read}
use Rattle.list_laws.proofs.Numbers.{other_decimals, decimal_itself, number_itself}
use Rattle.list_laws.proofs.AllLists.{all_append, all_filter, all_left, all_right, all_then}

-- the command that was sent under this number, as it is read
abbrev pub command_under : ℕ → ℕ → List Asked → Option Command
command_under first number commands = option_and_then command_asked (sent_under first (decimal number) commands)

-- the row is one of so many commands that were sent under tokens from the first one on, and its token finds it
pub record IsIssued (first count : ℕ) (commands : List Asked) (row : ℕ × ForwardedValue) : Type 0 where
  pub token : IsToken row.1.token
  pub low : first ≤ row.0
  pub high : row.0 < first + count
  pub found : token_below first (decimal row.0) commands ≡ row.1.token
  pub learned : command_under first row.0 commands ≡ row.1.command

-- what is found of the first command, where the token is its own
abbrev under_if : Bool → Asked → Option Asked → Option Command
under_if flag c rest = option_and_then command_asked (if flag then Some c else rest)

named_here : (first : ℕ) (c : Asked) (commands : List Asked) → token_below first (decimal first) (c ∷ commands) ≡ c.token
named_here first c commands = ap (λ b. if b then c.token else token_below (first + 1) (decimal first) commands) (decimal_itself first)

learned_here : (first : ℕ) (c : Asked) (commands : List Asked) → command_under first first (c ∷ commands) ≡ command_asked c
learned_here first c commands = ap (λ b. under_if b c (sent_under (first + 1) (decimal first) commands)) (decimal_itself first)

more_differs : (m n : ℕ) → n + 1 ≤ m → m ≡ n → ⊥
more_differs m n more same = omega arith

later : (first count : ℕ) (c : Asked) (commands : List Asked) (row : ℕ × ForwardedValue) → (first + 1) + count ≤ 2 ^ 64 → IsIssued (first + 1) count commands row
    → IsIssued first (suc count) (c ∷ commands) row
later first count c commands row few i =
    let low : first + 1 ≤ row.0 = i.low in
    let high : row.0 < (first + 1) + count = i.high in
    let other : bytes_eq (decimal row.0) (decimal first) ≡ false = other_decimals row.0 first (omega arith) (omega arith) (more_differs row.0 first low) in
    record {
      token = i.token;
      low = omega arith;
      high = omega arith;
      found = ap (λ b. if b then c.token else token_below (first + 1) (decimal row.0) commands) other ∙ i.found;
      learned = ap (λ b. under_if b c (sent_under (first + 1) (decimal row.0) commands)) other ∙ i.learned;
    }

issued_rows : (first : ℕ) (sent rest : List Asked) → first + length sent ≤ 2 ^ 64 → AllByRecursion (λ c. IsToken c.token) sent
    → AllByRecursion (IsIssued first (length sent) (sent ++ rest)) (map row_of (issued_from first sent))
issued_rows first [] rest few tokens = tt
issued_rows first (c ∷ sent) rest few tokens =
    let most : first + suc (length sent) ≤ 2 ^ 64 = few in
    let room : (first + 1) + length sent ≤ 2 ^ 64 = omega arith in (
      record { token = tokens.0; low = omega arith; high = omega arith; found = named_here first c (sent ++ rest); learned = learned_here first c (sent ++ rest) },
      all_then (IsIssued (first + 1) (length sent) (sent ++ rest)) (IsIssued first (suc (length sent)) (c ∷ (sent ++ rest)))
          (λ row i. later first (length sent) c (sent ++ rest) row room i) (map row_of (issued_from (first + 1) sent)) (issued_rows (first + 1) sent rest room tokens.1),
    )

-- ---- the tokens of what was asked

asked_in_token : (raw : List ℕ) (mark : Option ℕ) (m : Result MessageValue MessageFault) → reading raw ≡ m → AllByRecursion (λ c. IsToken c.token) (asked_in mark m)
asked_in_token raw mark (Ok (command token service name body)) is = ((well_read raw (command token service name body) is).0.0, tt)
asked_in_token raw mark m is = tt

asked_by_token : (what : Taken Unit) → AllByRecursion (λ c. IsToken c.token) (asked_by what)
asked_by_token (taken.Command incoming) = asked_in_token incoming.raw incoming.mark (reading incoming.raw) refl
asked_by_token what = tt

pub asked_tokens : (entries : List (Taken Unit)) → AllByRecursion (λ c. IsToken c.token) (flat_map asked_by entries)
asked_tokens [] = tt
asked_tokens (what ∷ entries) = all_append (λ c. IsToken c.token) (asked_by what) (flat_map asked_by entries) (asked_by_token what) (asked_tokens entries)

-- those that were accepted, where these are forwarded
pub accepted_rows : (accepted : List (Issued ForwardedValue)) (asked : List Asked) (bind : Bind) → AreAccepted accepted asked bind → length accepted ≤ last_token
    → AllByRecursion (λ c. IsToken c.token) asked → AllByRecursion (IsIssued 1 (length accepted) asked) (map row_of accepted)
accepted_rows accepted asked bind a few tokens =
    let size : length accepted ≡ length a.sent = ap length a.issued ∙ issued_length 1 a.sent in
    let most : length accepted ≤ 2 ^ 64 - 1 = few in
    let room : 1 + length a.sent ≤ 2 ^ 64 = omega arith in
    let sent_tokens : AllByRecursion (λ c. IsToken c.token) a.sent = all_left (λ c. IsToken c.token) a.sent a.refused (subst (AllByRecursion (λ c. IsToken c.token)) a.whole tokens) in
    subst (λ is. AllByRecursion (IsIssued 1 (length accepted) asked) (map row_of is)) (sym a.issued)
    (subst (λ n. AllByRecursion (IsIssued 1 n asked) (map row_of (issued_from 1 a.sent))) (sym size)
    (subst (λ cs. AllByRecursion (IsIssued 1 (length a.sent) cs) (map row_of (issued_from 1 a.sent))) (sym a.whole)
    (issued_rows 1 a.sent a.refused room sent_tokens)))

-- what is pending was accepted
pub pending_rows : (P : ℕ × ForwardedValue → Type 0) (r : Run ForwardedValue) → CountsAnswers r → AllByRecursion P (map row_of r.past.accepted) → AllByRecursion P r.end.pending
pending_rows P r counts all =
    all_right P counts.drained r.end.pending
    (subst (AllByRecursion P) counts.pending (all_filter P (λ row. not (is_answered r.past.taken row.0)) (map row_of r.past.accepted) all))

pub upper_rows : (P : ℕ × ForwardedValue → Type 0) (upper : Option Upper) (connection : Option (List UpperCall)) → upper ≡ option_map (λ calls. (upper_after calls).end) connection
    → AllByRecursion P (upper_after (unwrap_or connection [])).end.pending → IfSome upper (λ e. AllByRecursion P e.pending)
upper_rows P None connection same all = tt
upper_rows P (Some e) None same all = absurd cc
upper_rows P (Some e) (Some calls) same all = let there : (upper_after calls).end ≡ e = cc in subst (λ x. AllByRecursion P x.pending) there all

-- ---- the row that a token finds

pub record IsTagged (P : ℕ × ForwardedValue → Type 0) (rows : List (ℕ × ForwardedValue)) (number : ℕ) : Type 0 where
  pub row : ℕ × ForwardedValue
  pub tag_is : tag_of number rows ≡ Some row.1
  pub same : row.0 ≡ number
  pub holds : P row

pub tagged_at : (P : ℕ × ForwardedValue → Type 0) (front behind : List (ℕ × ForwardedValue)) (number : ℕ) (tag : ForwardedValue)
    → AllByRecursion P (front ++ (number, tag) ∷ behind) → IsTagged P (front ++ (number, tag) ∷ behind) number
tagged_at P [] behind number tag all = record {
  row = (number, tag);
  tag_is = ap (λ b. option_map (λ r. r.1) (cond b (Some (number, tag)) (find (λ r. r.0 == number) behind))) (number_itself number);
  same = refl;
  holds = all.0;
}
tagged_at P (f ∷ front) behind number tag all = by_flag (f.0 == number) refl (tagged_at P front behind number tag all.1)
  where
    rows : List (ℕ × ForwardedValue)
    rows = front ++ (number, tag) ∷ behind

    by_flag : (flag : Bool) → (f.0 == number) ≡ flag → IsTagged P rows number → IsTagged P (f ∷ rows) number
    by_flag true is rest = record {
      row = f;
      tag_is = ap (λ b. option_map (λ r. r.1) (cond b (Some f) (find (λ r. r.0 == number) rows))) is;
      same = eqb-true f.0 number is;
      holds = all.0;
    }
    by_flag false is rest = record {
      row = rest.row;
      tag_is = ap (λ b. option_map (λ r. r.1) (cond b (Some f) (find (λ r. r.0 == number) rows))) is ∙ rest.tag_is;
      same = rest.same;
      holds = rest.holds;
    }
