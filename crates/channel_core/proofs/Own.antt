-- A final answer is that to a command that was sent.
use Rattle.std.proofs.Common.{◌≡◌, ℕ, zero, suc, ◌<◌, ◌==◌, Bool, true, false, not, cond, List, [], ◌∷◌, ◌++◌, length, map, Option, Some, ⊎_elim, refl, sym, ap, ◌∙◌, subst, arith}
use Rattle.std.specs.Prelude.{Contains, decimal, slice_get, slice_index_or}
use Rattle.std.specs.List.{filter, position_or_len}
use Rattle.std.proofs.lemmas.Bool.{or_left, or_right}
use Rattle.std.proofs.lemmas.Bool.Decides.{Decides-eqb}
use Rattle.std.proofs.lemmas.List.Elements.{Contains-append_cases}
use Rattle.channel_core.specs.EndValue.{EndValue}
use Rattle.channel_core.specs.Runs.{Issued, Run}
use Rattle.channel_core.specs.RunLaws.{row_of, is_answered, IsOwnAnswer, TakesOwnAnswers}
use Rattle.channel_core.specs.Taking.{is_held, next_taken}
use Rattle.channel_core.specs.Wire.{answers}
use Rattle.channel_core.specs.declared.held.Incoming.{Incoming}
use Rattle.channel_core.specs.declared.taking.Taken.{Taken}
use Rattle.channel_core.proofs.Keeping.{IsTidy}
use Rattle.channel_core.proofs.Commands.{AreSplit, sent_is}
use Rattle.channel_core.proofs.Rows.{names, named_is, found_named, placed}
use Rattle.channel_core.proofs.Finals.{IsFinished, TookAs, took, IsCountedRun}
use Rattle.list_laws.proofs.Flags.{not_true}

-- an accepted command with this row, which passes
record IsIssued {T : Type 0} (all : List (Issued T)) (test : ℕ × T → Bool) (row : ℕ × T) : Type 0 where
  issued : Issued T
  among : Contains all issued
  row_is : row_of issued ≡ row
  passes : test row ≡ true

issued_later : {T : Type 0} → (first : Issued T) (all : List (Issued T)) (test : ℕ × T → Bool) (row : ℕ × T) → IsIssued all test row → IsIssued (first ∷ all) test row
issued_later first all test row i = record {
  issued = i.issued;
  among = let within = i.among.1 in (suc i.among.0, omega arith, i.among.2);
  row_is = i.row_is;
  passes = i.passes;
}

issued_at : {T : Type 0} → (all : List (Issued T)) (test : ℕ × T → Bool) (place : ℕ) (row : ℕ × T) → slice_get (filter test (map row_of all)) place ≡ Some row → IsIssued all test row
issued_at [] test place row at = absurd cc
issued_at (i ∷ all) test place row at = by_flag (test (row_of i)) place refl at (λ other. issued_at all test other row)
  where
    by_flag : (flag : Bool) (place : ℕ) → test (row_of i) ≡ flag → slice_get (cond flag (row_of i ∷ filter test (map row_of all)) (filter test (map row_of all))) place ≡ Some row
        → ((other : ℕ) → slice_get (filter test (map row_of all)) other ≡ Some row → IsIssued all test row) → IsIssued (i ∷ all) test row
    by_flag true zero is at rest =
        let same : row_of i ≡ row = cc in record { issued = i; among = (0, omega arith, refl); row_is = same; passes = ap test (sym same) ∙ is }
    by_flag true (suc place) is at rest = issued_later i all test row (rest place at)
    by_flag false place is at rest = issued_later i all test row (rest place at)

-- one that is held
held_at : {T : Type 0} → (waiting : List (Issued T)) (i : Issued T) (place : ℕ) → place < length waiting → slice_index_or waiting place i ≡ i → is_held i.command.token (map (λ x. x.command) waiting) ≡ true
held_at [] i place within is = absurd (omega arith)
held_at (first ∷ rest) i zero within is =
    or_left (first.command.token == i.command.token) (is_held i.command.token (map (λ x. x.command) rest))
    (ap (λ x. x.command.token == i.command.token) is ∙ (Decides-eqb i.command.token i.command.token).1 refl)
held_at (first ∷ rest) i (suc place) within is =
    or_right (first.command.token == i.command.token) (is_held i.command.token (map (λ x. x.command) rest)) (held_at rest i place (omega arith) is)

held_of : {T : Type 0} → (waiting : List (Issued T)) (i : Issued T) → Contains waiting i → is_held i.command.token (map (λ x. x.command) waiting) ≡ true
held_of waiting i c = held_at waiting i c.0 c.1 c.2

own_by : {T : Type 0} → (r : Run T) (tag : T) (incoming : Incoming) (next : EndValue T) → AreSplit r → IsCountedRun r → IsFinished r.end tag incoming next → IsOwnAnswer r tag incoming
own_by {T = T} r tag incoming next s c f =
    let e = r.end in
    let waits = c.pending ∙ ap (λ rows. rows ++ e.pending) (c.still f.opened) in
    let at = ap (λ rows. slice_get rows f.place) waits ∙ f.row_is in
    let i = issued_at r.past.accepted (λ row. not (is_answered r.past.taken row.0)) f.place (f.number, tag) at in
    let number : i.issued.command.token ≡ f.number = ap (λ row. row.0) i.row_is in
    let here = placed f.token e.pending f.place f.place_is in
    let row_at : slice_get e.pending (position_or_len (names f.token) e.pending) ≡ Some (f.number, tag) = ap (slice_get e.pending) here.place_is ∙ f.row_is in
    let token_is : f.token ≡ decimal f.number = named_is f.token f.number (found_named f.token e.pending (f.number, tag) row_at) in
    let among : Contains (s.sent ++ s.waiting) i.issued = subst (λ (xs : List (Issued T)). Contains xs i.issued) s.parts i.among in
    let sent : Contains s.sent i.issued = ⊎_elim
    (λ (front : Contains s.sent i.issued). front)
    (λ (rest : Contains s.waiting i.issued).
    let held : is_held f.number e.held ≡ true = ap (λ n. is_held n e.held) (sym number) ∙ ap (is_held i.issued.command.token) (sym s.held) ∙ held_of s.waiting i.issued rest in
    let free = f.unheld in absurd cc)
    (Contains-append_cases s.sent s.waiting i.issued among) in
    record {
      command = i.issued;
      done = f.done;
      sent = subst (λ (xs : List (Issued T)). Contains xs i.issued) (sym (sent_is r s)) sent;
      tag_is = ap (λ row. row.1) i.row_is;
      token_is = f.said_is ∙ ap (λ text. answers text f.done) (token_is ∙ ap decimal (sym number));
      first = ap (is_answered r.past.taken) number ∙ not_true (is_answered r.past.taken f.number) i.passes;
    }

pub takes_own_answers : {T : Type 0} → (r : Run T) → IsTidy r.end → AreSplit r → IsCountedRun r → TakesOwnAnswers r
takes_own_answers {T = T} r tidy s c tag incoming is =
    let e = r.end in
    let P : Option (Taken T) → Type 0 = λ o. TookAs e o (next_taken e).1 in
    own_by r tag incoming (next_taken e).1 s c (subst P is (took e tidy))
