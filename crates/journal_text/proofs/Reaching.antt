-- The lines of a journal, one by one.
use Rattle.std.proofs.Common.{◌≡◌, ℕ, ◌+◌, false, List, [], ◌∷◌, ◌++◌, length, refl, sym, ◌∙◌, ap, suc, arith, append_assoc, inl, inr, length-append}
use Rattle.std.specs.Prelude.{Result, Ok, Err, IsSome}
use Rattle.tcf_schedules.specs.Refusal.{BadLine, Refuses}
use Rattle.tcf_schedules.specs.Schedule.{is_skipped, lines_of}
use Rattle.tcf_schedules.specs.declared.schedule.TextFault.{TextFault}
use Rattle.tcf_schedules.specs.declared.schedule.TextRefusal.{TextRefusal}
use Rattle.tcf_schedules.specs.declared.schedule.TextRefusal.TheVariants.{Bad, NoMemory}
use Rattle.journal_text.specs.Journal.{JournalWantsMemory, SoFar, after_line, after_lines, at_line, going_on, journal_of, nothing, whole}
use Rattle.journal_text.specs.declared.journal.Journal.{Journal}

-- so many lines were read, and what they said
pub record Reached (file rest : List ℕ) (number : ℕ) (s : SoFar) : Type 0 where
  pub read : after_lines 1 nothing (lines_of file) ≡ after_lines (number + 1) s (lines_of rest)
  pub counted : length (lines_of file) ≡ number + length (lines_of rest)
  pub front : List (List ℕ)
  pub parts : lines_of file ≡ front ++ lines_of rest
  pub place : number ≡ length front
  pub good : after_lines 1 nothing front ≡ Ok s

pub reached_first : (file : List ℕ) (s : SoFar) → s ≡ nothing → Reached file file 0 s
reached_first file s is =
    record {
      read = ap (λ n. after_lines 1 n (lines_of file)) (sym is);
      counted = omega arith;
      front = [];
      parts = refl;
      place = refl;
      good = ap Ok (sym is);
    }

-- what holds behind the first line holds with it
then_good : (number : ℕ) (front : List (List ℕ)) (s next : SoFar) (line : List ℕ)
    → ((n : SoFar) → after_lines (number + 1) n front ≡ Ok s → after_lines (number + 1) n (front ++ line ∷ []) ≡ Ok next)
    → (r : Result SoFar TextFault) → going_on (λ n. after_lines (number + 1) n front) (at_line number r) ≡ Ok s
    → going_on (λ n. after_lines (number + 1) n (front ++ line ∷ [])) (at_line number r) ≡ Ok next
then_good number front s next line more (Ok n) e = more n e
then_good number front s next line more (Err what) e = absurd cc

-- one line more behind good ones
good_more : (number : ℕ) (front : List (List ℕ)) (start s next : SoFar) (line : List ℕ) → after_lines number start front ≡ Ok s → after_line s line ≡ Ok next
    → after_lines number start (front ++ line ∷ []) ≡ Ok next
good_more number [] start s next line is gives =
    let same : start ≡ s = cc in ap (λ r. going_on (λ n. after_lines (number + 1) n []) (at_line number r)) (ap (λ x. after_line x line) same ∙ gives)
good_more number (first ∷ front) start s next line is gives =
    then_good number front s next line (λ n e. good_more (number + 1) front n s next line e gives) (after_line start first) is

-- the outcome of the lines, as the file has it
abbrev finished : List ℕ → Result SoFar BadLine → Result Journal BadLine
finished file outcome = going_on (λ (s : SoFar). at_line (length (lines_of file) + 1) (whole s s.lines)) outcome

-- what a line gives goes on
abbrev then_lines : ℕ → List (List ℕ) → Result SoFar TextFault → Result SoFar BadLine
then_lines number lines r = going_on (λ n. after_lines (number + 1 + 1) n lines) (at_line (number + 1) r)

one_line : (file rest line after : List ℕ) (number : ℕ) (s : SoFar) → Reached file rest number s → lines_of rest ≡ line ∷ lines_of after
    → after_lines 1 nothing (lines_of file) ≡ then_lines number (lines_of after) (after_line s line)
one_line file rest line after number s reached is = reached.read ∙ ap (after_lines (number + 1) s) is

pub reached_next : (file rest line after : List ℕ) (number : ℕ) (s next : SoFar) → Reached file rest number s → lines_of rest ≡ line ∷ lines_of after → after_line s line ≡ Ok next
    → Reached file after (number + 1) next
reached_next file rest line after number s next reached is gives =
    record {
      read = one_line file rest line after number s reached is ∙ ap (then_lines number (lines_of after)) gives;
      counted = let longer : length (lines_of rest) ≡ suc (length (lines_of after)) = ap length is in omega (arith, reached.counted);
      front = reached.front ++ line ∷ [];
      parts = reached.parts ∙ (ap (λ l. reached.front ++ l) is ∙ sym (append_assoc reached.front (line ∷ []) (lines_of after)));
      place = omega (arith, reached.place, length-append reached.front (line ∷ []));
      good = good_more 1 reached.front nothing s next line reached.good gives;
    }

no_more : (line : ℕ) (what : TextFault) (number : ℕ) (lines : List (List ℕ)) (r : Result SoFar TextFault) → at_line (number + 1) r ≡ Err (record { line = line; what = what })
    → then_lines number lines r ≡ Err (record { line = line; what = what })
no_more line what number lines r is = ap (going_on (λ n. after_lines (number + 1 + 1) n lines)) is

-- a bad line refuses the file
pub bad_refuses : (file rest line after : List ℕ) (number : ℕ) (s : SoFar) (e : TextRefusal) → Reached file rest number s → lines_of rest ≡ line ∷ lines_of after
    → Refuses (at_line (number + 1) (after_line s line)) e → Refuses (journal_of file) e
bad_refuses file rest line after number s (Bad at what) reached is refuses =
    ap (finished file) (one_line file rest line after number s reached is ∙ no_more at what number (lines_of after) (after_line s line) refuses)
bad_refuses file rest line after number s NoMemory reached is refuses = tt

-- behind the last line
pub at_end : (file rest : List ℕ) (number : ℕ) (s : SoFar) → Reached file rest number s → length rest ≡ 0 → journal_of file ≡ at_line (number + 1) (whole s s.lines)
at_end file [] number s reached is =
    ap (finished file) reached.read ∙ ap (λ n. at_line (n + 1) (whole s s.lines)) {x = length (lines_of file)} {y = number} (omega (arith, reached.counted))
at_end file (b ∷ rest) number s reached is = absurd (omega (arith, is))

end_refuses : (o : Result Journal BadLine) (p : Result Journal BadLine) (e : TextRefusal) → o ≡ p → Refuses p e → Refuses o e
end_refuses o p (Bad at what) same refuses = same ∙ refuses
end_refuses o p NoMemory same refuses = tt

pub missing_refuses : (file rest : List ℕ) (number : ℕ) (s : SoFar) (e : TextRefusal) → Reached file rest number s → length rest ≡ 0
    → Refuses (at_line (number + 1) (whole s s.lines)) e → Refuses (journal_of file) e
missing_refuses file rest number s e reached is refuses = end_refuses (journal_of file) (at_line (number + 1) (whole s s.lines)) e (at_end file rest number s reached is) refuses

pub whole_reads : (file rest : List ℕ) (number : ℕ) (s : SoFar) (journal : Journal) → Reached file rest number s → length rest ≡ 0 → whole s s.lines ≡ Ok journal
    → journal_of file ≡ Ok journal
whole_reads file rest number s journal reached is reads = at_end file rest number s reached is ∙ ap (at_line (number + 1)) reads

-- memory was wanting at the next line, or behind the last one
pub wants_at_line : (file rest line after : List ℕ) (number : ℕ) (s : SoFar) → Reached file rest number s → lines_of rest ≡ line ∷ lines_of after → is_skipped line ≡ false → JournalWantsMemory file
wants_at_line file rest line after number s reached is kept =
    record { front = reached.front; rest = line ∷ lines_of after; parts = reached.parts ∙ ap (λ l. reached.front ++ l) is; said = s; good = reached.good; next = inl kept }

pub wants_at_end : (file rest : List ℕ) (number : ℕ) (s : SoFar) → Reached file rest number s → IsSome s.lines → JournalWantsMemory file
wants_at_end file rest number s reached some =
    record { front = reached.front; rest = lines_of rest; parts = reached.parts; said = s; good = reached.good; next = inr some }
