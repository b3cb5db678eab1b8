-- Commands and their answers, one by one: a redirect's answer without an error is the last one.
use Rattle.std.proofs.Common.{◌≡◌, Bool, true, false, List, [], ◌∷◌, ◌++◌, refl, ap, sym, ◌∙◌}
use Rattle.std.specs.Prelude.{bytes_eq}
use Rattle.std.specs.List.{AllByRecursion, list_any}
use Rattle.std.proofs.lemmas.Slice.Eq.{bytes_eq-Decides}
use Rattle.std.proofs.lemmas.Bool.{or_left, or_right}
use Rattle.channel_core.specs.Arrivals.{Spoken}
use Rattle.channel_core.specs.RunLaws.{token_in}
use Rattle.channel_core.specs.Wire.{Said, answers, is_redirect, said_by}
use Rattle.channel_laws.specs.Meeting.{answers_among}
use Rattle.value_node.specs.Asked.{Asked}
use Rattle.list_laws.proofs.AllLists.{all_then}

-- it answers the command, and others are said behind it; where the flag is set the last one may do a redirect
pub record IsAnswer (binds : Bool) (c : Asked) (s : Spoken) (behind : List Spoken) : Type 0 where
  pub done : Bool
  pub says : said_by s.message ≡ answers c.token done
  pub fair : is_redirect c.service c.name ≡ true → done ≡ true → (binds ≡ true) × (behind ≡ [])

abbrev pub AnswerEach : Bool → List Asked → List Spoken → Type 0
AnswerEach binds [] [] = Unit {0}
AnswerEach binds (c ∷ commands) (s ∷ spoken) = IsAnswer binds c s spoken × AnswerEach binds commands spoken
AnswerEach binds [] (s ∷ spoken) = ⊥
AnswerEach binds (c ∷ commands) [] = ⊥

differs : false ≡ true → ⊥
differs is = absurd cc

pub each_then : (binds : Bool) (commands more : List Asked) (spoken later : List Spoken) → AnswerEach false commands spoken → AnswerEach binds more later
    → AnswerEach binds (commands ++ more) (spoken ++ later)
each_then binds [] more [] later each others = others
each_then binds [] more (s ∷ spoken) later each others = absurd each
each_then binds (c ∷ commands) more [] later each others = absurd each
each_then binds (c ∷ commands) more (s ∷ spoken) later each others =
    (record { done = each.0.done; says = each.0.says; fair = λ asks on. absurd (differs (each.0.fair asks on).0) }, each_then binds commands more spoken later each.1 others)

-- ---- the command that one of them answers

pub record IsAnsweredAt (binds : Bool) (commands : List Asked) (s : Spoken) (rest : List Spoken) : Type 0 where
  pub front : List Asked
  pub command : Asked
  pub back : List Asked
  pub whole : commands ≡ front ++ command ∷ back
  pub is : IsAnswer binds command s rest

one_behind : (binds : Bool) (c : Asked) (commands : List Asked) (s : Spoken) (rest : List Spoken) → IsAnsweredAt binds commands s rest → IsAnsweredAt binds (c ∷ commands) s rest
one_behind binds c commands s rest at = record { front = c ∷ at.front; command = at.command; back = at.back; whole = ap (λ cs. c ∷ cs) at.whole; is = at.is }

pub each_at : (binds : Bool) (commands : List Asked) (spoken before : List Spoken) (s : Spoken) (rest : List Spoken) → AnswerEach binds commands spoken → spoken ≡ before ++ s ∷ rest
    → IsAnsweredAt binds commands s rest
each_at binds [] [] [] s rest each are = absurd cc
each_at binds [] [] (b ∷ before) s rest each are = absurd cc
each_at binds [] (t ∷ spoken) before s rest each are = absurd each
each_at binds (c ∷ commands) [] before s rest each are = absurd each
each_at binds (c ∷ commands) (t ∷ spoken) [] s rest each are =
    let one : t ≡ s = cc in
    let others : spoken ≡ rest = cc in
    record { front = []; command = c; back = commands; whole = refl; is = rw (sym one, sym others) each.0 }
each_at binds (c ∷ commands) (t ∷ spoken) (b ∷ before) s rest each are =
    let others : spoken ≡ before ++ s ∷ rest = cc in
    one_behind binds c commands s rest (each_at binds commands spoken before s rest each.1 others)

-- ---- each is answered among them

pub among_behind : (s : Spoken) (spoken : List Spoken) (commands : List Asked) → AllByRecursion (λ c. answers_among c.token spoken ≡ true) commands
    → AllByRecursion (λ c. answers_among c.token (s ∷ spoken) ≡ true) commands
among_behind s spoken commands all =
    all_then (λ (c : Asked). answers_among c.token spoken ≡ true) (λ (c : Asked). answers_among c.token (s ∷ spoken) ≡ true)
    (λ c is. or_right (list_any (λ text. bytes_eq text c.token) (token_in (said_by s.message))) (answers_among c.token spoken) is) commands all

pub each_among : (binds : Bool) (commands : List Asked) (spoken : List Spoken) → AnswerEach binds commands spoken → AllByRecursion (λ c. answers_among c.token spoken ≡ true) commands
each_among binds [] spoken each = tt
each_among binds (c ∷ commands) [] each = absurd each
each_among binds (c ∷ commands) (s ∷ spoken) each =
    let names : list_any (λ text. bytes_eq text c.token) (token_in (said_by s.message)) ≡ true =
    ap (λ (said : Said). list_any (λ text. bytes_eq text c.token) (token_in said)) each.0.says ∙ or_left (bytes_eq c.token c.token) false ((bytes_eq-Decides c.token c.token).1 refl) in
    (or_left (list_any (λ text. bytes_eq text c.token) (token_in (said_by s.message))) (answers_among c.token spoken) names, among_behind s spoken commands (each_among binds commands spoken each.1))
