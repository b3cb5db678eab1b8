-- What stands of a value-add behind each of its deeds: of what it heard by then, and of what it told.
use Rattle.std.proofs.Common.{◌≡◌, ℕ, ◌+◌, ◌^◌, ◌<◌, ◌⊎◌, inl, inr, ⊎_elim, true, false, List, [], ◌∷◌, ◌++◌, length, map, sym, ap, ◌∙◌, subst, append_assoc}
use Rattle.std.specs.Prelude.{decimal}
use Rattle.std.specs.List.{AllByRecursion, Contains}
use Rattle.std.proofs.lemmas.List.Elements.{Contains-append_left, Contains-append_right}
use Rattle.channel_core.specs.Arrivals.{Spoken, comes_as}
use Rattle.knowledge.specs.Learning.{learned}
use Rattle.target_contexts.specs.declared.process.Image.{Image}
use Rattle.target_hub.specs.declared.input.Input.{Input}
use Rattle.value_node.specs.Asked.{Asked}
use Rattle.value_node.specs.Deeds.{Deed, answers, asked_in, forwards, heard_in, hears, lessons_in, sent_in}
use Rattle.chain_told.specs.Told.{AreTrueAt, is_ended, lessons, mark_of, numbered}
use Rattle.chain_told.specs.TellsOn.{Begins}
use Rattle.chain_told.proofs.Agreeing.{Agree, IsSure}
use Rattle.chain_told.proofs.Doing.{IsReadable, asked_append, sent_split, sent_was_asked, still_ended}
use Rattle.chain_told.proofs.Tokens.{apart, placed, IsPlaced}
use Rattle.list_laws.proofs.Contained.{contains_cases, contains_first}

-- one from its own store has ended its command
abbrev pub HasEnded : List Spoken → Deed → Type 0
HasEnded told (forwards c) = Unit {0}
HasEnded told (answers c reply mark) = is_ended c.token told ≡ true
HasEnded told (hears incoming) = Unit {0}

pub have_ended_still : (told : List Spoken) (s : Spoken) (done : List Deed) → AllByRecursion (HasEnded told) done → AllByRecursion (HasEnded (told ++ s ∷ [])) done
have_ended_still told s [] all = tt
have_ended_still told s (forwards c ∷ done) all = (tt, have_ended_still told s done all.1)
have_ended_still told s (answers c reply mark ∷ done) all = (still_ended c.token told s all.0, have_ended_still told s done all.1)
have_ended_still told s (hears incoming ∷ done) all = (tt, have_ended_still told s done all.1)

-- what was asked has been answered from the store, or was sent
pub ended_or_sent : (told : List Spoken) (done : List Deed) (c : Asked) → AllByRecursion (HasEnded told) done → Contains (asked_in done) c → (is_ended c.token told ≡ true) ⊎ Contains (sent_in done) c
ended_or_sent told [] c all there = inr there
ended_or_sent told (forwards d ∷ done) c all there = ⊎_elim
    (λ one. inr (subst (λ x. Contains (d ∷ sent_in done) x) one (contains_first d (sent_in done))))
    (λ rest. ⊎_elim (λ is. inl is) (λ it. inr (Contains-append_right (d ∷ []) (sent_in done) c it)) (ended_or_sent told done c all.1 rest))
    (contains_cases d (asked_in done) c there)
ended_or_sent told (answers d reply mark ∷ done) c all there = ⊎_elim
    (λ one. inl (ap (λ x. is_ended x.token told) (sym one) ∙ all.0))
    (λ rest. ended_or_sent told done c all.1 rest)
    (contains_cases d (asked_in done) c there)
ended_or_sent told (hears incoming ∷ done) c all there = ended_or_sent told done c all.1 there

module _ (images : List Image) (history : List Input) (commands : List Asked) (own : List Spoken) (deeds : List Deed) (begins : Begins commands own deeds) where
  abbrev everything : List Asked
  everything = numbered 1 commands

  abbrev above : List Asked
  above = numbered 1 (sent_in deeds)

  -- behind these deeds, where these others are left, these commands were sent, this was heard and this was told
  pub record Stands (done left : List Deed) (sent : List Asked) (heard told : List Spoken) : Type 0 where
    pub sent_is : sent_in done ≡ sent
    pub came : heard_in done ≡ map comes_as heard
    pub readable : AllByRecursion IsReadable heard
    pub marked : mark_of told ≡ mark_of heard
    pub knows : IsSure images (mark_of heard) → Agree (learned (lessons everything told)) (learned (lessons above heard))
    pub taught : lessons_in done ≡ lessons above heard
    pub truly : AreTrueAt images history (mark_of heard) (learned (lessons above heard))
    -- a command that was sent is ended below where it is above
    pub ended : (xs : List Asked) (c : Asked) (ys : List Asked) → sent ≡ xs ++ c ∷ ys → is_ended c.token told ≡ is_ended (decimal (1 + length xs)) heard
    pub first_ended : (c : Asked) → Contains begins.first c → is_ended c.token told ≡ true
    pub stored_ended : AllByRecursion (HasEnded told) done
    pub unasked : (c : Asked) → Contains (asked_in left) c → is_ended c.token told ≡ false
    pub unsent : (n : ℕ) → length sent < n → n < 10 ^ 64 → is_ended (decimal n) heard ≡ false

  -- ---- Where the commands stand among all

  pub asked_parts : (one other : List Deed) → deeds ≡ one ++ other → everything ≡ (begins.first ++ asked_in one) ++ (asked_in other ++ begins.later)
  asked_parts one other whole =
      begins.parts ∙ ap (λ xs. begins.first ++ (xs ++ begins.later)) (ap asked_in whole ∙ asked_append one other)
      ∙ ap (λ xs. begins.first ++ xs) (append_assoc (asked_in one) (asked_in other) begins.later)
      ∙ sym (append_assoc begins.first (asked_in one) (asked_in other ++ begins.later))

  pub asked_placed : (one other : List Deed) (c : Asked) (rest : List Asked) → deeds ≡ one ++ other → asked_in other ≡ c ∷ rest → IsPlaced commands (begins.first ++ asked_in one) c
  asked_placed one other c rest whole is =
      placed commands (begins.first ++ asked_in one) c (rest ++ begins.later) begins.few (asked_parts one other whole ∙ ap (λ xs. (begins.first ++ asked_in one) ++ (xs ++ begins.later)) is)

  pub asked_apart : (one other : List Deed) (c d : Asked) → deeds ≡ one ++ other → Contains (asked_in one) c → Contains (asked_in other) d → c.token ≡ d.token → ⊥
  asked_apart one other c d whole first second same =
      apart commands (begins.first ++ asked_in one) (asked_in other ++ begins.later) c d begins.few (asked_parts one other whole)
      (Contains-append_right begins.first (asked_in one) c first) (Contains-append_left (asked_in other) begins.later d second) same

  -- one that was sent before another
  pub sent_apart : (done left : List Deed) (xs : List Asked) (d : Asked) (ys : List Asked) (c : Asked) → deeds ≡ done ++ left → sent_in done ≡ xs ++ d ∷ ys → Contains xs c → c.token ≡ d.token → ⊥
  sent_apart done left xs d ys c whole are there same =
      let s = sent_split done xs d ys are in
      let parts : deeds ≡ s.earlier ++ (forwards d ∷ (s.later ++ left)) = whole ∙ ap (λ ds. ds ++ left) s.are ∙ append_assoc s.earlier (forwards d ∷ s.later) left in
      asked_apart s.earlier (forwards d ∷ (s.later ++ left)) c d parts (sent_was_asked s.earlier c (subst (λ zs. Contains zs c) (sym s.before) there))
      (contains_first d (asked_in (s.later ++ left))) same
