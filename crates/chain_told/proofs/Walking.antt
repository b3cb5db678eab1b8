-- Through all deeds, from the first on, each message is told rightly.
use Rattle.std.proofs.Common.{◌≡◌, suc, ◌+◌, ◌^◌, ◌<◌, inl, inr, Bool, true, List, [], ◌∷◌, ◌++◌, length, map, Ok, refl, sym, ap, ap₂, ◌∙◌, subst, arith, append_assoc, append-nil, length-append}
use Rattle.std.specs.Prelude.{decimal}
use Rattle.std.specs.List.{AllByRecursion}
use Rattle.std.proofs.lemmas.Grind.{flat_map-append}
use Rattle.std.proofs.lemmas.List.Elements.{Contains-append_right}
use Rattle.channel_core.specs.Arrivals.{Spoken, comes_as}
use Rattle.channel_core.specs.declared.held.Incoming.{Incoming}
use Rattle.knowledge.specs.Facts.{Facts, IsPart, byte_is, context_is, nothing, properties_are, register_is, state_is, status_is, threads_are}
use Rattle.knowledge.specs.Learning.{learned}
use Rattle.target_contexts.specs.declared.process.Image.{Image}
use Rattle.target_hub.specs.History.{IsLegal}
use Rattle.target_hub.specs.declared.input.Input.{Input}
use Rattle.tcf_message.specs.Message.{final, reading}
use Rattle.value_node.specs.Asked.{Asked}
use Rattle.value_node.specs.Deeds.{Deed, answers, asked_in, forwards, heard_in, hears, lessons_in, sent_in}
use Rattle.value_node.specs.RelayLaws.{IsOfItsCommand, passed_in}
use Rattle.chain_told.specs.Told.{AreToldRightly, IsToldRightly, is_ended, is_storable, is_stored, lessons, numbered, owed_at, owed_in}
use Rattle.chain_told.specs.TellsOn.{AreDeeds, Begins, Hears, IsWithoutSome, TellsSo, passed_as, tells, tells_from}
use Rattle.chain_told.proofs.Doing.{IsReadable, heard_append, lessons_more, sent_append}
use Rattle.chain_told.proofs.Hearing.{pass, passes_on}
use Rattle.chain_told.proofs.Splits.{LastOr, earlier, last, last_or}
use Rattle.chain_told.proofs.Standing.{HasEnded, Stands}
use Rattle.chain_told.proofs.Storing.{answer}
use Rattle.list_laws.proofs.Contained.{contains_first}
use Rattle.list_laws.proofs.AllLists.{all_append}

-- each of these messages is told rightly behind those before it
abbrev pub AllRightly : List Image → List Input → List Asked → List Spoken → List Spoken → Type 0
AllRightly images history commands before [] = Unit {0}
AllRightly images history commands before (s ∷ told) = IsToldRightly images history commands before s × AllRightly images history commands (before ++ s ∷ []) told

each_rightly : (images : List Image) (history : List Input) (commands : List Asked) (own told before rest : List Spoken) (s : Spoken) → AllRightly images history commands own told → told ≡ before ++ s ∷ rest
    → IsToldRightly images history commands (own ++ before) s
each_rightly images history commands own [] [] rest s all same = absurd cc
each_rightly images history commands own [] (b ∷ before) rest s all same = absurd cc
each_rightly images history commands own (t ∷ told) [] rest s all same =
    let whole : t ∷ told ≡ s ∷ rest = same in
    let first : t ≡ s = cc in
    subst (λ xs. IsToldRightly images history commands xs s) (sym (append-nil own)) (subst (λ x. IsToldRightly images history commands own x) first all.0)
each_rightly images history commands own (t ∷ told) (b ∷ before) rest s all same =
    let whole : t ∷ told ≡ b ∷ (before ++ s ∷ rest) = same in
    let first : t ≡ b = cc in
    let tails : told ≡ before ++ s ∷ rest = cc in
    subst (λ xs. IsToldRightly images history commands xs s) (append_assoc own (t ∷ []) before ∙ ap (λ x. own ++ x ∷ before) first)
    (each_rightly images history commands (own ++ t ∷ []) told before rest s all.1 tails)

-- ---- What is sent

skipping : {A : Type 0} → (kind : A → Bool) (xs : List A) (y : A) (ys : List A) → kind y ≡ true → IsWithoutSome kind xs ys → IsWithoutSome kind xs (y ∷ ys)
skipping kind [] y ys is rest = (is, rest)
skipping kind (x ∷ xs) y ys is rest = inr (is, rest)

sent_on : (deeds : List Deed) → AreDeeds deeds → (left done : List Deed) → deeds ≡ done ++ left → IsWithoutSome is_storable (sent_in left) (asked_in left)
sent_on deeds are [] done whole = tt
sent_on deeds are (forwards c ∷ left) done whole = inl (refl, sent_on deeds are left (done ++ forwards c ∷ []) (whole ∙ sym (append_assoc done (forwards c ∷ []) left)))
sent_on deeds are (answers c reply mark ∷ left) done whole =
    let r = are.rightly done left c reply mark whole in
    skipping is_storable (sent_in left) c (asked_in left) (ap is_stored r.read ∙ r.storable)
    (sent_on deeds are left (done ++ answers c reply mark ∷ []) (whole ∙ sym (append_assoc done (answers c reply mark ∷ []) left)))
sent_on deeds are (hears incoming ∷ left) done whole = sent_on deeds are left (done ++ hears incoming ∷ []) (whole ∙ sym (append_assoc done (hears incoming ∷ []) left))

-- ---- The walk

module _ (images : List Image) (history : List Input) (legal : IsLegal images history) (commands : List Asked) (own : List Spoken) (deeds : List Deed) (all_heard : List Spoken)
    (begins : Begins commands own deeds) (are : AreDeeds deeds) (few : length (sent_in deeds) < 10 ^ 64) (rightly : AreToldRightly images history (numbered 1 (sent_in deeds)) all_heard) where
  abbrev StandsHere : List Deed → List Deed → List Asked → List Spoken → List Spoken → Type 0
  StandsHere done left sent heard told = Stands images history commands own deeds begins done left sent heard told

  abbrev everything : List Asked
  everything = numbered 1 commands

  abbrev above : List Asked
  above = numbered 1 (sent_in deeds)

  -- a command is sent above, and nothing is told
  forward : (done left : List Deed) (sent : List Asked) (heard told : List Spoken) (c : Asked) → deeds ≡ done ++ forwards c ∷ left → StandsHere done (forwards c ∷ left) sent heard told
      → StandsHere (done ++ forwards c ∷ []) left (sent ++ c ∷ []) heard told
  forward done left sent heard told c whole st = record {
    sent_is = sent_append done (forwards c ∷ []) ∙ ap (λ xs. xs ++ c ∷ []) st.sent_is;
    came = heard_append done (forwards c ∷ []) ∙ append-nil (heard_in done) ∙ st.came;
    readable = st.readable;
    marked = st.marked;
    knows = st.knows;
    taught = lessons_more done (forwards c ∷ []) ∙ append-nil (lessons_in done) ∙ st.taught;
    truly = st.truly;
    ended = λ xs d ys is. by_place xs d (last_or sent c xs d ys is);
    first_ended = st.first_ended;
    stored_ended = all_append (HasEnded told) done (forwards c ∷ []) st.stored_ended (tt, tt);
    unasked = λ d there. st.unasked d (Contains-append_right (c ∷ []) (asked_in left) d there);
    unsent = λ n far small. let more : length (sent ++ c ∷ []) ≡ length sent + 1 = length-append sent (c ∷ []) in st.unsent n (omega arith) small;
  }
    where
      long : length (sent_in deeds) ≡ length sent + (1 + length (sent_in left))
      long =
          let parts : sent_in deeds ≡ sent ++ c ∷ sent_in left = ap sent_in whole ∙ sent_append done (forwards c ∷ left) ∙ ap (λ xs. xs ++ c ∷ sent_in left) st.sent_is in
          let count : length (sent_in deeds) ≡ length sent + suc (length (sent_in left)) = ap length parts ∙ length-append sent (c ∷ sent_in left) in
          omega arith

      by_place : (xs : List Asked) (d : Asked) → LastOr sent c xs d → is_ended d.token told ≡ is_ended (decimal (1 + length xs)) heard
      by_place xs d (last o) =
          let same : length sent ≡ length xs = ap length o.front in
          let count = long in
          ap (λ x. is_ended x.token told) (sym o.item) ∙ st.unasked c (contains_first c (asked_in left)) ∙ sym (st.unsent (1 + length xs) (omega arith) (omega arith))
      by_place xs d (earlier ys is) = st.ended xs d ys is

  pub record Walked (left : List Deed) (sent : List Asked) (still told : List Spoken) : Type 0 where
    pub told_rightly : AllRightly images history everything told (tells_from sent left)
    pub owed : owed_in everything (tells_from sent left) ≡ owed_in above still

  owed_both : (commands : List Asked) (xs ys : List Spoken) → owed_in commands (xs ++ ys) ≡ owed_in commands xs ++ owed_in commands ys
  owed_both commands xs ys = flat_map-append (λ s. owed_at commands s.message s.mark) xs ys

  -- behind a message that was passed on
  passed_further : (left : List Deed) (sent : List Asked) (incoming : Incoming) (h s : Spoken) (still told : List Spoken) → passed_as sent incoming ≡ s ∷ [] → owed_at everything s.message s.mark ≡ owed_at above h.message h.mark
      → IsToldRightly images history everything told s → Walked left sent still (told ++ s ∷ []) → Walked (hears incoming ∷ left) sent (h ∷ still) told
  passed_further left sent incoming h s still told passed owed right rest = record {
    told_rightly = subst (λ xs. AllRightly images history everything told (xs ++ tells_from sent left)) (sym passed) (right, rest.told_rightly);
    owed = ap (λ xs. owed_in everything (xs ++ tells_from sent left)) passed ∙ ap₂ (λ xs ys. xs ++ ys) owed rest.owed;
  }

  -- the first message that is still to be heard
  record HearsFirst (incoming : Incoming) (rest : List Incoming) (still : List Spoken) : Type 0 where
    first : Spoken
    others : List Spoken
    split : still ≡ first ∷ others
    is : incoming ≡ comes_as first
    come : rest ≡ map comes_as others

  hears_first : (incoming : Incoming) (rest : List Incoming) (still : List Spoken) → incoming ∷ rest ≡ map comes_as still → HearsFirst incoming rest still
  hears_first incoming rest [] same = absurd cc
  hears_first incoming rest (h ∷ still) same =
      let whole : incoming ∷ rest ≡ comes_as h ∷ map comes_as still = same in
      let first : incoming ≡ comes_as h = cc in
      let tails : rest ≡ map comes_as still = cc in
      record { first = h; others = still; split = refl; is = first; come = tails }

  walk : (left done : List Deed) (sent : List Asked) (heard still told : List Spoken) → deeds ≡ done ++ left → all_heard ≡ heard ++ still → heard_in left ≡ map comes_as still → AllByRecursion IsReadable still
      → StandsHere done left sent heard told → Walked left sent still told
  walk [] done sent heard [] told whole hearing come readable st = record { told_rightly = tt; owed = refl }
  walk [] done sent heard (h ∷ still) told whole hearing come readable st = absurd cc
  walk (forwards c ∷ left) done sent heard still told whole hearing come readable st =
      let rest = walk left (done ++ forwards c ∷ []) (sent ++ c ∷ []) heard still told (whole ∙ sym (append_assoc done (forwards c ∷ []) left)) hearing come readable (forward done left sent heard told c whole st) in
      record { told_rightly = rest.told_rightly; owed = rest.owed }
  walk (answers c reply mark ∷ left) done sent heard still told whole hearing come readable st =
      let a = answer images history legal commands own deeds begins done left sent heard told c reply mark whole st (are.rightly done left c reply mark whole) in
      let s : Spoken = record { message = final c.token reply; mark = mark } in
      let rest = walk left (done ++ answers c reply mark ∷ []) sent heard still (told ++ s ∷ []) (whole ∙ sym (append_assoc done (answers c reply mark ∷ []) left)) hearing come readable a.stands in
      record { told_rightly = (a.rightly, rest.told_rightly); owed = ap (λ xs. xs ++ owed_in everything (tells_from sent left)) a.owed ∙ rest.owed }
  walk (hears incoming ∷ left) done sent heard still told whole hearing come readable st =
      let f = hears_first incoming (heard_in left) still come in
      let split : all_heard ≡ heard ++ f.first ∷ f.others = hearing ∙ ap (λ xs. heard ++ xs) f.split in
      let right = rightly heard f.others f.first split in
      let reads = subst (AllByRecursion IsReadable) f.split readable in
      let read : reading incoming.raw ≡ Ok f.first.message = ap (λ (i : Incoming). reading i.raw) f.is ∙ reads.0 in
      let its : IsOfItsCommand done (Ok f.first.message) = subst (IsOfItsCommand done) read (are.own done left incoming whole) in
      let on = passes_on images history commands own deeds begins few done left sent heard told incoming f.first.mark whole st f.first.message right its in
      let p = pass images history commands own deeds begins few done left sent heard told incoming f.first on.spoken st on.passes right f.is reads.0 in
      let passed : passed_as sent incoming ≡ on.spoken ∷ [] =
      ap (λ m. map (λ x. record { message = x; mark = incoming.mark }) (passed_in sent m)) read
      ∙ ap (λ (i : Incoming). map (λ x. record { message = x; mark = i.mark }) (passed_in sent (Ok f.first.message))) f.is ∙ on.are in
      let rest = walk left (done ++ hears incoming ∷ []) sent (heard ++ f.first ∷ []) f.others (told ++ on.spoken ∷ []) (whole ∙ sym (append_assoc done (hears incoming ∷ []) left))
      (split ∙ sym (append_assoc heard (f.first ∷ []) f.others)) f.come reads.1 p.stands in
      subst (λ xs. Walked (hears incoming ∷ left) sent xs told) (sym f.split) (passed_further left sent incoming f.first on.spoken f.others told passed on.passes.owed_too p.rightly rest)

  -- ---- At the beginning

  nothing_part : (known : Facts) → IsPart nothing known
  nothing_part known (context_is id context) is = absurd cc
  nothing_part known (threads_are process ids) is = absurd cc
  nothing_part known (state_is process thread state) is = absurd cc
  nothing_part known (register_is process thread index value) is = absurd cc
  nothing_part known (byte_is process addr byte) is = absurd cc
  nothing_part known (properties_are id properties) is = absurd cc
  nothing_part known (status_is id status) is = absurd cc

  begun : StandsHere [] deeds [] [] own
  begun = record {
    sent_is = refl;
    came = refl;
    readable = tt;
    marked = begins.unmarked;
    knows = λ sure. record { part = begins.teaches_nothing; back = nothing_part (learned (lessons everything own)) };
    taught = refl;
    truly = λ fact knows. knows;
    ended = λ xs c ys is. absurd (none xs c ys is);
    first_ended = begins.ended;
    stored_ended = tt;
    unasked = begins.unended;
    unsent = λ n far small. refl;
  }
    where
      none : (xs : List Asked) (c : Asked) (ys : List Asked) → [] ≡ xs ++ c ∷ ys → ⊥
      none [] c ys is = absurd cc
      none (x ∷ xs) c ys is = absurd cc

  pub tells_so : Hears deeds all_heard → TellsSo images history commands own deeds all_heard
  tells_so hearing =
      let w = walk deeds [] [] [] all_heard own refl refl hearing.are hearing.readable begun in
      record {
        told = λ before rest s same. each_rightly images history everything own (tells deeds) before rest s w.told_rightly same;
        owed = owed_both everything own (tells deeds) ∙ ap (λ xs. xs ++ owed_in everything (tells deeds)) begins.owes_nothing ∙ w.owed;
        sent = sent_on deeds are deeds [] refl;
      }
