-- Two relays in a row keep containment together.
use Rattle.std.proofs.Common.{◌≡◌, inl, inr, ⊎_elim, true, List, [], ◌∷◌, ◌++◌, refl, sym, ap, ◌∙◌, subst, append_assoc, append-nil}
use Rattle.std.proofs.lemmas.List.Concat.{flat_map-append}
use Rattle.channel_core.specs.Arrivals.{Spoken}
use Rattle.knowledge.specs.Facts.{IsPart}
use Rattle.knowledge.specs.Learning.{learned}
use Rattle.list_laws.specs.Fronts.{IsFront}
use Rattle.chain_told.specs.Told.{lessons}
use Rattle.relay_laws.specs.Relay.{Crossing, HaveOwnTokens, IsRelay, answers, asked_by, asked_in, asks, ends, forwards, heard_in, hears, passes, sent_in, taught_above, taught_below, tells, told_by, told_in}
use Rattle.relay_laws.specs.Contained.{Crossed, HasJustTold, IsContained, IsContainedBy, IsJoined, TwoKeepContainment, at_lower, lower_by, lower_in, upper_by, upper_in}
use Rattle.relay_laws.proofs.Containing.{contained, stands_at}
use Rattle.relay_laws.proofs.Tokens.{lessons_more, tokens_front}
use Rattle.list_laws.proofs.Fronts.{front_first, front_flat, front_rest, front_then, no_front}

-- ---- The moment when the last of some messages had been sent

pub record Moment (done traffic : List Crossing) (told : List Spoken) : Type 0 where
  pub then : List Crossing
  pub earlier : IsFront then traffic
  pub are : told_in then ≡ told
  pub just : HasJustTold (done ++ then)

-- behind a crossing that tells nothing
over : (done traffic : List Crossing) (one : Crossing) (told : List Spoken) → told_by one ≡ [] → Moment (done ++ one ∷ []) traffic told → Moment done (one ∷ traffic) told
over done traffic one told none m = record {
  then = one ∷ m.then;
  earlier = (m.earlier.0, ap (λ xs. one ∷ xs) m.earlier.1);
  are = ap (λ xs. xs ++ told_in m.then) none ∙ m.are;
  just = subst HasJustTold (append_assoc done (one ∷ []) m.then) m.just;
}

-- and behind one that tells the first of them
onto : (done traffic : List Crossing) (one : Crossing) (s : Spoken) (told : List Spoken) → told_by one ≡ s ∷ [] → Moment (done ++ one ∷ []) traffic told → Moment done (one ∷ traffic) (s ∷ told)
onto done traffic one s told it m = record {
  then = one ∷ m.then;
  earlier = (m.earlier.0, ap (λ xs. one ∷ xs) m.earlier.1);
  are = ap (λ xs. xs ++ told_in m.then) it ∙ ap (λ xs. s ∷ xs) m.are;
  just = subst HasJustTold (append_assoc done (one ∷ []) m.then) m.just;
}

moment : (done traffic : List Crossing) (told : List Spoken) → (told ≡ [] → HasJustTold done) → IsFront told (told_in traffic) → Moment done traffic told
moment done traffic [] just front = record { then = []; earlier = (traffic, refl); are = refl; just = subst HasJustTold (sym (append-nil done)) (just refl) }
moment done [] (s ∷ told) just front = absurd (no_front s told front)
moment done (asks c ∷ traffic) (s ∷ told) just front = over done traffic (asks c) (s ∷ told) refl (moment (done ++ asks c ∷ []) traffic (s ∷ told) (λ is. absurd cc) front)
moment done (forwards number c ∷ traffic) (s ∷ told) just front =
    over done traffic (forwards number c) (s ∷ told) refl (moment (done ++ forwards number c ∷ []) traffic (s ∷ told) (λ is. absurd cc) front)
moment done (hears h ∷ traffic) (s ∷ told) just front = over done traffic (hears h) (s ∷ told) refl (moment (done ++ hears h ∷ []) traffic (s ∷ told) (λ is. absurd cc) front)
moment done (ends ∷ traffic) (s ∷ told) just front = over done traffic ends (s ∷ told) refl (moment (done ++ ends ∷ []) traffic (s ∷ told) (λ is. absurd cc) front)
moment done (passes t ∷ traffic) (s ∷ told) just front =
    onto done traffic (passes t) s told (ap (λ x. x ∷ []) (sym (front_first s t told (told_in traffic) front)))
    (moment (done ++ passes t ∷ []) traffic told (λ is. inr (done, passes t, refl, refl)) (front_rest s t told (told_in traffic) front))
moment done (answers number t ∷ traffic) (s ∷ told) just front =
    onto done traffic (answers number t) s told (ap (λ x. x ∷ []) (sym (front_first s t told (told_in traffic) front)))
    (moment (done ++ answers number t ∷ []) traffic told (λ is. inr (done, answers number t, refl, refl)) (front_rest s t told (told_in traffic) front))

-- ---- The law

module _ (crossed : List Crossed) (low : IsRelay (lower_in crossed)) (high : IsRelay (upper_in crossed)) (joined : IsJoined crossed) (own : HaveOwnTokens (asked_in (lower_in crossed))) where
  own_above : HaveOwnTokens (asked_in (upper_in crossed))
  own_above =
      let front = joined.up crossed [] (sym (append-nil crossed)) in
      let order = low.forwards_in_order (lower_in crossed) [] (sym (append-nil (lower_in crossed))) in
      tokens_front (asked_in (upper_in crossed)) front.0 (subst HaveOwnTokens front.1 order.tokens)

  contained_then : (then rest : List Crossing) → upper_in crossed ≡ then ++ rest → HasJustTold then → IsContained then
  contained_then then rest whole just =
      ⊎_elim
      (λ none. subst IsContained (sym none) (λ fact knows. knows))
      (λ last. subst IsContained (sym last.2) (contained (upper_in crossed) high own_above last.0 rest last.1
      (whole ∙ ap (λ xs. xs ++ rest) last.2 ∙ append_assoc last.0 (last.1 ∷ []) rest) last.3))
      just

  pub both : (done rest : List Crossed) (last : Crossing) → crossed ≡ done ++ at_lower last ∷ rest → tells last ≡ true → IsContainedBy (lower_in (done ++ at_lower last ∷ [])) (upper_in done)
  both done rest last whole told =
      let next = done ++ at_lower last ∷ [] in
      let whole_next : crossed ≡ next ++ rest = whole ∙ sym (append_assoc done (at_lower last ∷ []) rest) in
      let lower_is : lower_in next ≡ lower_in done ++ last ∷ [] = flat_map-append lower_by done (at_lower last ∷ []) in
      let upper_is : upper_in next ≡ upper_in done = flat_map-append upper_by done (at_lower last ∷ []) ∙ append-nil (upper_in done) in
      let down : IsFront (heard_in (lower_in next)) (told_in (upper_in done)) = subst (λ xs. IsFront (heard_in (lower_in next)) (told_in xs)) upper_is (joined.down next rest whole_next) in
      let up : IsFront (asked_in (upper_in done)) (sent_in (lower_in next)) = subst (λ xs. IsFront (asked_in xs) (sent_in (lower_in next))) upper_is (joined.up next rest whole_next) in
      let m = moment [] (upper_in done) (heard_in (lower_in next)) (λ none. inl refl) down in
      let upper_whole : upper_in crossed ≡ m.then ++ (m.earlier.0 ++ upper_in (at_lower last ∷ rest)) =
      ap upper_in whole ∙ flat_map-append upper_by done (at_lower last ∷ rest) ∙ ap (λ xs. xs ++ upper_in (at_lower last ∷ rest)) m.earlier.1
      ∙ append_assoc m.then m.earlier.0 (upper_in (at_lower last ∷ rest)) in
      let st = stands_at (upper_in crossed) high own_above m.then (m.earlier.0 ++ upper_in (at_lower last ∷ rest)) upper_whole in
      let sent_front = front_then (asked_in m.then) (asked_in (upper_in done)) (sent_in (lower_in next)) (front_flat asked_by m.then (upper_in done) m.earlier) up in
      let lower_whole : lower_in crossed ≡ lower_in done ++ last ∷ lower_in rest = ap lower_in whole ∙ flat_map-append lower_by done (at_lower last ∷ rest) in
      let below : IsContained (lower_in next) = subst IsContained (sym lower_is) (contained (lower_in crossed) low own (lower_in done) (lower_in rest) last lower_whole told) in
      let above : IsContained m.then = contained_then m.then (m.earlier.0 ++ upper_in (at_lower last ∷ rest)) upper_whole m.just in
      let same : taught_above (lower_in next) ≡ taught_below m.then =
      ap (lessons (sent_in (lower_in next))) (sym m.are) ∙ ap (λ cs. lessons cs (told_in m.then)) sent_front.1 ∙ lessons_more (asked_in m.then) sent_front.0 (told_in m.then) st.below in
      let through : IsPart (learned (taught_below (lower_in next))) (learned (taught_below m.then)) = subst (λ ms. IsPart (learned (taught_below (lower_in next))) (learned ms)) same below in
      record { then = m.then; earlier = m.earlier; just = m.just; heard = m.are; part = λ fact knows. above fact (through fact knows) }

pub two_keep_containment : TwoKeepContainment
two_keep_containment crossed low high joined own done rest last whole told = both crossed low high joined own done rest last whole told
