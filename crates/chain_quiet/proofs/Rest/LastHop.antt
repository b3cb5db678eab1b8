-- The hop to the agent.
use Rattle.std.proofs.Common.{◌≡◌, true, false, List, [], ◌∷◌, ◌++◌, filter, inl, inr, refl, sym, ap, ◌∙◌, append-nil}
use Rattle.channel_core.specs.Arrivals.{AreSpoken, Spoken, arrived, bytes_of, all_said}
use Rattle.channel_core.specs.Closing.{is_closed}
use Rattle.channel_core.specs.QueueLaws.{is_message}
use Rattle.channel_core.specs.Wire.{end_of_stream}
use Rattle.channel_laws.specs.Meeting.{HasAll, IsLasting, Side, run_of}
use Rattle.chain_quiet.specs.Stuck.{HopIsStill, IsReadable, IsServed, IsServedOrRefused, IsStill, end_of_side, unmarked}
use Rattle.chain_route.specs.Carrying.{HopCarries, agent_end}
use Rattle.chain_route.specs.Runs.{Talk}
use Rattle.chain_route.specs.declared.hop.Hop.{Hop}
use Rattle.chain_route.specs.Taking.{TakesAll}
use Rattle.channel_laws.proofs.TheLaws.{hears_the_end}
use Rattle.chain_quiet.proofs.Rest.Facts.{all_given, live_above, not_over}
use Rattle.chain_quiet.proofs.Rest.Marks.{unmarked_same}
use Rattle.chain_quiet.proofs.Rest.Meeting.{Meet, meet_at_rest, meet_free}
use Rattle.chain_quiet.proofs.Rest.Resting.{Rests}

module _ {T : Type 0} (s : Side T) (hop : Hop) (talk : Talk) (sends : IsReadable s) (hop_is : HopIsStill hop) (carries : HopCarries hop (end_of_side s) (agent_end talk))
    (still : IsStill (run_of s)) (opened : is_closed (run_of s).end.state ≡ false) where
  live : hop.is_live ≡ true
  live = live_above s hop (agent_end talk) carries still opened

  down : bytes_of talk.gave ≡ arrived s.calls
  down = carries.down live ∙ ap (λ outs. arrived s.calls ++ bytes_of outs) hop_is.down ∙ append-nil (arrived s.calls)

  lasting : IsLasting s
  lasting = record { formed = sends.formed; readable = sends.readable; lasting = (carries.lasting live).0 }

  -- a refused channel closes the end below it
  not_refused : talk.gave ≡ end_of_stream ∷ [] → ⊥
  not_refused refused =
      let came : arrived s.calls ≡ bytes_of (end_of_stream ∷ []) = sym down ∙ ap bytes_of refused in
      not_over (run_of s) still opened (hears_the_end s.hello s.mark s.calls [] true tt ([], sym came ∙ sym (append-nil (arrived s.calls))) refl came)

  module _ (a : Side Unit) (served : IsServed a talk) where
    up : bytes_of (run_of s).past.given ≡ bytes_of talk.got
    up = carries.up live served.channel.opened ∙ ap (λ outs. bytes_of talk.got ++ bytes_of outs) hop_is.up ∙ append-nil (bytes_of talk.got)

    agent_lasts : IsLasting a
    agent_lasts = record { formed = served.channel.sends.formed; readable = served.channel.sends.readable; lasting = sym served.channel.lost ∙ (carries.lasting live).1 }

    has : HasAll true s a
    has = record {
      given = served.still.queued;
      front = (carries.down_front.0, ap bytes_of (sym served.channel.gave) ∙ carries.down_front.1);
      came = λ opens. sym down ∙ ap bytes_of served.channel.gave;
      inbox = still.inbox;
      stop = still.stop;
    }

    agent_has : HasAll false a s
    agent_has =
        let same : unmarked (run_of s).past.given ≡ unmarked talk.got = unmarked_same (run_of s).past.given talk.got up in
        record {
          given = still.queued;
          front = (served.channel.front.0, same ∙ served.channel.front.1);
          came = λ opens. sym (served.channel.came opens) ∙ sym same;
          inbox = served.still.inbox;
          stop = served.still.stop;
        }

    pub meets : Meet false s a
    meets = record { lasting = lasting; others_last = agent_lasts; has = has; others_have = agent_has }

    pub takes_all : (said : List Spoken) → AreSpoken said → filter is_message talk.gave ≡ all_said said → TakesAll (run_of s) said
    takes_all said formed is =
        ((meet_at_rest false s a meets).first opened).taken said formed
        (ap (filter is_message) (sym (all_given a served.still) ∙ sym served.channel.gave) ∙ is)

  pub served_of : (hop.is_live ≡ true → IsServedOrRefused talk) → (a : Side Unit) × IsServed a talk
  served_of of = by_cases (of live)
    where
      by_cases : IsServedOrRefused talk → (a : Side Unit) × IsServed a talk
      by_cases (inl served) = served
      by_cases (inr refused) = absurd (not_refused refused)

pub last_rests : {T : Type 0} → (s : Side T) (hop : Hop) (talk : Talk) → IsReadable s → HopIsStill hop → HopCarries hop (end_of_side s) (agent_end talk)
    → (hop.is_live ≡ true → IsServedOrRefused talk) → Rests s [] talk
last_rests s hop talk sends hop_is carries of =
    let served = λ (still : IsStill (run_of s)) (opened : is_closed (run_of s).end.state ≡ false). served_of s hop talk sends hop_is carries still opened of in
    record {
      unstuck = record {
        adds = tt;
        free = λ still opened.
            let a = served still opened in
            meet_free false s a.0 (meets s hop talk sends hop_is carries still opened a.0 a.1) a.1.channel.answers opened;
        all_taken = λ still opened bound said formed is.
            let a = served still opened in
            (takes_all s hop talk sends hop_is carries still opened a.0 a.1 said formed is, tt);
      };
      greeted = λ still opened.
          let a = served still opened in
          ((meet_at_rest false s a.0 (meets s hop talk sends hop_is carries still opened a.0 a.1)).first opened).greeted;
    }
