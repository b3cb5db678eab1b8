-- One who hears some of what a target tells a channel, behind a hub, knows what is true.
use Rattle.std.proofs.Common.{◌≡◌, ℕ, ◌<◌, ◌^◌, List, [], ◌∷◌, ◌++◌, length, map, Option, refl, sym, ap, subst, ◌∙◌}
use Rattle.std.specs.List.{flat_map}
use Rattle.std.proofs.lemmas.List.{append_assoc}
use Rattle.agent_node.specs.AgentLaws.{messages_told}
use Rattle.knowledge.specs.Facts.{nothing}
use Rattle.knowledge.specs.Learning.{learn_all, learned}
use Rattle.target_contexts.specs.declared.process.Image.{Image}
use Rattle.target_hub.specs.History.{IsLegal}
use Rattle.target_hub.specs.declared.input.Input.{Input}
use Rattle.target_truth.specs.Typed.{AreTyped}
use Rattle.tcf_message.specs.Message.{MessageValue}
use Rattle.list_laws.specs.Fronts.{IsFront}
use Rattle.target_hub.specs.Fresh.{target_at}
use Rattle.target_hub.specs.Sent.{ReadCommand, Told, executed_on, sent}
use Rattle.target_truth.specs.Holds.{Holds}
use Rattle.target_truth.specs.Listening.{Hears, left_after}
use Rattle.target_truth.proofs.TheLaws.{later_listeners_know_truth}
use Rattle.hub_truth.proofs.Listened.{At, heard}
use Rattle.hub_node.specs.Deeds.{Asked}
use Rattle.hub_node.specs.HubLaws.{is_of}
use Rattle.hub_truth.specs.HubTruth.{read_as, tokens_from}
use Rattle.hub_truth.proofs.Listened.{Covers, taught_to, waiting_after}
use Rattle.hub_truth.proofs.Behind.{covers_behind, covers_front, covers_sent, more_commands}
use Rattle.hub_truth.proofs.Fronts.{each_front}
use Rattle.hub_truth.proofs.Nothing.{nothing_holds}
use Rattle.hub_truth.proofs.Parts.{behind, front_behind, last_of, split}
use Rattle.hub_truth.proofs.Passed.{bridge}

-- A hub sent these commands above, of which the channel executes a front, and took a front of what the history tells the
-- channel. Behind some of it, the Hello at the least, it passes the rest on to a channel that is open then. Then what is
-- learned there of each front of what it is sent is true at the last position in it.
pub listeners_behind_a_hub_know_truth : (images : List Image) (history : List Input) → IsLegal images history → AreTyped images
    → (k : ℕ) (commands : List Asked) → length commands < 10 ^ 64 → IsFront (executed_on k history) (map read_as commands)
    → (one : MessageValue × Option ℕ) (before taken unheard : List (MessageValue × Option ℕ))
    → messages_told (tokens_from 1 commands) (sent images k history) ≡ (before ++ one ∷ []) ++ (taken ++ unheard)
    → (j : ℕ) (first rest : List At) (last : At) → flat_map (taught_to j commands) taken ≡ first ++ last ∷ rest
    → Holds (learned (map (λ at. at.message) (first ++ last ∷ []))) (target_at images history last.position)
listeners_behind_a_hub_know_truth images history legal typed k commands few executes one before taken unheard is j first rest last taught =
    let told = sent images k history in
    let asked = executed_on k history in
    let s = split told (tokens_from 1 commands) (before ++ one ∷ []) (taken ++ unheard) is in
    let l = last_of s.front (tokens_from 1 commands) before one s.first in
    let b = behind s.front commands [] commands 1 (tokens_from 1 commands) refl refl refl in
    let left = waiting_after s.front commands in
    let t = split s.back _ taken unheard s.later in
    let parts : told ≡ s.front ++ (t.front ++ t.back) = s.parts ∙ ap (λ (l : List Told). s.front ++ l) t.parts in
    let awaited = left_after s.front asked in
    let f = front_behind s.front asked commands executes in
    let covers : Covers awaited t.front = covers_front t.front t.back awaited (covers_behind s.front (t.front ++ t.back) asked (subst (Covers asked) parts (covers_sent images k history))) in
    let owns = map (is_of j) left in
    let all : heard owns awaited t.front ≡ first ++ last ∷ rest =
    sym (more_commands t.front owns awaited f.0 covers)
    ∙ ap (λ (cs : List ReadCommand). heard owns cs t.front) (sym f.1)
    ∙ sym (bridge j commands few t.front b.before left b.number b.parts b.counts)
    ∙ ap (λ names. flat_map (taught_to j commands) (messages_told names t.front)) (sym b.tokens)
    ∙ ap (λ messages. flat_map (taught_to j commands) messages) t.first
    ∙ taught in
    let h = each_front owns awaited t.front first rest last all in
    let messages = map (λ (at : At). at.message) (first ++ last ∷ []) in
    let heard_so : Hears (left_after (l.earlier ++ l.begin ∷ []) asked) (h.front ++ h.final ∷ []) messages =
    subst (λ (front : List Told). Hears (left_after front asked) (h.front ++ h.final ∷ []) messages) l.is h.hears in
    let whole : told ≡ l.earlier ++ l.begin ∷ (h.front ++ h.final ∷ (h.rest ++ t.back)) =
    parts
    ∙ ap (λ (front : List Told). front ++ (t.front ++ t.back)) l.is
    ∙ append_assoc l.earlier (l.begin ∷ []) (t.front ++ t.back)
    ∙ ap (λ (more : List Told). l.earlier ++ l.begin ∷ more) (ap (λ (front : List Told). front ++ t.back) h.parts ∙ append_assoc h.front (h.final ∷ h.rest) t.back) in
    subst (λ p. Holds (learn_all messages nothing) (target_at images history p)) (sym h.position)
    (later_listeners_know_truth images history legal typed k l.earlier h.front (h.rest ++ t.back) l.begin h.final whole nothing (nothing_holds _) messages heard_so)
