-- What the messages teach is what is taught by the history.
use Rattle.std.proofs.Common.{◌≡◌, ℕ, List, [], ◌∷◌, map, Option, Some, refl, ap, ap₂, sym, ◌∙◌}
use Rattle.std.specs.Prelude.{codes, option_and_then}
use Rattle.std.specs.List.{AllByRecursion}
use Rattle.channel_core.specs.Wire.{hello, locator}
use Rattle.chain_told.specs.Told.{command_under, lessons}
use Rattle.command_tables.specs.Reading.{reading_of}
use Rattle.command_tables.specs.declared.reading.Reading.{Reading}
use Rattle.command_tables.specs.declared.reading.Reading.TheVariants as readings
use Rattle.knowledge.specs.Facts.{Facts}
use Rattle.knowledge.specs.Learning.{Message, learn, learn_all}
use Rattle.target_contexts.specs.declared.process.Image.{Image}
use Rattle.list_laws.specs.Fronts.{IsFront}
use Rattle.list_laws.proofs.Fronts.{front_first, front_rest, no_front}
use Rattle.target_hub.specs.Sent.{ReadCommand, Told, event_at, final_at, hello_at, progress_at, unknown_at}
use Rattle.target_hub.specs.declared.input.Input.{Input}
use Rattle.target_truth.specs.Taught.{event_message, final_message, taught}
use Rattle.value_node.specs.Asked.{Asked}
use Rattle.value_node.specs.Barriers.{command_in}
use Rattle.value_node.specs.Deeds.{command_asked}
use Rattle.value_node.specs.Store.{lesson_of}
use Rattle.chain_told.specs.Sent.{read_as}
use Rattle.chain_told.proofs.Agents.Answering.{Come}
use Rattle.chain_told.proofs.Agents.Numbered.{IsFound}
use Rattle.chain_told.proofs.Agents.Saying.{spoken}

pub locator_is : locator ≡ codes "Locator"
unfolding locator
locator_is = refl

pub hello_is : hello ≡ codes "Hello"
unfolding hello
hello_is = refl

pub hello_taught : (body : List ℕ) → event_message locator hello body ≡ event_message (codes "Locator") (codes "Hello") body
hello_taught body = ap₂ (λ service name. event_message service name body) locator_is hello_is

answer_taught : (reading : Reading) (body : List ℕ) → lesson_of (command_in reading) body ≡ final_message (Some reading) body
answer_taught (readings.Known command) body = refl
answer_taught readings.Unknown body = refl
answer_taught (readings.Bad index code) body = refl

-- of a command that is found, which was executed
final_taught : (all : List Asked) (c : Asked) (a : ReadCommand) (body : List ℕ) → IsFound all c → a ≡ read_as c
    → lesson_of (option_and_then command_asked (command_under c.token all)) body ≡ final_message (Some a.reading) body
final_taught all c a body found same =
    ap (λ (o : Option Asked). lesson_of (option_and_then command_asked o) body) found
    ∙ answer_taught (reading_of c.service c.name c.body) body
    ∙ ap (λ (b : ReadCommand). final_message (Some b.reading) body) (sym same)

pub learned_same : (images : List Image) (history : List Input) (all : List Asked) (told : List Told) (left : List Asked) (asked : List ReadCommand) (known : Facts)
    → AllByRecursion (IsFound all) left → IsFront asked (map read_as left) → Come images history asked told
    → learn_all (lessons all (spoken left told)) known ≡ learn_all (taught asked told) known
learned_same images history all [] left asked known found front come = refl
learned_same images history all (hello_at place body ∷ told) left asked known found front come =
    ap (λ (m : Message). learn_all (lessons all (spoken left told)) (learn m known)) (hello_taught body)
    ∙ learned_same images history all told left asked (learn (event_message (codes "Locator") (codes "Hello") body) known) found front come.1
learned_same images history all (event_at place service name body ∷ told) left asked known found front come =
    learned_same images history all told left asked (learn (event_message service name body) known) found front come.1
learned_same images history all (progress_at place body ∷ told) left asked known found front come = learned_same images history all told left asked known found front come.1
learned_same images history all (final_at place through body ∷ told) left [] known found front come = absurd come.0.1
learned_same images history all (final_at place through body ∷ told) [] (a ∷ asked) known found front come = absurd (no_front a asked front)
learned_same images history all (final_at place through body ∷ told) (c ∷ left) (a ∷ asked) known found front come =
    ap (λ (m : Message). learn_all (lessons all (spoken left told)) (learn m known)) (final_taught all c a body found.0 (front_first a (read_as c) asked (map read_as left) front))
    ∙ learned_same images history all told left asked (learn (final_message (Some a.reading) body) known) found.1 (front_rest a (read_as c) asked (map read_as left) front) come.1
learned_same images history all (unknown_at place through ∷ told) left [] known found front come = absurd come.0.1
learned_same images history all (unknown_at place through ∷ told) [] (a ∷ asked) known found front come = absurd (no_front a asked front)
learned_same images history all (unknown_at place through ∷ told) (c ∷ left) (a ∷ asked) known found front come =
    learned_same images history all told left asked known found.1 (front_rest a (read_as c) asked (map read_as left) front) come.1
