use Rattle.std.proofs.Common.{◌≡◌, ◌∙◌, ap, rules}
use Rattle.command_tables.specs.Canonical.{body_of}
use Rattle.service_names.specs.Commands.{name_of, named_as, service_of}
use Rattle.command_tables.specs.Reading.{reading_of}
use Rattle.command_tables.proofs.ReadBack.{reads_back}
use Rattle.command_tables.proofs.writing.write_command.Goals as goal

pub returns-clause-reads_back : goal.returns-clause-reads_back
returns-clause-reads_back c =
    let service : c.in_ok-from_str.field-0 ≡ service_of (named_as c.args.command.now) = search rules in
    let name : c.in_ok-from_str-2.field-0 ≡ name_of (named_as c.args.command.now) = search rules in
    let body : c.put_arguments.new.out ≡ body_of c.args.command.now = search rules in
    ap (λ s. reading_of s c.in_ok-from_str-2.field-0 c.put_arguments.new.out) service
    ∙ (ap (λ n. reading_of (service_of (named_as c.args.command.now)) n c.put_arguments.new.out) name
    ∙ (ap (reading_of (service_of (named_as c.args.command.now)) (name_of (named_as c.args.command.now))) body
    ∙ reads_back c.args.command.now c.requires c.in_ok-put_arguments.ensures.reads c.in_ok-put_arguments.ensures.decodes))
