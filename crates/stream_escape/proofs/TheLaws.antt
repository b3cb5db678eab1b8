-- The laws of streams, as terms.
use Rattle.stream_escape.specs.Laws.{ArePiecesOne, BeginsBetween, EachGoesOn, EscapesBringNothing, LastBytesBringTheEnd, LastPartsBringMessages, NotBoth, OneFault, OneReading, PartsBringNothing}
use Rattle.stream_escape.proofs.Onward as onward
use Rattle.stream_escape.proofs.Parts as parts
use Rattle.stream_escape.proofs.Readings as readings

pub one_reading : OneReading
one_reading = readings.one

pub one_fault : OneFault
one_fault = readings.one_refusal

pub not_both : NotBoth
not_both = readings.not_both

pub each_goes_on : EachGoesOn
each_goes_on = onward.each_goes_on

pub pieces_are_one : ArePiecesOne
pieces_are_one = parts.are_pieces_one

pub begins_between : BeginsBetween
begins_between = parts.begins_between

pub parts_bring_nothing : PartsBringNothing
parts_bring_nothing = parts.parts_bring_nothing

pub last_parts_bring_messages : LastPartsBringMessages
last_parts_bring_messages = parts.last_parts_bring_messages

pub escapes_bring_nothing : EscapesBringNothing
escapes_bring_nothing = parts.escapes_bring_nothing

pub last_bytes_bring_the_end : LastBytesBringTheEnd
last_bytes_bring_the_end = parts.last_bytes_bring_the_end
