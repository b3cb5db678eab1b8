-- The laws of readings, as terms.
use Rattle.command_tables.specs.ReadingLaws.{KnownAreReadable, ReadingsAreLegal}
use Rattle.command_tables.proofs.Readings.{known_readable, readings_legal}

pub readings_are_legal : ReadingsAreLegal
readings_are_legal = readings_legal

pub known_are_readable : KnownAreReadable
known_are_readable = known_readable
