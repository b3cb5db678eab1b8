-- What a line asks of a cache, as the code reads it.
use Rattle.cached_lines.specs.declared.says.CachedSays.{CachedSays}
use Rattle.cached_lines.specs.declared.says.CachedSays.TheVariants.{Context, State, Register, Properties, Status, Bytes}
use Rattle.cached_lines.specs.declared.what.CachedWhat.{CachedWhat}
use Rattle.cached_lines.specs.declared.what.CachedWhat.TheVariants.{Context as a_context, State as a_state, Register as a_register, Properties as the_properties, Status as a_status, Bytes as some_bytes}

-- what is asked, with the ID that stands in the line
abbrev pub cached_said : CachedSays → CachedWhat
cached_said (Context id) = a_context id.now
cached_said (State id) = a_state id.now
cached_said (Register id) = a_register id.now
cached_said (Properties id) = the_properties id.now
cached_said (Status id) = a_status id.now
cached_said (Bytes id addr size) = some_bytes id.now addr size
