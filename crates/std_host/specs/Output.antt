-- What calls of the functions that the standard host knows write.
use Rattle.std.specs.Prelude.{ℕ, List, [], ◌∷◌, Option, Some, option_map}
use Rattle.ext_calls.specs.declared.call.Call.{Call}
use Rattle.std_host.specs.Effects.{effect_of, written_by}
use Rattle.std_host.specs.Formats.{joined}

-- the bytes that one call writes, or none where the host doesn't take it
abbrev pub output_of : Call → Option (List ℕ)
output_of call = option_map written_by (effect_of call)

-- the bytes that calls write, one behind the other; none where the host doesn't take one of them
abbrev pub out_of : List Call → Option (List ℕ)
out_of [] = Some []
out_of (call ∷ calls) = joined (output_of call) (out_of calls)
