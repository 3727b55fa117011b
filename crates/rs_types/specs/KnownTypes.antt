-- Which known function and type of one each declared value is.
use Rattle.std.specs.Prelude.{true, false, List, [], ◌∷◌, map, codes}
use Rattle.cr_world.specs.Known.{KnownFunction, KnownType, known, allocates, frees, copies, fills, exits, aborts, no_value, int_value, size_value, to_bytes, to_const_bytes}
use Rattle.rs_types.specs.declared.known.Known.{Known}
use Rattle.rs_types.specs.declared.known.Known.TheVariants as name
use Rattle.rs_types.specs.declared.known.ParamTy.{ParamTy}
use Rattle.rs_types.specs.declared.known.ParamTy.TheVariants as ty

abbrev pub known_view : Known → KnownFunction
known_view name.Malloc = known (codes "malloc") (allocates false) to_bytes (size_value ∷ [])
known_view name.Calloc = known (codes "calloc") (allocates true) to_bytes (size_value ∷ size_value ∷ [])
known_view name.Free = known (codes "free") frees no_value (to_bytes ∷ [])
known_view name.Memcpy = known (codes "memcpy") (copies false) to_bytes (to_bytes ∷ to_const_bytes ∷ size_value ∷ [])
known_view name.Memmove = known (codes "memmove") (copies true) to_bytes (to_bytes ∷ to_const_bytes ∷ size_value ∷ [])
known_view name.Memset = known (codes "memset") fills to_bytes (to_bytes ∷ int_value ∷ size_value ∷ [])
known_view name.Exit = known (codes "exit") exits no_value (int_value ∷ [])
known_view name.Abort = known (codes "abort") aborts no_value []

abbrev pub param_view : ParamTy → KnownType
param_view ty.Int = int_value
param_view ty.Size = size_value
param_view ty.Bytes = to_bytes
param_view ty.ConstBytes = to_const_bytes

abbrev pub params_view : List ParamTy → List KnownType
params_view types = map param_view types
