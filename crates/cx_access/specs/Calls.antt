-- What the calls of accesses take and give.
use Rattle.cx_access.specs.declared.kinds.Kind.{Kind}
use Rattle.cx_access.specs.declared.kinds.Kind.TheVariants as kept
use Rattle.mem_bytes.specs.Coding.{IsScalar}

-- a scalar type of the profile, or any record
abbrev pub IsKind : Kind → Type 0
IsKind (kept.Scalar kind) = IsScalar kind
IsKind (kept.Record laid) = Unit {0}
