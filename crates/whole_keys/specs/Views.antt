-- What the values of the declared types stand for.
use Rattle.whole_keys.specs.declared.calls.NamedCall.{NamedCall}
use Rattle.whole_keys.specs.declared.key.NameKey.{NameKey}
use Rattle.whole_keys.specs.declared.key.NameKey.TheVariants.{Function, Object, Record, Calloc, BareFunction}
use Rattle.whole_names.specs.Calls as calls
use Rattle.whole_names.specs.Keys as keys

abbrev pub view_call : NamedCall → calls.NamedCall
view_call one = record { callee = one.callee; is_bare = one.is_bare }

abbrev pub view_key : NameKey → keys.NameKey
view_key (Function number) = keys.a_function number
view_key (Object number) = keys.an_object number
view_key (Record number) = keys.a_record number
view_key Calloc = keys.a_calloc
view_key (BareFunction number) = keys.a_bare_function number
