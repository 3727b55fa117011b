-- Calls of functions that no unit defines give typed values in a typed memory, and are never stuck (ISO C99, 6.5.2.2 and 7).
use Rattle.std.proofs.Common.{◌≡◌, Option, Some, None, option_map, refl, ap, subst, ◌∙◌}
use Rattle.cr_world.specs.Known.{KnownFunction, known_named}
use Rattle.cr_world.specs.World.{World, blocks_of}
use Rattle.cx_core.specs.Externals.{CKnown, HasSignature, IsOpaque, IsExternalType}
use Rattle.cx_core.specs.Trees.{CTyForm, form_of_type, CTypes, COuter, CProgram}
use Rattle.cx_mean.specs.Calls.{external, CCalled, call_by_table}
use Rattle.cx_mean.specs.Settings.{setting_of}
use Rattle.cx_typed_work.specs.ExternalCalls.{CallLeaves, ExternalCallsGiveTyped}
use Rattle.cx_typed_work.proofs.KnownCalls.{typed_row, known_row, known_as_is, known_leaves}
use Rattle.cx_typed_work.proofs.OpaqueCalls.{opaque_leaves}
use Rattle.cx_typed_work.specs.Calls.{FitsCallee, IsTypedCall}
use Rattle.cx_typed_work.specs.Scenes.{IsTypedMemory}

-- the type of an external function, by what the profile has of its name
abbrev IsTypeBy : CTypes → CTyForm → Option CKnown → Type 0
IsTypeBy types form (Some one) = HasSignature one.signature form
IsTypeBy types form None = IsOpaque types form

type_by : (types : CTypes) (name : _) (form : CTyForm) (found : Option KnownFunction) → known_named name ≡ found → IsExternalType types name form → IsTypeBy types form (option_map typed_row found)
type_by types name form found e is = subst (IsTypeBy types form) (known_as_is name ∙ ap (option_map typed_row) e) is

outer_leaves : (program : CProgram) (called : CCalled) (callee : COuter) (world : World) (one : IsTypedCall program called) (found : Option KnownFunction) → known_named callee.name ≡ found → FitsCallee program.types one.visible called.args (external callee)
    → IsTypedMemory program (blocks_of world) → CallLeaves program called.type world.held (call_by_table (setting_of program) called callee world found)
outer_leaves program called callee world one (Some row) e served memory =
    known_leaves program called row world (form_of_type one.visible) (known_row callee.name row e) (type_by program.types callee.name (form_of_type one.visible) (Some row) e served.0) one.called_as memory
outer_leaves program called callee world one None e served memory =
    opaque_leaves program called callee world (form_of_type one.visible) (type_by program.types callee.name (form_of_type one.visible) None e served.0) served.1 one.called_as memory

pub external_calls_give_typed : ExternalCallsGiveTyped
external_calls_give_typed program called callee world one callee_is memory =
    outer_leaves program called callee world one (known_named callee.name) refl (subst (FitsCallee program.types one.visible called.args) callee_is one.served) memory
