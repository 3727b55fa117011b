-- What is mentioned where a name is used in an expression.
use Rattle.std.specs.Prelude.{ℕ, List, Option, None, Some, option_map}
use Rattle.std.specs.Option.{option_and_then}
use Rattle.cr_base.specs.declared.refusal.Place.{Place}
use Rattle.cx_core.specs.declared.program.Linkage.{Linkage}
use Rattle.cx_core.specs.declared.program.Linkage.TheVariants.{External, Internal, Nothing}
use Rattle.cx_core.specs.Trees.{CTy, CMention, uses}
use Rattle.cx_core.specs.Views.{view_type}
use Rattle.cx_rules.specs.Scope.{CMeant, an_object, a_function, a_type_name, an_enumerator, a_tag, CScope, with_mention}
use Rattle.cx_scope.specs.declared.mentions.Used.{Used}

-- what has linkage, as its use mentions it
pub record CUsed : Type 0 where
  pub type : CTy
  pub linkage : Linkage

abbrev pub view_used : Used → CUsed
view_used used = record { type = view_type used.ty.now; linkage = used.linkage }

-- an object, where it has external linkage
abbrev pub used_object : CTy → Linkage → Option CUsed
used_object type External = Some (record { type = type; linkage = External })
used_object type Internal = None
used_object type Nothing = None

abbrev pub used_as : CMeant → Option CUsed
used_as (an_object object type is_register linkage) = used_object type linkage
used_as (a_function function type linkage) = Some (record { type = type; linkage = linkage })
used_as (a_type_name type) = None
used_as (an_enumerator value) = None
used_as (a_tag is_record is_open number) = None

abbrev pub use_at : Place → List ℕ → CUsed → CMention
use_at place name one = record { name = name; place = place; type = one.type; linkage = one.linkage; does = uses }

-- the mention that the use of a name with a meaning is
abbrev pub use_of : Place → List ℕ → Option CMeant → Option CMention
use_of place name meant = option_map (use_at place name) (option_and_then used_as meant)

abbrev pub with_use : Option CMention → CScope → CScope
with_use None scope = scope
with_use (Some one) scope = with_mention one scope
