-- Which signature a held one is.
use Rattle.std.specs.Prelude.{List, [], ◌∷◌, map, option_map, Option, Some, None}
use Rattle.rs_text.specs.Tree.{Ty}
use Rattle.rs_tree.specs.Views.{ty_view, local_view}
use Rattle.rs_mean.specs.Lookups.{Signature}
use Rattle.rs_kinds.specs.declared.signature.HeldParams.{HeldParams}
use Rattle.rs_kinds.specs.declared.signature.HeldParams.TheVariants as held
use Rattle.rs_kinds.specs.declared.signature.HeldSignature.{HeldSignature}
use Rattle.rs_kinds.specs.declared.signature.ParamAhead.{ParamAhead}

abbrev pub params_view : HeldParams → List Ty
params_view (held.Types params) = map ty_view params.now
params_view (held.Locals params) = map (λ param. param.ty) (map local_view params.now)

abbrev pub signature_view : HeldSignature → Signature
signature_view signature = record {
  params = params_view signature.params;
  variadic = signature.variadic;
  result = option_map ty_view signature.given.now;
}

-- the type of the first parameter, and those behind it
pub record FirstParam : Type 0 where
  pub ty : Ty
  pub others : List Ty

abbrev pub ahead_view : ParamAhead → FirstParam
ahead_view ahead = record { ty = ty_view ahead.ty.now; others = params_view ahead.others }

abbrev pub first_param : List Ty → Option FirstParam
first_param [] = None
first_param (ty ∷ types) = Some (record { ty = ty; others = types })
