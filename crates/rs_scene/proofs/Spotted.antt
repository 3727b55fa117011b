-- Places of fields, and of what pointers point to.
use Rattle.std.proofs.Common.{◌≡◌, refl, sym, ap, subst, arith, ℕ, pos, ◌==◌, Bool, List, [], ◌∷◌, length, map, Option, Some, None, option_map, unwrap_or, Result, Ok, Err}
use Rattle.std.proofs.lemmas.Bool.Decides.{nat_tests}
use Rattle.mem_bytes.specs.Memory.{Block, Blocks, state_of}
use Rattle.mem_bytes.specs.Pointers.{moved}
use Rattle.mem_bytes.specs.declared.value.Value.{Value}
use Rattle.rs_mean.specs.declared.cause.Cause.{Cause}
use Rattle.rs_mean.specs.declared.cause.Cause.TheVariants.{WrongCall}
use Rattle.rs_mean.specs.Calls.{Spot, based, in_block}
use Rattle.rs_mean.specs.Run.{field_spot, is_base, spot_of_field, spot_of_pointer}
use Rattle.rs_mean.specs.Values.{typed}
use Rattle.rs_mean.specs.World.{or_cause, cause_of_pointer}
use Rattle.rs_text.specs.Tree.{Ty, Integer, Boolean, Void, Pointer, Array, Code, Record, ModuleTree, tys}
use Rattle.rs_tree.specs.declared.item.Local.{Local}
use Rattle.rs_tree.specs.declared.ty.RTy.{RTy}
use Rattle.rs_tree.specs.Views.{local_view, ty_view}
use Rattle.rs_layout.specs.Places.{place_view}
use Rattle.rs_layout.specs.declared.places.PlacedField.{PlacedField}
use Rattle.rs_machine.specs.Does.{gives, stops, went_wrong}
use Rattle.rs_machine.specs.States.{state}
use Rattle.rs_machine.specs.Steps.{LookDoes}
use Rattle.rs_machine.proofs.Outgoing.{looked_gives, looked_fails}
use Rattle.rs_machine.proofs.Rules.{fails_does}
use Rattle.rs_scene.specs.Calls.{IsRecordOf, params_alike}
use Rattle.rs_scene.specs.Places.{IsTargetOf, in_state}

pub no_field : (is_based : Bool) (at : Value) (found : Option PlacedField) (blocks : Blocks) → found ≡ None →
    LookDoes (field_spot is_based at (option_map place_view found)) (stops (went_wrong WrongCall)) blocks
no_field is_based at None blocks is = λ kept limit host. fails_does WrongCall (state kept blocks limit host)
no_field is_based at (Some place) blocks is = absurd cc

field_gives : (is_based : Bool) (at value : Value) (place : PlacedField) (blocks : Blocks) → Ok value ≡ or_cause cause_of_pointer (moved blocks at (pos place.byte)) →
    LookDoes (field_spot is_based at (Some (place_view place))) (gives (based is_based (ty_view place.ty.now) value)) blocks
field_gives is_based at value place blocks is = λ kept limit host.
    looked_gives _ (based is_based (ty_view place.ty.now) value) (state kept blocks limit host) (rw (← is) refl)

field_fails : (is_based : Bool) (at : Value) (why : Cause) (place : PlacedField) (blocks : Blocks) → Err why ≡ or_cause cause_of_pointer (moved blocks at (pos place.byte)) →
    LookDoes (field_spot is_based at (Some (place_view place))) (stops (went_wrong why)) blocks
field_fails is_based at why place blocks is = λ kept limit host. looked_fails _ why (state kept blocks limit host) (rw (← is) refl)

pub some_field : (is_based : Bool) (at value : Value) (found : Option PlacedField) (place : PlacedField) (blocks : Blocks) → found ≡ Some place →
    Ok value ≡ or_cause cause_of_pointer (moved blocks at (pos place.byte)) →
    LookDoes (field_spot is_based at (option_map place_view found)) (gives (based is_based (ty_view place.ty.now) value)) blocks
some_field is_based at value found place blocks is moves =
    subst (λ (one : Option PlacedField). LookDoes (field_spot is_based at (option_map place_view one)) (gives (based is_based (ty_view place.ty.now) value)) blocks) (sym is)
    (field_gives is_based at value place blocks moves)

pub wrong_field : (is_based : Bool) (at : Value) (why : Cause) (found : Option PlacedField) (place : PlacedField) (blocks : Blocks) → found ≡ Some place →
    Err why ≡ or_cause cause_of_pointer (moved blocks at (pos place.byte)) →
    LookDoes (field_spot is_based at (option_map place_view found)) (stops (went_wrong why)) blocks
wrong_field is_based at why found place blocks is moves =
    subst (λ (one : Option PlacedField). LookDoes (field_spot is_based at (option_map place_view one)) (stops (went_wrong why)) blocks) (sym is)
    (field_fails is_based at why place blocks moves)

pub not_record : (modules : List ModuleTree) (f : List ℕ) (is_based : Bool) (ty : Ty) (at : Value) (blocks : Blocks) → IsRecordOf None ty →
    LookDoes (spot_of_field modules f (based is_based ty at)) (stops (went_wrong WrongCall)) blocks
not_record modules f is_based (Integer ty) at blocks is = λ kept limit host. fails_does WrongCall (state kept blocks limit host)
not_record modules f is_based Boolean at blocks is = λ kept limit host. fails_does WrongCall (state kept blocks limit host)
not_record modules f is_based Void at blocks is = λ kept limit host. fails_does WrongCall (state kept blocks limit host)
not_record modules f is_based (Pointer target) at blocks is = λ kept limit host. fails_does WrongCall (state kept blocks limit host)
not_record modules f is_based (Array element size) at blocks is = λ kept limit host. fails_does WrongCall (state kept blocks limit host)
not_record modules f is_based (Code params result) at blocks is = λ kept limit host. fails_does WrongCall (state kept blocks limit host)
not_record modules f is_based (Record m x) at blocks is = absurd is

-- ---- what a pointer points to

-- what is told of a block, and the block itself
pub in_state_is : (align offset : ℕ) (got : Option (Option Block)) → in_state align offset (option_map state_of got) ≡ in_block align offset (unwrap_or got None)
in_state_is align offset None = refl
in_state_is align offset (Some None) = refl
in_state_is align offset (Some (Some block)) = refl

abbrev as_spot : Spot → Result Spot Cause
as_spot place = Ok place

pub points_to : (modules : List ModuleTree) (ty target : Ty) (at : Value) (is_based : Bool) (blocks : Blocks) → ty ≡ Pointer target →
    is_based ≡ is_base modules blocks target at →
    LookDoes (spot_of_pointer modules (typed ty at)) (gives (based is_based target at)) blocks
points_to modules ty target at is_based blocks is base =
    subst (λ (one : Ty). LookDoes (spot_of_pointer modules (typed one at)) (gives (based is_based target at)) blocks) (sym is)
    (λ kept limit host. looked_gives (λ held. Ok (based (is_base modules held.blocks target at) target at)) (based is_based target at)
    (state kept blocks limit host) (ap (λ (one : Bool). as_spot (based one target at)) (sym base)))

pub not_pointer : (modules : List ModuleTree) (ty : Ty) (at : Value) (blocks : Blocks) → IsTargetOf None ty →
    LookDoes (spot_of_pointer modules (typed ty at)) (stops (went_wrong WrongCall)) blocks
not_pointer modules (Integer ty) at blocks is = λ kept limit host. fails_does WrongCall (state kept blocks limit host)
not_pointer modules Boolean at blocks is = λ kept limit host. fails_does WrongCall (state kept blocks limit host)
not_pointer modules Void at blocks is = λ kept limit host. fails_does WrongCall (state kept blocks limit host)
not_pointer modules (Record m x) at blocks is = λ kept limit host. fails_does WrongCall (state kept blocks limit host)
not_pointer modules (Array element size) at blocks is = λ kept limit host. fails_does WrongCall (state kept blocks limit host)
not_pointer modules (Code params result) at blocks is = λ kept limit host. fails_does WrongCall (state kept blocks limit host)
not_pointer modules (Pointer target) at blocks is = absurd is

-- ---- signatures

pub no_params : (params : List Local) (types : List RTy) → length params ≡ 0 →
    (length types == 0) ≡ params_alike (map (λ param. param.ty) (map local_view params)) (tys (map ty_view types))
no_params [] [] is = refl
no_params [] (one ∷ types) is = grind (arith, nat_tests)
no_params (one ∷ params) types is = absurd (omega (arith, is))
