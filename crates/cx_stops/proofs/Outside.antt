-- Parts of steps that may stop a run: where they do, it is at a place that they were given (ISO C99, 6.2.4 and 6.5.2.2).
use Rattle.std.proofs.Common.{ℕ, Bool, true, false, not, if◌then◌else◌, ℤ, List, [], ◌∷◌, Option, Some, None, Result, Ok, Err}
use Rattle.cr_base.specs.declared.refusal.Place.{Place}
use Rattle.cr_base.specs.declared.scalar.Scalar.{Scalar}
use Rattle.cr_world.specs.Known.{KnownFunction, known_named, Effect, gives, gives_nothing, ends_program, wants_block, fails, effect}
use Rattle.cr_world.specs.World.{World, Terms, open_ended, trail_of, astray, blocks_of, answer_at_end, answer_from, after_allocation, is_refused_by, is_of_store, granted_on, begun_at, limit_of, object_begun}
use Rattle.cx_core.specs.Trees.{unqualified, CObject, COuter}
use Rattle.cx_mean.specs.Accesses.{stored}
use Rattle.cx_mean.specs.Calls.{CCalled, arguments, values_of, wrong_at, with_answer, with_block, by_effect, call_by_table, external_call}
use Rattle.cx_mean.specs.Marks.{no_marks}
use Rattle.cx_mean.specs.Operands.{CWhy, CStop, needed, CValue, designates}
use Rattle.cx_mean.specs.Settings.{CSetting, extent_in, scalar_in_type}
use Rattle.cx_mean.specs.State.{no_place, shape_of, as_stop, object_begins, argument_stored, param_begins, static_begins}
use Rattle.ext_calls.specs.declared.call.Call.{Call}
use Rattle.mem_bytes.specs.Access.{and_then}
use Rattle.mem_bytes.specs.Counted.{after_alloc}
use Rattle.mem_bytes.specs.declared.fault.StoreFault.{StoreFault}
use Rattle.mem_bytes.specs.declared.fault.StoreFault.TheVariants.{Full, Memory}
use Rattle.mem_bytes.specs.declared.value.Value.TheVariants.{Object as Pointer}
use Rattle.mem_bytes.specs.Memory.{Blocks}
use Rattle.cx_stops.proofs.Standing.{EndStandsIn}

module _ (Among : ℕ → Type 0) where
  end_and : {A B : Type 0} (first : Result A CStop) (next : A → Result B CStop) → EndStandsIn Among first → ((value : A) → EndStandsIn Among (next value)) → EndStandsIn Among (and_then first next)
  end_and (Ok value) next is all = all value
  end_and (Err stop) next is all = is

  stop_stands : {A : Type 0} (place : Place) (outcome : Result A CWhy) → Among place.unit → EndStandsIn Among (as_stop place outcome)
  stop_stands place (Ok value) here = tt
  stop_stands place (Err why) here = here

  wrong_stands : {A : Type 0} (place : Place) (outcome : Result A CWhy) → Among place.unit → EndStandsIn Among (wrong_at place outcome)
  wrong_stands place (Ok value) here = tt
  wrong_stands place (Err why) here = here

  -- ---- lives of objects

  begun_at_stands : (is_zero : Bool) (size align : ℕ) (world : World) (outcome : Result Blocks StoreFault) → EndStandsIn Among (begun_at is_zero size align world outcome)
  begun_at_stands is_zero size align world (Ok blocks) = tt
  begun_at_stands is_zero size align world (Err (Full need left)) = tt
  begun_at_stands is_zero size align world (Err Memory) = tt

  object_stands : (is_zero : Bool) (size align : ℕ) (world : World) → EndStandsIn Among (object_begun is_zero size align world)
  object_stands is_zero size align world = begun_at_stands is_zero size align world (after_alloc (limit_of world.terms) (blocks_of world) size align)

  pub begins_stands : (setting : CSetting) (place : Place) (number : ℕ) (world : World) → Among place.unit → EndStandsIn Among (object_begins setting place number world)
  begins_stands setting place number world here =
      end_and (as_stop place (shape_of setting number)) _ (stop_stands place (shape_of setting number) here) (λ shape. object_stands false shape.laid.size shape.laid.align world)

  pub param_stands : (setting : CSetting) (place : Place) (number : ℕ) (value : CValue) (world : World) → Among place.unit → EndStandsIn Among (param_begins setting place number value world)
  param_stands setting place number value world here =
      end_and (object_begins setting place number world) (argument_stored setting place number value) (begins_stands setting place number world here) (λ got.
      end_and (as_stop place (shape_of setting number)) _ (stop_stands place (shape_of setting number) here) (λ shape.
      end_and (as_stop place (stored setting [] (blocks_of got.world) (unqualified shape.type) (designates (Pointer got.value)) value no_marks)) _
      (stop_stands place (stored setting [] (blocks_of got.world) (unqualified shape.type) (designates (Pointer got.value)) value no_marks) here) (λ one. tt)))

  pub static_stands : (setting : CSetting) (one : CObject) (world : World) → Among 0 → EndStandsIn Among (static_begins setting one world)
  static_stands setting one world here =
      end_and (as_stop no_place (needed (extent_in setting one.type))) _ (stop_stands no_place (needed (extent_in setting one.type)) here) (λ laid. object_stands true laid.size laid.align world)

  -- ---- calls of functions that no unit defines

  at_end_stands : (kind : Option Scalar) (call : Call) (terms : Terms) (world : World) → EndStandsIn Among (with_answer kind (answer_at_end terms call world))
  at_end_stands kind call open_ended world = tt
  at_end_stands kind call (trail_of limit) world = tt

  answer_stands : (kind : Option Scalar) (call : Call) (answers : List ℤ) (world : World) → EndStandsIn Among (with_answer kind (answer_from answers call world))
  answer_stands kind call [] world = at_end_stands kind call world.terms world
  answer_stands kind call (answer ∷ left) world = tt

  store_stands : (test refused : Bool) (is_zero : Bool) (size : ℕ) (left : List ℤ) (world : World)
      → EndStandsIn Among (with_block (if test then after_allocation (not refused) is_zero size left world else Err astray))
  store_stands true refused is_zero size left world = tt
  store_stands false refused is_zero size left world = tt

  granted_stands : (is_zero : Bool) (size : ℕ) (terms : Terms) (answers : List ℤ) (world : World) → EndStandsIn Among (with_block (granted_on terms answers is_zero size world))
  granted_stands is_zero size open_ended [] world = tt
  granted_stands is_zero size open_ended (answer ∷ left) world = tt
  granted_stands is_zero size (trail_of limit) [] world = tt
  granted_stands is_zero size (trail_of limit) (answer ∷ left) world =
      store_stands (is_of_store (is_refused_by limit world.held.blocks size) answer) (is_refused_by limit world.held.blocks size) is_zero size left world

  effect_stands : (place : Place) (world : World) (one : Effect) → Among place.unit → EndStandsIn Among (by_effect place world one)
  effect_stands place world (gives value held) here = tt
  effect_stands place world (gives_nothing held) here = tt
  effect_stands place world (ends_program status) here = tt
  effect_stands place world (wants_block is_zero size) here = granted_stands is_zero size world.terms world.answers world
  effect_stands place world (fails fault) here = here

  table_stands : (setting : CSetting) (called : CCalled) (callee : COuter) (world : World) (found : Option KnownFunction) → Among called.place.unit → EndStandsIn Among (call_by_table setting called callee world found)
  table_stands setting called callee world (Some known) here =
      end_and (wrong_at called.place (values_of called.args)) _ (wrong_stands called.place (values_of called.args) here) (λ args. effect_stands called.place world (effect known.does args world.held) here)
  table_stands setting called callee world None here =
      end_and (wrong_at called.place (arguments setting (blocks_of world) called.args)) _ (wrong_stands called.place (arguments setting (blocks_of world) called.args) here)
      (λ args. answer_stands (scalar_in_type setting called.type) (record { name = callee.name; args = args }) world.answers world)

  pub outside_stands : (setting : CSetting) (called : CCalled) (callee : COuter) (world : World) → Among called.place.unit → EndStandsIn Among (external_call setting called callee world)
  outside_stands setting called callee world here = table_stands setting called callee world (known_named callee.name) here
