-- A function that was called takes its arguments: each parameter begins with its argument in it, and then the body is reached (ISO C99,
-- 6.5.2.2p4, 6.9.1p10).
use Rattle.std.proofs.Common.{◌≡◌, ◌≢◌, inl, refl, sym, ap, ◌∙◌, subst, ℕ, zero, suc, ◌<◌, ◌≤◌, ◌==◌, nat_le, Bool, true, false, if◌then◌else◌, List, [], ◌∷◌, ◌++◌, length, Option, Some, None, IfSome, IsSome, Result, Ok, Err, arith, append_assoc}
use Rattle.std.proofs.lemmas.Bool.{leb-true}
use Rattle.std.proofs.lemmas.List.{append-nil, length-replicate}
use Rattle.std.specs.List.{Contains}
use Rattle.std.specs.Option.{option_and_then}
use Rattle.cr_base.specs.declared.layout.Laid.{Laid}
use Rattle.cr_base.specs.declared.refusal.Place.{Place}
use Rattle.cr_base.specs.Layout.{most_bytes as most_laid}
use Rattle.cr_world.specs.Held.{with_blocks, with_block, next_place, fresh_block}
use Rattle.cr_world.specs.Laws.{HeapLives}
use Rattle.cr_world.specs.World.{World, blocks_of, with_memory, begun_at, object_begun, limit_of, full, astray}
use Rattle.cx_core.specs.Layouts.{whole_extent, within_most, layouts_of}
use Rattle.cx_core.specs.Linked.{IsLinked, IsTypedFunction, IsTypedObject, home_of}
use Rattle.cx_core.specs.Statements.{IsDefinition, IsDefinitionOf, IsParamObject, AreParams, AreParamsOf}
use Rattle.cx_core.specs.Trees.{CTy, ty, void, basic, enum_type, pointer, array, record_type, function, CParams, unlisted, listed, CTys, no_types, more_types, unqualified, CObject, CFun, CProgram}
use Rattle.cx_core.specs.Typing.{CHome, object_with}
use Rattle.cx_core.specs.ValidTypes.{IsTypeIn, IsComplete, AreTypes}
use Rattle.cx_mean.specs.Accesses.{CStored, stored}
use Rattle.cx_mean.specs.Marks.{no_marks}
use Rattle.cx_mean.specs.Operands.{CWhy, breaks, stuck, needed, CStop, stops, CValue, scalar, cells, names, designates, designates_bits, missing, Frame}
use Rattle.cx_mean.specs.Settings.{setting_of, extent_in}
use Rattle.cx_mean.specs.State.{CTaking, CState, at_control, stopped, taking, as_stop, CShape, shape_of, slot, argument_stored, after_param, place_of_body, take_step}
use Rattle.mem_bytes.specs.Access.{and_then}
use Rattle.mem_bytes.specs.Counted.{after_alloc}
use Rattle.mem_bytes.specs.declared.fault.StoreFault.{StoreFault}
use Rattle.mem_bytes.specs.declared.fault.StoreFault.TheVariants.{Full, Memory}
use Rattle.mem_bytes.specs.declared.value.Ptr.{Ptr}
use Rattle.mem_bytes.specs.declared.value.Value.TheVariants.{Object as Pointer}
use Rattle.mem_bytes.specs.Memory.{Blocks, unset_cell, new_block}
use Rattle.cx_typed_values.specs.Outcomes.{Comes}
use Rattle.cx_typed_values.specs.Values.{most_bytes}
use Rattle.cx_typed_work.proofs.Accesses.{IsAccess}
use Rattle.cx_typed_work.proofs.MemberValues.{access_by}
use Rattle.cx_typed_work.proofs.Memories.{typed_replicate}
use Rattle.cx_typed_work.proofs.Stores.{IsStoredOf, store_comes}
use Rattle.cx_typed_work.specs.Operands.{IsValueOfType}
use Rattle.cx_typed_work.specs.Scenes.{IsTypedMemory}
use Rattle.cx_typed_runs.proofs.GoingOn.{others_of}
use Rattle.cx_typed_runs.proofs.Owned.{owned_back, shapes_owned, shapes_held, live_new, owned_more, held_more, next_unused, next_unlisted, inserted, memory_grown}
use Rattle.cx_typed_runs.proofs.Scenes.{all_of, objects_append}
use Rattle.cx_typed_runs.specs.Sites.{objects_of, AreOwned, IsRunning}
use Rattle.cx_typed_runs.specs.States.{in_function, AreCallers, AreForParams, IsTaking, AreBegun, StopsByRule, IsTypedState}

-- ---- what a state has beside its control

-- in a function with a result type, whose objects are those of a frame
pub record IsAround (program : CProgram) (result : CTy) (state : CState) (world : World) (frame : Frame) : Type 0 where
  pub linked : IsLinked program
  pub memory : IsTypedMemory program (blocks_of world)
  pub held : HeapLives world.held
  pub owned : AreOwned program world.held (frame ++ others_of state)
  pub callers : AreCallers program result state.callers
  pub begun : AreBegun program [] state.statics

-- the run goes no further, for a reason that a rule names
pub stopped_typed : (program : CProgram) (result : CTy) (state : CState) (frame : Frame) (stop : CStop) → IsAround program result state state.world frame → StopsByRule stop → IsTypedState program (stopped state stop)
stopped_typed program result state frame stop around named = record {
  memory = around.memory;
  held = around.held;
  owned = owned_back program state.world.held frame (others_of state) around.owned;
  control = named;
}

-- ---- the body is reached

-- the definition of a function that runs
pub definition_of : (program : CProgram) (one : CFun) (result : CTy) → IsLinked program → (running : IsRunning program one result) → IsDefinition (home_of program None one.unit) one result running.params running.variadic
definition_of program one result linked running =
    subst (IsDefinitionOf (home_of program None one.unit) one) running.type_is
    (all_of (IsTypedFunction program None) program.functions one linked.functions running.defined).definition

pub taking_typed : (program : CProgram) (one : CFun) (result : CTy) (state : CState) (world : World) (params : List ℕ) (args : List CValue) (frame : Frame) → IsAround program result state world frame → IsRunning program one result
    → objects_of frame ++ params ≡ one.params → AreForParams program params args → IsTypedState program (at_control state world (taking one params args frame))
taking_typed program one result state world [] args frame around running are given = record {
  memory = around.memory;
  held = around.held;
  owned = around.owned;
  control = (
    in_function one result,
    (
      record { running = running; levels = tt; whole = tt; params_are = sym (append-nil (objects_of frame)) ∙ are; at_end_is = refl },
      record { declares = []; in_scope = λ number there. absurd (let within : there.0 < 0 = there.1 in omega (arith, within)); typed = (definition_of program one result around.linked running).body; first = λ _. refl },
    ),
    around.callers,
    around.begun,
  );
}
taking_typed program one result state world (number ∷ params) args frame around running are given = record {
  memory = around.memory;
  held = around.held;
  owned = around.owned;
  control = (result, record { running = running; params_are = are; are_left = λ none. cc (none); args = given }, around.callers, around.begun);
}

-- ---- the object of a parameter

-- an object that is found by its number is one of the list
among : (number : ℕ) (objects : List CObject) (one : CObject) → object_with number objects ≡ Some one → Contains objects one
among number [] one e = cc
among number (first ∷ others) one e = by (first.object == number) e (λ found. among number others one found)
  where
    by : (test : Bool) → (if test then Some first else object_with number others) ≡ Some one → (object_with number others ≡ Some one → Contains others one) → Contains (first ∷ others) one
    by true found rest = (zero, omega arith, let same : first ≡ one = cc (found) in same)
    by false found rest = let behind = rest found in let below : behind.0 < length others = behind.1 in (suc behind.0, omega (arith, below), behind.2)

param_completed : (home : CHome) (type : CTy) (found : Option CObject) → IfSome found (IsParamObject home type) → IfSome found (λ one. IsComplete home.program.types one.type)
param_completed home type None is = tt
param_completed home type (Some one) is = is.object.complete

-- each parameter is complete (6.9.1p7)
param_complete : (home : CHome) (front : List ℕ) (number : ℕ) (back : List ℕ) (types : CTys) → AreParams home (front ++ number ∷ back) types
    → IfSome (object_with number home.program.objects) (λ one. IsComplete home.program.types one.type)
param_complete home [] number back no_types are = absurd are
param_complete home [] number back (more_types type types) are = param_completed home type (object_with number home.program.objects) are.1
param_complete home (first ∷ front) number back no_types are = absurd are
param_complete home (first ∷ front) number back (more_types type types) are = param_complete home front number back types are.2

no_front : (front : List ℕ) (number : ℕ) (back : List ℕ) → front ++ number ∷ back ≡ [] → ⊥
no_front [] number back e = cc (e)
no_front (first ∷ front) number back e = cc (e)

complete_of : (home : CHome) (front : List ℕ) (number : ℕ) (back : List ℕ) (params : CParams) → AreParamsOf home (front ++ number ∷ back) params
    → IfSome (object_with number home.program.objects) (λ one. IsComplete home.program.types one.type)
complete_of home front number back unlisted are = absurd (no_front front number back are)
complete_of home front number back (listed types) are = param_complete home front number back types are

-- a type with values is accessed as a scalar, or as a structure or union
access_for : (program : CProgram) (unit : ℕ) (type : CTy) (value : CValue) → AreTypes program.types → IsTypeIn program.types unit type → IsComplete program.types type → IsValueOfType program (unqualified type) value
    → IsAccess program (unqualified type)
access_for program unit (ty void is_const) value types type_in complete is = access_by program unit (ty void false) types tt complete tt
access_for program unit (ty (basic which) is_const) value types type_in complete is = access_by program unit (ty (basic which) false) types type_in complete tt
access_for program unit (ty (enum_type number) is_const) value types type_in complete is = access_by program unit (ty (enum_type number) false) types type_in complete tt
access_for program unit (ty (pointer to) is_const) value types type_in complete is = access_by program unit (ty (pointer to) false) types type_in complete tt
access_for program unit (ty (record_type number) is_const) value types type_in complete is = access_by program unit (ty (record_type number) false) types type_in complete tt
access_for program unit (ty (array element count) is_const) (scalar value) types type_in complete is = absurd (let none = is.kind_is in cc (none))
access_for program unit (ty (array element count) is_const) (cells held from) types type_in complete is = absurd is.is_record
access_for program unit (ty (array element count) is_const) (names number) types type_in complete is = absurd is
access_for program unit (ty (array element count) is_const) (designates to) types type_in complete is = absurd is
access_for program unit (ty (array element count) is_const) (designates_bits at bit width) types type_in complete is = absurd is
access_for program unit (ty (array element count) is_const) missing types type_in complete is = absurd is
access_for program unit (ty (function result params variadic) is_const) value types type_in complete is = cc (complete)

-- the object of a parameter that begins
pub record IsParam (program : CProgram) (number : ℕ) (value : CValue) : Type 0 where
  pub one : CObject
  pub object_is : object_with number program.objects ≡ Some one
  pub laid : Laid
  pub laid_is : extent_in (setting_of program) one.type ≡ Some laid
  pub small : laid.size ≤ most_bytes
  pub access : IsAccess program (unqualified one.type)
  pub value_is : IsValueOfType program (unqualified one.type) value

small_by : (test : Bool) (laid found : Laid) → nat_le laid.size most_laid ≡ test → (if test then Some laid else None) ≡ Some found → found.size ≤ most_bytes
small_by true laid found e is =
    let same : laid ≡ found = cc (is) in
    subst (λ (one : Laid). one.size ≤ most_bytes) same (leb-true laid.size most_laid e)
small_by false laid found e is = cc (is)

small_within : (whole : Option Laid) (found : Laid) → option_and_then within_most whole ≡ Some found → found.size ≤ most_bytes
small_within None found is = cc (is)
small_within (Some laid) found is = small_by (nat_le laid.size most_laid) laid found refl is

-- no complete type is larger than the profile allows
pub complete_small : (program : CProgram) (type : CTy) (laid : Laid) → extent_in (setting_of program) type ≡ Some laid → laid.size ≤ most_bytes
complete_small program type laid is = small_within (whole_extent (layouts_of program.types) type) laid is

param_laid : (program : CProgram) (number : ℕ) (value : CValue) (one : CObject) (found : Option Laid) → IsLinked program → object_with number program.objects ≡ Some one → IsValueOfType program (unqualified one.type) value
    → extent_in (setting_of program) one.type ≡ found → IsSome found → IsParam program number value
param_laid program number value one None linked object_is value_is laid_is some = absurd (cc (some))
param_laid program number value one (Some laid) linked object_is value_is laid_is some = record {
  one = one;
  object_is = object_is;
  laid = laid;
  laid_is = laid_is;
  small = complete_small program one.type laid laid_is;
  access = access_for program one.unit one.type value linked.types
      (all_of (IsTypedObject program None) program.objects one linked.objects (among number program.objects one object_is)).type_in
      (subst IsSome (sym laid_is) some) value_is;
  value_is = value_is;
}

pub param_of : (program : CProgram) (number : ℕ) (value : CValue) (one : CObject) → IsLinked program → object_with number program.objects ≡ Some one → IsValueOfType program (unqualified one.type) value
    → IfSome (object_with number program.objects) (λ o. IsComplete program.types o.type) → IsParam program number value
param_of program number value one linked object_is value_is complete =
    param_laid program number value one (extent_in (setting_of program) one.type) linked object_is value_is refl
    (subst (λ found. IfSome found (λ o. IsComplete program.types o.type)) object_is complete)

-- ---- a parameter begins with its argument in it

-- the argument is stored in the object, which has begun
pub param_stored : (program : CProgram) (number : ℕ) (value : CValue) (one : IsParam program number value) (blocks : Blocks) (at : Ptr) → at.offset ≤ most_bytes → IsTypedMemory program blocks
    → Comes (IsStoredOf program (unqualified one.one.type) blocks) (stored (setting_of program) [] blocks (unqualified one.one.type) (designates (Pointer at)) value no_marks)
param_stored program number value one blocks at near memory =
    store_comes program (unqualified one.one.type) blocks value no_marks (Ok (Pointer at)) one.access memory (inl one.value_is) near

abbrev pub shape_in : (program : CProgram) (number : ℕ) (value : CValue) → IsParam program number value → CShape
shape_in program number value one = record { type = one.one.type; laid = one.laid }

pub shape_is : (program : CProgram) (number : ℕ) (value : CValue) (one : IsParam program number value) → shape_of (setting_of program) number ≡ Ok (shape_in program number value one)
shape_is program number value one =
    ap (λ found. and_then (needed found) (λ (o : CObject). and_then (needed (extent_in (setting_of program) o.type)) (λ laid. Ok (record { type = o.type; laid = laid })))) one.object_is
    ∙ ap (λ found. and_then (needed found) (λ laid. Ok (record { type = one.one.type; laid = laid }))) one.laid_is

-- the parameters of a function that was called: one that begins, and those behind it
record IsNextParam (program : CProgram) (callee : CFun) (result : CTy) (number : ℕ) (params : List ℕ) (value : CValue) (args : List CValue) (frame : Frame) : Type 0 where
  running : IsRunning program callee result
  are : objects_of frame ++ number ∷ params ≡ callee.params
  param : IsParam program number value
  args_are : AreForParams program params args

-- its object lives in a new block
begun_around : (program : CProgram) (result : CTy) (state : CState) (number : ℕ) (value : CValue) (frame : Frame) (one : IsParam program number value) → IsAround program result state state.world frame
    → IsAround program result state (with_memory (with_block (fresh_block false one.laid.size one.laid.align) (blocks_of state.world)) state.world)
    (frame ++ slot number (next_place (blocks_of state.world)) ∷ [])
begun_around program result state number value frame one around =
    let blocks = blocks_of state.world in
    let block = new_block one.laid.size one.laid.align in
    let new = slot number (next_place blocks) in
    record {
      linked = around.linked;
      memory = memory_grown program blocks block (subst (λ n. n ≤ most_bytes) (sym (length-replicate one.laid.size unset_cell)) one.small) (typed_replicate program one.laid.size unset_cell tt) around.memory;
      held = held_more blocks (Some block) state.world.held.heap around.held;
      owned = subst (AreOwned program (with_blocks (with_block block blocks) state.world.held)) (sym (append_assoc frame (new ∷ []) (others_of state)))
          (inserted program (with_blocks (with_block block blocks) state.world.held) frame (others_of state) new (owned_more program state.world.held (Some block) (frame ++ others_of state) around.owned)
          (record {
            one = one.one;
            object_is = one.object_is;
            laid = one.laid;
            laid_is = one.laid_is;
            held = block;
            live = live_new blocks block;
            size = length-replicate one.laid.size unset_cell;
            align = refl;
          })
          (next_unlisted blocks state.world.held.heap around.held) (next_unused program state.world.held (frame ++ others_of state) around.owned));
      callers = around.callers;
      begun = around.begun;
    }

-- a memory with the same live blocks
shapes_around : (program : CProgram) (result : CTy) (state : CState) (world : World) (frame : Frame) (type : CTy) (one : CStored) → IsAround program result state world frame → IsStoredOf program type (blocks_of world) one
    → IsAround program result state (with_memory one.blocks world) frame
shapes_around program result state world frame type one around is = record {
  linked = around.linked;
  memory = is.memory;
  held = shapes_held (blocks_of world) one.blocks world.held.heap is.shapes around.held;
  owned = shapes_owned program world.held (with_blocks one.blocks world.held) (frame ++ others_of state) refl is.shapes around.owned;
  callers = around.callers;
  begun = around.begun;
}

-- the parameters behind it are next
next_params : (number : ℕ) (params : List ℕ) (frame : Frame) (at : Ptr) (all : List ℕ) → objects_of frame ++ number ∷ params ≡ all → objects_of (frame ++ slot number at ∷ []) ++ params ≡ all
next_params number params frame at all are =
    ap (λ front. front ++ params) (objects_append frame (slot number at ∷ [])) ∙ append_assoc (objects_of frame) (number ∷ []) params ∙ are

-- the argument is stored, and the parameters behind it are next; or a rule is broken
behind_store : (program : CProgram) (callee : CFun) (result : CTy) (state : CState) (number : ℕ) (params : List ℕ) (value : CValue) (args : List CValue) (frame : Frame) (place : Place) (world : World) (at : Ptr)
    (is : IsNextParam program callee result number params value args frame) → IsAround program result state state.world frame → IsAround program result state world (frame ++ slot number at ∷ [])
    → (outcome : Result CStored CWhy) → Comes (IsStoredOf program (unqualified is.param.one.type) (blocks_of world)) outcome
    → IsTypedState program (after_param state callee number params args frame
    (and_then (as_stop place outcome) (λ one. Ok (record { value = at; world = with_memory one.blocks world }))))
behind_store program callee result state number params value args frame place world at is around behind (Ok one) good =
    taking_typed program callee result state (with_memory one.blocks world) params args (frame ++ slot number at ∷ [])
    (shapes_around program result state world (frame ++ slot number at ∷ []) (unqualified is.param.one.type) one behind good) is.running
    (next_params number params frame at callee.params is.are) is.args_are
behind_store program callee result state number params value args frame place world at is around behind (Err (breaks rule)) good =
    stopped_typed program result state frame (stops (breaks rule) place) around tt
behind_store program callee result state number params value args frame place world at is around behind (Err stuck) good = absurd good

-- the new block is there, or the store has no place for it
behind_begin : (program : CProgram) (callee : CFun) (result : CTy) (state : CState) (number : ℕ) (params : List ℕ) (value : CValue) (args : List CValue) (frame : Frame) (place : Place)
    (is : IsNextParam program callee result number params value args frame) → IsAround program result state state.world frame → (outcome : Result Blocks StoreFault)
    → IsTypedState program (after_param state callee number params args frame
    (and_then (begun_at false is.param.laid.size is.param.laid.align state.world outcome) (argument_stored (setting_of program) place number value)))
behind_begin program callee result state number params value args frame place is around (Ok made) =
    let at = next_place (blocks_of state.world) in
    let world = with_memory (with_block (fresh_block false is.param.laid.size is.param.laid.align) (blocks_of state.world)) state.world in
    let behind = begun_around program result state number value frame is.param around in
    subst (λ found. IsTypedState program (after_param state callee number params args frame
    (and_then (as_stop place found) (λ (shape : CShape).
    and_then (as_stop place (stored (setting_of program) [] (blocks_of world) (unqualified shape.type) (designates (Pointer at)) value no_marks)) (λ one.
    Ok (record { value = at; world = with_memory one.blocks world }))))))
    (sym (shape_is program number value is.param))
    (behind_store program callee result state number params value args frame place world at is around behind
    (stored (setting_of program) [] (blocks_of world) (unqualified is.param.one.type) (designates (Pointer at)) value no_marks)
    (param_stored program number value is.param (blocks_of world) at (omega arith) behind.memory))
behind_begin program callee result state number params value args frame place is around (Err (Full need left)) = stopped_typed program result state frame (full need left) around tt
behind_begin program callee result state number params value args frame place is around (Err Memory) = stopped_typed program result state frame astray around tt

-- ---- the step

next_typed : (program : CProgram) (callee : CFun) (result : CTy) (state : CState) (number : ℕ) (params : List ℕ) (value : CValue) (args : List CValue) (frame : Frame)
    → (is : IsNextParam program callee result number params value args frame) → IsAround program result state state.world frame
    → IsTypedState program (take_step (setting_of program) state callee (number ∷ params) (value ∷ args) frame)
next_typed program callee result state number params value args frame is around =
    let place = place_of_body callee.body in
    subst (λ found. IsTypedState program (after_param state callee number params args frame
    (and_then (and_then (as_stop place found) (λ (shape : CShape). object_begun false shape.laid.size shape.laid.align state.world)) (argument_stored (setting_of program) place number value))))
    (sym (shape_is program number value is.param))
    (behind_begin program callee result state number params value args frame place is around
    (after_alloc (limit_of state.world.terms) (blocks_of state.world) is.param.laid.size is.param.laid.align))

-- a parameter that a function has
pub param_for : (program : CProgram) (callee : CFun) (result : CTy) (number : ℕ) (params : List ℕ) (frame : Frame) → IsLinked program → IsRunning program callee result → objects_of frame ++ number ∷ params ≡ callee.params
    → IfSome (object_with number program.objects) (λ one. IsComplete program.types one.type)
param_for program callee result number params frame linked running are =
    let definition = definition_of program callee result linked running in
    complete_of (home_of program None callee.unit) (objects_of frame) number params running.params
    (subst (λ all. AreParamsOf (home_of program None callee.unit) all running.params) (sym are) definition.params_are)

take_next : (program : CProgram) (callee : CFun) (result : CTy) (state : CState) (params : List ℕ) (args : List CValue) (frame : Frame) → IsRunning program callee result → objects_of frame ++ params ≡ callee.params
    → params ≢ [] → AreForParams program params args → IsAround program result state state.world frame → IsTypedState program (take_step (setting_of program) state callee params args frame)
take_next program callee result state [] args frame running are left given around = absurd (left refl)
take_next program callee result state (number ∷ params) [] frame running are left given around = absurd given
take_next program callee result state (number ∷ params) (value ∷ args) frame running are left given around =
    next_typed program callee result state number params value args frame
    (record {
      running = running;
      are = are;
      param = param_of program number value given.0 around.linked given.1 given.2 (param_for program callee result number params frame around.linked running are);
      args_are = given.3;
    }) around

-- the life of a parameter begins
pub take_typed : (program : CProgram) (result : CTy) (state : CState) (one : CTaking) → IsTaking program result one → IsAround program result state state.world one.frame
    → IsTypedState program (take_step (setting_of program) state one.callee one.params one.args one.frame)
take_typed program result state one is around =
    take_next program one.callee result state one.params one.args one.frame is.running is.params_are is.are_left is.args around
