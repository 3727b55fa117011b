-- Steps of nodes whose operands are finished and typed: loads, assignments, addresses, operators and conversions.
use Rattle.std.proofs.Common.{◌≡◌, ◌⊎◌, inl, inr, Bool, true, false, true≢false, List, [], ◌∷◌, Some, Result, sym, ap, subst, ◌∙◌}
use Rattle.cr_base.specs.declared.refusal.Place.{Place}
use Rattle.cr_base.specs.declared.scalar.Scalar.TheVariants.{Object}
use Rattle.cx_core.specs.Conversions.{scalar_of}
use Rattle.cx_core.specs.declared.expr.Op1.{Op1}
use Rattle.cx_core.specs.declared.expr.Op2.{Op2}
use Rattle.cx_core.specs.Trees.{CTy, ty, CTyForm, void, basic, enum_type, pointer, array, record_type, function, form_of_type, CTypes, CProgram, CExpr, expr, CForm, load, deref, address, convert, unary, binary, assign, type_of}
use Rattle.cx_core.specs.Typing.{CHome, IsTyped, IsLvalue, is_bit_field}
use Rattle.cx_core.specs.ValidTypes.{IsComplete, IsObjectForm}
use Rattle.cx_mean.specs.Accesses.{loaded, stored}
use Rattle.cx_mean.specs.Marks.{Marks}
use Rattle.cx_mean.specs.Nodes.{CDone, deref_value, address_value, node_done}
use Rattle.cx_mean.specs.Operands.{CWhy, CValue, scalar, cells, names, designates, designates_bits, missing, COperand, Frame, place_in, united_operands}
use Rattle.cx_mean.specs.Settings.{setting_of}
use Rattle.cx_mean.specs.Values.{converted_value}
use Rattle.mem_bytes.specs.Access.{and_then}
use Rattle.mem_bytes.specs.Coding.{IsValueOf}
use Rattle.mem_bytes.specs.declared.value.Value.{Value}
use Rattle.mem_bytes.specs.declared.value.Value.TheVariants.{Whole as Number, Null, Object as Pointer, Code as Function}
use Rattle.mem_bytes.specs.Memory.{Blocks}
use Rattle.cx_typed_values.specs.Outcomes.{Comes}
use Rattle.cx_typed_work.proofs.Accesses.{IsLoadedOf}
use Rattle.cx_typed_work.proofs.Given.{value_given, place_given, IsBits, place_comes}
use Rattle.cx_typed_work.proofs.Lvalues.{load_from_lvalue, store_to_lvalue}
use Rattle.cx_typed_work.proofs.Memories.{shapes_stay}
use Rattle.cx_typed_work.proofs.Nodes.{IsDoneOf, gives_comes, operands_united, object_kind, deref_comes}
use Rattle.cx_typed_work.proofs.Operators.{convert_comes, unary_comes}
use Rattle.cx_typed_work.proofs.Outcomes.{comes_and}
use Rattle.cx_typed_work.proofs.Stores.{IsStoredOf, IsStorable}
use Rattle.cx_typed_work.proofs.Twos.{binary_comes}
use Rattle.cx_typed_work.specs.Operands.{IsScalarIn, IsValueOfType, IsGiven, IsObjectPointer, IsPlaceOf, IsGivenBy, IsOperandOf}
use Rattle.cx_typed_work.specs.Scenes.{IsLeading, IsScene}

-- what a value of the type of a node gives, where it isn't an lvalue
given_of : (home : CHome) (node : CExpr) (value : CValue) → IsTyped home node → IsValueOfType home.program (type_of node) value → IsGivenBy home node value
given_of home node value is good = inr (is, inl good)

-- ---- loads (6.3.2.1p2)

pub load_done : (home : CHome) (frame : Frame) (blocks : Blocks) (form : CTyForm) (is_const : Bool) (there : Place) (node : CForm) (place : Place) (one : COperand) → IsScene home frame blocks
    → IsTyped home (expr (ty form false) place (load (expr (ty form is_const) there node))) → IsOperandOf home (expr (ty form is_const) there node) one
    → Comes (IsDoneOf home (expr (ty form false) place (load (expr (ty form is_const) there node))) blocks)
    (node_done (setting_of home.program) (ty form false) (load (expr (ty form is_const) there node)) frame blocks (one ∷ []))
load_done home frame blocks form is_const there node place one scene is given =
    let from = expr (ty form is_const) there node in
    let whole_node = expr (ty form false) place (load from) in
    comes_and (λ (_ : Marks). Unit {0}) (IsDoneOf home whole_node blocks) (united_operands (one ∷ [])) _ (operands_united (one ∷ [])) (λ marks _.
    comes_and (IsLoadedOf home.program (ty form false)) (IsDoneOf home whole_node blocks) (loaded (setting_of home.program) frame blocks (ty form false) one.value marks) _
    (load_from_lvalue home frame blocks form is_const there node one.value marks scene is.1.0 (place_given home from one.value is.1.0 given.given) is.1.1.complete is.1.1.no_array) (λ held good.
    record { given = given_of home whole_node held.value is good; memory = scene.memory; shapes = shapes_stay blocks }))

-- ---- assignments (6.5.16)

storable_of : (home : CHome) (node : CExpr) (type : CTy) (value : CValue) → type_of node ≡ type → IsGiven home.program node value → IsStorable home.program type value
storable_of home node type value e (inl good) = inl (subst (λ t. IsValueOfType home.program t value) e good)
storable_of home node type value e (inr lacks) = inr lacks.1

pub assign_done : (home : CHome) (frame : Frame) (blocks : Blocks) (form : CTyForm) (is_const : Bool) (there : Place) (node : CForm) (value : CExpr) (place : Place) (one other : COperand) → IsScene home frame blocks
    → IsTyped home (expr (ty form false) place (assign (expr (ty form is_const) there node) value)) → IsOperandOf home (expr (ty form is_const) there node) one → IsOperandOf home value other
    → Comes (IsDoneOf home (expr (ty form false) place (assign (expr (ty form is_const) there node) value)) blocks)
    (node_done (setting_of home.program) (ty form false) (assign (expr (ty form is_const) there node) value) frame blocks (one ∷ other ∷ []))
assign_done home frame blocks form is_const there node value place one other scene is given second =
    let target = expr (ty form is_const) there node in
    let whole_node = expr (ty form false) place (assign target value) in
    comes_and (λ (_ : Marks). Unit {0}) (IsDoneOf home whole_node blocks) (united_operands (one ∷ other ∷ [])) _ (operands_united (one ∷ other ∷ [])) (λ marks _.
    comes_and (IsStoredOf home.program (ty form false) blocks) (IsDoneOf home whole_node blocks) (stored (setting_of home.program) frame blocks (ty form false) one.value other.value marks) _
    (store_to_lvalue home frame blocks form is_const there node one.value other.value marks scene is.1.0 (place_given home target one.value is.1.0 given.given) is.1.2.modifiable.complete is.1.2.modifiable.no_array
    (storable_of home value (ty form false) other.value is.1.2.value_is (value_given home value other.value is.1.1 second.given))) (λ held good.
    record { given = given_of home whole_node held.value is good.given; memory = good.memory; shapes = good.shapes }))

-- ---- nodes that leave memory as it is

-- the operands are united, and then there is what the node gives
given_done : (home : CHome) (node : CExpr) (frame : Frame) (blocks : Blocks) (operands : List COperand) (outcome : Marks → Result CDone CWhy) → ((marks : Marks) → Comes (IsDoneOf home node blocks) (outcome marks))
    → Comes (IsDoneOf home node blocks) (and_then (united_operands operands) outcome)
given_done home node frame blocks operands outcome all =
    comes_and (λ (_ : Marks). Unit {0}) (IsDoneOf home node blocks) (united_operands operands) outcome (operands_united operands) (λ marks _. all marks)

-- what a pointer points to (6.5.3.2p4)
pub deref_done : (home : CHome) (frame : Frame) (blocks : Blocks) (type : CTy) (place : Place) (from : CExpr) (one : COperand) → IsScene home frame blocks → IsLvalue home (expr type place (deref from)) → IsOperandOf home from one
    → Comes (IsDoneOf home (expr type place (deref from)) blocks) (node_done (setting_of home.program) type (deref from) frame blocks (one ∷ []))
deref_done home frame blocks type place from one scene is given =
    given_done home (expr type place (deref from)) frame blocks (one ∷ []) _ (λ marks.
    gives_comes home (expr type place (deref from)) marks blocks (deref_value one.value) scene.memory (deref_comes home type place from one.value is given.given))

-- a conversion (6.3)
pub convert_done : (home : CHome) (frame : Frame) (blocks : Blocks) (form : CTyForm) (is_const : Bool) (place : Place) (from : CExpr) (one : COperand) → IsScene home frame blocks
    → IsTyped home (expr (ty form is_const) place (convert from)) → IsOperandOf home from one
    → Comes (IsDoneOf home (expr (ty form is_const) place (convert from)) blocks) (node_done (setting_of home.program) (ty form is_const) (convert from) frame blocks (one ∷ []))
convert_done home frame blocks form is_const place from one scene is given =
    given_done home (expr (ty form is_const) place (convert from)) frame blocks (one ∷ []) _ (λ marks.
    gives_comes home (expr (ty form is_const) place (convert from)) marks blocks (converted_value (setting_of home.program) (ty form is_const) blocks one.value) scene.memory
    (convert_comes home form is_const place from blocks one.value scene.linked.types is given.given))

-- an operator with one operand (6.5.3.3)
pub one_operand_done : (home : CHome) (frame : Frame) (blocks : Blocks) (type : CTy) (place : Place) (op : Op1) (operand : CExpr) (one : COperand) → IsScene home frame blocks
    → IsTyped home (expr type place (unary op operand)) → IsOperandOf home operand one
    → Comes (IsDoneOf home (expr type place (unary op operand)) blocks) (node_done (setting_of home.program) type (unary op operand) frame blocks (one ∷ []))
one_operand_done home frame blocks type place op operand one scene is given =
    given_done home (expr type place (unary op operand)) frame blocks (one ∷ []) _ (λ marks.
    gives_comes home (expr type place (unary op operand)) marks blocks _ scene.memory (unary_comes home type place op operand blocks one.value is given.given))

-- an operator with two operands (6.5.5 to 6.5.12)
pub two_operands_done : (home : CHome) (frame : Frame) (blocks : Blocks) (type : CTy) (place : Place) (op : Op2) (left right : CExpr) (one other : COperand) → IsScene home frame blocks
    → IsTyped home (expr type place (binary op left right)) → IsOperandOf home left one → IsOperandOf home right other
    → Comes (IsDoneOf home (expr type place (binary op left right)) blocks) (node_done (setting_of home.program) type (binary op left right) frame blocks (one ∷ other ∷ []))
two_operands_done home frame blocks type place op left right one other scene is first second =
    given_done home (expr type place (binary op left right)) frame blocks (one ∷ other ∷ []) _ (λ marks.
    gives_comes home (expr type place (binary op left right)) marks blocks _ scene.memory (binary_comes home type place op left right blocks one other scene.memory.objects is first second))

-- ---- addresses (6.3.2.1p3, 6.5.3.2p3)

-- what is complete is no `void` and no function
complete_object : (types : CTypes) (type : CTy) → IsComplete types type → IsObjectForm (form_of_type type)
complete_object types (ty void is_const) is = cc
complete_object types (ty (basic which) is_const) is = tt
complete_object types (ty (enum_type number) is_const) is = tt
complete_object types (ty (pointer to) is_const) is = tt
complete_object types (ty (array element length) is_const) is = tt
complete_object types (ty (record_type number) is_const) is = tt
complete_object types (ty (function result params variadic) is_const) is = cc

-- the type to which an address points
record IsPointerTo (type : CTy) : Type 0 where
  to : CTy
  is : type ≡ ty (pointer to) false
  object : IsObjectForm (form_of_type to)

-- by what it is the address of: an object, or the first element of an array
points_by : (of type : CTy) → IsObjectForm (form_of_type of) → (type ≡ ty (pointer of) false) ⊎ ⊥ → IsPointerTo type
points_by of type object (inl same) = record { to = of; is = same; object = object }
points_by of type object (inr never) = absurd never

address_points : (home : CHome) (type : CTy) (place : Place) (of : CExpr) → IsTyped home (expr type place (address of)) → IsPointerTo type
address_points home type place (expr (ty (array element length) is_const) there node) is = by is.1.1.type_is
  where
    by : (type ≡ ty (pointer (ty (array element length) is_const)) false) ⊎ (type ≡ ty (pointer element) false) → IsPointerTo type
    by (inl same) = record { to = ty (array element length) is_const; is = same; object = tt }
    by (inr first) = record { to = element; is = first; object = complete_object home.program.types element is.1.0.0.1.complete }
address_points home type place (expr (ty void is_const) there node) is = points_by (ty void is_const) type is.1.0.1 is.1.1.type_is
address_points home type place (expr (ty (basic which) is_const) there node) is = points_by (ty (basic which) is_const) type is.1.0.1 is.1.1.type_is
address_points home type place (expr (ty (enum_type number) is_const) there node) is = points_by (ty (enum_type number) is_const) type is.1.0.1 is.1.1.type_is
address_points home type place (expr (ty (pointer to) is_const) there node) is = points_by (ty (pointer to) is_const) type is.1.0.1 is.1.1.type_is
address_points home type place (expr (ty (record_type number) is_const) there node) is = points_by (ty (record_type number) is_const) type is.1.0.1 is.1.1.type_is
address_points home type place (expr (ty (function result params variadic) is_const) there node) is = points_by (ty (function result params variadic) is_const) type is.1.0.1 is.1.1.type_is

-- a pointer to an object is a value of such a type
pointer_fits : (program : CProgram) (type : CTy) (to : Value) → IsPointerTo type → IsObjectPointer to → IsScalarIn program type to
pointer_fits program type to points is =
    record {
      kind = Object;
      kind_is = ap (λ (t : CTy). scalar_of program.types (form_of_type t)) points.is ∙ ap Some (object_kind points.to points.object);
      of_kind = of_kind to is;
      leads = leads to is;
    }
  where
    of_kind : (one : Value) → IsObjectPointer one → IsValueOf Object one
    of_kind (Pointer at) near = tt
    of_kind Null near = tt
    of_kind (Number number) near = absurd near
    of_kind (Function number) near = absurd near

    leads : (one : Value) → IsObjectPointer one → IsLeading program one
    leads (Pointer at) near = near
    leads Null near = tt
    leads (Number number) near = absurd near
    leads (Function number) near = absurd near

-- the place of what is no bit-field isn't one of a bit-field
no_bits_place : (node : CExpr) (place : CValue) → is_bit_field node ≡ false → IsPlaceOf node place → IsBits place → ⊥
no_bits_place node (designates_bits at bit width) plain there bits = true≢false (sym there.is_field ∙ plain)
no_bits_place node (scalar value) plain there bits = bits
no_bits_place node (cells held from) plain there bits = bits
no_bits_place node (names number) plain there bits = bits
no_bits_place node (designates to) plain there bits = bits
no_bits_place node missing plain there bits = bits

pub address_done : (home : CHome) (frame : Frame) (blocks : Blocks) (type : CTy) (place : Place) (of : CExpr) (one : COperand) → IsScene home frame blocks
    → IsTyped home (expr type place (address of)) → IsOperandOf home of one
    → Comes (IsDoneOf home (expr type place (address of)) blocks) (node_done (setting_of home.program) type (address of) frame blocks (one ∷ []))
address_done home frame blocks type place of one scene is given =
    let node = expr type place (address of) in
    let there = place_given home of one.value is.1.0 given.given in
    given_done home node frame blocks (one ∷ []) _ (λ marks.
    gives_comes home node marks blocks (address_value frame one.value) scene.memory
    (comes_and IsObjectPointer (IsGivenBy home node) (place_in frame one.value) _
    (place_comes home frame blocks of one.value scene is.1.0 there (no_bits_place of one.value is.1.1.no_bits there)) (λ to near.
    given_of home node (scalar to) is (pointer_fits home.program type to (address_points home type place of is) near))))
