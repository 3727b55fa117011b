-- What known functions do with arguments of the types of their parameters (ISO C99, 7.20.3, 7.20.4, 7.21.2 and 7.21.6.1).
use Rattle.std.proofs.Common.{◌≡◌, ℕ, zero, suc, ◌*◌, ◌≤◌, ◌==◌, Bool, true, false, ◌&&◌, nat_le, if◌then◌else◌, ℤ, pos, negsuc, List, [], ◌∷◌, Option, Some, None, Result, Ok, Err, refl, sym, ap, subst, ◌∙◌, arith}
use Rattle.std.proofs.lemmas.Bool.{and_parts, leb-true}
use Rattle.std.proofs.lemmas.Int.{ints}
use Rattle.cr_base.specs.Scalar.{residue}
use Rattle.cr_base.specs.declared.scalar.Scalar.TheVariants.{Whole, Object}
use Rattle.cr_world.specs.Held.{Held, overlapping, not_allocated, is_listed, without_allocated}
use Rattle.cr_world.specs.Known.{Known, allocates, frees, copies, fills, exits, aborts, KnownType, no_value, int_value, size_value, to_bytes, to_const_bytes, Effect, gives, gives_nothing, ends_program, wants_block, fails, allocation, accessed_as, bytes_overlap, unless_overlapping, null_beside, copied, copying, filling, freeing, effect}
use Rattle.cx_core.specs.Conversions.{scalar_of}
use Rattle.cx_core.specs.declared.ty.Basic.TheVariants.{Int, UnsignedLong}
use Rattle.cx_core.specs.Trees.{CTy, ty, void, basic, pointer, form_of_type, CProgram}
use Rattle.cx_mean.specs.Operands.{why_held}
use Rattle.mem_bytes.specs.Access.{after_copy, after_fill}
use Rattle.mem_bytes.specs.Coding.{IsValueOf}
use Rattle.mem_bytes.specs.declared.fault.Fault.{Fault}
use Rattle.mem_bytes.specs.declared.value.Ptr.{Ptr}
use Rattle.mem_bytes.specs.declared.value.Value.{Value}
use Rattle.mem_bytes.specs.declared.value.Value.TheVariants.{Whole as Number, Null, Object as Pointer, Code as Function}
use Rattle.mem_bytes.specs.Memory.{Block, Blocks, live_block}
use Rattle.cx_typed_values.specs.Values.{most_bytes}
use Rattle.cx_typed_work.specs.ExternalCalls.{KeepsObjects}
use Rattle.cx_typed_work.proofs.KnownMemories.{held_stays, freed_typed, freed_keeps, IsWritten, fill_written, copy_written, written_keeps}
use Rattle.cx_typed_work.specs.Operands.{IsScalarIn, IsObjectPointer}
use Rattle.cx_typed_work.specs.Scenes.{IsLeading, IsTypedMemory}
use Rattle.cx_typed_work.specs.Steps.{IsRule}

-- ---- types of arguments and results

abbrev pub type_of_known : KnownType → CTy
type_of_known no_value = ty void false
type_of_known int_value = ty (basic Int) false
type_of_known size_value = ty (basic UnsignedLong) false
type_of_known to_bytes = ty (pointer (ty void false)) false
type_of_known to_const_bytes = ty (pointer (ty void true)) false

abbrev pub result_of : Known → KnownType
result_of (allocates is_zero) = to_bytes
result_of frees = no_value
result_of (copies may_overlap) = to_bytes
result_of fills = to_bytes
result_of exits = no_value
result_of aborts = no_value

abbrev sizes_of : Bool → List KnownType
sizes_of false = size_value ∷ []
sizes_of true = size_value ∷ size_value ∷ []

abbrev pub params_of : Known → List KnownType
params_of (allocates is_zero) = sizes_of is_zero
params_of frees = to_bytes ∷ []
params_of (copies may_overlap) = to_bytes ∷ to_const_bytes ∷ size_value ∷ []
params_of fills = to_bytes ∷ int_value ∷ size_value ∷ []
params_of exits = int_value ∷ []
params_of aborts = []

-- a value of such a type
abbrev pub IsKnownValue : KnownType → Value → Type 0
IsKnownValue no_value value = ⊥
IsKnownValue int_value value = IsValueOf (Whole 32 true) value
IsKnownValue size_value value = IsValueOf (Whole 64 false) value
IsKnownValue to_bytes value = IsObjectPointer value
IsKnownValue to_const_bytes value = IsObjectPointer value

abbrev pub AreKnown : List KnownType → List Value → Type 0
AreKnown [] [] = Unit {0}
AreKnown [] (value ∷ values) = ⊥
AreKnown (type ∷ types) [] = ⊥
AreKnown (type ∷ types) (value ∷ values) = IsKnownValue type value × AreKnown types values

pointer_value : (program : CProgram) (value : Value) → IsValueOf Object value → IsLeading program value → IsObjectPointer value
pointer_value program (Pointer at) of_kind near = near
pointer_value program Null of_kind near = tt
pointer_value program (Number number) of_kind near = absurd of_kind
pointer_value program (Function number) of_kind near = absurd of_kind

pub known_value : (program : CProgram) (type : KnownType) (value : Value) → IsScalarIn program (type_of_known type) value → IsKnownValue type value
known_value program no_value value is = cc (is.kind_is)
known_value program int_value value is = let kind : is.kind ≡ Whole 32 true = cc (is.kind_is) in subst (λ k. IsValueOf k value) kind is.of_kind
known_value program size_value value is = let kind : is.kind ≡ Whole 64 false = cc (is.kind_is) in subst (λ k. IsValueOf k value) kind is.of_kind
known_value program to_bytes value is = let kind : is.kind ≡ Object = cc (is.kind_is) in pointer_value program value (subst (λ k. IsValueOf k value) kind is.of_kind) is.leads
known_value program to_const_bytes value is = let kind : is.kind ≡ Object = cc (is.kind_is) in pointer_value program value (subst (λ k. IsValueOf k value) kind is.of_kind) is.leads

-- a size isn't negative
record IsSize (value : Value) : Type 0 where
  size : ℕ
  is : value ≡ Number (pos size)

sized : (value : Value) → IsKnownValue size_value value → IsSize value
sized (Number (pos size)) known = record { size = size; is = refl }
sized (Number (negsuc n)) known = absurd (omega (arith, ints, known.0))
sized Null known = absurd known
sized (Pointer at) known = absurd known
sized (Function number) known = absurd known

record IsWhole (value : Value) : Type 0 where
  number : ℤ
  is : value ≡ Number number

whole_value : (value : Value) → IsKnownValue int_value value → IsWhole value
whole_value (Number number) known = record { number = number; is = refl }
whole_value Null known = absurd known
whole_value (Pointer at) known = absurd known
whole_value (Function number) known = absurd known

-- lists of one, two and three arguments
record IsOne (first : KnownType) (values : List Value) : Type 0 where
  one : Value
  is : values ≡ one ∷ []
  one_known : IsKnownValue first one

one_argument : (first : KnownType) (values : List Value) → AreKnown (first ∷ []) values → IsOne first values
one_argument first [] known = absurd known
one_argument first (one ∷ []) known = record { one = one; is = refl; one_known = known.0 }
one_argument first (one ∷ two ∷ values) known = absurd known.1

record IsTwo (first second : KnownType) (values : List Value) : Type 0 where
  one : Value
  two : Value
  is : values ≡ one ∷ two ∷ []
  one_known : IsKnownValue first one
  two_known : IsKnownValue second two

two_arguments : (first second : KnownType) (values : List Value) → AreKnown (first ∷ second ∷ []) values → IsTwo first second values
two_arguments first second [] known = absurd known
two_arguments first second (one ∷ values) known =
    let rest = one_argument second values known.1 in
    record { one = one; two = rest.one; is = ap (λ xs. one ∷ xs) rest.is; one_known = known.0; two_known = rest.one_known }

record IsThree (first second third : KnownType) (values : List Value) : Type 0 where
  one : Value
  two : Value
  three : Value
  is : values ≡ one ∷ two ∷ three ∷ []
  one_known : IsKnownValue first one
  two_known : IsKnownValue second two
  three_known : IsKnownValue third three

three_arguments : (first second third : KnownType) (values : List Value) → AreKnown (first ∷ second ∷ third ∷ []) values → IsThree first second third values
three_arguments first second third [] known = absurd known
three_arguments first second third (one ∷ values) known =
    let rest = two_arguments second third values known.1 in
    record { one = one; two = rest.one; three = rest.two; is = ap (λ xs. one ∷ xs) rest.is; one_known = known.0; two_known = rest.one_known; three_known = rest.two_known }

-- ---- what an effect leaves

-- a value of the type of the result or none, in a typed memory; the program ends, a block is asked for that isn't too large, or a rule is broken
abbrev pub EffectLeaves : CProgram → CTy → Held → Effect → Type 0
EffectLeaves program type before (gives value after) = IsScalarIn program type value × IsTypedMemory program after.blocks × KeepsObjects before after
EffectLeaves program type before (gives_nothing after) = IsTypedMemory program after.blocks × KeepsObjects before after
EffectLeaves program type before (ends_program status) = Unit {0}
EffectLeaves program type before (wants_block is_zero size) = (type ≡ type_of_known to_bytes) × (size ≤ most_bytes)
EffectLeaves program type before (fails fault) = IsRule (why_held fault)

-- a pointer to bytes is what such a function gives
pub bytes_given : (program : CProgram) (type : CTy) (value : Value) → type ≡ type_of_known to_bytes → IsObjectPointer value → IsScalarIn program type value
bytes_given program type (Pointer at) e near = record { kind = Object; kind_is = ap (λ (t : CTy). scalar_of program.types (form_of_type t)) e; of_kind = tt; leads = near }
bytes_given program type Null e near = record { kind = Object; kind_is = ap (λ (t : CTy). scalar_of program.types (form_of_type t)) e; of_kind = tt; leads = tt }
bytes_given program type (Number number) e near = absurd near
bytes_given program type (Function number) e near = absurd near

allocation_leaves : (program : CProgram) (type : CTy) (is_zero : Bool) (size : ℕ) (held : Held) → type ≡ type_of_known to_bytes → IsTypedMemory program held.blocks → EffectLeaves program type held (allocation is_zero size held)
allocation_leaves program type is_zero size held e memory = by (nat_le size most_bytes) refl
  where
    by : (test : Bool) → nat_le size most_bytes ≡ test → EffectLeaves program type held (if test then wants_block is_zero size else gives Null held)
    by true fits = (e, leb-true size most_bytes fits)
    by false fits = (bytes_given program type Null e tt, memory, held_stays held)

freeing_leaves : (program : CProgram) (type : CTy) (value : Value) (held : Held) → IsObjectPointer value → IsTypedMemory program held.blocks → EffectLeaves program type held (freeing value held)
freeing_leaves program type Null held is memory = (memory, held_stays held)
freeing_leaves program type (Number number) held is memory = absurd is
freeing_leaves program type (Function number) held is memory = absurd is
freeing_leaves program type (Pointer at) held is memory = by (at.offset == 0 && is_listed at.block held.heap) refl
  where
    by : (test : Bool) → (at.offset == 0 && is_listed at.block held.heap) ≡ test → EffectLeaves program type held (if test then gives_nothing (without_allocated at.block held) else fails not_allocated)
    by true e = (freed_typed program held.blocks at.block memory, freed_keeps at.block held (and_parts (at.offset == 0) (is_listed at.block held.heap) e).1)
    by false e = tt

accessed_leaves : (program : CProgram) (type : CTy) (value : Value) (held : Held) (outcome : Result Blocks Fault) → IsScalarIn program type value → ((after : Blocks) → outcome ≡ Ok after → IsWritten program held.blocks after)
    → EffectLeaves program type held (accessed_as value held outcome)
accessed_leaves program type value held (Ok after) is wrote = let one = wrote after refl in (is, one.typed, written_keeps program held after one)
accessed_leaves program type value held (Err fault) is wrote = tt

overlap_leaves : (program : CProgram) (type : CTy) (held : Held) (may_overlap : Bool) (to from : Ptr) (count : ℕ) (one : Effect) → EffectLeaves program type held one → EffectLeaves program type held (unless_overlapping may_overlap to from count one)
overlap_leaves program type held true to from count one leaves = leaves
overlap_leaves program type held false to from count (gives value after) leaves = by (bytes_overlap to from count)
  where
    by : (test : Bool) → EffectLeaves program type held (if test then fails overlapping else gives value after)
    by true = tt
    by false = leaves
overlap_leaves program type held false to from count (gives_nothing after) leaves = leaves
overlap_leaves program type held false to from count (ends_program status) leaves = tt
overlap_leaves program type held false to from count (wants_block is_zero size) leaves = leaves
overlap_leaves program type held false to from count (fails fault) leaves = leaves

beside_leaves : (program : CProgram) (type : CTy) (held : Held) (found : Option Block) → EffectLeaves program type held (null_beside found)
beside_leaves program type held None = tt
beside_leaves program type held (Some block) = tt

copied_leaves : (program : CProgram) (type : CTy) (may_overlap : Bool) (to from : Value) (count : ℕ) (held : Held) → type ≡ type_of_known to_bytes → IsObjectPointer to → IsObjectPointer from → IsTypedMemory program held.blocks
    → EffectLeaves program type held (copied may_overlap to from count held)
copied_leaves program type may_overlap (Pointer to) (Pointer from) count held e to_is from_is memory =
    overlap_leaves program type held may_overlap to from count (accessed_as (Pointer to) held (after_copy held.blocks from to count))
    (accessed_leaves program type (Pointer to) held (after_copy held.blocks from to count) (bytes_given program type (Pointer to) e to_is) (λ after made. copy_written program held.blocks after from to count memory made))
copied_leaves program type may_overlap (Pointer to) Null count held e to_is from_is memory = beside_leaves program type held (live_block held.blocks to.block)
copied_leaves program type may_overlap Null (Pointer from) count held e to_is from_is memory = beside_leaves program type held (live_block held.blocks from.block)
copied_leaves program type may_overlap Null Null count held e to_is from_is memory = tt
copied_leaves program type may_overlap (Pointer to) (Number number) count held e to_is from_is memory = absurd from_is
copied_leaves program type may_overlap (Pointer to) (Function number) count held e to_is from_is memory = absurd from_is
copied_leaves program type may_overlap Null (Number number) count held e to_is from_is memory = absurd from_is
copied_leaves program type may_overlap Null (Function number) count held e to_is from_is memory = absurd from_is
copied_leaves program type may_overlap (Number number) from count held e to_is from_is memory = absurd to_is
copied_leaves program type may_overlap (Function number) from count held e to_is from_is memory = absurd to_is

copying_leaves : (program : CProgram) (type : CTy) (may_overlap : Bool) (to from : Value) (count : ℕ) (held : Held) → type ≡ type_of_known to_bytes → IsObjectPointer to → IsObjectPointer from → IsTypedMemory program held.blocks
    → EffectLeaves program type held (copying may_overlap to from count held)
copying_leaves program type may_overlap to from zero held e to_is from_is memory = (bytes_given program type to e to_is, memory, held_stays held)
copying_leaves program type may_overlap to from (suc n) held e to_is from_is memory = copied_leaves program type may_overlap to from (suc n) held e to_is from_is memory

filling_leaves : (program : CProgram) (type : CTy) (to : Value) (byte : ℤ) (count : ℕ) (held : Held) → type ≡ type_of_known to_bytes → IsObjectPointer to → IsTypedMemory program held.blocks
    → EffectLeaves program type held (filling to byte count held)
filling_leaves program type (Pointer at) byte count held e is memory =
    accessed_leaves program type (Pointer at) held (after_fill held.blocks at (residue byte 256) count) (bytes_given program type (Pointer at) e is) (λ after made. fill_written program held.blocks after at (residue byte 256) count memory made)
filling_leaves program type Null byte count held e is memory = tt
filling_leaves program type (Number number) byte count held e is memory = absurd is
filling_leaves program type (Function number) byte count held e is memory = absurd is

-- ---- any of them

at_values : (program : CProgram) (type : CTy) (does : Known) (held : Held) (values others : List Value) → values ≡ others → EffectLeaves program type held (effect does others held) → EffectLeaves program type held (effect does values held)
at_values program type does held values others e leaves = subst (λ xs. EffectLeaves program type held (effect does xs held)) (sym e) leaves

pub effect_leaves : (program : CProgram) (type : CTy) (does : Known) (values : List Value) (held : Held) → type ≡ type_of_known (result_of does) → AreKnown (params_of does) values → IsTypedMemory program held.blocks
    → EffectLeaves program type held (effect does values held)
effect_leaves program type (allocates false) values held e known memory =
    let args = one_argument size_value values known in
    let size = sized args.one args.one_known in
    at_values program type (allocates false) held values (Number (pos size.size) ∷ []) (args.is ∙ ap (λ v. v ∷ []) size.is) (allocation_leaves program type false size.size held e memory)
effect_leaves program type (allocates true) values held e known memory =
    let args = two_arguments size_value size_value values known in
    let count = sized args.one args.one_known in
    let size = sized args.two args.two_known in
    at_values program type (allocates true) held values (Number (pos count.size) ∷ Number (pos size.size) ∷ [])
    (args.is ∙ ap (λ v. v ∷ args.two ∷ []) count.is ∙ ap (λ v. Number (pos count.size) ∷ v ∷ []) size.is) (allocation_leaves program type true (count.size * size.size) held e memory)
effect_leaves program type frees values held e known memory =
    let args = one_argument to_bytes values known in
    at_values program type frees held values (args.one ∷ []) args.is (freeing_leaves program type args.one held args.one_known memory)
effect_leaves program type (copies may_overlap) values held e known memory =
    let args = three_arguments to_bytes to_const_bytes size_value values known in
    let count = sized args.three args.three_known in
    at_values program type (copies may_overlap) held values (args.one ∷ args.two ∷ Number (pos count.size) ∷ []) (args.is ∙ ap (λ v. args.one ∷ args.two ∷ v ∷ []) count.is)
    (copying_leaves program type may_overlap args.one args.two count.size held e args.one_known args.two_known memory)
effect_leaves program type fills values held e known memory =
    let args = three_arguments to_bytes int_value size_value values known in
    let byte = whole_value args.two args.two_known in
    let count = sized args.three args.three_known in
    at_values program type fills held values (args.one ∷ Number byte.number ∷ Number (pos count.size) ∷ [])
    (args.is ∙ ap (λ v. args.one ∷ v ∷ args.three ∷ []) byte.is ∙ ap (λ v. args.one ∷ Number byte.number ∷ v ∷ []) count.is) (filling_leaves program type args.one byte.number count.size held e args.one_known memory)
effect_leaves program type exits values held e known memory =
    let args = one_argument int_value values known in
    let status = whole_value args.one args.one_known in
    at_values program type exits held values (Number status.number ∷ []) (args.is ∙ ap (λ v. v ∷ []) status.is) tt
effect_leaves program type aborts [] held e known memory = tt
effect_leaves program type aborts (value ∷ values) held e known memory = absurd known
