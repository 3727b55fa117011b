-- Calls of known functions by typed programs (ISO C99, 7.20.3, 7.20.4 and 7.21): their arguments are values of the types of their
-- parameters.
use Rattle.std.proofs.Common.{◌≡◌, inl, inr, ℕ, ◌≤◌, Bool, true, false, true≢false, not, cond as chosen_by, if◌then◌else◌, ℤ, List, [], ◌∷◌, map, Option, Some, option_map, Result, Ok, Err, refl, sym, ap, subst, ◌∙◌, arith}
use Rattle.std.specs.List.{find}
use Rattle.std.specs.Str.{bytes_eq}
use Rattle.cr_base.specs.declared.refusal.Place.{Place}
use Rattle.cr_world.specs.Held.{Held}
use Rattle.cr_world.specs.Known.{KnownType, no_value, int_value, size_value, to_bytes, to_const_bytes, KnownFunction, known_table, known_named, Effect, gives, gives_nothing, ends_program, wants_block, fails, effect}
use Rattle.cr_world.specs.World.{World, Terms, open_ended, trail_of, astray, is_given, is_of_store, is_refused_by, after_allocation, granted_by_store, granted_on}
use Rattle.cx_core.specs.Externals.{CKnown, known_functions, known_as, HasSignature}
use Rattle.cx_core.specs.Trees.{CTy, CTyForm, void, basic, enum_type, pointer, array, record_type, function, unlisted, listed, CTys, no_types, more_types, types_in, unqualified, CProgram}
use Rattle.cx_mean.specs.Calls.{CCalled, COutcome, values_of, wrong_at, with_block, by_effect, known_call}
use Rattle.cx_mean.specs.Operands.{CWhy, breaks, stuck, CValue, scalar, cells, names, designates, designates_bits, missing, COperand, scalar_value}
use Rattle.mem_bytes.specs.Access.{and_then}
use Rattle.mem_bytes.specs.declared.value.Value.TheVariants.{Null}
use Rattle.cx_typed_values.specs.Outcomes.{Comes}
use Rattle.cx_typed_values.specs.Values.{most_bytes}
use Rattle.cx_typed_work.specs.ExternalCalls.{CallLeaves}
use Rattle.cx_typed_work.proofs.KnownEffects.{type_of_known, result_of, params_of, IsKnownValue, AreKnown, known_value, EffectLeaves, bytes_given, effect_leaves}
use Rattle.cx_typed_work.proofs.KnownMemories.{held_stays, allocated_typed, allocated_keeps}
use Rattle.cx_typed_work.proofs.Outcomes.{comes_and}
use Rattle.cx_typed_work.specs.Calls.{AreTaken, IsCalledAs}
use Rattle.cx_typed_work.specs.Operands.{IsValueOfType}
use Rattle.cx_typed_work.specs.Scenes.{IsTypedMemory}

-- ---- the table has the types of the profile

abbrev pub typed_row : KnownFunction → CKnown
typed_row one = record { name = one.name; signature = record { result = type_of_known one.result; params = map type_of_known one.params } }

tables_agree : map typed_row known_table ≡ known_functions
unfolding known_table known_functions
tables_agree = refl

abbrev pub IsRow : KnownFunction → Type 0
IsRow one = (one.result ≡ result_of one.does) × (one.params ≡ params_of one.does)

abbrev AreRows : List KnownFunction → Type 0
AreRows [] = Unit {0}
AreRows (first ∷ others) = IsRow first × AreRows others

rows : AreRows known_table
unfolding known_table
rows = ((refl, refl), ((refl, refl), ((refl, refl), ((refl, refl), ((refl, refl), ((refl, refl), ((refl, refl), ((refl, refl), tt))))))))

first_row : (first : KnownFunction) (found : Option KnownFunction) (one : KnownFunction) (same : Bool) → IsRow first → (found ≡ Some one → IsRow one) → chosen_by same (Some first) found ≡ Some one → IsRow one
first_row first found one true is rest e = let same : first ≡ one = cc (e) in subst IsRow same is
first_row first found one false is rest e = rest e

row_found : (test : KnownFunction → Bool) (all : List KnownFunction) (one : KnownFunction) → AreRows all → find test all ≡ Some one → IsRow one
row_found test [] one are e = cc
row_found test (first ∷ others) one are e = first_row first (find test others) one (test first) are.0 (row_found test others one are.1) e

pub known_row : (name : List ℕ) (one : KnownFunction) → known_named name ≡ Some one → IsRow one
known_row name one e = row_found (λ row. bytes_eq name row.name) known_table one rows e

first_typed : (first : KnownFunction) (found : Option KnownFunction) (typed : Option CKnown) (same : Bool) → typed ≡ option_map typed_row found → chosen_by same (Some (typed_row first)) typed ≡ option_map typed_row (chosen_by same (Some first) found)
first_typed first found typed true e = refl
first_typed first found typed false e = e

found_typed : (name : List ℕ) (all : List KnownFunction) → find (λ (one : CKnown). bytes_eq name one.name) (map typed_row all) ≡ option_map typed_row (find (λ (one : KnownFunction). bytes_eq name one.name) all)
found_typed name [] = refl
found_typed name (first ∷ others) =
    first_typed first (find (λ (one : KnownFunction). bytes_eq name one.name) others) (find (λ (one : CKnown). bytes_eq name one.name) (map typed_row others)) (bytes_eq name first.name) (found_typed name others)

-- the function of the table with a name is that of the profile
pub known_as_is : (name : List ℕ) → known_as name ≡ option_map typed_row (known_named name)
known_as_is name = ap (find (λ (one : CKnown). bytes_eq name one.name)) (sym tables_agree) ∙ found_typed name known_table

-- ---- arguments

-- values of the types of a row
abbrev AreOfTypes : CProgram → List KnownType → List COperand → Type 0
AreOfTypes program [] [] = Unit {0}
AreOfTypes program [] (first ∷ others) = ⊥
AreOfTypes program (type ∷ types) [] = ⊥
AreOfTypes program (type ∷ types) (first ∷ others) = IsValueOfType program (type_of_known type) first.value × AreOfTypes program types others

none_taken : (program : CProgram) (types : List KnownType) → [] ≡ map type_of_known types → AreOfTypes program types []
none_taken program [] e = tt
none_taken program (type ∷ types) e = cc (e)

taken_by_row : (program : CProgram) (types : List KnownType) (params : CTys) (args : List COperand) → map unqualified (types_in params) ≡ map type_of_known types → AreTaken program params false args → AreOfTypes program types args
taken_by_row program types no_types [] e are = none_taken program types e
taken_by_row program types no_types (first ∷ others) e are = absurd (true≢false (sym are.0))
taken_by_row program types (more_types param params) [] e are = absurd are
taken_by_row program [] (more_types param params) (first ∷ others) e are = cc (e)
taken_by_row program (type ∷ types) (more_types param params) (first ∷ others) e are =
    let head : unqualified param ≡ type_of_known type = cc (e) in
    let rest : map unqualified (types_in params) ≡ map type_of_known types = cc (e) in
    (subst (λ t. IsValueOfType program t first.value) (are.0 ∙ head) are.1, taken_by_row program types params others rest are.2)

no_args : (program : CProgram) (types : List KnownType) (args : List COperand) → [] ≡ map type_of_known types → args ≡ [] → AreOfTypes program types args
no_args program types args e none = subst (AreOfTypes program types) (sym none) (none_taken program types e)

-- a call by the type of a row has arguments of its types, and gives a value of its type
record IsRowCall (program : CProgram) (row : KnownFunction) (type : CTy) (args : List COperand) : Type 0 where
  type_is : type ≡ type_of_known row.result
  taken : AreOfTypes program row.params args

row_call : (program : CProgram) (row : KnownFunction) (form : CTyForm) (type : CTy) (args : List COperand) → HasSignature (typed_row row).signature form → IsCalledAs program form type args → IsRowCall program row type args
row_call program row (function result (listed params) variadic) type args has is =
    record { type_is = is.0 ∙ has.0; taken = taken_by_row program row.params params args has.1 (subst (λ v. AreTaken program params v args) has.2 is.2) }
row_call program row (function result unlisted variadic) type args has is = record { type_is = is.0 ∙ has.0; taken = no_args program row.params args has.1 is.2 }
row_call program row void type args has is = absurd is
row_call program row (basic which) type args has is = absurd is
row_call program row (enum_type number) type args has is = absurd is
row_call program row (pointer to) type args has is = absurd is
row_call program row (array element count) type args has is = absurd is
row_call program row (record_type number) type args has is = absurd is

scalar_there : (program : CProgram) (type : KnownType) (value : CValue) → IsValueOfType program (type_of_known type) value → Comes (IsKnownValue type) (scalar_value value)
scalar_there program type (scalar value) is = known_value program type value is
scalar_there program no_value (cells held from) is = absurd is.is_record
scalar_there program int_value (cells held from) is = absurd is.is_record
scalar_there program size_value (cells held from) is = absurd is.is_record
scalar_there program to_bytes (cells held from) is = absurd is.is_record
scalar_there program to_const_bytes (cells held from) is = absurd is.is_record
scalar_there program type (names number) is = absurd is
scalar_there program type (designates to) is = absurd is
scalar_there program type (designates_bits at bit width) is = absurd is
scalar_there program type missing is = absurd is

values_come : (program : CProgram) (types : List KnownType) (args : List COperand) → AreOfTypes program types args → Comes (AreKnown types) (values_of args)
values_come program [] [] are = tt
values_come program [] (first ∷ others) are = absurd are
values_come program (type ∷ types) [] are = absurd are
values_come program (type ∷ types) (first ∷ others) are =
    comes_and (IsKnownValue type) (AreKnown (type ∷ types)) (scalar_value first.value) _ (scalar_there program type first.value are.0) (λ value known.
    comes_and (AreKnown types) (AreKnown (type ∷ types)) (values_of others) _ (values_come program types others are.1) (λ rest behind. (known, behind)))

-- ---- what the call leaves

-- what comes before a call
pub leaves_and : {A : Type 0} (program : CProgram) (type : CTy) (before : Held) (Holds : A → Type 0) (place : Place) (outcome : Result A CWhy) (next : A → COutcome) → Comes Holds outcome
    → ((value : A) → Holds value → CallLeaves program type before (next value)) → CallLeaves program type before (and_then (wrong_at place outcome) next)
leaves_and program type before Holds place (Ok value) next comes each = each value comes
leaves_and program type before Holds place (Err (breaks rule)) next comes each = tt
leaves_and program type before Holds place (Err stuck) next comes each = absurd comes

-- a block is given, or null
allocation_leaves : (program : CProgram) (type : CTy) (world : World) (given is_zero : Bool) (size : ℕ) (left : List ℤ) → type ≡ type_of_known to_bytes → size ≤ most_bytes → IsTypedMemory program world.held.blocks
    → CallLeaves program type world.held (with_block (after_allocation given is_zero size left world))
allocation_leaves program type world true is_zero size left e fits memory =
    (inl (bytes_given program type _ e (omega arith)), allocated_typed program is_zero size world.held memory fits, allocated_keeps is_zero size world.held)
allocation_leaves program type world false is_zero size left e fits memory = (inl (bytes_given program type Null e tt), memory, held_stays world.held)

by_store_leaves : (program : CProgram) (type : CTy) (world : World) (refused : Bool) (answer : ℤ) (is_zero : Bool) (size : ℕ) (left : List ℤ) → type ≡ type_of_known to_bytes → size ≤ most_bytes → IsTypedMemory program world.held.blocks
    → CallLeaves program type world.held (with_block (granted_by_store refused answer is_zero size left world))
by_store_leaves program type world refused answer is_zero size left e fits memory = by (is_of_store refused answer)
  where
    by : (test : Bool) → CallLeaves program type world.held (with_block (if test then after_allocation (not refused) is_zero size left world else Err astray))
    by true = allocation_leaves program type world (not refused) is_zero size left e fits memory
    by false = tt

granted_leaves : (program : CProgram) (type : CTy) (world : World) (is_zero : Bool) (size : ℕ) (terms : Terms) (answers : List ℤ) → type ≡ type_of_known to_bytes → size ≤ most_bytes → IsTypedMemory program world.held.blocks
    → CallLeaves program type world.held (with_block (granted_on terms answers is_zero size world))
granted_leaves program type world is_zero size open_ended [] e fits memory = allocation_leaves program type world true is_zero size [] e fits memory
granted_leaves program type world is_zero size open_ended (answer ∷ left) e fits memory = allocation_leaves program type world (is_given answer) is_zero size left e fits memory
granted_leaves program type world is_zero size (trail_of limit) [] e fits memory = tt
granted_leaves program type world is_zero size (trail_of limit) (answer ∷ left) e fits memory = by_store_leaves program type world (is_refused_by limit world.held.blocks size) answer is_zero size left e fits memory

by_effect_leaves : (program : CProgram) (type : CTy) (place : Place) (world : World) (does : Effect) → IsTypedMemory program world.held.blocks → EffectLeaves program type world.held does → CallLeaves program type world.held (by_effect place world does)
by_effect_leaves program type place world (gives value held) memory leaves = (inl leaves.0, leaves.1, leaves.2)
by_effect_leaves program type place world (gives_nothing held) memory leaves = (inr tt, leaves.0, leaves.1)
by_effect_leaves program type place world (ends_program status) memory leaves = tt
by_effect_leaves program type place world (wants_block is_zero size) memory leaves = granted_leaves program type world is_zero size world.terms world.answers leaves.0 leaves.1 memory
by_effect_leaves program type place world (fails fault) memory leaves = leaves

pub known_leaves : (program : CProgram) (called : CCalled) (row : KnownFunction) (world : World) (form : CTyForm) → IsRow row → HasSignature (typed_row row).signature form → IsCalledAs program form called.type called.args
    → IsTypedMemory program world.held.blocks → CallLeaves program called.type world.held (known_call called row.does world)
known_leaves program called row world form is_row has is memory =
    let one = row_call program row form called.type called.args has is in
    leaves_and program called.type world.held (AreKnown row.params) called.place (values_of called.args) (λ args. by_effect called.place world (effect row.does args world.held)) (values_come program row.params called.args one.taken) (λ values known.
    by_effect_leaves program called.type called.place world (effect row.does values world.held) memory
    (effect_leaves program called.type row.does values world.held (one.type_is ∙ ap type_of_known is_row.0) (subst (λ types. AreKnown types values) is_row.1 known) memory))
