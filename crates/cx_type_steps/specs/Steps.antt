-- The steps of the walk that stops at the first broken node, each a node with what its children mean.
use Rattle.std.specs.Prelude.{ℕ, ℤ, Bool, false, List, Option, Some}
use Rattle.cx_core.specs.Trees.{CTy, ty, enum_type, CMember}
use Rattle.cx_rules.specs.declared.kinds.SpecsPlace.{SpecsPlace}
use Rattle.cx_rules.specs.Nodes.{enum_node}
use Rattle.cx_rules.specs.Operands.{COperand}
use Rattle.cx_rules.specs.Pieces.{with_closed_enum, declared_since}
use Rattle.cx_rules.specs.Readings.{Check, check_gives, check_chain, check_here, check_becomes, check_look}
use Rattle.cx_rules.specs.Scope.{CScope, CTag, left}
use Rattle.cx_rules.specs.Shapes.{CSpecs, with_type, base_type, CParam, CStep, to_function, CShape, step_before}
use Rattle.cx_rules.specs.Walk as walk

abbrev pub specs_seen : SpecsPlace → ℕ → CSpecs → Check CSpecs
specs_seen = walk.specs_seen Check check_gives check_chain check_here check_becomes check_look

abbrev pub typedef_seen : CSpecs → List ℕ → Check CSpecs
typedef_seen = walk.typedef_seen Check check_gives check_chain check_here check_becomes check_look

abbrev pub record_use_seen : Bool → CSpecs → Bool → Option (List ℕ) → ℕ → Check CSpecs
record_use_seen = walk.record_use_seen Check check_gives check_chain check_here check_becomes check_look

abbrev pub record_begins : Bool → Option (List ℕ) → Check CScope
record_begins = walk.record_begins Check check_gives check_chain check_here check_becomes check_look

abbrev pub record_ended : CSpecs → Bool → Option (List ℕ) → ℕ → List CMember → CScope → Option CTag → ℕ → Check CSpecs
record_ended = walk.record_ended Check check_gives check_chain check_here check_becomes check_look

abbrev pub record_ends : CScope → CSpecs → Bool → Option (List ℕ) → ℕ → List CMember → Check CSpecs
record_ends = walk.record_ends Check check_gives check_chain check_here check_becomes check_look

abbrev pub enum_use_seen : CSpecs → Option (List ℕ) → ℕ → Check CSpecs
enum_use_seen = walk.enum_use_seen Check check_gives check_chain check_here check_becomes check_look

abbrev pub enum_begins : Option (List ℕ) → Check CScope
enum_begins = walk.enum_begins Check check_gives check_chain check_here check_becomes check_look

abbrev pub enum_ends : CScope → CSpecs → Option (List ℕ) → ℕ → Bool → Check CSpecs
enum_ends = walk.enum_ends Check check_gives check_chain check_here check_becomes check_look

abbrev pub enumerator_seen : List ℕ → ℕ → ℤ → Option COperand → Check ℤ
enumerator_seen = walk.enumerator_seen Check check_gives check_chain check_here check_becomes check_look

abbrev pub derives_seen : ℕ → CTy → CShape → Check CTy
derives_seen = walk.derives_seen Check check_gives check_chain check_here check_becomes check_look

abbrev pub member_seen : Bool → List CMember → ℕ → Option (List ℕ) → CTy → Option COperand → Check CMember
member_seen = walk.member_seen Check check_gives check_chain check_here check_becomes check_look

abbrev pub array_seen : ℕ → Bool → Option COperand → Check CStep
array_seen = walk.array_seen Check check_gives check_chain check_here check_becomes check_look

abbrev pub identifiers_seen : ℕ → List (List ℕ) → CShape → Check CShape
identifiers_seen = walk.identifiers_seen Check check_gives check_chain check_here check_becomes check_look

abbrev pub params_begin : Check CScope
params_begin = walk.params_begin Check check_gives check_chain check_here check_becomes check_look

abbrev pub params_end : CScope → List CParam → Bool → CShape → Check CShape
params_end = walk.params_end Check check_gives check_chain check_here check_becomes check_look

abbrev pub param_seen : Bool → ℕ → CSpecs → Option (List ℕ) → CTy → Check (Option CParam)
param_seen = walk.param_seen Check check_gives check_chain check_here check_becomes check_look

-- ---- steps whose earlier scope is known by what the code keeps of it

-- a list of enumerators, before which its tag meant this, and whose type has a number
abbrev pub enum_ended : CSpecs → Option (List ℕ) → ℕ → Bool → Option CTag → ℕ → Check CSpecs
enum_ended specs name line negative found number = check_chain _ _ check_here (λ scope.
    walk.changed Check check_gives check_chain check_here check_becomes check_look scope line (enum_node found) (with_closed_enum name number negative scope)
    (with_type (ty (enum_type number) false) specs))

-- a list of parameters, before which there were so many declarations
abbrev pub params_ended : (count begins : ℕ) → List CParam → Bool → CShape → Check CShape
params_ended count begins params variadic shape = check_chain _ _ check_here (λ scope.
    check_chain _ _ (check_becomes (left count begins scope)) (λ _.
    check_gives _ (step_before (to_function (Some params) variadic (declared_since count scope)) shape)))

-- a parameter with its declarator, by the lines on which its specifiers and the declarator begin
abbrev pub param_derived : Bool → (line own : ℕ) → CSpecs → CShape → Check (Option CParam)
param_derived is_only line own specs shape =
    check_chain _ _ (derives_seen own (base_type specs) shape) (λ type. param_seen is_only line specs shape.name type)
