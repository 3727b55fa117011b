-- The walk over declarations and heads of definitions, up to the first broken node.
use Rattle.std.specs.Prelude.{ℕ, Bool, ◌&&◌, List, [], ◌∷◌, Option, true, false, is_some, length}
use Rattle.cx_core.specs.Trees.{CTy}
use Rattle.cx_decl_steps.specs.Kept.{CHeadKept}
use Rattle.cx_decl_steps.specs.Steps as steps
use Rattle.cx_rules.specs.declared.kinds.SpecsPlace.{SpecsPlace}
use Rattle.cx_rules.specs.declared.kinds.SpecsPlace.TheVariants.{Definition}
use Rattle.cx_rules.specs.Declare.{CBegun}
use Rattle.cx_rules.specs.Initial.{CStored}
use Rattle.cx_rules.specs.Lines.{specs_line, declarator_line}
use Rattle.cx_rules.specs.Pieces.{CTarget}
use Rattle.cx_rules.specs.Readings.{Check, check_gives, check_chain, check_here, check_becomes, check_look}
use Rattle.cx_rules.specs.Shapes.{CSpecs, CShape, base_type, no_specs_yet}
use Rattle.cx_rules.specs.UnitWalk as unit
use Rattle.cx_rules.specs.UnitWalk.{CHead, CMeant}
use Rattle.cx_rules.specs.Types.{defined_type}
use Rattle.cx_tree.specs.Trees.{SpecTree, SpecTrees, Record, no_members, no_specs, more_specs, DeclaratorTree, InitialiserTree, InitDeclaratorTree, DeclTree}

abbrev pub init_walk : CTarget → Option InitialiserTree → Check (List CStored)
init_walk = unit.init_walk Check check_gives check_chain check_here check_becomes check_look

abbrev pub specs_walk : Bool → CSpecs → SpecTrees → Check CSpecs
specs_walk = unit.specs_walk Check check_gives check_chain check_here check_becomes check_look

abbrev pub specs_seen : SpecsPlace → ℕ → CSpecs → Check CSpecs
specs_seen = unit.specs_seen Check check_gives check_chain check_here check_becomes check_look

abbrev pub declarator_walk : DeclaratorTree → Check CShape
declarator_walk = unit.declarator_walk Check check_gives check_chain check_here check_becomes check_look

abbrev pub derives_seen : ℕ → CTy → CShape → Check CTy
derives_seen = unit.derives_seen Check check_gives check_chain check_here check_becomes check_look

abbrev pub named_walk : SpecsPlace → CSpecs → ℕ → CTy → CShape → Option InitialiserTree → Check CMeant
named_walk = unit.named_walk Check check_gives check_chain check_here check_becomes check_look

abbrev pub init_declarator_walk : SpecsPlace → CSpecs → ℕ → InitDeclaratorTree → Check CMeant
init_declarator_walk = unit.init_declarator_walk Check check_gives check_chain check_here check_becomes check_look

abbrev pub init_declarators_walk : SpecsPlace → CSpecs → ℕ → List InitDeclaratorTree → Check CMeant
init_declarators_walk = unit.init_declarators_walk Check check_gives check_chain check_here check_becomes check_look

abbrev pub list_walk : SpecsPlace → CSpecs → ℕ → List InitDeclaratorTree → Check CMeant
list_walk = unit.list_walk Check check_gives check_chain check_here check_becomes check_look

abbrev pub decl_walk : SpecsPlace → DeclTree → Check CMeant
decl_walk = unit.decl_walk Check check_gives check_chain check_here check_becomes check_look

abbrev pub head_walk : CSpecs → ℕ → DeclaratorTree → Check CHead
head_walk = unit.head_walk Check check_gives check_chain check_here check_becomes check_look

-- ---- parts that the code has

-- the initialiser of a name, and its end, where there were so many literals before
abbrev pub begun_walk : (literals : ℕ) → SpecsPlace → CSpecs → ℕ → CBegun → Option InitialiserTree → Check CMeant
begun_walk literals place specs line begun init = check_chain _ _ (init_walk begun.target init) (λ stored.
    steps.declared_ended literals place specs line begun (is_some init) stored)

-- a name with its type, and its initialiser
abbrev pub named_by : SpecsPlace → CSpecs → ℕ → CTy → List ℕ → Option InitialiserTree → Check CMeant
named_by place specs line type name init = check_chain _ _ check_here (λ before.
    check_chain _ _ (steps.declared_begins place specs name line type (is_some init)) (λ begun.
    begun_walk (length before.literals) place specs line begun init))

-- `struct s` or `union s` without a list
abbrev pub is_record_use : SpecTree → Bool
is_record_use (Record is_union name no_members lines) = true
is_record_use _ = false

abbrev pub is_last : SpecTrees → Bool
is_last no_specs = true
is_last _ = false

abbrev pub declares_nothing : List InitDeclaratorTree → Bool
declares_nothing [] = true
declares_nothing (first ∷ others) = false

abbrev pub stands_alone : SpecTrees → Bool
stands_alone no_specs = false
stands_alone (more_specs first others) = is_last others && is_record_use first

-- the head of a definition, and what is kept of it
abbrev pub head_kept : CSpecs → ℕ → DeclaratorTree → Check CHeadKept
head_kept specs missing declarator = check_chain _ _ (declarator_walk declarator) (λ shape.
    check_chain _ _ (derives_seen (declarator_line missing declarator) (base_type specs) shape) (λ type.
    steps.head_kept specs (declarator_line missing declarator) shape (defined_type type)))

abbrev pub definition_begins : SpecTrees → DeclaratorTree → Check CHeadKept
definition_begins specs declarator = check_chain _ _ (specs_walk false no_specs_yet specs) (λ all.
    check_chain _ _ (specs_seen Definition (specs_line specs) all) (λ _. head_kept all (specs_line specs) declarator))
