-- The walk up to the first broken node, over each kind of tree.
use Rattle.std.specs.Prelude.{ℕ, ℤ, Bool, true, false, not, List, [], Option}
use Rattle.cx_core.specs.Trees.{CTy, CMember}
use Rattle.cx_rules.specs.Initial.{CAt, CStored}
use Rattle.cx_rules.specs.Lines.{declarator_line}
use Rattle.cx_rules.specs.Operands.{COperand}
use Rattle.cx_rules.specs.Pieces.{CFilling, CTarget, designated_from, object_of_type}
use Rattle.cx_rules.specs.Readings.{Check, check_gives, check_chain, check_here, check_becomes, check_look}
use Rattle.cx_rules.specs.Shapes.{CSpecs, base_type, CParam, CStep, CShape}
use Rattle.cx_rules.specs.Walk as walk
use Rattle.cx_tree.specs.Trees.{ExprTrees, OptionExprTree, SpecTree, SpecTrees, MemberDeclTree, MemberDeclTrees, MemberDeclaratorTree, MemberDeclaratorTrees, EnumeratorTree, EnumeratorTrees, DeclaratorTree, BracketsTree, ParamTree, ParamTrees, InitialiserTree, InitialiserListTree, EntryTree, Entry, EntryTrees, DesignatorTree, DesignatorTrees, no_designators, more_designators}

abbrev pub exprs_walk : ExprTrees → Check (List COperand)
exprs_walk = walk.exprs_walk Check check_gives check_chain check_here check_becomes check_look

abbrev pub option_walk : OptionExprTree → Check (Option COperand)
option_walk = walk.option_walk Check check_gives check_chain check_here check_becomes check_look

abbrev pub spec_walk : Bool → CSpecs → SpecTree → Check CSpecs
spec_walk = walk.spec_walk Check check_gives check_chain check_here check_becomes check_look

abbrev pub specs_walk : Bool → CSpecs → SpecTrees → Check CSpecs
specs_walk = walk.specs_walk Check check_gives check_chain check_here check_becomes check_look

abbrev pub member_decls_walk : List CMember → MemberDeclTrees → Check (List CMember)
member_decls_walk = walk.member_decls_walk Check check_gives check_chain check_here check_becomes check_look

abbrev pub member_decl_walk : Bool → List CMember → MemberDeclTree → Check (List CMember)
member_decl_walk = walk.member_decl_walk Check check_gives check_chain check_here check_becomes check_look

abbrev pub member_declarators_walk : Bool → List CMember → CTy → MemberDeclaratorTrees → Check (List CMember)
member_declarators_walk = walk.member_declarators_walk Check check_gives check_chain check_here check_becomes check_look

abbrev pub member_declarator_walk : Bool → List CMember → CTy → MemberDeclaratorTree → Check CMember
member_declarator_walk = walk.member_declarator_walk Check check_gives check_chain check_here check_becomes check_look

abbrev pub enumerators_walk : ℤ → Bool → EnumeratorTrees → Check Bool
enumerators_walk = walk.enumerators_walk Check check_gives check_chain check_here check_becomes check_look

abbrev pub enumerator_walk : ℤ → EnumeratorTree → Check ℤ
enumerator_walk = walk.enumerator_walk Check check_gives check_chain check_here check_becomes check_look

abbrev pub declarator_walk : DeclaratorTree → Check CShape
declarator_walk = walk.declarator_walk Check check_gives check_chain check_here check_becomes check_look

-- the type to which a declarator leads from that of specifiers, which begin on a line
abbrev pub type_behind : ℕ → CSpecs → DeclaratorTree → Check CTy
type_behind line specs declarator = check_chain _ _ (declarator_walk declarator) (λ shape.
    walk.derives_seen Check check_gives check_chain check_here check_becomes check_look (declarator_line line declarator) (base_type specs) shape)

abbrev pub brackets_walk : ℕ → BracketsTree → Check CStep
brackets_walk = walk.brackets_walk Check check_gives check_chain check_here check_becomes check_look

abbrev pub params_walk : Bool → ParamTrees → Check (List CParam)
params_walk = walk.params_walk Check check_gives check_chain check_here check_becomes check_look

abbrev pub initialiser_walk : CTarget → InitialiserTree → Check (List CStored)
initialiser_walk = walk.initialiser_walk Check check_gives check_chain check_here check_becomes check_look

abbrev pub list_walk : CTarget → List CStored → InitialiserListTree → Check (List CStored)
list_walk = walk.list_walk Check check_gives check_chain check_here check_becomes check_look

abbrev pub entries_walk : CTarget → CFilling → EntryTrees → Check (List CStored)
entries_walk = walk.entries_walk Check check_gives check_chain check_here check_becomes check_look

abbrev pub entry_walk : CTarget → CFilling → EntryTree → Check CFilling
entry_walk = walk.entry_walk Check check_gives check_chain check_here check_becomes check_look

-- whether an entry has no designator
abbrev pub is_direct : DesignatorTrees → Bool
is_direct no_designators = true
is_direct (more_designators first others) = false

-- the part that the value of an entry is for: where its designators lead, or the one behind the value before (6.7.8p17, p18)
abbrev pub entry_part : CTarget → CFilling → EntryTree → Check (Option CAt)
entry_part target filling (Entry designators init lines) =
    walk.either Check check_gives check_chain check_here check_becomes check_look (is_direct designators) (check_gives _ filling.next)
    (walk.designators_walk Check check_gives check_chain check_here check_becomes check_look (designated_from target) designators)

abbrev pub initialiser_in : EntryTree → InitialiserTree
initialiser_in (Entry _ init _) = init

abbrev pub designators_walk : Option CAt → DesignatorTrees → Check (Option CAt)
designators_walk = walk.designators_walk Check check_gives check_chain check_here check_becomes check_look

abbrev pub designator_walk : Option CAt → DesignatorTree → Check (Option CAt)
designator_walk = walk.designator_walk Check check_gives check_chain check_here check_becomes check_look

abbrev pub given_walk : CTarget → Option CAt → CFilling → InitialiserTree → Check CFilling
given_walk = walk.given_walk Check check_gives check_chain check_here check_becomes check_look

-- the list of a compound literal of a type, which begins and ends
abbrev pub literal_walk : CTy → ℕ → InitialiserListTree → Check COperand
literal_walk type line list =
    check_chain _ _ (walk.literal_begins Check check_gives check_chain check_here check_becomes check_look type) (λ before.
    check_chain _ _ (list_walk (object_of_type (not before.in_function) type) [] list) (λ stored.
    walk.literal_ends Check check_gives check_chain check_here check_becomes check_look before line type stored))

abbrev pub param_walk : Bool → ParamTree → Check (Option CParam)
param_walk = walk.param_walk Check check_gives check_chain check_here check_becomes check_look
