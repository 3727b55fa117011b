-- Chains of a walk in another grouping.
use Rattle.std.proofs.Common.{◌≡◌, refl, sym, ap, ◌∙◌, ℕ, List, [], ◌∷◌, drop, length, Option, Bool, false, not, ◌&&◌, is_some, is_none, if◌then◌else◌}
use Rattle.cx_contents.specs.Contents.{block_literals}
use Rattle.cr_base.specs.declared.refusal.Place.{Place as TextPlace}
use Rattle.cx_core.specs.Trees.{CTy, CPuts}
use Rattle.cx_decl_steps.specs.Kept.{kept_of}
use Rattle.cx_decl_steps.specs.Steps as steps
use Rattle.cx_declarations.specs.Walks as walks
use Rattle.cx_rules.specs.declared.kinds.SpecsPlace.{SpecsPlace}
use Rattle.cx_rules.specs.declared.kinds.SpecsPlace.TheVariants.{Definition}
use Rattle.cx_rules.specs.Declare.{CBegun}
use Rattle.cx_rules.specs.Initial.{CStored}
use Rattle.cx_rules.specs.Lines.{specs_line, declarator_line}
use Rattle.cx_rules.specs.Nodes.{declares_node}
use Rattle.cx_rules.specs.Pieces.{CFilled, at_line}
use Rattle.cx_rules.specs.Readings.{CChecked, stops, fine, Check, check_behind, check_gives, check_chain, check_here, check_becomes, check_look}
use Rattle.cx_rules.specs.Scope.{CMade, CScope, new_scope}
use Rattle.cx_rules.specs.Shapes.{CSpecs, CShape, base_type, no_specs_yet}
use Rattle.cx_rules.specs.UnitWalk as unit
use Rattle.cx_rules.specs.UnitWalk.{CHead, CMeant, literals_since, name_or_none, nothing_meant}
use Rattle.cx_rules.specs.Walk as walk
use Rattle.cx_rules.specs.Types.{defined_type}
use Rattle.cx_tree.specs.Trees.{SpecTrees, DeclaratorTree, InitialiserTree}

-- ---- literals

abbrev since_of : List CMade → List ℕ
since_of literals = literals_since (new_scope 0) (record (new_scope 0) { literals = literals })

since_is : (literals : List CMade) → since_of literals ≡ block_literals literals
since_is [] = refl
since_is (made ∷ others) = ap (λ rest. if is_none made.fixed then made.object ∷ rest else rest) (since_is others)

pub literals_are : (before scope : CScope) → literals_since before scope ≡ steps.literals_from (length before.literals) scope
literals_are before scope = since_is (drop (length before.literals) scope.literals)

-- ---- the end of a declarator

meant_is : (before scope : CScope) (place : TextPlace) (begun : CBegun) (has_init : Bool) (puts : CPuts)
    → unit.declared_meant before scope place begun has_init puts ≡ steps.declared_meant (length before.literals) scope place begun has_init puts
meant_is before scope place begun has_init puts =
    ap (λ literals. steps.with_literals literals (if scope.in_function && not begun.is_static then steps.begin_of place has_init puts begun.object else nothing_meant))
    (literals_are before scope)

changes_is : (place : SpecsPlace) (specs : CSpecs) (line : ℕ) (before : CScope) (begun : CBegun) (has_init : Bool) (filled : CFilled) (scope : CScope)
    → unit.ends_as Check check_gives check_chain check_here check_becomes check_look place specs line before begun has_init scope filled scope
    ≡ steps.ends_as (length before.literals) place specs line begun has_init scope filled scope
changes_is place specs line before begun has_init filled scope =
    ap (λ meant. walk.changed Check check_gives check_chain check_here check_becomes check_look scope line
    (declares_node (record {
      where_stands = place;
      specs = specs;
      type = filled.type;
      linkage = begun.linkage;
      clashes = unit.clashes_behind has_init scope begun filled.type;
      has_init = has_init;
    }))
    (unit.with_content_if has_init begun filled scope) meant scope)
    (meant_is before scope (at_line scope line) begun has_init filled.puts)

ends_is : (place : SpecsPlace) (specs : CSpecs) (line : ℕ) (before : CScope) (begun : CBegun) (has_init : Bool) (stored : List CStored) (scope : CScope)
    → unit.declared_ends Check check_gives check_chain check_here check_becomes check_look place specs line before begun has_init stored scope
    ≡ steps.declared_ended (length before.literals) place specs line begun has_init stored scope
unfolding check_chain check_here
ends_is place specs line before begun has_init stored scope =
    changes_is place specs line before begun has_init (unit.content_of has_init scope.types begun stored) scope

pub named_is : (place : SpecsPlace) (specs : CSpecs) (line : ℕ) (type : CTy) (shape : CShape) (init : Option InitialiserTree) (scope : CScope)
    → walks.named_by place specs line type (name_or_none shape.name) init scope ≡ walks.named_walk place specs line type shape init scope
named_is place specs line type shape init scope = sym (λ i.
    check_chain _ _ check_here (λ before. check_chain _ _ (steps.declared_begins place specs (name_or_none shape.name) line type (is_some init)) (λ begun.
    check_chain _ _ (walks.init_walk begun.target init) (λ stored after. ends_is place specs line before begun (is_some init) stored after i))) scope)

-- ---- heads

behind_behind : {A B C : Type 0} (walked : CChecked A) (second : A → Check B) (third : B → Check C)
    → check_behind (check_behind walked second) third ≡ check_behind walked (λ one. λ scope. check_behind (second one scope) third)
behind_behind (stops refusal) second third = refl
behind_behind (fine one scope) second third = refl

grouped : {A B C : Type 0} (first : Check A) (second : A → Check B) (third : B → Check C) (scope : CScope)
    → check_chain B C (check_chain A B first second) third scope ≡ check_chain A C first (λ one. check_chain B C (second one) third) scope
unfolding check_chain
grouped first second third scope = behind_behind (first scope) second third

head_is : (specs : CSpecs) (missing : ℕ) (declarator : DeclaratorTree) (scope : CScope)
    → check_chain _ _ (walks.head_walk specs missing declarator) (λ head. check_gives _ (kept_of head)) scope ≡ walks.head_kept specs missing declarator scope
head_is specs missing declarator scope =
    grouped (walks.declarator_walk declarator)
    (λ shape. check_chain _ _ (walks.derives_seen (declarator_line missing declarator) (base_type specs) shape) (λ type.
    unit.head_seen Check check_gives check_chain check_here check_becomes check_look specs (declarator_line missing declarator) shape (defined_type type)))
    (λ head. check_gives _ (kept_of head)) scope
    ∙ (λ i. check_chain _ _ (walks.declarator_walk declarator) (λ shape after.
    grouped (walks.derives_seen (declarator_line missing declarator) (base_type specs) shape)
    (λ type. unit.head_seen Check check_gives check_chain check_here check_becomes check_look specs (declarator_line missing declarator) shape (defined_type type))
    (λ head. check_gives _ (kept_of head)) after i) scope)

-- what is kept of the head of a definition is what its definition says
pub begins_is : (specs : SpecTrees) (declarator : DeclaratorTree) (scope : CScope)
    → check_chain _ _ (walks.specs_walk false no_specs_yet specs) (λ all.
    check_chain _ _ (walks.specs_seen Definition (specs_line specs) all) (λ _.
    check_chain _ _ (walks.head_walk all (specs_line specs) declarator) (λ head. check_gives _ (kept_of head)))) scope
    ≡ walks.definition_begins specs declarator scope
begins_is specs declarator scope = λ i.
    check_chain _ _ (walks.specs_walk false no_specs_yet specs) (λ all.
    check_chain _ _ (walks.specs_seen Definition (specs_line specs) all) (λ _ after. head_is all (specs_line specs) declarator after i)) scope
