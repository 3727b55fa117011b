-- The steps of the walk over declarations that stops at the first broken node.
use Rattle.std.specs.Prelude.{ℕ, Bool, true, false, not, ◌&&◌, ◌||◌, if◌then◌else◌, List, [], ◌∷◌, ◌++◌, drop, length, Option, None, Some}
use Rattle.cr_base.specs.declared.refusal.Place.{Place as TextPlace}
use Rattle.cx_contents.specs.Contents as contents
use Rattle.cx_contents.specs.Contents.{CContent}
use Rattle.cx_core.specs.Trees.{CTy, CTypes, CPuts, CStmt, stmt, begin, CFun, CUnit}
use Rattle.cx_decl_steps.specs.Kept.{CHeadKept, kept_of}
use Rattle.cx_entities.specs.Entities.{object_number, is_told}
use Rattle.cx_entities.specs.Linkage.{lives_on}
use Rattle.cx_lex.specs.declared.token.Keyword.TheVariants as keyword
use Rattle.cx_rules.specs.declared.kinds.SpecsPlace.{SpecsPlace}
use Rattle.cx_rules.specs.Declare.{CBegun, CDeclaring, clashes, is_outside, is_typedef, with_head, head_number, own_params}
use Rattle.cx_rules.specs.Initial.{CStored}
use Rattle.cx_rules.specs.Nodes.{declares_node, head_node}
use Rattle.cx_rules.specs.Pieces.{Done, CFilled, CTarget, at_line, filled_object, whole_target}
use Rattle.cx_rules.specs.Readings.{Check, check_gives, check_chain, check_here, check_becomes, check_look}
use Rattle.cx_rules.specs.Scope.{CScope, CThing}
use Rattle.cx_rules.specs.Shapes.{CSpecs, CStep, CShape, has_storage, last_step}
use Rattle.cx_rules.specs.Types.{is_function, is_array, has_size}
use Rattle.cx_rules.specs.UnitWalk as unit
use Rattle.cx_rules.specs.UnitWalk.{CMeant, nothing_meant}
use Rattle.cx_rules.specs.Walk as walk

-- ---- declarators

abbrev pub begins_as : CScope → CDeclaring → CTy → Check CBegun
begins_as = unit.begins_as Check check_gives check_chain check_here check_becomes check_look

abbrev pub declared_begins : SpecsPlace → CSpecs → List ℕ → ℕ → CTy → Bool → Check CBegun
declared_begins = unit.declared_begins Check check_gives check_chain check_here check_becomes check_look

-- whether an initialiser may stand there (6.7.8p3, p5)
abbrev pub may_be_initialised : CTypes → SpecsPlace → CSpecs → CTy → Bool
may_be_initialised types place specs type =
    not (is_typedef specs)
    && (not (is_function type) && ((is_outside place || not (has_storage keyword.Extern specs)) && (has_size types type || is_array type)))

abbrev pub target_type : Bool → CTy → Option CTy
target_type true type = Some type
target_type false type = None

abbrev pub target_of : CTypes → CDeclaring → CTarget
target_of types one =
    whole_target (lives_on one.linkage one.specs) (target_type (may_be_initialised types one.where_stands one.specs one.type) one.type)

abbrev pub if_object : Bool → ℕ → Option ℕ
if_object true number = Some number
if_object false number = None

abbrev pub object_of : CScope → CDeclaring → Option ℕ
object_of scope one = if_object (not (is_typedef one.specs || is_function one.type)) (object_number scope one)

abbrev pub mention_of : CScope → CDeclaring → Option ℕ
mention_of scope one = if is_told one then Some (length scope.mentions) else None

-- ---- what initialisers leave

abbrev pub unfilled : CTypes → CTy → CFilled
unfilled types type = record { type = type; puts = (filled_object types type []).puts }

abbrev pub filled_by : Bool → CTypes → CTy → List CStored → CFilled
filled_by true types type stored = filled_object types type stored
filled_by false types type stored = unfilled types type

abbrev pub with_content_if : Bool → CContent → CTy → CPuts → CScope → CScope
with_content_if true one type puts scope = contents.with_content one type puts scope
with_content_if false one type puts scope = scope

-- ---- what declarations mean

abbrev pub puts_if : Bool → CPuts → Option CPuts
puts_if has_init puts = if has_init then Some puts else None

abbrev pub begins_with : TextPlace → Option CPuts → Option ℕ → CMeant
begins_with place puts None = nothing_meant
begins_with place puts (Some number) = record { stmts = stmt place [] (begin number puts) ∷ []; objects = number ∷ [] }

abbrev pub begin_of : TextPlace → Bool → CPuts → Option ℕ → CMeant
begin_of place has_init puts None = nothing_meant
begin_of place has_init puts (Some number) =
    record { stmts = stmt place [] (begin number (if has_init then Some puts else None)) ∷ []; objects = number ∷ [] }

abbrev pub with_literals : List ℕ → CMeant → CMeant
with_literals literals meant = record meant { objects = meant.objects ++ literals }

-- the objects of the literals of a block that came since there were so many literals
abbrev pub literals_from : ℕ → CScope → List ℕ
literals_from count scope = contents.block_literals (drop count scope.literals)

abbrev pub declared_meant : (literals : ℕ) → CScope → TextPlace → CBegun → Bool → CPuts → CMeant
declared_meant literals scope place begun has_init puts =
    with_literals (literals_from literals scope)
    (if scope.in_function && not begun.is_static then begin_of place has_init puts begun.object else nothing_meant)

abbrev pub ends_as : (literals : ℕ) → SpecsPlace → CSpecs → ℕ → CBegun → Bool → CScope → CFilled → Check CMeant
ends_as literals place specs line begun has_init scope filled =
    walk.changed Check check_gives check_chain check_here check_becomes check_look scope line
    (declares_node (record {
      where_stands = place;
      specs = specs;
      type = filled.type;
      linkage = begun.linkage;
      clashes = unit.clashes_behind has_init scope begun filled.type;
      has_init = has_init;
    }))
    (unit.with_content_if has_init begun filled scope)
    (declared_meant literals scope (at_line scope line) begun has_init filled.puts)

-- the initialiser of a declarator has ended, before which there were so many literals
abbrev pub declared_ended : (literals : ℕ) → SpecsPlace → CSpecs → ℕ → CBegun → Bool → List CStored → Check CMeant
declared_ended literals place specs line begun has_init stored = check_chain _ _ check_here (λ scope.
    ends_as literals place specs line begun has_init scope (unit.content_of has_init scope.types begun stored))

abbrev pub empty_seen : ℕ → CSpecs → Check CMeant
empty_seen = unit.empty_seen Check check_gives check_chain check_here check_becomes check_look

-- ---- functions

abbrev pub body_begun : List CStep → CScope → CScope
body_begun steps scope = contents.body_begun (contents.step_within (last_step steps)) (contents.step_params (last_step steps)) scope

abbrev pub head_of : CScope → CDeclaring → List CStep → CTy → CHeadKept
head_of scope one steps written =
    kept_of (record { before = scope; declaring = one; number = head_number scope one; written = written; params = own_params steps })

abbrev pub head_as : CDeclaring → List CStep → CTy → CScope → Check CHeadKept
head_as one steps written scope =
    walk.changed Check check_gives check_chain check_here check_becomes check_look scope one.line
    (head_node (record { specs = one.specs; type = written; steps = steps; clashes = clashes scope one.name (is_typedef one.specs) written one.linkage true }))
    (with_head one written steps scope) (head_of scope one steps written)

abbrev pub function_in : (unit : ℕ) → CHeadKept → CStmt → CFun
function_in unit one body = record {
  function = one.number;
  name = one.name;
  unit = unit;
  linkage = one.linkage;
  type = one.type;
  params = one.params;
  body = body;
}

-- the head of a definition, and what is kept of it
abbrev pub head_kept : CSpecs → ℕ → CShape → CTy → Check CHeadKept
head_kept specs line shape written =
    check_chain _ _ (unit.head_seen Check check_gives check_chain check_here check_becomes check_look specs line shape written) (λ head. check_gives _ (kept_of head))

-- the body of a function has ended
abbrev pub body_ended : CHeadKept → CStmt → Check Done
body_ended one body = check_chain _ _ check_here (λ scope. check_becomes (contents.body_ended one.count one.begins (function_in scope.unit one body) scope))

-- ---- units

abbrev pub tentative_seen : CThing → Check Done
tentative_seen = unit.tentative_seen Check check_gives check_chain check_here check_becomes check_look

abbrev pub tentatives_seen : List CThing → Check Done
tentatives_seen = unit.tentatives_seen Check check_gives check_chain check_here check_becomes check_look

abbrev pub unit_ends : Check CUnit
unit_ends = unit.unit_ends Check check_gives check_chain check_here check_becomes check_look
