-- The bodies of a crate's functions, and what its initialisers do (ISO C99, 6.7.8, 6.9.1).
use Rattle.std.specs.Prelude.{ℕ, ◌==◌, ◌||◌, not, Bool, true, false, if◌then◌else◌, List, [], ◌∷◌, flat_map, Option, Some, None}
use Rattle.build_flow_nodes.specs.Flows.{flow_of}
use Rattle.cx_core.specs.Trees.{CTy, CPuts, CObject, CFun}
use Rattle.emit_rules.specs.Bodies.{emitted}
use Rattle.flow.specs.Flows.{FlowTree}
use Rattle.lift_exprs.specs.Lifted.{lifted_puts}
use Rattle.lift_exprs.specs.Names.{type_in}
use Rattle.lift_exprs.specs.Objects.{object_at}
use Rattle.lift_exprs.specs.Written.{copied}
use Rattle.lift_forms.specs.Given.{address_of}
use Rattle.lift_forms.specs.Operators.{zero_of}
use Rattle.lift_held.specs.Held.{is_record, is_void}
use Rattle.reloop.specs.Shapes.{ShapeTree, has_dispatch}
use Rattle.rs_mean.specs.Laws.{behind}
use Rattle.rs_text.specs.Tree.{Local, Expr, Read, Stmt, Return, Stmts, no_stmts, more_stmts, stmts}
use Rattle.whole_bodies.specs.Names.{body_names, temporaries_of, own_names, object_type, result_type, module_names_in}
use Rattle.whole_items.specs.Items.{WrittenBody, WrittenBodies}
use Rattle.whole_names.specs.FunctionNames.{a_passed}
use Rattle.whole_names.specs.Kept.{NamedProgram, local_among}
use Rattle.whole_names.specs.ModuleNames.{name_or}

-- a shape for the flow of each function: two functions whose flows have equal graphs need not have the same
abbrev pub ShapeOf : Type 0
ShapeOf = CFun → ShapeTree

-- ---- functions

-- a structure or union that is passed is copied first, from where its pointer points to
abbrev pub copy_of_passed : NamedProgram → CFun → ℕ → List Stmt
copy_of_passed program fun number =
    let names = (body_names program fun).names in
    if is_record (object_type program number) then
    copied (Read (Local (name_or [] (local_among (a_passed number) (own_names program fun)))))
    (address_of (object_at names (object_type program number) number)) (names.size_of (object_type program number)) ∷ []
    else []

abbrev pub copies_of_passed : NamedProgram → CFun → List Stmt
copies_of_passed program fun = flat_map (copy_of_passed program fun) fun.params

abbrev pub is_return : Stmt → Bool
is_return (Return value) = true
is_return _ = false

-- statements whose last one is a `return`
abbrev pub ends_in_return : Stmts → Bool
ends_in_return no_stmts = false
ends_in_return (more_stmts s no_stmts) = is_return s
ends_in_return (more_stmts s (more_stmts other others)) = ends_in_return (more_stmts other others)

-- a function of the crate that gives a value ends in a `return`, though its end isn't reached
abbrev pub gives_value : CTy → Bool
gives_value type = not (is_void type || is_record type)

abbrev pub with_last_return : Bool → Expr → Stmts → Stmts
with_last_return true e body = if ends_in_return body then body else behind body (more_stmts (Return (Some e)) no_stmts)
with_last_return false e body = body

abbrev pub body_text : NamedProgram → ShapeOf → CFun → FlowTree → Stmts
body_text program shape fun flow =
    with_last_return (gives_value (result_type fun)) (zero_of (type_in (body_names program fun).names (result_type fun)))
    (behind (stmts (copies_of_passed program fun)) (emitted flow (shape fun)))

abbrev pub written_from : NamedProgram → ShapeOf → CFun → FlowTree → WrittenBody
written_from program shape fun flow = record {
  temporaries = temporaries_of program fun;
  has_dispatch = has_dispatch (shape fun);
  statements = body_text program shape fun flow;
}

-- the body of a function
abbrev pub written_body : NamedProgram → ShapeOf → CFun → WrittenBody
written_body program shape fun = written_from program shape fun (flow_of (body_names program fun) fun.body)

-- ---- initialisers

-- what a static object begins with beyond zeros, which no list tells
abbrev pub stored_contents : NamedProgram → CObject → Option CPuts → List Stmt
stored_contents program one None = []
stored_contents program one (Some puts) =
    let names = module_names_in program one.unit in
    if one.is_text then [] else (lifted_puts names one.type (object_at names one.type one.object) puts 0).body

abbrev pub stored_in_unit : NamedProgram → (unit : ℕ) → CObject → List Stmt
stored_in_unit program unit one = if one.unit == unit then stored_contents program one one.puts else []

-- in the order of the program's objects
abbrev pub initialiser : NamedProgram → (unit : ℕ) → Stmts
initialiser program unit = stmts (flat_map (stored_in_unit program unit) program.program.objects)

-- ---- all of them

abbrev pub written_bodies : NamedProgram → ShapeOf → WrittenBodies
written_bodies program shape = record { of_function = written_body program shape; initialiser = initialiser program }
