-- The names and the types of objects with which the temporaries of a function are found.
use Rattle.std.specs.Prelude.{◌≡◌, ℕ, List, ◌++◌, map}
use Rattle.build_flow_nodes.specs.Parts.{temporaries_in_stmt, zeroed_in, zeroed_in_form}
use Rattle.cx_core.specs.Trees.{CTy, CStmt, stmt, CFun}
use Rattle.cx_core.specs.Typing.{object_with}
use Rattle.cx_core.specs.Views.{view_object}
use Rattle.cx_core.specs.declared.program.CoreObject.{CoreObject}
use Rattle.lift_exprs.specs.Names.{Names, type_in}
use Rattle.lift_stores.specs.Names.{lift_names}
use Rattle.rs_items.specs.Known.{view_names}
use Rattle.rs_items.specs.declared.map.NameMap.{NameMap}
use Rattle.rs_text.specs.Tree.{Ty}
use Rattle.whole_bodies.specs.Names.{module_names_in, type_of_found}
use Rattle.whole_names.specs.Kept.{NamedProgram}

-- the names with which expressions are written
unfoldable pub names_of : NameMap → Names
names_of names = lift_names (view_names names)

-- the types of objects
unfoldable pub type_among : List CoreObject → ℕ → CTy
type_among objects number = type_of_found (object_with number (map view_object objects))

-- the objects of an open statement to which zero bytes are copied
abbrev pub zeroed_inside : Names → (ℕ → CTy) → CStmt → List ℕ
zeroed_inside names types (stmt place objects form) = zeroed_in_form names types form

-- the types of all temporaries of a body
abbrev pub all_types : Names → (ℕ → CTy) → CStmt → List Ty
all_types names types body = temporaries_in_stmt names body ++ map (λ number. type_in names (types number)) (zeroed_in names types body)

-- the body of a function, with the names of its module outside of functions
pub record AreFor (program : NamedProgram) (fun : CFun) (names : Names) (types : ℕ → CTy) (body : CStmt) : Type 0 where
  pub names_are : names ≡ module_names_in program fun.unit
  pub types_are : types ≡ (λ number. type_of_found (object_with number program.program.objects))
  pub body_is : body ≡ fun.body
