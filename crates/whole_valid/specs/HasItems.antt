-- What a program asks of the items of its crate (ISO C99, 6.2.2, 6.2.5, 6.7.2.1, 6.9; the Rust Reference, "Application binary interface" and "The C representation").
use Rattle.std.specs.Prelude.{◌≡◌, ℕ, List, map, Some, []}
use Rattle.std.specs.List.{Contains}
use Rattle.cx_core.specs.Layouts.{CRow, layouts_of, row_at}
use Rattle.cx_core.specs.Trees.{CFun, CObject}
use Rattle.rs_items.specs.Types.{rust_type}
use Rattle.rs_mean.specs.Layout.{laid_at}
use Rattle.rs_mean.specs.Lookups.{items_in, record_at}
use Rattle.rs_text.specs.Tree.{Code, FunctionItem, FunctionTree, LocalTree, ModuleTree, RecordTree, StaticItem, StaticTree, option_ty, tys}
use Rattle.whole_items.specs.Items.{attribute_of, function_attribute}
use Rattle.whole_names.specs.Keys.{a_function, a_record, an_object}
use Rattle.whole_names.specs.Kept.{NamedProgram, code_type, module_of, name_in, types_of}
use Rattle.whole_names.specs.ModuleNames.{name_or}

-- the module of a function's unit has a function of its name, its symbol and its type
pub record HasFunction (whole : NamedProgram) (modules : List ModuleTree) (fun : CFun) : Type 0 where
  pub tree : FunctionTree
  pub there : Contains (items_in modules (module_of whole fun.unit)) (FunctionItem tree)
  pub name_is : tree.name ≡ name_in whole fun.unit (a_function fun.function)
  pub attribute_is : tree.attribute ≡ function_attribute fun tree.name
  pub type_is : Code (tys (map (λ (one : LocalTree). one.ty) tree.params)) (option_ty tree.result) ≡ code_type whole fun.type

-- the module of a static object's unit has an object of its name, its symbol and its type
pub record HasStatic (whole : NamedProgram) (modules : List ModuleTree) (one : CObject) : Type 0 where
  pub tree : StaticTree
  pub there : Contains (items_in modules (module_of whole one.unit)) (StaticItem tree)
  pub name_is : tree.name ≡ name_in whole one.unit (an_object one.object)
  pub attribute_is : tree.attribute ≡ attribute_of one.linkage (name_or [] one.name) tree.name
  pub type_is : tree.ty ≡ rust_type (types_of whole) one.type

-- the module of a completed structure or union has a record of its name, laid out as it is in C
pub record HasRecord (whole : NamedProgram) (modules : List ModuleTree) (unit number : ℕ) : Type 0 where
  pub tree : RecordTree
  pub row : CRow
  pub found : record_at modules (module_of whole unit) (name_in whole unit (a_record number)) ≡ Some tree
  pub row_is : row_at (layouts_of whole.program.types) number ≡ Some row
  pub laid_is : laid_at modules (module_of whole unit) (name_in whole unit (a_record number)) ≡ Some row.laid
