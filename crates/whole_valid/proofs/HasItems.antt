-- The crate has the functions, the static objects and the records that its program asks for.
use Rattle.std.proofs.Common.{◌≡◌, ◌<◌, ℕ, List, None, Some, All, length, refl, sym, subst}
use Rattle.cx_core.specs.Linked.{IsTypedFunction}
use Rattle.cx_core.specs.Trees.{CFun, CObject, CPuts}
use Rattle.rs_text.specs.Tree.{FunctionItem, ItemTree, ModuleTree, StaticItem}
use Rattle.rs_mean.specs.Lookups.{items_in}
use Rattle.std.specs.List.{Contains}
use Rattle.whole_items.specs.Items.{WrittenBodies, function_tree, module_tree}
use Rattle.whole_means.proofs.Items.{function_item_there, record_written, static_item_there, static_tree}
use Rattle.whole_means.proofs.Layouts.{laid_found}
use Rattle.whole_means.proofs.Lists.{Among, among_contains}
use Rattle.whole_means.proofs.Modules.{items_found, modules_by}
use Rattle.whole_means.proofs.Params.{code_is}
use Rattle.whole_means.proofs.Records.{IsDone, record_found}
use Rattle.whole_means.specs.Written.{IsNamed}
use Rattle.whole_names.specs.Kept.{NamedProgram, module_of}
use Rattle.whole_valid.proofs.Names.{all_of}
use Rattle.whole_valid.specs.HasItems.{HasFunction, HasRecord, HasStatic}

module _ (whole : NamedProgram) (is : IsNamed whole) (bodies : WrittenBodies) where
  abbrev modules : List ModuleTree
  modules = modules_by (module_tree whole bodies) 0 (length whole.module_names)

  item_there : (unit : ℕ) (item : ItemTree) → unit < length whole.module_names → Among (module_tree whole bodies unit).items item → Contains (items_in modules (module_of whole unit)) item
  item_there unit item low there =
      subst (λ (items : List ItemTree). Contains items item) (sym (items_found whole is bodies unit low)) (among_contains (module_tree whole bodies unit).items item there)

  pub has_function : (fun : CFun) → Among whole.program.functions fun → HasFunction whole modules fun
  has_function fun there = record {
    tree = function_tree whole fun (bodies.of_function fun);
    there = item_there fun.unit (FunctionItem (function_tree whole fun (bodies.of_function fun)))
        (all_of (λ (f : CFun). f.unit < length whole.module_names) whole.program.functions fun is.functions_here there) (function_item_there whole bodies fun.unit fun there refl);
    name_is = refl;
    attribute_is = refl;
    type_is = sym (code_is whole fun (bodies.of_function fun) (all_of (IsTypedFunction whole.program None) whole.program.functions fun is.linked.functions there));
  }

  pub has_static : (one : CObject) (puts : CPuts) → Among whole.program.objects one → one.puts ≡ Some puts → HasStatic whole modules one
  has_static one puts there static = record {
    tree = static_tree whole one puts;
    there = item_there one.unit (StaticItem (static_tree whole one puts))
        (all_of (λ (o : CObject). o.unit < length whole.module_names) whole.program.objects one is.objects_here there) (static_item_there whole bodies one.unit one puts there refl static);
    name_is = refl;
    attribute_is = refl;
    type_is = refl;
  }

  pub has_record : (unit number : ℕ) → IsDone whole unit number → HasRecord whole modules unit number
  has_record unit number done = record {
    tree = record_written whole unit done.one done.row;
    row = done.row;
    found = record_found whole is bodies unit number done;
    row_is = done.row_is;
    laid_is = laid_found whole is bodies unit number done;
  }
