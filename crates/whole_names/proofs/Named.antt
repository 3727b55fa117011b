-- Names that are given in order are those that are taken one behind the other.
use Rattle.std.proofs.Common.{◌≡◌, ℕ, true, List, [], ◌∷◌, ◌++◌, map, refl, sym, ap, ◌∙◌, subst, append_assoc, append-nil}
use Rattle.std.specs.List.{list_all}
use Rattle.cx_core.specs.Trees.{CFun, CProgram}
use Rattle.rs_items_sets.specs.LawsNames.{AreFewWith, NamesDiffer}
use Rattle.rs_items_sets.specs.Names.{names_from, rust_name}
use Rattle.rs_items_sets.specs.declared.scope.NameScope.TheVariants.{Module, Function}
use Rattle.rs_items_sets.proofs.Several.{names_differ}
use Rattle.rs_text.specs.Names.{is_identifier}
use Rattle.rs_text.specs.Valid.{all_differ}
use Rattle.whole_names.specs.FunctionNames.{LocalName, WantedLocal, locals_from, wanted_in}
use Rattle.whole_names.specs.Keys.{NameKey, module_keys}
use Rattle.whole_names.specs.Laws.{NamesOfModules, NamesOfFunctions, wanted_of_module, wanted_of_function, names_of_locals}
use Rattle.whole_names.specs.ModuleNames.{own_names, wanted_name, given_from, names_only, taken_names}

same_of_module : (program : CProgram) (taken : List (List ℕ)) (keys : List NameKey) → names_from taken Module (map (wanted_name program) keys) ≡ taken ++ names_only (given_from program taken keys)
same_of_module program taken [] = sym (append-nil taken)
same_of_module program taken (key ∷ keys) =
    let name = rust_name taken Module (wanted_name program key) in
    same_of_module program (taken ++ name ∷ []) keys ∙ append_assoc taken (name ∷ []) (names_only (given_from program (taken ++ name ∷ []) keys))

same_of_function : (taken : List (List ℕ)) (wanted : List WantedLocal) → names_from taken Function (map (λ (one : WantedLocal). one.wanted) wanted)
    ≡ taken ++ map (λ (one : LocalName). one.name) (locals_from taken wanted)
same_of_function taken [] = sym (append-nil taken)
same_of_function taken (one ∷ others) =
    let name = rust_name taken Function one.wanted in
    same_of_function (taken ++ name ∷ []) others ∙ append_assoc taken (name ∷ []) (map (λ (l : LocalName). l.name) (locals_from (taken ++ name ∷ []) others))

own_differ : all_differ own_names ≡ true
own_differ = refl

own_identifiers : list_all is_identifier own_names ≡ true
unfolding Rattle.rs_text.specs.Names.keywords Rattle.rs_text.specs.Names.path_words
own_identifiers = refl

pub of_modules : NamesOfModules
of_modules = record {
  differ = λ program unit few. subst (λ names. all_differ names ≡ true) (same_of_module program own_names (module_keys program unit))
      (names_differ.differ own_names Module (wanted_of_module program unit) few own_differ);
  identifiers = λ program unit few words. subst (λ names. list_all is_identifier names ≡ true) (same_of_module program own_names (module_keys program unit))
      (names_differ.identifiers own_names Module (wanted_of_module program unit) few own_identifiers words);
}

pub of_functions : NamesOfFunctions
of_functions = record {
  differ = λ program fun temporaries few many. subst (λ names. all_differ names ≡ true) (same_of_function (taken_names program fun.unit) (wanted_in program fun temporaries))
      (names_differ.differ (taken_names program fun.unit) Function (wanted_of_function program fun temporaries) many (of_modules.differ program fun.unit few));
  identifiers = λ program fun temporaries few many words locals. subst (λ names. list_all is_identifier names ≡ true)
      (same_of_function (taken_names program fun.unit) (wanted_in program fun temporaries))
      (names_differ.identifiers (taken_names program fun.unit) Function (wanted_of_function program fun temporaries) many (of_modules.identifiers program fun.unit few words) locals);
}
