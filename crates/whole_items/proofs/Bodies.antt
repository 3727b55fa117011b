-- What a function is to its callers doesn't depend on its body: its temporaries are named last.
use Rattle.std.proofs.Common.{◌≡◌, ℕ, zero, suc, List, [], ◌∷◌, ◌++◌, refl, sym, ap, ◌∙◌, append-nil, append_assoc}
use Rattle.std.specs.Prelude.{flat_map, codes}
use Rattle.cx_core.specs.Trees.{CFun}
use Rattle.rs_items_sets.specs.Names.{rust_name}
use Rattle.rs_items_sets.specs.declared.scope.NameScope.TheVariants.{Function}
use Rattle.rs_text.specs.Tree.{LocalTree}
use Rattle.whole_items.specs.Items.{WrittenBody, count_of, function_tree, names_of_body, param_of}
use Rattle.whole_items.specs.Laws.{BodiesAreInside}
use Rattle.whole_names.specs.FunctionNames.{LocalKey, a_temporary, LocalName, WantedLocal, locals_from, wanted_locals, wanted_temporaries}
use Rattle.whole_names.specs.Kept.{NamedProgram}
use Rattle.whole_names.specs.ModuleNames.{taken_names}

module _ (program : NamedProgram) (fun : CFun) where
  -- temporaries are no parameters
  none_of : (taken : List (List ℕ)) (from count : ℕ) → flat_map (param_of program fun) (locals_from taken (wanted_temporaries from count)) ≡ []
  none_of taken from zero = refl
  none_of taken from (suc count) = none_of (taken ++ rust_name taken Function (codes "t") ∷ []) (suc from) count

  -- and nothing behind the others changes what the parameters are
  params_of : (taken : List (List ℕ)) (wanted : List WantedLocal) (count : ℕ)
      → flat_map (param_of program fun) (locals_from taken (wanted ++ wanted_temporaries 0 count)) ≡ flat_map (param_of program fun) (locals_from taken wanted)
  params_of taken [] count = none_of taken 0 count
  params_of taken (one ∷ others) count =
      let name = rust_name taken Function one.wanted in
      ap (λ (rest : List LocalTree). param_of program fun (record { key = one.key; name = name }) ++ rest) (params_of (taken ++ name ∷ []) others count)

  same_params : (body other : WrittenBody) → (function_tree program fun body).params ≡ (function_tree program fun other).params
  same_params body other =
      params_of (taken_names program.program fun.unit) (wanted_locals program.program fun) (count_of body.temporaries)
      ∙ sym (params_of (taken_names program.program fun.unit) (wanted_locals program.program fun) (count_of other.temporaries))

pub bodies_inside : BodiesAreInside
bodies_inside = record {
  name = λ program fun body other. refl;
  attribute = λ program fun body other. refl;
  params = same_params;
  result = λ program fun body other. refl;
}
