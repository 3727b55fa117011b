-- An object and a function definition that are typed in a unit are so, renumbered, in the program (ISO C99, 6.7.8, 6.9.1).
use Rattle.std.proofs.Common.{◌≡◌, ℕ, Bool, false, List, [], ◌∷◌, map, Option, None, Some, option_map, bytes_eq, refl, sym, ap, ◌∙◌, subst}
use Rattle.std.specs.Prelude.{IsSome, IfSome}
use Rattle.std.specs.List.{IsDistinct}
use Rattle.cx_core.specs.declared.program.Linkage.TheVariants.{Nothing}
use Rattle.cx_core.specs.declared.ty.Basic.TheVariants.{Char}
use Rattle.cx_core.specs.Linked.{home_of, IsStatic, IsText, IsTypedObject, IsTypedFunction}
use Rattle.cx_core.specs.Statements.{labels_in, IsParamObject, AreParams, AreParamsOf, IsDefinition, IsDefinitionOf, IsTypedStmt}
use Rattle.cx_core.specs.Trees.{CTy, ty, CTyForm, basic, array, function, CParams, unlisted, listed, CTys, no_types, more_types, form_of_type, CPuts, CObject, CFun, CProgram, CMention}
use Rattle.cx_core.specs.Typing.{CHome, object_with}
use Rattle.cx_renumber.specs.Numbers.{CNumbers, type_there, form_there, params_there, types_there, puts_there, stmt_there, object_there, function_there}
use Rattle.cx_typed_links.proofs.Calls.{result_there}
use Rattle.cx_typed_links.proofs.Expressions.{typed_puts_go}
use Rattle.cx_typed_links.proofs.Fixed.{constant_puts_go}
use Rattle.cx_typed_links.proofs.Labels.{labels_go, is_block_goes}
use Rattle.cx_typed_links.proofs.Sizes.{complete_there}
use Rattle.cx_typed_links.proofs.Statements.{object_moved, block_object_goes, stmt_goes}
use Rattle.cx_typed_links.proofs.Texts.{some_text_goes}
use Rattle.cx_typed_links.proofs.Types.{form_of_there, unqualified_there, declared_there, type_in_there}
use Rattle.cx_typed_links.specs.Homes.{home_here, home_there, NamesHold}

module _ (unit : ℕ) (numbers : CNumbers) (mentions : Option (List CMention)) (one program : CProgram) (holds : NamesHold unit numbers mentions one program) where
  abbrev moved : CTy → CTy
  moved type = type_there numbers.before type

  abbrev here : List ℕ → CHome
  here scope = home_here unit numbers mentions one program scope

  abbrev there : List ℕ → CHome
  there scope = home_there unit numbers mentions one program scope

  -- ---- objects

  static_goes : (type : CTy) (puts : CPuts) → IsStatic (here []) type puts → IsStatic (there []) (moved type) (puts_there numbers puts)
  static_goes type puts held = record {
    complete = complete_there numbers.before one.types program.types holds.types.inside type held.complete;
    typed = typed_puts_go unit numbers mentions one program holds [] type puts held.typed;
    constant = constant_puts_go unit numbers mentions one program holds [] type puts held.typed.0 held.constant;
  }

  if_static_goes : (type : CTy) (puts : Option CPuts) → IfSome puts (IsStatic (here []) type)
      → IfSome (option_map (puts_there numbers) puts) (IsStatic (there []) (moved type))
  if_static_goes type None held = held
  if_static_goes type (Some puts) held = static_goes type puts held

  abbrev IsArrayOfText : CTyForm → Type 0
  IsArrayOfText (array element (Some length)) = form_of_type element ≡ basic Char
  IsArrayOfText _ = ⊥

  text_form_goes : (form : CTyForm) → IsArrayOfText form → IsArrayOfText (form_there numbers.before form)
  text_form_goes (array element (Some length)) held = form_of_there numbers.before element ∙ ap (form_there numbers.before) held
  text_form_goes form held = absurd held

  text_type_goes : (type : CTy) → IsArrayOfText (form_of_type type) → IsArrayOfText (form_of_type (moved type))
  text_type_goes (ty form is_const) held = text_form_goes form held

  some_puts : (puts : Option CPuts) → IsSome puts → IsSome (option_map (puts_there numbers) puts)
  some_puts None some = some
  some_puts (Some puts) some = refl

  text_goes : (known : CObject) → IsText known → IsText (object_there numbers known)
  text_goes known held = record {
    unnamed = held.unnamed;
    no_linkage = held.no_linkage;
    static = some_puts known.puts held.static;
    array = text_type_goes known.type held.array;
    holds = some_text_goes numbers known.type known.puts held.holds;
  }

  -- an object of the unit
  pub object_goes : (known : CObject) → known.unit ≡ unit → IsTypedObject one mentions known → IsTypedObject program None (object_there numbers known)
  object_goes known unit_is held = record {
    type_in = type_in_there numbers.before one.types program.types holds.types.inside known.unit known.type held.type_in;
    object = declared_there numbers.before known.linkage known.type held.object;
    named = held.named;
    text = λ is. text_goes known (held.text is);
    static = subst (λ n. IfSome (option_map (puts_there numbers) known.puts) (IsStatic (home_of program None n) (moved known.type))) (sym unit_is)
        (if_static_goes known.type known.puts
        (subst (λ n. IfSome known.puts (IsStatic (home_of one mentions n) known.type)) unit_is held.static));
  }

  -- ---- functions

  param_goes : (scope : List ℕ) (type : CTy) (known : CObject) → IsParamObject (here scope) type known
      → IsParamObject (there scope) (moved type) (object_there numbers known)
  param_goes scope type known held = record {
    object = block_object_goes unit numbers mentions one program holds scope known held.object;
    type_is = sym (unqualified_there numbers.before known.type) ∙ ap moved held.type_is ∙ unqualified_there numbers.before type;
  }

  own_param : (scope : List ℕ) (type : CTy) (found : Option CObject) → IfSome found (IsParamObject (here scope) type)
      → IfSome found (λ known. known.linkage ≡ Nothing)
  own_param scope type None held = held
  own_param scope type (Some known) held = held.object.no_linkage

  params_go : (scope params : List ℕ) (types : CTys) → AreParams (here scope) params types
      → AreParams (there scope) (map numbers.object_for params) (types_there numbers.before types)
  params_go scope [] no_types held = held
  params_go scope [] (more_types type types) held = held
  params_go scope (number ∷ others) no_types held = held
  params_go scope (number ∷ others) (more_types type types) held =
      let found = object_moved unit numbers mentions one program holds number (object_with number one.objects) refl
      (IsParamObject (here scope) type) (IsParamObject (there scope) (moved type)) (param_goes scope type)
      (own_param scope type (object_with number one.objects) held.1) held.0 held.1 in
      (found.0, found.1, params_go scope others types held.2)

  params_of_go : (scope params : List ℕ) (types : CParams) → AreParamsOf (here scope) params types
      → AreParamsOf (there scope) (map numbers.object_for params) (params_there numbers.before types)
  params_of_go scope params unlisted held = ap (map numbers.object_for) held
  params_of_go scope params (listed types) held = params_go scope params types held

  definition_goes : (known : CFun) (result : CTy) (params : CParams) (variadic : Bool) → IsDefinition (here []) known result params variadic
      → IsDefinition (there []) (function_there numbers known) (moved result) (params_there numbers.before params) variadic
  definition_goes known result params variadic held = record {
    fixed = held.fixed;
    result_complete = result_there unit numbers one.types program.types holds.types result held.result_complete;
    params_are = params_of_go [] known.params params held.params_are;
    labels_differ = subst (λ labels. IsDistinct bytes_eq labels) (sym (labels_go numbers known.body)) held.labels_differ;
    is_block = is_block_goes numbers known.body held.is_block;
    body = subst
        (λ labels. IsTypedStmt (record {
          home = there known.params;
          result = moved result;
          labels = labels;
          in_loop = false;
          in_switch = None;
        }) [] (stmt_there numbers known.body))
        (sym (labels_go numbers known.body))
        (stmt_goes unit numbers mentions one program holds result (labels_in known.body) known.params false None tt [] tt known.body held.body);
  }

  definition_of_goes : (known : CFun) (form : CTyForm) → IsDefinitionOf (here []) known form
      → IsDefinitionOf (there []) (function_there numbers known) (form_there numbers.before form)
  definition_of_goes known (function result params variadic) held = definition_goes known result params variadic held
  definition_of_goes known form held = absurd held

  definition_as_goes : (known : CFun) (type : CTy) → IsDefinitionOf (here []) known (form_of_type type)
      → IsDefinitionOf (there []) (function_there numbers known) (form_of_type (moved type))
  definition_as_goes known (ty form is_const) held = definition_of_goes known form held

  -- a function that the unit defines
  pub function_goes : (known : CFun) → known.unit ≡ unit → IsTypedFunction one mentions known → IsTypedFunction program None (function_there numbers known)
  function_goes known unit_is held = record {
    type_in = type_in_there numbers.before one.types program.types holds.types.inside known.unit known.type held.type_in;
    linked = held.linked;
    definition = subst (λ n. IsDefinitionOf (home_of program None n) (function_there numbers known) (form_of_type (moved known.type))) (sym unit_is)
        (definition_as_goes known known.type
        (subst (λ n. IsDefinitionOf (home_of one mentions n) known (form_of_type known.type)) unit_is held.definition));
  }
