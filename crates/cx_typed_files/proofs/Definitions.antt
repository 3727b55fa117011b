-- Function definitions (ISO C99, 6.9.1).
use Rattle.std.proofs.Common.{◌≡◌, ℕ, nat_lt, ◌≤◌, Bool, true, false, not, ◌||◌, List, [], ◌∷◌, length, Option, None, Some, refl, sym, ap, ◌∙◌, subst, map, suc, ◌++◌, append_assoc}
use Rattle.std.specs.Prelude.{IsSome, IfSome}
use Rattle.std.specs.List.{list_any}
use denote.Enum.Bare.{same_true}
use Rattle.cx_core.specs.declared.program.Linkage.TheVariants.{External}
use Rattle.cx_core.specs.Linked.{IsTypedFunction, block_objects}
use Rattle.cx_core.specs.ValidTypes.{IsComplete}
use Rattle.cx_core.specs.Statements.{objects_in}
use Rattle.cx_core.specs.Trees.{CTy, ty, CTyForm, function, form_of_type, CFun, CStmt, stmt, block, defines}
use Rattle.cx_core.specs.Typing.{CHome}
use Rattle.cx_lex.specs.contracts.token.Keyword.{the_type}
use Rattle.cx_lex.specs.declared.token.Keyword.{Keyword}
use Rattle.cx_lex.specs.declared.token.Keyword.TheVariants as keyword
use Rattle.cx_rules.proofs.UnitNodesAgree.{s_head_walk, s_head_seen, s_function_body, s_body_ends}
use Rattle.cx_rules.specs.declared.kinds.SpecsPlace.TheVariants.{Definition}
use Rattle.cx_rules.specs.Declare.{is_typedef, thing_named, CDeclaring, declaring, own_params, own_within, with_head, head_number}
use Rattle.cx_rules.specs.Lines.{own_line, specs_line, declarator_line}
use Rattle.cx_rules.specs.Pieces.{Done, at_line}
use Rattle.cx_rules.specs.Readings.{seen_chain}
use Rattle.cx_rules.specs.Rules.{is_variadic, is_function_step, parts_incomplete, result_incomplete}
use Rattle.cx_rules.specs.Scope.{a_function, CDeclared, CThing, CScope, new_scope}
use Rattle.cx_rules.specs.Shapes.{same_key, CSpecs, base_type, CParam, CStep, to_pointer, to_array, to_function, last_step, derived}
use Rattle.cx_rules.specs.Types.{int_type, is_function, is_void, defined_type}
use Rattle.cx_rules.specs.UnitWalk.{CMeant as CMeaning, CWhere, CHead, where_in, fun_of, with_body, stmts_of, name_or_none, labels_of_items}
use Rattle.cx_tree.specs.Trees.{DeclaratorTree, StmtTree, Label, Case, Default, Block, ExprStmt, If, Switch, While, Do, For, Goto, Continue, Break, Return, ItemTrees}
use Rattle.cx_typed.proofs.Derived.{derived_known}
use Rattle.cx_typed.proofs.Goes.{go_gives, go_becomes, go_here_then, go_chain, go_settled, go_changed}
use Rattle.cx_typed.proofs.Promoted.{neither, not_not}
use Rattle.cx_typed.proofs.Scopes.{grows_on}
use Rattle.cx_typed.proofs.Specified.{specified}
use Rattle.cx_typed.proofs.Spelled.{spelled_trees}
use Rattle.cx_typed.proofs.Walked.{type_on}
use Rattle.cx_typed.specs.Growth.{Grows}
use Rattle.cx_typed.specs.Names.{IsFunctionForm}
use Rattle.cx_typed.specs.Operands.{IsKnownType}
use Rattle.cx_typed.specs.Spelled.{IsSpelledDeclarator}
use Rattle.cx_typed.specs.Walked.{Ends}
use Rattle.cx_typed_files.proofs.Bodies.{inside_held, param_there, inside_typed, end_good, end_orderly, end_held, end_typed}
use Rattle.cx_typed_files.proofs.DefinedFunctions.{function_typed}
use Rattle.cx_typed_files.proofs.FileDeclarations.{unit_on}
use Rattle.cx_typed_files.proofs.FileSteps.{backs_start, file_on}
use Rattle.cx_typed_files.proofs.FunctionTypes.{IsCode, code_of, defined_code, defined_known, ones_by, AreCompleteOnes, complete_by, result_is}
use Rattle.cx_typed_files.proofs.Heads.{IsHead, behind, begun, form, linked, number, mention, inside, head_is, inside_good, inside_orderly, inside_accounted, entity_by, same_objects, thing_defined, mention_at, numbers_from}
use Rattle.cx_typed_files.proofs.OwnShapes.{IsOwnStep, HeadOf, head_goes}
use Rattle.cx_typed_files.proofs.OwnParams.{AreFrom}
use Rattle.cx_typed_files.proofs.ParamAccounts.{AreKnownOnes, body_accounted}
use Rattle.cx_typed_files.specs.FileScope.{IsAtFileScope}
use Rattle.cx_typed_files.specs.FileUnits.{IsSpelledBody, DefinitionsGo}
use Rattle.cx_typed_units.proofs.Begun.{IsBegunAs, function_form}
use Rattle.cx_typed_units.proofs.Declarations.{IsShaped, shaped, AreSpecified, specified_by}
use Rattle.cx_typed_units.proofs.Covering.{covers_through}
use Rattle.cx_typed_units.proofs.Fine.{unclashed, says_no_less}
use Rattle.cx_typed_units.proofs.RestTrees.{kept_declarator_walk}
use Rattle.cx_typed_units.proofs.SpelledStatements.{spelled_statements}
use Rattle.cx_typed_units.proofs.Once.{once_none, once_first, once_both, plain_once}
use Rattle.cx_typed_units.proofs.Stretches.{steps_of, found_kept, backs_first, backs_from}
use Rattle.cx_typed_units.specs.Account.{account_of, IsToldAs, IsAccounted}
use Rattle.cx_typed_units.specs.Fills.{Fills}
use Rattle.cx_typed_units.specs.Rest.{CRest}
use Rattle.cx_typed_units.specs.Statements.{IsPlace, AreItems}
use Rattle.cx_typed_units.specs.Once.{AreOnce}
use Rattle.cx_typed_units.specs.Stretches.{IsThing, IsSameThing, AreCovered, Backs, HoldsAll}

-- ---- storage classes of definitions (6.9.1p4)

key_is : (one other : Keyword) → same_key one other ≡ true → one ≡ other
unfolding same_key
key_is one other is = same_true the_type tt one other is

no_key : (one other : Keyword) → (one ≡ other → ⊥) → (found : Bool) → same_key one other ≡ found → found ≡ false
no_key one other differ true e = absurd (differ (key_is one other e))
no_key one other differ false e = refl

typedef_not : (word : Keyword) → (same : Bool) → same_key keyword.Typedef word ≡ same → list_any (same_key word) (keyword.Extern ∷ keyword.Static ∷ []) ≡ true → same ≡ false
typedef_not word true e allowed =
    let is : keyword.Typedef ≡ word = key_is keyword.Typedef word e in
    let held : list_any (same_key keyword.Typedef) (keyword.Extern ∷ keyword.Static ∷ []) ≡ true = subst (λ w. list_any (same_key w) (keyword.Extern ∷ keyword.Static ∷ []) ≡ true) (sym is) allowed in
    let first = no_key keyword.Typedef keyword.Extern (λ same. cc) (same_key keyword.Typedef keyword.Extern) refl in
    let second = no_key keyword.Typedef keyword.Static (λ same. cc) (same_key keyword.Typedef keyword.Static) refl in
    absurd (let h : false ≡ true = sym (ap (λ a. a || (same_key keyword.Typedef keyword.Static || false)) first ∙ ap (λ a. false || (a || false)) second) ∙ held in cc)
typedef_not word false e allowed = refl

no_typedef : (storage : List Keyword) → list_any (λ word. not (list_any (same_key word) (keyword.Extern ∷ keyword.Static ∷ []))) storage ≡ false → list_any (same_key keyword.Typedef) storage ≡ false
no_typedef [] fine = refl
no_typedef (word ∷ words) fine =
    let parts = neither {a = not (list_any (same_key word) (keyword.Extern ∷ keyword.Static ∷ []))} fine in
    ap (λ a. a || list_any (same_key keyword.Typedef) words) (typedef_not word (same_key keyword.Typedef word) refl (not_not parts.0)) ∙ no_typedef words parts.1

-- ---- the last step of a declarator that declares a function

-- as `Declare` says it
abbrev params_in : Option CStep → List CParam
params_in (Some (to_function (Some params) variadic within)) = params
params_in _ = []

abbrev within_in : Option CStep → List CDeclared
within_in (Some (to_function params variadic within)) = within
within_in _ = []

own_step_of : (opens : List ℕ) (start scope : CScope) (steps : List CStep) → start.next_object ≤ scope.next_object → is_function_step (last_step steps) ≡ true → HeadOf opens start scope (last_step steps)
    → IsOwnStep opens start scope (own_params steps) (own_within steps)
own_step_of opens start scope steps more is head = by_step (last_step steps) is head
  where
    none_is : (within : List CDeclared) → within ≡ [] → IsOwnStep opens start scope [] within
    none_is within same = subst (IsOwnStep opens start scope []) (sym same) (record {
      numbers = more;
      known = λ name meant is. absurd cc;
      tags = λ name one is. absurd cc;
      things = λ name meant thing is. absurd cc;
    })

    by_step : (found : Option CStep) → is_function_step found ≡ true → HeadOf opens start scope found → IsOwnStep opens start scope (params_in found) (within_in found)
    by_step None is head = absurd cc
    by_step (Some (to_pointer is_const is_restrict)) is head = absurd cc
    by_step (Some (to_array length)) is head = absurd cc
    by_step (Some (to_function None variadic within)) is head = none_is within head
    by_step (Some (to_function (Some params) variadic within)) is head = head

-- ---- the head

record IsHeaded (opens : List ℕ) (specs : CSpecs) (start : CScope) (head_of : CHead) (inside : CScope) : Type 0 where
  scope : CScope
  line : ℕ
  name : List ℕ
  written : CTy
  steps : List CStep
  head : IsHead opens start scope specs name written steps
  code : IsCode written (own_params steps)
  fixed : is_variadic (form_of_type written) ≡ false
  parts : parts_incomplete scope.types (form_of_type written) ≡ false
  head_is : head_of ≡ record {
    before = scope;
    declaring = declaring scope Definition specs name line written true;
    number = head_number scope (declaring scope Definition specs name line written true);
    written = written;
    params = own_params steps;
  }
  inside_is : inside ≡ with_head (declaring scope Definition specs name line written true) written steps scope

head_walk_goes : (opens : List ℕ) (specs : CSpecs) → is_typedef specs ≡ false → (missing : ℕ) (tree : DeclaratorTree) → IsSpelledDeclarator tree → (start : CScope) → IsAtFileScope opens start → IsKnownType opens start.types start.unit (base_type specs)
    → Ends (s_head_walk specs missing tree) start (IsHeaded opens specs start)
head_walk_goes opens specs typedef missing tree spelled start at known =
    go_chain _ _ _ _ start (λ shape scope. IsShaped opens start shape scope × HeadOf opens start scope (last_step shape.steps) × (scope.objects ≡ start.objects)) _
    (record {
      ends = λ fine. (
        (shaped opens tree start (spelled_trees.declarators tree spelled) at.good).ends fine,
        (head_goes tree spelled opens start at.good).ends fine,
        ap {A = CRest} (λ rest. rest.objects) (kept_declarator_walk tree start).kept.rest_is,
      );
    }) (λ shape scope held.
    go_chain _ _ _ _ scope (λ type later. (type ≡ derived (base_type specs) shape.steps) × IsKnownType opens scope.types scope.unit (derived (base_type specs) shape.steps) × (later ≡ scope)) _
    (go_here_then _ _ scope _ (go_settled _ scope _ _ _ scope _ (λ unbroken. (
      refl,
      derived_known opens scope scope.types scope.unit (base_type specs) shape.steps (type_on opens start scope (base_type specs) held.0.shape_is.passes known) held.0.shape_is.known unbroken,
      refl,
    )))) (λ type later is.
    subst (λ from. Ends (s_head_seen specs (declarator_line missing tree) shape (defined_type type)) from (IsHeaded opens specs start)) (sym is.2)
    (subst (λ written. Ends (s_head_seen specs (declarator_line missing tree) shape (defined_type written)) scope (IsHeaded opens specs start)) (sym is.0)
    (go_here_then _ _ scope _ (go_changed _ scope _ _ _ _ scope _ (λ unbroken.
    let step : is_function_step (last_step shape.steps) ≡ true = not_not unbroken.k7 in
    record {
      scope = scope;
      line = declarator_line missing tree;
      name = name_or_none shape.name;
      written = defined_type (derived (base_type specs) shape.steps);
      steps = shape.steps;
      head = record {
        at_start = at;
        at = file_on opens start scope at held.0.leads held.0.shape_is.good held.0.none held.0.body_is held.0.shape_is.passes.numbers.grows;
        leads = held.0.leads;
        objects_same = held.2;
        literals_same = held.0.shape_is.makes_none;
        known = defined_known opens scope.types scope.unit (derived (base_type specs) shape.steps) is.1;
        own = own_step_of opens start scope shape.steps held.0.shape_is.passes.numbers.grows step held.1;
        typedef = typedef;
        code = ap is_function (defined_code _ _ (code_of (base_type specs) shape.steps step)).written_is;
        apart = unbroken.k2;
      };
      code = defined_code _ _ (code_of (base_type specs) shape.steps step);
      fixed = unbroken.o5;
      parts = unbroken.k5;
      head_is = refl;
      inside_is = refl;
    }))))))

-- ---- the body

backs_scope : (home : CHome) (opens : List ℕ) (scope : List ℕ) (before after : CScope) → Backs home opens before after → Backs (record home { scope = scope }) opens before after
backs_scope home opens scope before after backs = record {
  unit_is = backs.unit_is;
  grows = backs.grows;
  told = backs.told;
  told_is = backs.told_is;
  mentions = backs.mentions;
  literals = backs.literals;
  objects = backs.objects;
  things = backs.things;
  statics = backs.statics;
}

-- as `UnitWalk` and `Rules` say it
abbrev result_form : CTyForm → CTy
result_form (function result params variadic) = result
result_form _ = int_type

abbrev result_in : CTy → CTy
result_in type = result_form (form_of_type type)

abbrev is_variadic_of : CTy → Bool
is_variadic_of type = is_variadic (form_of_type type)

thing_at : (P : CThing → Type 0) (found : Option CThing) → IsSome found × IfSome found P → (one : CThing) × (found ≡ Some one) × P one
thing_at P None held = absurd (let h : false ≡ true = held.0 in cc)
thing_at P (Some one) held = (one, refl, held.1)

params_once : (low : ℕ) (params : List CParam) (high : ℕ) → AreFrom low params high → AreOnce low high (map (λ (param : CParam). param.object) params)
params_once low [] high held = once_none low high held
params_once low (one ∷ others) high held = once_first low one.object high (map (λ (param : CParam). param.object) others) held.0 (params_once (suc one.object) others high held.1)

objects_of : (xs ys : List CFun) → block_objects (xs ++ ys) ≡ block_objects xs ++ block_objects ys
objects_of [] ys = refl
objects_of (one ∷ xs) ys =
    ap (λ rest. one.params ++ objects_in one.body ++ rest) (objects_of xs ys) ∙ sym (append_assoc (one.params ++ objects_in one.body) (block_objects xs) (block_objects ys))

one_more_once : (a b c : ℕ) (functions : List CFun) (fun : CFun) → AreOnce a b (block_objects functions) → AreOnce b c (fun.params ++ objects_in fun.body) → AreOnce a c (block_objects (functions ++ fun ∷ []))
one_more_once a b c functions fun first second =
    subst (AreOnce a c) (sym (objects_of functions (fun ∷ [])))
    (once_both a b c (block_objects functions) ((fun.params ++ objects_in fun.body) ++ []) first (plain_once b c (fun.params ++ objects_in fun.body) second))

module _ (opens : List ℕ) (specs : CSpecs) (start : CScope) (head : CHead) (found : CScope) (headed : IsHeaded opens specs start head found)
    (items : ItemTrees) (lines : List ℕ) where
  abbrev scope : CScope
  scope = headed.scope

  abbrev one : CDeclaring
  one = declaring scope Definition specs headed.name headed.line headed.written true

  abbrev params : List CParam
  params = own_params headed.steps

  abbrev declared : CScope
  declared = behind opens start scope specs headed.line headed.name headed.written headed.steps headed.head

  abbrev began : IsBegunAs opens scope headed.name (a_function (number opens start scope specs headed.line headed.name headed.written headed.steps headed.head) one.type one.linkage) declared
  began = begun opens start scope specs headed.line headed.name headed.written headed.steps headed.head

  abbrev start_inside : CScope
  start_inside = inside opens start scope specs headed.line headed.name headed.written headed.steps headed.head

  code_form : IsFunctionForm (form_of_type one.type)
  code_form = function_form one.type (form opens start scope specs headed.line headed.name headed.written headed.steps headed.head)

  -- what is known at the body's begin
  types_are : start_inside.types ≡ scope.types
  types_are = began.types_are

  unit_is : start_inside.unit ≡ scope.unit
  unit_is = began.leads.declares.unit_is

  known_inside : IsKnownType opens start_inside.types start_inside.unit headed.written
  known_inside =
      subst (λ types. IsKnownType opens types start_inside.unit headed.written) (sym types_are) (subst (λ unit. IsKnownType opens scope.types unit headed.written) (sym unit_is) headed.head.known)

  ones : AreKnownOnes opens start_inside.types start_inside.unit params
  ones = ones_by opens start_inside.types start_inside.unit headed.written params headed.code known_inside

  complete : (result_incomplete start_inside.types headed.code.result ≡ false) × AreCompleteOnes start_inside.types params
  complete =
      complete_by opens start_inside.types start_inside.unit headed.written params headed.code known_inside
      (subst (λ types. parts_incomplete types (form_of_type headed.written) ≡ false) (sym types_are) headed.parts)

  accounted : IsAccounted opens (Some headed.name) (account_of start_inside)
  accounted = inside_accounted opens start scope specs headed.line headed.name headed.written headed.steps headed.head ones

  abbrev own_head : CHead
  own_head = record { before = scope; declaring = one; number = head_number scope one; written = headed.written; params = params }

  abbrev place : CWhere
  place = where_in own_head (Block items lines)

  result_same : place.result ≡ headed.code.result
  result_same = ap result_in headed.code.written_is

  known_code : IsKnownType opens start_inside.types start_inside.unit (ty (function headed.code.result headed.code.list headed.code.variadic) false)
  known_code = subst (IsKnownType opens start_inside.types start_inside.unit) headed.code.written_is known_inside

  stands : IsPlace opens start_inside place
  stands = record {
    good = inside_good opens start scope specs headed.line headed.name headed.written headed.steps headed.head;
    orderly = inside_orderly opens start scope specs headed.line headed.name headed.written headed.steps headed.head;
    in_function = refl;
    result = subst (IsKnownType opens start_inside.types start_inside.unit) (sym result_same) (record { type_in = known_code.type_in.0; settled = known_code.settled.0 });
    gives = λ some.
        subst (IsComplete start_inside.types) (sym result_same)
        (result_is start_inside.types headed.code.result known_code.type_in.1 complete.0 (ap is_void (sym result_same) ∙ some));
  }

  module _ (all : CMeaning) (inner : CScope) (done : AreItems opens place (labels_of_items items) start_inside all inner) where
    abbrev body : CStmt
    body = stmt (at_line inner (own_line lines)) all.objects (block (stmts_of all.stmts))

    abbrev fun : CFun
    fun = fun_of inner one (head_number scope one) headed.written params body

    abbrev last : CScope
    last = with_body scope fun inner

    early_thing : (thing : CThing) × (thing_named headed.name declared.things ≡ Some thing) × IsThing opens declared.types (number opens start scope specs headed.line headed.name headed.written headed.steps headed.head) one.type one.linkage true thing
    early_thing = thing_at (IsThing opens declared.types (number opens start scope specs headed.line headed.name headed.written headed.steps headed.head) one.type one.linkage true) (thing_named headed.name declared.things) began.linked.1

    late_thing : (thing : CThing) × (thing_named headed.name inner.things ≡ Some thing) × IsSameThing opens inner.types early_thing.0 thing
    late_thing = found_kept opens inner.types early_thing.0 (thing_named headed.name inner.things) (done.leads.things headed.name early_thing.0 early_thing.1)

    all_grow : Grows opens scope.types inner.types
    all_grow = grows_on opens scope.types start_inside.types inner.types began.leads.declares.grows done.leads.declares.grows

    fills : Fills opens inner.types headed.written late_thing.0.type
    fills now grows =
        covers_through now late_thing.0.type early_thing.0.type headed.written (late_thing.2.fills now grows)
        (covers_through now early_thing.0.type one.type headed.written (early_thing.2.fills now (grows_on opens start_inside.types inner.types now done.leads.declares.grows grows))
        (says_no_less opens scope headed.head.at.good headed.head.at.orderly Definition specs headed.name headed.line headed.written true headed.head.known
        (unclashed scope headed.name (is_typedef specs) headed.written one.linkage true headed.head.apart) now (grows_on opens scope.types inner.types now all_grow grows)))

    told : one.linkage ≡ External → IsToldAs inner.mentions headed.name External (λ mention. (mention.type ≡ headed.written) × (mention.does ≡ defines))
    told external = record {
      index = length (entity_by opens start scope specs headed.line headed.name headed.written headed.steps headed.head (thing_named headed.name scope.things)).mentions;
      one = mention opens start scope specs headed.line headed.name headed.written headed.steps headed.head;
      at = done.leads.declares.mentions (length (entity_by opens start scope specs headed.line headed.name headed.written headed.steps headed.head (thing_named headed.name scope.things)).mentions) (mention opens start scope specs headed.line headed.name headed.written headed.steps headed.head) (mention_at opens start scope specs headed.line headed.name headed.written headed.steps headed.head);
      name_is = refl;
      linkage_is = external;
      says = (refl, refl);
    }

    last_accounted : IsAccounted opens None (account_of last)
    last_accounted =
        body_accounted opens (account_of inner) fun (done.leads.keeps (Some headed.name) accounted) refl (linked opens start scope specs headed.line headed.name headed.written headed.steps headed.head) late_thing.0 late_thing.1 (late_thing.2.function_is ∙ early_thing.2.function_is)
        (late_thing.2.defined (thing_defined opens start scope specs headed.line headed.name headed.written headed.steps headed.head early_thing.0 early_thing.1)) (late_thing.2.number_is ∙ early_thing.2.number_is) (late_thing.2.linkage_is ∙ early_thing.2.linkage_is) fills told

    own_typed : (home : CHome) → HoldsAll home opens inner → IsTypedFunction home.program home.mentions fun
    own_typed home holds =
        let backs_start_inside : Backs home opens (new_scope start_inside.unit) start_inside =
        backs_start opens home inner.unit start_inside.unit start_inside done.leads.declares.unit_is (backs_first opens home (new_scope inner.unit) start_inside inner holds.backs done.leads) in
        function_typed opens declared start_inside inner params headed.written headed.code known_inside (ap is_variadic_of (sym headed.code.written_is) ∙ headed.fixed) complete.0 complete.1 place result_same refl refl
        (labels_of_items items) refl all done (at_line inner (own_line lines)) fun refl refl refl (linked opens start scope specs headed.line headed.name headed.written headed.steps headed.head) done.leads.declares.unit_is refl home
        (backs_from opens home start_inside inner holds (steps_of opens start_inside inner done.leads))
        (λ index x is. param_there opens start scope headed.head.at_start headed.head.at (steps_of opens start scope headed.head.leads) headed.name (number opens start scope specs headed.line headed.name headed.written headed.steps headed.head) one.type one.linkage declared began (same_objects opens start scope specs headed.line headed.name headed.written headed.steps headed.head) (own_within headed.steps) params headed.head.own.things home backs_start_inside index x is)
        (λ objects contains. inside_held opens start scope headed.head.at_start headed.head.at (steps_of opens start scope headed.head.leads) headed.name (number opens start scope specs headed.line headed.name headed.written headed.steps headed.head) one.type one.linkage declared began (same_objects opens start scope specs headed.line headed.name headed.written headed.steps headed.head) (own_within headed.steps) params headed.head.own.things (record home { scope = objects }) (backs_scope home opens objects (new_scope start_inside.unit) start_inside backs_start_inside) code_form contains)

    last_unit : last.unit ≡ start.unit
    last_unit = done.leads.declares.unit_is ∙ (unit_is ∙ headed.head.leads.declares.unit_is)

    -- the objects of its parameters and of its blocks are behind those of the functions before
    last_once : AreOnce 0 last.next_object (block_objects last.functions)
    last_once =
        let same : inner.functions ≡ start.functions = done.leads.functions_are ∙ (began.leads.functions_are ∙ headed.head.leads.functions_are) in
        let own = once_both start.next_object start_inside.next_object inner.next_object fun.params (objects_in fun.body)
        (params_once start.next_object params start_inside.next_object (numbers_from opens start scope specs headed.line headed.name headed.written headed.steps headed.head)) done.numbers in
        one_more_once 0 start.next_object inner.next_object inner.functions fun (subst (λ functions. AreOnce 0 start.next_object (block_objects functions)) (sym same) headed.head.at_start.blocks) own

    last_covered : AreCovered opens last
    last_covered =
        done.leads.covered (inside_orderly opens start scope specs headed.line headed.name headed.written headed.steps headed.head) (began.leads.covered headed.head.at.orderly headed.head.at.covered)

    last_at : IsAtFileScope opens last
    last_at = record {
      good = end_good opens start scope headed.head.at_start headed.head.at (steps_of opens start scope headed.head.leads) headed.name (number opens start scope specs headed.line headed.name headed.written headed.steps headed.head) one.type one.linkage declared began (same_objects opens start scope specs headed.line headed.name headed.written headed.steps headed.head) (own_within headed.steps) params headed.head.own.things inner done.leads done.good fun;
      orderly = end_orderly opens start scope headed.head.at_start headed.head.at (steps_of opens start scope headed.head.leads) headed.name (number opens start scope specs headed.line headed.name headed.written headed.steps headed.head) one.type one.linkage declared began (same_objects opens start scope specs headed.line headed.name headed.written headed.steps headed.head) (own_within headed.steps) params headed.head.own.things inner done.leads done.good fun (inside_orderly opens start scope specs headed.line headed.name headed.written headed.steps headed.head);
      accounted = last_accounted;
      typed = end_typed opens start scope headed.head.at_start headed.head.at (steps_of opens start scope headed.head.leads) headed.name (number opens start scope specs headed.line headed.name headed.written headed.steps headed.head) one.type one.linkage declared began (same_objects opens start scope specs headed.line headed.name headed.written headed.steps headed.head) (own_within headed.steps) params headed.head.own.things inner done.leads done.good fun (Some headed.name) accounted (inside_typed opens start scope headed.head.at_start headed.head.at (steps_of opens start scope headed.head.leads) headed.name (number opens start scope specs headed.line headed.name headed.written headed.steps headed.head) one.type one.linkage declared began (same_objects opens start scope specs headed.line headed.name headed.written headed.steps headed.head) (own_within headed.steps) params headed.head.own.things code_form headed.head.at.typed) own_typed code_form;
      covered = last_covered;
      outside = refl;
      no_label = refl;
      blocks = last_once;
      held = λ home backs. end_held opens start scope headed.head.at_start headed.head.at (steps_of opens start scope headed.head.leads) headed.name (number opens start scope specs headed.line headed.name headed.written headed.steps headed.head) one.type one.linkage declared began (same_objects opens start scope specs headed.line headed.name headed.written headed.steps headed.head) (own_within headed.steps) params headed.head.own.things inner done.leads done.good fun home backs code_form;
    }

-- ---- the walk

record IsBodied (opens : List ℕ) (where_is : CWhere) (items : ItemTrees) (line : ℕ) (inside : CScope) (body : CStmt) (inner : CScope) : Type 0 where
  all : CMeaning
  body_is : body ≡ stmt (at_line inner line) all.objects (block (stmts_of all.stmts))
  done : AreItems opens where_is (labels_of_items items) inside all inner

body_goes : (opens : List ℕ) (specs : CSpecs) (start : CScope) (head : CHead) (found : CScope) → IsHeaded opens specs start head found
    → (tree : StmtTree) → IsSpelledBody tree → Ends (seen_chain CStmt Done (s_function_body head tree) (λ body. s_body_ends head body)) found (λ done after. IsAtFileScope opens after × (after.unit ≡ start.unit))
body_goes opens specs start head found headed (Block items lines) spelled =
    let one : CDeclaring = declaring headed.scope Definition specs headed.name headed.line headed.written true in
    let own : CHead = record { before = headed.scope; declaring = one; number = head_number headed.scope one; written = headed.written; params = own_params headed.steps } in
    subst (λ h. Ends (seen_chain CStmt Done (s_function_body h (Block items lines)) (λ body. s_body_ends h body)) found (λ done after. IsAtFileScope opens after × (after.unit ≡ start.unit))) (sym headed.head_is)
    (subst (λ from. Ends (seen_chain CStmt Done (s_function_body own (Block items lines)) (λ body. s_body_ends own body)) from (λ done after. IsAtFileScope opens after × (after.unit ≡ start.unit)))
    (sym (headed.inside_is ∙ head_is opens start headed.scope specs headed.line headed.name headed.written headed.steps headed.head))
    (go_chain _ _ _ _ (inside opens start headed.scope specs headed.line headed.name headed.written headed.steps headed.head) (IsBodied opens (where_in own (Block items lines)) items (own_line lines) (inside opens start headed.scope specs headed.line headed.name headed.written headed.steps headed.head)) _
    (go_chain _ _ _ _ (inside opens start headed.scope specs headed.line headed.name headed.written headed.steps headed.head) (AreItems opens (where_in own (Block items lines)) (labels_of_items items) (inside opens start headed.scope specs headed.line headed.name headed.written headed.steps headed.head)) _
    (spelled_statements.items items spelled opens (where_in own (Block items lines)) (inside opens start headed.scope specs headed.line headed.name headed.written headed.steps headed.head) (stands opens specs start head found headed items lines))
    (λ all inner done. go_here_then _ _ inner _ (go_gives _ inner _ (record { all = all; body_is = refl; done = done }))))
    (λ body inner bodied.
    subst (λ b. Ends (s_body_ends own b) inner (λ done after. IsAtFileScope opens after × (after.unit ≡ start.unit))) (sym bodied.body_is)
    (go_here_then _ _ inner _ (go_becomes _ inner _ (last_at opens specs start head found headed items lines bodied.all inner bodied.done, last_unit opens specs start head found headed items lines bodied.all inner bodied.done))))))
body_goes opens specs start head found headed (Label name inner lines) spelled = absurd spelled
body_goes opens specs start head found headed (Case value inner lines) spelled = absurd spelled
body_goes opens specs start head found headed (Default inner lines) spelled = absurd spelled
body_goes opens specs start head found headed (ExprStmt value lines) spelled = absurd spelled
body_goes opens specs start head found headed (If condition branch otherwise lines) spelled = absurd spelled
body_goes opens specs start head found headed (Switch on of lines) spelled = absurd spelled
body_goes opens specs start head found headed (While condition of lines) spelled = absurd spelled
body_goes opens specs start head found headed (Do of condition lines) spelled = absurd spelled
body_goes opens specs start head found headed (For first second third of lines) spelled = absurd spelled
body_goes opens specs start head found headed (Goto name lines) spelled = absurd spelled
body_goes opens specs start head found headed (Continue lines) spelled = absurd spelled
body_goes opens specs start head found headed (Break lines) spelled = absurd spelled
body_goes opens specs start head found headed (Return value lines) spelled = absurd spelled

pub definitions_go : DefinitionsGo
definitions_go d spelled opens scope at =
    go_chain _ _ _ _ scope (AreSpecified opens scope) _ (specified_by opens false d.specs scope (spelled_trees.specifiers d.specs spelled.0) at.good) (λ all middle held.
    go_chain _ _ _ _ middle (λ done later. (later ≡ middle) × (is_typedef all ≡ false)) _
    (go_here_then _ _ middle _ (go_settled _ middle _ _ _ middle _ (λ unbroken. (refl, no_typedef all.storage (neither {a = nat_lt 1 (length all.storage)} unbroken.k4).1)))) (λ done later is.
    let start_at = file_on opens scope middle at held.leads held.specs_are.good held.none held.body_is held.specs_are.passes.numbers.grows in
    subst (λ from. Ends (seen_chain CHead Done (s_head_walk all (specs_line d.specs) d.declarator) (λ head. seen_chain CStmt Done (s_function_body head d.body) (λ body. s_body_ends head body))) from
    (λ done after. IsAtFileScope opens after × (after.unit ≡ scope.unit))) (sym is.0)
    (unit_on opens scope middle held.leads.declares.unit_is (go_chain _ _ _ _ middle (IsHeaded opens all middle) _
    (head_walk_goes opens all is.1 (specs_line d.specs) d.declarator spelled.1 middle start_at (specified opens middle.types middle.unit all held.specs_are.known)) (λ head inside headed.
    body_goes opens all middle head inside headed d.body spelled.2)))))
