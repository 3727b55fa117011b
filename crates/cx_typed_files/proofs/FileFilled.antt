-- The walk over declarators with initialisers outside of functions (ISO C99, 6.7.8, 6.9.2p1).
use Rattle.std.proofs.Common.{◌≡◌, ◌⊎◌, inl, inr, ℕ, nat_lt, ◌<◌, Bool, true, false, not, ◌&&◌, ◌||◌, if◌then◌else◌, List, [], ◌∷◌, ◌++◌, map, length, ◌==◌, Option, None, Some, slice_get, slice_set, refl, sym, ap, ◌∙◌, subst, arith}
use Rattle.std.specs.Prelude.{IsSome, IfSome}
use Rattle.cx_core.specs.declared.program.Linkage.{Linkage}
use Rattle.cx_core.specs.declared.program.Linkage.TheVariants.{External, Internal, Nothing}
use Rattle.cx_core.specs.Linked.{home_of, IsStatic}
use Rattle.cx_core.specs.Trees.{CTy, ty, void, basic, enum_type, pointer, array, record_type, function, CTypes, CPuts, CMention, defines}
use Rattle.cx_core.specs.Typing.{CHome}
use Rattle.cx_core.specs.ValidTypes.{IsComplete}
use Rattle.cx_lex.specs.declared.token.Keyword.TheVariants as keyword
use Rattle.cx_rules.proofs.UnitNodesAgree.{s_init_walk, s_declared_ends, s_named_walk}
use Rattle.cx_rules.specs.declared.kinds.SpecsPlace.TheVariants.{File}
use Rattle.cx_rules.specs.Declare.{is_linked, is_outside, is_typedef, thing_named, linked_thing, beside_thing, with_object_at, CBegun, CDeclaring, declaring, begun_as, clashes, with_declaration, with_content}
use Rattle.cx_rules.specs.Initial.{CStored, completed_type, puts_of}
use Rattle.cx_rules.specs.Nodes.{CNode, declares_node}
use Rattle.cx_rules.specs.Pieces.{whole_target}
use Rattle.cx_rules.specs.Readings.{seen_chain}
use Rattle.cx_rules.specs.Rules.{is_unlinked}
use Rattle.cx_rules.specs.Scope.{an_object, CThing, CScope, ordinary, with_told_type}
use Rattle.cx_rules.specs.Shapes.{CSpecs, CShape, has_storage}
use Rattle.cx_rules.specs.Types.{is_function, is_void, is_array, is_incomplete, is_too_large, has_size, composite}
use Rattle.cx_rules.specs.Units.{seen_initialiser}
use Rattle.cx_rules.specs.UnitWalk.{CMeant as CMeaning, name_or_none, clashes_behind}
use Rattle.cx_tree.specs.Trees.{InitialiserTree}
use Rattle.cx_core.specs.Layouts.{whole_extent, layouts_of}
use Rattle.cx_typed.proofs.DeclaredForms.{declared_form, declared_object}
use Rattle.cx_typed.proofs.Filled.{completed_known, values_fill}
use Rattle.cx_typed.proofs.Goes.{go_gives, go_becomes, go_here_then, go_chain, go_changed}
use Rattle.cx_typed.proofs.Growing.{some_stays, whole_grows, complete_stays}
use Rattle.cx_typed.proofs.Promoted.{neither, is_not}
use Rattle.cx_typed.proofs.Same.{both}
use Rattle.cx_typed.proofs.Scopes.{pushed_at, set_at, set_other, within}
use Rattle.cx_typed.specs.Growth.{Grows}
use Rattle.cx_typed.specs.Initialised.{IsKnownWhole, IsInitialised, InitialiserGoes, NothingToFill}
use Rattle.cx_typed.specs.Operands.{IsKnownType}
use Rattle.cx_typed.specs.Scopes.{Serves}
use Rattle.cx_typed.specs.Unbroken.{IsUnbroken}
use Rattle.cx_typed.specs.Walked.{Ends}
use Rattle.cx_typed_files.proofs.DeclaredThing.{thing_defined, IsTold, is_told}
use Rattle.cx_typed_files.proofs.FileContent.{IsToldWhole, IsOwnThing, behind_steps, behind_good, content_accounted, held_behind, content_typed}
use Rattle.cx_typed_files.proofs.FileSteps.{IsFileStep, backs_before, file_linked, functions_once}
use Rattle.cx_typed_files.specs.FileScope.{IsAtFileScope}
use Rattle.cx_typed_units.proofs.Begun.{IsBegunAs}
use Rattle.cx_typed_units.proofs.DeclarationAccounts.{IsAccountable, declaration_accounted}
use Rattle.cx_typed_units.proofs.Entities.{linked_number, GoesWith}
use Rattle.cx_typed_units.proofs.FilledObjects.{AreFilled, declared_filled}
use Rattle.cx_typed_units.proofs.Fine.{does_by, meant_by, IsFine, begun_is, unclashed, fine_is, form_is, thing_goes}
use Rattle.cx_typed_units.proofs.FirstInternal.{first_internal}
use Rattle.cx_typed_units.proofs.Named.{set_thing}
use Rattle.cx_typed_units.proofs.Owned.{stored_in, completed_function, completed_declared, go_known}
use Rattle.cx_typed_units.proofs.Redeclared.{redeclare_first}
use Rattle.cx_typed_units.proofs.RestNodes.{StaysTo, got_set}
use Rattle.cx_typed_units.proofs.Rests.{rest_leads}
use Rattle.cx_typed_units.proofs.RestTrees.{kept_initialiser_walk}
use Rattle.cx_typed_units.proofs.Stretches.{passes_declare}
use Rattle.cx_typed_units.proofs.Unfilled.{complete_object, size_said, old_objects, next_grows}
use Rattle.cx_typed_units.specs.Account.{account_of, IsAccounted}
use Rattle.cx_typed_units.specs.Rest.{CRest, is_defining}
use Rattle.cx_typed_units.specs.Stretches.{IsThing}

same_value : {X : Type 0} {x y : X} → Some x ≡ Some y → x ≡ y
same_value is = cc

-- ---- what the content of an object changes, as `Declare` says it

abbrev if_object : Bool → ℕ → Option ℕ
if_object true number = Some number
if_object false number = None

abbrev target_type : Bool → CTy → Option CTy
target_type true type = Some type
target_type false type = None

abbrev is_external : Linkage → Bool
is_external External = true
is_external Internal = false
is_external Nothing = false

abbrev completed_thing : List ℕ → CTy → Option CThing → CScope → CScope
completed_thing name type None scope = scope
completed_thing name type (Some one) scope = record scope { things = set_thing name (record one { type = type }) scope.things }

abbrev told_by : Linkage → ℕ → CTy → CScope → CScope
told_by External index type scope = with_told_type index type scope
told_by Internal index type scope = scope
told_by Nothing index type scope = scope

abbrev begun_with : (typedef is_fun : Bool) → Linkage → CBegun → (own next mentioned : ℕ) → Bool → CBegun
begun_with typedef is_fun linkage begun own next mentioned static = record begun {
  linkage = linkage;
  object = if_object (not (typedef || is_fun)) (if is_linked linkage then own else next);
  is_static = is_linked linkage || static;
  mention = if not typedef && (is_external linkage || (is_fun && is_linked linkage)) then Some mentioned else None;
}

abbrev content_form : Linkage → List ℕ → (number mentioned : ℕ) → CTy → CPuts → CScope → Option CThing → CScope
content_form linkage name number mentioned type puts later found =
    told_by linkage mentioned type
    (completed_thing name (beside_thing type found) found
    (with_object_at number (stored_in true type puts) (record later { declared = redeclare_first name type later.declared })))

content_is : (linkage : Linkage) → is_linked linkage ≡ true → (begun : CBegun) (own next mentioned : ℕ) (static : Bool) (type : CTy) (puts : CPuts) (later : CScope)
    → with_content (begun_with false false linkage begun own next mentioned static) type puts later ≡ content_form linkage begun.name own mentioned type puts later (thing_named begun.name later.things)
unfolding with_content
content_is External linked begun own next mentioned static type puts later = refl
content_is Internal linked begun own next mentioned static type puts later = refl
content_is Nothing linked begun own next mentioned static type puts later = absurd cc

abbrev set_mention : ℕ → List CMention → Option CMention → List CMention
set_mention index mentions None = mentions
set_mention index mentions (Some one) = slice_set mentions index one

abbrev with_type : CTy → Option CMention → Option CMention
with_type type None = None
with_type type (Some one) = Some (record one { type = type })

abbrev set_told : ℕ → List CMention → CTy → Option CMention → List CMention
set_told index mentions type found = set_mention index mentions (with_type type found)

-- ---- types that are initialised are complete

not_incomplete : (of_code sized : Bool) → sized ≡ true → (not of_code && not sized) ≡ false
not_incomplete true sized is = refl
not_incomplete false true is = refl
not_incomplete false false is = absurd cc

or_none : (a : Bool) → (a || false) ≡ true → a ≡ true
or_none true is = refl
or_none false is = absurd cc

-- what has a size isn't `void`
sized_some : (types : CTypes) (type : CTy) → (has_size types type || is_array type) ≡ true → is_void type ≡ false
sized_some types (ty void is_const) sized = absurd (let h : false ≡ true = sized in cc)
sized_some types (ty (array element length) is_const) sized = refl
sized_some types (ty (basic which) is_const) sized = refl
sized_some types (ty (enum_type number) is_const) sized = refl
sized_some types (ty (pointer to) is_const) sized = refl
sized_some types (ty (record_type number) is_const) sized = refl
sized_some types (ty (function result params variadic) is_const) sized = refl

full_complete : (opens : List ℕ) (types : CTypes) (unit : ℕ) (type : CTy) (stored : List CStored) → (has_size types type || is_array type) ≡ true → is_function type ≡ false
    → IsKnownType opens types unit (completed_type type stored) → is_too_large types (completed_type type stored) ≡ false → IsComplete types (completed_type type stored)
full_complete opens types unit (ty (array element None) is_const) stored sized no_code known small = known.type_in.1.length.1
full_complete opens types unit (ty (array element (Some count)) is_const) stored sized no_code known small = known.type_in.1.length.1
full_complete opens types unit (ty void is_const) stored sized no_code known small =
    complete_object types (ty void is_const) no_code (not_incomplete false (has_size types (ty void is_const)) (or_none (has_size types (ty void is_const)) sized)) small
full_complete opens types unit (ty (basic which) is_const) stored sized no_code known small =
    complete_object types (ty (basic which) is_const) no_code (not_incomplete false (has_size types (ty (basic which) is_const)) (or_none (has_size types (ty (basic which) is_const)) sized)) small
full_complete opens types unit (ty (enum_type number) is_const) stored sized no_code known small =
    complete_object types (ty (enum_type number) is_const) no_code (not_incomplete false (has_size types (ty (enum_type number) is_const)) (or_none (has_size types (ty (enum_type number) is_const)) sized)) small
full_complete opens types unit (ty (pointer to) is_const) stored sized no_code known small =
    complete_object types (ty (pointer to) is_const) no_code (not_incomplete false (has_size types (ty (pointer to) is_const)) (or_none (has_size types (ty (pointer to) is_const)) sized)) small
full_complete opens types unit (ty (record_type number) is_const) stored sized no_code known small =
    complete_object types (ty (record_type number) is_const) no_code (not_incomplete false (has_size types (ty (record_type number) is_const)) (or_none (has_size types (ty (record_type number) is_const)) sized)) small
full_complete opens types unit (ty (function result params variadic) is_const) stored sized no_code known small = absurd cc

or_grows : (a b c : Bool) → (a ≡ true → b ≡ true) → (a || c) ≡ true → (b || c) ≡ true
or_grows true b c more is = ap (λ x. x || c) (more refl)
or_grows false true c more is = refl
or_grows false false c more is = is

thing_at : (P : CThing → Type 0) (found : Option CThing) → IsSome found × IfSome found P → (one : CThing) × (found ≡ Some one) × P one
thing_at P None held = absurd (let h : false ≡ true = held.0 in cc)
thing_at P (Some one) held = (one, refl, held.1)

-- ---- mentions

module _ (scope middle later : CScope) (name : List ℕ) (whole : CTy) (mention : CMention) (mentions_are : middle.mentions ≡ scope.mentions ++ mention ∷ []) (named : mention.name ≡ name) (linked : mention.linkage ≡ External)
    (does : mention.does ≡ defines) (middle_early : (index : ℕ) (one : CMention) → slice_get scope.mentions index ≡ Some one → slice_get later.mentions index ≡ Some one)
    (middle_later : (index : ℕ) (one : CMention) → slice_get middle.mentions index ≡ Some one → slice_get later.mentions index ≡ Some one) where
  abbrev told : CMention
  told = record mention { type = whole }

  abbrev told_list : List CMention
  told_list = slice_set later.mentions (length scope.mentions) told

  pub mention_at : slice_get later.mentions (length scope.mentions) ≡ Some mention
  mention_at = middle_later (length scope.mentions) mention (ap (λ mentions. slice_get mentions (length scope.mentions)) mentions_are ∙ pushed_at scope.mentions mention)

  other_at : (index : ℕ) (one : CMention) → slice_get later.mentions index ≡ Some one → (index ≡ length scope.mentions → ⊥) → slice_get told_list index ≡ Some one
  other_at index one at apart = set_other later.mentions (length scope.mentions) index told apart ∙ at

  own_is : (index : ℕ) (one : CMention) → slice_get later.mentions index ≡ Some one → index ≡ length scope.mentions → one ≡ mention
  own_is index one at same = same_value (sym at ∙ (ap (slice_get later.mentions) same ∙ mention_at))

  said_by : (index : ℕ) (one : CMention) → (slice_get later.mentions index ≡ Some one) ⊎ (told ≡ one) → (slice_get later.mentions index ≡ Some one) ⊎ ((one.name ≡ name) × (one.type ≡ whole) × (one.linkage ≡ External))
  said_by index one (inl at) = inl at
  said_by index one (inr is) = inr (ap (λ (x : CMention). x.name) (sym is) ∙ named, ap (λ (x : CMention). x.type) (sym is), ap (λ (x : CMention). x.linkage) (sym is) ∙ linked)

  pub external_whole : IsToldWhole scope later told_list name External whole
  external_whole = record {
    others = λ index one at apart. other_at index one at (λ same. apart (ap (λ (x : CMention). x.name) (own_is index one at same) ∙ named));
    used = λ index one at none. other_at index one at (λ same.
        let h : is_defining mention.does ≡ false = ap (λ (x : CMention). is_defining x.does) (sym (own_is index one at same)) ∙ none in
        let k : is_defining mention.does ≡ true = ap is_defining does in
        let c : true ≡ false = sym k ∙ h in cc);
    early = λ index one at. other_at index one (middle_early index one at) (λ same. let h : index < length scope.mentions = within scope.mentions index one at in omega (arith, h, same));
    said = λ index one at. said_by index one (got_set later.mentions (length scope.mentions) told index one at);
    own = λ external. record {
      index = length scope.mentions;
      one = told;
      at = set_at later.mentions (length scope.mentions) told mention mention_at;
      name_is = named;
      linkage_is = linked;
      says = (refl, does);
    };
  }

internal_whole : (scope later : CScope) (name : List ℕ) (linkage : Linkage) (whole : CTy) → (linkage ≡ External → ⊥)
    → ((index : ℕ) (one : CMention) → slice_get scope.mentions index ≡ Some one → slice_get later.mentions index ≡ Some one) → IsToldWhole scope later later.mentions name linkage whole
internal_whole scope later name linkage whole none early = record {
  others = λ index one at apart. at;
  used = λ index one at is. at;
  early = early;
  said = λ index one at. inl at;
  own = λ external. absurd (none external);
}

-- ---- the walk

module _ (opens : List ℕ) (specs : CSpecs) (line : ℕ) (written : CTy) (name : List ℕ) (scope : CScope) (at : IsAtFileScope opens scope) (known : IsKnownType opens scope.types scope.unit written)
    (few : nat_lt 1 (length specs.storage) ≡ false) (init : InitialiserTree) (goes : InitialiserGoes init) (nowhere : NothingToFill init) where
  abbrev one : CDeclaring
  one = declaring scope File specs name line written true

  abbrev middle : CScope
  middle = with_declaration one scope

  abbrev begun : CBegun
  begun = begun_as scope one written

  abbrev node : CScope → List CStored → CNode
  node later stored = declares_node (record {
    where_stands = File;
    specs = specs;
    type = completed_type one.type stored;
    linkage = one.linkage;
    clashes = clashes_behind true later begun (completed_type one.type stored);
    has_init = true;
  })

  apart_by : (later : CScope) (stored : List CStored) → IsUnbroken later later.types (node later stored) → clashes scope name (is_typedef specs) written one.linkage true ≡ false
  apart_by later stored unbroken = (neither {a = clashes scope name (is_typedef specs) written one.linkage true} unbroken.k2).0

  fine_by : (later : CScope) (stored : List CStored) → IsUnbroken later later.types (node later stored) → IsFine opens scope one
  fine_by later stored unbroken =
      let apart = apart_by later stored unbroken in
      let said = size_said (is_typedef specs) (is_unlinked one.linkage) (is_incomplete later.types (completed_type one.type stored)) unbroken.k5 in
      fine_is opens scope at.good at.orderly File specs name line written true known (unclashed scope name (is_typedef specs) written one.linkage true apart)
      (λ typedef no_fun. completed_declared one.linkage one.type stored
      (declared_form later.types one.linkage (completed_type one.type stored) (completed_function one.type stored ∙ no_fun) (said typedef)))

  abbrev may : Bool
  may = not (is_typedef specs) && (not (is_function one.type) && ((true || not (has_storage keyword.Extern specs)) && (has_size scope.types one.type || is_array one.type)))

  record IsObjectKind : Type 0 where
    typedef : is_typedef specs ≡ false
    object : is_function one.type ≡ false
    sized : (has_size scope.types one.type || is_array one.type) ≡ true

  kind_of : may ≡ true → IsObjectKind
  kind_of is =
      let first = both is in
      let second = both first.1 in
      record { typedef = is_not first.0; object = is_not second.0; sized = second.1 }

  record IsFilledBy (stored : List CStored) (later : CScope) : Type 0 where
    initialised : IsInitialised opens (record { is_static = is_linked one.linkage || has_storage keyword.Static specs; type = one.type }) middle stored later
    stays : StaysTo middle later

  module _ (fine : IsFine opens scope one) (kind : IsObjectKind) (stored : List CStored) (later : CScope) (held : IsFilledBy stored later) (unbroken : IsUnbroken later later.types (node later stored)) where
    abbrev full : CTy
    full = completed_type one.type stored

    abbrev puts : CPuts
    puts = puts_of later.types one.type stored

    abbrev number : ℕ
    number = linked_number scope.next_object (thing_named name scope.things)

    abbrev reg : Bool
    reg = has_storage keyword.Register specs

    linked : is_linked one.linkage ≡ true
    linked = file_linked specs written (ordinary name scope.declared) kind.typedef

    begun_so : IsBegunAs opens scope name (an_object number one.type reg one.linkage) middle
    begun_so =
        subst (λ b. IsBegunAs opens scope name (meant_by false false b one scope) middle) linked
        (subst (λ b. IsBegunAs opens scope name (meant_by false b (is_linked one.linkage) one scope) middle) kind.object
        (subst (λ b. IsBegunAs opens scope name (meant_by b (is_function one.type) (is_linked one.linkage) one scope) middle) kind.typedef (begun_is opens scope at.good at.orderly one fine)))

    found : (thing : CThing) × (thing_named name middle.things ≡ Some thing) × IsThing opens middle.types number one.type one.linkage false thing
    found = thing_at (IsThing opens middle.types number one.type one.linkage false) (thing_named name middle.things) (begun_so.linked linked)

    abbrev thing : CThing
    thing = found.0

    own_thing : IsOwnThing opens name number one.type one.linkage middle thing
    own_thing = record { there = found.1; is_thing = found.2; defined = thing_defined scope one kind.typedef kind.object linked refl thing found.1 }

    full_known : IsKnownWhole opens later.types later.unit full
    full_known = completed_known opens later.types later.unit one.type stored held.initialised.stored.object held.initialised.stored.parts held.initialised.some unbroken.m3

    there_later : thing_named name later.things ≡ Some thing
    there_later = ap (thing_named name) (ap {A = CRest} (λ rest. rest.things) held.stays.rest_is) ∙ found.1

    full_goes : GoesWith later.types full one.linkage thing
    full_goes =
        let second = (neither {a = clashes scope name (is_typedef specs) written one.linkage true} unbroken.k2).1 in
        thing_goes later.types full one.linkage false (linked_thing one.linkage name later.things) second thing (ap (λ b. if b then thing_named name later.things else None) linked ∙ there_later)

    size : IsComplete later.types full
    size =
        full_complete opens later.types later.unit one.type stored
        (or_grows (has_size scope.types one.type) (has_size later.types one.type) (is_array one.type)
        (some_stays (whole_extent (layouts_of scope.types) one.type) (whole_extent (layouts_of later.types) one.type)
        (whole_grows opens scope.types later.types (subst (λ types. Grows opens types later.types) begun_so.types_are held.initialised.stored.passes.grows) one.type)) kind.sized)
        kind.object full_known.known unbroken.m3

    own_static : (home : CHome) → Serves home opens middle later → IsStatic (home_of home.program home.mentions home.unit) full puts
    own_static home serves =
        let fill = values_fill opens (record { is_static = is_linked one.linkage || has_storage keyword.Static specs; type = one.type }) stored middle later held.initialised.stored in
        let static_is : (is_linked one.linkage || has_storage keyword.Static specs) ≡ true = ap (λ b. b || has_storage keyword.Static specs) linked in
        record {
          complete = complete_stays opens later.types home.program.types serves.grows full size;
          typed = fill.outside home serves static_is;
          constant = fill.constant home serves static_is;
        }

    filled_middle : (home : CHome) → AreFilled home scope.objects → AreFilled home middle.objects
    filled_middle home was =
        declared_filled home opens None scope at.accounted one (λ t f l. absurd (let h : true ≡ false = sym linked ∙ l in cc)) was (old_objects opens scope at.good at.orderly one fine)

    able : IsAccountable None scope one
    able = record {
      alone = λ is. refl;
      outside = λ is. refl;
      internal = λ internal none. first_internal opens scope at.orderly name none File specs written few internal;
    }

    accounted_middle : IsAccounted opens (Some name) (account_of middle)
    accounted_middle =
        subst (λ pending. IsAccounted opens pending (account_of middle))
        (ap (λ b. if b then None else if is_function one.type then None else if is_linked one.linkage then Some name else None) kind.typedef
        ∙ (ap (λ b. if b then None else if is_linked one.linkage then Some name else None) kind.object ∙ ap (λ b. if b then Some name else None) linked))
        (declaration_accounted opens None scope at.orderly one fine at.accounted (λ t f l. able))

    accounted_later : IsAccounted opens (Some name) (account_of later)
    accounted_later =
        (rest_leads opens middle later (passes_declare opens middle later held.initialised.stored.passes) held.initialised.stored.passes.declared held.stays held.initialised.stored.passes.numbers held.initialised.stored.made).keeps
        (Some name) accounted_middle

    early_kept : (index : ℕ) (x : CMention) → slice_get scope.mentions index ≡ Some x → slice_get later.mentions index ≡ Some x
    early_kept index x is = held.initialised.stored.passes.mentions index x (begun_so.leads.declares.mentions index x is)

    -- behind it, whichever mentions there are
    behind_at : (mentions : List CMention) → IsToldWhole scope later mentions name one.linkage full
        → IsFileStep opens scope (record later {
          declared = redeclare_first name full later.declared;
          objects = map (λ x. if x.object == number then stored_in true full puts x else x) later.objects;
          things = set_thing name (record thing { type = composite full thing.type }) later.things;
          mentions = mentions;
        })
    behind_at mentions told =
        let steps =
        behind_steps opens scope at.orderly name number one.type reg one.linkage linked middle later begun_so thing own_thing held.initialised.stored.passes held.stays held.initialised.stored.made held.initialised.stored.good full
        full_known.known full_known.object full_goes puts mentions told in
        record {
          at = record {
            good = behind_good opens scope at.orderly name number one.type reg one.linkage linked middle later begun_so thing own_thing held.initialised.stored.passes held.stays held.initialised.stored.made held.initialised.stored.good full
                full_known.known full_known.object full_goes puts mentions told;
            orderly = steps.orderly at.orderly;
            accounted = content_accounted opens scope at.orderly name number one.type reg one.linkage linked middle later begun_so thing own_thing held.initialised.stored.passes held.stays held.initialised.stored.made
                held.initialised.stored.good full full_known.known full_known.object full_goes puts mentions told accounted_later;
            typed = content_typed opens scope at.orderly name number one.type reg one.linkage linked middle later begun_so thing own_thing held.initialised.stored.passes held.stays held.initialised.stored.made
                held.initialised.stored.good full full_known.known full_known.object full_goes puts mentions told own_static filled_middle at.typed;
            covered = steps.covered at.orderly at.covered;
            outside = steps.in_function_is ∙ at.outside;
            no_label = ap {A = CRest} (λ rest. rest.body) held.stays.rest_is ∙ (begun_so.body_is ∙ at.no_label);
            blocks = functions_once scope.next_object later.next_object scope.functions later.functions
                (let h = next_grows scope one in let k = held.initialised.stored.passes.numbers.grows in omega (arith, h, k)) steps.functions_are at.blocks;
            held = λ home backs.
                held_behind opens scope at.orderly name number one.type reg one.linkage linked middle later begun_so thing own_thing held.initialised.stored.passes held.stays held.initialised.stored.made held.initialised.stored.good
                full full_known.known full_known.object full_goes puts mentions told home backs (at.held home (backs_before opens home scope _ steps backs));
          };
          unit_is = steps.declares.unit_is;
          grows = steps.declares.grows;
        }

    content_at : (linkage : Linkage) → one.linkage ≡ linkage → is_linked linkage ≡ true → IsFileStep opens scope (content_form linkage name number (length scope.mentions) full puts later (Some thing))
    content_at External e is_linked_so =
        let told = is_told scope one kind.typedef kind.object linked e in
        let mention_is = mention_at scope middle later name full told.mention told.mentions_are told.name_is (told.linkage_is ∙ e) (does_of told) early_kept
        (λ index x is. held.initialised.stored.passes.mentions index x is) in
        subst (λ found. IsFileStep opens scope (record later {
          declared = redeclare_first name full later.declared;
          objects = map (λ x. if x.object == number then stored_in true full puts x else x) later.objects;
          things = set_thing name (record thing { type = composite full thing.type }) later.things;
          mentions = set_told (length scope.mentions) later.mentions full found;
        })) (sym mention_is)
        (behind_at (slice_set later.mentions (length scope.mentions) (record told.mention { type = full }))
        (subst (λ l. IsToldWhole scope later (slice_set later.mentions (length scope.mentions) (record told.mention { type = full })) name l full) (sym e)
        (external_whole scope middle later name full told.mention told.mentions_are told.name_is (told.linkage_is ∙ e) (does_of told) early_kept
        (λ index x is. held.initialised.stored.passes.mentions index x is))))
      where
        does_of : (told : IsTold scope one kind.typedef kind.object linked) → told.mention.does ≡ defines
        does_of told = told.does_is ∙ ap (λ b. does_by (not b && (is_outside one.where_stands && (one.has_init || not (has_storage keyword.Extern one.specs))))) kind.object
    content_at Internal e is_linked_so =
        behind_at later.mentions (internal_whole scope later name one.linkage full (λ external. let h : Internal ≡ External = sym e ∙ external in cc) early_kept)
    content_at Nothing e is_linked_so = absurd cc

    filled_ends : IsFileStep opens scope (with_content begun full puts later)
    filled_ends =
        subst (λ found. IsFileStep opens scope (with_content found full puts later)) (sym begun_form)
        (subst (IsFileStep opens scope) (sym (content_is one.linkage linked begun number scope.next_object (length scope.mentions) (has_storage keyword.Static specs) full puts later))
        (subst (λ there. IsFileStep opens scope (content_form one.linkage name number (length scope.mentions) full puts later there)) (sym there_later) (content_at one.linkage refl linked)))
      where
        begun_form : begun ≡ begun_with false false one.linkage begun number scope.next_object (length scope.mentions) (has_storage keyword.Static specs)
        begun_form =
            ap (λ b. begun_with b (is_function one.type) one.linkage begun number scope.next_object (length scope.mentions) (has_storage keyword.Static specs)) kind.typedef
            ∙ ap (λ b. begun_with false b one.linkage begun number scope.next_object (length scope.mentions) (has_storage keyword.Static specs)) kind.object

  given_by : (m : Bool) → may ≡ m → IsFine opens scope one → is_function one.type ≡ is_function written
      → Ends (seen_chain (List CStored) CMeaning (seen_initialiser (whole_target (is_linked one.linkage || has_storage keyword.Static specs) (target_type m one.type)) init)
      (λ stored. s_declared_ends File specs line scope begun true stored)) middle (λ meant after. IsFileStep opens scope after)
  given_by false is fine form =
      go_chain _ _ _ _ middle (λ stored later. ⊥) _ (nowhere opens _ middle (begun_is opens scope at.good at.orderly one fine).good) (λ stored later held. absurd held)
  given_by true is fine form =
      let kind = kind_of is in
      let begun_here = begun_is opens scope at.good at.orderly one fine in
      let type_known : IsKnownType opens middle.types middle.unit one.type =
      subst (λ unit. IsKnownType opens middle.types unit one.type) (sym begun_here.leads.declares.unit_is) (subst (λ types. IsKnownType opens types scope.unit one.type) (sym begun_here.types_are) fine.known) in
      go_chain _ _ _ _ middle IsFilledBy _
      (record {
        ends = λ done. record {
          initialised = (goes opens (record { is_static = is_linked one.linkage || has_storage keyword.Static specs; type = one.type }) middle begun_here.good
              (record { known = type_known; object = declared_object one.linkage one.type (fine.object kind.typedef kind.object) (sized_some scope.types one.type kind.sized) })).ends done;
          stays = (kept_initialiser_walk (whole_target (is_linked one.linkage || has_storage keyword.Static specs) (Some one.type)) init middle).kept;
        };
      })
      (λ stored later held. go_here_then _ _ later _ (go_changed _ later _ _ _ _ later _ (λ unbroken. filled_ends fine kind stored later held unbroken)))

  given_goes : Ends (seen_chain (List CStored) CMeaning (s_init_walk begun.target (Some init)) (λ stored. s_declared_ends File specs line scope begun true stored)) middle (λ meant after. IsFileStep opens scope after)
  given_goes =
      let stored = (seen_initialiser begun.target init middle).meaning in
      let later = (seen_initialiser begun.target init middle).scope in
      go_known (List CStored) CMeaning (seen_initialiser begun.target init) (λ values. s_declared_ends File specs line scope begun true values) middle (IsUnbroken later later.types (node later stored)) _
      (go_here_then _ _ later _ (go_changed _ later _ _ _ _ later _ (λ unbroken. unbroken)))
      (λ unbroken.
      given_by may refl (fine_by later stored unbroken)
      (form_is opens scope at.good at.orderly File specs name line written true known (unclashed scope name (is_typedef specs) written one.linkage true (apart_by later stored unbroken))))

pub file_filled : (opens : List ℕ) (specs : CSpecs) (line : ℕ) (written : CTy) (shape : CShape) (scope : CScope) → IsAtFileScope opens scope → IsKnownType opens scope.types scope.unit written
    → nat_lt 1 (length specs.storage) ≡ false → (init : InitialiserTree) → InitialiserGoes init → NothingToFill init → Ends (s_named_walk File specs line written shape (Some init)) scope (λ meant after. IsFileStep opens scope after)
file_filled opens specs line written shape scope at known few init goes nowhere =
    let one_is = declaring scope File specs (name_or_none shape.name) line written true in
    go_here_then _ _ scope _ (go_chain _ _ _ _ scope (λ begun middle. (begun ≡ begun_as scope one_is written) × (middle ≡ with_declaration one_is scope)) _
    (go_here_then _ _ scope _ (go_chain _ _ _ _ scope (λ done middle. middle ≡ with_declaration one_is scope) _ (go_becomes (with_declaration one_is scope) scope _ refl) (λ done middle is.
    go_gives _ middle _ (refl, is))))
    (λ begun middle is.
    subst (λ found. Ends (seen_chain (List CStored) CMeaning (s_init_walk found.target (Some init)) (λ stored. s_declared_ends File specs line scope found true stored)) middle (λ meant after. IsFileStep opens scope after)) (sym is.0)
    (subst (λ later. Ends (seen_chain (List CStored) CMeaning (s_init_walk (begun_as scope one_is written).target (Some init)) (λ stored. s_declared_ends File specs line scope (begun_as scope one_is written) true stored))
    later (λ meant after. IsFileStep opens scope after)) (sym is.1)
    (given_goes opens specs line written (name_or_none shape.name) scope at known few init goes nowhere))))
