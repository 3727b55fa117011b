-- The walk over declarators with initialisers in blocks (ISO C99, 6.7.8).
use Rattle.std.proofs.Common.{◌≡◌, ℕ, Bool, true, false, not, ◌&&◌, ◌||◌, if◌then◌else◌, List, length, Option, None, Some, refl, sym, ap, ◌∙◌, subst, arith, suc}
use Rattle.std.specs.List.{Contains}
use Rattle.cr_base.specs.declared.refusal.Place.{Place as TextPlace}
use Rattle.cx_core.specs.declared.program.Linkage.{Linkage}
use Rattle.cx_core.specs.declared.program.Linkage.TheVariants.{External, Internal, Nothing}
use Rattle.cx_core.specs.Trees.{CTy, CPuts, form_of_type}
use Rattle.cx_core.specs.Linked.{home_of, IsStatic, IsDeclaredForm}
use Rattle.cx_core.specs.Typing.{CHome, IsThere}
use Rattle.cx_core.specs.ValidTypes.{IsComplete}
use Rattle.cx_lex.specs.declared.token.Keyword.TheVariants as keyword
use Rattle.cx_rules.proofs.UnitNodesAgree.{s_init_walk, s_declared_ends}
use Rattle.cx_rules.specs.declared.kinds.SpecsPlace.{SpecsPlace}
use Rattle.cx_rules.specs.Declare.{is_linked, is_outside, is_typedef, linkage_of, thing_named, with_object_at, CBegun, CDeclaring, declaring, begun_as, clashes, with_declaration, with_content}
use Rattle.cx_rules.specs.Initial.{CStored, completed_type, puts_of}
use Rattle.cx_rules.specs.Nodes.{CNode, declares_node}
use Rattle.cx_rules.specs.Pieces.{whole_target}
use Rattle.cx_rules.specs.Readings.{seen_chain}
use Rattle.cx_rules.specs.Rules.{is_unlinked}
use Rattle.cx_rules.specs.Scope.{CMeant, an_object, CScope, ordinary}
use Rattle.cx_rules.specs.Shapes.{CSpecs, has_storage}
use Rattle.cx_rules.specs.Types.{is_function, is_array, is_incomplete, has_size}
use Rattle.cx_rules.specs.Units.{seen_initialiser}
use Rattle.cx_rules.specs.UnitWalk.{CMeant as CMeaning, name_or_none, literals_since, declared_meant, clashes_behind}
use Rattle.cx_tree.specs.Trees.{InitialiserTree}
use Rattle.cx_typed.proofs.DeclaredForms.{declared_form, unlinked_object}
use Rattle.cx_typed.proofs.Filled.{completed_known, values_fill}
use Rattle.cx_typed.proofs.Growing.{complete_stays}
use Rattle.cx_typed.proofs.Goes.{go_gives, go_becomes, go_here_then, go_chain, go_changed}
use Rattle.cx_typed.proofs.Promoted.{neither, is_not}
use Rattle.cx_typed.proofs.Same.{both}
use Rattle.cx_typed.specs.Initialised.{IsKnownWhole, IsInitialised, InitialiserGoes, NothingToFill}
use Rattle.cx_typed.specs.Operands.{IsKnownType}
use Rattle.cx_typed.specs.Scopes.{Serves}
use Rattle.cx_typed.specs.Unbroken.{IsUnbroken}
use Rattle.cx_typed.specs.Walked.{IsGood, Ends}
use Rattle.cx_typed_units.proofs.Begun.{IsBegunAs}
use Rattle.cx_typed_units.proofs.DeclarationAccounts.{plain_accounted}
use Rattle.cx_typed_units.proofs.Declared.{plain_declared, begun_declared}
use Rattle.cx_typed_units.proofs.Entities.{linked_number}
use Rattle.cx_typed_units.proofs.Fine.{meant_by, static_puts, IsFine, begun_is, unclashed, fine_is, form_is}
use Rattle.cx_typed_units.proofs.Once.{once_first, once_later, literals_once}
use Rattle.cx_typed_units.proofs.Owned.{stored_in, own_content, completed_function, completed_declared, completed_goes, go_known, IsOwn, final_at, behind_leads, behind_good, init_serves, behind_held}
use Rattle.cx_typed_units.proofs.Redeclared.{redeclare_first}
use Rattle.cx_typed_units.proofs.RestNodes.{StaysTo}
use Rattle.cx_typed_units.proofs.RestTrees.{kept_initialiser_walk}
use Rattle.cx_typed_units.proofs.Unfilled.{complete_object, size_said, own_object, own_all, own_found, meaning_by, IsThereHere, own_next}
use Rattle.cx_typed_units.specs.Account.{account_of, IsAccounted}
use Rattle.cx_typed_units.specs.Rest.{CRest}
use Rattle.cx_typed_units.specs.Once.{AreOnce}
use Rattle.cx_typed_units.specs.Statements.{IsDeclaration}
use Rattle.cx_typed_units.specs.Stretches.{IsOrderly, Leads, Backs, IsHeldAt, AreIn}
use Rattle.cx_typed_units.specs.Forms.{InitialisersGo}

-- ---- tests of declarations

no_extern : (outside extern : Bool) → outside ≡ false → (outside || not extern) ≡ true → extern ≡ false
no_extern true extern is held = absurd cc
no_extern false extern is held = is_not held

none_by : (typedef outside static extern is_fun : Bool) (linked : Linkage) → typedef ≡ false → outside ≡ false → extern ≡ false → is_fun ≡ false
    → (if typedef then Nothing else if outside && static then Internal else if extern || is_fun then linked else if outside then External else Nothing) ≡ Nothing
none_by true outside static extern is_fun linked t o e f = absurd cc
none_by false true static extern is_fun linked t o e f = absurd cc
none_by false false static true is_fun linked t o e f = absurd cc
none_by false false static false true linked t o e f = absurd cc
none_by false false static false false linked t o e f = refl

nothing_by : (place : SpecsPlace) (specs : CSpecs) (type : CTy) (before : Option CMeant) → is_typedef specs ≡ false → is_outside place ≡ false → has_storage keyword.Extern specs ≡ false → is_function type ≡ false
    → linkage_of place specs type before ≡ Nothing
unfolding linkage_of
nothing_by place specs type before t o e f =
    none_by (is_typedef specs) (is_outside place) (has_storage keyword.Static specs) (has_storage keyword.Extern specs) (is_function type) _ t o e f

-- as `Declare` says it
abbrev if_object : Bool → ℕ → Option ℕ
if_object true number = Some number
if_object false number = None

abbrev is_external : Linkage → Bool
is_external External = true
is_external Internal = false
is_external Nothing = false

-- ---- the walk

abbrev target_type : Bool → CTy → Option CTy
target_type true type = Some type
target_type false type = None

-- what the rules say of the node behind the initialiser
module _ (opens : List ℕ) (place : SpecsPlace) (outside : is_outside place ≡ false) (specs : CSpecs) (line : ℕ) (written : CTy) (name : List ℕ) (scope : CScope) (good : IsGood opens scope)
    (orderly : IsOrderly opens scope) (inside : scope.in_function ≡ true) (known : IsKnownType opens scope.types scope.unit written) (init : InitialiserTree)
    (goes : InitialiserGoes init) (nowhere : NothingToFill init) where
  abbrev one : CDeclaring
  one = declaring scope place specs name line written true

  abbrev middle : CScope
  middle = with_declaration one scope

  abbrev begun : CBegun
  begun = begun_as scope one written

  abbrev node : CScope → List CStored → CNode
  node later stored = declares_node (record {
    where_stands = place;
    specs = specs;
    type = completed_type one.type stored;
    linkage = one.linkage;
    clashes = clashes_behind true later begun (completed_type one.type stored);
    has_init = true;
  })

  apart_by : (later : CScope) (stored : List CStored) → IsUnbroken later later.types (node later stored) → clashes scope name (is_typedef specs) written one.linkage true ≡ false
  apart_by later stored unbroken = (neither {a = clashes scope name (is_typedef specs) written one.linkage true} unbroken.k2).0

  fine_by : (later : CScope) (stored : List CStored) → IsUnbroken later later.types (node later stored) → IsFine opens scope one
  fine_by later stored unbroken =
      let apart = apart_by later stored unbroken in
      let said = size_said (is_typedef specs) (is_unlinked one.linkage) (is_incomplete later.types (completed_type one.type stored)) unbroken.k5 in
      fine_is opens scope good orderly place specs name line written true known (unclashed scope name (is_typedef specs) written one.linkage true apart)
      (λ typedef no_fun. completed_declared one.linkage one.type stored
      (declared_form later.types one.linkage (completed_type one.type stored) (completed_function one.type stored ∙ no_fun) (said typedef)))

  abbrev may : Bool
  may = not (is_typedef specs) && (not (is_function one.type) && ((is_outside place || not (has_storage keyword.Extern specs)) && (has_size scope.types one.type || is_array one.type)))

  -- only an object without linkage may be initialised there
  record IsOwnKind : Type 0 where
    typedef : is_typedef specs ≡ false
    object : is_function one.type ≡ false
    nothing : one.linkage ≡ Nothing

  own_kind : may ≡ true → IsFine opens scope one → is_function one.type ≡ is_function written → IsOwnKind
  own_kind is fine form =
      let first = both is in
      let second = both first.1 in
      let third = both second.1 in
      let typedef = is_not first.0 in
      let object = is_not second.0 in
      let extern = no_extern (is_outside place) (has_storage keyword.Extern specs) outside third.0 in
      record {
        typedef = typedef;
        object = object;
        nothing = nothing_by place specs written (ordinary name scope.declared) typedef outside extern (sym form ∙ object);
      }

  -- what is begun then
  abbrev begun_with : (typedef is_fun : Bool) → Linkage → CBegun
  begun_with typedef is_fun linkage = record {
    name = name;
    type = one.type;
    linkage = linkage;
    clashes = clashes scope name (is_typedef specs) written one.linkage true;
    object = if_object (not (typedef || is_fun)) (if is_linked linkage then linked_number scope.next_object (thing_named name scope.things) else scope.next_object);
    is_static = is_linked linkage || has_storage keyword.Static specs;
    target = begun.target;
    mention = if not typedef && (is_external linkage || (is_fun && is_linked linkage)) then Some (length scope.mentions) else None;
  }

  as_own : (P : CBegun → Type 0) → IsOwnKind → P (begun_with false false Nothing) → P begun
  as_own P kind held =
      subst (λ typedef. P (begun_with typedef (is_function one.type) one.linkage)) (sym kind.typedef)
      (subst (λ is_fun. P (begun_with false is_fun one.linkage)) (sym kind.object) (subst (λ linkage. P (begun_with false false linkage)) (sym kind.nothing) held))

  record IsFilledBy (stored : List CStored) (later : CScope) : Type 0 where
    initialised : IsInitialised opens (record { is_static = is_linked one.linkage || has_storage keyword.Static specs; type = one.type }) middle stored later
    stays : StaysTo middle later

  module _ (fine : IsFine opens scope one) (kind : IsOwnKind) (stored : List CStored) (later : CScope) (held : IsFilledBy stored later) (unbroken : IsUnbroken later later.types (node later stored)) where
    abbrev whole : CTy
    whole = completed_type one.type stored

    abbrev puts : CPuts
    puts = puts_of later.types one.type stored

    abbrev static : Bool
    static = has_storage keyword.Static specs

    begun_so : IsBegunAs opens scope name (an_object scope.next_object one.type (has_storage keyword.Register specs) Nothing) middle
    begun_so =
        subst (λ linkage. IsBegunAs opens scope name (an_object scope.next_object one.type (has_storage keyword.Register specs) linkage) middle) kind.nothing
        (subst (λ b. IsBegunAs opens scope name (an_object (if b then linked_number scope.next_object (thing_named name scope.things) else scope.next_object) one.type (has_storage keyword.Register specs) one.linkage) middle) (ap is_linked kind.nothing)
        (subst (λ b. IsBegunAs opens scope name (meant_by false b (is_linked one.linkage) one scope) middle) kind.object
        (subst (λ b. IsBegunAs opens scope name (meant_by b (is_function one.type) (is_linked one.linkage) one scope) middle) kind.typedef (begun_is opens scope good orderly one fine))))

    accounted_so : (pending : Option (List ℕ)) → IsAccounted opens pending (account_of scope) → IsAccounted opens pending (account_of middle)
    accounted_so pending held =
        plain_accounted opens pending scope orderly one fine held (λ linked. absurd (let h : false ≡ true = ap is_linked (sym kind.nothing) ∙ linked in cc))
        (λ t f linked. absurd (let h : false ≡ true = ap is_linked (sym kind.nothing) ∙ linked in cc))

    own_so : IsOwn scope name static middle (own_object one scope)
    own_so = record {
      at = own_found one scope kind.typedef kind.object (ap is_linked kind.nothing);
      number_is = refl;
      nothing = refl;
      here = refl;
      named = refl;
      puts_are = refl;
      all = own_all one scope kind.typedef kind.object (ap is_linked kind.nothing);
    }

    whole_known : IsKnownWhole opens later.types later.unit whole
    whole_known = completed_known opens later.types later.unit one.type stored held.initialised.stored.object held.initialised.stored.parts held.initialised.some unbroken.m3

    size : IsComplete later.types whole
    size =
        let said = size_said (is_typedef specs) (is_unlinked one.linkage) (is_incomplete later.types whole) unbroken.k5 kind.typedef in
        complete_object later.types whole (completed_function one.type stored ∙ kind.object) (said (ap is_unlinked kind.nothing)) unbroken.m3

    abbrev end : CScope
    end = with_object_at scope.next_object (stored_in static whole puts) (record later { declared = redeclare_first name whole later.declared })

    own_by : (st : Bool) → has_storage keyword.Static specs ≡ st → IsOwn scope name st middle (own_object one scope)
    own_by st e = record { at = own_so.at; number_is = refl; nothing = refl; here = refl; named = refl; puts_are = ap static_puts e; all = own_so.all }

    static_so : (st : Bool) → has_storage keyword.Static specs ≡ st → (home : CHome) → Serves home opens middle later → st ≡ true → IsStatic (home_of home.program home.mentions home.unit) whole puts
    static_so st e home serves is =
        let fill = values_fill opens (record { is_static = is_linked one.linkage || has_storage keyword.Static specs; type = one.type }) stored middle later held.initialised.stored in
        let static_is : (is_linked one.linkage || has_storage keyword.Static specs) ≡ true = ap (λ b. b || has_storage keyword.Static specs) (ap is_linked kind.nothing) ∙ (e ∙ is) in
        record {
          complete = complete_stays opens later.types home.program.types serves.grows whole size;
          typed = fill.outside home serves static_is;
          constant = fill.constant home serves static_is;
        }

    abbrev end_by : Bool → CScope
    end_by st = with_object_at scope.next_object (stored_in st whole puts) (record later { declared = redeclare_first name whole later.declared })

    abbrev reg : Bool
    reg = has_storage keyword.Register specs

    good_by : (st : Bool) → has_storage keyword.Static specs ≡ st → IsGood opens (end_by st)
    good_by st e =
        behind_good opens scope orderly name one.type reg st whole puts middle later begun_so (own_object one scope) (own_by st e) accounted_so held.initialised.stored.passes held.stays held.initialised.stored.made (static_so st e) held.initialised.stored.good whole_known
        (λ types. completed_goes types one.type stored)

    leads_by : (st : Bool) → has_storage keyword.Static specs ≡ st → Leads opens scope (end_by st)
    leads_by st e =
        behind_leads opens scope orderly name one.type reg st whole puts middle later begun_so (own_object one scope) (own_by st e) accounted_so held.initialised.stored.passes held.stays held.initialised.stored.made (static_so st e) held.initialised.stored.good whole_known
        (λ types. completed_goes types one.type stored)

    held_by_all : (st : Bool) (e : has_storage keyword.Static specs ≡ st) (home : CHome) → Backs home opens scope (end_by st) → IsHeldAt home scope.declared
        → ((found : CTy) → IsThere home found (stored_in st whole puts (own_object one scope))) → IsHeldAt home (end_by st).declared
    held_by_all st e home backs known there =
        behind_held opens scope orderly name one.type reg st whole puts middle later begun_so (own_object one scope) (own_by st e) accounted_so held.initialised.stored.passes held.stays held.initialised.stored.made (static_so st e) held.initialised.stored.good whole_known
        (λ types. completed_goes types one.type stored) home backs known there

    serves_by : (st : Bool) (e : has_storage keyword.Static specs ≡ st) (home : CHome) → Backs home opens scope (end_by st) → IsHeldAt home scope.declared
        → IsThere home one.type (stored_in st whole puts (own_object one scope)) → AreIn home.scope (literals_since middle later) → Serves home opens middle later
    serves_by st e home backs known there literals =
        init_serves opens scope orderly name one.type reg st whole puts middle later begun_so (own_object one scope) (own_by st e) accounted_so held.initialised.stored.passes held.stays held.initialised.stored.made (static_so st e) held.initialised.stored.good whole_known
        (λ types. completed_goes types one.type stored) home backs known there literals

    body_same : later.body ≡ scope.body
    body_same = ap {A = CRest} (λ one. one.body) held.stays.rest_is ∙ begun_so.body_is

    there_own : (home : CHome) (found : CTy) → has_storage keyword.Static specs ≡ false → Contains home.scope scope.next_object → IsThere home found (stored_in false whole puts (own_object one scope))
    there_own home found e contains = subst (λ b. IsThereHere home found (stored_in false whole puts (own_object one scope)) Nothing (static_puts b)) (sym e) contains

    same_literals : (home : CHome) → AreIn home.scope (literals_since scope later) → AreIn home.scope (literals_since middle later)
    same_literals home literals = subst (λ made. AreIn home.scope (literals_since (record middle { literals = made }) later)) (sym begun_so.literals_are) literals

    -- the numbers of the literals, and that of the object in front of them
    later_once : AreOnce (suc scope.next_object) later.next_object (literals_since scope later)
    later_once =
        let next : middle.next_object ≡ suc scope.next_object = (let h = own_next scope one kind.typedef kind.object (ap is_linked kind.nothing) in omega (arith, h)) in
        subst (λ from. AreOnce from later.next_object (literals_since scope later)) next
        (subst (λ made. AreOnce middle.next_object later.next_object (literals_since (record middle { literals = made }) later)) begun_so.literals_are (literals_once middle later held.initialised.stored.passes.numbers))

    ends_by : (at : TextPlace) (st : Bool) (e : has_storage keyword.Static specs ≡ st)
        → IsDeclaration opens scope (meaning_by true false st false false at true puts scope.next_object (literals_since scope later)) (end_by st)
    ends_by at true e = plain_declared opens scope (end_by true) (good_by true e) (leads_by true e) body_same
        (once_later scope.next_object (suc scope.next_object) later.next_object (literals_since scope later) (omega arith) later_once) (λ home backs known. held_by_all true e home backs known (λ found. tt))
    ends_by at false e =
        begun_declared opens scope (end_by false) (good_by false e) (leads_by false e) body_same at (Some puts) (stored_in false whole puts (own_object one scope)) (length scope.objects) (omega arith)
        (final_at opens scope orderly name one.type reg false whole puts middle later begun_so (own_object one scope) (own_by false e) accounted_so held.initialised.stored.passes held.stays held.initialised.stored.made (static_so false e) held.initialised.stored.good whole_known
        (λ types. completed_goes types one.type stored))
        refl (ap static_puts e) refl refl size (once_first scope.next_object scope.next_object later.next_object (literals_since scope later) (omega arith) later_once)
        (λ home backs known contains. held_by_all false e home backs known (λ found. there_own home found e contains))
        (λ home backs known contains literals.
        (values_fill opens (record { is_static = is_linked one.linkage || has_storage keyword.Static specs; type = one.type }) stored middle later held.initialised.stored).typed home
        (serves_by false e home backs known (there_own home one.type e contains) (same_literals home literals)))

    filled_ends : (at : TextPlace) → IsDeclaration opens scope (declared_meant scope later at begun true puts) (with_content begun whole puts later)
    filled_ends at =
        as_own (λ found. IsDeclaration opens scope (declared_meant scope later at found true puts) (with_content found whole puts later)) kind
        (subst (λ after. IsDeclaration opens scope (declared_meant scope later at (begun_with false false Nothing) true puts) after)
        (sym (own_content name one.type (clashes scope name (is_typedef specs) written one.linkage true) scope.next_object (has_storage keyword.Static specs) begun.target whole puts later))
        (subst (λ b. IsDeclaration opens scope (meaning_by b false (has_storage keyword.Static specs) false false at true puts scope.next_object (literals_since scope later)) (end_by (has_storage keyword.Static specs)))
        (sym in_function) (ends_by at (has_storage keyword.Static specs) refl)))
      where
        in_function : later.in_function ≡ true
        in_function = ap {A = CRest} (λ one. one.in_function) held.stays.rest_is ∙ (begun_so.leads.in_function_is ∙ inside)

  given_by : (m : Bool) → may ≡ m → IsFine opens scope one → is_function one.type ≡ is_function written
      → Ends (seen_chain (List CStored) CMeaning (seen_initialiser (whole_target (is_linked one.linkage || has_storage keyword.Static specs) (target_type m one.type)) init)
      (λ stored. s_declared_ends place specs line scope begun true stored)) middle (IsDeclaration opens scope)
  given_by false is fine form =
      go_chain _ _ _ _ middle (λ stored later. ⊥) _ (nowhere opens _ middle (begun_is opens scope good orderly one fine).good) (λ stored later held. absurd held)
  given_by true is fine form =
      let kind = own_kind is fine form in
      let begun_here = begun_is opens scope good orderly one fine in
      let type_known : IsKnownType opens middle.types middle.unit one.type =
      subst (λ unit. IsKnownType opens middle.types unit one.type) (sym begun_here.leads.declares.unit_is) (subst (λ types. IsKnownType opens types scope.unit one.type) (sym begun_here.types_are) fine.known) in
      go_chain _ _ _ _ middle IsFilledBy _
      (record {
        ends = λ done. record {
          initialised = (goes opens (record { is_static = is_linked one.linkage || has_storage keyword.Static specs; type = one.type }) middle begun_here.good
              (record { known = type_known; object = unlinked_object (form_of_type one.type) (subst (λ linkage. IsDeclaredForm linkage (form_of_type one.type)) kind.nothing (fine.object kind.typedef kind.object)) })).ends done;
          stays = (kept_initialiser_walk (whole_target (is_linked one.linkage || has_storage keyword.Static specs) (Some one.type)) init middle).kept;
        };
      })
      (λ stored later held. go_here_then _ _ later _ (go_changed _ later _ _ _ _ later _ (λ unbroken. filled_ends fine kind stored later held unbroken _)))

  given_goes : Ends (seen_chain (List CStored) CMeaning (s_init_walk begun.target (Some init)) (λ stored. s_declared_ends place specs line scope begun true stored)) middle (IsDeclaration opens scope)
  given_goes =
      let stored = (seen_initialiser begun.target init middle).meaning in
      let later = (seen_initialiser begun.target init middle).scope in
      go_known (List CStored) CMeaning (seen_initialiser begun.target init) (λ values. s_declared_ends place specs line scope begun true values) middle (IsUnbroken later later.types (node later stored)) _
      (go_here_then _ _ later _ (go_changed _ later _ _ _ _ later _ (λ unbroken. unbroken)))
      (λ unbroken.
      given_by may refl (fine_by later stored unbroken)
      (form_is opens scope good orderly place specs name line written true known (unclashed scope name (is_typedef specs) written one.linkage true (apart_by later stored unbroken))))

pub initialisers_go : InitialisersGo
initialisers_go place outside init goes nowhere opens specs line written shape scope good orderly inside known =
    let one_is = declaring scope place specs (name_or_none shape.name) line written true in
    go_here_then _ _ scope _ (go_chain _ _ _ _ scope (λ begun middle. (begun ≡ begun_as scope one_is written) × (middle ≡ with_declaration one_is scope)) _
    (go_here_then _ _ scope _ (go_chain _ _ _ _ scope (λ done middle. middle ≡ with_declaration one_is scope) _ (go_becomes (with_declaration one_is scope) scope _ refl) (λ done middle at.
    go_gives _ middle _ (refl, at))))
    (λ begun middle at.
    subst (λ found. Ends (seen_chain (List CStored) CMeaning (s_init_walk found.target (Some init)) (λ stored. s_declared_ends place specs line scope found true stored)) middle (IsDeclaration opens scope)) (sym at.0)
    (subst (λ later. Ends (seen_chain (List CStored) CMeaning (s_init_walk (begun_as scope one_is written).target (Some init)) (λ stored. s_declared_ends place specs line scope (begun_as scope one_is written) true stored))
    later (IsDeclaration opens scope)) (sym at.1)
    (given_goes opens place outside specs line written (name_or_none shape.name) scope good orderly inside known init goes nowhere))))
