-- The walk over structures and unions with their members (ISO C99, 6.7.2.1, 6.7.2.3).
use Rattle.std.proofs.Common.{◌≡◌, ◌⊎◌, inl, inr, ℕ, zero, suc, ◌<◌, Bool, true, false, ◌||◌, if◌then◌else◌, List, [], ◌∷◌, length, Option, None, Some, is_some, is_none, bytes_eq, All, slice_get, slice_set, refl, sym, ap, ◌∙◌, subst, arith}
use Rattle.std.proofs.lemmas.Bool.{cases_eq}
use Rattle.std.proofs.lemmas.List.Elements.{All-nil}
use Rattle.std.specs.Prelude.{IsSome}
use Rattle.std.specs.List.{list_any, IsDistinct}
use Rattle.std.specs.Option.{option_and_then, option_flatten}
use Rattle.cx_core.specs.Layouts.{row_at, row_of, passes, completed_count, layouts_of}
use Rattle.cx_core.specs.Trees.{CMember, CRecord, CTypes}
use Rattle.cx_core.specs.ValidTypes.{IsMemberIn, IsRecordIn, names_of_members}
use Rattle.cx_layout.proofs.Builds.{layouts_are}
use Rattle.cx_layout.proofs.Passes.{Extends, row_more, row_at-pass}
use Rattle.cx_layout.specs.Calls.{record_at}
use Rattle.cx_rules.proofs.NodesAgree.{s_record_begins, s_record_ends}
use Rattle.cx_rules.specs.Lines.{own_line}
use Rattle.cx_rules.specs.Nodes.{record_node}
use Rattle.cx_rules.specs.Pieces.{seen_tag, tag_number, with_used, continued, continues, is_same_kind}
use Rattle.cx_rules.specs.Scope.{CTag, CScope, with_completed, with_record}
use Rattle.cx_tree.specs.Trees.{Record, some_members, MemberDeclTrees}
use Rattle.cx_typed.proofs.Goes.{go_gives, go_becomes, go_here_then, go_chain, go_changed}
use Rattle.cx_typed.proofs.Growing.{passes_grow}
use Rattle.cx_typed.proofs.Promoted.{neither, not_not}
use Rattle.cx_typed.proofs.Records.{record_stays, members_stay}
use Rattle.cx_typed.proofs.Same.{both, bool_is}
use Rattle.cx_typed.proofs.Numbered.{numbers_by}
use Rattle.cx_typed.proofs.Scopes.{passes_on, pushed_at, set_at, set_other, within}
use Rattle.cx_typed.proofs.Specifiers.{behind_known, types_on}
use Rattle.cx_typed.proofs.Tags.{IsTagOf, seen_known, meant_stays, tag_stays, there, used_good, used_passes, used_makes_none}
use Rattle.cx_typed.specs.Completed.{AreKnownMembers, AreMembers, MemberDeclsGo}
use Rattle.cx_typed.specs.Growth.{Grows, IsSettled}
use Rattle.cx_typed.specs.Names.{IsKnownTag}
use Rattle.cx_typed.specs.Scopes.{Passes}
use Rattle.cx_typed.specs.Sound.{AreSound}
use Rattle.cx_typed.specs.Specifiers.{AreSpecs, SpecGoes}
use Rattle.cx_typed.specs.Unbroken.{IsUnbroken}
use Rattle.cx_typed.specs.Walked.{IsGood, Ends}

-- ---- lists in which one element is set

pub set_length : {X : Type 0} (xs : List X) (number : ℕ) (x : X) → length (slice_set xs number x) ≡ length xs
set_length [] number x = refl
set_length (first ∷ xs) zero x = refl
set_length (first ∷ xs) (suc number) x = ap suc (set_length xs number x)

set_count : (records : List (Option CRecord)) (number : ℕ) (one : CRecord) → slice_get records number ≡ Some None → completed_count (slice_set records number (Some one)) ≡ suc (completed_count records)
set_count [] number one is = absurd cc
set_count (None ∷ others) zero one is = refl
set_count (Some first ∷ others) zero one is = absurd cc
set_count (None ∷ others) (suc n) one is = set_count others n one is
set_count (Some first ∷ others) (suc n) one is = ap suc (set_count others n one is)

none_there : (records : List (Option CRecord)) (number : ℕ) → number < length records → option_flatten (slice_get records number) ≡ None → slice_get records number ≡ Some None
none_there [] number less is = absurd (omega arith)
none_there (None ∷ others) zero less is = refl
none_there (Some first ∷ others) zero less is = absurd cc
none_there (first ∷ others) (suc n) less is = none_there others n (omega arith) is

name_first : (found : Option (List ℕ)) (others : Bool) (names : List (List ℕ)) → (is_some found || others) ≡ true → (others ≡ true → 0 < length names)
    → 0 < length (elim found as (λ _. List (List ℕ)) [ None ↦ names | Some name ↦ name ∷ names ])
name_first None others names is rest = rest is
name_first (Some name) others names is rest = omega arith

-- a structure or union has a named member (6.7.2.1p7)
some_named : (members : List CMember) → list_any (λ one. is_some one.name) members ≡ true → 0 < length (names_of_members members)
some_named [] is = absurd cc
some_named (first ∷ members) is = name_first first.name (list_any (λ one. is_some one.name) members) (names_of_members members) is (some_named members)

some_of : {X : Type 0} (found : Option X) → IsSome found → (x : X) × (found ≡ Some x)
some_of None is = absurd cc
some_of (Some x) is = (x, refl)

some_inner : {X : Type 0} {x y : X} → Some x ≡ Some y → x ≡ y
some_inner is = cc

inner_same : {X : Type 0} {x y : X} → Some (Some x) ≡ Some (Some y) → x ≡ y
inner_same is = cc

none_differ : IsDistinct bytes_eq []
unfolding IsDistinct
none_differ = tt

no_none : {X : Type 0} (found : Option X) → is_none found ≡ false → IsSome found
no_none None is = absurd cc
no_none (Some x) is = refl

not_some : {X : Type 0} (found : Option X) → is_some found ≡ false → found ≡ None
not_some None is = refl
not_some (Some x) is = absurd cc

-- ---- what is declared where the list begins

-- a structure or union of the unit that isn't completed
record IsBegun (scope : CScope) (is_union : Bool) (name : Option (List ℕ)) (number : ℕ) : Type 0 where
  unit_there : slice_get scope.types.record_units number ≡ Some scope.unit
  tag_there : slice_get scope.types.record_tags number ≡ Some (record { tag = name; is_union = is_union })

begun_on : (opens : List ℕ) (before after : CScope) (is_union : Bool) (name : Option (List ℕ)) (number : ℕ) → Passes opens before after → IsBegun before is_union name number → IsBegun after is_union name number
begun_on opens before after is_union name number passes held = record {
  unit_there = passes.grows.record_units number before.unit held.unit_there ∙ ap Some (sym passes.unit_is);
  tag_there = passes.grows.tags number _ held.tag_there;
}

module _ (opens : List ℕ) (scope : CScope) (good : IsGood opens scope) (is_union : Bool) where
  new_begun : (name : Option (List ℕ)) → IsBegun (with_record name is_union scope) is_union name (length scope.types.records)
  new_begun name = record {
    unit_there = there opens scope good is_union name;
    tag_there = subst (λ n. slice_get (with_record name is_union scope).types.record_tags n ≡ Some (record { tag = name; is_union = is_union })) good.sound.types_are.tags
        (pushed_at scope.types.record_tags (record { tag = name; is_union = is_union }));
  }

  -- what its tag declares in the same scope is completed
  tag_begun : (name : List ℕ) (is_record goes_on : Bool) (number : ℕ) → IsKnownTag opens scope.types scope.unit name (record { is_record = is_record; is_open = goes_on; number = number })
      → continues scope.types is_union (record { is_record = is_record; is_open = goes_on; number = number }) ≡ true → IsBegun scope is_union (Some name) number
  tag_begun name false goes_on number known is = absurd cc
  tag_begun name true goes_on number known is = record {
    unit_there = known.0;
    tag_there =
        known.1.tag_is
        ∙ ap (λ kind. Some (record { tag = Some name; is_union = kind })) (bool_is known.1.is_union is_union (sym (ap (is_same_kind is_union) known.1.tag_is) ∙ (both is).0));
  }

  begun_by : (name : Option (List ℕ)) (found : Option CTag) → ((one : CTag) → found ≡ Some one → IsTagOf opens scope.types scope.unit name one)
      → IsBegun (with_used (continued scope.types is_union found) name is_union scope) is_union name (tag_number (length scope.types.records) (continued scope.types is_union found))
  begun_by None None tags = new_begun None
  begun_by (Some name) None tags = record { unit_there = (new_begun (Some name)).unit_there; tag_there = (new_begun (Some name)).tag_there }
  begun_by None (Some one) tags = absurd (tags one refl)
  begun_by (Some name) (Some one) tags = by_test (continues scope.types is_union one) refl
    where
      by_test : (test : Bool) → continues scope.types is_union one ≡ test
          → IsBegun (with_used (if test then Some one else None) (Some name) is_union scope) is_union (Some name) (tag_number (length scope.types.records) (if test then Some one else None))
      by_test true is = tag_begun name one.is_record one.is_open one.number (tags one refl) is
      by_test false is = record { unit_there = (new_begun (Some name)).unit_there; tag_there = (new_begun (Some name)).tag_there }

-- ---- the record is completed

module _ (opens : List ℕ) (scope : CScope) (good : IsGood opens scope) (is_union : Bool) (name : Option (List ℕ)) (found : Option CTag) (number : ℕ) (members : List CMember)
    (begun : IsBegun scope is_union name number) (known : AreKnownMembers opens scope.types scope.unit members)
    (unbroken : IsUnbroken scope scope.types (record_node is_union found number members))
  where
    abbrev whole : CRecord
    whole = record { number = number; tag = name; is_union = is_union; members = members }

    abbrev after : CScope
    after = with_completed number whole scope

    number_there : number < length scope.types.records
    number_there = subst (λ n. number < n) good.sound.types_are.record_units (within scope.types.record_units number scope.unit begun.unit_there)

    incomplete : slice_get scope.types.records number ≡ Some None
    incomplete = none_there scope.types.records number number_there (not_some (record_at scope.types number) (neither unbroken.k24).0)

    set_here : slice_get after.types.records number ≡ Some (Some whole)
    set_here = set_at scope.types.records number (Some whole) None incomplete

    other_record : (index : ℕ) → (index ≡ number → ⊥) → slice_get after.types.records index ≡ slice_get scope.types.records index
    other_record index apart = set_other scope.types.records number index (Some whole) apart

    record_kept : (index : ℕ) (one : CRecord) → record_at scope.types index ≡ Some one → ((index ≡ number) ⊎ (index ≡ number → ⊥)) → record_at after.types index ≡ Some one
    record_kept index one is (inl same) = absurd (let h : None ≡ Some one = sym (ap option_flatten incomplete) ∙ ap (record_at scope.types) (sym same) ∙ is in cc)
    record_kept index one is (inr apart) = ap option_flatten (other_record index apart) ∙ is

    completed_grows : Grows opens scope.types after.types
    completed_grows = record {
      records = λ index one is. record_kept index one is (cases_eq index number);
      tags = λ index x is. is;
      record_units = λ index x is. is;
      enum_units = λ index x is. is;
      enums = λ index closed x is. is;
    }

    -- it is laid out once its members are
    laid_there : IsSome (row_at (layouts_of after.types) number)
    laid_there =
        let row = some_of (row_of (layouts_of scope.types) whole) (no_none _ unbroken.m3) in
        let count = completed_count scope.types.records in
        let below : Extends (layouts_of scope.types) (passes count after.types) = λ index one is.
        passes_grow opens scope.types after.types completed_grows count index one (sym (ap (λ all. row_at all index) (layouts_are scope.types)) ∙ is) in
        let there : row_at (passes (suc count) after.types) number ≡ Some row.0 =
        row_at-pass after.types (passes count after.types) number ∙ ap (option_and_then (row_of (passes count after.types))) (ap option_flatten set_here)
        ∙ row_more (layouts_of scope.types) (passes count after.types) below whole row.0 row.1 in
        ap is_some (ap (λ all. row_at all number) (layouts_are after.types) ∙ ap (λ n. row_at (passes n after.types) number) (set_count scope.types.records number whole incomplete) ∙ there)

    whole_in : (unit : ℕ) → unit ≡ scope.unit → IsRecordIn after.types number unit whole
    whole_in unit same = record {
      number_is = refl;
      tag_is = begun.tag_there;
      members = subst (λ u. All (IsMemberIn after.types u) members) (sym same) (members_stay opens scope.types after.types scope.unit completed_grows members known.settled known.each);
      names_differ = known.differ;
      named = some_named members (not_not unbroken.k8);
      laid = laid_there;
    }

    record_in : (index unit : ℕ) (one : CRecord) → slice_get after.types.records index ≡ Some (Some one) → slice_get after.types.record_units index ≡ Some unit
        → ((index ≡ number) ⊎ (index ≡ number → ⊥)) → IsRecordIn after.types index unit one
    record_in index unit one is of (inl same) =
        subst (λ n. IsRecordIn after.types n unit one) (sym same)
        (subst (IsRecordIn after.types number unit) (inner_same (sym set_here ∙ ap (slice_get after.types.records) (sym same) ∙ is))
        (whole_in unit (good.sound.records_here index unit of)))
    record_in index unit one is of (inr apart) =
        let was : slice_get scope.types.records index ≡ Some (Some one) = sym (other_record index apart) ∙ is in
        record_stays opens scope.types after.types unit completed_grows index one (good.sound.settled index one (ap option_flatten was)) (good.sound.types_are.records index unit one was of)

    settled_in : (index : ℕ) (one : CRecord) → record_at after.types index ≡ Some one → ((index ≡ number) ⊎ (index ≡ number → ⊥)) → All (λ member. IsSettled opens member.type) one.members
    settled_in index one is (inl same) =
        subst (λ r. All (λ member. IsSettled opens member.type) r.members) (some_inner (sym (ap option_flatten set_here) ∙ ap (record_at after.types) (sym same) ∙ is)) known.settled
    settled_in index one is (inr apart) = good.sound.settled index one (sym (ap option_flatten (other_record index apart)) ∙ is)

    completed_sound : AreSound opens after.types after.unit
    completed_sound = record {
      types_are = record {
        tags = good.sound.types_are.tags ∙ sym (set_length scope.types.records number (Some whole));
        record_units = good.sound.types_are.record_units ∙ sym (set_length scope.types.records number (Some whole));
        enum_units = good.sound.types_are.enum_units;
        records = λ index unit one is of. record_in index unit one is of (cases_eq index number);
      };
      records_here = good.sound.records_here;
      enums_here = good.sound.enums_here;
      settled = λ index one is. settled_in index one is (cases_eq index number);
      opens_here = good.sound.opens_here;
    }

    completed_good : IsGood opens after
    completed_good = record {
      sound = completed_sound;
      known = λ other meant is. meant_stays opens scope.types after.types completed_grows scope.unit meant (good.known other meant is);
      tags = λ other one is. tag_stays opens scope.types after.types completed_grows scope.unit other one (good.tags other one is);
    }

    completed_passes : Passes opens scope after
    completed_passes = record {
      unit_is = refl;
      grows = completed_grows;
      declared = λ other meant thing is. is;
      mentions = λ index x is. is;
      literals = λ index x is. is;
      front = [];
      declared_is = refl;
      begins_is = refl;
      rest_is = refl;
      numbers = numbers_by scope after (omega arith) refl;
    }

-- ---- the whole specifier

record IsRecordBegun (opens : List ℕ) (start : CScope) (is_union : Bool) (name : Option (List ℕ)) (value after : CScope) : Type 0 where
  value_is : value ≡ start
  good : IsGood opens after
  passes : Passes opens start after
  makes_none : after.literals ≡ start.literals
  begun : IsBegun after is_union name (tag_number (length start.types.records) (continued start.types is_union (seen_tag true name start)))

record_begins : (opens : List ℕ) (is_union : Bool) (name : Option (List ℕ)) (scope : CScope) → IsGood opens scope → Ends (s_record_begins is_union name) scope (IsRecordBegun opens scope is_union name)
record_begins opens is_union name scope good =
    let found = continued scope.types is_union (seen_tag true name scope) in
    let new = with_used found name is_union scope in
    go_here_then _ _ scope _ (go_chain _ _ _ _ scope (λ done after. after ≡ new) _ (go_becomes new scope (λ done after. after ≡ new) refl) (λ done after is.
    go_gives scope after _ (subst (IsRecordBegun opens scope is_union name scope) (sym is) (record {
      value_is = refl;
      good = used_good opens scope good is_union name found;
      passes = used_passes opens scope good is_union name found;
      makes_none = used_makes_none opens scope good is_union name found;
      begun = begun_by opens scope good is_union name (seen_tag true name scope) (seen_known opens scope good true name);
    }))))

pub record_list_goes : (is_union : Bool) (name : Option (List ℕ)) (list : MemberDeclTrees) (lines : List ℕ) → MemberDeclsGo list → SpecGoes (Record is_union name (some_members list) lines)
record_list_goes is_union name list lines first opens alone specs scope good held =
    go_chain _ _ _ _ scope (IsRecordBegun opens scope is_union name) _ (record_begins opens is_union name scope good) (λ before start begun.
    go_chain _ _ _ _ start (AreMembers opens start) _ (first opens [] start begun.good none_known) (λ members middle are.
    subst (λ value. Ends (s_record_ends value specs is_union name (own_line lines) members) middle (AreSpecs opens scope)) (sym begun.value_is)
    (go_here_then _ _ middle _ (go_changed _ middle _ _ _ _ middle _ (λ unbroken.
    let passes = passes_on opens scope start middle begun.passes are.passes in
    let begins = begun_on opens start middle is_union name _ are.passes begun.begun in
    let last = completed_passes opens middle are.good is_union name (seen_tag true name scope) _ members begins are.known unbroken in
    let after = with_completed _ (record { number = _; tag = name; is_union = is_union; members = members }) middle in
    record {
      good = completed_good opens middle are.good is_union name (seen_tag true name scope) _ members begins are.known unbroken;
      passes = passes_on opens scope middle after passes last;
      makes_none = are.makes_none ∙ begun.makes_none;
      known = behind_known opens after.types after.unit specs.types _ (types_on opens scope after specs.types (passes_on opens scope middle after passes last) held) (record { type_in = begins.unit_there; settled = tt });
    })))))
  where
    none_known : {types : CTypes} {unit : ℕ} → AreKnownMembers opens types unit []
    none_known = record { each = All-nil _; settled = All-nil _; differ = none_differ }
