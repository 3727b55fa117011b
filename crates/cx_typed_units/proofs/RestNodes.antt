-- What the pieces of the walk over expressions, types and initialisers leave of a scope as it is.
use Rattle.cx_core.specs.Trees.{CMember, CMention, CTy, calls, uses}
use Rattle.cx_core.specs.declared.expr.Op2.{Op2}
use Rattle.cx_core.specs.declared.program.Linkage.TheVariants.{External, Internal, Nothing}
use Rattle.cx_lex.specs.declared.token.Ty0.{Ty0}
use Rattle.cx_rules.proofs.NodesAgree.{s_name_seen, s_number_seen, s_letter_seen, s_text_seen, s_index_seen, s_call_seen, s_dot_seen, s_arrow_seen, s_step_seen, s_unary_seen, s_sizeof_seen, s_sizeof_type_seen, s_cast_seen, s_binary_seen, s_cond_seen, s_assign_seen, s_comma_seen, s_literal_begins, s_literal_ends_as, s_literal_ends, s_specs_seen, s_typedef_seen, s_record_used, s_record_use_seen, s_record_begins, s_record_ended, s_record_ends, s_enum_used, s_enum_use_seen, s_enum_begins, s_enum_ends, s_enumerator_as, s_enumerator_seen, s_derives_seen, s_member_seen, s_array_seen, s_identifiers_seen, s_param_seen, s_value_given_at, s_value_given, s_text_given_at, s_text_given, s_whole_value, s_whole_given, s_whole_text_at, s_whole_text, s_list_begins, s_list_given, s_element_as, s_element_seen, s_member_as, s_member_designated}
use Rattle.cx_rules.specs.Initial.{CAt, CStored, element_at, joined_bytes, member_at}
use Rattle.cx_rules.specs.Meanings.{trailing_types}
use Rattle.cx_rules.specs.Nodes.{CNode}
use Rattle.cx_rules.specs.Operands.{COperand, constant_of, value_of}
use Rattle.cx_rules.specs.Pieces.{CBinary, CFilling, CTarget, CUnary, Done, called, computes, continued, enumerator_value, fills, fills_whole, follows, landed, operates, param_of, seen_tag, tag_number, takes_address, tests_both, tests_either, text_landed, used, whole_at, with_closed_enum, with_open_enum, with_param, with_text, with_used, CFilled, filled_object}
use Rattle.cx_rules.specs.Readings.{Seen, seen_gives, seen_chain, seen_here, seen_becomes, seen_look}
use Rattle.cx_rules.specs.Scope.{CDeclared, CMeant, CScope, CTag, is_ordinary, a_function, a_tag, a_type_name, an_enumerator, an_object, left, mention_of, ordinary}
use Rattle.cx_rules.specs.Shapes.{CParam, CShape, CSpecs, CStep}
use Rattle.cx_rules.specs.declared.kinds.SpecsPlace.{SpecsPlace}
use Rattle.cx_tree.specs.Trees.{EntryTrees}
use Rattle.cx_typed_units.specs.Rest.{rest_of, is_defining, DefinesNone, linked_type, IsSaid}
use Rattle.std.proofs.Common.{refl, sym, ap, inl, inr, ◌⊎◌, if◌then◌else◌, ◌&&◌, bytes_eq, subst, ◌∙◌, ◌≡◌, ◌≤◌, arith, zero, suc, [], ◌∷◌, ◌++◌}
use Rattle.std.specs.Prelude.{Bool, List, None, Option, Some, false, length, slice_get, slice_set, true, ℕ, ℤ}
use Rattle.cx_rules.specs.Walk as walk

-- ---- what stays

-- all but declarations, types, literals and mentions stays, numbers for objects are only taken, and nothing is defined
pub record StaysTo (scope after : CScope) : Type 0 where
  pub rest_is : rest_of after ≡ rest_of scope
  pub more : scope.next_object ≤ after.next_object
  pub defined : DefinesNone scope.mentions after.mentions
  -- what comes into scope is put in front, and hides names with linkage at most
  pub front : List CDeclared
  pub declared_is : after.declared ≡ front ++ scope.declared
  pub visible : (name : List ℕ) (type : CTy) → linked_type (ordinary name after.declared) ≡ Some type → linked_type (ordinary name scope.declared) ≡ Some type
  -- what is mentioned was so before, or is declared there
  pub said : (index : ℕ) (one : CMention) → slice_get after.mentions index ≡ Some one → IsSaid scope.mentions scope.declared one

pub record KeepsAt (A : Type 0) (walked : Seen A) (scope : CScope) : Type 0 where
  pub kept : StaysTo scope (walked scope).scope

abbrev pub Keeps : (A : Type 0) → Seen A → Type 0
Keeps A walked = (scope : CScope) → KeepsAt A walked scope

-- ---- rules

said_before : (mentions : List CMention) (declared : List CDeclared) (index : ℕ) (one : CMention) → slice_get mentions index ≡ Some one → IsSaid mentions declared one
said_before mentions declared index one at = inl (record { index = index; one = one; at = at; name_is = refl; type_is = refl })

-- nothing is mentioned and nothing comes into scope
stays_quiet : (scope after : CScope) → rest_of after ≡ rest_of scope → scope.next_object ≤ after.next_object → after.mentions ≡ scope.mentions → after.declared ≡ scope.declared → StaysTo scope after
stays_quiet scope after rest_is more mentions_are declared_are = record {
  rest_is = rest_is;
  more = more;
  defined = λ index one is held. subst (λ mentions. slice_get mentions index ≡ Some one) mentions_are is;
  front = [];
  declared_is = declared_are;
  visible = λ name type is. subst (λ declared. linked_type (ordinary name declared) ≡ Some type) declared_are is;
  said = λ index one at. said_before scope.mentions scope.declared index one (subst (λ mentions. slice_get mentions index ≡ Some one) mentions_are at);
}

-- something without linkage comes into scope
hidden_by : (hides : Bool) (new found : Option CMeant) (type : CTy) → linked_type new ≡ None → linked_type (if hides then new else found) ≡ Some type → linked_type found ≡ Some type
hidden_by true new found type none is = absurd cc
hidden_by false new found type none is = is

stays_hidden : (scope after : CScope) (new : CDeclared) → linked_type (Some new.meant) ≡ None → rest_of after ≡ rest_of scope → scope.next_object ≤ after.next_object → after.mentions ≡ scope.mentions
    → after.declared ≡ new ∷ scope.declared → StaysTo scope after
stays_hidden scope after new none rest_is more mentions_are declared_are = record {
  rest_is = rest_is;
  more = more;
  defined = λ index one is held. subst (λ mentions. slice_get mentions index ≡ Some one) mentions_are is;
  front = new ∷ [];
  declared_is = declared_are;
  visible = λ name type is.
      hidden_by (is_ordinary new.meant && bytes_eq new.name name) (Some new.meant) (ordinary name scope.declared) type none
      (subst (λ declared. linked_type (ordinary name declared) ≡ Some type) declared_are is);
  said = λ index one at. said_before scope.mentions scope.declared index one (subst (λ mentions. slice_get mentions index ≡ Some one) mentions_are at);
}

pub stays_itself : (scope : CScope) → StaysTo scope scope
stays_itself scope = stays_quiet scope scope refl (omega arith) refl refl

said_on : (before middle after : CScope) → StaysTo before middle → (one : CMention) → IsSaid middle.mentions middle.declared one → IsSaid before.mentions before.declared one
said_on before middle after first one (inl was) = by_case (first.said was.index was.one was.at)
  where
    by_case : IsSaid before.mentions before.declared was.one → IsSaid before.mentions before.declared one
    by_case (inl early) = inl (record { index = early.index; one = early.one; at = early.at; name_is = early.name_is ∙ was.name_is; type_is = early.type_is ∙ was.type_is })
    by_case (inr seen) =
        inr (subst (λ name. linked_type (ordinary name before.declared) ≡ Some one.type) was.name_is (subst (λ type. linked_type (ordinary was.one.name before.declared) ≡ Some type) was.type_is seen))
said_on before middle after first one (inr seen) = inr (first.visible one.name one.type seen)

joined_fronts : (xs ys zs : List CDeclared) → xs ++ (ys ++ zs) ≡ (xs ++ ys) ++ zs
joined_fronts [] ys zs = refl
joined_fronts (first ∷ xs) ys zs = ap (λ others. first ∷ others) (joined_fronts xs ys zs)

stays_on : (before middle after : CScope) → StaysTo before middle → StaysTo middle after → StaysTo before after
stays_on before middle after first second = record {
  rest_is = second.rest_is ∙ first.rest_is;
  more = omega (arith, first.more, second.more);
  defined = λ index one is held. first.defined index one (second.defined index one is held) held;
  front = second.front ++ first.front;
  declared_is = second.declared_is ∙ (ap (λ declared. second.front ++ declared) first.declared_is ∙ joined_fronts second.front first.front before.declared);
  visible = λ name type is. first.visible name type (second.visible name type is);
  said = λ index one at. said_on before middle after first one (second.said index one at);
}

pub at_chain : (A B : Type 0) (first : Seen A) (next : A → Seen B) (scope : CScope) → KeepsAt A first scope → ((value : A) → Keeps B (next value)) → KeepsAt B (seen_chain A B first next) scope
unfolding seen_chain
at_chain A B first next scope one more = record { kept = stays_on scope (first scope).scope _ one.kept (more (first scope).meaning (first scope).scope).kept }

pub kept_chain : (A B : Type 0) (first : Seen A) (next : A → Seen B) → Keeps A first → ((value : A) → Keeps B (next value)) → Keeps B (seen_chain A B first next)
kept_chain A B first next one more scope = at_chain A B first next scope (one scope) more

pub kept_here : (A : Type 0) (next : CScope → Seen A) → ((scope : CScope) → KeepsAt A (next scope) scope) → Keeps A (seen_chain CScope A seen_here next)
unfolding seen_chain seen_here
kept_here A next keeps scope = record { kept = (keeps scope).kept }

pub kept_gives : (A : Type 0) (value : A) (scope : CScope) → KeepsAt A (seen_gives A value) scope
unfolding seen_gives
kept_gives A value scope = record { kept = stays_itself scope }

pub kept_given : (A : Type 0) (value : A) → Keeps A (seen_gives A value)
kept_given A value scope = kept_gives A value scope

pub kept_settled : (A : Type 0) (scope : CScope) (line : ℕ) (node : CNode) (meaning : A) →
    KeepsAt A (walk.settled Seen seen_gives seen_chain seen_here seen_becomes seen_look scope line node meaning) scope
unfolding seen_chain seen_look seen_gives
kept_settled A scope line node meaning = record { kept = stays_itself scope }

pub kept_changed : (A : Type 0) (scope : CScope) (line : ℕ) (node : CNode) (new : CScope) (meaning : A) → StaysTo scope new →
    KeepsAt A (walk.changed Seen seen_gives seen_chain seen_here seen_becomes seen_look scope line node new meaning) scope
unfolding seen_chain seen_look seen_becomes seen_gives
kept_changed A scope line node new meaning stays = record { kept = stays }

pub kept_becomes : (A : Type 0) (scope new : CScope) (meaning : A) → StaysTo scope new →
    KeepsAt A (seen_chain Done A (seen_becomes new) (λ _. seen_gives A meaning)) scope
unfolding seen_chain seen_becomes seen_gives
kept_becomes A scope new meaning stays = record { kept = stays }

pub either_at : (A : Type 0) (scope : CScope) (test : Bool) (one other : Seen A) → KeepsAt A one scope → KeepsAt A other scope →
    KeepsAt A (walk.either Seen seen_gives seen_chain seen_here seen_becomes seen_look test one other) scope
either_at A scope true one other first second = first
either_at A scope false one other first second = second

pub kept_either : (A : Type 0) (test : Bool) (one other : Seen A) → Keeps A one → Keeps A other →
    Keeps A (walk.either Seen seen_gives seen_chain seen_here seen_becomes seen_look test one other)
kept_either A true one other first second = first
kept_either A false one other first second = second

-- ---- mentions

told_defines : (mentions : List CMention) (new : CMention) → is_defining new.does ≡ false → DefinesNone mentions (mentions ++ new ∷ [])
told_defines [] new no_define zero one is held =
    absurd (let same : new ≡ one = cc in let h : is_defining new.does ≡ true = subst (λ (mention : CMention). is_defining mention.does ≡ true) (sym same) held in cc)
told_defines [] new no_define (suc index) one is held = absurd cc
told_defines (first ∷ mentions) new no_define zero one is held = is
told_defines (first ∷ mentions) new no_define (suc index) one is held = told_defines mentions new no_define index one is held

set_defines : (mentions : List CMention) (at : ℕ) (new : CMention) → is_defining new.does ≡ false → DefinesNone mentions (slice_set mentions at new)
set_defines [] at new no_define index one is held = is
set_defines (first ∷ mentions) zero new no_define zero one is held =
    absurd (let same : new ≡ one = cc in let h : is_defining new.does ≡ true = subst (λ (mention : CMention). is_defining mention.does ≡ true) (sym same) held in cc)
set_defines (first ∷ mentions) zero new no_define (suc index) one is held = is
set_defines (first ∷ mentions) (suc at) new no_define zero one is held = is
set_defines (first ∷ mentions) (suc at) new no_define (suc index) one is held = set_defines mentions at new no_define index one is held

-- as `Scope` says it
abbrev with_trailing : Option CMention → List CTy → Option CMention
with_trailing None types = None
with_trailing (Some one) types = Some (record one { does = calls types })

abbrev set_mention : ℕ → List CMention → Option CMention → List CMention
set_mention index mentions None = mentions
set_mention index mentions (Some one) = slice_set mentions index one

call_defines : (mentions : List CMention) (at : ℕ) (types : List CTy) (found : Option CMention) → DefinesNone mentions (set_mention at mentions (with_trailing found types))
call_defines mentions at types None index one is held = is
call_defines mentions at types (Some mention) index one is held = set_defines mentions at (record mention { does = calls types }) refl index one is held

-- ---- what is mentioned

said_last : (scope : CScope) (new : CMention) → linked_type (ordinary new.name scope.declared) ≡ Some new.type → (index : ℕ) (one : CMention) → (slice_get scope.mentions index ≡ Some one) ⊎ (new ≡ one)
    → IsSaid scope.mentions scope.declared one
said_last scope new seen index one (inl at) = said_before scope.mentions scope.declared index one at
said_last scope new seen index one (inr is) = inr (subst (λ (mention : CMention). linked_type (ordinary mention.name scope.declared) ≡ Some mention.type) is seen)

got_last : (mentions : List CMention) (new : CMention) (index : ℕ) (one : CMention) → slice_get (mentions ++ new ∷ []) index ≡ Some one → (slice_get mentions index ≡ Some one) ⊎ (new ≡ one)
got_last [] new zero one is = inr cc
got_last [] new (suc index) one is = absurd cc
got_last (first ∷ mentions) new zero one is = inl is
got_last (first ∷ mentions) new (suc index) one is = got_last mentions new index one is

-- one more mention says the type of what is visible
stays_told : (scope : CScope) (new : CMention) → is_defining new.does ≡ false → linked_type (ordinary new.name scope.declared) ≡ Some new.type → StaysTo scope (record scope { mentions = scope.mentions ++ new ∷ [] })
stays_told scope new no_define seen = record {
  rest_is = refl;
  more = omega arith;
  defined = told_defines scope.mentions new no_define;
  front = [];
  declared_is = refl;
  visible = λ name type is. is;
  said = λ index one at. said_last scope new seen index one (got_last scope.mentions new index one at);
}

pub got_set : (mentions : List CMention) (at : ℕ) (new : CMention) (index : ℕ) (one : CMention) → slice_get (slice_set mentions at new) index ≡ Some one → (slice_get mentions index ≡ Some one) ⊎ (new ≡ one)
got_set [] at new index one is = inl is
got_set (first ∷ mentions) zero new zero one is = inr cc
got_set (first ∷ mentions) zero new (suc index) one is = inl is
got_set (first ∷ mentions) (suc at) new zero one is = inl is
got_set (first ∷ mentions) (suc at) new (suc index) one is = got_set mentions at new index one is

said_set : (mentions : List CMention) (declared : List CDeclared) (at : ℕ) (was new : CMention) → slice_get mentions at ≡ Some was → was.name ≡ new.name → was.type ≡ new.type → (index : ℕ) (one : CMention)
    → (slice_get mentions index ≡ Some one) ⊎ (new ≡ one) → IsSaid mentions declared one
said_set mentions declared at was new there named typed index one (inl same) = said_before mentions declared index one same
said_set mentions declared at was new there named typed index one (inr is) =
    inl (record { index = at; one = was; at = there; name_is = named ∙ ap (λ (mention : CMention). mention.name) is; type_is = typed ∙ ap (λ (mention : CMention). mention.type) is })

call_said : (mentions : List CMention) (declared : List CDeclared) (at : ℕ) (types : List CTy) (found : Option CMention) → slice_get mentions at ≡ found → (index : ℕ) (one : CMention)
    → slice_get (set_mention at mentions (with_trailing found types)) index ≡ Some one → IsSaid mentions declared one
call_said mentions declared at types None there index one is = said_before mentions declared index one is
call_said mentions declared at types (Some mention) there index one is =
    said_set mentions declared at mention (record mention { does = calls types }) there refl refl index one (got_set mentions at (record mention { does = calls types }) index one is)

-- ---- changes

grow_used : (line : ℕ) (name : List ℕ) (meant : Option CMeant) (scope : CScope) → ordinary name scope.declared ≡ meant → StaysTo scope (used line name meant scope)
grow_used line name None scope is = stays_itself scope
grow_used line name (Some (an_object number type is_register External)) scope is = stays_told scope (mention_of scope name line type External uses) refl (ap linked_type is)
grow_used line name (Some (an_object number type is_register Internal)) scope is = stays_itself scope
grow_used line name (Some (an_object number type is_register Nothing)) scope is = stays_itself scope
grow_used line name (Some (a_function number type linkage)) scope is = stays_told scope (mention_of scope name line type linkage uses) refl (ap linked_type is)
grow_used line name (Some (a_type_name type)) scope is = stays_itself scope
grow_used line name (Some (an_enumerator value)) scope is = stays_itself scope
grow_used line name (Some (a_tag is_record is_open number)) scope is = stays_itself scope

grow_text : (line : ℕ) (bytes : List ℕ) (scope : CScope) → StaysTo scope (with_text line bytes scope)
grow_text line bytes scope = stays_quiet scope _ refl (omega arith) refl refl

grow_record : (found : Option CTag) (name : Option (List ℕ)) (is_union : Bool) (scope : CScope) → StaysTo scope (with_used found name is_union scope)
grow_record None None is_union scope = stays_quiet scope _ refl (omega arith) refl refl
grow_record None (Some name) is_union scope = stays_hidden scope _ (record { name = name; meant = a_tag true false (length scope.types.records) }) refl refl (omega arith) refl refl
grow_record (Some one) name is_union scope = stays_itself scope

grow_open : (name : Option (List ℕ)) (scope : CScope) → StaysTo scope (with_open_enum name scope)
grow_open None scope = stays_quiet scope _ refl (omega arith) refl refl
grow_open (Some name) scope = stays_hidden scope _ (record { name = name; meant = a_tag false true (length scope.types.enums) }) refl refl (omega arith) refl refl

grow_closed : (name : Option (List ℕ)) (number : ℕ) (negative : Bool) (scope : CScope) → StaysTo scope (with_closed_enum name number negative scope)
grow_closed None number negative scope = stays_quiet scope _ refl (omega arith) refl refl
grow_closed (Some name) number negative scope = stays_hidden scope _ (record { name = name; meant = a_tag false false number }) refl refl (omega arith) refl refl

grow_named : (name : Option (List ℕ)) (one : CParam) (scope : CScope) → StaysTo scope (with_param (Some (record one { name = name })) scope)
grow_named None one scope = stays_quiet scope _ refl (omega arith) refl refl
grow_named (Some name) one scope = stays_hidden scope _ (record { name = name; meant = an_object one.object one.type one.is_register Nothing }) refl refl (omega arith) refl refl

grow_param : (param : Option CParam) (scope : CScope) → StaysTo scope (with_param param scope)
grow_param None scope = stays_itself scope
grow_param (Some one) scope = grow_named one.name one scope

-- ---- nodes

pub kept_name_seen : (x1 : List ℕ) (x2 : ℕ) → Keeps COperand (s_name_seen x1 x2)
kept_name_seen name line = (kept_here _ _ (λ scope. (kept_changed _ scope _ _ _ _ (grow_used line name (ordinary name scope.declared) scope refl))))

pub kept_number_seen : (x1 : ℕ) (x2 : Ty0) (x3 : ℕ) → Keeps COperand (s_number_seen x1 x2 x3)
kept_number_seen value type line = (kept_here _ _ (λ scope. (kept_gives _ _ scope)))

pub kept_letter_seen : (x1 : ℤ) (x2 : ℕ) → Keeps COperand (s_letter_seen x1 x2)
kept_letter_seen value line = (kept_here _ _ (λ scope. (kept_gives _ _ scope)))

pub kept_text_seen : (x1 : List (List ℕ)) (x2 : ℕ) → Keeps COperand (s_text_seen x1 x2)
kept_text_seen parts line = (kept_here _ _ (λ scope. (kept_changed _ scope _ _ _ _ (grow_text line (joined_bytes parts) scope))))

pub kept_index_seen : (x1 : ℕ) (x2 : COperand) (x3 : COperand) → Keeps COperand (s_index_seen x1 x2 x3)
kept_index_seen line of index = (kept_here _ _ (λ scope. (kept_settled _ scope _ _ _)))

pub kept_dot_seen : (x1 : ℕ) (x2 : COperand) (x3 : List ℕ) → Keeps COperand (s_dot_seen x1 x2 x3)
kept_dot_seen line of name = (kept_here _ _ (λ scope. (kept_settled _ scope _ _ _)))

pub kept_arrow_seen : (x1 : ℕ) (x2 : COperand) (x3 : List ℕ) → Keeps COperand (s_arrow_seen x1 x2 x3)
kept_arrow_seen line of name = (kept_here _ _ (λ scope. (kept_settled _ scope _ _ _)))

pub kept_step_seen : (x1 : ℕ) (x2 : Bool) (x3 : Bool) (x4 : COperand) → Keeps COperand (s_step_seen x1 x2 x3 x4)
kept_step_seen line up post on = (kept_here _ _ (λ scope. (kept_settled _ scope _ _ _)))

pub kept_unary_seen : (x1 : ℕ) (x2 : CUnary) (x3 : COperand) → Keeps COperand (s_unary_seen x1 x2 x3)
kept_unary_seen line takes_address on = (kept_here _ _ (λ scope. (kept_settled _ scope _ _ _)))
kept_unary_seen line follows on = (kept_here _ _ (λ scope. (kept_settled _ scope _ _ _)))
kept_unary_seen line (computes op) on = (kept_here _ _ (λ scope. (kept_settled _ scope _ _ _)))

pub kept_sizeof_type_seen : (x1 : ℕ) (x2 : CTy) → Keeps COperand (s_sizeof_type_seen x1 x2)
kept_sizeof_type_seen line type = (kept_here _ _ (λ scope. (kept_settled _ scope _ _ _)))

pub kept_cast_seen : (x1 : ℕ) (x2 : CTy) (x3 : COperand) → Keeps COperand (s_cast_seen x1 x2 x3)
kept_cast_seen line type on = (kept_here _ _ (λ scope. (kept_settled _ scope _ _ _)))

pub kept_binary_seen : (x1 : ℕ) (x2 : CBinary) (x3 : COperand) (x4 : COperand) → Keeps COperand (s_binary_seen x1 x2 x3 x4)
kept_binary_seen line tests_both left right = (kept_here _ _ (λ scope. (kept_settled _ scope _ _ _)))
kept_binary_seen line tests_either left right = (kept_here _ _ (λ scope. (kept_settled _ scope _ _ _)))
kept_binary_seen line (operates op) left right = (kept_here _ _ (λ scope. (kept_settled _ scope _ _ _)))

pub kept_cond_seen : (x1 : ℕ) (x2 : COperand) (x3 : COperand) (x4 : COperand) → Keeps COperand (s_cond_seen x1 x2 x3 x4)
kept_cond_seen line test first second = (kept_here _ _ (λ scope. (kept_settled _ scope _ _ _)))

pub kept_assign_seen : (x1 : ℕ) (x2 : Option Op2) (x3 : COperand) (x4 : COperand) → Keeps COperand (s_assign_seen x1 x2 x3 x4)
kept_assign_seen line None target value = (kept_here _ _ (λ scope. (kept_settled _ scope _ _ _)))
kept_assign_seen line (Some op) target value = (kept_here _ _ (λ scope. (kept_settled _ scope _ _ _)))

pub kept_comma_seen : (x1 : ℕ) (x2 : COperand) (x3 : COperand) → Keeps COperand (s_comma_seen x1 x2 x3)
kept_comma_seen line first second = (kept_here _ _ (λ scope. (kept_settled _ scope _ _ _)))

pub kept_specs_seen : (x1 : SpecsPlace) (x2 : ℕ) (x3 : CSpecs) → Keeps CSpecs (s_specs_seen x1 x2 x3)
kept_specs_seen place line specs = (kept_here _ _ (λ scope. (kept_settled _ scope _ _ _)))

pub kept_typedef_seen : (x1 : CSpecs) (x2 : List ℕ) → Keeps CSpecs (s_typedef_seen x1 x2)
kept_typedef_seen specs name = (kept_here _ _ (λ scope. (kept_gives _ _ scope)))

pub kept_record_used : (x1 : CSpecs) (x2 : Bool) (x3 : Option (List ℕ)) (x4 : ℕ) (x5 : CScope) (x6 : Option CTag) → KeepsAt CSpecs (s_record_used x1 x2 x3 x4 x5 x6) x5
kept_record_used specs is_union name line scope found = (kept_changed _ scope _ _ _ _ (grow_record found name is_union scope))

pub kept_record_use_seen : (x1 : Bool) (x2 : CSpecs) (x3 : Bool) (x4 : Option (List ℕ)) (x5 : ℕ) → Keeps CSpecs (s_record_use_seen x1 x2 x3 x4 x5)
kept_record_use_seen alone specs is_union name line = (kept_here _ _ (λ scope. (kept_record_used specs is_union name line scope (seen_tag alone name scope))))

pub kept_record_begins : (x1 : Bool) (x2 : Option (List ℕ)) → Keeps CScope (s_record_begins x1 x2)
kept_record_begins is_union name = (kept_here _ _ (λ scope. (kept_becomes _ scope _ _ (grow_record (continued scope.types is_union (seen_tag true name scope)) name is_union scope))))

pub kept_record_ended : (x1 : CSpecs) (x2 : Bool) (x3 : Option (List ℕ)) (x4 : ℕ) (x5 : List CMember) (x6 : CScope) (x7 : Option CTag) (x8 : ℕ) → KeepsAt CSpecs (s_record_ended x1 x2 x3 x4 x5 x6 x7 x8) x6
kept_record_ended specs is_union name line members scope found number = (kept_changed _ scope _ _ _ _ (stays_quiet scope _ refl (omega arith) refl refl))

pub kept_record_ends : (x1 : CScope) (x2 : CSpecs) (x3 : Bool) (x4 : Option (List ℕ)) (x5 : ℕ) (x6 : List CMember) → Keeps CSpecs (s_record_ends x1 x2 x3 x4 x5 x6)
kept_record_ends before specs is_union name line members = (kept_here _ _ (λ scope. (kept_record_ended specs is_union name line members scope (seen_tag true name before) (tag_number (length before.types.records) (continued before.types is_union (seen_tag true name before))))))

pub kept_enum_used : (x1 : CSpecs) (x2 : ℕ) (x3 : CScope) (x4 : Option CTag) → KeepsAt CSpecs (s_enum_used x1 x2 x3 x4) x3
kept_enum_used specs line scope found = (kept_settled _ scope _ _ _)

pub kept_enum_use_seen : (x1 : CSpecs) (x2 : Option (List ℕ)) (x3 : ℕ) → Keeps CSpecs (s_enum_use_seen x1 x2 x3)
kept_enum_use_seen specs name line = (kept_here _ _ (λ scope. (kept_enum_used specs line scope (seen_tag false name scope))))

pub kept_enum_begins : (x1 : Option (List ℕ)) → Keeps CScope (s_enum_begins x1)
kept_enum_begins name = (kept_here _ _ (λ scope. (kept_becomes _ scope _ _ (grow_open name scope))))

pub kept_enum_ends : (x1 : CScope) (x2 : CSpecs) (x3 : Option (List ℕ)) (x4 : ℕ) (x5 : Bool) → Keeps CSpecs (s_enum_ends x1 x2 x3 x4 x5)
kept_enum_ends before specs name line negative = (kept_here _ _ (λ scope. (kept_changed _ scope _ _ _ _ (grow_closed name (length before.types.enums) negative scope))))

pub kept_enumerator_as : (x1 : CScope) (x2 : List ℕ) (x3 : ℕ) (x4 : Option COperand) (x5 : ℤ) → KeepsAt ℤ (s_enumerator_as x1 x2 x3 x4 x5) x1
kept_enumerator_as scope name line written value = kept_changed _ scope _ _ _ _ (stays_hidden scope _ (record { name = name; meant = an_enumerator value }) refl refl (omega arith) refl refl)

pub kept_enumerator_seen : (x1 : List ℕ) (x2 : ℕ) (x3 : ℤ) (x4 : Option COperand) → Keeps ℤ (s_enumerator_seen x1 x2 x3 x4)
kept_enumerator_seen name line next None = (kept_here _ _ (λ scope. (kept_enumerator_as scope name line None next)))
kept_enumerator_seen name line next (Some written) = (kept_here _ _ (λ scope. (kept_enumerator_as scope name line (Some written) (enumerator_value next (constant_of scope.types (value_of written))))))

pub kept_derives_seen : (x1 : ℕ) (x2 : CTy) (x3 : CShape) → Keeps CTy (s_derives_seen x1 x2 x3)
kept_derives_seen line from shape = (kept_here _ _ (λ scope. (kept_settled _ scope _ _ _)))

pub kept_member_seen : (x1 : Bool) (x2 : List CMember) (x3 : ℕ) (x4 : Option (List ℕ)) (x5 : CTy) (x6 : Option COperand) → Keeps CMember (s_member_seen x1 x2 x3 x4 x5 x6)
kept_member_seen is_last before line name type width = (kept_here _ _ (λ scope. (kept_settled _ scope _ _ _)))

pub kept_array_seen : (x1 : ℕ) (x2 : Bool) (x3 : Option COperand) → Keeps CStep (s_array_seen x1 x2 x3)
kept_array_seen line is_plain written = (kept_here _ _ (λ scope. (kept_settled _ scope _ _ _)))

pub kept_identifiers_seen : (x1 : ℕ) (x2 : List (List ℕ)) (x3 : CShape) → Keeps CShape (s_identifiers_seen x1 x2 x3)
kept_identifiers_seen line names shape = (kept_here _ _ (λ scope. (kept_settled _ scope _ _ _)))

pub kept_param_seen : (x1 : Bool) (x2 : ℕ) (x3 : CSpecs) (x4 : Option (List ℕ)) (x5 : CTy) → Keeps (Option CParam) (s_param_seen x1 x2 x3 x4 x5)
kept_param_seen is_only line specs name type = (kept_here _ _ (λ scope. (kept_changed _ scope _ _ _ _ (grow_param (param_of scope specs name type) scope))))

pub kept_value_given_at : (x1 : ℕ) (x2 : CTarget) (x3 : CFilling) (x4 : COperand) (x5 : CScope) (x6 : Option CAt) → KeepsAt CFilling (s_value_given_at x1 x2 x3 x4 x5 x6) x5
kept_value_given_at line target filling value scope at = (kept_settled _ scope _ _ _)

pub kept_value_given : (x1 : ℕ) (x2 : CTarget) (x3 : Option CAt) (x4 : CFilling) (x5 : COperand) → Keeps CFilling (s_value_given x1 x2 x3 x4 x5)
kept_value_given line target at filling value = (kept_here _ _ (λ scope. (kept_value_given_at line target filling value scope (landed scope.types value at))))

pub kept_text_given_at : (x1 : ℕ) (x2 : CTarget) (x3 : CFilling) (x4 : List ℕ) (x5 : CScope) (x6 : Option CAt) → KeepsAt CFilling (s_text_given_at x1 x2 x3 x4 x5 x6) x5
kept_text_given_at line target filling bytes scope at = (kept_changed _ scope _ _ _ _ (stays_quiet scope _ refl (omega arith) refl refl))

pub kept_text_given : (x1 : ℕ) (x2 : CTarget) (x3 : Option CAt) (x4 : CFilling) (x5 : List (List ℕ)) → Keeps CFilling (s_text_given x1 x2 x3 x4 x5)
kept_text_given line target at filling parts = (kept_here _ _ (λ scope. (either_at _ scope (fills scope.types at) _ _ (kept_text_given_at line target filling (joined_bytes parts) scope (text_landed scope.types at)) (at_chain _ _ _ _ scope (kept_text_seen parts line scope) (λ value. (kept_value_given line target at filling value))))))

pub kept_whole_value : (x1 : ℕ) (x2 : CTarget) (x3 : COperand) (x4 : CScope) → KeepsAt CFilling (s_whole_value x1 x2 x3 x4) x4
kept_whole_value line target value scope = (kept_settled _ scope _ _ _)

pub kept_whole_given : (x1 : ℕ) (x2 : CTarget) (x3 : COperand) → Keeps CFilling (s_whole_given x1 x2 x3)
kept_whole_given line target value = (kept_here _ _ (λ scope. (kept_whole_value line target value scope)))

pub kept_whole_text_at : (x1 : ℕ) (x2 : CTarget) (x3 : List ℕ) (x4 : CScope) (x5 : Option CAt) → KeepsAt CFilling (s_whole_text_at x1 x2 x3 x4 x5) x4
kept_whole_text_at line target bytes scope at = (kept_changed _ scope _ _ _ _ (stays_quiet scope _ refl (omega arith) refl refl))

pub kept_whole_text : (x1 : ℕ) (x2 : CTarget) (x3 : List (List ℕ)) → Keeps CFilling (s_whole_text x1 x2 x3)
kept_whole_text line target parts = (kept_here _ _ (λ scope. (either_at _ scope (fills_whole target) _ _ (kept_whole_text_at line target (joined_bytes parts) scope (whole_at target)) (at_chain _ _ _ _ scope (kept_text_seen parts line scope) (λ value. (kept_whole_given line target value))))))

pub kept_list_begins : (x1 : CTarget) (x2 : EntryTrees) (x3 : List CStored) → Keeps CFilling (s_list_begins x1 x2 x3)
kept_list_begins target _ stored = (kept_here _ _ (λ scope. (kept_gives _ _ scope)))

pub kept_list_given : (x1 : CTarget) (x2 : Option CAt) (x3 : CFilling) (x4 : List CStored) → Keeps CFilling (s_list_given x1 x2 x3 x4)
kept_list_given target at filling stored = (kept_here _ _ (λ scope. (kept_gives _ _ scope)))

pub kept_element_as : (x1 : ℕ) (x2 : COperand) (x3 : CScope) (x4 : Option CAt) → KeepsAt (Option CAt) (s_element_as x1 x2 x3 x4) x3
kept_element_as line index scope at = (kept_settled _ scope _ _ _)

pub kept_element_seen : (x1 : ℕ) (x2 : Option CAt) (x3 : COperand) → Keeps (Option CAt) (s_element_seen x1 x2 x3)
kept_element_seen line at index = (kept_here _ _ (λ scope. (kept_element_as line index scope (element_at scope.types at (constant_of scope.types (value_of index))))))

pub kept_member_as : (x1 : ℕ) (x2 : CScope) (x3 : Option CAt) → KeepsAt (Option CAt) (s_member_as x1 x2 x3) x2
kept_member_as line scope at = (kept_settled _ scope _ _ _)

pub kept_member_designated : (x1 : ℕ) (x2 : Option CAt) (x3 : List ℕ) → Keeps (Option CAt) (s_member_designated x1 x2 x3)
kept_member_designated line at name = (kept_here _ _ (λ scope. (kept_member_as line scope (member_at scope.types at name))))

-- the forms that look back at the scope before them
called_rest : (by_name : Bool) (mentioned : ℕ) (types : List CTy) (scope : CScope) → StaysTo scope (called by_name mentioned types scope)
called_rest true mentioned types scope = record {
  rest_is = refl;
  more = omega arith;
  defined = call_defines scope.mentions mentioned types (slice_get scope.mentions mentioned);
  front = [];
  declared_is = refl;
  visible = λ name type is. is;
  said = call_said scope.mentions scope.declared mentioned types (slice_get scope.mentions mentioned) refl;
}
called_rest false mentioned types scope = stays_itself scope

pub kept_call_seen : (line : ℕ) (by_name : Bool) (mentioned : ℕ) (callee : COperand) (args : List COperand) → Keeps COperand (s_call_seen line by_name mentioned callee args)
kept_call_seen line by_name mentioned callee args = kept_here _ _ (λ scope. kept_changed _ scope _ _ _ _ (called_rest by_name mentioned (trailing_types scope.types callee args) scope))

-- what is named there isn't used
pub sizeof_at : (line : ℕ) (on : Seen COperand) (before : CScope) → KeepsAt COperand on before → KeepsAt COperand (seen_chain COperand COperand on (λ one. s_sizeof_seen line before one)) before
unfolding seen_chain seen_here seen_look seen_becomes seen_gives
sizeof_at line on before one = record {
  kept = record {
    rest_is = one.kept.rest_is;
    more = one.kept.more;
    defined = λ index mention is held. is;
    front = one.kept.front;
    declared_is = one.kept.declared_is;
    visible = one.kept.visible;
    said = said_before before.mentions before.declared;
  };
}

pub kept_literal_begins : (type : CTy) → Keeps CScope (s_literal_begins type)
kept_literal_begins type = kept_here _ _ (λ scope. kept_becomes _ scope _ _ (stays_quiet scope _ refl (omega arith) refl refl))

pub kept_literal_ends_as : (before : CScope) (line : ℕ) (scope : CScope) (filled : CFilled) → KeepsAt COperand (s_literal_ends_as before line scope filled) scope
kept_literal_ends_as before line scope filled = kept_changed _ scope _ _ _ _ (stays_quiet scope _ refl (omega arith) refl refl)

pub kept_literal_ends : (before : CScope) (line : ℕ) (type : CTy) (stored : List CStored) → Keeps COperand (s_literal_ends before line type stored)
kept_literal_ends before line type stored = kept_here _ _ (λ scope. kept_literal_ends_as before line scope (filled_object scope.types type stored))
