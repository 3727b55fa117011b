-- The rule of each part of a declaration as a chain of tests.
use Rattle.std.proofs.Common.{◌≡◌, refl}
use Rattle.std.specs.Prelude.{ℕ, ℤ, pos, neg_ℤ, int_le, nat_lt, length, Bool, true, false, not, ◌&&◌, ◌||◌, if◌then◌else◌, List, Option, None, Some, is_some, is_none}
use Rattle.std.specs.List.{list_any}
use Rattle.cr_base.specs.declared.rule.Rule.TheVariants.{O3, O4, O6, O9, O10, K1, K2, K3, K4, K5, K6, K7, K8, K10, K15, K17, K22, K23, K24, M3}
use Rattle.cx_breaks.specs.Asked.{lacks_value, is_fixed}
use Rattle.cx_breaks.specs.Placed.{placed}
use Rattle.cx_core.specs.Conversions.{basic_of}
use Rattle.cx_core.specs.Trees.{CTy, CTypes, CMember, form_of_type}
use Rattle.cx_lex.specs.declared.token.Keyword.TheVariants as keyword
use Rattle.cx_rules.specs.declared.kinds.SpecsPlace.{SpecsPlace}
use Rattle.cx_rules.specs.Nodes.{name_node, identifiers_node, record_use_node, record_node, enum_use_node, enum_node, array_node, enumerator_node, member_node, param_node, specs_node, derives_node}
use Rattle.cx_rules.specs.Operands.{COperand, gives_nothing, holds_nothing, is_register_array, constant_of, value_of}
use Rattle.cx_rules.specs.Rules.{rule_at, breaks, node_rules, has_members, has_name, is_completed, is_empty, is_open_array, is_other_kind, is_taken, is_taken_by, misplaced, not_constant, names_void, not_declared, not_there, not_width, record_too_large, says_nothing, tag_is, takes_restrict, value_is, wider_than_int}
use Rattle.cx_rules.specs.Scope.{CMeant, CScope, CTag}
use Rattle.cx_rules.specs.Shapes.{CSpecs, CStep, derived, has_function_fault, has_incomplete_elements, has_restrict_fault, has_storage, or_int, specs_type}
use Rattle.cx_rules.specs.Types.{is_function, is_incomplete, is_integer, is_too_large, is_void}
use Rattle.cx_type_breaks.specs.Arrays.{is_short}
use Rattle.cx_type_breaks.specs.Members.{is_misfit}
use Rattle.cx_type_breaks.specs.Written.{is_unconstant, constant_written, lacks_written, is_fixed_written}

-- ---- chains of tests

-- brackets without a length
length_none : (p : Bool) →
    (if p || false then Some O3 else None)
    ≡ (if p then Some O3 else None)
length_none true = refl
length_none false = refl

-- brackets with a length
length_some : (p u k g h f : Bool) →
    (if p || u then Some O3 else if k then Some K6 else if ((g || false) || (h || false)) || false then Some K10 else if (f || false) || false then Some K15 else None)
    ≡ (if p then Some O3 else if u then Some O3 else if k then Some K6 else if g || h then Some K10 else if f then Some K15 else None)
length_some true u k g h f = refl
length_some false true k g h f = refl
length_some false false true g h f = refl
length_some false false false true h f = refl
length_some false false false false true f = refl
length_some false false false false false true = refl
length_some false false false false false false = refl

-- a member that is no bit-field
member_none : (o k f n : Bool) →
    (if o then Some O10 else if k then Some K5 else if f || n then Some K8 else None)
    ≡ (if o then Some O10 else if k then Some K5 else if f then Some K8 else if n then Some K8 else None)
member_none true k f n = refl
member_none false true f n = refl
member_none false false true n = refl
member_none false false false true = refl
member_none false false false false = refl

-- a bit-field
member_some : (w o k c n g h f u m : Bool) →
    (if w then Some O6 else if o then Some O10 else if k then Some K5 else if c || n then Some K8 else if ((g || false) || (h || false)) || false then Some K10 else if (f || false) || false then Some K15 else if u then Some K17 else if m then Some K22 else None)
    ≡ (if w then Some O6 else if o then Some O10 else if k then Some K5 else if c then Some K8 else if n then Some K8 else if g || h then Some K10 else if f then Some K15 else if u then Some K17 else if m then Some K22 else None)
member_some true o k c n g h f u m = refl
member_some false true k c n g h f u m = refl
member_some false false true c n g h f u m = refl
member_some false false false true n g h f u m = refl
member_some false false false false true g h f u m = refl
member_some false false false false false true h f u m = refl
member_some false false false false false false true f u m = refl
member_some false false false false false false false true u m = refl
member_some false false false false false false false false u m = refl

-- an enumerator with a value
enumerator_some : (t g h f u r : Bool) →
    (if t then Some K2 else if ((g || false) || (h || false)) || false then Some K10 else if (f || false) || false then Some K15 else if u then Some K17 else if r then Some K23 else None)
    ≡ (if t then Some K2 else if g || h then Some K10 else if f then Some K15 else if u then Some K17 else if r then Some K23 else None)
enumerator_some true g h f u r = refl
enumerator_some false true h f u r = refl
enumerator_some false false true f u r = refl
enumerator_some false false false true u r = refl
enumerator_some false false false false u r = refl

-- a list of members
record_parts : (a h t m : Bool) →
    (if a then Some K8 else if h || t then Some K24 else if m then Some M3 else None)
    ≡ (if a then Some K8 else if h then Some K24 else if t then Some K24 else if m then Some M3 else None)
record_parts true h t m = refl
record_parts false true t m = refl
record_parts false false t m = refl

-- specifiers
specs_parts : (a s r c m : Bool) →
    (if a then Some O9 else if s || r then Some K3 else if c || m then Some K4 else None)
    ≡ (if a then Some O9 else if s then Some K3 else if r then Some K3 else if c then Some K4 else if m then Some K4 else None)
specs_parts true s r c m = refl
specs_parts false true r c m = refl
specs_parts false false true c m = refl
specs_parts false false false true m = refl
specs_parts false false false false m = refl

-- ---- nodes

pub named : (types : CTypes) (scope : CScope) (line : ℕ) (meant : Option CMeant) → rule_at (placed types scope line (name_node meant))
    ≡ (if not_declared meant then Some K1 else if names_void meant then Some K10 else None)
unfolding rule_at breaks node_rules
named types scope line meant = refl

pub identifiers : (types : CTypes) (scope : CScope) (line : ℕ) (names : List (List ℕ)) → rule_at (placed types scope line (identifiers_node names))
    ≡ (if not (is_empty names) then Some O4 else None)
unfolding rule_at breaks node_rules
identifiers types scope line names = refl

pub record_use : (types : CTypes) (scope : CScope) (line : ℕ) (is_union : Bool) (found : Option CTag) → rule_at (placed types scope line (record_use_node is_union found))
    ≡ (if tag_is (is_other_kind types is_union) found then Some K24 else None)
unfolding rule_at breaks node_rules
record_use types scope line is_union found = refl

pub enum_use : (types : CTypes) (scope : CScope) (line : ℕ) (found : Option CTag) → rule_at (placed types scope line (enum_use_node found))
    ≡ (if not_there found then Some K24 else None)
unfolding rule_at breaks node_rules
enum_use types scope line found = refl

pub enum_list : (types : CTypes) (scope : CScope) (line : ℕ) (found : Option CTag) → rule_at (placed types scope line (enum_node found))
    ≡ (if is_some found then Some K24 else None)
unfolding rule_at breaks node_rules
enum_list types scope line found = refl

pub record_list : (types : CTypes) (scope : CScope) (line : ℕ) (is_union : Bool) (found : Option CTag) (number : ℕ) (members : List CMember) → rule_at (placed types scope line (record_node is_union found number members))
    ≡ (if not (list_any (λ one. is_some one.name) members) then Some K8 else if has_members types number then Some K24 else if tag_is (λ one. is_other_kind types is_union one || is_completed types one) found then Some K24 else if record_too_large types is_union number members then Some M3 else None)
unfolding rule_at breaks node_rules
record_list types scope line is_union found number members = record_parts (not (list_any (λ one. is_some one.name) members)) (has_members types number) (tag_is (λ one. is_other_kind types is_union one || is_completed types one) found) (record_too_large types is_union number members)

pub array : (types : CTypes) (scope : CScope) (line : ℕ) (is_plain : Bool) (length : Option COperand) → rule_at (placed types scope line (array_node is_plain length))
    ≡ (if not is_plain then Some O3 else if is_unconstant types length then Some O3 else if is_short (constant_written types length) then Some K6 else if lacks_written types length then Some K10 else if is_fixed_written length then Some K15 else None)
unfolding rule_at breaks node_rules is_unconstant constant_written lacks_written is_fixed_written lacks_value is_fixed
array types scope line is_plain None = length_none (not is_plain)
array types scope line is_plain (Some one) = length_some (not is_plain) (not_constant types one) (is_short (constant_of types (value_of one))) (gives_nothing one) (holds_nothing types one) (is_register_array one)

pub enumerator : (types : CTypes) (scope : CScope) (line : ℕ) (name : List ℕ) (written : Option COperand) (value : ℤ) → rule_at (placed types scope line (enumerator_node name written value))
    ≡ (if is_taken scope name then Some K2 else if lacks_written types written then Some K10 else if is_fixed_written written then Some K15 else if is_unconstant types written then Some K17 else if not (int_le (neg_ℤ (pos 2147483648)) value && int_le value (pos 2147483647)) then Some K23 else None)
unfolding rule_at breaks node_rules is_unconstant constant_written lacks_written is_fixed_written lacks_value is_fixed
enumerator types scope line name None value = refl
enumerator types scope line name (Some one) value = enumerator_some (is_taken scope name) (gives_nothing one) (holds_nothing types one) (is_register_array one) (not_constant types one) (not (int_le (neg_ℤ (pos 2147483648)) value && int_le value (pos 2147483647)))

pub member : (types : CTypes) (scope : CScope) (line : ℕ) (is_last : Bool) (name : Option (List ℕ)) (type : CTy) (width : Option COperand) (before : List CMember) → rule_at (placed types scope line (member_node is_last name type width before))
    ≡ (if is_some width && wider_than_int (basic_of types (form_of_type type)) then Some O6 else if is_last && is_open_array (form_of_type type) then Some O10 else if is_incomplete types type then Some K5 else if is_function type then Some K8 else if list_any (has_name name) before then Some K8 else if lacks_written types width then Some K10 else if is_fixed_written width then Some K15 else if is_unconstant types width then Some K17 else if is_some width && is_misfit types type name (constant_written types width) then Some K22 else None)
unfolding rule_at breaks node_rules is_unconstant constant_written lacks_written is_fixed_written lacks_value is_fixed is_misfit
member types scope line is_last name type None before = member_none (is_last && is_open_array (form_of_type type)) (is_incomplete types type) (is_function type) (list_any (has_name name) before)
member types scope line is_last name type (Some one) before = member_some (wider_than_int (basic_of types (form_of_type type))) (is_last && is_open_array (form_of_type type)) (is_incomplete types type) (is_function type) (list_any (has_name name) before) (gives_nothing one) (holds_nothing types one) (is_register_array one) (not_constant types one) (not (is_integer types type) || value_is (not_width types type name) (constant_of types (value_of one)))

pub param : (types : CTypes) (scope : CScope) (line : ℕ) (is_only : Bool) (specs : CSpecs) (name : Option (List ℕ)) (type : CTy) → rule_at (placed types scope line (param_node is_only specs name type))
    ≡ (if is_taken_by scope name then Some K2 else if is_void type && not (says_nothing is_only specs name type) then Some K7 else None)
unfolding rule_at breaks node_rules
param types scope line is_only specs name type = refl

pub specifiers : (types : CTypes) (scope : CScope) (line : ℕ) (place : SpecsPlace) (specs : CSpecs) → rule_at (placed types scope line (specs_node place specs))
    ≡ (if specs.is_inline && not (has_storage keyword.Static specs) then Some O9 else if is_none (specs_type specs) then Some K3 else if specs.is_restrict && not (takes_restrict (or_int (specs_type specs))) then Some K3 else if nat_lt 1 (length specs.storage) then Some K4 else if misplaced place specs then Some K4 else None)
unfolding rule_at breaks node_rules
specifiers types scope line place specs = specs_parts (specs.is_inline && not (has_storage keyword.Static specs)) (is_none (specs_type specs)) (specs.is_restrict && not (takes_restrict (or_int (specs_type specs)))) (nat_lt 1 (length specs.storage)) (misplaced place specs)

pub derives : (types : CTypes) (scope : CScope) (line : ℕ) (from : CTy) (steps : List CStep) → rule_at (placed types scope line (derives_node from steps))
    ≡ (if has_restrict_fault from steps then Some K3 else if has_incomplete_elements types from steps then Some K5 else if has_function_fault from steps then Some K7 else if is_too_large types (derived from steps) then Some M3 else None)
unfolding rule_at breaks node_rules
derives types scope line from steps = refl
