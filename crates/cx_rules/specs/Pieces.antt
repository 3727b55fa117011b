-- What the steps of the walk over a unit do to its scope, and what they say of literals, specifiers, declarators and initialisers (ISO
-- C99, 6.4.5, 6.5.2.5, 6.7).
use Rattle.std.specs.Prelude.{ℕ, ◌-◌, ◌==◌, ℤ, pos, int_lt, Bool, true, false, ◌&&◌, ◌||◌, if◌then◌else◌, List, [], ◌∷◌, ◌++◌, length, take, Option, None, Some, option_map, is_some, is_none, slice_get}
use Rattle.std.specs.Bool.{beq}
use Rattle.std.specs.List.{list_any}
use Rattle.std.specs.Option.{option_and_then, option_flatten}
use Rattle.cr_base.specs.declared.refusal.Place.{Place as TextPlace}
use Rattle.cx_core.specs.declared.expr.Op1.TheVariants as op1
use Rattle.cx_core.specs.declared.expr.Op1.{Op1}
use Rattle.cx_core.specs.declared.expr.Op2.TheVariants as op2
use Rattle.cx_core.specs.declared.expr.Op2.{Op2}
use Rattle.cx_core.specs.declared.program.Linkage.{Linkage}
use Rattle.cx_core.specs.declared.program.Linkage.TheVariants.{External, Internal, Nothing}
use Rattle.cx_core.specs.Trees.{CTy, form_of_type, CTypes, CMember, CRecordTag, CExpr, expr, object, literal, CPuts, uses, CObject}
use Rattle.cx_lex.specs.declared.token.Keyword.{Keyword}
use Rattle.cx_lex.specs.declared.token.Keyword.TheVariants as keyword
use Rattle.cx_lex.specs.declared.token.Punct.{Punct}
use Rattle.cx_lex.specs.declared.token.Punct.TheVariants as punct
use Rattle.cx_tree.specs.Trees.{ExprTree, Name, Text, Paren, MemberDeclTrees, no_member_decls, more_member_decls, MemberDeclaratorTrees, no_member_declarators, more_member_declarators, ParamTrees, no_params, more_params, Single, Entry, EntryTrees, no_entries, more_entries, no_designators}
use Rattle.cx_rules.specs.Initial.{CAt, whole_of, first_at, next_at, landed_at, of_text, of_type, CStored, completed_type, puts_of, text_stored, text_fits, text_type, text_puts, is_initial}
use Rattle.cx_rules.specs.Nodes.{CGivenFacts}
use Rattle.cx_rules.specs.Operands.{COperand, a_place, is_designator, value_of, value_type, constant_of, fitted}
use Rattle.cx_rules.specs.Pairs.{is_assignable}
use Rattle.cx_rules.specs.Scope.{CMeant, an_object, a_function, a_type_name, CDeclared, CTag, CMade, CScope, ordinary, tag, innermost, with_declared, with_object_number, with_made, with_mention, with_record, with_enum, with_enum_type, with_tag, mention_of, with_call}
use Rattle.cx_rules.specs.Shapes.{same_key, CSpecs, has_storage, CParam, adjusted}
use Rattle.cx_rules.specs.Types.{int_type, is_void, is_function, is_character_array}

-- ---- small things

-- the walk gives nothing here
abbrev pub Done : Type 0
Done = Unit {0}

-- a place of the unit
abbrev pub at_line : CScope → ℕ → TextPlace
at_line scope line = record { unit = scope.unit; line = line }

-- a name, which may stand in parentheses
abbrev pub is_name : ExprTree → Bool
is_name (Name name lines) = true
is_name (Paren inner lines) = is_name inner
is_name _ = false

-- string literals, which stand by themselves
abbrev pub is_text : ExprTree → Bool
is_text (Text parts lines) = true
is_text _ = false

abbrev pub text_parts : ExprTree → List (List ℕ)
text_parts (Text parts lines) = parts
text_parts _ = []

-- what is used by its name is mentioned where it has external linkage or is a function (6.9p3, p5)
abbrev pub use_linked : ℕ → List ℕ → CTy → Linkage → CScope → CScope
use_linked line name type External scope = with_mention (mention_of scope name line type External uses) scope
use_linked line name type Internal scope = scope
use_linked line name type Nothing scope = scope

abbrev pub used : ℕ → List ℕ → Option CMeant → CScope → CScope
used line name (Some (an_object number type is_register linkage)) scope = use_linked line name type linkage scope
used line name (Some (a_function number type linkage)) scope = with_mention (mention_of scope name line type linkage uses) scope
used line name _ scope = scope

-- a function that is called by its name is mentioned as called
abbrev pub called : Bool → ℕ → List CTy → CScope → CScope
called true index types scope = with_call index types scope
called false index types scope = scope

abbrev pub calls_by_name : ExprTree → COperand → Bool
calls_by_name of callee = is_name of && is_designator callee

-- the operators that are marks (6.5.3, 6.5.5 to 6.5.14, 6.5.16)
pub data CUnary : Type 0 where
  takes_address : CUnary
  follows : CUnary
  computes : Op1 → CUnary

unfoldable pub unary_of : Punct → CUnary
unary_of punct.Ampersand = takes_address
unary_of punct.Star = follows
unary_of punct.Plus = computes op1.Plus
unary_of punct.Minus = computes op1.Minus
unary_of punct.Tilde = computes op1.Complement
unary_of _ = computes op1.Not

pub data CBinary : Type 0 where
  tests_both : CBinary
  tests_either : CBinary
  operates : Op2 → CBinary

unfoldable pub binary_of : Punct → CBinary
binary_of punct.AndAnd = tests_both
binary_of punct.BarBar = tests_either
binary_of punct.Star = operates op2.Multiply
binary_of punct.Slash = operates op2.Divide
binary_of punct.Percent = operates op2.Remainder
binary_of punct.Plus = operates op2.Add
binary_of punct.Minus = operates op2.Subtract
binary_of punct.ShiftLeft = operates op2.ShiftLeft
binary_of punct.ShiftRight = operates op2.ShiftRight
binary_of punct.Less = operates op2.Less
binary_of punct.Greater = operates op2.Greater
binary_of punct.LessEqual = operates op2.LessOrEqual
binary_of punct.GreaterEqual = operates op2.GreaterOrEqual
binary_of punct.EqualEqual = operates op2.Equal
binary_of punct.NotEqual = operates op2.NotEqual
binary_of punct.Ampersand = operates op2.BitAnd
binary_of punct.Caret = operates op2.BitXor
binary_of _ = operates op2.BitOr

-- the operator of a compound assignment, or none for `=`
unfoldable pub assignment_of : Punct → Option Op2
assignment_of punct.StarEqual = Some op2.Multiply
assignment_of punct.SlashEqual = Some op2.Divide
assignment_of punct.PercentEqual = Some op2.Remainder
assignment_of punct.PlusEqual = Some op2.Add
assignment_of punct.MinusEqual = Some op2.Subtract
assignment_of punct.ShiftLeftEqual = Some op2.ShiftLeft
assignment_of punct.ShiftRightEqual = Some op2.ShiftRight
assignment_of punct.AmpersandEqual = Some op2.BitAnd
assignment_of punct.CaretEqual = Some op2.BitXor
assignment_of punct.BarEqual = Some op2.BitOr
assignment_of _ = None

-- ---- literals (6.4.5, 6.5.2.5)

abbrev pub made_text : CScope → ℕ → List ℕ → CMade
made_text scope line bytes = record {
  object = scope.next_object;
  type = text_type bytes;
  is_text = true;
  fixed = Some (text_puts scope.types (at_line scope line) bytes);
}

-- the object of a string literal, which comes into being
abbrev pub with_text : ℕ → List ℕ → CScope → CScope
with_text line bytes scope = with_made (made_text scope line bytes) (with_object_number scope)

abbrev pub text_meaning : CScope → ℕ → List ℕ → COperand
text_meaning scope line bytes = a_place false (expr (text_type bytes) (at_line scope line) (object scope.next_object))

-- a compound literal of a type: its object comes into being before what is stored in it
abbrev pub with_literal : CTy → CScope → CScope
with_literal type scope = with_made (record { object = scope.next_object; type = type; is_text = false; fixed = None }) (with_object_number scope)

abbrev pub if_outside : Bool → CPuts → Option CPuts
if_outside true puts = None
if_outside false puts = Some puts

abbrev pub literal_made : Bool → ℕ → CTy → CPuts → CMade
literal_made in_function number type puts = record { object = number; type = type; is_text = false; fixed = if_outside in_function puts }

-- a compound literal in a function stores each time that it is reached; outside it is an object like another
abbrev pub literal_meaning : Bool → TextPlace → ℕ → CTy → CPuts → COperand
literal_meaning true at number type puts = a_place false (expr type at (literal number puts))
literal_meaning false at number type puts = a_place false (expr type at (object number))

-- ---- specifiers

abbrev pub typedef_type : Option CMeant → CTy
typedef_type (Some (a_type_name type)) = type
typedef_type _ = int_type

abbrev pub typedef_in : CScope → List ℕ → CTy
typedef_in scope name = typedef_type (ordinary name scope.declared)

abbrev pub find_tag : Option (List ℕ) → List CDeclared → Option CTag
find_tag None declared = None
find_tag (Some name) declared = tag name declared

-- what `struct s;` by itself looks at is the innermost scope alone (6.7.2.3p7)
abbrev pub seen_tag : Bool → Option (List ℕ) → CScope → Option CTag
seen_tag true name scope = find_tag name (innermost scope)
seen_tag false name scope = find_tag name scope.declared

abbrev pub tag_number : ℕ → Option CTag → ℕ
tag_number new None = new
tag_number new (Some one) = one.number

-- a structure or union that is named and not there yet is declared (6.7.2.3p8)
abbrev pub with_used : Option CTag → Option (List ℕ) → Bool → CScope → CScope
with_used None name is_union scope = with_tag name true false (length scope.types.records) (with_record name is_union scope)
with_used (Some one) name is_union scope = scope

abbrev pub is_same_kind : Bool → Option CRecordTag → Bool
is_same_kind is_union None = false
is_same_kind is_union (Some one) = beq one.is_union is_union

-- a list of members completes what its tag declares in the same scope, where that isn't completed (6.7.2.3p6)
abbrev pub continues : CTypes → Bool → CTag → Bool
continues types is_union one =
    one.is_record && (is_same_kind is_union (slice_get types.record_tags one.number) && is_none (option_flatten (slice_get types.records one.number)))

abbrev pub continued : CTypes → Bool → Option CTag → Option CTag
continued types is_union None = None
continued types is_union (Some one) = if continues types is_union one then Some one else None

-- the tag of an enumerated type whose list begins, and whose list has ended (6.2.1p7)
abbrev pub with_open_enum : Option (List ℕ) → CScope → CScope
with_open_enum name scope = with_tag name false true (length scope.types.enums) (with_enum scope)

abbrev pub with_closed_enum : Option (List ℕ) → ℕ → Bool → CScope → CScope
with_closed_enum name number negative scope = with_tag name false false number (with_enum_type number negative scope)

-- an enumerated type has negative values where some enumerator is negative
abbrev pub or_negative : Bool → ℤ → Bool
or_negative found value = found || int_lt value (pos 0)

abbrev pub enumerator_value : ℤ → Option ℤ → ℤ
enumerator_value otherwise None = otherwise
enumerator_value otherwise (Some value) = value

-- ---- members

abbrev pub no_more_decls : MemberDeclTrees → Bool
no_more_decls no_member_decls = true
no_more_decls (more_member_decls m ms) = false

abbrev pub no_more_declarators : MemberDeclaratorTrees → Bool
no_more_declarators no_member_declarators = true
no_more_declarators (more_member_declarators m ms) = false

abbrev pub natural : ℤ → ℕ
natural (pos n) = n
natural value = 0

abbrev pub width_as : Option ℤ → Option ℕ
width_as None = None
width_as (Some value) = Some (natural value)

abbrev pub width_written : CTypes → Option COperand → Option ℕ
width_written types None = None
width_written types (Some width) = width_as (constant_of types (value_of width))

abbrev pub member_of : CTypes → Option (List ℕ) → CTy → Option COperand → CMember
member_of types name type width = record { name = name; type = type; bits = width_written types width }

-- ---- declarators

abbrev pub has_word : Keyword → List Keyword → Bool
has_word word words = list_any (same_key word) words

abbrev pub is_none_of : List Keyword → Bool
is_none_of [] = true
is_none_of (word ∷ words) = false

abbrev pub length_written : CTypes → Option COperand → Option ℕ
length_written types written = width_written types written

-- one parameter alone, without `...`
abbrev pub is_single : ParamTrees → Bool → Bool
is_single (more_params p no_params) false = true
is_single _ variadic = false

abbrev pub param_list : Option CParam → List CParam → List CParam
param_list None others = others
param_list (Some one) others = one ∷ others

abbrev pub param_as : CScope → CSpecs → Option (List ℕ) → CTy → CParam
param_as scope specs name type = record {
  name = name;
  object = scope.next_object;
  type = adjusted type;
  is_register = has_storage keyword.Register specs;
}

-- a parameter, unless it is `void` (6.7.5.3p10)
abbrev pub param_of : CScope → CSpecs → Option (List ℕ) → CTy → Option CParam
param_of scope specs name type = if is_void type then None else Some (param_as scope specs name type)

abbrev pub declared_param : Option (List ℕ) → CParam → CScope → CScope
declared_param None one scope = scope
declared_param (Some name) one scope = with_declared name (an_object one.object one.type one.is_register Nothing) scope

-- its object has a number, and its name comes into scope
abbrev pub with_param : Option CParam → CScope → CScope
with_param None scope = scope
with_param (Some one) scope = declared_param one.name one (with_object_number scope)

-- what was declared since there were so many declarations, the newest first
abbrev pub declared_since : ℕ → CScope → List CDeclared
declared_since count scope = take (length scope.declared - count) scope.declared

-- ---- initialisers

-- the object that an initialiser is for: whether it is initialised before the program begins
pub record CTarget : Type 0 where
  pub is_static : Bool
  -- what the innermost list in braces is for, where there is such a part
  pub base : Option CAt

-- what is stored so far, and where the next value stands
pub record CFilling : Type 0 where
  pub stored : List CStored
  pub next : Option CAt

abbrev pub is_within : (part path : List ℕ) → Bool
is_within [] path = true
is_within (index ∷ part) [] = false
is_within (index ∷ part) (other ∷ path) = (index == other) && is_within part path

abbrev pub kept_outside : List ℕ → List CStored → List CStored
kept_outside part [] = []
kept_outside part (one ∷ others) = if is_within part one.path then kept_outside part others else one ∷ kept_outside part others

-- what was stored in a part goes where the part as a whole is given anew, by a value, a string literal or a list in braces: the rest of
-- the part is then zero (6.7.8p19, p21)
abbrev pub outside : Option CAt → List CStored → List CStored
outside None stored = stored
outside (Some at) stored = kept_outside at.path stored

abbrev pub begins_at : CTypes → CTarget → List CStored → CFilling
begins_at types target stored = record { stored = stored; next = option_and_then (λ base. first_at types base.type) target.base }

-- the path of a part from the whole object
abbrev pub inside : CAt → CAt → CAt
inside base at = record at { path = base.path ++ at.path }

abbrev pub from_whole : Option CAt → Option CAt → Option CAt
from_whole None at = None
from_whole (Some base) at = option_map (inside base) at

abbrev pub next_of : CTypes → Option CAt → Option CAt → Option CAt
next_of types None at = None
next_of types (Some base) None = None
next_of types (Some base) (Some at) = next_at types base.type at

abbrev pub with_more : Option CAt → List CStored → List CStored → List CStored
with_more at [] stored = stored
with_more at (first ∷ more) stored = outside at stored ++ first ∷ more

-- more is stored, and the next value stands behind this part
abbrev pub filled : CTypes → CTarget → Option CAt → List CStored → CFilling → CFilling
filled types target at more filling = record { stored = with_more (from_whole target.base at) more filling.stored; next = next_of types target.base at }

-- an object that lives as long as the program: one of a literal outside of functions or a string literal, one with linkage, or one
-- that is declared `static`
abbrev pub made_static : ℕ → CMade → Bool
made_static number made = made.object == number && is_some made.fixed

abbrev pub has_linkage : Linkage → Bool
has_linkage External = true
has_linkage Internal = true
has_linkage Nothing = false

abbrev pub object_static : ℕ → CObject → Bool
object_static number one = one.object == number && (has_linkage one.linkage || is_some one.puts)

abbrev pub is_static_object : CScope → ℕ → Bool
is_static_object scope number = list_any (made_static number) scope.literals || list_any (object_static number) scope.objects

-- a constant, where one is needed (6.7.8p4)
abbrev pub may_initialise : CScope → Bool → CExpr → Bool
may_initialise scope false value = true
may_initialise scope true value = is_initial scope.types (is_static_object scope) value

abbrev pub landed : CTypes → COperand → Option CAt → Option CAt
landed types value at = option_and_then (landed_at types (of_type (value_type value))) at

abbrev pub assignable_at : CTypes → COperand → Option CAt → Bool
assignable_at types value None = true
assignable_at types value (Some at) = is_assignable types at.type (value_of value)

-- a value that is given, and what it lands at
abbrev pub value_facts : CScope → CTarget → COperand → Option CAt → CGivenFacts
value_facts scope target value at = record {
  value = Some value;
  has_place = is_some at;
  is_assignable = assignable_at scope.types value at;
  is_constant = may_initialise scope target.is_static (value_of value);
}

abbrev pub stored_value : CTypes → COperand → Option CAt → List CStored
stored_value types value None = []
stored_value types value (Some at) = record { path = at.path; type = at.type; value = fitted types at.type (value_of value) } ∷ []

abbrev pub value_stored : CTypes → CTarget → COperand → Option CAt → List CStored
value_stored types target value at = stored_value types value (from_whole target.base at)

-- a string literal, where it lands at an array of characters
abbrev pub text_landed : CTypes → Option CAt → Option CAt
text_landed types at = option_and_then (landed_at types of_text) at

abbrev pub is_array_at : Option CAt → Bool
is_array_at None = false
is_array_at (Some at) = is_character_array (form_of_type at.type)

abbrev pub fills : CTypes → Option CAt → Bool
fills types at = is_array_at (text_landed types at)

abbrev pub text_fits_at : List ℕ → Option CAt → Bool
text_fits_at bytes None = false
text_fits_at bytes (Some at) = text_fits at bytes

abbrev pub text_facts : List ℕ → Option CAt → CGivenFacts
text_facts bytes at = record { value = None; has_place = text_fits_at bytes at; is_assignable = true; is_constant = true }

abbrev pub bytes_stored : CTypes → TextPlace → List ℕ → Option CAt → List CStored
bytes_stored types place bytes None = []
bytes_stored types place bytes (Some at) = text_stored types place at bytes

abbrev pub text_stored_at : CTypes → TextPlace → CTarget → List ℕ → Option CAt → List CStored
text_stored_at types place target bytes at = bytes_stored types place bytes (from_whole target.base at)

-- a list in braces that holds one string literal, without designator, may stand for the literal (6.7.8p14)
abbrev pub holds_text : EntryTrees → Bool
holds_text (more_entries (Entry no_designators (Single (Text parts lines)) entry_lines) no_entries) = true
holds_text _ = false

abbrev pub base_is_text : Option CAt → Bool
base_is_text None = false
base_is_text (Some base) = is_character_array (form_of_type base.type)

-- where the first value of a list in braces stands
abbrev pub list_start : CTypes → CTarget → EntryTrees → List CStored → CFilling
list_start types target entries stored =
    if base_is_text target.base && holds_text entries
    then record { stored = outside target.base stored; next = option_map (λ base. whole_of base.type) target.base }
    else begins_at types target (outside target.base stored)

-- a list in braces is for a part
abbrev pub target_at : CTarget → Option CAt → CTarget
target_at target at = record target { base = from_whole target.base at }

-- the path that designators lead along begins at what the list is for (6.7.8p18)
abbrev pub designated_from : CTarget → Option CAt
designated_from target = option_map (λ base. whole_of base.type) target.base

-- a value that isn't in braces is for the whole object (6.7.8p11 to p14)
abbrev pub whole_target : Bool → Option CTy → CTarget
whole_target is_static type = record { is_static = is_static; base = option_map whole_of type }

-- a compound literal is no function and not `void` (6.5.2.5p1)
abbrev pub object_of_type : Bool → CTy → CTarget
object_of_type is_static type = whole_target is_static (if is_void type || is_function type then None else Some type)

-- what an initialiser says of the object that it is for: its type, which an array without length gets by it, and the puts
pub record CFilled : Type 0 where
  pub type : CTy
  pub puts : CPuts

abbrev pub filled_object : CTypes → CTy → List CStored → CFilled
filled_object types type stored = record { type = completed_type type stored; puts = puts_of types type stored }

-- a string literal that isn't in braces is for the whole array
abbrev pub fills_whole : CTarget → Bool
fills_whole target = base_is_text target.base

abbrev pub whole_at : CTarget → Option CAt
whole_at target = option_map (λ base. whole_of base.type) target.base
