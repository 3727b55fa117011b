-- What an initialiser whose expressions are typed stores in an object, and which rule each of its parts breaks (ISO C99, 6.7.8). The parts
-- are what is given, and the designators, in post-order: what stands in a list before the list, and the designators of an entry before
-- what is given there. What stands behind a part that breaks a rule is looked at as well, and counts for nothing.
use Rattle.std.specs.Prelude.{ℕ, suc, Bool, true, false, not, ◌&&◌, ◌||◌, if◌then◌else◌, List, [], ◌∷◌, ◌++◌, Option, None, Some, is_some}
use Rattle.cr_base.specs.declared.refusal.Place.{Place as TextPlace}
use Rattle.cr_base.specs.declared.rule.Rule.{Rule}
use Rattle.cr_base.specs.declared.rule.Rule.TheVariants.{K12, K21}
use Rattle.cx_core.specs.Trees.{CTy, CTypes, expr, object, CPuts}
use Rattle.cx_place.specs.Initialisers.{CGiven, given_value, given_text, given_list, CEntries, no_entries, more_entries}
use Rattle.cx_place.specs.declared.fault.BrokenPart.{BrokenPart}
use Rattle.cx_place.specs.declared.given.To.{To}
use Rattle.cx_place.specs.declared.given.To.TheVariants.{Index, Field}
use Rattle.cx_rules.specs.Initial.{CAt, CStored, element_at, member_at, puts_of, text_type}
use Rattle.cx_rules.specs.Operands.{COperand, a_value, a_place}
use Rattle.cx_rules.specs.Pieces.{CFilling, CTarget, assignable_at, base_is_text, begins_at, designated_from, filled, fills, fills_whole, landed, outside, target_at, text_fits_at, text_landed, text_stored_at, value_stored, whole_at, whole_target}
use Rattle.cx_rules.specs.Types.{has_size, is_array, is_function}

-- what was placed so far: what is stored, where the next value stands, and for each part in post-order the rule that it breaks, if it
-- breaks one
pub record CPlacing : Type 0 where
  pub filling : CFilling
  pub rules : List (Option Rule)

-- a part has a place or breaks K21, and what is given there may be assigned or breaks K12
abbrev pub rule_of_part : (has_place is_assignable : Bool) → Option Rule
rule_of_part true true = None
rule_of_part true false = Some K12
rule_of_part false is_assignable = Some K21

abbrev pub with_rule : Option Rule → List (Option Rule) → List (Option Rule)
with_rule rule rules = rules ++ rule ∷ []

-- ---- values (6.7.8p11, p13)

abbrev pub value_rule : CTypes → COperand → Option CAt → Option Rule
value_rule types value at = rule_of_part (is_some at) (assignable_at types value at)

-- a value that lands at a part
abbrev pub value_placed : CTypes → CTarget → COperand → CPlacing → Option CAt → CPlacing
value_placed types target value placing at = record {
  filling = filled types target at (value_stored types target value at) placing.filling;
  rules = with_rule (value_rule types value at) placing.rules;
}

abbrev pub value_given : CTypes → CTarget → Option CAt → COperand → CPlacing → CPlacing
value_given types target at value placing = value_placed types target value placing (landed types value at)

-- ---- string literals (6.7.8p14)

-- the operand that a string literal is where it fills no array: its object
abbrev pub text_operand : (bytes : List ℕ) → (number : ℕ) → TextPlace → COperand
text_operand bytes number place = a_place false (expr (text_type bytes) place (object number))

abbrev pub text_rule : List ℕ → Option CAt → Option Rule
text_rule bytes at = rule_of_part (text_fits_at bytes at) true

-- one that fills the array of characters at which it lands
abbrev pub text_placed : CTypes → CTarget → List ℕ → TextPlace → CPlacing → Option CAt → CPlacing
text_placed types target bytes place placing at = record {
  filling = filled types target at (text_stored_at types place target bytes at) placing.filling;
  rules = with_rule (text_rule bytes at) placing.rules;
}

abbrev pub text_given : CTypes → CTarget → Option CAt → List ℕ → ℕ → TextPlace → CPlacing → CPlacing
text_given types target at bytes number place placing =
    if fills types at then text_placed types target bytes place placing (text_landed types at)
    else value_given types target at (text_operand bytes number place) placing

-- ---- designators (6.7.8p6, p7, p18)

-- where designators have led, and the rules of the parts so far
pub record CLed : Type 0 where
  pub at : Option CAt
  pub rules : List (Option Rule)

abbrev pub step_at : CTypes → Option CAt → To → Option CAt
step_at types at (Index number) = element_at types at (Some number)
step_at types at (Field name) = member_at types at name

abbrev pub led_to : List (Option Rule) → Option CAt → CLed
led_to rules at = record { at = at; rules = with_rule (rule_of_part (is_some at) true) rules }

abbrev pub step_led : CTypes → CLed → To → CLed
step_led types led to = led_to led.rules (step_at types led.at to)

abbrev pub leads : CTypes → List To → CLed → CLed
leads types [] led = led
leads types (to ∷ others) led = leads types others (step_led types led to)

-- where an entry stands: where its designators lead, or else behind the entry before
abbrev pub entry_led : CTypes → CTarget → CPlacing → List To → CLed
entry_led types target placing [] = record { at = placing.filling.next; rules = placing.rules }
entry_led types target placing (to ∷ others) = leads types (to ∷ others) (record { at = designated_from target; rules = placing.rules })

abbrev pub at_entry : CPlacing → CLed → CPlacing
at_entry placing led = record { filling = placing.filling; rules = led.rules }

-- ---- lists in braces (6.7.8p14, p16 to p21)

-- one that holds one string literal, without designator, may stand for the literal
abbrev pub is_direct : List To → Bool
is_direct [] = true
is_direct (to ∷ others) = false

abbrev pub is_text : CGiven → Bool
is_text (given_value one) = false
is_text (given_text bytes number place) = true
is_text (given_list inner) = false

abbrev pub holds_text : CEntries → Bool
holds_text no_entries = false
holds_text (more_entries at given no_entries) = is_direct at && is_text given
holds_text (more_entries at given (more_entries next more others)) = false

abbrev pub list_start : CTypes → CTarget → Bool → List CStored → CFilling
list_start types target is_text stored =
    if is_text then record { stored = outside target.base stored; next = whole_at target }
    else begins_at types target (outside target.base stored)

abbrev pub list_begun : CTypes → CTarget → CEntries → CPlacing → CPlacing
list_begun types target entries placing = record {
  filling = list_start types target (base_is_text target.base && holds_text entries) placing.filling.stored;
  rules = placing.rules;
}

-- the list is a part, too, which breaks no rule by itself; the next value stands behind it
abbrev pub list_ended : CTypes → CTarget → Option CAt → CPlacing → CPlacing
list_ended types target at inner = record {
  filling = filled types target at [] inner.filling;
  rules = with_rule None inner.rules;
}

abbrev mutual
  -- what is given for a part
  pub given_placed : CTypes → CTarget → Option CAt → CGiven → CPlacing → CPlacing
  given_placed types target at (given_value one) placing = value_given types target at (a_value one) placing
  given_placed types target at (given_text bytes number place) placing = text_given types target at bytes number place placing
  given_placed types target at (given_list entries) placing =
      list_ended types target at (entries_placed types (target_at target at) entries (list_begun types (target_at target at) entries placing))

  pub entries_placed : CTypes → CTarget → CEntries → CPlacing → CPlacing
  entries_placed types target no_entries placing = placing
  entries_placed types target (more_entries at given others) placing =
      entries_placed types target others (given_placed types target (entry_led types target placing at).at given (at_entry placing (entry_led types target placing at)))

-- ---- the whole (6.7.8p11 to p16)

-- what is stored in a whole object, and the rules of the parts
pub record CWhole : Type 0 where
  pub stored : List CStored
  pub rules : List (Option Rule)

abbrev pub nothing_placed : CPlacing
nothing_placed = record { filling = record { stored = []; next = None }; rules = [] }

-- an initialiser may stand for an object of complete type or of array type (6.7.8p3)
abbrev pub may_be_initialised : CTypes → CTy → Bool
may_be_initialised types type = not (is_function type) && (has_size types type || is_array type)

abbrev pub object_target : CTypes → CTy → CTarget
object_target types type = whole_target false (if may_be_initialised types type then Some type else None)

abbrev pub whole_value : CTypes → CTarget → COperand → CWhole
whole_value types target value = record {
  stored = value_stored types target value (whole_at target);
  rules = value_rule types value (whole_at target) ∷ [];
}

abbrev pub whole_text : CTypes → CTarget → List ℕ → TextPlace → CWhole
whole_text types target bytes place = record {
  stored = text_stored_at types place target bytes (whole_at target);
  rules = text_rule bytes (whole_at target) ∷ [];
}

abbrev pub whole_list : CPlacing → CWhole
whole_list placing = record { stored = placing.filling.stored; rules = with_rule None placing.rules }

-- a value that isn't in braces is for the whole object
abbrev pub whole_placed : CTypes → CTarget → CGiven → CWhole
whole_placed types target (given_value one) = whole_value types target (a_value one)
whole_placed types target (given_text bytes number place) =
    if fills_whole target then whole_text types target bytes place
    else whole_value types target (text_operand bytes number place)
whole_placed types target (given_list entries) =
    whole_list (entries_placed types target entries (list_begun types target entries nothing_placed))

abbrev pub placed : CTypes → CTy → CGiven → CWhole
placed types type given = whole_placed types (object_target types type) given

-- the puts of an initialiser for an object of a type, in the order of their places
abbrev pub puts_placed : CTypes → CTy → CGiven → CPuts
puts_placed types type given = puts_of types type (placed types type given).stored

abbrev pub first_from : ℕ → List (Option Rule) → Option BrokenPart
first_from number [] = None
first_from number (None ∷ others) = first_from (suc number) others
first_from number (Some rule ∷ others) = Some (record { rule = rule; part = number })

-- the first part of an initialiser that breaks a rule
abbrev pub first_broken : CTypes → CTy → CGiven → Option BrokenPart
first_broken types type given = first_from 0 (placed types type given).rules
