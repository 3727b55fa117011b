-- What an initialiser stores stands where its values do, and the bytes of a string literal stand where the literal does (ISO C99, 6.7.8).
use Rattle.std.proofs.Common.{ℕ, ◌+◌, Bool, true, false, ◌&&◌, List, [], ◌∷◌, ◌++◌, length, Option, None, Some, option_map}
use Rattle.cr_base.specs.declared.refusal.Place.{Place as TextPlace}
use Rattle.cx_core.specs.Trees.{CTy, CTyForm, void, basic, enum_type, pointer, array, record_type, function, form_of_type, CTypes, CPuts}
use Rattle.cx_core.specs.ValidTypes.{CPart, part_at}
use Rattle.cx_placed.proofs.Lists.{Each, by_test, each_both}
use Rattle.cx_placed.proofs.Operands.{OperandStands, value_stands, fitted_stands}
use Rattle.cx_placed.specs.Places.{ExprStandsIn, PutsStandIn}
use Rattle.cx_rules.specs.Initial.{CAt, whole_of, has_element, CStored, kept_by, kept, comes_before, put_in_order, in_order, completed_type, put_at, puts_from, puts_of, byte_value, bytes_from, text_in, text_stored, text_type, text_puts}
use Rattle.cx_rules.specs.Operands.{COperand, value_of}
use Rattle.cx_rules.specs.Pieces.{CTarget, CFilling, is_within, kept_outside, outside, begins_at, from_whole, with_more, filled, stored_value, value_stored, bytes_stored, text_stored_at, holds_text, base_is_text, list_start, filled_object}
use Rattle.cx_rules.specs.Declare.{CBegun}
use Rattle.cx_rules.specs.UnitWalk.{content_of}
use Rattle.cx_tree.specs.Trees.{EntryTrees}

abbrev pub StoredStands : (ℕ → Type 0) → CStored → Type 0
StoredStands Among one = ExprStandsIn Among one.value

abbrev pub AllStoredStand : (ℕ → Type 0) → List CStored → Type 0
AllStoredStand Among stored = Each (StoredStands Among) stored

abbrev pub FillingStands : (ℕ → Type 0) → CFilling → Type 0
FillingStands Among filling = AllStoredStand Among filling.stored

module _ (Among : ℕ → Type 0) where
  -- ---- what is left of what is stored

  kept_stand : (types : CTypes) (type : CTy) (stored : List CStored) → AllStoredStand Among stored → AllStoredStand Among (kept types type stored)
  kept_stand types type [] held = tt
  kept_stand types type (one ∷ others) held =
      by_test (AllStoredStand Among) (kept_by types type others one) (one ∷ kept types type others) (kept types type others)
      (held.0, kept_stand types type others held.1) (kept_stand types type others held.1)

  put_stand : (one : CStored) (stored : List CStored) → StoredStands Among one → AllStoredStand Among stored → AllStoredStand Among (put_in_order one stored)
  put_stand one [] own held = (own, tt)
  put_stand one (first ∷ others) own held =
      by_test (AllStoredStand Among) (comes_before first.path one.path) (first ∷ put_in_order one others) (one ∷ first ∷ others)
      (held.0, put_stand one others own held.1) (own, held)

  ordered_stand : (stored : List CStored) → AllStoredStand Among stored → AllStoredStand Among (in_order stored)
  ordered_stand [] held = tt
  ordered_stand (one ∷ others) held = put_stand one (in_order others) held.0 (ordered_stand others held.1)

  put_at_stands : (one : CStored) (part : Option CPart) (puts : CPuts) → StoredStands Among one → PutsStandIn Among puts → PutsStandIn Among (put_at one part puts)
  put_at_stands one None puts own held = held
  put_at_stands one (Some part) puts own held = (own, held)

  puts_from_stand : (types : CTypes) (type : CTy) (stored : List CStored) → AllStoredStand Among stored → PutsStandIn Among (puts_from types type stored)
  puts_from_stand types type [] held = tt
  puts_from_stand types type (one ∷ others) held =
      put_at_stands one (part_at types one.path type) (puts_from types type others) held.0 (puts_from_stand types type others held.1)

  pub puts_stand : (types : CTypes) (type : CTy) (stored : List CStored) → AllStoredStand Among stored → PutsStandIn Among (puts_of types type stored)
  unfolding puts_of
  puts_stand types type stored held =
      puts_from_stand types (completed_type type stored) (in_order (kept types type stored)) (ordered_stand (kept types type stored) (kept_stand types type stored held))

  pub object_filled : (types : CTypes) (type : CTy) (stored : List CStored) → AllStoredStand Among stored → PutsStandIn Among (filled_object types type stored).puts
  object_filled types type stored held = puts_stand types type stored held

  pub content_stands : (has_init : Bool) (types : CTypes) (begun : CBegun) (stored : List CStored) → AllStoredStand Among stored
      → PutsStandIn Among (content_of has_init types begun stored).puts
  content_stands true types begun stored held = object_filled types begun.type stored held
  content_stands false types begun stored held = object_filled types begun.type [] tt

  -- ---- more is stored

  outside_stand : (part : List ℕ) (stored : List CStored) → AllStoredStand Among stored → AllStoredStand Among (kept_outside part stored)
  outside_stand part [] held = tt
  outside_stand part (one ∷ others) held =
      by_test (AllStoredStand Among) (is_within part one.path) (kept_outside part others) (one ∷ kept_outside part others)
      (outside_stand part others held.1) (held.0, outside_stand part others held.1)

  stay_outside : (at : Option CAt) (stored : List CStored) → AllStoredStand Among stored → AllStoredStand Among (outside at stored)
  stay_outside None stored held = held
  stay_outside (Some at) stored held = outside_stand at.path stored held

  more_stand : (at : Option CAt) (more stored : List CStored) → AllStoredStand Among more → AllStoredStand Among stored → AllStoredStand Among (with_more at more stored)
  more_stand at [] stored new held = held
  more_stand at (first ∷ more) stored new held = each_both (StoredStands Among) (outside at stored) (first ∷ more) (stay_outside at stored held) new

  pub filled_stands : (types : CTypes) (target : CTarget) (at : Option CAt) (more : List CStored) (filling : CFilling) → AllStoredStand Among more → FillingStands Among filling
      → FillingStands Among (filled types target at more filling)
  filled_stands types target at more filling new held = more_stand (from_whole target.base at) more filling.stored new held

  pub start_stands : (types : CTypes) (target : CTarget) (entries : EntryTrees) (stored : List CStored) → AllStoredStand Among stored
      → FillingStands Among (list_start types target entries stored)
  start_stands types target entries stored held =
      by_test (FillingStands Among) (base_is_text target.base && holds_text entries)
      (record { stored = outside target.base stored; next = option_map (λ base. whole_of base.type) target.base })
      (begins_at types target (outside target.base stored)) (stay_outside target.base stored held) (stay_outside target.base stored held)

  of_value : (types : CTypes) (value : COperand) (at : Option CAt) → OperandStands Among value → AllStoredStand Among (stored_value types value at)
  of_value types value None held = tt
  of_value types value (Some at) held = (fitted_stands Among types at.type (value_of value) (value_stands Among value held), tt)

  pub value_stored_stands : (types : CTypes) (target : CTarget) (value : COperand) (at : Option CAt) → OperandStands Among value
      → AllStoredStand Among (value_stored types target value at)
  value_stored_stands types target value at held = of_value types value (from_whole target.base at) held

  -- ---- string literals

  bytes_stand : (types : CTypes) (at : TextPlace) (where_is : CAt) (element : CTy) (length : Option ℕ) (index : ℕ) (bytes : List ℕ) → Among at.unit
      → AllStoredStand Among (bytes_from types at where_is element length index bytes)
  bytes_stand types at where_is element length index [] own = tt
  bytes_stand types at where_is element length index (byte ∷ bytes) own =
      by_test (AllStoredStand Among) (has_element types element length index)
      (record { path = where_is.path ++ index ∷ []; type = element; value = byte_value types at element byte } ∷ bytes_from types at where_is element length (index + 1) bytes) []
      ((own, tt), bytes_stand types at where_is element length (index + 1) bytes own) tt

  text_in_stands : (types : CTypes) (at : TextPlace) (where_is : CAt) (bytes : List ℕ) (form : CTyForm) → Among at.unit → AllStoredStand Among (text_in types at where_is bytes form)
  text_in_stands types at where_is bytes (array element length) own = bytes_stand types at where_is element length 0 bytes own
  text_in_stands types at where_is bytes void own = tt
  text_in_stands types at where_is bytes (basic which) own = tt
  text_in_stands types at where_is bytes (enum_type number) own = tt
  text_in_stands types at where_is bytes (pointer to) own = tt
  text_in_stands types at where_is bytes (record_type number) own = tt
  text_in_stands types at where_is bytes (function result params variadic) own = tt

  text_stored_stands : (types : CTypes) (at : TextPlace) (where_is : CAt) (bytes : List ℕ) → Among at.unit → AllStoredStand Among (text_stored types at where_is bytes)
  text_stored_stands types at where_is bytes own = text_in_stands types at where_is bytes (form_of_type where_is.type) own

  pub text_puts_stand : (types : CTypes) (at : TextPlace) (bytes : List ℕ) → Among at.unit → PutsStandIn Among (text_puts types at bytes)
  text_puts_stand types at bytes own =
      puts_stand types (text_type bytes) (text_stored types at (whole_of (text_type bytes)) bytes) (text_stored_stands types at (whole_of (text_type bytes)) bytes own)

  of_bytes : (types : CTypes) (place : TextPlace) (bytes : List ℕ) (at : Option CAt) → Among place.unit → AllStoredStand Among (bytes_stored types place bytes at)
  of_bytes types place bytes None own = tt
  of_bytes types place bytes (Some at) own = text_stored_stands types place at bytes own

  pub text_at_stands : (types : CTypes) (place : TextPlace) (target : CTarget) (bytes : List ℕ) (at : Option CAt) → Among place.unit
      → AllStoredStand Among (text_stored_at types place target bytes at)
  text_at_stands types place target bytes at own = of_bytes types place bytes (from_whole target.base at) own
