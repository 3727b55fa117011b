-- The walk over initialisers, form by form (ISO C99, 6.7.8).
use Rattle.std.proofs.Common.{◌≡◌, inl, inr, ⊎_elim, ℕ, ◌<◌, Bool, true, false, ◌&&◌, if◌then◌else◌, List, [], ◌∷◌, length, Option, None, Some, option_map, is_some, refl, sym, subst, arith}
use Rattle.std.specs.Prelude.{IsSome, IfSome}
use Rattle.std.specs.Option.{option_and_then}
use Rattle.cx_core.specs.Trees.{CTy, ty, void, basic, enum_type, pointer, array, record_type, function, form_of_type, CTypes}
use Rattle.cx_rules.proofs.NodesAgree.{s_value_given, s_text_given, s_whole_given, s_whole_text, s_entries_walk, s_element_seen, s_member_designated, s_list_given, s_list_walk}
use Rattle.cx_rules.specs.Initial.{CAt, whole_of, CStored, joined_bytes, landed_at, of_type, of_text, first_at, element_at}
use Rattle.cx_rules.specs.Lines.{own_line, expr_line}
use Rattle.cx_rules.specs.Operands.{COperand, value_type, value_of, constant_of}
use Rattle.cx_rules.specs.Pieces.{CTarget, CFilling, whole_target, inside, from_whole, outside, with_more, bytes_stored, at_line, is_text, text_parts, fills, list_start, holds_text, base_is_text, begins_at, target_at, designated_from}
use Rattle.cx_rules.specs.Readings.{Seen, seen_gives, seen_chain, seen_here, seen_becomes, seen_look}
use Rattle.cx_rules.specs.Scope.{CScope}
use Rattle.cx_rules.specs.Types.{int_type, is_character_array}
use Rattle.cx_rules.specs.Walk as walk
use Rattle.cx_tree.specs.Trees.{ExprTree, Text, InitialiserTree, Single, Braced, InitialiserListTree, InitialiserList, EntryTree, Entry, EntryTrees, no_entries, more_entries, DesignatorTree, Element, Member, DesignatorTrees, no_designators, more_designators}
use Rattle.cx_typed.proofs.Given.{stored_on, stored_outside, value_stores, value_some, value_placed, numbered, text_given}
use Rattle.cx_typed.proofs.Goes.{go_gives, go_here_then, go_chain, go_settled, go_changed}
use Rattle.cx_typed.proofs.Named.{text_goes, joined_some}
use Rattle.cx_typed.proofs.Paths.{is_part_on, placed_on, opened_at_on, placed_whole, first_placed, next_placed, landed_placed, element_placed, member_placed, first_opened, inner_some, element_opened, member_opened}
use Rattle.cx_typed.proofs.Promoted.{not_not}
use Rattle.cx_typed.proofs.Same.{both}
use Rattle.cx_typed.proofs.Scopes.{grows_not, grows_on, stays_itself}
use Rattle.cx_typed.proofs.Walked.{makes_nothing}
use Rattle.cx_typed.specs.Growth.{Grows}
use Rattle.cx_typed.specs.Initialised.{CWhole, IsKnownWhole, IsPart, IsPlaced, AreStored, IsFilling, IsDesignated, IsTarget, IsOpened, IsOpenedAt, IsListed, IsEntered, IsGiven, IsStep, IsLed, IsInitialised, InitialiserGoes, NothingToFill, ListGoes, EntriesGo, EntryGoes, GivenGoes, DesignatorGoes, DesignatorsGo}
use Rattle.cx_typed.specs.Walked.{IsGood, Ends, IsExpr, ExprGoes}

-- ---- rules of the walk

go_either : (A : Type 0) (test : Bool) (one other : Seen A) (scope : CScope) (Post : A → CScope → Type 0) → (test ≡ true → Ends one scope Post) → (test ≡ false → Ends other scope Post)
    → Ends (walk.either Seen seen_gives seen_chain seen_here seen_becomes seen_look {A = A} test one other) scope Post
go_either A true one other scope Post first second = first refl
go_either A false one other scope Post first second = second refl

-- ---- targets

base_on : (opens : List ℕ) (before after : CTypes) → Grows opens before after → (whole : CTy) (base : Option CAt) → IfSome base (IsPart before whole) → IfSome base (IsPart after whole)
base_on opens before after grows whole None held = tt
base_on opens before after grows whole (Some one) held = is_part_on opens before after grows whole one held

target_on : (opens : List ℕ) (before after : CTypes) → Grows opens before after → (whole : CWhole) (target : CTarget) → IsTarget before whole target → IsTarget after whole target
target_on opens before after grows whole target held = record { is_static = held.is_static; base = base_on opens before after grows whole.type target.base held.base }

-- ---- what is given for a part (6.7.8p13)

module _ (opens : List ℕ) (whole : CWhole) (target : CTarget) (at : Option CAt) (filling : CFilling) (before start : CScope) (goal : IsTarget start.types whole target)
    (held : IsDesignated opens whole target before filling.stored at start) (line : ℕ)
  where
    value_goes : (tree : ExprTree) (value : COperand) (after : CScope) → IsExpr opens tree start value after → Ends (s_value_given line target at filling value) after (IsGiven opens whole target before start at)
    value_goes tree value after expr =
        let where_is = option_and_then (landed_at after.types (of_type (value_type value))) at in
        let placed = landed_placed after.types whole.type target.is_static (of_type (value_type value)) target.base at (placed_on opens start.types after.types expr.passes.grows whole.type target at held.at_is) in
        go_here_then _ _ after _ (go_settled _ after line _ _ after _ (λ unbroken. record {
          goes = expr.passes.grows;
          filling = record {
            stored = value_stores opens whole before start after tree value expr filling.stored held.stored target.is_static goal.is_static target.base where_is placed unbroken;
            next = next_placed after.types whole.type target.is_static target.base where_is (base_on opens start.types after.types expr.passes.grows whole.type target.base goal.base) placed;
          };
          some = value_some opens whole before start after tree value expr filling.stored held.stored target.is_static goal.is_static target.base where_is placed unbroken;
          placed = inner_some after.types (landed_at after.types (of_type (value_type value))) at
              (value_placed opens whole before start after tree value expr filling.stored held.stored target.is_static goal.is_static target.base where_is unbroken);
        }))

    text_goes_in : (parts : List (List ℕ)) → Ends (s_text_given line target at filling parts) start (IsGiven opens whole target before start at)
    text_goes_in parts =
        let where_is = option_and_then (landed_at start.types of_text) at in
        let placed = landed_placed start.types whole.type target.is_static of_text target.base at held.at_is in
        go_here_then _ _ start _ (go_either _ (fills start.types at) _ _ start _
        (λ is.
        let given = text_given opens whole before start filling.stored held.stored line (joined_bytes parts) (joined_some parts) target.is_static target.base where_is placed is in
        go_changed _ start line _ _ _ start _ (λ unbroken. record {
          goes = grows_not opens start.types;
          filling = record {
            stored = given.stores;
            next = next_placed start.types whole.type target.is_static target.base where_is goal.base placed;
          };
          some = given.some_are;
          placed = inner_some start.types (landed_at start.types of_text) at given.there;
        }))
        (λ fails.
        go_chain _ _ _ _ start (IsExpr opens (Text parts (line ∷ [])) start) _ (text_goes parts (line ∷ []) opens start held.stored.good) (λ value after expr. value_goes (Text parts (line ∷ [])) value after expr)))

pub given_goes : (value : ExprTree) → ExprGoes value → GivenGoes (Single value)
given_goes value first opens whole target at filling before start goal held =
    go_either _ (is_text value) _ _ start _ (λ is. text_goes_in opens whole target at filling before start goal held (expr_line value) (text_parts value))
    (λ fails.
    go_chain _ _ _ _ start (IsExpr opens value start) _ (first opens start held.stored.good) (λ one after expr.
    value_goes opens whole target at filling before start goal held (expr_line value) value one after expr))

-- ---- a list in braces for a part

list_given_is : (opens : List ℕ) (whole : CWhole) (target : CTarget) (at : Option CAt) (filling : CFilling) (before start after : CScope) (stored : List CStored) → IsTarget after.types whole target
    → IsPlaced after.types whole.type target at → IsListed opens whole (target_at target at) before start stored after → IsSome at → Ends (s_list_given target at filling stored) after (IsGiven opens whole target before start at)
list_given_is opens whole target at filling before start after stored goal placed listed there =
    go_here_then _ _ after _ (go_gives _ after _ (record {
      goes = listed.goes;
      filling = record { stored = listed.stored; next = next_placed after.types whole.type target.is_static target.base at goal.base placed };
      some = listed.some;
      placed = there;
    }))

from_some : (base at : Option CAt) → IsSome (from_whole base at) → IsSome at
from_some None at is = absurd cc
from_some (Some base) None is = absurd cc
from_some (Some base) (Some at) is = refl

pub given_list_goes : (list : InitialiserListTree) → ListGoes list → GivenGoes (Braced list)
given_list_goes list first opens whole target at filling before start goal held =
    go_chain _ _ _ _ start (IsListed opens whole (target_at target at) before start) _
    (first opens whole (target_at target at) filling.stored before start (record { is_static = goal.is_static; base = held.at_is.part }) held.stored) (λ stored after listed.
    list_given_is opens whole target at filling before start after stored (target_on opens start.types after.types listed.goes whole target goal)
    (placed_on opens start.types after.types listed.goes whole.type target at held.at_is) listed (from_some target.base at listed.based))

-- ---- designators (6.7.8p6, p7)

module _ (opens : List ℕ) (whole : CWhole) (target : CTarget) (at : Option CAt) (stored : List CStored) (before start : CScope) (held : IsDesignated opens whole target before stored at start) where
  some_there : (found : Option CAt) → (is_some found ≡ false → ⊥) → IsSome found
  some_there None not_none = absurd (not_none refl)
  some_there (Some one) not_none = refl

  pub element_goes_by : (tree : ExprTree) (line : ℕ) (index : COperand) (after : CScope) → IsExpr opens tree start index after → Ends (s_element_seen line at index) after (IsStep opens whole target before start stored at)
  element_goes_by tree line index after expr =
      let number = constant_of after.types (value_of index) in
      let found = element_at after.types at number in
      let placed = placed_on opens start.types after.types expr.passes.grows whole.type target at held.at_is in
      go_here_then _ _ after _ (go_settled _ after line _ _ after _ (λ unbroken.
      let there = element_opened after.types at number (not_not unbroken.k21) in
      record {
        goes = expr.passes.grows;
        designated = record {
          stored = stored_on opens whole before start after stored held.stored expr.passes expr.good expr.made;
          at_is = element_placed after.types whole.type target.is_static target.base at number placed;
        };
        placed = there.0;
        opened = there.1;
      }))

  pub member_goes_by : (line : ℕ) (name : List ℕ) → Ends (s_member_designated line at name) start (IsStep opens whole target before start stored at)
  member_goes_by line name =
      go_here_then _ _ start _ (go_settled _ start line _ _ start _ (λ unbroken.
      let there = member_opened start.types at name (not_not unbroken.k21) in
      record {
        goes = grows_not opens start.types;
        designated = record { stored = held.stored; at_is = member_placed start.types whole.type target.is_static target.base at name held.at_is };
        placed = there.0;
        opened = there.1;
      }))

pub element_goes : (index : ExprTree) (lines : List ℕ) → ExprGoes index → DesignatorGoes (Element index lines)
element_goes index lines first opens whole target at stored before start goal held =
    go_chain _ _ _ _ start (IsExpr opens index start) _ (first opens start held.stored.good) (λ one after expr.
    element_goes_by opens whole target at stored before start held index (own_line lines) one after expr)

pub member_goes : (name lines : List ℕ) → DesignatorGoes (Member name lines)
member_goes name lines opens whole target at stored before start goal held = member_goes_by opens whole target at stored before start held (own_line lines) name

pub no_more_goes : DesignatorsGo no_designators
no_more_goes opens whole target at stored before start goal held = go_gives at start _ (record { goes = grows_not opens start.types; designated = held })

pub more_designators_go : (first : DesignatorTree) (others : DesignatorTrees) → DesignatorGoes first → DesignatorsGo others → DesignatorsGo (more_designators first others)
more_designators_go first others one more opens whole target at stored before start goal held =
    go_chain _ _ _ _ start (IsStep opens whole target before start stored at) _ (one opens whole target at stored before start goal held) (λ next middle step.
    record {
      ends = λ fine.
          let last = (more opens whole target next stored before middle (target_on opens start.types middle.types step.goes whole target goal) step.designated).ends fine in
          record { goes = grows_on opens start.types middle.types _ step.goes last.goes; designated = last.designated };
    })

-- ---- entries

pub entry_goes : (init : InitialiserTree) (lines : List ℕ) → GivenGoes init → EntryGoes (Entry no_designators init lines)
entry_goes init lines first opens whole target filling before start goal held = record {
  ends = λ fine.
      let given = (first opens whole target filling.next filling before start goal (record { stored = held.stored; at_is = held.next })).ends fine in
      record { goes = given.goes; filling = given.filling; some = given.some; based = held.next.based given.placed; opened = inl given.placed };
}

opened_base : (types : CTypes) (base : Option CAt) → IsOpenedAt types (option_map (λ one. whole_of one.type) base) → IsOpenedAt types base
opened_base types None held = tt
opened_base types (Some one) held = held

map_some : {X Y : Type 0} (f : X → Y) (found : Option X) → IsSome (option_map f found) → IsSome found
map_some f None is = absurd cc
map_some f (Some x) is = refl

pub designated_goes : (first : DesignatorTree) (others : DesignatorTrees) (init : InitialiserTree) (lines : List ℕ) → DesignatorGoes first → DesignatorsGo others → GivenGoes init
    → EntryGoes (Entry (more_designators first others) init lines)
designated_goes first others init lines one more last opens whole target filling before start goal held =
    go_chain _ _ _ _ start (IsStep opens whole target before start filling.stored (designated_from target)) _
    (one opens whole target (designated_from target) filling.stored before start goal
    (record { stored = held.stored; at_is = placed_whole start.types whole.type target.is_static target.base goal.base })) (λ at middle step.
    let middle_goal = target_on opens start.types middle.types step.goes whole target goal in
    go_chain _ _ _ _ middle (IsLed opens whole target before middle filling.stored) _ (more opens whole target at filling.stored before middle middle_goal step.designated) (λ end later led.
    record {
      ends = λ fine.
          let given = (last opens whole target end filling before later (target_on opens middle.types later.types led.goes whole target middle_goal) led.designated).ends fine in
          let grows = grows_on opens middle.types later.types _ led.goes given.goes in
          record {
            goes = grows_on opens start.types middle.types _ step.goes grows;
            filling = given.filling;
            some = given.some;
            based = map_some (λ base. whole_of base.type) target.base step.placed;
            opened = inr (opened_at_on opens middle.types _ grows target.base (opened_base middle.types target.base step.opened));
          };
    }))

pub no_entries_go : EntriesGo no_entries
no_entries_go opens whole target filling before start goal held = go_gives filling.stored start _ (record { goes = grows_not opens start.types; stored = held.stored; some = λ some. some })

pub more_entries_go : (first : EntryTree) (others : EntryTrees) → EntryGoes first → EntriesGo others → EntriesGo (more_entries first others)
more_entries_go first others one more opens whole target filling before start goal held =
    go_chain _ _ _ _ start (IsEntered opens whole target before start filling) _ (one opens whole target filling before start goal held) (λ next middle entered.
    record {
      ends = λ fine.
          let last = (more opens whole target next before middle (target_on opens start.types middle.types entered.goes whole target goal) entered.filling).ends fine in
          record { goes = grows_on opens start.types middle.types _ entered.goes last.goes; stored = last.stored; some = λ some. last.some entered.some };
    })

-- ---- lists

record IsListBegun (opens : List ℕ) (whole : CWhole) (target : CTarget) (before start : CScope) (filling : CFilling) (after : CScope) : Type 0 where
  same : after ≡ start
  filling_is : IsFilling opens whole target before filling start
  opened : IsSome filling.next → IsOpenedAt start.types target.base

text_opened : (types : CTypes) (base : Option CAt) → base_is_text base ≡ true → IsOpenedAt types base
text_opened types None is = tt
text_opened types (Some one) is = by_form one.type is
  where
    by_form : (type : CTy) → is_character_array (form_of_type type) ≡ true → IsOpened types type
    by_form (ty (array element count) is_const) is = tt
    by_form (ty void is_const) is = tt
    by_form (ty (basic which) is_const) is = tt
    by_form (ty (enum_type number) is_const) is = tt
    by_form (ty (pointer to) is_const) is = tt
    by_form (ty (record_type number) is_const) is = absurd cc
    by_form (ty (function result params variadic) is_const) is = tt

begins_opened : (types : CTypes) (base : Option CAt) → IsSome (option_and_then (λ one. first_at types one.type) base) → IsOpenedAt types base
begins_opened types None is = tt
begins_opened types (Some one) is = first_opened types one.type is

module _ (opens : List ℕ) (whole : CWhole) (target : CTarget) (stored : List CStored) (before start : CScope) (goal : IsTarget start.types whole target) (held : AreStored opens whole before stored start) where
  start_by : (test : Bool) → (test ≡ true → base_is_text target.base ≡ true)
      → IsListBegun opens whole target before start
      (if test then record { stored = outside target.base stored; next = option_map (λ base. whole_of base.type) target.base } else begins_at start.types target (outside target.base stored)) start
  start_by true is_text = record {
    same = refl;
    filling_is = record {
      stored = stored_outside opens whole before start target.base stored held;
      next = placed_whole start.types whole.type target.is_static target.base goal.base;
    };
    opened = λ some. text_opened start.types target.base (is_text refl);
  }
  start_by false is_text = record {
    same = refl;
    filling_is = record {
      stored = stored_outside opens whole before start target.base stored held;
      next = first_placed start.types whole.type target.is_static target.base goal.base;
    };
    opened = λ some. begins_opened start.types target.base some;
  }

  list_begun : (entries : EntryTrees) → IsListBegun opens whole target before start (list_start start.types target entries stored) start
  list_begun entries = start_by (base_is_text target.base && holds_text entries) (λ is. (both is).0)

pub list_goes : (first : EntryTree) (others : EntryTrees) (last_comma : Bool) (lines : List ℕ) → EntryGoes first → EntriesGo others → ListGoes (InitialiserList (more_entries first others) last_comma lines)
list_goes first others last_comma lines one more opens whole target stored before start goal held =
    go_chain _ _ _ _ start (IsListBegun opens whole target before start) _
    (go_here_then _ _ start _ (go_gives _ start _ (list_begun opens whole target stored before start goal held (more_entries first others)))) (λ filling begins begun.
    subst (λ scope. Ends (s_entries_walk target filling (more_entries first others)) scope (IsListed opens whole target before start)) (sym begun.same)
    (go_chain _ _ _ _ start (IsEntered opens whole target before start filling) _ (one opens whole target filling before start goal begun.filling_is) (λ next middle entered.
    record {
      ends = λ fine.
          let last = (more opens whole target next before middle (target_on opens start.types middle.types entered.goes whole target goal) entered.filling).ends fine in
          record {
            goes = grows_on opens start.types middle.types _ entered.goes last.goes;
            stored = last.stored;
            some = last.some entered.some;
            based = entered.based;
            opened = ⊎_elim (λ there. opened_at_on opens start.types _ (grows_on opens start.types middle.types _ entered.goes last.goes) target.base (begun.opened there))
                (λ there. opened_at_on opens middle.types _ last.goes target.base there) entered.opened;
          };
    })))

-- ---- the initialiser of a whole object (6.7.8p11 to p16)

pub stored_none : (opens : List ℕ) (whole : CWhole) (scope : CScope) → IsGood opens scope → IsKnownWhole opens scope.types scope.unit whole.type → AreStored opens whole scope [] scope
stored_none opens whole scope good held = record {
  good = good;
  passes = stays_itself opens scope;
  object = held;
  parts = tt;
  typed = λ home serves. tt;
  made = makes_nothing opens scope scope refl;
}

-- the object is a part of itself
whole_part : (types : CTypes) (type : CTy) → IsPart types type (whole_of type)
whole_part types type = record { there = refl; named = refl }

only_more : (at : CAt) (more : List CStored) → with_more (Some at) more [] ≡ more
only_more at [] = refl
only_more at (first ∷ more) = refl

module _ (opens : List ℕ) (whole : CWhole) (scope : CScope) (good : IsGood opens scope) (held : IsKnownWhole opens scope.types scope.unit whole.type) where
  abbrev target : CTarget
  target = whole_target whole.is_static (Some whole.type)

  abbrev base : CAt
  base = whole_of whole.type

  whole_value_goes : (tree : ExprTree) (line : ℕ) (value : COperand) (after : CScope) → IsExpr opens tree scope value after
      → Ends (s_whole_given line target value) after (λ filling last. IsInitialised opens whole scope filling.stored last)
  whole_value_goes tree line value after expr =
      let placed = placed_whole after.types whole.type whole.is_static (Some base) (whole_part after.types whole.type) in
      go_here_then _ _ after _ (go_settled _ after line _ _ after _ (λ unbroken. record {
        stored = value_stores opens whole scope scope after tree value expr [] (stored_none opens whole scope good held) whole.is_static refl (Some base) (Some base) placed unbroken;
        some = omega arith;
      }))

  whole_text_goes : (line : ℕ) (parts : List (List ℕ)) → Ends (s_whole_text line target parts) scope (λ filling last. IsInitialised opens whole scope filling.stored last)
  whole_text_goes line parts =
      let placed = placed_whole scope.types whole.type whole.is_static (Some base) (whole_part scope.types whole.type) in
      go_here_then _ _ scope _ (go_either _ (base_is_text (Some base)) _ _ scope _
      (λ is.
      let given = text_given opens whole scope scope [] (stored_none opens whole scope good held) line (joined_bytes parts) (joined_some parts) whole.is_static (Some base) (Some base) placed is in
      let same = only_more (inside base base) (bytes_stored scope.types (at_line scope line) (joined_bytes parts) (Some (inside base base))) in
      go_changed _ scope line _ _ _ scope _ (λ unbroken. record {
        stored = subst (λ stored. AreStored opens whole scope stored (numbered opens whole scope scope [] (stored_none opens whole scope good held) line (joined_bytes parts) (joined_some parts))) same given.stores;
        some = subst (λ stored. 0 < length stored) same given.some_are;
      }))
      (λ fails.
      go_chain _ _ _ _ scope (IsExpr opens (Text parts (line ∷ [])) scope) _ (text_goes parts (line ∷ []) opens scope good) (λ value after expr. whole_value_goes (Text parts (line ∷ [])) line value after expr)))

pub single_goes : (value : ExprTree) → ExprGoes value → InitialiserGoes (Single value)
single_goes value first opens whole scope good held =
    go_either _ (is_text value) _ _ scope _
    (λ is.
    go_chain _ _ _ _ scope (λ filling last. IsInitialised opens whole scope filling.stored last) _ (whole_text_goes opens whole scope good held (expr_line value) (text_parts value)) (λ filling last made.
    go_gives filling.stored last _ made))
    (λ fails.
    go_chain _ _ _ _ scope (IsExpr opens value scope) _ (first opens scope good) (λ one after expr.
    go_chain _ _ _ _ after (λ filling last. IsInitialised opens whole scope filling.stored last) _ (whole_value_goes opens whole scope good held value (expr_line value) one after expr) (λ filling last made.
    go_gives filling.stored last _ made)))

pub braced_goes : (list : InitialiserListTree) → ListGoes list → InitialiserGoes (Braced list)
braced_goes list first opens whole scope good held = record {
  ends = λ fine.
      let made = (first opens whole (whole_target whole.is_static (Some whole.type)) [] scope scope (record { is_static = refl; base = whole_part scope.types whole.type }) (stored_none opens whole scope good held)).ends fine in
      record { stored = made.stored; some = made.some };
}

-- ---- where there is no object

nowhere : (is_static : Bool) (line : ℕ) (value : COperand) (scope : CScope) → Ends (s_whole_given line (whole_target is_static None) value) scope (λ filling last. ⊥)
nowhere is_static line value scope = go_here_then _ _ scope _ (go_settled _ scope line _ _ scope (λ filling last. ⊥) (λ unbroken. (let h : true ≡ false = unbroken.k21 in absurd cc)))

text_nowhere : (opens : List ℕ) (is_static : Bool) (line : ℕ) (parts : List (List ℕ)) (scope : CScope) → IsGood opens scope → Ends (s_whole_text line (whole_target is_static None) parts) scope (λ filling last. ⊥)
text_nowhere opens is_static line parts scope good =
    go_here_then _ _ scope _ (go_chain _ _ _ _ scope (IsExpr opens (Text parts (line ∷ [])) scope) _ (text_goes parts (line ∷ []) opens scope good) (λ value after expr. nowhere is_static line value after))

pub single_nowhere : (value : ExprTree) → ExprGoes value → NothingToFill (Single value)
single_nowhere value first opens is_static scope good =
    go_either _ (is_text value) _ _ scope _
    (λ is. go_chain _ _ _ _ scope (λ filling last. ⊥) _ (text_nowhere opens is_static (expr_line value) (text_parts value) scope good) (λ filling last made. absurd made))
    (λ fails.
    go_chain _ _ _ _ scope (IsExpr opens value scope) _ (first opens scope good) (λ one after expr.
    go_chain _ _ _ _ after (λ filling last. ⊥) _ (nowhere is_static (expr_line value) one after) (λ filling last made. absurd made)))

pub list_nowhere : (list : InitialiserListTree) → ListGoes list → (opens : List ℕ) (is_static : Bool) (scope : CScope) → IsGood opens scope
    → Ends (s_list_walk (whole_target is_static None) [] list) scope (λ stored last. ⊥)
list_nowhere list first opens is_static scope good = record {
  ends = λ fine.
      let whole : CWhole = record { is_static = is_static; type = int_type } in
      let made = (first opens whole (whole_target is_static None) [] scope scope (record { is_static = refl; base = tt })
      (stored_none opens whole scope good (record { known = record { type_in = tt; settled = tt }; object = tt }))).ends fine in
      absurd (let h : IsSome {T = CAt} None = made.based in cc);
}

pub braced_nowhere : (list : InitialiserListTree) → ListGoes list → NothingToFill (Braced list)
braced_nowhere list first opens is_static scope good = list_nowhere list first opens is_static scope good
