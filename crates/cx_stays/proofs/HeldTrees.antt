-- Expressions under evaluation, and what a step of one leaves of memory: parts of trees.
use Rattle.std.proofs.Common.{◌≡◌, ℕ, Bool, true, false, true≢false, ◌||◌, List, [], ◌∷◌, ◌++◌, Result, Ok, Err, refl, sym, ap, ◌∙◌}
use Rattle.std.proofs.lemmas.List.Folds.{list_any-append}
use Rattle.std.specs.List.{list_any}
use Rattle.cr_base.specs.declared.refusal.Place.{Place}
use Rattle.cx_core.specs.Trees.{CTy, CExpr, expr, CForm, whole, null, object, code, load, deref, member, address, convert, unary, binary, and, or, cond, assign, assign_by, step, call, call_by, comma, literal, CExprs, no_exprs, more_exprs, put, CPuts, no_puts, more_puts}
use Rattle.cx_mean.specs.Calls.{CCalled}
use Rattle.cx_mean.specs.Marks.{Marks, Range, overlap, any_overlap}
use Rattle.cx_mean.specs.Operands.{CWhy, COperand}
use Rattle.cx_mean.specs.Steps.{CDid, did, asks_call, CStepped, at_node, outcome_of, inside}
use Rattle.cx_mean.specs.Unwritten.{Avoids, KeepsBeside}
use Rattle.cx_mean.specs.Work.{CWork, finished, needs, chooses, tests, carries, updates, fills, waits, CWorks, no_works, more_works, begun, begun_form, all_begun, carried, filled}
use Rattle.cx_mean.proofs.Kept.{Covers, avoids_first, avoids_second}
use Rattle.cx_mean.proofs.KeptNodes.{IfGiven, IsHeldValue}
use Rattle.cx_mean.proofs.KeptWork.{writes_of}
use Rattle.mem_bytes.specs.Laws.{HoldsCells}
use Rattle.mem_bytes.specs.Memory.{Blocks}

-- ---- ranges

pub avoids_both : (first second : List Range) (range : Range) → Avoids first range → Avoids second range → Avoids (first ++ second) range
avoids_both first second range one other =
    list_any-append (λ (each : Range). list_any (overlap each) (range ∷ [])) first second
    ∙ ap (λ (test : Bool). test || any_overlap second (range ∷ [])) one ∙ other

-- nothing changed, whatever was written
pub keeps_all : (ranges : List Range) (memory : Blocks) → KeepsBeside ranges memory memory
keeps_all ranges memory = record {
  cells = λ at count is. refl;
  values = λ at kind is. refl;
  records = λ at size align is. refl;
  fields = λ at bit width place is. refl;
}

pub keeps_wider : (large small : List Range) (before after : Blocks) → Covers large small → KeepsBeside small before after → KeepsBeside large before after
keeps_wider large small before after covers stays = record {
  cells = λ at count is. stays.cells at count (covers _ is);
  values = λ at kind is. stays.values at kind (covers _ is);
  records = λ at size align is. stays.records at size align (covers _ is);
  fields = λ at bit width place is. stays.fields at bit width place (covers _ is);
}

-- ---- trees

-- a node that has no operands
abbrev pub takes_none : CForm → Bool
takes_none (literal number puts) = true
takes_none form = false

abbrev pub node_takes_none : CExpr → Bool
node_takes_none (expr type place form) = takes_none form

abbrev mutual
  -- a tree whose finished operands have the cells of a machine, and whose compound literals have no operands
  pub IsHeldWork : CWork → Type 0
  IsHeldWork (finished operand) = IsHeldValue operand.value
  IsHeldWork (needs node operands) = (node_takes_none node ≡ true → operands ≡ no_works) × AreHeldWorks operands
  IsHeldWork (chooses node first) = IsHeldWork first
  IsHeldWork (tests node marks second) = IsHeldWork second
  IsHeldWork (carries node marks part) = IsHeldWork part
  IsHeldWork (updates node update stage marks) = Unit {0}
  IsHeldWork (fills node marks one others value) = IsHeldWork value
  IsHeldWork (waits node marks) = Unit {0}

  pub AreHeldWorks : CWorks → Type 0
  AreHeldWorks no_works = Unit {0}
  AreHeldWorks (more_works first others) = IsHeldWork first × AreHeldWorks others

-- finished operands
abbrev pub AllHeld : List COperand → Type 0
AllHeld [] = Unit {0}
AllHeld (first ∷ others) = IsHeldValue first.value × AllHeld others

works_held : (e : CExpr) (works : CWorks) → node_takes_none e ≡ false → AreHeldWorks works → IsHeldWork (needs e works)
works_held e works takes are = (λ none. absurd (true≢false (sym none ∙ takes)), are)

mutual
  pub begun_held : (e : CExpr) → IsHeldWork (begun e)
  begun_held (expr type place form) = form_held type place form

  form_held : (type : CTy) (place : Place) (form : CForm) → IsHeldWork (begun_form type place form)
  form_held type place (whole value) = tt
  form_held type place null = tt
  form_held type place (object number) = tt
  form_held type place (code number) = tt
  form_held type place (load from) = works_held (expr type place (load from)) _ refl (begun_held from, tt)
  form_held type place (deref from) = works_held (expr type place (deref from)) _ refl (begun_held from, tt)
  form_held type place (member of spot) = works_held (expr type place (member of spot)) _ refl (begun_held of, tt)
  form_held type place (address of) = works_held (expr type place (address of)) _ refl (begun_held of, tt)
  form_held type place (convert value) = works_held (expr type place (convert value)) _ refl (begun_held value, tt)
  form_held type place (unary op value) = works_held (expr type place (unary op value)) _ refl (begun_held value, tt)
  form_held type place (binary op left right) = works_held (expr type place (binary op left right)) _ refl (begun_held left, (begun_held right, tt))
  form_held type place (and left right) = begun_held left
  form_held type place (or left right) = begun_held left
  form_held type place (cond test first second) = begun_held test
  form_held type place (assign target value) = works_held (expr type place (assign target value)) _ refl (begun_held target, (begun_held value, tt))
  form_held type place (assign_by op computes target value) = works_held (expr type place (assign_by op computes target value)) _ refl (begun_held target, (begun_held value, tt))
  form_held type place (step up post on) = works_held (expr type place (step up post on)) _ refl (begun_held on, tt)
  form_held type place (call callee args) = works_held (expr type place (call callee args)) _ refl (args_held args)
  form_held type place (call_by callee args) = works_held (expr type place (call_by callee args)) _ refl (begun_held callee, args_held args)
  form_held type place (comma first second) = begun_held first
  form_held type place (literal number puts) = (λ none. refl, tt)

  args_held : (args : CExprs) → AreHeldWorks (all_begun args)
  args_held no_exprs = tt
  args_held (more_exprs first others) = (begun_held first, args_held others)

-- ---- a step

-- a step that was taken where these ranges had been written
pub record Moved (written : List Range) (blocks : Blocks) (next : CWork) (after : Blocks) : Type 0 where
  pub stays : KeepsBeside (writes_of next) blocks after
  pub covers : Covers (writes_of next) written
  pub held : HoldsCells after
  pub work_is : IsHeldWork next

-- a step that calls a function, and waits
pub record Asked (written : List Range) (called : CCalled) (work : CWork) : Type 0 where
  pub args : AllHeld called.args
  pub covers : Covers (writes_of work) written
  pub work_is : IsHeldWork work

abbrev pub StepKept : List Range → Blocks → CStepped → Type 0
StepKept written blocks (Ok (did next after)) = Moved written blocks next after
StepKept written blocks (Ok (asks_call called work)) = Asked written called work
StepKept written blocks (Err fault) = Unit {0}

-- the same before its place is told
abbrev pub GivenKept : List Range → Blocks → Result CDid CWhy → Type 0
GivenKept written blocks (Ok (did next after)) = Moved written blocks next after
GivenKept written blocks (Ok (asks_call called work)) = Asked written called work
GivenKept written blocks (Err why) = Unit {0}

pub at_node_kept : (written : List Range) (blocks : Blocks) (place : Place) (outcome : Result CDid CWhy) → GivenKept written blocks outcome → StepKept written blocks (at_node place outcome)
at_node_kept written blocks place (Ok (did next after)) is = is
at_node_kept written blocks place (Ok (asks_call called work)) is = is
at_node_kept written blocks place (Err why) is = tt

pub outcome_kept : {A : Type 0} (P : A → Type 0) (written : List Range) (blocks : Blocks) (make : A → CDid) (outcome : Result A CWhy) → IfGiven P outcome → ((one : A) → P one → GivenKept written blocks (Ok (make one))) →
    GivenKept written blocks (outcome_of make outcome)
outcome_kept P written blocks make (Ok one) is all = all one is
outcome_kept P written blocks make (Err why) is all = tt

-- of which nothing has to be known
abbrev pub Anything : {A : Type 0} → A → Type 0
Anything value = Unit {0}

pub given_anything : {A E : Type 0} (outcome : Result A E) → IfGiven Anything outcome
given_anything (Ok value) = tt
given_anything (Err why) = tt

-- a step that leaves memory as it is
pub unchanged : (written : List Range) (blocks : Blocks) (next : CWork) → Covers (writes_of next) written → HoldsCells blocks → IsHeldWork next → Moved written blocks next blocks
unchanged written blocks next covers held is = record { stays = keeps_all (writes_of next) blocks; covers = covers; held = held; work_is = is }

-- ---- the chosen part, and the puts of a literal

pub carried_writes : (node : CExpr) (marks : Marks) (part : CWork) → writes_of (carried node marks part) ≡ marks.writes ++ writes_of part
carried_writes node marks (finished operand) = refl
carried_writes node marks (needs e operands) = refl
carried_writes node marks (chooses e first) = refl
carried_writes node marks (tests e more second) = refl
carried_writes node marks (carries e more inner) = refl
carried_writes node marks (updates e update stage more) = refl
carried_writes node marks (fills e more one others value) = refl
carried_writes node marks (waits e more) = refl

pub carried_held : (node : CExpr) (marks : Marks) (part : CWork) → IsHeldWork part → IsHeldWork (carried node marks part)
carried_held node marks (finished operand) is = is
carried_held node marks (needs e operands) is = is
carried_held node marks (chooses e first) is = is
carried_held node marks (tests e more second) is = is
carried_held node marks (carries e more inner) is = is
carried_held node marks (updates e update stage more) is = is
carried_held node marks (fills e more one others value) is = is
carried_held node marks (waits e more) is = is

pub filled_covers : (node : CExpr) (number : ℕ) (marks : Marks) (puts : CPuts) → Covers (writes_of (filled node number marks puts)) marks.writes
filled_covers node number marks no_puts range avoids = avoids
filled_covers node number marks (more_puts (put spot type value) others) range avoids = avoids_first marks.writes (writes_of (begun value)) range avoids

pub filled_held : (node : CExpr) (number : ℕ) (marks : Marks) (puts : CPuts) → IsHeldWork (filled node number marks puts)
filled_held node number marks no_puts = tt
filled_held node number marks (more_puts (put spot type value) others) = begun_held value

-- ---- a part of a tree

pub inside_kept : (around : CWork → CWork) (written outer : List Range) (blocks : Blocks) (outcome : CStepped) →
    ((next : CWork) → Covers (writes_of (around next)) (writes_of next)) →
    ((next : CWork) → Covers (writes_of next) written → Covers (writes_of (around next)) outer) →
    ((next : CWork) → IsHeldWork next → IsHeldWork (around next)) →
    StepKept written blocks outcome → StepKept outer blocks (inside around outcome)
inside_kept around written outer blocks (Ok (did next after)) within without held_in is = record {
  stays = keeps_wider (writes_of (around next)) (writes_of next) blocks after (within next) is.stays;
  covers = without next is.covers;
  held = is.held;
  work_is = held_in next is.work_is;
}
inside_kept around written outer blocks (Ok (asks_call called work)) within without held_in is =
    record { args = is.args; covers = without work is.covers; work_is = held_in work is.work_is }
inside_kept around written outer blocks (Err fault) within without held_in is = tt

-- behind other marks
pub behind_marks : (marks : List Range) (next written : List Range) → Covers next written → Covers (marks ++ next) (marks ++ written)
behind_marks marks next written covers range avoids =
    avoids_both marks written range (avoids_first marks next range avoids) (covers range (avoids_second marks next range avoids))
