-- What stands around a part of an expression under evaluation, and leaves its steps under the empty order as they are.
use Rattle.std.proofs.Common.{◌≡◌, ℕ, ◌<◌, nat_lt, Bool, true, false, ◌&&◌, ◌||◌, true≢false, List, [], ◌∷◌, Ok, Err, refl, sym, ap, ◌∙◌, arith, T, lt→ltb}
use Rattle.cx_core.specs.Trees.{CExpr, CPut, CPuts}
use Rattle.cx_mean.specs.Marks.{Marks}
use Rattle.cx_mean.specs.Operands.{CValue, COperand, Frame}
use Rattle.cx_mean.specs.Settings.{CSetting}
use Rattle.cx_mean.specs.Steps.{did, asks_call, CStepped, inside, step_at, step_among, at_first_operand, nowhere}
use Rattle.cx_mean.specs.Work.{CWork, finished, needs, chooses, tests, carries, fills, CWorks, more_works, is_finished, are_finished, carried, one_or, ready, ready_among, is_waiting, are_waiting, resumed, all_resumed}
use Rattle.mem_bytes.specs.Memory.{Blocks}

pub record IsAround (around : CWork → CWork) : Type 0 where
  -- while the part isn't finished, the whole isn't
  pub unfinished : (work : CWork) → is_finished work ≡ false → is_finished (around work) ≡ false
  -- and the first step of the whole is that of the part, where it has a ready node
  pub steps : (setting : CSetting) (frame : Frame) (blocks : Blocks) (work : CWork) → is_finished work ≡ false → 0 < ready work →
      step_at setting frame blocks 0 (around work) ≡ inside around (step_at setting frame blocks 0 work)
  pub readies : (work : CWork) → is_finished work ≡ false → 0 < ready work → 0 < ready (around work)
  -- the value of a call for which the part waits takes its place in the part
  pub resumes : (value : CValue) (work : CWork) → is_waiting work ≡ true → resumed value (around work) ≡ around (resumed value work)
  pub waiting : (work : CWork) → is_waiting work ≡ true → is_waiting (around work) ≡ true

inside_inside : (outer inner : CWork → CWork) (outcome : CStepped) → inside outer (inside inner outcome) ≡ inside (λ work. outer (inner work)) outcome
inside_inside outer inner (Ok (did work blocks)) = refl
inside_inside outer inner (Ok (asks_call called work)) = refl
inside_inside outer inner (Err fault) = refl

inside_itself : (outcome : CStepped) → outcome ≡ inside (λ work. work) outcome
inside_itself (Ok (did work blocks)) = refl
inside_itself (Ok (asks_call called work)) = refl
inside_itself (Err fault) = refl

pub around_itself : IsAround (λ work. work)
around_itself = record {
  unfinished = λ work not. not;
  steps = λ setting frame blocks work not some. inside_itself (step_at setting frame blocks 0 work);
  readies = λ work not some. some;
  resumes = λ value work is. refl;
  waiting = λ work is. is;
}

pub around_both : (outer inner : CWork → CWork) → IsAround outer → IsAround inner → IsAround (λ work. outer (inner work))
around_both outer inner one other = record {
  unfinished = λ work not. one.unfinished (inner work) (other.unfinished work not);
  steps = λ setting frame blocks work not some.
      one.steps setting frame blocks (inner work) (other.unfinished work not) (other.readies work not some)
      ∙ (ap (λ (outcome : CStepped). inside outer outcome) (other.steps setting frame blocks work not some)
      ∙ inside_inside outer inner (step_at setting frame blocks 0 work));
  readies = λ work not some. one.readies (inner work) (other.unfinished work not) (other.readies work not some);
  resumes = λ value work is. one.resumes value (inner work) (other.waiting work is) ∙ ap outer (other.resumes value work is);
  waiting = λ work is. one.waiting (inner work) (other.waiting work is);
}

-- ---- nodes with one part that isn't finished

not_first : (node : COperand → CStepped) (within : CStepped) (work : CWork) → is_finished work ≡ false → at_first_operand node within work ≡ within
not_first node within (finished one) not = absurd (true≢false not)
not_first node within work not = refl

-- a Boolean choice by what is known
ready_first : (is_ready : Bool) (count : ℕ) → is_ready ≡ false → 0 < count → 0 < one_or is_ready count
ready_first true count not some = absurd (true≢false not)
ready_first false count not some = some

pub around_first : (node : CExpr) → IsAround (λ work. chooses node work)
around_first node = record {
  unfinished = λ work not. refl;
  steps = λ setting frame blocks work not some. not_first _ _ work not;
  readies = λ work not some. ready_first (is_finished work) (ready work) not some;
  resumes = λ value work is. refl;
  waiting = λ work is. is;
}

pub around_second : (node : CExpr) (marks : Marks) → IsAround (λ work. tests node marks work)
around_second node marks = record {
  unfinished = λ work not. refl;
  steps = λ setting frame blocks work not some. not_first _ _ work not;
  readies = λ work not some. ready_first (is_finished work) (ready work) not some;
  resumes = λ value work is. refl;
  waiting = λ work is. is;
}

pub around_put : (node : CExpr) (marks : Marks) (one : CPut) (others : CPuts) → IsAround (λ work. fills node marks one others work)
around_put node marks one others = record {
  unfinished = λ work not. refl;
  steps = λ setting frame blocks work not some. not_first _ _ work not;
  readies = λ work not some. ready_first (is_finished work) (ready work) not some;
  resumes = λ value work is. refl;
  waiting = λ work is. is;
}

-- a chosen part
carried_on : (node : CExpr) (marks : Marks) (work : CWork) → is_finished work ≡ false → carried node marks work ≡ carries node marks work
carried_on node marks (finished one) not = absurd (true≢false not)
carried_on node marks work not = refl

waiting_unfinished : (work : CWork) → is_waiting work ≡ true → is_finished work ≡ false
waiting_unfinished (finished one) is = absurd (true≢false (sym is))
waiting_unfinished work is = refl

pub around_part : (node : CExpr) (marks : Marks) → IsAround (λ work. carried node marks work)
around_part node marks = record {
  unfinished = λ work not. ap is_finished (carried_on node marks work not);
  steps = λ setting frame blocks work not some.
      ap (λ (whole : CWork). step_at setting frame blocks 0 whole) (carried_on node marks work not);
  readies = λ work not some. rw (carried_on node marks work not) some;
  resumes = λ value work is.
      ap (λ (whole : CWork). resumed value whole) (carried_on node marks work (waiting_unfinished work is));
  waiting = λ work is. ap is_waiting (carried_on node marks work (waiting_unfinished work is)) ∙ is;
}

-- ---- operands, the first ones finished

abbrev pub behind : List COperand → CWorks → CWorks
behind [] works = works
behind (one ∷ more) works = more_works (finished one) (behind more works)

-- a call that ends somewhere else changes nothing in them
abbrev pub AreQuiet : CWorks → Type 0
AreQuiet works = (value : CValue) → all_resumed value works ≡ works

behind_unfinished : (done : List COperand) (work : CWork) (others : CWorks) → is_finished work ≡ false →
    are_finished (behind done (more_works work others)) ≡ false
behind_unfinished [] work others not = ap (λ (first : Bool). first && are_finished others) not
behind_unfinished (one ∷ more) work others not = behind_unfinished more work others not

behind_ready : (done : List COperand) (work : CWork) (others : CWorks) → 0 < ready work → 0 < ready_among (behind done (more_works work others))
behind_ready [] work others some = omega (some, arith)
behind_ready (one ∷ more) work others some =
    let rest = behind_ready more work others some in omega (rest, arith)

pub chosen_by : {A : Type 0} (test : Bool) (first second : A) → test ≡ true → (elim test as (λ _. A) [ true ↦ first | false ↦ second ]) ≡ first
chosen_by true first second is = refl
chosen_by false first second is = absurd (true≢false (sym is))

chosen_not : {A : Type 0} (test : Bool) (first second : A) → test ≡ false → (elim test as (λ _. A) [ true ↦ first | false ↦ second ]) ≡ second
chosen_not true first second is = absurd (true≢false is)
chosen_not false first second is = refl

holds : (test : Bool) → T test → test ≡ true
holds true is = refl
holds false is = absurd is

behind_steps : (setting : CSetting) (frame : Frame) (blocks : Blocks) (done : List COperand) (work : CWork) (others : CWorks) (none : CStepped) (around : CWorks → CWork) →
    0 < ready work →
    step_among setting frame blocks 0 (behind done (more_works work others)) none around
    ≡ inside (λ one. around (behind done (more_works one others))) (step_at setting frame blocks 0 work)
behind_steps setting frame blocks [] work others none around some =
    chosen_by (nat_lt 0 (ready work)) _ _ (holds (nat_lt 0 (ready work)) (lt→ltb 0 (ready work) some))
behind_steps setting frame blocks (one ∷ more) work others none around some =
    behind_steps setting frame blocks more work others none (λ works. around (more_works (finished one) works)) some

behind_resumes : (value : CValue) (done : List COperand) (work : CWork) (others : CWorks) → AreQuiet others →
    all_resumed value (behind done (more_works work others)) ≡ behind done (more_works (resumed value work) others)
behind_resumes value [] work others quiet = ap (λ (works : CWorks). more_works (resumed value work) works) (quiet value)
behind_resumes value (one ∷ more) work others quiet =
    ap (λ (works : CWorks). more_works (finished one) works) (behind_resumes value more work others quiet)

behind_waits : (done : List COperand) (work : CWork) (others : CWorks) → is_waiting work ≡ true → are_waiting (behind done (more_works work others)) ≡ true
behind_waits [] work others is = ap (λ (first : Bool). first || are_waiting others) is
behind_waits (one ∷ more) work others is = behind_waits more work others is

pub around_operand : (node : CExpr) (done : List COperand) (others : CWorks) → AreQuiet others →
    IsAround (λ work. needs node (behind done (more_works work others)))
around_operand node done others quiet = record {
  unfinished = λ work not. refl;
  steps = λ setting frame blocks work not some.
      chosen_not (are_finished (behind done (more_works work others))) _ _ (behind_unfinished done work others not)
      ∙ behind_steps setting frame blocks done work others (nowhere node) (needs node) some;
  readies = λ work not some.
      ready_first (are_finished (behind done (more_works work others))) (ready_among (behind done (more_works work others)))
      (behind_unfinished done work others not) (behind_ready done work others some);
  resumes = λ value work is. ap (λ (works : CWorks). needs node works) (behind_resumes value done work others quiet);
  waiting = λ work is. behind_waits done work others is;
}
