-- Of what is told of a run, how it ended.
use Rattle.std.proofs.Common.{◌≡◌, ℕ, ℤ, List, refl}
use Rattle.cr_base.specs.declared.rule.URule.{URule}
use Rattle.rs_mean.specs.declared.cause.Cause.{Cause}
use Rattle.run_ends.specs.Told.{name_at, tale_of}
use Rattle.run_ends.specs.Told as tale
use Rattle.run_ends.specs.declared.end.End.{End}
use Rattle.run_ends.specs.declared.end.End.TheVariants as end

pub came_ended : (names : List (List ℕ)) (steps : ℕ) (by : End) (code : ℤ) → tale.ended code ≡ tale_of names steps by → by ≡ end.Ended code
came_ended names steps (end.Ended s) code e = cc
came_ended names steps (end.Undefined r u l) code e = cc
came_ended names steps (end.Wrong c) code e = cc
came_ended names steps end.StepsUsed code e = cc
came_ended names steps (end.StoreFull n l) code e = cc
came_ended names steps (end.CallRefused n) code e = cc
came_ended names steps end.HostFailed code e = cc

-- an undefined step, with its unit
pub record IsUndefinedEnd (names : List (List ℕ)) (by : End) (file : List ℕ) (line : ℕ) (rule : URule) : Type 0 where
  pub unit : ℕ
  pub end_is : by ≡ end.Undefined rule unit line
  pub file_is : file ≡ name_at names unit

pub came_undefined : (names : List (List ℕ)) (steps : ℕ) (by : End) (file : List ℕ) (line : ℕ) (rule : URule) → tale.undefined file line rule ≡ tale_of names steps by → IsUndefinedEnd names by file line rule
came_undefined names steps (end.Ended s) file line rule e = cc
came_undefined names steps (end.Undefined r u l) file line rule e = record { unit = u; end_is = cc; file_is = cc }
came_undefined names steps (end.Wrong c) file line rule e = cc
came_undefined names steps end.StepsUsed file line rule e = cc
came_undefined names steps (end.StoreFull n l) file line rule e = cc
came_undefined names steps (end.CallRefused n) file line rule e = cc
came_undefined names steps end.HostFailed file line rule e = cc

pub came_wrong : (names : List (List ℕ)) (steps : ℕ) (by : End) (cause : Cause) → tale.wrong cause ≡ tale_of names steps by → by ≡ end.Wrong cause
came_wrong names steps (end.Ended s) cause e = cc
came_wrong names steps (end.Undefined r u l) cause e = cc
came_wrong names steps (end.Wrong c) cause e = cc
came_wrong names steps end.StepsUsed cause e = cc
came_wrong names steps (end.StoreFull n l) cause e = cc
came_wrong names steps (end.CallRefused n) cause e = cc
came_wrong names steps end.HostFailed cause e = cc

pub came_used : (names : List (List ℕ)) (steps : ℕ) (by : End) (used : ℕ) → tale.steps_used used ≡ tale_of names steps by → by ≡ end.StepsUsed
came_used names steps (end.Ended s) used e = cc
came_used names steps (end.Undefined r u l) used e = cc
came_used names steps (end.Wrong c) used e = cc
came_used names steps end.StepsUsed used e = refl
came_used names steps (end.StoreFull n l) used e = cc
came_used names steps (end.CallRefused n) used e = cc
came_used names steps end.HostFailed used e = cc

pub used_are : (names : List (List ℕ)) (steps used : ℕ) → tale.steps_used used ≡ tale_of names steps end.StepsUsed → used ≡ steps
used_are names steps used e = cc

pub came_full : (names : List (List ℕ)) (steps : ℕ) (by : End) (need left : ℕ) → tale.store_full need left ≡ tale_of names steps by → by ≡ end.StoreFull need left
came_full names steps (end.Ended s) need left e = cc
came_full names steps (end.Undefined r u l) need left e = cc
came_full names steps (end.Wrong c) need left e = cc
came_full names steps end.StepsUsed need left e = cc
came_full names steps (end.StoreFull n l) need left e = cc
came_full names steps (end.CallRefused n) need left e = cc
came_full names steps end.HostFailed need left e = cc

pub came_failed : (names : List (List ℕ)) (steps : ℕ) (by : End) → tale.host_failed ≡ tale_of names steps by → by ≡ end.HostFailed
came_failed names steps (end.Ended s) e = cc
came_failed names steps (end.Undefined r u l) e = cc
came_failed names steps (end.Wrong c) e = cc
came_failed names steps end.StepsUsed e = cc
came_failed names steps (end.StoreFull n l) e = cc
came_failed names steps (end.CallRefused n) e = cc
came_failed names steps end.HostFailed e = refl

pub came_refused : (names : List (List ℕ)) (steps : ℕ) (by : End) (name : List ℕ) → tale.call_refused name ≡ tale_of names steps by → by ≡ end.CallRefused name
came_refused names steps (end.Ended s) name e = cc
came_refused names steps (end.Undefined r u l) name e = cc
came_refused names steps (end.Wrong c) name e = cc
came_refused names steps end.StepsUsed name e = cc
came_refused names steps (end.StoreFull n l) name e = cc
came_refused names steps (end.CallRefused n) name e = cc
came_refused names steps end.HostFailed name e = cc
