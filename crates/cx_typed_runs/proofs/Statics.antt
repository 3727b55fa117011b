-- What is stored in static objects before `main` (ISO C99, 5.1.2, 6.7.8p4).
use Rattle.std.proofs.Common.{◌≡◌, inl, inr, refl, sym, ap, ◌∙◌, subst, ℕ, zero, suc, ◌<◌, Bool, true, false, List, [], ◌∷◌, ◌++◌, length, Option, Some, None, IfSome, IsSome, All, arith}
use Rattle.std.specs.List.{Contains}
use Rattle.cx_core.specs.Linked.{IsLinked, IsStatic, IsTypedObject, home_of}
use Rattle.cx_core.specs.Trees.{CTy, CExpr, type_of, place_of, CPut, put, CPuts, no_puts, more_puts, CObject, CFun, CProgram}
use Rattle.cx_core.specs.Typing.{CHome, object_with, IsTyped, ArePuts, IsConstant, AreConstantPuts}
use Rattle.cx_mean.specs.Moves.{CBehind, of_statics, CPurpose, puts_it, CMove, values, calls_main, reaches, begins, leaves, goes_nowhere, static_puts}
use Rattle.cx_mean.specs.Operands.{Frame}
use Rattle.cx_mean.specs.State.{statics_first, statics_in, control_of}
use Rattle.cx_typed_runs.proofs.Evaluating.{next_begins, begun_slots, no_frame}
use Rattle.cx_typed_runs.proofs.Scenes.{all_of, found_by_number}
use Rattle.cx_typed_runs.specs.States.{CRunning, before_main, IsPuttingOf, IsFirstPurpose, IsFirstMove, AreStatics, IsControl, AreBegun, slots_of_control}

-- ---- objects of the program that are static

-- each is one of the program's, with what is stored in it
pub record IsStaticOf (program : CProgram) (one : CObject) : Type 0 where
  pub among : Contains program.objects one
  pub puts : CPuts
  pub puts_are : one.puts ≡ Some puts

more_among : (first : CObject) (others : List CObject) (one : CObject) → Contains others one → Contains (first ∷ others) one
more_among first others one there = let below : there.0 < length others = there.1 in (suc there.0, omega (arith, below), there.2)

statics_among : (objects : List CObject) (one : CObject) → Contains (statics_in objects) one → Contains objects one × ((puts : CPuts) × (one.puts ≡ Some puts))
statics_among [] one (k, within, e) = absurd (omega (arith, within))
statics_among (first ∷ others) one there = by first.puts refl there (λ rest. statics_among others one rest)
  where
    by : (puts : Option CPuts) → first.puts ≡ puts → Contains (statics_in (first ∷ others)) one → (Contains (statics_in others) one → Contains others one × ((given : CPuts) × (one.puts ≡ Some given)))
        → Contains (first ∷ others) one × ((given : CPuts) × (one.puts ≡ Some given))
    by None is there rest =
        let behind = rest (subst (λ found. Contains (statics_first first found (statics_in others)) one) is there) in
        (more_among first others one behind.0, behind.1)
    by (Some puts) is there rest = inside (subst (λ found. Contains (statics_first first found (statics_in others)) one) is there)
      where
        inside : Contains (first ∷ statics_in others) one → Contains (first ∷ others) one × ((given : CPuts) × (one.puts ≡ Some given))
        inside (zero, within, e) = ((zero, omega arith, e), (puts, subst (λ (o : CObject). o.puts ≡ Some puts) e is))
        inside (suc k, within, e) = let behind = rest (k, omega (arith, within), e) in (more_among first others one behind.0, behind.1)

pub static_of : (program : CProgram) (one : CObject) → Contains (statics_in program.objects) one → IsStaticOf program one
static_of program one there = let both = statics_among program.objects one there in record { among = both.0; puts = both.1.0; puts_are = both.1.1 }

-- what is stored in it is typed and constant
pub static_is : (program : CProgram) (one : CObject) (puts : CPuts) → IsLinked program → Contains program.objects one → one.puts ≡ Some puts → IsStatic (home_of program None one.unit) one.type puts
static_is program one puts linked among is =
    subst (λ found. IfSome found (IsStatic (home_of program None one.unit) one.type)) is (all_of (IsTypedObject program None) program.objects one linked.objects among).static

-- ---- the next value

abbrev puts_in : Option CPuts → CPuts
puts_in None = no_puts
puts_in (Some puts) = puts

abbrev pub first_put : ℕ → CPuts → CBehind → CMove → CMove
first_put number no_puts behind after = after
first_put number (more_puts (put spot type value) others) behind after =
    values value
    (puts_it (place_of value) (record { object = number; spot = spot; type = type; others = others; behind = behind }))

-- what is next, for an object of some unit
pub record IsFirst (program : CProgram) (move : CMove) : Type 0 where
  pub unit : ℕ
  pub is : IsFirstMove program unit move

pub put_first : (program : CProgram) (unit number : ℕ) (one : CObject) (puts : CPuts) (others : List CObject) (after : CMove) → object_with number program.objects ≡ Some one → Contains (statics_in program.objects) one
    → ArePuts (home_of program None unit) one.type puts → AreConstantPuts program puts → AreStatics program others → IsFirst program after → IsFirst program (first_put number puts (of_statics others) after)
put_first program unit number one no_puts others after found there are constant rest behind = behind
put_first program unit number one (more_puts (put spot type value) more) others after found there are constant rest behind = record {
  unit = unit;
  is = record {
    constant = constant.0;
    typed = are.0.0;
    fits = (
      record {
        object = one;
        object_is = found;
        part = are.0.1.part;
        no_array = are.0.1.no_array;
        value_is = are.0.1.value_is;
        others = are.1;
      },
      there,
      constant.1,
      rest,
    );
  };
}

pub rest_statics : (program : CProgram) (first : CObject) (others : List CObject) → AreStatics program (first ∷ others) → AreStatics program others
rest_statics program first others all = λ k d within. all (suc k) d (omega (arith, within))

pub first_static : (program : CProgram) (first : CObject) (others : List CObject) → AreStatics program (first ∷ others) → Contains (statics_in program.objects) first
first_static program first others all = all zero first (omega arith)

pub statics_next : (program : CProgram) (others : List CObject) → IsLinked program → AreStatics program others → IsFirst program (static_puts others)
statics_next program [] linked all = record { unit = 0; is = tt }
statics_next program (one ∷ others) linked all =
    let there = first_static program one others all in
    let of = static_of program one there in
    let is = static_is program one of.puts linked of.among of.puts_are in
    subst (λ found. IsFirst program (first_put one.object (puts_in found) (of_statics others) (static_puts others))) (sym of.puts_are)
    (put_first program one.unit one.object one of.puts others (static_puts others) (found_by_number program.objects one linked.numbers.objects_differ of.among) there is.typed.0 is.constant (rest_statics program one others all) (statics_next program others linked (rest_statics program one others all)))

-- ---- as a state

pub first_control : (program : CProgram) (statics : Frame) (unit : ℕ) (move : CMove) → IsFirstMove program unit move → AreBegun program [] statics → IsControl program statics [] (control_of move)
first_control program statics unit (values node purpose) is begun_is = next_begins program (before_main unit) statics [] node purpose is refl begun_is
first_control program statics unit calls_main is begun_is = (before_main unit, is, refl, begun_is)
first_control program statics unit (reaches reached site) is begun_is = absurd is
first_control program statics unit (begins beginning) is begun_is = absurd is
first_control program statics unit (leaves value site) is begun_is = absurd is
first_control program statics unit (goes_nowhere place) is begun_is = absurd is

pub first_slots : (program : CProgram) (unit : ℕ) (move : CMove) → IsFirstMove program unit move → slots_of_control (control_of move) ≡ []
first_slots program unit (values node purpose) is = begun_slots node purpose ∙ no_frame program unit (type_of node) purpose is.fits
first_slots program unit calls_main is = refl
first_slots program unit (reaches reached site) is = absurd is
first_slots program unit (begins beginning) is = absurd is
first_slots program unit (leaves value site) is = absurd is
first_slots program unit (goes_nowhere place) is = absurd is
