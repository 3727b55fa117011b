-- What an engine does of a piece that is made of others.
use Rattle.std.proofs.Common.{◌≡◌, ◌∙◌, refl, sym, ap, subst, arith, ℕ, zero, suc, ◌+◌, ◌<◌, ◌≤◌, ◌⊎◌, inl, inr, ℤ, Bool, List, [], ◌∷◌, ◌++◌, drop, Option, Some, None, option_map, append_assoc, append-nil}
use Rattle.cr_base.specs.Count.{Rose}
use Rattle.cr_runs.specs.Runs.{Ran, came, halted, bad, out, bind}
use Rattle.cr_world.specs.World.{World, Stop, wrong, full, asks, astray}
use Rattle.ext_calls.specs.declared.call.Call.{Call}
use Rattle.ext_calls.specs.declared.call.Made.{Made}
use Rattle.ext_calls.specs.Host.{HostState}
use Rattle.mem_bytes.specs.Counted.{Limit}
use Rattle.mem_bytes.specs.Memory.{Blocks}
use Rattle.rs_mean.specs.declared.cause.Cause.{Cause}
use Rattle.rs_mean.specs.World.{Run, seq}
use Rattle.rs_machine.specs.Does.{Stopped, ended, went_wrong, no_units, store_full, refused, failed, no_memory, End, gives, stops, IsAsking, LastIsAsked, AreAsked, IsOut, Comes, Wants, Ending, ends_with, breaks_off, runs_out, ran_of, IsAt, Breaks, DoesBy, Does}
use Rattle.rs_machine.specs.States.{Kept, State, state, world_at, AreGiven, AreTaken, Between}

-- ---- what came between

-- two states between which nothing was taken, and no call was answered
pub record Quiet (before after : State) : Type 0 where
  pub trail : after.trail ≡ before.trail
  pub units : after.units ≡ before.units
  pub limit : after.limit ≡ before.limit
  pub made : after.host.made ≡ before.host.made
  pub left : after.host.left ≡ before.host.left
  pub takes : after.host.takes ≡ before.host.takes
  pub later : before.host.faults ≤ after.host.faults

-- two states that differ in what is held alone
pub quiet_state : (kept : Kept) (heap : List ℕ) (blocks new : Blocks) (limit later : Option Limit) (host : HostState) → later ≡ limit →
    Quiet (state kept blocks limit host) (state (record kept { heap = heap }) new later host)
quiet_state kept heap blocks new limit later host same =
    record { trail = refl; units = refl; limit = same; made = refl; left = refl; takes = refl; later = omega arith }

pub quiet_itself : (at : State) → Quiet at at
quiet_itself at = record { trail = refl; units = refl; limit = refl; made = refl; left = refl; takes = refl; later = omega arith }

none_told : (told : Option (List Made)) → told ≡ option_map (λ made. made ++ []) told
none_told None = refl
none_told (Some made) = ap Some (sym (append-nil made))

abbrev quiet_between : (before after : State) → Quiet before after → Between before after
quiet_between before after quiet = record {
  answers = [];
  calls = [];
  taken = 0;
  trail = quiet.trail ∙ sym (append-nil before.trail);
  told = quiet.made ∙ none_told before.host.made;
  given = quiet.left;
  taken_by = tt;
  units = let same : after.units ≡ before.units = quiet.units in omega (arith, same);
  limit = quiet.limit;
  takes = quiet.takes;
  later = quiet.later;
}

both_taken : (one other : List Made) (takes later : Call → Bool) → later ≡ takes → AreTaken takes one → AreTaken later other → AreTaken takes (one ++ other)
both_taken [] other takes later same a b = subst (λ (test : Call → Bool). AreTaken test other) same b
both_taken (call ∷ one) other takes later same a b = (a.0, both_taken one other takes later same a.1 b)

both_told : (one other : List Made) (told : Option (List Made)) →
    option_map (λ made. made ++ other) (option_map (λ made. made ++ one) told) ≡ option_map (λ made. made ++ (one ++ other)) told
both_told one other None = refl
both_told one other (Some made) = ap Some (append_assoc made one other)

both_given : (one other : List Made) (first second third : Option (List ℤ)) → AreGiven one first second → AreGiven other second third → AreGiven (one ++ other) first third
both_given [] other first second third a b = subst (λ left. AreGiven other left third) a b
both_given (call ∷ one) other first second third a b = (a.0, both_given one other (option_map (drop 1) first) second third a.1 b)

module _ (first second third : State) (one : Between first second) (other : Between second third) where
  abbrev both_between : Between first third
  both_between = record {
    answers = one.answers ++ other.answers;
    calls = one.calls ++ other.calls;
    taken = one.taken + other.taken;
    trail = other.trail ∙ ap (λ (trail : List ℤ). trail ++ other.answers) one.trail ∙ append_assoc first.trail one.answers other.answers;
    told = other.told ∙ ap (λ (told : Option (List Made)). option_map (λ made. made ++ other.calls) told) one.told ∙ both_told one.calls other.calls first.host.made;
    taken_by = both_taken one.calls other.calls first.host.takes second.host.takes one.takes one.taken_by other.taken_by;
    given = both_given one.calls other.calls first.host.left second.host.left third.host.left one.given other.given;
    units = omega (arith, one.units, other.units);
    limit = other.limit ∙ one.limit;
    takes = other.takes ∙ one.takes;
    later = omega (arith, one.later, other.later);
  }

rose_more : (one two three : ℕ) → one ≤ two → Rose two three → Rose one three
rose_more one two three later rose = omega (arith, later, rose)

-- ---- one piece behind another

out_bind : {A B : Type 0} (found : Ran (Stop Cause) World A) (next : A → Run B) → IsOut found → IsOut (bind found next)
out_bind (came value world left) next is = absurd is
out_bind (halted status world) next is = absurd is
out_bind (bad why world) next is = absurd is
out_bind (out world) next is = tt

ran_bind : {A B : Type 0} (ending : Ending) (world : World) (next : A → Run B) → bind (ran_of ending world) next ≡ ran_of ending world
ran_bind (ends_with status) world next = refl
ran_bind (breaks_off why) world next = refl
ran_bind runs_out world next = refl

-- what asks for an answer does so whatever is behind it
asking_bind : {A B : Type 0} (call : Call) (made : List Made) (found : Ran (Stop Cause) World A) (next : A → Run B) → IsAsking call made found → IsAsking call made (bind found next)
asking_bind call made (came value world left) next is = absurd is
asking_bind call made (halted status world) next is = absurd is
asking_bind call made (out world) next is = absurd is
asking_bind call made (bad (wrong why) world) next is = absurd is
asking_bind call made (bad (full need left) world) next is = absurd is
asking_bind call made (bad astray world) next is = absurd is
asking_bind call made (bad (asks one) world) next is = is

asked_first : {A B : Type 0} (first : Run A) (next : A → Run B) (one : State) (most more : ℕ) (calls : List Made) → most ≤ more → AreAsked first one most calls → AreAsked (seq first next) one more calls
unfolding seq
asked_first first next one most more calls less (inl none) = inl none
asked_first first next one most more calls less (inr is) = inr (record {
  others = is.others;
  last = is.last;
  are = is.are;
  answers = is.answers;
  units = is.units;
  within = omega (arith, less, is.within);
  asked = λ made. asking_bind is.last.call (made ++ is.others) (first (world_at one made is.answers) is.units) next (is.asked made);
})

-- a number is below another, or so much more
below_or : (n k : ℕ) → (n < k) ⊎ ((more : ℕ) × (n ≡ k + more))
below_or n zero = inr (n, omega arith)
below_or zero (suc k) = inl (omega arith)
below_or (suc n) (suc k) = elim (below_or n k) [
  | inl less ↦ inl (omega (arith, less))
  | inr more ↦ inr (more.0, omega (arith, more.1))
]

module _ (A B : Type 0) (first : Run A) (next : A → Run B) (value : A) (one two : State) (comes : Comes first value one two) where
  -- the calls of the second piece are asked for behind those of the first
  asked_then : (most more : ℕ) (calls : List Made) → comes.between.taken + most ≤ more → AreAsked (next value) two most calls →
      AreAsked (seq first next) one more (comes.between.calls ++ calls)
  unfolding seq
  asked_then most more calls less (inl none) =
      asked_first first next one comes.between.taken more (comes.between.calls ++ calls) (omega (arith, less))
      (subst (λ (all : List Made). AreAsked first one comes.between.taken all) (sym (ap (λ (list : List Made). comes.between.calls ++ list) none ∙ append-nil comes.between.calls)) comes.asked)
  asked_then most more calls less (inr is) = inr (record {
    others = comes.between.calls ++ is.others;
    last = is.last;
    are = ap (λ (list : List Made). comes.between.calls ++ list) is.are ∙ sym (append_assoc comes.between.calls is.others (is.last ∷ []));
    answers = comes.between.answers ++ is.answers;
    units = comes.between.taken + is.units;
    within = omega (arith, less, is.within);
    asked = λ made.
        subst (λ (ran : Ran (Stop Cause) World A). IsAsking is.last.call (made ++ (comes.between.calls ++ is.others)) (bind ran next)) (sym (comes.goes made is.answers is.units))
        (subst (λ (all : List Made). IsAsking is.last.call all (next value (world_at two (made ++ comes.between.calls) is.answers) is.units)) (append_assoc made comes.between.calls is.others)
        (is.asked (made ++ comes.between.calls)));
  })

module _ (A B : Type 0) (first : Run A) (next : A → Run B) (value : A) (one two three : State) (comes : Comes first value one two) (between : Between two three) where
  answers_joined : (ahead : List ℤ) → comes.between.answers ++ between.answers ++ ahead ≡ comes.between.answers ++ (between.answers ++ ahead)
  answers_joined ahead = append_assoc comes.between.answers between.answers ahead

  -- what the second piece does in the end is what both do
  goes_then : (found : World → ℕ → Ran (Stop Cause) World B) (IsFor : List ℤ → ℕ → Type 0) →
      ((made : List Made) (ahead : List ℤ) (left : ℕ) → IsFor ahead left →
      next value (world_at two made (between.answers ++ ahead)) (between.taken + left) ≡ found (world_at three (made ++ between.calls) ahead) left) →
      (made : List Made) (ahead : List ℤ) (left : ℕ) → IsFor ahead left →
      seq first next (world_at one made (comes.between.answers ++ between.answers ++ ahead)) (comes.between.taken + between.taken + left)
      ≡ found (world_at three (made ++ (comes.between.calls ++ between.calls)) ahead) left
  unfolding seq
  goes_then found IsFor goes made ahead left is =
      let units : comes.between.taken + between.taken + left ≡ comes.between.taken + (between.taken + left) = omega arith in
      ap (λ (answers : List ℤ). bind (first (world_at one made answers) (comes.between.taken + between.taken + left)) next) (answers_joined ahead)
      ∙ ap (λ (n : ℕ). bind (first (world_at one made (comes.between.answers ++ (between.answers ++ ahead))) n) next) units
      ∙ ap (λ (ran : Ran (Stop Cause) World A). bind ran next) (comes.goes made (between.answers ++ ahead) (between.taken + left))
      ∙ goes (made ++ comes.between.calls) ahead left is
      ∙ ap (λ (calls : List Made). found (world_at three calls ahead) left) (append_assoc made comes.between.calls between.calls)

  short_then : ((made : List Made) (ahead : List ℤ) (fewer : ℕ) → fewer < between.taken → IsOut (next value (world_at two made (between.answers ++ ahead)) fewer)) →
      (made : List Made) (ahead : List ℤ) (fewer : ℕ) → fewer < comes.between.taken + between.taken →
      IsOut (seq first next (world_at one made (comes.between.answers ++ between.answers ++ ahead)) fewer)
  unfolding seq
  short_then short made ahead fewer less =
      subst (λ (answers : List ℤ). IsOut (bind (first (world_at one made answers) fewer) next)) (sym (answers_joined ahead))
      (elim (below_or fewer comes.between.taken) [
        | inl is ↦ out_bind (first (world_at one made (comes.between.answers ++ (between.answers ++ ahead))) fewer) next (comes.short made (between.answers ++ ahead) fewer is)
        | inr more ↦
            let rest : more.0 < between.taken = omega (arith, less, more.1) in
            let stands : bind (first (world_at one made (comes.between.answers ++ (between.answers ++ ahead))) fewer) next
            ≡ next value (world_at two (made ++ comes.between.calls) (between.answers ++ ahead)) more.0 =
            ap (λ (n : ℕ). bind (first (world_at one made (comes.between.answers ++ (between.answers ++ ahead))) n) next) more.1
            ∙ ap (λ (ran : Ran (Stop Cause) World A). bind ran next) (comes.goes made (between.answers ++ ahead) more.0) in
            subst (λ (ran : Ran (Stop Cause) World B). IsOut ran) (sym stands) (short (made ++ comes.between.calls) ahead more.0 rest)
      ])

comes_then : {A B : Type 0} (first : Run A) (next : A → Run B) (value : A) (found : B) (one two three : State) →
    Comes first value one two → Comes (next value) found two three → Comes (seq first next) found one three
comes_then {A = A} {B = B} first next value found one two three comes then = record {
  between = both_between one two three comes.between then.between;
  goes = λ made ahead left.
      goes_then A B first next value one two three comes then.between (λ world left. came found world left) (λ ahead left. Unit {0}) (λ made ahead left _. then.goes made ahead left) made ahead left tt;
  short = short_then A B first next value one two three comes then.between then.short;
  asked = asked_then A B first next value one two comes then.between.taken (comes.between.taken + then.between.taken) then.between.calls (omega arith) then.asked;
}

breaks_then : {A B : Type 0} (first : Run A) (next : A → Run B) (value : A) (ending : Ending) (one two three : State) →
    Comes first value one two → Breaks (next value) ending two three → Breaks (seq first next) ending one three
breaks_then {A = A} {B = B} first next value ending one two three comes then = record {
  between = both_between one two three comes.between then.between;
  goes = goes_then A B first next value one two three comes then.between (λ world left. ran_of ending world) (IsAt ending) then.goes;
  short = short_then A B first next value one two three comes then.between then.short;
}

breaks_first : {A B : Type 0} (first : Run A) (next : A → Run B) (ending : Ending) (one two : State) → Breaks first ending one two → Breaks (seq first next) ending one two
unfolding seq
breaks_first {A = A} first next ending one two breaks = record {
  between = breaks.between;
  goes = λ made ahead left is.
      ap (λ (ran : Ran (Stop Cause) World A). bind ran next) (breaks.goes made ahead left is) ∙ ran_bind ending (world_at two (made ++ breaks.between.calls) ahead) next;
  short = λ made ahead fewer less. out_bind (first (world_at one made (breaks.between.answers ++ ahead)) fewer) next (breaks.short made ahead fewer less);
}

does_then : {A B : Type 0} (first : Run A) (next : A → Run B) (value : A) (end : End B) (one two three : State) →
    Comes first value one two → DoesBy (next value) end two three → DoesBy (seq first next) end one three
does_then first next value (gives found) one two three comes then = comes_then first next value found one two three comes then
does_then first next value (stops (ended status)) one two three comes then = breaks_then first next value _ one two three comes then
does_then first next value (stops (went_wrong why)) one two three comes then = breaks_then first next value _ one two three comes then
does_then first next value (stops no_units) one two three comes then = record { none = then.none; stops = breaks_then first next value _ one two three comes then.stops }
does_then first next value (stops (store_full need left)) one two three comes then = breaks_then first next value _ one two three comes then
does_then first next value (stops (refused name)) one two three comes then = record {
  call = then.call;
  named = then.named;
  declined = then.declined;
  stops = breaks_then first next value _ one two three comes then.stops;
}
does_then first next value (stops failed) one two three comes then = record {
  call = then.call;
  taken = then.taken;
  rose = let rose = then.rose in let later = comes.between.later in rose_more one.host.faults two.host.faults three.host.faults later rose;
  stops = breaks_then first next value _ one two three comes then.stops;
}
does_then {A = A} {B = B} first next value (stops no_memory) one two three comes then =
    record {
      calls = comes.between.calls ++ then.calls;
      told = then.told ∙ ap (λ (told : Option (List Made)). option_map (λ made. made ++ then.calls) told) comes.between.told ∙ both_told comes.between.calls then.calls one.host.made;
      given = both_given comes.between.calls then.calls one.host.left two.host.left three.host.left comes.between.given then.given;
      taken_by = both_taken comes.between.calls then.calls one.host.takes two.host.takes comes.between.takes comes.between.taken_by then.taken_by;
      takes = then.takes ∙ comes.between.takes;
      asked = asked_then A B first next value one two comes two.units one.units then.calls (omega (arith, comes.between.units)) then.asked;
    }

does_first : {A B : Type 0} (first : Run A) (next : A → Run B) (stop : Stopped) (one two : State) → DoesBy first (stops stop) one two → DoesBy (seq first next) (stops stop) one two
does_first first next (ended status) one two by = breaks_first first next _ one two by
does_first first next (went_wrong why) one two by = breaks_first first next _ one two by
does_first first next no_units one two by = record { none = by.none; stops = breaks_first first next _ one two by.stops }
does_first first next (store_full need left) one two by = breaks_first first next _ one two by
does_first first next (refused name) one two by =
    record { call = by.call; named = by.named; declined = by.declined; stops = breaks_first first next _ one two by.stops }
does_first first next failed one two by = record { call = by.call; taken = by.taken; rose = by.rose; stops = breaks_first first next _ one two by.stops }
does_first first next no_memory one two by =
    record { calls = by.calls; told = by.told; given = by.given; taken_by = by.taken_by; takes = by.takes; asked = asked_first first next one one.units one.units by.calls (omega arith) by.asked }

-- the second piece where the first came to its end
pub then_does : {A B : Type 0} {first : Run A} (next : A → Run B) {value : A} {end : End B} {one two three : State} →
    Does first (gives value) one two → Does (next value) end two three → Does (seq first next) end one three
then_does {first = first} next {value = value} {end = end} {one = one} {two = two} {three = three} comes then =
    record { by = does_then first next value end one two three comes.by then.by }

-- a piece in which the run stopped, and whatever is behind it
pub stops_first : {A B : Type 0} {first : Run A} (next : A → Run B) {stop : Stopped} {one two : State} →
    Does first (stops stop) one two → Does (seq first next) (stops stop) one two
stops_first {first = first} next {stop = stop} {one = one} {two = two} does = record { by = does_first first next stop one two does.by }

-- ---- pieces that are one

pub same_does : {B : Type 0} (one other : Run B) {end : End B} {first second : State} →
    ((world : World) (units : ℕ) → one world units ≡ other world units) → Does one end first second → Does other end first second
same_does one other {end = end} {first = first} {second = second} same does =
    subst (λ (run : Run _). Does run end first second) (λ i world units. same world units i) does

-- ---- pieces that take nothing

module _ {B : Type 0} (piece : Run B) (before after : State) (quiet : Quiet before after) where
  none_taken : (n : ℕ) → 0 + n ≡ n
  none_taken n = omega arith

  pub comes_quiet : (value : B) →
      ((made : List Made) (ahead : List ℤ) (left : ℕ) → piece (world_at before made ahead) left ≡ came value (world_at after made ahead) left) → Comes piece value before after
  comes_quiet value goes = record {
    between = quiet_between before after quiet;
    goes = λ made ahead left.
        ap (λ (n : ℕ). piece (world_at before made ahead) n) (none_taken left) ∙ goes made ahead left
        ∙ ap (λ (calls : List Made). came value (world_at after calls ahead) left) (sym (append-nil made));
    short = λ made ahead fewer less. absurd (omega (arith, less));
    asked = inl refl;
  }

  pub breaks_quiet : (ending : Ending) →
      ((made : List Made) (ahead : List ℤ) (left : ℕ) → IsAt ending ahead left → piece (world_at before made ahead) left ≡ ran_of ending (world_at after made ahead)) →
      Breaks piece ending before after
  breaks_quiet ending goes = record {
    between = quiet_between before after quiet;
    goes = λ made ahead left is.
        ap (λ (n : ℕ). piece (world_at before made ahead) n) (none_taken left) ∙ goes made ahead left is
        ∙ ap (λ (calls : List Made). ran_of ending (world_at after calls ahead)) (sym (append-nil made));
    short = λ made ahead fewer less. absurd (omega (arith, less));
  }
