-- What came between two states, and between two others behind them.
use Rattle.std.proofs.Common.{◌≡◌, ◌∙◌, refl, sym, ap, subst, arith, ◌≤◌, ℤ, Bool, List, [], ◌∷◌, ◌++◌, drop, Option, Some, None, option_map, append_assoc, append-nil}
use Rattle.cx_outside.specs.States.{Around, AreGiven, AreTaken, Between, Quiet}
use Rattle.ext_calls.specs.declared.call.Call.{Call}
use Rattle.ext_calls.specs.declared.call.Made.{Made}

pub both_taken : (one other : List Made) (takes later : Call → Bool) → later ≡ takes → AreTaken takes one → AreTaken later other → AreTaken takes (one ++ other)
both_taken [] other takes later same a b = subst (λ (test : Call → Bool). AreTaken test other) same b
both_taken (call ∷ one) other takes later same a b = (a.0, both_taken one other takes later same a.1 b)

pub both_told : (one other : List Made) (told : Option (List Made)) →
    option_map (λ made. made ++ other) (option_map (λ made. made ++ one) told) ≡ option_map (λ made. made ++ (one ++ other)) told
both_told one other None = refl
both_told one other (Some made) = ap Some (append_assoc made one other)

pub both_given : (one other : List Made) (first second third : Option (List ℤ)) → AreGiven one first second → AreGiven other second third → AreGiven (one ++ other) first third
both_given [] other first second third a b = subst (λ left. AreGiven other left third) a b
both_given (call ∷ one) other first second third a b = (a.0, both_given one other (option_map (drop 1) first) second third a.1 b)

pub none_told : (told : Option (List Made)) → told ≡ option_map (λ made. made ++ []) told
none_told None = refl
none_told (Some made) = ap Some (sym (append-nil made))

module _ (first second third : Around) (one : Between first second) (other : Between second third) where
  pub trail_of_both : third.trail ≡ first.trail ++ (one.answers ++ other.answers)
  trail_of_both = other.trail ∙ ap (λ (trail : List ℤ). trail ++ other.answers) one.trail ∙ append_assoc first.trail one.answers other.answers

  pub told_of_both : third.host.made ≡ option_map (λ made. made ++ (one.calls ++ other.calls)) first.host.made
  told_of_both = other.told ∙ ap (λ (told : Option (List Made)). option_map (λ made. made ++ other.calls) told) one.told ∙ both_told one.calls other.calls first.host.made

  pub taken_of_both : AreTaken first.host.takes (one.calls ++ other.calls)
  taken_of_both = both_taken one.calls other.calls first.host.takes second.host.takes one.takes one.taken_by other.taken_by

  pub given_of_both : AreGiven (one.calls ++ other.calls) first.host.left third.host.left
  given_of_both = both_given one.calls other.calls first.host.left second.host.left third.host.left one.given other.given

  pub later_of_both : first.host.faults ≤ third.host.faults
  later_of_both = omega (arith, one.later, other.later)

  abbrev pub both_between : Between first third
  both_between = record {
    answers = one.answers ++ other.answers;
    calls = one.calls ++ other.calls;
    trail = trail_of_both;
    told = told_of_both;
    taken_by = taken_of_both;
    given = given_of_both;
    limit = other.limit ∙ one.limit;
    takes = other.takes ∙ one.takes;
    later = later_of_both;
  }

-- nothing came between
abbrev pub none_between : (at : Around) → Between at at
none_between at = record {
  answers = [];
  calls = [];
  trail = sym (append-nil at.trail);
  told = none_told at.host.made;
  given = refl;
  taken_by = tt;
  limit = refl;
  takes = refl;
  later = omega arith;
}

-- nothing came behind it
abbrev pub quiet_between : (first second third : Around) → Between first second → Quiet second third → Between first third
quiet_between first second third one quiet = record {
  answers = one.answers;
  calls = one.calls;
  trail = quiet.trail ∙ one.trail;
  told = quiet.made ∙ one.told;
  given = subst (λ (left : Option (List ℤ)). AreGiven one.calls first.host.left left) (sym quiet.left) one.given;
  taken_by = one.taken_by;
  limit = quiet.limit ∙ one.limit;
  takes = quiet.takes ∙ one.takes;
  later = omega (arith, one.later, quiet.later);
}
